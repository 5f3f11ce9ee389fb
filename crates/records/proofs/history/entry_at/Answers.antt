-- the record at the place is the entry there
use Rattle.std.proofs.Common.{sym, refl}
use Rattle.std.proofs.lemmas.Option.{slice_get_read}
use Rattle.std.proofs.lemmas.Bool.{ltb-true}
use Rattle.records.proofs.Entries.{found, lacks}
use Rattle.records.proofs.history.entry_at.Goals as goal

pub returns-in-None : goal.returns-in-None
returns-in-None c = sym (lacks c.args.records.now c.args.place c.in-None.ensures.lookup.3)

pub returns-in-Some : goal.returns-in-Some
returns-in-Some c =
    let there = slice_get_read c.args.records.now _ c.args.place c.in-Some.kept.now refl (ltb-true _ _ (sym c.in-Some.ensures.lookup.0)) c.in-Some.ensures.lookup.1 in
    sym (found c.args.records.now c.args.place c.in-Some.kept.now c.only_entry.result.now there c.only_entry.ensures)
