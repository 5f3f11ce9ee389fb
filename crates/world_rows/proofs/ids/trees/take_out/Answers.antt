use Rattle.std.proofs.Common.{◌≡◌, false, inl, inr}
use Rattle.std.proofs.lemmas.Bool.{cases_Bool, false≢true}
use Rattle.sublist.specs.Pairs.{stands}
use Rattle.world_rows.proofs.ids.Holding.{without_absent}
use Rattle.world_rows.proofs.ids.trees.take_out.Goals as goal

pub returns-in-Err : goal.returns-in-Err
returns-in-Err c =
    let absent : stands c.args.tree.now c.args.pattern.now c.args.id ≡ false = elim (cases_Bool (stands c.args.tree.now c.args.pattern.now c.args.id)) [ inl y ↦ absurd (false≢true (c.in-Err.ensures.stood.1 y)) | inr n ↦ n ] in
    without_absent c.args.tree.now c.remove.new.self c.args.pattern.now c.args.id absent c.in-Err.ensures.same
