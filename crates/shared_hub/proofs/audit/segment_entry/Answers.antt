-- the look is one among the part's entries
use Rattle.std.proofs.Common.{◌∙◌, ℕ, List, ap}
use Rattle.std.specs.Option.{option_copied}
use Rattle.events.specs.declared.answer.Entry.{Entry}
use Rattle.world.specs.World.{World}
use Rattle.shared_hub.specs.Audits.{entry_after}
use Rattle.shared_hub.proofs.Entered.{look_up}
use Rattle.shared_hub.proofs.audit.segment_entry.Goals as goal

pub returns : goal.returns
returns c =
    let p = c.args.segment.now in
    look_up p.opening p.entries p.closing c.args.number (option_copied c.entry_after.result) c.prove_invariant.ensures.legal
    (c.entry_after.ensures
    ∙ ap (λ (b : ℕ). entry_after b c.entries.result.now.entries c.args.number) (c.number.ensures ∙ ap (λ (w : World). w.number) c.opening.ensures)
    ∙ ap (λ (l : List Entry). entry_after p.opening.number l c.args.number) c.entries.ensures)
