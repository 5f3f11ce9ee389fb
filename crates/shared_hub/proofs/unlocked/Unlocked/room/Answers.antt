-- all seats are there, so what is wrong is wrong beside them
use Rattle.std.proofs.Common.{◌∙◌, List, sym, subst}
use Rattle.hub.specs.History.{State}
use Rattle.hub.specs.Segments.{HistoryPart}
use Rattle.shared_waits.specs.receipts.Receipts.{Receipt}
use Rattle.shared_hub.specs.Audits.{IsFault}
use Rattle.shared_hub.proofs.Entered.{due_beside}
use Rattle.shared_hub.proofs.unlocked.Unlocked.room.Goals as goal

pub returns-in-Err-clause-due : goal.returns-in-Err-clause-due
returns-in-Err-clause-due g c =
    let P : List HistoryPart → Type 0 = λ ps. IsFault ps c.hub.result.now c.as_slice-2.result.now c.in-Err.fault in
    let Q : State → Type 0 = λ s. IsFault c.args.segments.now.items s c.as_slice-2.result.now c.in-Err.fault in
    let R : List Receipt → Type 0 = λ rs. IsFault c.args.segments.now.items c.args.self.now.desk.hub rs c.in-Err.fault in
    due_beside c.args.segments.now.items c.args.self.now.desk.hub _ _ c.args.receipts.now.items c.in-Err.fault
    (sym c.len.ensures ∙ c.if-len-self.false ∙ c.args.self.now.rest.all)
    (subst R c.as_slice-2.ensures.value (subst Q c.hub.ensures (subst P c.as_slice.ensures.value c.in-Err.ensures)))
