-- the receipt at the index is out of place, or goes with those before it
use Rattle.std.proofs.Common.{ℕ, List, sym, subst, take}
use Rattle.std.proofs.lemmas.List.{take_all}
use Rattle.std.proofs.lemmas.Bool.Decides.{not_from_Decides}
use Rattle.shared_waits.specs.receipts.Receipts.{Receipt}
use Rattle.shared_hub.specs.Audits.{Stands, HasNone, AreGenuine, IsMismatch}
use Rattle.shared_hub.proofs.Genuine.{genuine-more, mismatch-at}
use Rattle.shared_hub.proofs.audit.first_mismatch.Goals as goal

pub returns-then-not-is_in_place : goal.returns-then-not-is_in_place
returns-then-not-is_in_place c history joined =
    let before = take c.loop-index.index c.args.receipts.now in
    let P : Receipt → Type 0 = λ x. IsMismatch history c.args.receipts.now x.entry.number in
    let Q : ℕ → Type 0 = λ n. IsMismatch history c.args.receipts.now n in
    let Wrong : Receipt → Type 0 = λ x. ¬ (Stands history x × HasNone before x.entry.number) in
    let wrong = not_from_Decides c.is_in_place.result (c.is_in_place.ensures history joined) c.if-not-is_in_place.true in
    subst Q (sym c.number.ensures) (subst P (sym c.index-receipts-index.is)
    (mismatch-at history c.args.receipts.now c.loop-index.index c.index-receipts-index.result c.loop-index-test.true (c.loop-index.invariant history joined) (subst Wrong c.index-receipts-index.is wrong)))

pub loop-index-preserved : goal.loop-index-preserved
loop-index-preserved c history joined =
    let fits = (c.is_in_place.ensures history joined).0 c.if-not-is_in_place.false in
    let P : Receipt → Type 0 = λ x. HasNone (take c.loop-index.index c.args.receipts.now) x.entry.number in
    genuine-more history c.args.receipts.now c.loop-index.index c.index-receipts-index.result c.loop-index-test.true (c.loop-index.invariant history joined)
    (subst (Stands history) c.index-receipts-index.is fits.0) (subst P c.index-receipts-index.is fits.1)

pub returns : goal.returns
returns c history joined =
    let P : List Receipt → Type 0 = λ l. AreGenuine history l in
    subst P (take_all c.loop-index.index c.args.receipts.now c.loop-index-test.false) (c.loop-index.invariant history joined)
