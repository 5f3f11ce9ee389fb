use Rattle.std.proofs.Common.{◌≡◌, ◌∙◌, ◌<◌, ◌++◌, ◌∷◌, [], ap, sym, refl, subst, ℕ, List, false}
use Rattle.std.specs.Prelude.{All}
use Rattle.std.specs.Map.{values_of}
use Rattle.std.proofs.lemmas.List.{map-append}
use Rattle.world_subscriptions.specs.Subscriptions.{stands}
use Rattle.world_rows.specs.declared.subscription.Subscription.{Subscription}
use Rattle.world_subscriptions.specs.Index.{IsWithout, AreIndexesOf}
use Rattle.world_subscriptions.specs.Kept.{IsKept, Apart}
use Rattle.world_subscriptions.proofs.Apart.{apart_added}
use Rattle.world_subscriptions.proofs.Entries.{Entries, keys_below, kept-added}
use Rattle.world_subscriptions.proofs.Indexed.{indexes_added, indexes_undone}
use Rattle.world_subscriptions.proofs.change.enter.Goals as goal

pub insert-requires-in-Ok : goal.insert-requires-in-Ok
insert-requires-in-Ok c =
    let es = c.args.by_id.now in
    let s = c.args.subscription in
    record { above = subst (λ (n : ℕ). All (λ (e : ℕ × Subscription). e.0 < n) es) (sym c.id.ensures) (keys_below s.id es c.requires.table.0 c.requires.above) }

pub returns-in-Ok-insert-clause-table : goal.returns-in-Ok-insert-clause-table
returns-in-Ok-insert-clause-table c =
    let es = c.args.by_id.now in
    let s = c.args.subscription in
    let now = c.in-Ok-insert.ensures.ok ∙ ap (λ (n : ℕ). es ++ (n, s) ∷ []) c.id.ensures in
    let all = ap (λ (xs : Entries). values_of xs) now ∙ map-append _ es ((s.id, s) ∷ []) in (
      subst IsKept (sym now) (kept-added s.id es s c.requires.table.0 c.requires.above refl c.requires.going),
      subst Apart (sym all) (apart_added (values_of es) s c.requires.table.1 c.requires.above c.requires.free),
      subst (λ (xs : List Subscription). AreIndexesOf xs c.insert.new.trees) (sym all) (indexes_added (values_of es) s c.args.trees.now c.insert.new.trees c.in-Ok.ensures.ok c.requires.table.2),
    )

pub returns-in-Ok-insert-clause-ok : goal.returns-in-Ok-insert-clause-ok
returns-in-Ok-insert-clause-ok c =
    let es = c.args.by_id.now in
    let s = c.args.subscription in
    ap (λ (xs : Entries). values_of xs) (c.in-Ok-insert.ensures.ok ∙ ap (λ (n : ℕ). es ++ (n, s) ∷ []) c.id.ensures)
    ∙ map-append _ es ((s.id, s) ∷ [])

-- the rows have refused it, so it is taken out of the trees again
pub returns-in-Err-insert-clause-table : goal.returns-in-Err-insert-clause-table
returns-in-Err-insert-clause-table c =
    let es = c.args.by_id.now in
    let s = c.args.subscription in
    let same = c.in-Err-insert.ensures.err in
    let back : c.in-Err-insert.back ≡ s = c.in-Err-insert.ensures.back in
    let less : IsWithout c.insert.new.trees s c.remove.new.trees = rw back at c.remove.ensures in (
      subst IsKept (sym same) c.requires.table.0,
      subst (λ (xs : Entries). Apart (values_of xs)) (sym same) c.requires.table.1,
      subst (λ (xs : Entries). AreIndexesOf (values_of xs) c.remove.new.trees) (sym same) (indexes_undone (values_of es) s c.args.trees.now c.insert.new.trees c.remove.new.trees c.requires.above c.in-Ok.ensures.ok less c.requires.table.2),
    )
