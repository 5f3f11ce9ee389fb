-- one more row, behind all others
use Rattle.std.proofs.Common.{◌≡◌, ◌∙◌, ◌++◌, ◌∷◌, [], ap, sym, subst, List, ℕ, Some}
use Rattle.world_rows.specs.Rows.{id_of, held, entries_in, AreRising, AreEmpty}
use Rattle.world_rows.specs.declared.rows.Row.{Row}
use Rattle.world_rows.specs.declared.subscription.Subscription.{Subscription}
use Rattle.stores.proofs.numbered_slots.Places.{rising_added, entries-append}
use Rattle.world_rows.proofs.Places.{empty_added}
use Rattle.world_rows.proofs.rows.Rows.insert.Goals as goal

pub invariant_of-self-in-Ok : goal.invariant_of-self-in-Ok
invariant_of-self-in-Ok c =
    let rows = c.make_way.new.rows.items in
    let new : Row = record { id = c.args.id; subscription = Some c.args.subscription } in
    let now : c.push_reserved.new.self.items ≡ rows ++ new ∷ [] = c.push_reserved.ensures.items ∙ ap (λ (rs : List Row). rs ++ new ∷ []) c.reserve.ensures.items in (
      subst AreRising (sym now) (rising_added id_of rows new c.make_way.ensures.rising c.make_way.ensures.below),
      subst (λ (rs : List Row). AreEmpty rs c.make_way.new.empty) (sym now) (empty_added rows c.args.id c.args.subscription c.make_way.new.empty c.make_way.ensures.empty),
    )

pub returns-in-Ok-clause-ok : goal.returns-in-Ok-clause-ok
returns-in-Ok-clause-ok c =
    let rows = c.make_way.new.rows.items in
    let new : Row = record { id = c.args.id; subscription = Some c.args.subscription } in
    let now : c.push_reserved.new.self.items ≡ rows ++ new ∷ [] = c.push_reserved.ensures.items ∙ ap (λ (rs : List Row). rs ++ new ∷ []) c.reserve.ensures.items in
    ap entries_in now
    ∙ entries-append id_of held rows (new ∷ [])
    ∙ ap (λ (es : List (ℕ × Subscription)). es ++ (c.args.id, c.args.subscription) ∷ []) (c.make_way.ensures.same ∙ c.self.view_is)
