use Rattle.std.proofs.Common.{◌∙◌, ap, sym, subst, List, ℕ}
use Rattle.std.specs.Map.{lookup}
use Rattle.world_rows.specs.Changes.{is_id}
use Rattle.world_rows.specs.Rows.{IsPlaceOf}
use Rattle.world_rows.specs.declared.rows.Row.{Row}
use Rattle.world_rows.specs.declared.subscription.Subscription.{Subscription}
use Rattle.world_rows.proofs.Places.{lookup_at}
use Rattle.world_rows.proofs.rows.Rows.get.Goals as goal

pub returns-in-Some : goal.returns-in-Some
returns-in-Some c =
    let rows = c.self.inside.rows.items in
    let i = c.in-Some.place in
    let place : IsPlaceOf c.args.id rows i = subst (λ (rs : List Row). IsPlaceOf c.args.id rs i) c.as_slice.ensures.value c.in-Some.ensures in
    c.get.ensures
    ∙ ap (λ (r : Row). r.subscription) c.index.ensures
    ∙ sym (lookup_at c.args.id rows i c.index.result.now c.self.invariant.0 place)
    ∙ ap (λ (es : List (ℕ × Subscription)). lookup (is_id c.args.id) es) c.self.view_is
