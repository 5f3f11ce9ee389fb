use Rattle.std.proofs.Common.{◌≡◌, ◌∙◌, ap, sym, subst, List, ℕ, None}
use Rattle.std.specs.Map.{lookup}
use Rattle.world_rows.specs.Changes.{is_id}
use Rattle.world_rows.specs.Rows.{entries_in}
use Rattle.world_rows.specs.declared.subscription.Subscription.{Subscription}
use Rattle.world_rows.proofs.Places.{remove_none}
use Rattle.world_rows.proofs.rows.Rows.remove.Goals as goal

pub returns-in-None-clause-entries : goal.returns-in-None-clause-entries
returns-in-None-clause-entries c =
    let none = subst (λ (es : List (ℕ × Subscription)). lookup (is_id c.args.id) es ≡ None) (ap entries_in c.as_slice.ensures.value ∙ c.self.view_is) c.in-None.ensures in
    sym (remove_none c.args.id c.args.self.now none)
