-- those so far, and those that are left
use Rattle.std.proofs.Common.{◌≡◌, ◌||◌, ℕ, drop}
use Rattle.std.specs.Prelude.{nat_eq}
use Rattle.std.specs.List.{list_any}
use Rattle.world_subscriptions.specs.groups.Chosen.{is_choice}
use Rattle.world_subscriptions.proofs.groups.groups.ids_of.Given as goal

abbrev pub invariant-loop-choice : goal.invariant-loop-choice
invariant-loop-choice l = (id : ℕ) → (list_any (nat_eq id) l.ids.keys || is_choice (drop l.choice-index l.choices) id) ≡ is_choice l.choices id
