-- the parts so far are those of the sets so far
use Rattle.std.proofs.Common.{◌≡◌, ◌++◌, map}
use Rattle.std.specs.Prelude.{All}
use Rattle.std.specs.Vec.Iter.{into_iter_items}
use Rattle.serde_json.specs.View.{view}
use Rattle.policy_sets.specs.parts.Parts.{IsPart}
use Rattle.policy_sets.specs.declared.parts.parts.PolicyPart.{PolicyPart}
use Rattle.policy_sets.proofs.parts.parts.each_part.Given as goal

abbrev pub invariant-loop-accounts : goal.invariant-loop-accounts
invariant-loop-accounts l =
    (map (λ (p : PolicyPart). p.accounts) l.parts.items ++ into_iter_items l.accounts-iterator ≡ l.fn.sets.items) × All (IsPart (view l.value)) l.parts.items
