use Rattle.std.proofs.Common.{◌≤◌, arith, sym, subst}
use Rattle.serde_json.specs.Data.{depth}
use Rattle.serde_json.specs.Read.{max_depth}
use Rattle.serde_json.specs.View.{view}
use Rattle.policy_sets.specs.Sets.{is_in}
use Rattle.policy_sets.proofs.parts.Members.{part_depth}
use Rattle.policy_sets.proofs.parts.cutting.part_text.Goals as goal

pub text_of-requires : goal.text_of-requires
text_of-requires c = subst (λ d. depth d ≤ max_depth) (sym c.in_ok-part.ensures) (omega (arith, part_depth (is_in c.args.names.now) (view c.args.value.now), c.requires))
