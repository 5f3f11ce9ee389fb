use Rattle.std.proofs.Common.{refl, subst, sym}
use Rattle.std.proofs.lemmas.Cmp.{nat_list_eq_equiv}
use Rattle.std.proofs.lemmas.Map.Made.{IsDistinct-from_count}
use Rattle.policy_doc.specs.Document.{builtin_doc, IsValidPolicy}
use Rattle.policy_doc.proofs.Causes.{builtin-imports}
use Rattle.policy_doc.proofs.policy.Policy.builtin.Goals as goal

-- the two names of the built-in users differ, and there is no import
pub invariant_of-result : goal.invariant_of-result
invariant_of-result c =
    let valid : IsValidPolicy builtin_doc = record { names = IsDistinct-from_count nat_list_eq_equiv _ refl; imports = builtin-imports } in
    subst IsValidPolicy (sym c.in_ok-doc.ensures) valid
