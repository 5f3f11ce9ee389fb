-- What a policy's fault names, by whether the account is text.
use Rattle.std.proofs.Common.{◌≡◌, ℕ, List, Bool, true, false, Option, None, if◌then◌else◌, refl}
use Rattle.std.specs.Str.{IsUtf8, is_utf8}
use Rattle.std.proofs.lemmas.Str.{IsUtf8-from_is_utf8, is_utf8-from_IsUtf8}
use Rattle.policy_doc.specs.declared.fault.PolicyFault.{PolicyFault}
use Rattle.policy_doc.specs.Faults.{fault_place}
use Rattle.policy_text.specs.declared.reload.fault.ReloadFault.TheVariants.{Policy}
use Rattle.policy_notes.specs.Places.{named_by, named_row}
use Rattle.policy_notes.specs.declared.place.Named.{Named}

pub named_in : (fault : PolicyFault) (account : List ℕ) → IsUtf8 account → named_row fault account (fault_place fault) ≡ named_by (Policy fault account)
named_in fault account utf8 = rw (is_utf8-from_IsUtf8 account utf8) refl

pub not_named : (fault : PolicyFault) (account : List ℕ) → (IsUtf8 account → ⊥) → ◌≡◌ {A = Option Named} None (named_by (Policy fault account))
not_named fault account other = by (is_utf8 account) refl
  where
    by : (utf8 : Bool) → is_utf8 account ≡ utf8 → ◌≡◌ {A = Option Named} None (if utf8 then named_row fault account (fault_place fault) else None)
    by true e = absurd (other (IsUtf8-from_is_utf8 account e))
    by false e = refl
