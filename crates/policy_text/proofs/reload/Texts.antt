-- What is printed of a fault, by whether the account is text.
use Rattle.std.proofs.Common.{◌≡◌, ℕ, List, Bool, true, false, if◌then◌else◌, refl}
use Rattle.std.specs.Str.{IsUtf8, is_utf8}
use Rattle.std.proofs.lemmas.Str.{IsUtf8-from_is_utf8, is_utf8-from_IsUtf8}
use Rattle.policy_doc.specs.declared.fault.PolicyFault.{PolicyFault}
use Rattle.policy_doc.specs.Faults as document
use Rattle.policy_text.specs.reload.Fault.{policy_line, fault_text}
use Rattle.policy_text.specs.declared.reload.fault.ReloadFault.TheVariants.{Policy}

pub told : (fault : PolicyFault) (account : List ℕ) → IsUtf8 account → policy_line fault account ≡ fault_text (Policy fault account)
told fault account utf8 = rw (is_utf8-from_IsUtf8 account utf8) refl

pub untold : (fault : PolicyFault) (account : List ℕ) → (IsUtf8 account → ⊥) → document.fault_text fault ≡ fault_text (Policy fault account)
untold fault account other = by (is_utf8 account) refl
  where
    by : (utf8 : Bool) → is_utf8 account ≡ utf8 → document.fault_text fault ≡ (if utf8 then policy_line fault account else document.fault_text fault)
    by true e = absurd (other (IsUtf8-from_is_utf8 account e))
    by false e = refl
