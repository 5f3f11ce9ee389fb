-- A name as a text, by whether it is one.
use Rattle.std.proofs.Common.{◌≡◌, ℕ, Bool, true, false, List, Option, Some, None, if◌then◌else◌, refl}
use Rattle.std.specs.Str.{IsUtf8, is_utf8}
use Rattle.std.proofs.lemmas.Str.{IsUtf8-from_is_utf8, is_utf8-from_IsUtf8}
use Rattle.policy_notes.specs.paths.Users.{text_if}

pub is_text : (name : List ℕ) → IsUtf8 name → Some name ≡ text_if name
is_text name utf8 = rw (is_utf8-from_IsUtf8 name utf8) refl

pub is_none : (name : List ℕ) → (IsUtf8 name → ⊥) → ◌≡◌ {A = Option (List ℕ)} None (text_if name)
is_none name other = by (is_utf8 name) refl
  where
    by : (utf8 : Bool) → is_utf8 name ≡ utf8 → ◌≡◌ {A = Option (List ℕ)} None (if utf8 then Some name else None)
    by true e = absurd (other (IsUtf8-from_is_utf8 name e))
    by false e = refl
