-- A text that was read, and one that was refused, as a JSON value.
use Rattle.std.proofs.Common.{◌≡◌, ℕ, Bool, true, false, List, Some, None, if◌then◌else◌, refl}
use Rattle.std.specs.Str.{IsUtf8, is_utf8}
use Rattle.std.proofs.lemmas.Str.{IsUtf8-from_is_utf8, is_utf8-from_IsUtf8}
use Rattle.serde_json.specs.Data.{Data}
use Rattle.serde_json.specs.Read.{read}
use Rattle.json_text.specs.Json.{json_of}

pub value_is : (text : List ℕ) (d : Data) → IsUtf8 text → read text ≡ Some d → json_of text ≡ Some d
value_is text d utf8 was_read = rw (is_utf8-from_IsUtf8 text utf8) was_read

pub value_is_none : (text : List ℕ) → (IsUtf8 text → read text ≡ None) → json_of text ≡ None
value_is_none text refused = cases (is_utf8 text) refl
  where
    cases : (utf8 : Bool) → is_utf8 text ≡ utf8 → (if utf8 then read text else None) ≡ None
    cases true e = refused (IsUtf8-from_is_utf8 text e)
    cases false e = refl
