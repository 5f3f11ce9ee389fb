-- The key that begins at a byte, by whether what begins there is text.
use Rattle.std.proofs.Common.{◌≡◌, ℕ, List, Bool, true, false, Option, None, drop, if◌then◌else◌, refl}
use Rattle.std.specs.Option.{option_map}
use Rattle.std.specs.Str.{IsUtf8, is_utf8}
use Rattle.std.proofs.lemmas.Str.{IsUtf8-from_is_utf8, is_utf8-from_IsUtf8}
use Rattle.json.specs.Lex.{tokens}
use Rattle.json.specs.Print.{quoted}
use Rattle.policy_notes.specs.Places.{first_key, key_at}

pub key_of_text : (text : List ℕ) (at : ℕ) → IsUtf8 (drop at text) → option_map quoted (first_key (tokens (drop at text))) ≡ key_at text at
key_of_text text at utf8 = rw (is_utf8-from_IsUtf8 (drop at text) utf8) refl

pub no_key : (text : List ℕ) (at : ℕ) → (IsUtf8 (drop at text) → ⊥) → ◌≡◌ {A = Option (List ℕ)} None (key_at text at)
no_key text at other = by (is_utf8 (drop at text)) refl
  where
    by : (utf8 : Bool) → is_utf8 (drop at text) ≡ utf8 → ◌≡◌ {A = Option (List ℕ)} None (if utf8 then option_map quoted (first_key (tokens (drop at text))) else None)
    by true e = absurd (other (IsUtf8-from_is_utf8 (drop at text) e))
    by false e = refl
