-- A key is printed character by character.
use Rattle.std.proofs.Common.{◌≡◌, ℕ, suc, ◌<◌, List, [], ◌∷◌, ◌++◌, length, get_or, Bool, true, false, ◌==◌, if◌then◌else◌, codes, encode_utf8, refl, sym, ap, ◌∙◌, append_assoc, arith}
use Rattle.std.proofs.lemmas.Bool.Decides.{Decides-eqb}
use Rattle.std.proofs.lemmas.Grind.{flat_map-append}
use Rattle.std.proofs.lemmas.List.{append-nil}
use Rattle.std.proofs.lemmas.Str.{inside_one, encodes-append}
use Rattle.std.specs.Str.{encode_utf8_all}
use Rattle.policy_walk.specs.Path.{printed_byte, printed_key}

plain_byte : (b : ℕ) → (b ≡ 126 → ⊥) → (b ≡ 47 → ⊥) → printed_byte b ≡ b ∷ []
plain_byte b tilde slash = by (b == 126) refl (b == 47) refl
  where
    by : (t : Bool) → (b == 126) ≡ t → (s : Bool) → (b == 47) ≡ s → (if t then codes "~0" else (if s then codes "~1" else b ∷ [])) ≡ b ∷ []
    by true e s f = absurd (tilde ((Decides-eqb b 126).0 e))
    by false e true f = absurd (slash ((Decides-eqb b 47).0 f))
    by false e false f = refl

plain : (bs : List ℕ) → ((k : ℕ) → k < length bs → (get_or bs k 0 ≡ 126 → ⊥) × (get_or bs k 0 ≡ 47 → ⊥)) → printed_key bs ≡ bs
plain [] none = refl
plain (b ∷ bs) none =
    let first = none 0 (omega arith) in
    rw (plain_byte b first.0 first.1) (ap (λ rest. b ∷ rest) (plain bs (λ k lt. none (suc k) (omega arith))))

-- no byte of another character is `~` or `/`
pub plain_char : (c : ℕ) → (c ≡ 126 → ⊥) → (c ≡ 47 → ⊥) → printed_key (encode_utf8 c) ≡ encode_utf8 c
plain_char c tilde slash = plain (encode_utf8 c) none
  where
    none : (k : ℕ) → k < length (encode_utf8 c) → (get_or (encode_utf8 c) k 0 ≡ 126 → ⊥) × (get_or (encode_utf8 c) k 0 ≡ 47 → ⊥)
    none k lt = (λ e. tilde (inside_one c [] (encode_utf8 c) k (sym (append-nil (encode_utf8 c))) lt (omega (arith, e)) ∙ e), λ e. slash (inside_one c [] (encode_utf8 c) k (sym (append-nil (encode_utf8 c))) lt (omega (arith, e)) ∙ e))

-- one character more
pub one_more : (out cs : List ℕ) (c : ℕ) → (out ++ printed_key (encode_utf8_all cs)) ++ printed_key (encode_utf8 c) ≡ out ++ printed_key (encode_utf8_all (cs ++ c ∷ []))
one_more out cs c = append_assoc out _ _ ∙ ap (λ bs. out ++ bs)
    (sym (flat_map-append printed_byte (encode_utf8_all cs) (encode_utf8 c)) ∙ ap printed_key (ap (λ bs. encode_utf8_all cs ++ bs) (sym (append-nil (encode_utf8 c))) ∙ sym (encodes-append cs (c ∷ []))))
