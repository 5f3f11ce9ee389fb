-- A subject that doesn't begin with the first byte of the token `_R_` is no route's.
use Rattle.std.proofs.Common.{◌≡◌, ◌∙◌, ◌==◌, ◌&&◌, ◌∷◌, ℕ, List, [], false, Some, None, slice_get, ap, refl}
use Rattle.std.specs.Str.{bytes_eq}
use Rattle.subjects.specs.Subject.{Token, text_of}
use Rattle.policy_ready.specs.imports.Views.{is_route}

other_token : (b : ℕ) (bs : List ℕ) (first : ℕ) → b ≡ first → (first == 95) ≡ false → bytes_eq (b ∷ bs) (95 ∷ 82 ∷ 95 ∷ []) ≡ false
other_token b bs first same other = ap (λ c. c && bytes_eq bs (82 ∷ 95 ∷ [])) (ap (λ n. n == 95) same ∙ other)

-- it begins with another byte
pub other_first : (s : List Token) (first : ℕ) → slice_get (text_of s) 0 ≡ Some first → (first == 95) ≡ false → is_route s ≡ false
other_first [] first is other = refl
other_first ([] ∷ ts) first is other = refl
other_first ((b ∷ bs) ∷ []) first is other = other_token b bs first (cc) other
other_first ((b ∷ bs) ∷ (u ∷ ts)) first is other = other_token b bs first (cc) other

-- it has no byte
pub no_first : (s : List Token) → slice_get (text_of s) 0 ≡ None → is_route s ≡ false
no_first [] is = refl
no_first ([] ∷ ts) is = refl
no_first ((b ∷ bs) ∷ []) is = absurd (cc)
no_first ((b ∷ bs) ∷ (u ∷ ts)) is = absurd (cc)
