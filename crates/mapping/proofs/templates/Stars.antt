-- A pattern's `*`s, counted.
use Rattle.std.proofs.Common.{◌≡◌, ◌+◌, ◌∙◌, Bool, true, false, if◌then◌else◌, List, [], ◌∷◌, arith, refl, ap}
use Rattle.std.proofs.lemmas.List.Sums.{sum_by-cons}
use Rattle.subjects.specs.Subject.{Token, is_star, is_tail}
use Rattle.subjects.proofs.Same.{equal_from_same}
use Rattle.mapping.specs.templates.Wildcards.{count_stars}

-- no token is both wildcards
pub tail_no_star : (p : Token) → is_tail p ≡ true → is_star p ≡ false
tail_no_star p t = rw (equal_from_same p (62 ∷ []) t) refl

-- a pattern's `*`s, one token on
pub count-more : (p : Token) (ps : List Token) (star : Bool) → is_star p ≡ star → count_stars (p ∷ ps) ≡ (if star then 1 else 0) + count_stars ps
count-more p ps star e = sum_by-cons (λ t. if is_star t then 1 else 0) p ps ∙ ap (λ b. (if b then 1 else 0) + count_stars ps) e

pub stars-more : (p : Token) (ps : List Token) → is_star p ≡ true → count_stars (p ∷ ps) ≡ 1 + count_stars ps
stars-more p ps e = count-more p ps true e

pub stars-same : (p : Token) (ps : List Token) → is_star p ≡ false → count_stars (p ∷ ps) ≡ count_stars ps
stars-same p ps e = omega (arith, count-more p ps false e)
