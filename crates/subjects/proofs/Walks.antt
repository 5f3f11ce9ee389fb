-- Steps of the walks over a text's tokens.
use Rattle.std.proofs.Common.{◌≡◌, Bool, true, false, not, ◌&&◌, List, [], ◌∷◌, refl, sym}
use Rattle.subjects.specs.Subject.{Token, is_tail, tail_is_last}

-- whether `>` stands in last place or nowhere, where the token before was `>`
abbrev pub last_behind : Bool → List Token → Bool
last_behind false ts = tail_is_last ts
last_behind true [] = true
last_behind true (t ∷ ts) = false

behind_end : (was : Bool) → last_behind was [] ≡ true
behind_end true = refl
behind_end false = refl

behind_more : (was : Bool) (t : Token) (ts : List Token) → last_behind was (t ∷ ts) ≡ (not was && tail_is_last (t ∷ ts))
behind_more true t ts = refl
behind_more false t ts = refl

pub behind_step : (t : Token) (ts : List Token) → tail_is_last (t ∷ ts) ≡ last_behind (is_tail t) ts
behind_step t [] = sym (behind_end (is_tail t))
behind_step t (u ∷ ts) = sym (behind_more (is_tail t) u ts)
