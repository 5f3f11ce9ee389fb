-- Sample subjects of a pattern, chosen so that another pattern has them only where it must.
use Rattle.std.specs.Prelude.{◌≡◌, ◌≤◌, ◌∷◌, ◌++◌, ℕ, IsTrue, false, not, if◌then◌else◌, List, [], length, Option, Some, None}
use Rattle.std.specs.List.{flat_map}
use Rattle.subjects.specs.Subject.{Token, IsConcreteSubject, in_set, is_star, is_tail, same_token, tokens_of}
use Rattle.subjects.specs.declared.outside.Tail.{Tail}
use Rattle.subjects.specs.declared.outside.Tail.TheVariants.{One, Two}

-- the tokens behind the first
abbrev pub behind : List Token → List Token
behind [] = []
behind (t ∷ ts) = ts

-- the token that stands in for any one token: `a`, or `b` where the other pattern has the literal `a` at that place
abbrev pub stand_in : List Token → Token
stand_in [] = 97 ∷ []
stand_in (q ∷ qs) = if same_token q (97 ∷ []) then 98 ∷ [] else 97 ∷ []

abbrev pub one_stand_in : List Token → List Token
one_stand_in qs = stand_in qs ∷ []

abbrev pub two_stand_ins : List Token → List Token
two_stand_ins qs = stand_in qs ∷ stand_in (behind qs) ∷ []

-- a subject of the second pattern: a literal stays, `*` has its stand-in, and `>` has what `last` makes of it
abbrev pub sample : (List Token → List Token) → List Token → List Token → List Token
sample last qs [] = []
sample last qs (p ∷ ps) =
    if is_tail p then last qs else ((if is_star p then stand_in qs else p) ∷ sample last (behind qs) ps)

-- what a last `>` becomes
abbrev pub stand_ins : Tail → List Token → List Token
stand_ins One = one_stand_in
stand_ins Two = two_stand_ins

-- tokens, each with a dot behind it
abbrev pub dotted : List Token → List ℕ
dotted ts = flat_map (λ (t : Token). t ++ 46 ∷ []) ts

-- the first of the second pattern's two samples that the first pattern hasn't, if it hasn't both
abbrev pub outside : List Token → List Token → Option (List Token)
outside q p =
    if not (in_set q (sample one_stand_in q p)) then Some (sample one_stand_in q p)
    else if not (in_set q (sample two_stand_ins q p)) then Some (sample two_stand_ins q p)
    else None

-- a text is that of a concrete subject of the second pattern, not of the first's, of at most 513 tokens
pub record IsOutside (q p : List Token) (text : List ℕ) : Type 0 where
  pub concrete : IsConcreteSubject (tokens_of text)
  pub member : IsTrue (in_set p (tokens_of text))
  pub missing : in_set q (tokens_of text) ≡ false
  pub short : length (tokens_of text) ≤ 513
