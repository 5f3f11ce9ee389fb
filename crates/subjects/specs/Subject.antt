-- The subject grammar, the subjects of a pattern, and how two patterns compare
-- (NATS documentation, "Subject-Based Messaging"; docs/GUARANTEE.md, "Subjects").
use Rattle.std.specs.Prelude.{◌≡◌, ◌==◌, ℕ, Bool, true, false, not, ◌&&◌, ◌||◌, IsTrue, List, [], ◌∷◌, length, nat_eq, nat_le, nat_lt}
use Rattle.std.specs.List.{list_all, join_with_byte}
use Rattle.base.specs.Pieces.{pieces_of}
use Rattle.std.specs.Cmp.Lexicographic.{pointwise}

-- the bytes between two dots
abbrev pub Token : Type 0
Token = List ℕ

-- whether two tokens have the same bytes
abbrev pub same_token : Token → Token → Bool
same_token = pointwise nat_eq

-- the token that stands for one token
abbrev pub is_star : Token → Bool
is_star t = same_token t (42 ∷ [])

-- the token that, in last place, stands for one or more
abbrev pub is_tail : Token → Bool
is_tail t = same_token t (62 ∷ [])

abbrev pub is_wildcard : Token → Bool
is_wildcard t = is_star t || is_tail t

-- a text has every byte but NUL, TAB, LF, CR and space; a token has these but for the dot, which parts tokens
abbrev pub is_text_byte : ℕ → Bool
is_text_byte b = nat_lt b 256 && not (b == 0 || b == 9 || b == 10 || b == 13 || b == 32)

abbrev pub is_token_byte : ℕ → Bool
is_token_byte b = is_text_byte b && not (b == 46)

abbrev pub is_token : Token → Bool
is_token [] = false
is_token (b ∷ bs) = list_all is_token_byte (b ∷ bs)

abbrev pub is_literal : Token → Bool
is_literal t = is_token t && not (is_wildcard t)

-- a concrete subject is a non-empty list of literal tokens, of any length
abbrev pub is_concrete : List Token → Bool
is_concrete [] = false
is_concrete (t ∷ ts) = list_all is_literal (t ∷ ts)

abbrev pub IsConcreteSubject : List Token → Type 0
IsConcreteSubject ts = IsTrue (is_concrete ts)

-- `>` stands in last place or nowhere
abbrev pub tail_is_last : List Token → Bool
tail_is_last [] = true
tail_is_last (t ∷ []) = true
tail_is_last (t ∷ u ∷ ts) = not (is_tail t) && tail_is_last (u ∷ ts)

-- a pattern has 1 to 512 tokens, and `>` only in last place
abbrev pub is_pattern : List Token → Bool
is_pattern [] = false
is_pattern (t ∷ ts) = list_all is_token (t ∷ ts) && tail_is_last (t ∷ ts) && nat_le (length (t ∷ ts)) 512

abbrev pub IsPattern : List Token → Type 0
IsPattern ts = IsTrue (is_pattern ts)

-- a subject that can be published: concrete, of at most 512 tokens
abbrev pub is_subject : List Token → Bool
is_subject ts = is_concrete ts && nat_le (length ts) 512

abbrev pub IsSubject : List Token → Type 0
IsSubject ts = IsTrue (is_subject ts)

-- the text is cut at its dots; the tokens are joined by them
abbrev pub tokens_of : List ℕ → List Token
tokens_of text = pieces_of 46 text

abbrev pub text_of : List Token → List ℕ
text_of ts = join_with_byte 46 ts

-- whether a subject is one of a pattern's: a literal takes that token, `*` any one token, `>` any one or more
abbrev pub in_set : List Token → List Token → Bool
in_set [] [] = true
in_set [] (s ∷ ss) = false
in_set (p ∷ ps) [] = false
in_set (p ∷ ps) (s ∷ ss) = is_tail p || ((is_star p || same_token p s) && in_set ps ss)

-- every subject of the second pattern is one of the first's
abbrev pub Covers : List Token → List Token → Type 0
Covers q p = (s : List Token) → IsConcreteSubject s → IsTrue (in_set p s) → IsTrue (in_set q s)

-- some subject of the second pattern is not one of the first's
abbrev pub Lacks : List Token → List Token → Type 0
Lacks q p = (s : List Token) × IsConcreteSubject s × IsTrue (in_set p s) × (in_set q s ≡ false)

-- some subject is one of both
abbrev pub Overlaps : List Token → List Token → Type 0
Overlaps q p = (s : List Token) × IsConcreteSubject s × IsTrue (in_set q s) × IsTrue (in_set p s)

-- the test that decides coverage, token by token
abbrev pub covers : List Token → List Token → Bool
covers [] [] = true
covers [] (p ∷ ps) = false
covers (q ∷ qs) [] = false
covers (q ∷ qs) (p ∷ ps) = is_tail q || (not (is_tail p) && (is_star q || same_token q p) && covers qs ps)

-- the test that decides whether two patterns share a subject, token by token
abbrev pub overlaps : List Token → List Token → Bool
overlaps [] [] = true
overlaps [] (p ∷ ps) = false
overlaps (q ∷ qs) [] = false
overlaps (q ∷ qs) (p ∷ ps) = is_tail q || is_tail p || ((is_star q || is_star p || same_token q p) && overlaps qs ps)
