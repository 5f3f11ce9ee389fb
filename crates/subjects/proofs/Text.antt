-- A pattern is that of its text, and so is a subject; two patterns are equal exactly where their texts are.
use Rattle.std.proofs.Common.{◌≡◌, ◌∙◌, ◌&&◌, ◌==◌, ◌∷◌, ℕ, Bool, true, false, not, Decides, List, [], length, ap, sym, refl}
use Rattle.std.specs.Prelude.{All, nat_eq, nat_le}
use Rattle.std.specs.List.{list_all}
use Rattle.std.specs.Cmp.Lexicographic.{pointwise}
use Rattle.std.proofs.lemmas.Bool.{and_parts, not-true}
use Rattle.std.proofs.lemmas.List.Elements.{All-nil, All-cons}
use Rattle.std.proofs.lemmas.List.Splits.{slice_split_none, slice_split_at}
use Rattle.std.proofs.lemmas.Slice.Eq.{bytes_eq-Decides}
use Rattle.subjects.specs.Subject.{Token, IsConcreteSubject, IsPattern, IsSubject, is_concrete, is_text_byte, is_token_byte, is_token, is_wildcard, is_literal, tail_is_last, text_of, tokens_of}

-- no byte of a token is a dot
abbrev HasNoDot : Token → Type 0
HasNoDot t = All (λ b. (b == 46) ≡ false) t

no_dot : (bs : List ℕ) → list_all is_token_byte bs ≡ true → HasNoDot bs
no_dot [] h = All-nil (λ b. (b == 46) ≡ false)
no_dot (b ∷ bs) h =
    let parts = and_parts (is_token_byte b) (list_all is_token_byte bs) h in
    All-cons (λ b. (b == 46) ≡ false) b bs (not-true (b == 46) (and_parts (is_text_byte b) (not (b == 46)) parts.0).1) (no_dot bs parts.1)

token : (t : Token) → is_token t ≡ true → HasNoDot t
token [] h = absurd (cc)
token (b ∷ bs) h = no_dot (b ∷ bs) h

-- the text of tokens has them
pub tokens_again : (t : Token) (ts : List Token) → list_all is_token (t ∷ ts) ≡ true → tokens_of (text_of (t ∷ ts)) ≡ t ∷ ts
tokens_again t [] h = slice_split_none (λ b. b == 46) t (token t (and_parts (is_token t) true h).0)
tokens_again t (u ∷ ts) h =
    let parts = and_parts (is_token t) (list_all is_token (u ∷ ts)) h in
    slice_split_at (λ b. b == 46) t 46 (text_of (u ∷ ts)) (token t parts.0) refl ∙ ap (λ us. t ∷ us) (tokens_again u ts parts.1)

-- the text of a pattern has its tokens
pub pattern_again : (p : List Token) → IsPattern p → tokens_of (text_of p) ≡ p
pattern_again [] h = absurd (cc)
pattern_again (t ∷ ts) h =
    let first = and_parts (list_all is_token (t ∷ ts) && tail_is_last (t ∷ ts)) (nat_le (length (t ∷ ts)) 512) h in
    tokens_again t ts (and_parts (list_all is_token (t ∷ ts)) (tail_is_last (t ∷ ts)) first.0).0

-- what has no wildcard is made of tokens
pub tokens_from_literals : (ts : List Token) → list_all is_literal ts ≡ true → list_all is_token ts ≡ true
tokens_from_literals [] h = refl
tokens_from_literals (t ∷ ts) h =
    let parts = and_parts (is_literal t) (list_all is_literal ts) h in
    ap (λ b. b && list_all is_token ts) (and_parts (is_token t) (not (is_wildcard t)) parts.0).0 ∙ tokens_from_literals ts parts.1

-- the text of a concrete subject has its tokens
pub concrete_again : (s : List Token) → IsConcreteSubject s → tokens_of (text_of s) ≡ s
concrete_again [] h = absurd (cc)
concrete_again (t ∷ ts) h = tokens_again t ts (tokens_from_literals (t ∷ ts) h)

-- and that of a subject
pub again : (s : List Token) → IsSubject s → tokens_of (text_of s) ≡ s
again s h = concrete_again s (and_parts (is_concrete s) _ h).0

pub same_patterns : (b : Bool) (p q : List Token) (t u : List ℕ) → IsPattern p → IsPattern q → t ≡ text_of p → u ≡ text_of q → b ≡ pointwise nat_eq t u → Decides b (p ≡ q)
same_patterns b p q t u hp hq tp uq is = (
  (λ yes. sym (pattern_again p hp) ∙ ap tokens_of (sym tp ∙ (bytes_eq-Decides t u).0 (sym is ∙ yes) ∙ uq) ∙ pattern_again q hq),
  (λ e. is ∙ (bytes_eq-Decides t u).1 (tp ∙ ap text_of e ∙ sym uq)),
)
