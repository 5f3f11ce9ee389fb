-- Tokens that are equal, and subjects that are.
use Rattle.std.proofs.Common.{◌≡◌, ◌∙◌, ℕ, List, true, Decides, ap, refl, sym, nat_eq}
use Rattle.std.specs.Cmp.Lexicographic.{pointwise, pointwise_decides, bytes_decides}
use Rattle.std.proofs.lemmas.Bool.Decides.{same_from_decides}
use Rattle.std.proofs.lemmas.List.Splits.{join_with_byte-slice_split}
use Rattle.std.proofs.lemmas.Slice.Eq.{bytes_eq-Decides}
use Rattle.subjects.specs.Equal.{same_subject}
use Rattle.subjects.specs.Subject.{Token, same_token, text_of, tokens_of}

pub same_token-Decides : (t u : Token) → Decides (same_token t u) (t ≡ u)
same_token-Decides t u = bytes_eq-Decides t u

pub same_token-itself : (t : Token) → same_token t t ≡ true
same_token-itself t = (same_token-Decides t t).1 refl

pub equal_from_same : (t u : Token) → same_token t u ≡ true → t ≡ u
equal_from_same t u = (same_token-Decides t u).0

-- texts are the same exactly where their tokens are
pub same_texts : (t u : List ℕ) → pointwise nat_eq t u ≡ same_subject (tokens_of t) (tokens_of u)
same_texts t u =
    let tokens = pointwise_decides bytes_decides (tokens_of t) (tokens_of u) in
    let text : same_subject (tokens_of t) (tokens_of u) ≡ true → t ≡ u =
    λ h. sym (join_with_byte-slice_split 46 t) ∙ (ap text_of (tokens.0 h) ∙ join_with_byte-slice_split 46 u) in
    same_from_decides _ _ (bytes_eq-Decides t u) (text, λ e. tokens.1 (ap tokens_of e))
