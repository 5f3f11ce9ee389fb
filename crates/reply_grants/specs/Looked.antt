-- A subject that is looked up by its text.
use Rattle.std.proofs.Common.{◌≡◌, ◌∙◌, ℕ, List, ap, sym}
use Rattle.std.specs.Prelude.{IsTrue}
use Rattle.std.specs.Hash as fed
use Rattle.std.proofs.lemmas.List.Splits.{join_with_byte-slice_split}
use Rattle.subjects.specs.Subject.{Token, tokens_of}
use Rattle.subjects.specs.Equal.{same_subject, same_subject-equiv, hashed, hashed-alike}

-- a text is hashed as the subject that has its tokens
pub alike : (text : List ℕ) (k : List Token) → IsTrue (same_subject (tokens_of text) k) → fed.slice fed.u8 text ≡ hashed k
alike text k h = ap (λ t. fed.slice fed.u8 t) (sym (join_with_byte-slice_split 46 text)) ∙ hashed-alike (tokens_of text) k h

pub congruent : (text : List ℕ) (x y : List Token) → IsTrue (same_subject (tokens_of text) x) → same_subject (tokens_of text) y ≡ same_subject x y
congruent text x y h = same_subject-equiv.congr (tokens_of text) x y h
