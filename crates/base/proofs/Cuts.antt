-- Cutting a text at its separators.
use Rattle.std.proofs.Common.{◌≡◌, ℕ, ◌+◌, ◌<◌, ◌≤◌, ◌==◌, ltb, Bool, true, false, cond, List, [], ◌∷◌, Some, None, length, take, drop, position, arith, refl}
use Rattle.std.specs.List.{position_or_len}
use Rattle.std.proofs.lemmas.Bool.Decides.{nat_tests}
use Rattle.std.proofs.lemmas.List.Quantifiers.{position-Some}
use Rattle.std.proofs.lemmas.List.Sums.{position_or_len_is, fails_before_first}
use Rattle.std.proofs.lemmas.List.Splits.{slice_split_first, slice_split_none}
use Rattle.base.specs.Pieces.{pieces_of}

abbrev is : ℕ → ℕ → Bool
is separator b = b == separator

-- the first piece ends at the first separator
pub pieces_of-cut : (separator : ℕ) (text : List ℕ) (at : ℕ) → position (λ b. b == separator) text ≡ Some at →
    (at < length text) × (pieces_of separator text ≡ take at text ∷ pieces_of separator (drop (at + 1) text))
pieces_of-cut separator text at e =
    let found = position-Some (is separator) text at 0 e in
    let place : position_or_len (is separator) text ≡ at = position_or_len_is (is separator) text at 0 (omega arith) (λ k h. found.2 k h) (λ _. found.1) in
    let first = slice_split_first (is separator) text 0 (rw place found.0) in
    (found.0, rw place at first)

not_below : (n m : ℕ) (b : Bool) → ltb n m ≡ b → cond b (Some n) None ≡ None → m ≤ n
not_below n m true e h = cc
not_below n m false e h = grind (arith, nat_tests)

-- a text with no separator is one piece
pub pieces_of-whole : (separator : ℕ) (text : List ℕ) → position (λ b. b == separator) text ≡ None → pieces_of separator text ≡ text ∷ []
pieces_of-whole separator text e =
    let past : length text ≤ position_or_len (is separator) text = not_below _ _ _ refl e in
    slice_split_none (is separator) text (λ k d h. fails_before_first (is separator) text k d (omega arith))
