-- Names in a line, and lines in a text.
use Rattle.std.proofs.Common.{◌≡◌, ◌∙◌, ◌+◌, ◌<◌, ◌==◌, ℕ, zero, suc, false, cond, List, [], ◌∷◌, ◌++◌, length, take, codes, ap, sym, refl, arith, append_assoc}
use Rattle.std.specs.List.{join_with_byte, slice_index_or}
use Rattle.std.proofs.lemmas.Bool.Decides.{nat_tests}
use Rattle.std.proofs.lemmas.Grind.{take_at_read}
use Rattle.policy_doc.specs.Accounts.{Name}

-- a name more, behind others
joined-more : (x : Name) (names : List Name) (n : Name) → join_with_byte 32 ((x ∷ names) ++ n ∷ []) ≡ join_with_byte 32 (x ∷ names) ++ (32 ∷ n)
joined-more x [] n = refl
joined-more x (y ∷ names) n =
    ap (λ l. x ++ (32 ∷ l)) (joined-more y names n) ∙ sym (append_assoc x (32 ∷ join_with_byte 32 (y ∷ names)) (32 ∷ n))

not_first : (k : ℕ) → (suc k == 0) ≡ false
not_first k = grind (arith, nat_tests)

-- the name at a place, behind a space unless it is the first
pub line_more : (names : List Name) (k : ℕ) (d : Name) → k < length names →
    join_with_byte 32 (take (k + 1) names) ≡ join_with_byte 32 (take k names) ++ cond (k == 0) (slice_index_or names k d) (codes " " ++ slice_index_or names k d)
line_more [] k d within = absurd (omega (arith, within))
line_more (x ∷ names) zero d within = refl
line_more (x ∷ names) (suc k) d within =
    let inside : k < length names = omega (arith, within) in
    ap (join_with_byte 32) (take_at_read (x ∷ names) (suc k) d within).1 ∙ joined-more x (take k names) (slice_index_or names k d)
    ∙ sym (ap (λ b. join_with_byte 32 (take (suc k) (x ∷ names)) ++ cond b (slice_index_or names k d) (codes " " ++ slice_index_or names k d)) (not_first k))
