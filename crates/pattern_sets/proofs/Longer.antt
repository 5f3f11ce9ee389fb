-- A token that is longer than each pattern is none of theirs.
use Rattle.std.proofs.Common.{◌≡◌, ◌∙◌, ◌<◌, ◌+◌, ◌||◌, ℕ, zero, suc, Bool, true, false, List, [], ◌∷◌, length, map, replicate, nat_eq, ap, refl, arith, length-append}
use Rattle.std.proofs.lemmas.List.{length-replicate}
use Rattle.std.specs.List.{list_all, list_any}
use Rattle.std.specs.Cmp.Lexicographic.{as_long}
use Rattle.subjects.specs.Subject.{Token, is_literal, is_token_byte, same_token, text_of}
use Rattle.pattern_sets.specs.Laws.{has_token}
use Rattle.pattern_sets.specs.Longest.{longest_text}

by_length : (b : Bool) → (b ≡ true → ⊥) → b ≡ false
by_length true h = absurd (h refl)
by_length false h = refl

other_length : (t token : Token) → length t < length token → same_token t token ≡ false
other_length t token less = by_length (same_token t token) (λ e. let same = as_long nat_eq t token e in omega (arith, same, less))

neither : (a b : Bool) → a ≡ false → b ≡ false → (a || b) ≡ false
neither a b e f = rw (e, f) refl

longer : (p : List Token) (token : Token) → length (text_of p) < length token → has_token token p ≡ false
longer [] token less = refl
longer (t ∷ []) token less = neither (same_token t token) false (other_length t token less) refl
longer (t ∷ u ∷ ts) token less =
    let long = length-append t (46 ∷ text_of (u ∷ ts)) in
    neither (same_token t token) (has_token token (u ∷ ts)) (other_length t token (omega (arith, long, less))) (longer (u ∷ ts) token (omega (arith, long, less)))

module _ {P : Type 0} (of : P → List Token) where
  pub none_has : (ps : List P) (token : Token) → longest_text (map of ps) < length token → list_any (λ p. has_token token (of p)) ps ≡ false
  none_has [] token less = refl
  none_has (p ∷ ps) token less =
      neither (has_token token (of p)) (list_any (λ q. has_token token (of q)) ps) (longer (of p) token (omega (arith, less))) (none_has ps token (omega (arith, less)))

all_x : (n : ℕ) → list_all is_token_byte (replicate n 120) ≡ true
all_x zero = refl
all_x (suc n) = all_x n

longer_run : (n : ℕ) → is_literal (replicate (suc n) 120) ≡ true
longer_run n = rw (all_x n) refl

pub run_is_literal : (n : ℕ) (run : Token) → run ≡ replicate (n + 1) 120 → is_literal run ≡ true
run_is_literal n run e =
    let more : n + 1 ≡ suc n = omega arith in
    ap is_literal e ∙ ap (λ m. is_literal (replicate m 120)) more ∙ longer_run n

pub run_length : (n : ℕ) (run : Token) → run ≡ replicate (n + 1) 120 → n < length run
run_length n run e = let long = ap length e ∙ length-replicate (n + 1) 120 in omega (arith, long)
