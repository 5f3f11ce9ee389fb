-- One more token is passed, and none is left.
use Rattle.std.proofs.Common.{◌≡◌, ◌<◌, ◌≤◌, ◌+◌, ℕ, suc, arith, List, length, drop, slice_index_or, refl, sym, subst}
use Rattle.std.proofs.Math.Seq.{drop-cons}
use Rattle.std.proofs.lemmas.List.{drop_all}
use Rattle.json.specs.Token.{Token}
use Rattle.policy_notes.specs.positions.Spots.{Passed, PassesAll, PassesNext}

-- where the rest leads from behind the next token, all lead from before it
pub one_more : (ats : List ℕ) (i : ℕ) (ts left : List Token) (p between end : Passed) → i < length ats
    → PassesNext (slice_index_or ats i 0) ts p left between → PassesAll (drop (i + 1) ats) left between end → PassesAll (drop i ats) ts p end
unfolding PassesAll
one_more ats i ts left p between end within next rest =
    let same : i + 1 ≡ suc i = omega arith in
    let then : PassesAll (drop (suc i) ats) left between end = subst (λ (n : ℕ). PassesAll (drop n ats) left between end) same rest in
    subst (λ (l : List ℕ). PassesAll l ts p end) (sym (drop-cons ats i 0 within)) (left, between, next, then)

-- behind the last place nothing is passed
pub no_more : (ats : List ℕ) (i : ℕ) (ts : List Token) (p : Passed) → length ats ≤ i → PassesAll (drop i ats) ts p p
unfolding PassesAll
no_more ats i ts p all = subst (λ (l : List ℕ). PassesAll l ts p p) (sym (drop_all i ats all)) refl
