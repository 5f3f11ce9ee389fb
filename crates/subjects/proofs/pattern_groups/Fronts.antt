-- Whoever has a subject has the hash of some of its first tokens.
use Rattle.std.proofs.Common.{◌≡◌, ◌∙◌, ◌==◌, ◌&&◌, ◌||◌, inl, inr, ℕ, Bool, true, false, not, List, [], ◌∷◌, sym, subst, refl, arith}
use Rattle.std.proofs.lemmas.Bool.{cases_Bool, and_parts}
use Rattle.std.proofs.lemmas.Bool.Decides.{nat_tests}
use Rattle.std.proofs.lemmas.Slice.Eq.{bytes_eq-Decides}
use Rattle.std.proofs.lemmas.List.Splits.{slice_split-cons_yes, slice_split-cons_no}
use Rattle.subjects.specs.Subject.{Token, is_star, is_tail, is_wildcard, same_token, in_set, tokens_of}
use Rattle.subjects.specs.Fingerprint.{with_byte, hash_from}
use Rattle.subjects.specs.pattern_groups.Hashes.{front_from, IsOfFront, IsPast}

-- some of the first tokens may be none
at_front : (n : ℕ) (ts : List Token) → IsOfFront n n ts
at_front n [] = refl
at_front n (t ∷ ts) = inl refl

-- a first token that is no wildcard and takes another is the same
same_first : (q s : Token) → is_wildcard q ≡ false → (is_star q || same_token q s) ≡ true → q ≡ s
same_first q s name takes = by (is_star q) refl
  where
    by : (star : Bool) → is_star q ≡ star → q ≡ s
    by true e = let e : true ≡ false = rw e at name in absurd (cc)
    by false e = let same : same_token q s ≡ true = rw e at takes in (bytes_eq-Decides q s).0 same

no_tail : (q : Token) → is_wildcard q ≡ false → is_tail q ≡ false
no_tail q name = by (is_star q) (is_tail q) refl refl
  where
    by : (s t : Bool) → is_star q ≡ s → is_tail q ≡ t → is_tail q ≡ false
    by true t es et = let e : true ≡ false = rw es at name in absurd (cc)
    by false true es et = let e : true ≡ false = rw (es, et) at name in absurd (cc)
    by false false es et = et

front_step : (n : ℕ) (q : Token) (qs : List Token) → is_wildcard q ≡ false → front_from n (q ∷ qs) ≡ front_from (hash_from n q) qs
front_step n q qs name = rw name refl

-- the rest begins as the rest does
one_more : (n : ℕ) (q s : Token) (qs ss : List Token) → is_wildcard q ≡ false → q ≡ s →
    IsOfFront (front_from (hash_from n q) qs) (hash_from n q) ss → IsOfFront (front_from n (q ∷ qs)) n (s ∷ ss)
one_more n q s qs ss name same rest =
    subst (λ k. IsOfFront k n (s ∷ ss)) (sym (front_step n q qs name))
    (inr (subst (λ t. IsOfFront (front_from (hash_from n q) qs) (hash_from n t) ss) same rest))

wild : (n : ℕ) (q : Token) (qs ss : List Token) → is_wildcard q ≡ true → IsOfFront (front_from n (q ∷ qs)) n ss
wild n q qs ss is = rw is (at_front n ss)

pub in_set-front : (n : ℕ) (q s : List Token) → in_set q s ≡ true → IsOfFront (front_from n q) n s
in_set-front n [] s has = at_front n s
in_set-front n (q ∷ qs) [] has = absurd (cc)
in_set-front n (q ∷ qs) (s ∷ ss) has = elim (cases_Bool (is_wildcard q)) [
  | inl is ↦ wild n q qs (s ∷ ss) is
  | inr name ↦
      let both : ((is_star q || same_token q s) && in_set qs ss) ≡ true = rw (no_tail q name) at has in
      let parts = and_parts (is_star q || same_token q s) (in_set qs ss) both in
      one_more n q s qs ss name (same_first q s name parts.0) (in_set-front (hash_from n q) qs ss parts.1)
]

-- ---- past a token

pub past_end : (n : ℕ) → IsPast n [] n []
past_end n = ([], refl, refl)

pub past_dot : (n b : ℕ) (text : List ℕ) → (b == 46) ≡ true → IsPast n (b ∷ text) n (tokens_of text)
past_dot n b text dot = ([], slice_split-cons_yes (λ c. c == 46) b text dot, refl)

pub past_more : (n b : ℕ) (text : List ℕ) (m : ℕ) (behind : List Token) → (b ≡ 46 → ⊥) → IsPast (with_byte n b) text m behind → IsPast n (b ∷ text) m behind
past_more n b text m behind other past =
    let no : (b == 46) ≡ false = grind (arith, nat_tests, other) in
    (b ∷ past.0, slice_split-cons_no (λ c. c == 46) b text no ∙ rw past.1 refl, past.2)
