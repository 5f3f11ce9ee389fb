-- Slots by rising number, and what stands in them.
use Rattle.std.proofs.Common.{◌≡◌, ◌≢◌, ◌∙◌, ◌<◌, ◌≤◌, ℕ, zero, suc, Bool, true, false, cond, List, [], ◌∷◌, ◌++◌, length, map, filter, Option, Some, None, nat_lt, inl, inr, ap, sym, refl, subst, arith, slice_index_or, slice_set}
use Rattle.std.specs.List.Sorted.{IsNonDecreasingBy, IsPartitionPoint}
use Rattle.std.specs.Ordering.{nat_cmp, ordering_index}
use Rattle.std.specs.declared.cmp.Ordering.TheVariants.{Less, Equal, Greater}
use Rattle.std.proofs.lemmas.Bool.{cases_Bool}
use Rattle.std.proofs.lemmas.Bool.Decides.{nat_tests}
use Rattle.stores.specs.numbered_slots.Slots.{entry_of, entries_in, passes, AreAbove, AreBelow, AreRising, IsAbsent}

order_rises : (a b n : ℕ) → a ≤ b → ordering_index (nat_cmp a n) ≤ ordering_index (nat_cmp b n)
order_rises a b n h = grind (arith, nat_tests)

pub cmp_equal : (a n : ℕ) → nat_cmp a n ≡ Equal → a ≡ n
cmp_equal a n h = grind (arith, nat_tests, h)

cmp_less : (a n : ℕ) → nat_cmp a n ≡ Less → a ≢ n
cmp_less a n h = λ same. grind (arith, nat_tests, h, same)

cmp_greater : (a n : ℕ) → nat_cmp a n ≡ Greater → a ≢ n
cmp_greater a n h = λ same. grind (arith, nat_tests, h, same)

module _ {S : Type 0} (number : S → ℕ) where
  -- ---- by place

  pub above_at : (n : ℕ) (slots : List S) (k : ℕ) (d : S) → AreAbove number n slots → k < length slots → n < number (slice_index_or slots k d)
  unfolding AreAbove
  above_at n [] k d above within = absurd (omega arith)
  above_at n (s ∷ slots) zero d above within = above.0
  above_at n (s ∷ slots) (suc k) d above within = above_at n slots k d above.1 (omega arith)

  pub below_at : (n : ℕ) (slots : List S) (k : ℕ) (d : S) → AreBelow number n slots → k < length slots → number (slice_index_or slots k d) < n
  unfolding AreBelow
  below_at n [] k d below within = absurd (omega arith)
  below_at n (s ∷ slots) zero d below within = below.0
  below_at n (s ∷ slots) (suc k) d below within = below_at n slots k d below.1 (omega arith)

  pub below_more : (m n : ℕ) (slots : List S) → m ≤ n → AreBelow number m slots → AreBelow number n slots
  unfolding AreBelow
  below_more m n [] le below = tt
  below_more m n (s ∷ slots) le below = (let b : number s < m = below.0 in omega (arith, le, b), below_more m n slots le below.1)

  strict_at : (slots : List S) (i j : ℕ) (d : S) → AreRising number slots → i < j → j < length slots → number (slice_index_or slots i d) < number (slice_index_or slots j d)
  unfolding AreRising
  strict_at [] i j d rising lt within = absurd (omega arith)
  strict_at (s ∷ slots) i zero d rising lt within = absurd (omega arith)
  strict_at (s ∷ slots) zero (suc j) d rising lt within = above_at (number s) slots j d rising.0 (omega arith)
  strict_at (s ∷ slots) (suc i) (suc j) d rising lt within = strict_at slots i j d rising.1 (omega arith) (omega arith)

  rise_at : (slots : List S) (i j : ℕ) (d : S) → AreRising number slots → i ≤ j → j < length slots → number (slice_index_or slots i d) ≤ number (slice_index_or slots j d)
  rise_at slots i j d rising le within = elim (cases_Bool (nat_lt i j)) [
    | inl y ↦ let lt : i < j = grind (arith, nat_tests, y) in omega (arith, strict_at slots i j d rising lt within)
    | inr n ↦ let same : i ≡ j = grind (arith, nat_tests, n, le) in subst (λ k. number (slice_index_or slots i d) ≤ number (slice_index_or slots k d)) same (omega arith)
  ]

  pub searchable : (n : ℕ) (slots : List S) → AreRising number slots → IsNonDecreasingBy (λ (s : S). ordering_index (nat_cmp (number s) n)) slots
  searchable n slots rising = λ i j d le within. order_rises (number (slice_index_or slots i d)) (number (slice_index_or slots j d)) n (rise_at slots i j d rising le within)

  pub not_there : (n : ℕ) (slots : List S) (i : ℕ) → IsPartitionPoint (λ (s : S). nat_cmp (number s) n ≡ Less) (λ (s : S). nat_cmp (number s) n ≡ Greater) slots i → IsAbsent number n slots
  not_there n slots i parted = λ k d within. elim (cases_Bool (nat_lt k i)) [
    | inl y ↦ cmp_less (number (slice_index_or slots k d)) n (parted.0 k d (omega arith) (grind (arith, nat_tests, y)))
    | inr x ↦ cmp_greater (number (slice_index_or slots k d)) n (parted.1 k d (grind (arith, nat_tests, x)) within)
  ]

  -- one place has that number
  pub one_place : (slots : List S) (i j : ℕ) (d : S) → AreRising number slots → i < length slots → j < length slots → number (slice_index_or slots i d) ≡ number (slice_index_or slots j d) → i ≡ j
  one_place slots i j d rising before after same = elim (cases_Bool (nat_lt i j)) [
    | inl y ↦ absurd (let lt : i < j = grind (arith, nat_tests, y) in omega (arith, same, strict_at slots i j d rising lt after))
    | inr n ↦ elim (cases_Bool (nat_lt j i)) [
      | inl y ↦ absurd (let lt : j < i = grind (arith, nat_tests, y) in omega (arith, same, strict_at slots j i d rising lt before))
      | inr m ↦ grind (arith, nat_tests, n, m)
    ]
  ]

  -- ---- a slot in the place of another

  above_set : (n : ℕ) (slots : List S) (i : ℕ) (new d : S) → AreAbove number n slots → number new ≡ number (slice_index_or slots i d) → AreAbove number n (slice_set slots i new)
  unfolding AreAbove
  above_set n [] i new d above same = above
  above_set n (s ∷ slots) zero new d above same = (subst (λ k. n < k) (sym same) above.0, above.1)
  above_set n (s ∷ slots) (suc i) new d above same = (above.0, above_set n slots i new d above.1 same)

  pub below_set : (n : ℕ) (slots : List S) (i : ℕ) (new d : S) → AreBelow number n slots → number new ≡ number (slice_index_or slots i d) → AreBelow number n (slice_set slots i new)
  unfolding AreBelow
  below_set n [] i new d below same = below
  below_set n (s ∷ slots) zero new d below same = (subst (λ k. k < n) (sym same) below.0, below.1)
  below_set n (s ∷ slots) (suc i) new d below same = (below.0, below_set n slots i new d below.1 same)

  pub rising_set : (slots : List S) (i : ℕ) (new d : S) → AreRising number slots → number new ≡ number (slice_index_or slots i d) → AreRising number (slice_set slots i new)
  unfolding AreRising
  rising_set [] i new d rising same = rising
  rising_set (s ∷ slots) zero new d rising same = (subst (λ k. AreAbove number k slots) (sym same) rising.0, rising.1)
  rising_set (s ∷ slots) (suc i) new d rising same = (above_set (number s) slots i new d rising.0 same, rising_set slots i new d rising.1 same)

  -- ---- one slot more

  above_added : (n : ℕ) (slots : List S) (new : S) → AreAbove number n slots → n < number new → AreAbove number n (slots ++ new ∷ [])
  unfolding AreAbove
  above_added n [] new above h = (h, tt)
  above_added n (s ∷ slots) new above h = (above.0, above_added n slots new above.1 h)

  pub rising_added : (slots : List S) (new : S) → AreRising number slots → AreBelow number (number new) slots → AreRising number (slots ++ new ∷ [])
  unfolding AreRising AreBelow AreAbove
  rising_added [] new rising below = (tt, tt)
  rising_added (s ∷ slots) new rising below = (above_added (number s) slots new rising.0 below.0, rising_added slots new rising.1 below.1)

  pub below_added : (n : ℕ) (slots : List S) (new : S) → AreBelow number n slots → number new < n → AreBelow number n (slots ++ new ∷ [])
  unfolding AreBelow
  below_added n [] new below h = (h, tt)
  below_added n (s ∷ slots) new below h = (below.0, below_added n slots new below.1 h)

  -- ---- slots that are changed each, and keep their numbers

  module _ (f : S → S) (same : (s : S) → number (f s) ≡ number s) where
    above-map : (n : ℕ) (slots : List S) → AreAbove number n slots → AreAbove number n (map f slots)
    unfolding AreAbove
    above-map n [] above = above
    above-map n (s ∷ slots) above = (subst (λ k. n < k) (sym (same s)) above.0, above-map n slots above.1)

    pub below-map : (n : ℕ) (slots : List S) → AreBelow number n slots → AreBelow number n (map f slots)
    unfolding AreBelow
    below-map n [] below = below
    below-map n (s ∷ slots) below = (subst (λ k. k < n) (sym (same s)) below.0, below-map n slots below.1)

    pub rising-map : (slots : List S) → AreRising number slots → AreRising number (map f slots)
    unfolding AreRising
    rising-map [] rising = rising
    rising-map (s ∷ slots) rising = (subst (λ k. AreAbove number k (map f slots)) (sym (same s)) (above-map (number s) slots rising.0), rising-map slots rising.1)

  -- ---- the slots that pass a test

  above-kept : (p : S → Bool) (n : ℕ) (slots : List S) → AreAbove number n slots → AreAbove number n (filter p slots)
  unfolding AreAbove
  above-kept p n [] above = above
  above-kept p n (s ∷ slots) above = here (p s) (above-kept p n slots above.1)
    where
      here : (b : Bool) → AreAbove number n (filter p slots) → AreAbove number n (cond b (s ∷ filter p slots) (filter p slots))
      here true later = (above.0, later)
      here false later = later

  below-kept : (p : S → Bool) (n : ℕ) (slots : List S) → AreBelow number n slots → AreBelow number n (filter p slots)
  unfolding AreBelow
  below-kept p n [] below = below
  below-kept p n (s ∷ slots) below = here (p s) (below-kept p n slots below.1)
    where
      here : (b : Bool) → AreBelow number n (filter p slots) → AreBelow number n (cond b (s ∷ filter p slots) (filter p slots))
      here true later = (below.0, later)
      here false later = later

  rising-kept : (p : S → Bool) (slots : List S) → AreRising number slots → AreRising number (filter p slots)
  unfolding AreRising
  rising-kept p [] rising = rising
  rising-kept p (s ∷ slots) rising = here (p s) (rising-kept p slots rising.1)
    where
      here : (b : Bool) → AreRising number (filter p slots) → AreRising number (cond b (s ∷ filter p slots) (filter p slots))
      here true later = (above-kept p (number s) slots rising.0, later)
      here false later = later

-- ---- the slots of the values that pass a test

abbrev pub kept_slots : {S X : Type 0} → (S → Option X) → (X → Bool) → List S → List S
kept_slots held p slots = filter (λ s. passes p (held s)) slots

module _ {S X : Type 0} (number : S → ℕ) (held : S → Option X) where
  entries-kept : (p : X → Bool) (slots : List S) → entries_in number held (kept_slots held p slots) ≡ filter (λ (e : ℕ × X). p e.1) (entries_in number held slots)
  entries-kept p [] = refl
  entries-kept p (s ∷ slots) = by (held s) refl (entries-kept p slots)
    where
      left : List S
      left = kept_slots held p slots

      passing : List (ℕ × X)
      passing = filter (λ (e : ℕ × X). p e.1) (entries_in number held slots)

      here : (x : X) → held s ≡ Some x → (b : Bool) → entries_in number held left ≡ passing → entries_in number held (cond b (s ∷ left) left) ≡ cond b ((number s, x) ∷ passing) passing
      here x is true later =
          ap (λ (o : Option X). entry_of (number s) o ++ entries_in number held left) is
          ∙ ap (λ (more : List (ℕ × X)). (number s, x) ∷ more) later
      here x is false later = later

      by : (o : Option X) → held s ≡ o → entries_in number held left ≡ passing
          → entries_in number held (cond (passes p o) (s ∷ left) left) ≡ filter (λ (e : ℕ × X). p e.1) (entry_of (number s) o ++ entries_in number held slots)
      by None is later = later
      by (Some x) is later = here x is (p x) later

  -- slots of which those are left
  module _ (p : X → Bool) (slots left : List S) (kept : left ≡ kept_slots held p slots) where
    pub entries_left : entries_in number held left ≡ filter (λ (e : ℕ × X). p e.1) (entries_in number held slots)
    entries_left = ap (entries_in number held) kept ∙ entries-kept p slots

    pub rising_left : AreRising number slots → AreRising number left
    rising_left rising = subst (AreRising number) (sym kept) (rising-kept number (λ (s : S). passes p (held s)) slots rising)

    pub below_left : (n : ℕ) → AreBelow number n slots → AreBelow number n left
    below_left n below = subst (AreBelow number n) (sym kept) (below-kept number (λ (s : S). passes p (held s)) n slots below)

  -- where only the empty slots go, all that stands stays
  pub entries_compacted : (slots left : List S) → left ≡ kept_slots held (λ x. true) slots → entries_in number held left ≡ entries_in number held slots
  entries_compacted slots left kept = entries_left (λ x. true) slots left kept ∙ all (entries_in number held slots)
    where
      all : (es : List (ℕ × X)) → filter (λ (e : ℕ × X). true) es ≡ es
      all [] = refl
      all (e ∷ es) = ap (λ more. e ∷ more) (all es)

  pub entries-append : (xs ys : List S) → entries_in number held (xs ++ ys) ≡ entries_in number held xs ++ entries_in number held ys
  entries-append [] ys = refl
  entries-append (s ∷ xs) ys = by (held s) (entries-append xs ys)
    where
      by : (o : Option X) → entries_in number held (xs ++ ys) ≡ entries_in number held xs ++ entries_in number held ys
          → entry_of (number s) o ++ entries_in number held (xs ++ ys) ≡ (entry_of (number s) o ++ entries_in number held xs) ++ entries_in number held ys
      by None later = later
      by (Some x) later = ap (λ more. (number s, x) ∷ more) later
