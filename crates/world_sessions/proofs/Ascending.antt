-- Numbers in ascending order: there is one such list of them.
use Rattle.std.proofs.Common.{◌≡◌, ◌∙◌, ◌==◌, ◌||◌, ◌⊎◌, inl, inr, ℕ, ◌+◌, ◌<◌, ◌≤◌, suc, Bool, true, false, cond, List, [], ◌∷◌, ap, sym, refl, arith, nat_le}
use Rattle.std.specs.Prelude.{AllPairs}
use Rattle.std.specs.List.{AllByRecursion, list_any, sum_by}
use Rattle.std.specs.List.Sorted.{IsPermutation, IsNonDecreasingBy}
use Rattle.std.proofs.lemmas.Bool.{eq-eqb, ne_eqb, leb-true, leb-false, cases_eq}
use Rattle.std.proofs.lemmas.List.Elements.{recursion_from_All, All-from_recursion}
use Rattle.std.proofs.lemmas.List.Kept.{AllPairs-cons}
use Rattle.std.proofs.lemmas.List.Recursion.{is_sum_by}
use Rattle.std.proofs.lemmas.List.Sorted.{sum_by-IsPermutation}
use Rattle.world_sessions.specs.Renewal.{with_number, ascending}

-- none is below the one before it
abbrev Ascends : List ℕ → Type 0
Ascends [] = Unit {0}
Ascends (n ∷ ns) = AllByRecursion (λ m. n ≤ m) ns × Ascends ns

-- how often a number stands in a list
abbrev once_if : ℕ → ℕ → ℕ
once_if n m = cond (m == n) 1 0

abbrev count : ℕ → List ℕ → ℕ
count n [] = 0
count n (m ∷ ms) = once_if n m + count n ms

once-same : (n : ℕ) → once_if n n ≡ 1
once-same n = ap (λ b. cond b 1 0) (eq-eqb n n refl)

-- what is below all of a list isn't in it
count-below : (n m : ℕ) (ms : List ℕ) → n < m → AllByRecursion (λ k. m ≤ k) ms → count n ms ≡ 0
count-below n m [] less all = refl
count-below n m (k ∷ ks) less all =
    let le : m ≤ k = all.0 in
    let apart : once_if n k ≡ 0 = ap (λ b. cond b 1 0) (ne_eqb k n (λ e. omega arith)) in
    let rest = count-below n m ks less all.1 in
    omega arith

none-of-none : (n : ℕ) (ns : List ℕ) → 0 ≡ count n (n ∷ ns) → ⊥
none-of-none n ns e = let one = once-same n in omega arith

-- a number that stands in one of two lists, and is below all of the other
below-none : (n m : ℕ) (ns ms : List ℕ) → n < m → AllByRecursion (λ k. m ≤ k) ms → count n (n ∷ ns) ≡ count n (m ∷ ms) → ⊥
below-none n m ns ms less all e =
    let one = once-same n in
    let other : once_if n m ≡ 0 = ap (λ b. cond b 1 0) (ne_eqb m n (λ same. omega arith)) in
    let none = count-below n m ms less all in
    omega arith

either : (m n : ℕ) → (m ≡ n → ⊥) → (m < n) ⊎ (n < m)
either m n ne = here (nat_le m n) refl
  where
    here : (b : Bool) → nat_le m n ≡ b → (m < n) ⊎ (n < m)
    here true is = inl (let h = leb-true m n is in omega arith)
    here false is = inr (leb-false m n is)

-- ascending numbers that stand equally often are the same
ascending_same : (ms ns : List ℕ) → Ascends ms → Ascends ns → ((n : ℕ) → count n ms ≡ count n ns) → ms ≡ ns
ascending_same [] [] a b counts = refl
ascending_same [] (n ∷ ns) a b counts = absurd (none-of-none n ns (counts n))
ascending_same (m ∷ ms) [] a b counts = absurd (none-of-none m ms (sym (counts m)))
ascending_same (m ∷ ms) (n ∷ ns) a b counts = here (cases_eq m n) (λ same. ascending_same ms ns a.1 b.1 same)
  where
    rest : m ≡ n → (k : ℕ) → count k ms ≡ count k ns
    rest e k =
        let c : once_if k m + count k ms ≡ once_if k n + count k ns = counts k in
        let d : once_if k m ≡ once_if k n = ap (once_if k) e in
        omega arith

    apart : (m ≡ n → ⊥) → (m < n) ⊎ (n < m) → ⊥
    apart ne (inl less) = below-none m n ms ns less b.0 (counts m)
    apart ne (inr less) = below-none n m ns ms less a.0 (sym (counts n))

    here : (m ≡ n) ⊎ (m ≡ n → ⊥) → (((k : ℕ) → count k ms ≡ count k ns) → ms ≡ ns) → (m ∷ ms) ≡ (n ∷ ns)
    here (inl e) tails = ap (λ k. k ∷ ms) e ∙ ap (λ ks. n ∷ ks) (tails (rest e))
    here (inr ne) tails = absurd (apart ne (either m n ne))

-- ---- numbers put in their places

-- a number in its place stands there once more
count-with : (k n : ℕ) (ms : List ℕ) → count k (with_number n ms) ≡ count k (n ∷ ms)
count-with k n [] = refl
count-with k n (m ∷ ms) = here (nat_le n m) (count-with k n ms)
  where
    here : (b : Bool) → count k (with_number n ms) ≡ count k (n ∷ ms) → count k (cond b (n ∷ m ∷ ms) (m ∷ with_number n ms)) ≡ count k (n ∷ m ∷ ms)
    here true later = refl
    here false later = omega arith

count-ascending : (k : ℕ) (ns : List ℕ) → count k (ascending ns) ≡ count k ns
count-ascending k [] = refl
count-ascending k (n ∷ ns) = let placed = count-with k n (ascending ns) in let rest = count-ascending k ns in omega arith

-- what holds of all of a list and of one more number, holds with it in its place
all-with : (P : ℕ → Type 0) (n : ℕ) (ms : List ℕ) → P n → AllByRecursion P ms → AllByRecursion P (with_number n ms)
all-with P n [] is all = (is, tt)
all-with P n (m ∷ ms) is all = here (nat_le n m) (all-with P n ms is all.1)
  where
    here : (b : Bool) → AllByRecursion P (with_number n ms) → AllByRecursion P (cond b (n ∷ m ∷ ms) (m ∷ with_number n ms))
    here true later = (is, all)
    here false later = (all.0, later)

all-weaker : (P Q : ℕ → Type 0) → ((k : ℕ) → P k → Q k) → (ms : List ℕ) → AllByRecursion P ms → AllByRecursion Q ms
all-weaker P Q weaker [] all = tt
all-weaker P Q weaker (m ∷ ms) all = (weaker m all.0, all-weaker P Q weaker ms all.1)

ascends-with : (n : ℕ) (ms : List ℕ) → Ascends ms → Ascends (with_number n ms)
ascends-with n [] a = (tt, tt)
ascends-with n (m ∷ ms) a = here (nat_le n m) refl (ascends-with n ms a.1)
  where
    here : (b : Bool) → nat_le n m ≡ b → Ascends (with_number n ms) → Ascends (cond b (n ∷ m ∷ ms) (m ∷ with_number n ms))
    here true is later =
        let le : n ≤ m = leb-true n m is in
        ((le, all-weaker (λ k. m ≤ k) (λ k. n ≤ k) (λ k h. omega arith) ms a.0), a)
    here false is later = (all-with (λ k. m ≤ k) n ms (let less = leb-false n m is in omega arith) a.0, later)

ascending-ascends : (ns : List ℕ) → Ascends (ascending ns)
ascending-ascends [] = tt
ascending-ascends (n ∷ ns) = ascends-with n (ascending ns) (ascending-ascends ns)

-- ---- a sort

ascends-from : (ns : List ℕ) → IsNonDecreasingBy (λ n. n) ns → Ascends ns
ascends-from [] rises = tt
ascends-from (n ∷ ns) rises = (
  recursion_from_All (λ m. n ≤ m) ns (λ k d h. rises 0 (suc k) d (omega arith) (omega arith)),
  ascends-from ns (λ i j d h l. rises (suc i) (suc j) d (omega arith) (omega arith)),
)

count-sum : (k : ℕ) (ns : List ℕ) → count k ns ≡ sum_by (once_if k) ns
count-sum k ns = is_sum_by (count k) (once_if k) refl (λ n rest. refl) ns

-- what a sort leaves are the numbers in ascending order
pub ascending_by_sort : (ns sorted : List ℕ) → IsPermutation ns sorted → IsNonDecreasingBy (λ n. n) sorted → sorted ≡ ascending ns
ascending_by_sort ns sorted moved rises =
    ascending_same sorted (ascending ns) (ascends-from sorted rises) (ascending-ascends ns)
    (λ k. count-sum k sorted ∙ sum_by-IsPermutation (once_if k) ns sorted moved ∙ sym (count-sum k ns) ∙ sym (count-ascending k ns))

-- ---- different numbers

-- whether a number is among them doesn't depend on their order
pub among-ascending : (k : ℕ) (ns : List ℕ) → list_any (λ (n : ℕ). n == k) (ascending ns) ≡ list_any (λ (n : ℕ). n == k) ns
among-ascending k [] = refl
among-ascending k (n ∷ ns) = among-with (ascending ns) ∙ ap (λ b. (n == k) || b) (among-ascending k ns)
  where
    or-swap : (a b c : Bool) → (a || (b || c)) ≡ (b || (a || c))
    or-swap true true c = refl
    or-swap true false c = refl
    or-swap false true c = refl
    or-swap false false c = refl

    here : (m : ℕ) (ms : List ℕ) (b : Bool) → list_any (λ (x : ℕ). x == k) (with_number n ms) ≡ list_any (λ (x : ℕ). x == k) (n ∷ ms) →
        list_any (λ (x : ℕ). x == k) (cond b (n ∷ m ∷ ms) (m ∷ with_number n ms)) ≡ list_any (λ (x : ℕ). x == k) (n ∷ m ∷ ms)
    here m ms true later = refl
    here m ms false later = ap (λ b. (m == k) || b) later ∙ or-swap (m == k) (n == k) (list_any (λ (x : ℕ). x == k) ms)

    among-with : (ms : List ℕ) → list_any (λ (x : ℕ). x == k) (with_number n ms) ≡ list_any (λ (x : ℕ). x == k) (n ∷ ms)
    among-with [] = refl
    among-with (m ∷ ms) = here m ms (nat_le n m) (among-with ms)

-- each is below those after it
abbrev Rises : List ℕ → Type 0
Rises [] = Unit {0}
Rises (n ∷ ns) = AllByRecursion (λ m. n < m) ns × Rises ns

-- no number stands twice
abbrev pub AreApart : List ℕ → Type 0
AreApart [] = Unit {0}
AreApart (n ∷ ns) = AllByRecursion (λ m. n ≡ m → ⊥) ns × AreApart ns

below : (n m : ℕ) → n ≤ m → (n ≡ m → ⊥) → n < m
below n m le ne = here (either n m ne)
  where
    here : (n < m) ⊎ (m < n) → n < m
    here (inl less) = less
    here (inr less) = absurd (omega arith)

rises-with : (n : ℕ) (ms : List ℕ) → AllByRecursion (λ m. n ≡ m → ⊥) ms → Rises ms → Rises (with_number n ms)
rises-with n [] new r = (tt, tt)
rises-with n (m ∷ ms) new r = here (nat_le n m) refl (rises-with n ms new.1 r.1)
  where
    here : (b : Bool) → nat_le n m ≡ b → Rises (with_number n ms) → Rises (cond b (n ∷ m ∷ ms) (m ∷ with_number n ms))
    here true is later =
        let less : n < m = below n m (leb-true n m is) new.0 in
        ((less, all-weaker (λ k. m < k) (λ k. n < k) (λ k h. omega arith) ms r.0), r)
    here false is later = (all-with (λ k. m < k) n ms (leb-false n m is) r.0, later)

all-ascending : (P : ℕ → Type 0) (ns : List ℕ) → AllByRecursion P ns → AllByRecursion P (ascending ns)
all-ascending P [] all = tt
all-ascending P (n ∷ ns) all = all-with P n (ascending ns) all.0 (all-ascending P ns all.1)

rises-ascending : (ns : List ℕ) → AreApart ns → Rises (ascending ns)
rises-ascending [] apart = tt
rises-ascending (n ∷ ns) apart = rises-with n (ascending ns) (all-ascending (λ m. n ≡ m → ⊥) ns apart.0) (rises-ascending ns apart.1)

pairs-from : (ns : List ℕ) → Rises ns → AllPairs (λ (m n : ℕ). m < n) ns
pairs-from [] r = λ i j d h l. absurd (omega arith)
pairs-from (n ∷ ns) r = AllPairs-cons (λ (m k : ℕ). m < k) n ns (All-from_recursion (λ k. n < k) ns r.0) (pairs-from ns r.1)

-- different numbers in ascending order rise
pub ascending-rises : (ns : List ℕ) → AreApart ns → AllPairs (λ (m n : ℕ). m < n) (ascending ns)
ascending-rises ns apart = pairs-from (ascending ns) (rises-ascending ns apart)
