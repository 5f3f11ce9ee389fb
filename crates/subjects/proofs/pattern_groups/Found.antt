-- All places that pass, found hash by hash, then brought in order.
use Rattle.std.proofs.Common.{◌≡◌, ◌∙◌, ◌<◌, ◌≤◌, ◌+◌, ◌⊎◌, inl, inr, ℕ, zero, suc, Bool, true, false, true≢false, cond, List, [], ◌∷◌, ◌++◌, length, filter, ap, sym, refl, subst, arith}
use Rattle.std.specs.Prelude.{⊤, All, Contains, nat_lt}
use Rattle.std.specs.List.{range_with_len, slice_index_or, AllPairs}
use Rattle.std.specs.List.Sorted.{IsStrictlyIncreasing}
use Rattle.std.proofs.lemmas.Bool.Decides.{nat_tests}
use Rattle.std.proofs.lemmas.List.{get_or_default}
use Rattle.std.proofs.lemmas.List.Elements.{All-nil, All-head, All-tail, filter-append}
use Rattle.std.proofs.lemmas.List.Kept.{AllPairs-from_increasing}
use Rattle.subjects.specs.Subject.{Token, tokens_of}
use Rattle.subjects.specs.pattern_groups.Hashes.{IsOfFront, IsPast}
use Rattle.subjects.specs.pattern_groups.Links.{at, row_of, IsNext, IsFound, Finds, AreFound, AreFoundBut}

-- ---- lists that rise

abbrev Rising : List ℕ → Type 0
Rising [] = ⊤
Rising (x ∷ xs) = All (λ y. x < y) xs × Rising xs

rising : (xs : List ℕ) → AllPairs (λ x y. x < y) xs → Rising xs
rising [] all = tt
rising (x ∷ xs) all = (
  (λ k d below. all 0 (suc k) d (omega arith) (omega (arith, below))),
  rising xs (λ i j d before within. all (suc i) (suc j) d (omega (arith, before)) (omega (arith, within))),
)

abbrev IsWithin : (ℕ → Bool) → ℕ → ℕ → ℕ → Type 0
IsWithin p a n j = (a ≤ j) × (j < a + n) × (p j ≡ true)

abbrev Has : (ℕ → Bool) → ℕ → ℕ → List ℕ → Type 0
Has p a n xs = (j : ℕ) → a ≤ j → j < a + n → p j ≡ true → Contains xs j

-- what is among a first one and more is the first, or among the more
among : (x : ℕ) (xs : List ℕ) (j : ℕ) → Contains (x ∷ xs) j → (x ≡ j) ⊎ Contains xs j
among x xs j has = by has.0 has.1 has.2
  where
    by : (k : ℕ) → k < length (x ∷ xs) → slice_index_or (x ∷ xs) k j ≡ j → (x ≡ j) ⊎ Contains xs j
    by zero below is = inl is
    by (suc k) below is = inr (k, omega (arith, below), is)

-- whatever holds of all holds of one among them
holds_of : (P : ℕ → Type 0) (xs : List ℕ) (j : ℕ) → All P xs → Contains xs j → P j
holds_of P xs j all has = subst P has.2 (all has.0 j has.1)

-- all that are from a number on, and aren't that number, are from the next on
past : (p : ℕ → Bool) (a n : ℕ) (xs : List ℕ) → All (IsWithin p a (suc n)) xs → ((j : ℕ) → Contains xs j → a ≡ j → ⊥) → All (IsWithin p (a + 1) n) xs
past p a n xs all other k d below =
    let it = all k d below in
    let j = slice_index_or xs k d in
    let apart : a ≡ j → ⊥ = other j (k, below, slice_again k d below) in
    (omega (arith, it.0, apart), omega (arith, it.1), it.2)
  where
    slice_again : (k d : ℕ) → k < length xs → slice_index_or xs k (slice_index_or xs k d) ≡ slice_index_or xs k d
    slice_again k d below = get_or_default xs k (slice_index_or xs k d) d below

-- a rising list of just the numbers of a range that pass is the filter
exactly : (p : ℕ → Bool) (n a : ℕ) (xs : List ℕ) → Rising xs → All (IsWithin p a n) xs → Has p a n xs → xs ≡ filter p (range_with_len a n)
exactly p zero a [] up all has = refl
exactly p zero a (x ∷ xs) up all has =
    let it = All-head (IsWithin p a zero) x xs all in
    absurd (omega (arith, it.0, it.1))
exactly p (suc n) a xs up all has = by (p a) refl (λ ys up all has. exactly p n (a + 1) ys up all has)
  where
    Rest : Type 0
    Rest = (ys : List ℕ) → Rising ys → All (IsWithin p (a + 1) n) ys → Has p (a + 1) n ys → ys ≡ filter p (range_with_len (a + 1) n)

    first : (ys : List ℕ) → Rising ys → All (IsWithin p a (suc n)) ys → Has p a (suc n) ys → Contains ys a → Rest → ys ≡ a ∷ filter p (range_with_len (a + 1) n)
    first [] up all has it rest = absurd (omega (arith, it.1))
    first (y ∷ ys) up all has it rest =
        let least : (y ≡ a) ⊎ Contains ys a = among y ys a it in
        let same : y ≡ a = elim least [ inl e ↦ e | inr later ↦ absurd (omega (arith, holds_of (λ z. y < z) ys a up.0 later, (All-head (IsWithin p a (suc n)) y ys all).0)) ] in
        let behind : All (IsWithin p (a + 1) n) ys = past p a n ys (All-tail (IsWithin p a (suc n)) y ys all) (λ j later e. omega (arith, holds_of (λ z. y < z) ys j up.0 later, same, e)) in
        let more : Has p (a + 1) n ys = λ j from below passes. elim (among y ys j (has j (omega (arith, from)) (omega (arith, below)) passes)) [ inl e ↦ absurd (omega (arith, e, same, from)) | inr later ↦ later ] in
        ap (λ z. z ∷ ys) same ∙ ap (λ l. a ∷ l) (rest ys up.1 behind more)

    by : (b : Bool) → p a ≡ b → Rest → xs ≡ cond b (a ∷ filter p (range_with_len (a + 1) n)) (filter p (range_with_len (a + 1) n))
    by true e rest = first xs up all has (has a (omega arith) (omega arith) e) rest
    by false e rest =
        rest xs up (past p a n xs all (λ j it same. true≢false (sym (holds_of (IsWithin p a (suc n)) xs j all it).2 ∙ ap p (sym same) ∙ e)))
        (λ j from below passes. has j (omega (arith, from)) (omega (arith, below)) passes)

pub all_in_order : (passes : ℕ → Bool) (count : ℕ) (found : List ℕ) → IsStrictlyIncreasing found → AreFound passes count found → found ≡ filter passes (range_with_len 0 count)
all_in_order passes count found up are =
    exactly passes count 0 found (rising found (AllPairs-from_increasing found up))
    (λ k d below. (omega arith, omega (arith, (are.sound k d below).0), (are.sound k d below).1))
    (λ j from below pass. are.each j (omega (arith, below)) pass)

-- ---- one walk for a hash

pub walk_begun : (passes : ℕ → Bool) (hashes : List ℕ) (rows hash place : ℕ) (found : List ℕ) → IsNext hashes rows 0 (row_of hash rows) place → Finds passes hashes hash place found found
walk_begun passes hashes rows hash place found first = record {
  kept = λ j has. has;
  sound = λ all. all;
  each = λ j before inside e pass. absurd (first.none_before j (omega arith) before inside (ap (λ n. row_of n rows) e));
}

-- from a place to the next of its row
pub walk_on : (passes : ℕ → Bool) (hashes : List ℕ) (rows hash place next : ℕ) (old new more : List ℕ) → Finds passes hashes hash place old new →
    IsNext hashes rows (place + 1) (row_of (at hashes place) rows) next → row_of (at hashes place) rows ≡ row_of hash rows → place < length hashes →
    ((j : ℕ) → Contains new j → Contains more j) → (All (IsFound passes (length hashes)) new → All (IsFound passes (length hashes)) more) →
    (at hashes place ≡ hash → passes place ≡ true → Contains more place) → Finds passes hashes hash next old more
walk_on passes hashes rows hash place next old new more so_far following row inside keeps sound here = record {
  kept = λ j has. keeps j (so_far.kept j has);
  sound = λ all. sound (so_far.sound all);
  each = each;
}
  where
    each : (j : ℕ) → j < next → j < length hashes → at hashes j ≡ hash → passes j ≡ true → Contains more j
    each j before within e pass = by (nat_lt j place) (nat_lt place j) refl refl
      where
        by : (b c : Bool) → nat_lt j place ≡ b → nat_lt place j ≡ c → Contains more j
        by true c lower upper = keeps j (so_far.each j (grind (arith, nat_tests, lower)) within e pass)
        by false true lower upper = absurd (following.none_before j (grind (arith, nat_tests, upper)) before within (ap (λ n. row_of n rows) e ∙ sym row))
        by false false lower upper =
            let same : j ≡ place = grind (arith, nat_tests, lower, upper) in
            subst (Contains more) (sym same) (here (ap (at hashes) (sym same) ∙ e) (ap passes (sym same) ∙ pass))

-- ---- hash by hash

pub search_begun : (passes : ℕ → Bool) (hashes : List ℕ) (IsLeft : ℕ → Type 0) → ((j : ℕ) → j < length hashes → passes j ≡ true → IsLeft (at hashes j)) → AreFoundBut passes hashes IsLeft []
search_begun passes hashes IsLeft left = record {
  sound = All-nil (IsFound passes (length hashes));
  each = λ j below pass. inr (left j below pass);
}

-- one hash more
pub search_on : (passes : ℕ → Bool) (hashes : List ℕ) (IsLeft IsLeftThen : ℕ → Type 0) (hash : ℕ) (old new : List ℕ) → AreFoundBut passes hashes IsLeft old → Finds passes hashes hash (length hashes) old new →
    ((k : ℕ) → IsLeft k → (k ≡ hash) ⊎ IsLeftThen k) → AreFoundBut passes hashes IsLeftThen new
search_on passes hashes IsLeft IsLeftThen hash old new so_far more splits = record {
  sound = more.sound so_far.sound;
  each = λ j below pass. elim (so_far.each j below pass) [
    | inl has ↦ inl (more.kept j has)
    | inr left ↦ elim (splits (at hashes j) left) [
      | inl e ↦ inl (more.each j below below e pass)
      | inr later ↦ inr later
    ]
  ];
}

-- the last hash
pub search_ended : (passes : ℕ → Bool) (hashes : List ℕ) (hash : ℕ) (old new : List ℕ) → AreFoundBut passes hashes (λ k. k ≡ hash) old → Finds passes hashes hash (length hashes) old new → AreFound passes (length hashes) new
search_ended passes hashes hash old new so_far more = record {
  sound = more.sound so_far.sound;
  each = λ j below pass. elim (so_far.each j below pass) [
    | inl has ↦ more.kept j has
    | inr e ↦ more.each j below below e pass
  ];
}

-- a token more: what is left has the hash so far, or one of the tokens behind
pub past_splits : (n : ℕ) (text : List ℕ) (m : ℕ) (behind : List Token) → IsPast n text m behind → (k : ℕ) → IsOfFront k n (tokens_of text) → (k ≡ n) ⊎ IsOfFront k m behind
past_splits n text m behind past k left =
    let front : IsOfFront k n (past.0 ∷ behind) = subst (IsOfFront k n) past.1 left in
    elim front [ inl e ↦ inl e | inr later ↦ inr (subst (λ q. IsOfFront k q behind) (sym past.2) later) ]

range_more : (a n : ℕ) → range_with_len a (suc n) ≡ range_with_len a n ++ (a + n) ∷ []
range_more a zero = let same : a ≡ a + 0 = omega arith in ap (λ k. k ∷ []) same
range_more a (suc n) =
    let same : (a + 1) + n ≡ a + suc n = omega arith in
    ap (λ l. a ∷ l) (range_more (a + 1) n ∙ ap (λ k. range_with_len (a + 1) n ++ k ∷ []) same)

-- one index more
pub range_on : (passes : ℕ → Bool) (n : ℕ) (b : Bool) → passes n ≡ b → filter passes (range_with_len 0 (n + 1)) ≡ filter passes (range_with_len 0 n) ++ cond b (n ∷ []) []
range_on passes n b is =
    ap (filter passes) (ap (range_with_len 0) next ∙ range_more 0 n ∙ ap (λ k. range_with_len 0 n ++ k ∷ []) zero_more)
    ∙ filter-append passes (range_with_len 0 n) (n ∷ []) ∙ ap (λ c. filter passes (range_with_len 0 n) ++ cond c (n ∷ []) []) is
  where
    next : n + 1 ≡ suc n
    next = omega arith

    zero_more : 0 + n ≡ n
    zero_more = omega arith
