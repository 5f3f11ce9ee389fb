-- Draws: which destination each chooses, and how many choose it.
use Rattle.std.proofs.Common.{◌≡◌, ◌<◌, ◌≤◌, ◌+◌, ◌-◌, ◌∙◌, ◌==◌, ℕ, zero, suc, Bool, true, false, ◌&&◌, cond, ltb, leb, List, [], ◌∷◌, length, take, get_or, Option, Some, None, arith, refl, sym, ap, if◌then◌else◌}
use Rattle.std.specs.List.{count_by, position, position_or_len, range_with_len, sum_by}
use Rattle.std.specs.Option.{option_map}
use Rattle.std.proofs.lemmas.Bool.Decides.{nat_tests}
use Rattle.std.proofs.lemmas.List.Sums.{sum_by-cons, sum_by-take-le}
use Rattle.account_mappings.specs.Drawing.{Share, chosen, totals, weight_of, weights_of}
use Rattle.account_mappings.specs.Laws.{FairDraws, is_at}

-- ---- the first of a list, one element on

one_more : (n len : ℕ) (c : Bool) → ltb n len ≡ c → cond (ltb (1 + n) (suc len)) (Some (1 + n)) None ≡ option_map (λ k. 1 + k) (cond (ltb n len) (Some n) None)
one_more n len true h = let e : ltb (1 + n) (suc len) ≡ true = grind (arith, nat_tests, h) in rw (e, h) refl
one_more n len false h = let e : ltb (1 + n) (suc len) ≡ false = grind (arith, nat_tests, h) in rw (e, h) refl

pub position_more : (p : ℕ → Bool) (x : ℕ) (xs : List ℕ) (b : Bool) → p x ≡ b → position p (x ∷ xs) ≡ (if b then Some 0 else option_map (λ k. 1 + k) (position p xs))
position_more p x xs true e = let first : ltb 0 (suc (length xs)) ≡ true = grind (arith, nat_tests) in rw (e, first) refl
position_more p x xs false e = rw e (one_more (position_or_len p xs) (length xs) (ltb (position_or_len p xs) (length xs)) refl)

-- ---- the walk of the code

-- the first destination, from a place on, at which the weights so far add up to more than a draw
abbrev pub first_above : ℕ → ℕ → ℕ → List Share → Option ℕ
first_above draw total place [] = None
first_above draw total place (s ∷ ss) = if ltb draw (total + s.weight) then Some place else first_above draw (total + s.weight) (place + 1) ss

shifted : (place : ℕ) (o : Option ℕ) → option_map (λ k. (place + 1) + k) o ≡ option_map (λ k. place + k) (option_map (λ k. 1 + k) o)
shifted place None = refl
shifted place (Some k) = let e : (place + 1) + k ≡ place + (1 + k) = omega arith in ap (λ n. Some n) e

above_is : (draw total place : ℕ) (ss : List Share) → first_above draw total place ss ≡ option_map (λ k. place + k) (position (ltb draw) (totals total (weights_of ss)))
above_is draw total place [] = refl
above_is draw total place (s ∷ ss) = by (ltb draw (total + s.weight)) refl (above_is draw (total + s.weight) (place + 1) ss)
  where
    by : (b : Bool) → ltb draw (total + s.weight) ≡ b →
        first_above draw (total + s.weight) (place + 1) ss ≡ option_map (λ k. (place + 1) + k) (position (ltb draw) (totals (total + s.weight) (weights_of ss))) →
        (if b then Some place else first_above draw (total + s.weight) (place + 1) ss) ≡ option_map (λ k. place + k) (position (ltb draw) (totals total (weights_of (s ∷ ss))))
    by true e rest =
        let same : place + 0 ≡ place = omega arith in
        rw (position_more (ltb draw) (total + s.weight) (totals (total + s.weight) (weights_of ss)) true e) (ap (λ n. Some n) (sym same))
    by false e rest =
        rw (position_more (ltb draw) (total + s.weight) (totals (total + s.weight) (weights_of ss)) false e)
        (rest ∙ shifted place (position (ltb draw) (totals (total + s.weight) (weights_of ss))))

unshifted : (o : Option ℕ) → option_map (λ k. 0 + k) o ≡ o
unshifted None = refl
unshifted (Some k) = let e : 0 + k ≡ k = omega arith in ap (λ n. Some n) e

pub above_chosen : (draw : ℕ) (ss : List Share) → first_above draw 0 0 ss ≡ chosen draw (weights_of ss)
above_chosen draw ss = above_is draw 0 0 ss ∙ unshifted (position (ltb draw) (totals 0 (weights_of ss)))

-- whether weights add up to more than 100, from a total that doesn't
abbrev pub exceeds : ℕ → List Share → Bool
exceeds total [] = false
exceeds total (s ∷ ss) = if ltb 100 (total + s.weight) then true else exceeds (total + s.weight) ss

nothing : sum_by weight_of [] ≡ 0
nothing = refl

pub exceeds_is : (total : ℕ) (ss : List Share) → total ≤ 100 → exceeds total ss ≡ ltb 100 (total + sum_by weight_of ss)
exceeds_is total [] h =
    let none : ltb 100 (total + sum_by weight_of []) ≡ false = grind (arith, nat_tests, h, nothing) in
    sym none
exceeds_is total (s ∷ ss) h = by (ltb 100 (total + s.weight)) refl (λ low. exceeds_is (total + s.weight) ss low)
  where
    whole : sum_by weight_of (s ∷ ss) ≡ s.weight + sum_by weight_of ss
    whole = sum_by-cons weight_of s ss

    by : (b : Bool) → ltb 100 (total + s.weight) ≡ b → (total + s.weight ≤ 100 → exceeds (total + s.weight) ss ≡ ltb 100 ((total + s.weight) + sum_by weight_of ss)) →
        (if b then true else exceeds (total + s.weight) ss) ≡ ltb 100 (total + sum_by weight_of (s ∷ ss))
    by true e rest =
        let more : ltb 100 (total + sum_by weight_of (s ∷ ss)) ≡ true = grind (arith, nat_tests, e, whole) in
        sym more
    by false e rest =
        let low : total + s.weight ≤ 100 = grind (arith, nat_tests, e) in
        let same : (total + s.weight) + sum_by weight_of ss ≡ total + sum_by weight_of (s ∷ ss) = omega (arith, whole) in
        rest low ∙ ap (ltb 100) same

pub exceeds_all : (ss : List Share) → exceeds 0 ss ≡ ltb 100 (sum_by weight_of ss)
exceeds_all ss =
    let same : 0 + sum_by weight_of ss ≡ sum_by weight_of ss = omega arith in
    exceeds_is 0 ss (omega arith) ∙ ap (ltb 100) same

-- ---- the law: a destination is chosen by the draws between what those before it add up to, and that with its own weight

abbrev total : List ℕ → ℕ
total ws = sum_by (λ (w : ℕ). w) ws

total-cons : (w : ℕ) (ws : List ℕ) → total (w ∷ ws) ≡ w + total ws
total-cons w ws = sum_by-cons (λ (w : ℕ). w) w ws

total-nil : total [] ≡ 0
total-nil = refl

abbrev inside : ℕ → ℕ → ℕ → Bool
inside low high draw = leb low draw && ltb draw high

same_number : (k i : ℕ) (b : Bool) → (k == i) ≡ b → ((1 + k) == suc i) ≡ b
same_number k i true h = grind (arith, nat_tests, h)
same_number k i false h = grind (arith, nat_tests, h)

at_next : (i : ℕ) (o : Option ℕ) → is_at (suc i) (option_map (λ k. 1 + k) o) ≡ is_at i o
at_next i None = refl
at_next i (Some k) = same_number k i (k == i) refl

at_first : (b : Bool) (o : Option ℕ) → is_at 0 (if b then Some 0 else option_map (λ k. 1 + k) o) ≡ b
at_first true o = refl
at_first false None = refl
at_first false (Some k) = other
  where
    other : ((1 + k) == 0) ≡ false
    other = grind (arith, nat_tests)

chosen_inside : (draw before : ℕ) (ws : List ℕ) (i : ℕ) → before ≤ draw → i < length ws →
    is_at i (position (ltb draw) (totals before ws)) ≡ inside (before + total (take i ws)) (before + total (take (suc i) ws)) draw
chosen_inside draw before [] i h l = absurd (omega arith)
chosen_inside draw before (w ∷ ws) zero h l = by (ltb draw (before + w)) refl
  where
    by : (b : Bool) → ltb draw (before + w) ≡ b → is_at 0 (position (ltb draw) (totals before (w ∷ ws))) ≡ inside (before + total []) (before + total (w ∷ [])) draw
    by b e =
        let low : leb (before + total []) draw ≡ true = grind (arith, nat_tests, h, total-nil) in
        let one : before + total (w ∷ []) ≡ before + w = omega (arith, total-cons w [], total-nil) in
        rw (position_more (ltb draw) (before + w) (totals (before + w) ws) b e, low, one, e) (at_first b (position (ltb draw) (totals (before + w) ws)))
chosen_inside draw before (w ∷ ws) (suc i) h l = by (ltb draw (before + w)) refl (λ low. chosen_inside draw (before + w) ws i low (omega arith))
  where
    lows : before + total (w ∷ take i ws) ≡ (before + w) + total (take i ws)
    lows = omega (arith, total-cons w (take i ws))

    highs : before + total (w ∷ take (suc i) ws) ≡ (before + w) + total (take (suc i) ws)
    highs = omega (arith, total-cons w (take (suc i) ws))

    by : (b : Bool) → ltb draw (before + w) ≡ b →
        (before + w ≤ draw → is_at i (position (ltb draw) (totals (before + w) ws)) ≡ inside ((before + w) + total (take i ws)) ((before + w) + total (take (suc i) ws)) draw) →
        is_at (suc i) (position (ltb draw) (totals before (w ∷ ws))) ≡ inside (before + total (w ∷ take i ws)) (before + total (w ∷ take (suc i) ws)) draw
    by true e rest =
        let high : leb (before + total (w ∷ take i ws)) draw ≡ false = grind (arith, nat_tests, e, lows) in
        let other : (0 == suc i) ≡ false = grind (arith, nat_tests) in
        rw (position_more (ltb draw) (before + w) (totals (before + w) ws) true e, high, other) refl
    by false e rest =
        let low : before + w ≤ draw = grind (arith, nat_tests, e) in
        rw (position_more (ltb draw) (before + w) (totals (before + w) ws) false e, lows, highs)
        (at_next i (position (ltb draw) (totals (before + w) ws)) ∙ rest low)

count-cons : (p : ℕ → Bool) (x : ℕ) (xs : List ℕ) → count_by p (x ∷ xs) ≡ (if p x then 1 else 0) + count_by p xs
count-cons p x xs = sum_by-cons (λ y. if p y then 1 else 0) x xs

count_same : (p q : ℕ → Bool) → ((x : ℕ) → p x ≡ q x) → (xs : List ℕ) → count_by p xs ≡ count_by q xs
count_same p q h [] = refl
count_same p q h (x ∷ xs) =
    count-cons p x xs
    ∙ ap (λ b. (if b then 1 else 0) + count_by p xs) (h x)
    ∙ ap (λ n. (if q x then 1 else 0) + n) (count_same p q h xs)
    ∙ sym (count-cons q x xs)

between_by : (low high from rest : ℕ) (a b : Bool) → leb low from ≡ a → ltb from high ≡ b → rest ≡ (high - (from + 1)) - (low - (from + 1)) →
    (if a && b then 1 else 0) + rest ≡ (high - from) - (low - from)
between_by low high from rest true true e f h =
    let least : low ≤ from = grind (arith, nat_tests, e) in
    let most : from < high = grind (arith, nat_tests, f) in
    omega (arith, h, least, most)
between_by low high from rest true false e f h =
    let most : high ≤ from = grind (arith, nat_tests, f) in
    omega (arith, h, most)
between_by low high from rest false b e f h =
    let least : from < low = grind (arith, nat_tests, e) in
    omega (arith, h, least)

-- how many numbers of a range are between two
between : (low high from n : ℕ) → high ≤ from + n → count_by (inside low high) (range_with_len from n) ≡ (high - from) - (low - from)
between low high from zero h = omega (arith, h)
between low high from (suc n) h =
    count-cons (inside low high) from (range_with_len (from + 1) n) ∙ between_by low high from (count_by (inside low high) (range_with_len (from + 1) n)) (leb low from) (ltb from high) refl refl
    (between low high (from + 1) n (omega arith))

total_more : (ws : List ℕ) (i : ℕ) → i < length ws → total (take (suc i) ws) ≡ total (take i ws) + get_or ws i 0
total_more [] i l = absurd (omega arith)
total_more (w ∷ ws) zero l = omega (arith, total-cons w [], total-nil)
total_more (w ∷ ws) (suc i) l = omega (arith, total-cons w (take i ws), total-cons w (take (suc i) ws), total_more ws i (omega arith))

pub fair : FairDraws
fair weights most place l =
    let low = 0 + total (take place weights) in
    let high = 0 + total (take (suc place) weights) in
    let within : high ≤ 0 + 100 = omega (arith, most, sum_by-take-le (λ (w : ℕ). w) weights (suc place)) in
    count_same (λ draw. is_at place (chosen draw weights)) (inside low high) (λ draw. chosen_inside draw 0 weights place (omega arith) l) (range_with_len 0 100)
    ∙ between low high 0 100 within
    ∙ omega (arith, total_more weights place l)
