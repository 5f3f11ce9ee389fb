-- Wildcards by their numbers, there and back.
use Rattle.std.proofs.Common.{◌≡◌, ◌<◌, ◌≤◌, ◌+◌, ◌-◌, ◌∙◌, ◌==◌, ℕ, zero, suc, Bool, true, false, not, ◌&&◌, ◌||◌, cond, ltb, leb, List, [], ◌∷◌, length, map, get_or, Option, Some, None, arith, refl, sym, ap}
use Rattle.std.specs.List.{list_all, range_with_len, position, position_or_len}
use Rattle.std.proofs.lemmas.Bool.{and_parts}
use Rattle.std.proofs.lemmas.Bool.Decides.{nat_tests}
use Rattle.std.proofs.lemmas.List.{ext_get_or, get_or-map, length-map}
use Rattle.std.proofs.lemmas.List.FromFn.{length-range_with_len, get_or-range_with_len, get_or-map-range_with_len}
use Rattle.std.proofs.lemmas.List.Sums.{prefix_len-le-length, passes_at_first}
use Rattle.subjects.specs.Subject.{Token, is_literal}
use Rattle.mapping.specs.Pairs.{numbered, contains, has_repeat, are_within, has_each, refers_to_each, inverse}

abbrev pub unplaced : Option ℕ → ℕ → ℕ
unplaced None n = n
unplaced (Some i) n = i

pub place_or_len : (p : ℕ → Bool) (xs : List ℕ) (found : Option ℕ) → found ≡ position p xs →
    (unplaced found (length xs) ≡ position_or_len p xs) × (unplaced found (length xs) ≤ length xs)
place_or_len p xs found e = by (ltb (position_or_len p xs) (length xs)) refl found e
  where
    le : position_or_len p xs ≤ length xs
    le = prefix_len-le-length (λ x. not (p x)) xs

    by : (b : Bool) → ltb (position_or_len p xs) (length xs) ≡ b → (f : Option ℕ) → f ≡ cond b (Some (position_or_len p xs)) None →
        (unplaced f (length xs) ≡ position_or_len p xs) × (unplaced f (length xs) ≤ length xs)
    by true t None g = absurd (cc)
    by true t (Some i) g = let same : i ≡ position_or_len p xs = cc in (same, omega (arith, same, le))
    by false t (Some i) g = absurd (cc)
    by false t None g = (grind (arith, nat_tests, le), omega arith)

-- a number's place in a list that has it
step : (n m : ℕ) (ns : List ℕ) (same : Bool) → (m == n) ≡ same → (same || contains n ns) ≡ true →
    (contains n ns ≡ true → position_or_len (λ k. k == n) ns < length ns) → cond (not same) (1 + position_or_len (λ k. k == n) ns) 0 < suc (length ns)
step n m ns true e c h = omega arith
step n m ns false e c h = omega (arith, h c)

pub place_within : (n : ℕ) (ns : List ℕ) → contains n ns ≡ true → position_or_len (λ k. k == n) ns < length ns
place_within n [] c = absurd (cc)
place_within n (m ∷ ns) c = step n m ns (m == n) refl c (place_within n ns)

pub place_has : (n : ℕ) (ns : List ℕ) → contains n ns ≡ true → get_or ns (position_or_len (λ k. k == n) ns) 0 ≡ n
place_has n ns c =
    let found = passes_at_first (λ k. k == n) ns 0 (place_within n ns c) in
    grind (arith, nat_tests, found)

-- each number of a list is in it
pub contains_at : (ns : List ℕ) (i : ℕ) → i < length ns → contains (get_or ns i 0) ns ≡ true
contains_at [] i h = absurd (omega arith)
contains_at (n ∷ ns) zero h = rw (same n) refl
  where
    same : (k : ℕ) → (k == k) ≡ true
    same k = grind (arith, nat_tests)
contains_at (n ∷ ns) (suc i) h = or_right (n == get_or ns i 0) (contains_at ns i (omega arith))
  where
    or_right : (a : Bool) {b : Bool} → b ≡ true → (a || b) ≡ true
    or_right true e = refl
    or_right false e = e

not_both : (a b : Bool) → (a || b) ≡ false → (a ≡ false) × (b ≡ false)
not_both true b h = absurd (cc)
not_both false b h = (refl, h)

-- where no number stands twice, each stands first at its own place
pub place_at : (ns : List ℕ) (i : ℕ) → has_repeat ns ≡ false → i < length ns → position_or_len (λ k. k == get_or ns i 0) ns ≡ i
place_at [] i o h = absurd (omega arith)
place_at (n ∷ ns) zero o h = rw (same n) refl
  where
    same : (k : ℕ) → (k == k) ≡ true
    same k = grind (arith, nat_tests)
place_at (n ∷ ns) (suc i) o h =
    let once = not_both (contains n ns) (has_repeat ns) o in
    let within : i < length ns = omega arith in
    let rest = place_at ns i once.1 within in
    by (n == get_or ns i 0) refl once.0 (contains_at ns i within) rest
  where
    by : (b : Bool) → (n == get_or ns i 0) ≡ b → contains n ns ≡ false → contains (get_or ns i 0) ns ≡ true →
        position_or_len (λ k. k == get_or ns i 0) ns ≡ i → cond (not b) (1 + position_or_len (λ k. k == get_or ns i 0) ns) 0 ≡ suc i
    by true e out ins rest =
        let same : n ≡ get_or ns i 0 = grind (arith, nat_tests, e) in
        absurd (let a : contains (get_or ns i 0) ns ≡ false = rw (← same) out in cc)
    by false e out ins rest = omega (arith, rest)

pub record IsWithin (n count : ℕ) : Type 0 where
  pub least : 1 ≤ n
  pub most : n ≤ count

test_within : (n count : ℕ) → (leb 1 n && leb n count) ≡ true → IsWithin n count
test_within n count h =
    let parts = and_parts (leb 1 n) (leb n count) h in
    record { least = grind (arith, nat_tests, parts.0); most = grind (arith, nat_tests, parts.1) }

pub within_at : (count : ℕ) (ns : List ℕ) (i : ℕ) → are_within count ns ≡ true → i < length ns → IsWithin (get_or ns i 0) count
within_at count [] i w h = absurd (omega arith)
within_at count (n ∷ ns) zero w h = test_within n count (and_parts (leb 1 n && leb n count) (are_within count ns) w).0
within_at count (n ∷ ns) (suc i) w h =
    within_at count ns i (and_parts (leb 1 n && leb n count) (are_within count ns) w).1 (omega arith)

-- a test that each number of a range passes
pub passed_at : (p : ℕ → Bool) (a n i : ℕ) → list_all p (range_with_len a n) ≡ true → i < n → p (a + i) ≡ true
passed_at p a zero i h l = absurd (omega arith)
passed_at p a (suc n) zero h l = let e : a + 0 ≡ a = omega arith in rw e (and_parts (p a) (list_all p (range_with_len (a + 1) n)) h).0
passed_at p a (suc n) (suc i) h l =
    let e : a + suc i ≡ (a + 1) + i = omega arith in
    rw e (passed_at p (a + 1) n i (and_parts (p a) (list_all p (range_with_len (a + 1) n)) h).1 (omega arith))

pub passed_all : (p : ℕ → Bool) (a n : ℕ) → ((i : ℕ) → i < n → p (a + i) ≡ true) → list_all p (range_with_len a n) ≡ true
passed_all p a zero h = refl
passed_all p a (suc n) h =
    let first : p (a + 0) ≡ true = h 0 (omega arith) in
    let e : a + 0 ≡ a = omega arith in
    let here : p a ≡ true = rw e at first in
    rw (here, passed_all p (a + 1) n (λ i l. let e : (a + 1) + i ≡ a + suc i = omega arith in rw e (h (suc i) (omega arith)))) refl

-- the token with a number is among the tokens in another order
pub numbered_in : (ts : List Token) (ns : List ℕ) (i : ℕ) → i < length ns → numbered (map (numbered ts) ns) (i + 1) ≡ numbered ts (get_or ns i 0)
numbered_in ts ns i h = let e : (i + 1) - 1 ≡ i = omega arith in rw e (get_or-map (numbered ts) ns i 0 [] h)

abbrev place : List ℕ → ℕ → ℕ
place ns n = position_or_len (λ m. m == n) ns

-- there and back
pub undone : (ts : List Token) (ns : List ℕ) → refers_to_each (length ts) ns ≡ true →
    map (numbered (map (numbered ts) ns)) (inverse (length ts) ns) ≡ ts
undone ts ns each = ext_get_or [] _ ts (length-map _ _ ∙ length-map _ _ ∙ length-range_with_len 1 (length ts)) at_place
  where
    has : has_each (length ts) ns ≡ true
    has = (and_parts (are_within (length ts) ns) (has_each (length ts) ns) each).1

    lengths : length (inverse (length ts) ns) ≡ length ts
    lengths = length-map _ _ ∙ length-range_with_len 1 (length ts)

    at_place : (i : ℕ) → i < length (map (numbered (map (numbered ts) ns)) (inverse (length ts) ns)) →
        get_or (map (numbered (map (numbered ts) ns)) (inverse (length ts) ns)) i [] ≡ get_or ts i []
    at_place i l =
        let within : i < length ts = omega (arith, l, length-map (inverse (length ts) ns) (numbered (map (numbered ts) ns)), lengths) in
        let among : contains (1 + i) ns ≡ true = passed_at (λ n. contains n ns) 1 (length ts) i has within in
        let inverse_at : get_or (inverse (length ts) ns) i 0 ≡ place ns (1 + i) + 1 = get_or-map-range_with_len (λ n. place ns n + 1) 1 (length ts) i (1 + i) 0 within refl in
        let same : (1 + i) - 1 ≡ i = omega arith in
        get_or-map (numbered (map (numbered ts) ns)) (inverse (length ts) ns) i 0 [] (omega (arith, within, lengths))
        ∙ ap (numbered (map (numbered ts) ns)) inverse_at
        ∙ numbered_in ts ns (place ns (1 + i)) (place_within (1 + i) ns among)
        ∙ ap (numbered ts) (place_has (1 + i) ns among)
        ∙ ap (λ k. get_or ts k []) same

-- and back and there
pub redone : (count : ℕ) (ts : List Token) (ns : List ℕ) → are_within count ns ≡ true → has_repeat ns ≡ false → length ts ≡ length ns →
    map (numbered (map (numbered ts) (inverse count ns))) ns ≡ ts
redone count ts ns w once len = ext_get_or [] _ ts (length-map _ _ ∙ sym len) at_place
  where
    at_place : (i : ℕ) → i < length (map (numbered (map (numbered ts) (inverse count ns))) ns) →
        get_or (map (numbered (map (numbered ts) (inverse count ns))) ns) i [] ≡ get_or ts i []
    at_place i l =
        let within : i < length ns = omega (arith, l, length-map ns (numbered (map (numbered ts) (inverse count ns)))) in
        let n = get_or ns i 0 in
        let inside = within_at count ns i w within in
        let low : n - 1 < count = omega (arith, inside.least, inside.most) in
        let back : (n - 1) + 1 ≡ n = omega (arith, inside.least) in
        let from : 1 + (n - 1) ≡ n = omega (arith, inside.least) in
        let len_inverse : length (inverse count ns) ≡ count = length-map _ _ ∙ length-range_with_len 1 count in
        let inverse_at : get_or (inverse count ns) (n - 1) 0 ≡ place ns n + 1 = get_or-map-range_with_len (λ k. place ns k + 1) 1 count (n - 1) n 0 low from in
        let same : (i + 1) - 1 ≡ i = omega arith in
        get_or-map (numbered (map (numbered ts) (inverse count ns))) ns i 0 [] within
        ∙ ap (numbered (map (numbered ts) (inverse count ns))) (sym back)
        ∙ numbered_in ts (inverse count ns) (n - 1) (omega (arith, low, len_inverse))
        ∙ ap (numbered ts) (inverse_at ∙ ap (λ k. k + 1) (place_at ns i once within))
        ∙ ap (λ k. get_or ts k []) same

within-from : (ns : List ℕ) (a n : ℕ) → ((i : ℕ) → i < n → contains (a + i) ns ≡ true) →
    are_within (length ns) (map (λ k. place ns k + 1) (range_with_len a n)) ≡ true
within-from ns a zero f = refl
within-from ns a (suc n) f =
    let first : contains (a + 0) ns ≡ true = f 0 (omega arith) in
    let e : a + 0 ≡ a = omega arith in
    let here : contains a ns ≡ true = rw e at first in
    let low : leb 1 (place ns a + 1) ≡ true = grind (arith, nat_tests) in
    let high : leb (place ns a + 1) (length ns) ≡ true = grind (arith, nat_tests, place_within a ns here) in
    rw (low, high, within-from ns (a + 1) n (λ i l. let e : (a + 1) + i ≡ a + suc i = omega arith in rw e (f (suc i) (omega arith)))) refl

-- the inverse's numbers are those of references
pub within-inverse : (count : ℕ) (ns : List ℕ) → has_each count ns ≡ true → are_within (length ns) (inverse count ns) ≡ true
within-inverse count ns h = within-from ns 1 count (λ i l. passed_at (λ n. contains n ns) 1 count i h l)

pub length-inverse : (count : ℕ) (ns : List ℕ) → length (inverse count ns) ≡ count
length-inverse count ns = length-map _ _ ∙ length-range_with_len 1 count

-- literal tokens in another order are literal
literal_at : (ts : List Token) (i : ℕ) → list_all is_literal ts ≡ true → i < length ts → is_literal (get_or ts i []) ≡ true
literal_at [] i l h = absurd (omega arith)
literal_at (t ∷ ts) zero l h = (and_parts (is_literal t) (list_all is_literal ts) l).0
literal_at (t ∷ ts) (suc i) l h = literal_at ts i (and_parts (is_literal t) (list_all is_literal ts) l).1 (omega arith)

pub literal-numbered : (ts : List Token) (n : ℕ) → list_all is_literal ts ≡ true → 1 ≤ n → n ≤ length ts → is_literal (numbered ts n) ≡ true
literal-numbered ts n l low high = literal_at ts (n - 1) l (omega arith)

pub literal-order : (ts : List Token) (ns : List ℕ) → list_all is_literal ts ≡ true → are_within (length ts) ns ≡ true → list_all is_literal (map (numbered ts) ns) ≡ true
literal-order ts [] l w = refl
literal-order ts (n ∷ ns) l w =
    let parts = and_parts (leb 1 n && leb n (length ts)) (are_within (length ts) ns) w in
    let inside = test_within n (length ts) parts.0 in
    rw (literal-numbered ts n l inside.least inside.most, literal-order ts ns l parts.1) refl

-- the numbers from 1 to count are each once there
no_less : (a n m : ℕ) → m < a → contains m (range_with_len a n) ≡ false
no_less a zero m h = refl
no_less a (suc n) m h =
    let other : (a == m) ≡ false = grind (arith, nat_tests) in
    rw (other, no_less (a + 1) n m (omega arith)) refl

pub once-range : (a n : ℕ) → has_repeat (range_with_len a n) ≡ false
once-range a zero = refl
once-range a (suc n) = rw (no_less (a + 1) n a (omega arith), once-range (a + 1) n) refl

pub within-range : (a n count : ℕ) → 1 ≤ a → a + n ≤ count + 1 → are_within count (range_with_len a n) ≡ true
within-range a zero count low high = refl
within-range a (suc n) count low high =
    let least : leb 1 a ≡ true = grind (arith, nat_tests) in
    let most : leb a count ≡ true = grind (arith, nat_tests) in
    rw (least, most, within-range (a + 1) n count (omega arith) (omega arith)) refl

pub each-range : (count : ℕ) → refers_to_each count (range_with_len 1 count) ≡ true
each-range count =
    rw (within-range 1 count count (omega arith) (omega arith), passed_all (λ n. contains n (range_with_len 1 count)) 1 count among) refl
  where
    among : (i : ℕ) → i < count → contains (1 + i) (range_with_len 1 count) ≡ true
    among i l =
        let h = contains_at (range_with_len 1 count) i (omega (arith, l, length-range_with_len 1 count)) in
        rw (get_or-range_with_len 1 count i 0 l) at h
