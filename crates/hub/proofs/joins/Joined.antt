-- Parts at whose numbers nothing is wrong are one history.
use Rattle.std.proofs.Common.{◌≡◌, ◌∙◌, ◌==◌, ◌&&◌, ◌||◌, ◌⊎◌, inl, inr, ℕ, suc, zero, ◌+◌, ◌*◌, ◌<◌, ◌≤◌, Bool, true, false, not, cond, List, [], ◌∷◌, ◌++◌, filter, length, get_or, take, drop, ap, sym, refl, subst, arith}
use Rattle.std.specs.Prelude.{All, nat_lt, nat_le}
use Rattle.std.specs.List.{list_any}
use Rattle.std.proofs.lemmas.Bool.{lt-ltb, le-leb, ltb-true, ltb-false, leb-true, leb-false, eqb-true, eq-eqb, ne_eqb}
use Rattle.std.proofs.lemmas.List.{get_or_default, take-append-le, drop-append-le, length-drop, length-append, append-nil}
use Rattle.std.proofs.Math.Seq.{drop-append_seam, take-append_seam, get_or-append_seam}
use Rattle.std.proofs.lemmas.List.Elements.{All-head, All-tail}
use Rattle.events.specs.declared.answer.Entry.{Entry}
use Rattle.world.specs.World.{World}
use Rattle.hub.specs.History.{State, IsOpening, IsLegalRun}
use Rattle.hub.specs.Segments.{HistoryPart, IsHistoryPart, IsReached, first_number, tail_of}
use Rattle.hub.specs.joins.Joins.{parts_of, has_number, due, is_empty, place, may_precede, is_between, may_be_before, is_judged, IsRight, AreOneHistory}
use Rattle.hub.proofs.Finds.{any-none}
use Rattle.hub.proofs.joins.Pushed.{All-back}
use Rattle.hub.proofs.Parts.{legal-append, run-number, opens}

-- ---- lists

-- where each fails the test, none passes
any-nothing : {X : Type 0} (t : X → Bool) (xs : List X) → All (λ x. t x ≡ false) xs → list_any t xs ≡ false
any-nothing t [] none = refl
any-nothing t (x ∷ xs) none =
    ap (λ b. b || list_any t xs) (All-head (λ y. t y ≡ false) x xs none) ∙ any-nothing t xs (All-tail (λ y. t y ≡ false) x xs none)

-- one that passes
abbrev pub Passes : {X : Type 0} → (X → Bool) → List X → X → Type 0
Passes t xs d = (i : ℕ) × (i < length xs) × (t (get_or xs i d) ≡ true)

pub any-one : {X : Type 0} (t : X → Bool) (xs : List X) (d : X) → list_any t xs ≡ true → Passes t xs d
any-one t [] d e = absurd (cc)
any-one {X} t (x ∷ xs) d e = here (t x) refl e (any-one t xs d)
  where
    here : (b : Bool) → t x ≡ b → (b || list_any t xs) ≡ true → (list_any t xs ≡ true → Passes t xs d) → Passes t (x ∷ xs) d
    here true h e' later = (0, omega arith, h)
    here false h e' later = let r = later e' in let lt = r.1 in (suc r.0, omega (arith, lt), r.2)

-- how many pass
abbrev count : {X : Type 0} → (X → Bool) → List X → ℕ
count t xs = length (filter t xs)

one-more : {X : Type 0} (b : Bool) (x : X) (ys : List X) → b ≡ true → length (cond b (x ∷ ys) ys) ≡ length ys + 1
one-more true x ys e = omega arith
one-more false x ys e = absurd (cc)

no-fewer : {X : Type 0} (b : Bool) (x : X) (ys : List X) → length ys ≤ length (cond b (x ∷ ys) ys)
no-fewer true x ys = omega arith
no-fewer false x ys = omega arith

count-positive : {X : Type 0} (t : X → Bool) (xs : List X) (i : ℕ) (d : X) → i < length xs → t (get_or xs i d) ≡ true → 1 ≤ count t xs
count-positive t [] i d lt h = absurd (omega (arith, lt))
count-positive t (x ∷ xs) zero d lt h = let e = one-more (t x) x (filter t xs) h in omega (arith, e)
count-positive t (x ∷ xs) (suc i) d lt h =
    let later = count-positive t xs i d (omega (arith, lt)) h in
    let more = no-fewer (t x) x (filter t xs) in
    omega (arith, later, more)

-- where one passes at most, it stands at one place
count-one : {X : Type 0} (t : X → Bool) (xs : List X) (i j : ℕ) (d : X) → i < length xs → j < length xs → t (get_or xs i d) ≡ true → t (get_or xs j d) ≡ true → count t xs ≤ 1 → i ≡ j
count-one t [] i j d li lj hi hj le = absurd (omega (arith, li))
count-one t (x ∷ xs) zero zero d li lj hi hj le = refl
count-one t (x ∷ xs) zero (suc j) d li lj hi hj le =
    let e = one-more (t x) x (filter t xs) hi in
    let later = count-positive t xs j d (omega (arith, lj)) hj in
    absurd (omega (arith, e, later, le))
count-one t (x ∷ xs) (suc i) zero d li lj hi hj le =
    let e = one-more (t x) x (filter t xs) hj in
    let later = count-positive t xs i d (omega (arith, li)) hi in
    absurd (omega (arith, e, later, le))
count-one t (x ∷ xs) (suc i) (suc j) d li lj hi hj le =
    let more = no-fewer (t x) x (filter t xs) in
    ap suc (count-one t xs i j d (omega (arith, li)) (omega (arith, lj)) hi hj (omega (arith, le, more)))

count-some : {X : Type 0} (t : X → Bool) (xs : List X) (d : X) → 1 ≤ count t xs → Passes t xs d
count-some t [] d le = absurd (omega (arith, le))
count-some {X} t (x ∷ xs) d le = here (t x) refl le (count-some t xs d)
  where
    here : (b : Bool) → t x ≡ b → 1 ≤ length (cond b (x ∷ filter t xs) (filter t xs)) → (1 ≤ count t xs → Passes t xs d) → Passes t (x ∷ xs) d
    here true h le' later = (0, omega arith, h)
    here false h le' later = let r = later le' in let lt = r.1 in (suc r.0, omega (arith, lt), r.2)

-- ---- numbers

has : (p : HistoryPart) (n : ℕ) → p.opening.number < n → n ≤ p.closing.number → has_number n p ≡ true
has p n low high = ap (λ b. b && nat_le n p.closing.number) (lt-ltb _ _ low) ∙ le-leb _ _ high

has-low : (p : HistoryPart) (n : ℕ) → has_number n p ≡ true → p.opening.number < n
has-low p n h = by (nat_lt p.opening.number n) refl h
  where
    by : (b : Bool) → nat_lt p.opening.number n ≡ b → (b && nat_le n p.closing.number) ≡ true → p.opening.number < n
    by true e h' = ltb-true _ _ e
    by false e h' = absurd (cc)

has-high : (p : HistoryPart) (n : ℕ) → has_number n p ≡ true → n ≤ p.closing.number
has-high p n h = by (nat_lt p.opening.number n) refl h
  where
    by : (b : Bool) → nat_lt p.opening.number n ≡ b → (b && nat_le n p.closing.number) ≡ true → n ≤ p.closing.number
    by true e h' = leb-true _ _ h'
    by false e h' = absurd (cc)

due-one : (last n : ℕ) → 1 ≤ n → n ≤ last → due last n ≡ 1
due-one last n low high =
    ap (λ b. cond (b && nat_le n last) 1 0) (lt-ltb 0 n low) ∙ ap (λ b. cond b 1 0) (le-leb n last high)

due-most : (last n : ℕ) → due last n ≤ 1
due-most last n = by (nat_lt 0 n && nat_le n last)
  where
    by : (b : Bool) → cond b 1 0 ≤ 1
    by true = omega arith
    by false = omega arith

due-above : (last n : ℕ) → 1 ≤ due last n → n ≤ last
due-above last n h = by (nat_lt 0 n) (nat_le n last) refl h
  where
    by : (a b : Bool) → nat_le n last ≡ b → 1 ≤ cond (a && b) 1 0 → n ≤ last
    by true true e h' = leb-true _ _ e
    by true false e h' = absurd (omega (arith, h'))
    by false true e h' = leb-true _ _ e
    by false false e h' = absurd (omega (arith, h'))

-- ---- parts

-- a part without entries ends where it begins, and one with entries ends above
abbrev pub Kind : HistoryPart → Type 0
Kind p =
    ((place p ≡ 2 * p.opening.number) × (p.closing ≡ p.opening) × (is_empty p ≡ true))
    ⊎ ((place p ≡ 2 * p.opening.number + 1) × (p.opening.number < p.closing.number) × (is_empty p ≡ false))

pub kind : (w : World) (es : List Entry) (after : World) → IsLegalRun w es after → Kind (record { opening = w; entries = es; closing = after })
unfolding IsLegalRun
kind w [] after run = inl (omega arith, run, refl)
kind w (x ∷ es) after run =
    let n = run-number w (x ∷ es) after run in
    let some : (length (x ∷ es) == 0) ≡ false = ne_eqb _ _ (λ (e : length (x ∷ es) ≡ 0). omega (arith, e)) in
    inr (ap (λ (b : Bool). 2 * w.number + cond b 0 1) some, omega (arith, n), some)

-- each number stands in as many parts as it is to
abbrev IsCounted : List HistoryPart → ℕ → Type 0
IsCounted ps last = (n : ℕ) → length (filter (has_number n) ps) ≡ due last n

-- two parts with one number are one
only : (ps : List HistoryPart) (d : HistoryPart) (last : ℕ) → IsCounted ps last → (n i j : ℕ) → i < length ps → j < length ps →
    has_number n (get_or ps i d) ≡ true → has_number n (get_or ps j d) ≡ true → i ≡ j
only ps d last one n i j li lj hi hj =
    let e = one n in let m = due-most last n in
    count-one (has_number n) ps i j d li lj hi hj (omega (arith, e, m))

-- and no number is above the last
below : (ps : List HistoryPart) (d : HistoryPart) (last : ℕ) → IsCounted ps last → (n i : ℕ) → i < length ps → has_number n (get_or ps i d) ≡ true → n ≤ last
below ps d last one n i li hi =
    let e = one n in let p = count-positive (has_number n) ps i d li hi in
    due-above last n (omega (arith, e, p))

-- What is known of parts, of which d is one, with the last number, and which of them are judged.
pub record Facts (ps : List HistoryPart) (d : HistoryPart) (last : ℕ) (judged : HistoryPart → Bool) : Type 0 where
  pub legal : (i : ℕ) → i < length ps → IsLegalRun (get_or ps i d).opening (get_or ps i d).entries (get_or ps i d).closing
  pub reached : (i : ℕ) → i < length ps → IsReached (get_or ps i d).opening
  pub one : IsCounted ps last
  pub begins : (q : ℕ) → q < length ps → judged (get_or ps q d) ≡ true → (p : ℕ) → p < length ps → may_be_before ps (get_or ps q d) (get_or ps p d) ≡ true →
      (get_or ps q d).opening ≡ (get_or ps p d).closing
  pub lower : (p q : HistoryPart) → place p ≤ place q → judged q ≡ true → judged p ≡ true
  pub entered : (q : ℕ) → q < length ps → (get_or ps q d).opening.number < (get_or ps q d).closing.number → judged (get_or ps q d) ≡ true
  pub here : ℕ
  pub within : here < length ps
  pub is : get_or ps here d ≡ d
  pub present : d.closing.number ≡ last
  pub owned : judged d ≡ true

kind-at : (ps : List HistoryPart) (d : HistoryPart) (last : ℕ) (judged : HistoryPart → Bool) → Facts ps d last judged → (i : ℕ) → i < length ps → Kind (get_or ps i d)
kind-at ps d last judged f i li = kind (get_or ps i d).opening (get_or ps i d).entries (get_or ps i d).closing (f.legal i li)

-- a part is not between where that is absurd
not-between : (p q r : HistoryPart) → (place p < place r → place r < place q → ⊥) → is_between p q r ≡ false
not-between p q r never = by (nat_lt (place p) (place r)) (nat_lt (place r) (place q)) refl refl
  where
    by : (a b : Bool) → nat_lt (place p) (place r) ≡ a → nat_lt (place r) (place q) ≡ b → (a && b) ≡ false
    by true true e f = absurd (never (ltb-true _ _ e) (ltb-true _ _ f))
    by true false e f = refl
    by false true e f = refl
    by false false e f = refl

-- a part below another, with none between, may be the one before it
before-by : (ps : List HistoryPart) (d : HistoryPart) (q p : HistoryPart) → may_precede p q ≡ true → ((u : ℕ) → u < length ps → place p < place (get_or ps u d) → place (get_or ps u d) < place q → ⊥) → may_be_before ps q p ≡ true
before-by ps d q p precedes none =
    let no : list_any (is_between p q) ps ≡ false = any-nothing (is_between p q) ps (λ k e lt. nothing k e lt) in
    ap (λ b. b && not (list_any (is_between p q) ps)) precedes ∙ ap not no
  where
    same : (k : ℕ) (e : HistoryPart) → k < length ps → get_or ps k e ≡ get_or ps k d
    same k e lt = get_or_default ps k e d lt

    nothing : (k : ℕ) (e : HistoryPart) → k < length ps → is_between p q (get_or ps k e) ≡ false
    nothing k e lt = ap (is_between p q) (same k e lt) ∙ not-between p q (get_or ps k d) (none k lt)

or-true : (b : Bool) → (b || true) ≡ true
or-true true = refl
or-true false = refl

precedes-below : (p q : HistoryPart) → place p < place q → may_precede p q ≡ true
precedes-below p q lt = ap (λ b. b || (is_empty q && place p == place q)) (lt-ltb _ _ lt)

precedes-equal : (p q : HistoryPart) → place p ≡ place q → is_empty q ≡ true → may_precede p q ≡ true
precedes-equal p q e empty =
    ap (λ b. nat_lt (place p) (place q) || (b && place p == place q)) empty
    ∙ ap (λ b. nat_lt (place p) (place q) || b) (eq-eqb _ _ e)
    ∙ or-true (nat_lt (place p) (place q))

-- ---- a run through the parts

abbrev Slice : List Entry → HistoryPart → Type 0
Slice es p = take (length p.entries) (drop p.opening.number es) ≡ p.entries

-- The parts up to a number are one run.
pub record Upto (ps : List HistoryPart) (d : HistoryPart) (judged : HistoryPart → Bool) (k : ℕ) : Type 0 where
  pub first : World
  pub opens : IsOpening first
  pub entries : List Entry
  pub now : World
  pub run : IsLegalRun first entries now
  pub number : now.number ≡ k
  -- the next parts begin in its last world
  pub joined : (r : ℕ) → r < length ps → judged (get_or ps r d) ≡ true → (get_or ps r d).opening.number ≡ k → (get_or ps r d).opening ≡ now
  -- and a part ends there
  pub ends : (k ≡ 0) ⊎ ((p : ℕ) × (p < length ps) × ((get_or ps p d).opening.number < k) × ((get_or ps p d).closing ≡ now))
  pub slices : (p : ℕ) → p < length ps → (get_or ps p d).closing.number ≤ k → Slice entries (get_or ps p d)

-- no part begins within another, as far as j
abbrev Clear : List HistoryPart → HistoryPart → ℕ → ℕ → Type 0
Clear ps d q j =
    (t : ℕ) → t < length ps → (get_or ps t d).opening.number < j → (get_or ps q d).opening.number < (get_or ps t d).opening.number →
    (get_or ps t d).opening.number < (get_or ps q d).closing.number → ⊥

between-clear : (ps : List HistoryPart) (d : HistoryPart) (q j t u : ℕ) → Clear ps d q j → u < length ps → Kind (get_or ps u d) → (get_or ps t d).opening.number < suc j →
    (get_or ps t d).opening.number < (get_or ps q d).closing.number → place (get_or ps t d) ≡ 2 * (get_or ps t d).opening.number →
    place (get_or ps q d) ≡ 2 * (get_or ps q d).opening.number + 1 → place (get_or ps q d) < place (get_or ps u d) → place (get_or ps u d) < place (get_or ps t d) → ⊥
between-clear ps d q j t u clear lu (inl k) under high even odd above lower =
    let e = k.0 in clear u lu (omega (arith, e, even, lower, under)) (omega (arith, e, odd, above)) (omega (arith, e, even, lower, high))
between-clear ps d q j t u clear lu (inr k) under high even odd above lower =
    let e = k.0 in clear u lu (omega (arith, e, even, lower, under)) (omega (arith, e, odd, above)) (omega (arith, e, even, lower, high))

-- one more
clear-more : (ps : List HistoryPart) (d : HistoryPart) (last : ℕ) (judged : HistoryPart → Bool) → Facts ps d last judged → (q r j t : ℕ) → q < length ps → t < length ps →
    place (get_or ps q d) ≡ 2 * (get_or ps q d).opening.number + 1 → judged (get_or ps r d) ≡ true →
    (get_or ps q d).closing.number ≤ (get_or ps r d).opening.number → 2 * (get_or ps r d).opening.number ≤ place (get_or ps r d) →
    (get_or ps t d).opening.number < suc j → (get_or ps q d).opening.number < (get_or ps t d).opening.number →
    (get_or ps t d).opening.number < (get_or ps q d).closing.number → Clear ps d q j → Kind (get_or ps t d) → ⊥
clear-more ps d last judged f q r j t lq lt odd jr upto even under low high clear (inl k) =
    let at = k.0 in
    let jt : judged (get_or ps t d) ≡ true = f.lower (get_or ps t d) (get_or ps r d) (omega (arith, at, high, upto, even)) jr in
    let before = before-by ps d (get_or ps t d) (get_or ps q d) (precedes-below (get_or ps q d) (get_or ps t d) (omega (arith, at, odd, low)))
    (λ u lu above lower. between-clear ps d q j t u clear lu (kind-at ps d last judged f u lu) under high at odd above lower) in
    let same = f.begins t lt jt q lq before in
    let e = ap (λ (w : World). w.number) same in
    omega (arith, e, high)
clear-more ps d last judged f q r j t lq lt odd jr upto even under low high clear (inr k) =
    let n = (get_or ps t d).opening.number + 1 in
    let grows = k.1 in
    let ht = has (get_or ps t d) n (omega arith) (omega (arith, grows)) in
    let hq = has (get_or ps q d) n (omega (arith, low)) (omega (arith, high)) in
    let same : t ≡ q = only ps d last f.one n t q lt lq ht hq in
    let e = ap (λ (i : ℕ). (get_or ps i d).opening.number) same in
    omega (arith, e, low)

all-clear : (ps : List HistoryPart) (d : HistoryPart) (last : ℕ) (judged : HistoryPart → Bool) → Facts ps d last judged → (q r : ℕ) → q < length ps →
    place (get_or ps q d) ≡ 2 * (get_or ps q d).opening.number + 1 → judged (get_or ps r d) ≡ true →
    (get_or ps q d).closing.number ≤ (get_or ps r d).opening.number → 2 * (get_or ps r d).opening.number ≤ place (get_or ps r d) → (j : ℕ) → Clear ps d q j
all-clear ps d last judged f q r lq odd jr upto even zero t lt under low high = omega (arith, under)
all-clear ps d last judged f q r lq odd jr upto even (suc j) t lt under low high =
    clear-more ps d last judged f q r j t lq lt odd jr upto even under low high (all-clear ps d last judged f q r lq odd jr upto even j) (kind-at ps d last judged f t lt)

-- ---- the next part

-- a part that begins where one with entries ends begins in the world in which that ends
next-between : (ps : List HistoryPart) (d : HistoryPart) (q r u : ℕ) → Clear ps d q (get_or ps r d).opening.number → u < length ps → Kind (get_or ps u d) →
    (get_or ps r d).opening.number ≡ (get_or ps q d).closing.number → place (get_or ps q d) ≡ 2 * (get_or ps q d).opening.number + 1 →
    place (get_or ps q d) < place (get_or ps u d) → place (get_or ps u d) < 2 * (get_or ps r d).opening.number → ⊥
next-between ps d q r u clear lu (inl k) at odd above lower =
    let e = k.0 in clear u lu (omega (arith, e, lower)) (omega (arith, e, odd, above)) (omega (arith, e, lower, at))
next-between ps d q r u clear lu (inr k) at odd above lower =
    let e = k.0 in clear u lu (omega (arith, e, lower)) (omega (arith, e, odd, above)) (omega (arith, e, lower, at))

next-empty : (ps : List HistoryPart) (d : HistoryPart) (last : ℕ) (judged : HistoryPart → Bool) → Facts ps d last judged → (q r : ℕ) → q < length ps → r < length ps →
    place (get_or ps q d) ≡ 2 * (get_or ps q d).opening.number + 1 → (get_or ps q d).opening.number < (get_or ps q d).closing.number →
    judged (get_or ps r d) ≡ true → (get_or ps r d).opening.number ≡ (get_or ps q d).closing.number → place (get_or ps r d) ≡ 2 * (get_or ps r d).opening.number →
    (get_or ps r d).opening ≡ (get_or ps q d).closing
next-empty ps d last judged f q r lq lr odd grows jr at even =
    let clear = all-clear ps d last judged f q r lq odd jr (omega (arith, at)) (omega (arith, even)) (get_or ps r d).opening.number in
    f.begins r lr jr q lq (before-by ps d (get_or ps r d) (get_or ps q d) (precedes-below (get_or ps q d) (get_or ps r d) (omega (arith, odd, grows, at, even)))
    (λ u lu above lower. next-between ps d q r u clear lu (kind-at ps d last judged f u lu) at odd above (omega (arith, lower, even))))

-- an empty part of a number
abbrev is_empty_at : ℕ → HistoryPart → Bool
is_empty_at m t = is_empty t && t.opening.number == m

empty-at : (m : ℕ) (t : HistoryPart) → is_empty t ≡ true → t.opening.number ≡ m → is_empty_at m t ≡ true
empty-at m t empty at = ap (λ b. b && t.opening.number == m) empty ∙ eq-eqb _ _ at

empty-there : (m : ℕ) (t : HistoryPart) → is_empty_at m t ≡ true → (is_empty t ≡ true) × (t.opening.number ≡ m)
empty-there m t h = by (is_empty t) (t.opening.number == m) refl refl h
  where
    by : (a b : Bool) → is_empty t ≡ a → (t.opening.number == m) ≡ b → (a && b) ≡ true → (is_empty t ≡ true) × (t.opening.number ≡ m)
    by true true e f h' = (e, eqb-true _ _ f)
    by true false e f h' = absurd (cc)
    by false true e f h' = absurd (cc)
    by false false e f h' = absurd (cc)

empty-kind : (p : HistoryPart) → Kind p → is_empty p ≡ true → (place p ≡ 2 * p.opening.number) × (p.closing ≡ p.opening)
empty-kind p (inl k) e = (k.0, k.1)
empty-kind p (inr k) e = let no = k.2 in absurd (cc)

last-between : (ps : List HistoryPart) (d : HistoryPart) (q r u : ℕ) → Clear ps d q (get_or ps r d).opening.number → u < length ps → Kind (get_or ps u d) →
    is_empty_at (get_or ps r d).opening.number (get_or ps u d) ≡ false →
    (get_or ps r d).opening.number ≡ (get_or ps q d).closing.number → place (get_or ps q d) ≡ 2 * (get_or ps q d).opening.number + 1 →
    place (get_or ps q d) < place (get_or ps u d) → place (get_or ps u d) < 2 * (get_or ps r d).opening.number + 1 → ⊥
last-between ps d q r u clear lu (inl k) none at odd above lower = by (nat_lt (get_or ps u d).opening.number (get_or ps r d).opening.number) refl
  where
    by : (b : Bool) → nat_lt (get_or ps u d).opening.number (get_or ps r d).opening.number ≡ b → ⊥
    by true e =
        let even = k.0 in let lt = ltb-true _ _ e in
        clear u lu lt (omega (arith, even, odd, above)) (omega (arith, lt, at))
    by false e =
        let even = k.0 in let ge = ltb-false _ _ e in
        let same : (get_or ps u d).opening.number ≡ (get_or ps r d).opening.number = omega (arith, even, lower, ge) in
        let there = empty-at (get_or ps r d).opening.number (get_or ps u d) k.2 same in
        absurd (cc)
last-between ps d q r u clear lu (inr k) none at odd above lower =
    let e = k.0 in clear u lu (omega (arith, e, lower)) (omega (arith, e, odd, above)) (omega (arith, e, lower, at))

next-entered : (ps : List HistoryPart) (d : HistoryPart) (last : ℕ) (judged : HistoryPart → Bool) → Facts ps d last judged → (q r : ℕ) → q < length ps → r < length ps →
    place (get_or ps q d) ≡ 2 * (get_or ps q d).opening.number + 1 → (get_or ps q d).opening.number < (get_or ps q d).closing.number →
    judged (get_or ps r d) ≡ true → (get_or ps r d).opening.number ≡ (get_or ps q d).closing.number → place (get_or ps r d) ≡ 2 * (get_or ps r d).opening.number + 1 →
    (get_or ps r d).opening ≡ (get_or ps q d).closing
next-entered ps d last judged f q r lq lr odd grows jr at odd_r = by (list_any (is_empty_at (get_or ps r d).opening.number) ps) refl
  where
    by : (b : Bool) → list_any (is_empty_at (get_or ps r d).opening.number) ps ≡ b → (get_or ps r d).opening ≡ (get_or ps q d).closing
    by true e =
        let one = any-one (is_empty_at (get_or ps r d).opening.number) ps d e in
        let t = one.0 in
        let lt = one.1 in
        let there = empty-there (get_or ps r d).opening.number (get_or ps t d) one.2 in
        let same = there.1 in
        let is = empty-kind (get_or ps t d) (kind-at ps d last judged f t lt) there.0 in
        let even = is.0 in
        let jt = f.lower (get_or ps t d) (get_or ps r d) (omega (arith, even, same, odd_r)) jr in
        let first = next-empty ps d last judged f q t lq lt odd grows jt (omega (arith, same, at)) even in
        f.begins r lr jr t lt (before-by ps d (get_or ps r d) (get_or ps t d) (precedes-below (get_or ps t d) (get_or ps r d) (omega (arith, even, same, odd_r)))
        (λ u lu above lower. omega (arith, above, lower, even, same, odd_r)))
        ∙ is.1 ∙ first
    by false e =
        let clear = all-clear ps d last judged f q r lq odd jr (omega (arith, at)) (omega (arith, odd_r)) (get_or ps r d).opening.number in
        let none = any-none (is_empty_at (get_or ps r d).opening.number) ps e in
        f.begins r lr jr q lq (before-by ps d (get_or ps r d) (get_or ps q d) (precedes-below (get_or ps q d) (get_or ps r d) (omega (arith, odd, grows, at, odd_r)))
        (λ u lu above lower. last-between ps d q r u clear lu (kind-at ps d last judged f u lu) (none u d lu) at odd above (omega (arith, lower, odd_r))))

next-of : (ps : List HistoryPart) (d : HistoryPart) (last : ℕ) (judged : HistoryPart → Bool) → Facts ps d last judged → (q r : ℕ) → q < length ps → r < length ps →
    place (get_or ps q d) ≡ 2 * (get_or ps q d).opening.number + 1 → (get_or ps q d).opening.number < (get_or ps q d).closing.number →
    judged (get_or ps r d) ≡ true → (get_or ps r d).opening.number ≡ (get_or ps q d).closing.number → Kind (get_or ps r d) →
    (get_or ps r d).opening ≡ (get_or ps q d).closing
next-of ps d last judged f q r lq lr odd grows jr at (inl k) = next-empty ps d last judged f q r lq lr odd grows jr at k.0
next-of ps d last judged f q r lq lr odd grows jr at (inr k) = next-entered ps d last judged f q r lq lr odd grows jr at k.0

-- ---- from part to part

entered-kind : (p : HistoryPart) → Kind p → p.opening.number < p.closing.number → place p ≡ 2 * p.opening.number + 1
entered-kind p (inl k) lt = let e = ap (λ (w : World). w.number) k.1 in absurd (omega (arith, e, lt))
entered-kind p (inr k) lt = k.0

part-length : (ps : List HistoryPart) (d : HistoryPart) (last : ℕ) (judged : HistoryPart → Bool) → Facts ps d last judged → (p : ℕ) → p < length ps →
    (get_or ps p d).closing.number ≡ (get_or ps p d).opening.number + length (get_or ps p d).entries
part-length ps d last judged f p lp = run-number (get_or ps p d).opening (get_or ps p d).entries (get_or ps p d).closing (f.legal p lp)

-- a slice stays where more follows
slice-more : (es more xs : List Entry) (a : ℕ) → a + length xs ≤ length es → take (length xs) (drop a es) ≡ xs → take (length xs) (drop a (es ++ more)) ≡ xs
slice-more es more xs a within slice =
    let n = length-drop a es in
    ap (take (length xs)) (drop-append-le a es more (omega (arith, within)))
    ∙ take-append-le (length xs) (drop a es) more (omega (arith, within, n))
    ∙ slice

slice-new : (es xs : List Entry) (a : ℕ) → a ≡ length es → take (length xs) (drop a (es ++ xs)) ≡ xs
slice-new es xs a at =
    ap (λ n. take (length xs) (drop n (es ++ xs))) at
    ∙ ap (take (length xs)) (drop-append_seam es xs)
    ∙ ap (take (length xs)) (sym (append-nil xs)) ∙ take-append_seam xs []

slice-none : (es xs : List Entry) (a : ℕ) → length xs ≡ 0 → take (length xs) (drop a es) ≡ xs
slice-none es [] a e = refl
slice-none es (x ∷ xs) a e = absurd (omega (arith, e))

-- where the numbers so far end, the next part begins
begins-at : (ps : List HistoryPart) (d : HistoryPart) (last : ℕ) (judged : HistoryPart → Bool) → Facts ps d last judged → (k : ℕ) → k < last → Upto ps d judged k →
    (q : ℕ) → q < length ps → (get_or ps q d).opening.number < k + 1 → k + 1 ≤ (get_or ps q d).closing.number → (get_or ps q d).opening.number ≡ k
begins-at ps d last judged f k lk u q lq low high = by u.ends
  where
    at-part : (p : ℕ) → p < length ps → (get_or ps p d).opening.number < k → (get_or ps p d).closing ≡ u.now → (b : Bool) → nat_lt (get_or ps q d).opening.number k ≡ b → (get_or ps q d).opening.number ≡ k
    at-part p lp before ends true e =
        let n = ap (λ (w : World). w.number) ends in
        let un = u.number in
        let hp = has (get_or ps p d) k before (omega (arith, n, un)) in
        let hq = has (get_or ps q d) k (ltb-true _ _ e) (omega (arith, high)) in
        let same : p ≡ q = only ps d last f.one k p q lp lq hp hq in
        let c = ap (λ (i : ℕ). (get_or ps i d).closing.number) same in
        absurd (omega (arith, n, un, c, high))
    at-part p lp before ends false e = let ge = ltb-false _ _ e in omega (arith, ge, low)

    by : ((k ≡ 0) ⊎ ((p : ℕ) × (p < length ps) × ((get_or ps p d).opening.number < k) × ((get_or ps p d).closing ≡ u.now))) → (get_or ps q d).opening.number ≡ k
    by (inl zero_k) = omega (arith, zero_k, low)
    by (inr p) = at-part p.0 p.1 p.2 p.3 (nat_lt (get_or ps q d).opening.number k) refl

-- the part that has the next number is added
upto-part : (ps : List HistoryPart) (d : HistoryPart) (last : ℕ) (judged : HistoryPart → Bool) → Facts ps d last judged → (k : ℕ) → Upto ps d judged k → (q : ℕ) → q < length ps →
    (get_or ps q d).opening.number ≡ k → (get_or ps q d).opening.number < (get_or ps q d).closing.number → Upto ps d judged (get_or ps q d).closing.number
upto-part ps d last judged f k u q lq at grows =
    let odd = entered-kind (get_or ps q d) (kind-at ps d last judged f q lq) grows in
    let opening : (get_or ps q d).opening ≡ u.now = u.joined q lq (f.entered q lq grows) at in
    let n = run-number u.first u.entries u.now u.run in
    let zero_first = ap (λ (w : World). w.number) u.opens.fresh in
    let un = u.number in
    let len = part-length ps d last judged f q lq in
    record {
      first = u.first;
      opens = u.opens;
      entries = u.entries ++ (get_or ps q d).entries;
      now = (get_or ps q d).closing;
      run = legal-append u.first u.entries u.now (get_or ps q d).entries (get_or ps q d).closing u.run (subst (λ (w : World). IsLegalRun w (get_or ps q d).entries (get_or ps q d).closing) opening (f.legal q lq));
      number = refl;
      joined = λ r lr jr here. next-of ps d last judged f q r lq lr odd grows jr here (kind-at ps d last judged f r lr);
      ends = inr (q, lq, grows, refl);
      slices = λ p lp upto. slice p lp upto (omega (arith, n, zero_first, un, at)) (nat_le (get_or ps p d).closing.number k) refl;
    }
  where
    here : (p : ℕ) → p < length ps → (get_or ps p d).closing.number ≤ (get_or ps q d).closing.number → k < (get_or ps p d).closing.number → (get_or ps q d).opening.number ≡ length u.entries →
        Kind (get_or ps p d) → Slice (u.entries ++ (get_or ps q d).entries) (get_or ps p d)
    here p lp upto above lq_is (inl e) =
        let c = ap (λ (w : World). w.number) e.1 in let len = part-length ps d last judged f p lp in
        slice-none (u.entries ++ (get_or ps q d).entries) (get_or ps p d).entries (get_or ps p d).opening.number (omega (arith, c, len))
    here p lp upto above lq_is (inr e) =
        let grows_p = e.1 in
        let hp = has (get_or ps p d) (get_or ps p d).closing.number grows_p (omega arith) in
        let hq = has (get_or ps q d) (get_or ps p d).closing.number (omega (arith, at, above)) upto in
        let same : q ≡ p = only ps d last f.one (get_or ps p d).closing.number q p lq lp hq hp in
        subst (λ (i : ℕ). Slice (u.entries ++ (get_or ps q d).entries) (get_or ps i d)) same (slice-new u.entries (get_or ps q d).entries (get_or ps q d).opening.number lq_is)

    slice : (p : ℕ) → p < length ps → (get_or ps p d).closing.number ≤ (get_or ps q d).closing.number → (get_or ps q d).opening.number ≡ length u.entries →
        (b : Bool) → nat_le (get_or ps p d).closing.number k ≡ b → Slice (u.entries ++ (get_or ps q d).entries) (get_or ps p d)
    slice p lp upto lq_is true e =
        let le = leb-true _ _ e in let len = part-length ps d last judged f p lp in
        slice-more u.entries (get_or ps q d).entries (get_or ps p d).entries (get_or ps p d).opening.number (omega (arith, le, len, lq_is, at)) (u.slices p lp le)
    slice p lp upto lq_is false e = here p lp upto (leb-false _ _ e) lq_is (kind-at ps d last judged f p lp)

upto-step : (ps : List HistoryPart) (d : HistoryPart) (last : ℕ) (judged : HistoryPart → Bool) → Facts ps d last judged → (k : ℕ) → k < last → Upto ps d judged k →
    (m : ℕ) × (k < m) × (m ≤ last) × Upto ps d judged m
upto-step ps d last judged f k lk u =
    let e = f.one (k + 1) in
    let once = due-one last (k + 1) (omega arith) (omega (arith, lk)) in
    let some = count-some (has_number (k + 1)) ps d (omega (arith, e, once)) in
    let q = some.0 in
    let lq = some.1 in
    let low = has-low (get_or ps q d) (k + 1) some.2 in
    let high = has-high (get_or ps q d) (k + 1) some.2 in
    let at = begins-at ps d last judged f k lk u q lq low high in
    let most = below ps d last f.one (get_or ps q d).closing.number q lq (has (get_or ps q d) (get_or ps q d).closing.number (omega (arith, low, high)) (omega arith)) in
    ((get_or ps q d).closing.number, omega (arith, high), most, upto-part ps d last judged f k u q lq at (omega (arith, low, high)))

upto-last : (ps : List HistoryPart) (d : HistoryPart) (last : ℕ) (judged : HistoryPart → Bool) → Facts ps d last judged → (fuel k : ℕ) → k ≤ last → last ≤ k + fuel → Upto ps d judged k → Upto ps d judged last
upto-last ps d last judged f zero k le ge u = let same : k ≡ last = omega (arith, le, ge) in subst (Upto ps d judged) same u
upto-last ps d last judged f (suc fuel) k le ge u = by (nat_lt k last) refl (λ m lt most v. upto-last ps d last judged f fuel m most (omega (arith, lt, ge)) v)
  where
    by : (b : Bool) → nat_lt k last ≡ b → ((m : ℕ) → k < m → m ≤ last → Upto ps d judged m → Upto ps d judged last) → Upto ps d judged last
    by true e later = let s = upto-step ps d last judged f k (ltb-true _ _ e) u in later s.0 s.1 s.2 s.3
    by false e later = let no = ltb-false _ _ e in let same : k ≡ last = omega (arith, le, no) in subst (Upto ps d judged) same u

-- ---- from the opening to the end

run-none : (w : World) → IsLegalRun w [] w
unfolding IsLegalRun
run-none w = refl

slices-none : (ps : List HistoryPart) (d : HistoryPart) (last : ℕ) (judged : HistoryPart → Bool) → Facts ps d last judged → (p : ℕ) → p < length ps → (get_or ps p d).closing.number ≤ 0 → Slice [] (get_or ps p d)
slices-none ps d last judged f p lp le = let len = part-length ps d last judged f p lp in slice-none [] (get_or ps p d).entries (get_or ps p d).opening.number (omega (arith, le, len))

-- an empty part comes first
begins-empty : (ps : List HistoryPart) (d : HistoryPart) (last : ℕ) (judged : HistoryPart → Bool) → Facts ps d last judged → (t : ℕ) → t < length ps → is_empty (get_or ps t d) ≡ true → (get_or ps t d).opening.number ≡ 0 → Upto ps d judged 0
begins-empty ps d last judged f t lt empty at =
    let is = empty-kind (get_or ps t d) (kind-at ps d last judged f t lt) empty in
    record {
      first = (get_or ps t d).opening;
      opens = opens (get_or ps t d).opening (f.reached t lt) at;
      entries = [];
      now = (get_or ps t d).opening;
      run = run-none (get_or ps t d).opening;
      number = at;
      joined = λ r lr jr here. joined r lr jr here is (kind-at ps d last judged f r lr);
      ends = inl refl;
      slices = slices-none ps d last judged f;
    }
  where
    joined : (r : ℕ) → r < length ps → judged (get_or ps r d) ≡ true → (get_or ps r d).opening.number ≡ 0 → (place (get_or ps t d) ≡ 2 * (get_or ps t d).opening.number) × ((get_or ps t d).closing ≡ (get_or ps t d).opening) →
        Kind (get_or ps r d) → (get_or ps r d).opening ≡ (get_or ps t d).opening
    joined r lr jr here is (inl k) =
        let even = is.0 in let even_r = k.0 in
        f.begins r lr jr t lt (before-by ps d (get_or ps r d) (get_or ps t d) (precedes-equal (get_or ps t d) (get_or ps r d) (omega (arith, even, even_r, at, here)) k.2)
        (λ u lu above lower. omega (arith, above, lower, even, even_r, at, here)))
        ∙ is.1
    joined r lr jr here is (inr k) =
        let even = is.0 in let odd_r = k.0 in
        f.begins r lr jr t lt (before-by ps d (get_or ps r d) (get_or ps t d) (precedes-below (get_or ps t d) (get_or ps r d) (omega (arith, even, odd_r, at, here)))
        (λ u lu above lower. omega (arith, above, lower, even, odd_r, at, here)))
        ∙ is.1

-- or the part that has number 1
begins-entered : (ps : List HistoryPart) (d : HistoryPart) (last : ℕ) (judged : HistoryPart → Bool) → Facts ps d last judged → All (λ p. is_empty_at 0 p ≡ false) ps → 1 ≤ last → Upto ps d judged 0
begins-entered ps d last judged f none le =
    let e = f.one 1 in
    let once = due-one last 1 (omega arith) le in
    let some = count-some (has_number 1) ps d (omega (arith, e, once)) in
    let q = some.0 in
    let lq = some.1 in
    let low = has-low (get_or ps q d) 1 some.2 in
    let at : (get_or ps q d).opening.number ≡ 0 = omega (arith, low) in
    record {
      first = (get_or ps q d).opening;
      opens = opens (get_or ps q d).opening (f.reached q lq) at;
      entries = [];
      now = (get_or ps q d).opening;
      run = run-none (get_or ps q d).opening;
      number = at;
      joined = λ r lr jr here. joined q lq some.2 r lr here (kind-at ps d last judged f r lr);
      ends = inl refl;
      slices = slices-none ps d last judged f;
    }
  where
    joined : (q : ℕ) → q < length ps → has_number 1 (get_or ps q d) ≡ true → (r : ℕ) → r < length ps → (get_or ps r d).opening.number ≡ 0 → Kind (get_or ps r d) → (get_or ps r d).opening ≡ (get_or ps q d).opening
    joined q lq hq r lr here (inl k) =
        let there = empty-at 0 (get_or ps r d) k.2 here in let no = none r d lr in absurd (cc)
    joined q lq hq r lr here (inr k) =
        let grows = k.1 in
        let hr = has (get_or ps r d) 1 (omega (arith, here)) (omega (arith, grows)) in
        let same : r ≡ q = only ps d last f.one 1 r q lr lq hr hq in
        ap (λ (i : ℕ). (get_or ps i d).opening) same

upto-none : (ps : List HistoryPart) (d : HistoryPart) (last : ℕ) (judged : HistoryPart → Bool) → Facts ps d last judged → Upto ps d judged 0
upto-none ps d last judged f = by (list_any (is_empty_at 0) ps) refl
  where
    present : Kind (get_or ps f.here d) → All (λ p. is_empty_at 0 p ≡ false) ps → 1 ≤ last
    present (inl k) none =
        let no = none f.here d f.within in
        let c = ap (λ (p : HistoryPart). p.closing.number) f.is in let l = f.present in
        let e = ap (λ (w : World). w.number) k.1 in
        by_number (nat_lt 0 last) refl (λ zero_last. let there = empty-at 0 (get_or ps f.here d) k.2 (omega (arith, c, l, e, zero_last)) in absurd (cc))
      where
        by_number : (b : Bool) → nat_lt 0 last ≡ b → (last ≡ 0 → 1 ≤ last) → 1 ≤ last
        by_number true e later = ltb-true _ _ e
        by_number false e later = let no = ltb-false _ _ e in later (omega (arith, no))
    present (inr k) none =
        let c = ap (λ (p : HistoryPart). p.closing.number) f.is in let l = f.present in let grows = k.1 in omega (arith, c, l, grows)

    by : (b : Bool) → list_any (is_empty_at 0) ps ≡ b → Upto ps d judged 0
    by true e =
        let one = any-one (is_empty_at 0) ps d e in
        let there = empty-there 0 (get_or ps one.0 d) one.2 in
        begins-empty ps d last judged f one.0 one.1 there.0 there.1
    by false e =
        let none = any-none (is_empty_at 0) ps e in
        begins-entered ps d last judged f none (present (kind-at ps d last judged f f.here f.within) none)

-- the run ends in the closing world of d
ends-there : (ps : List HistoryPart) (d : HistoryPart) (last : ℕ) (judged : HistoryPart → Bool) (f : Facts ps d last judged) → (u : Upto ps d judged last) → Kind (get_or ps f.here d) → (get_or ps f.here d).closing ≡ u.now
ends-there ps d last judged f u (inl k) =
    let c = ap (λ (p : HistoryPart). p.closing.number) f.is in let l = f.present in
    let e = ap (λ (w : World). w.number) k.1 in
    k.1 ∙ u.joined f.here f.within (subst (λ (p : HistoryPart). judged p ≡ true) (sym f.is) f.owned) (omega (arith, c, l, e))
ends-there ps d last judged f u (inr k) = by u.ends
  where
    by : ((last ≡ 0) ⊎ ((p : ℕ) × (p < length ps) × ((get_or ps p d).opening.number < last) × ((get_or ps p d).closing ≡ u.now))) → (get_or ps f.here d).closing ≡ u.now
    by (inl zero_last) =
        let c = ap (λ (p : HistoryPart). p.closing.number) f.is in let l = f.present in let grows = k.1 in absurd (omega (arith, c, l, grows, zero_last))
    by (inr p) =
        let c = ap (λ (q : HistoryPart). q.closing.number) f.is in let l = f.present in let grows = k.1 in
        let n = ap (λ (w : World). w.number) p.3 in let un = u.number in
        let low = p.2 in
        let hp = has (get_or ps p.0 d) last low (omega (arith, n, un)) in
        let hh = has (get_or ps f.here d) last (omega (arith, grows, c, l)) (omega (arith, c, l)) in
        let same : f.here ≡ p.0 = only ps d last f.one last f.here p.0 f.within p.1 hh hp in
        ap (λ (i : ℕ). (get_or ps i d).closing) same ∙ p.3

slices-all : (ps : List HistoryPart) (d : HistoryPart) (last : ℕ) (judged : HistoryPart → Bool) → Facts ps d last judged → (u : Upto ps d judged last) → (p : ℕ) → p < length ps → Kind (get_or ps p d) → Slice u.entries (get_or ps p d)
slices-all ps d last judged f u p lp (inl k) =
    let e = ap (λ (w : World). w.number) k.1 in let len = part-length ps d last judged f p lp in slice-none u.entries (get_or ps p d).entries (get_or ps p d).opening.number (omega (arith, e, len))
slices-all ps d last judged f u p lp (inr k) =
    u.slices p lp (below ps d last f.one (get_or ps p d).closing.number p lp (has (get_or ps p d) (get_or ps p d).closing.number k.1 (omega arith)))

-- ---- where nothing is wrong

-- what stands before a judged part is judged
lower : (s : State) (p q : HistoryPart) → place p ≤ place q → is_judged s q ≡ true → is_judged s p ≡ true
lower s p q le jq = by (length s.entries == 0) jq
  where
    by : (b : Bool) → (b || nat_le (place q) (place (tail_of s))) ≡ true → (b || nat_le (place p) (place (tail_of s))) ≡ true
    by true h = refl
    by false h = let at = leb-true _ _ h in le-leb _ _ (omega (arith, at, le))

owned : (s : State) → is_judged s (tail_of s) ≡ true
owned s = by (length s.entries == 0)
  where
    by : (b : Bool) → (b || nat_le (place (tail_of s)) (place (tail_of s))) ≡ true
    by true = refl
    by false = le-leb _ _ (omega arith)

-- what has entries is judged
entered-by : (segments : List HistoryPart) (s : State) → IsCounted (parts_of segments s) s.world.number → (h : ℕ) → h < length (parts_of segments s) → get_or (parts_of segments s) h (tail_of s) ≡ tail_of s →
    Kind (tail_of s) → (q : ℕ) → q < length (parts_of segments s) → Kind (get_or (parts_of segments s) q (tail_of s)) →
    (get_or (parts_of segments s) q (tail_of s)).opening.number < (get_or (parts_of segments s) q (tail_of s)).closing.number → is_judged s (get_or (parts_of segments s) q (tail_of s)) ≡ true
entered-by segments s one h lh is (inl k) q lq kq grows = ap (λ b. b || nat_le (place (get_or (parts_of segments s) q (tail_of s))) (place (tail_of s))) k.2
entered-by segments s one h lh is (inr k) q lq kq grows =
    let ps = parts_of segments s in
    let d = tail_of s in
    let last = s.world.number in
    let odd = entered-kind (get_or ps q d) kq grows in
    let odd_d = k.0 in
    let most = below ps d last one (get_or ps q d).closing.number q lq (has (get_or ps q d) (get_or ps q d).closing.number grows (omega arith)) in
    by (nat_le (place (get_or ps q d)) (place d)) refl (λ above.
    let n = (get_or ps q d).opening.number + 1 in
    let hq = has (get_or ps q d) n (omega arith) (omega (arith, grows)) in
    let hd = has d n (omega (arith, above, odd, odd_d)) (omega (arith, grows, most)) in
    let same : q ≡ h = only ps d last one n q h lq lh hq (subst (λ (p : HistoryPart). has_number n p ≡ true) (sym is) hd) in
    let e = ap (λ (i : ℕ). (get_or ps i d).opening.number) same in
    let at = ap (λ (p : HistoryPart). p.opening.number) is in
    omega (arith, above, odd, odd_d, e, at))
  where
    by : (b : Bool) → nat_le (place (get_or (parts_of segments s) q (tail_of s))) (place (tail_of s)) ≡ b → (place (tail_of s) < place (get_or (parts_of segments s) q (tail_of s)) → ⊥) → is_judged s (get_or (parts_of segments s) q (tail_of s)) ≡ true
    by true e never = ap (λ b. (length s.entries == 0) || b) e ∙ or-true (length s.entries == 0)
    by false e never = absurd (never (leb-false _ _ e))

pub facts : (segments : List HistoryPart) (s : State) → All IsHistoryPart (parts_of segments s) → ((n : ℕ) → IsRight segments s n) → Facts (parts_of segments s) (tail_of s) s.world.number (is_judged s)
facts segments s all right =
    let ps = parts_of segments s in
    let d = tail_of s in
    let own : IsHistoryPart d = All-back IsHistoryPart segments d all in
    let len = length-append segments (d ∷ []) in
    let within : length segments < length ps = omega (arith, len) in
    let is : get_or ps (length segments) d ≡ d = get_or-append_seam segments d [] d in
    record {
      legal = λ i li. (all i d li).legal;
      reached = λ i li. (all i d li).reached;
      one = λ n. (right n).once;
      begins = λ q lq jq p lp before. (right (first_number (get_or ps q d))).begins q d lq jq refl p d lp before;
      lower = lower s;
      entered = λ q lq grows. entered-by segments s (λ n. (right n).once) (length segments) within is (kind s.opening s.entries s.world own.legal) q lq
          (kind (get_or ps q d).opening (get_or ps q d).entries (get_or ps q d).closing (all q d lq).legal) grows;
      here = length segments;
      within = within;
      is = is;
      present = refl;
      owned = owned s;
    }

-- so the parts are one history
pub one-history : (segments : List HistoryPart) (s : State) → Facts (parts_of segments s) (tail_of s) s.world.number (is_judged s) → AreOneHistory segments s
one-history segments s f =
    let ps = parts_of segments s in
    let d = tail_of s in
    let last = s.world.number in
    let u = upto-last ps d last (is_judged s) f last 0 (omega arith) (omega arith) (upto-none ps d last (is_judged s) f) in
    let end = ends-there ps d last (is_judged s) f u (kind-at ps d last (is_judged s) f f.here f.within) in
    let at : (get_or ps f.here d).closing ≡ s.world = ap (λ (p : HistoryPart). p.closing) f.is in
    record {
      first = u.first;
      opens = u.opens;
      entries = u.entries;
      legal = subst (IsLegalRun u.first u.entries) (sym end ∙ at) u.run;
      parts = λ p e lp. subst (Slice u.entries) (get_or_default ps p d e lp) (slices-all ps d last (is_judged s) f u p lp (kind-at ps d last (is_judged s) f p lp));
    }
