-- The least number at which something is wrong: where none is wrong that a part shows, none is.
use Rattle.std.proofs.Common.{◌≡◌, ◌∙◌, ◌==◌, ◌&&◌, ◌||◌, ℕ, suc, zero, ◌+◌, ◌<◌, ◌≤◌, Bool, true, false, cond, Option, None, Some, List, [], ◌∷◌, ◌++◌, filter, length, get_or, take, ap, sym, refl, subst, arith, min}
use Rattle.std.specs.Prelude.{All, IfSome, MatchOption, nat_lt, nat_le}
use Rattle.std.specs.List.{list_any}
use Rattle.std.proofs.lemmas.Option.{IfSome_then}
use Rattle.std.proofs.lemmas.Bool.{lt-ltb, le-ltb, le-leb, lt-leb, ltb-true, ltb-false, leb-true, leb-false, eqb-true, eq-eqb}
use Rattle.std.proofs.lemmas.List.{take_more}
use Rattle.std.proofs.lemmas.List.Elements.{All-head, All-tail, All-push}
use Rattle.hub.specs.History.{State}
use Rattle.hub.specs.Segments.{HistoryPart, first_number, tail_of}
use Rattle.hub.proofs.Lists.{filter_same_on}
use Rattle.hub.proofs.Finds.{any-none}
use Rattle.hub.specs.joins.Joins.{parts_of, has_number, due, is_judged, Begins, IsRight}
use Rattle.hub.specs.joins.Search.{lesser, IsBelow, IsInPlace, IsBegun, IsClear, IsFaultOf, AreNumbered}
use Rattle.hub.proofs.joins.Pushed.{All-front, All-back}
use Rattle.hub.proofs.joins.Joined.{any-one}

-- ---- the lesser of two

pub below-one : (n : ℕ) (a b : Option ℕ) → IsBelow n (lesser a b) → IsBelow n a
below-one n None None h = h
below-one n None (Some b) h = h.1
below-one n (Some a) None h = h
below-one n (Some a) (Some b) h = let lt = h.0 in (omega (arith, lt), h.1)

pub below-other : (n : ℕ) (a b : Option ℕ) → IsBelow n (lesser a b) → IsBelow n b
below-other n None None h = h
below-other n None (Some b) h = h
below-other n (Some a) None h = h.1
below-other n (Some a) (Some b) h = let lt = h.0 in (omega (arith, lt), h.1)

pub some-lesser : (P : ℕ → Type 0) (a b : Option ℕ) → IfSome a P → IfSome b P → IfSome (lesser a b) P
some-lesser P None b h k = k
some-lesser P (Some a) None h k = h
some-lesser P (Some a) (Some b) h k = by (nat_lt a b) refl
  where
    by : (c : Bool) → nat_lt a b ≡ c → P (min a b)
    by true e = let lt = ltb-true _ _ e in let is : a ≡ min a b = omega (arith, lt) in subst P is h
    by false e = let le = ltb-false _ _ e in let is : b ≡ min a b = omega (arith, le) in subst P is k

-- ---- numbers

next-low : (a n : ℕ) → (a ≡ n → ⊥) → nat_lt a (suc n) ≡ nat_lt a n
next-low a n other = by (nat_lt a n) refl
  where
    strict : (b : Bool) → nat_lt n a ≡ b → n ≤ a → suc n ≤ a
    strict true e ge = let lt = ltb-true _ _ e in omega (arith, lt)
    strict false e ge = let le = ltb-false _ _ e in absurd (other (omega (arith, le, ge)))

    by : (b : Bool) → nat_lt a n ≡ b → nat_lt a (suc n) ≡ b
    by true e = let lt = ltb-true _ _ e in lt-ltb _ _ (omega (arith, lt))
    by false e = le-ltb _ _ (strict (nat_lt n a) refl (ltb-false _ _ e))

next-high : (c n : ℕ) → (c ≡ n → ⊥) → nat_le (suc n) c ≡ nat_le n c
next-high c n other = by (nat_le n c) refl
  where
    strict : (b : Bool) → nat_lt n c ≡ b → n ≤ c → suc n ≤ c
    strict true e le = let lt = ltb-true _ _ e in omega (arith, lt)
    strict false e le = let ge = ltb-false _ _ e in absurd (other (omega (arith, le, ge)))

    by : (b : Bool) → nat_le n c ≡ b → nat_le (suc n) c ≡ b
    by true e = le-leb _ _ (strict (nat_lt n c) refl (leb-true _ _ e))
    by false e = let lt = leb-false _ _ e in lt-leb _ _ (omega (arith, lt))

-- whether a part begins or ends right before the next number
abbrev meets : ℕ → HistoryPart → Bool
meets n p = (p.opening.number == n) || (p.closing.number == n)

meets-neither : (n : ℕ) (p : HistoryPart) → meets n p ≡ false → (p.opening.number ≡ n → ⊥) × (p.closing.number ≡ n → ⊥)
meets-neither n p h = by (p.opening.number == n) (p.closing.number == n) refl refl h
  where
    by : (a b : Bool) → (p.opening.number == n) ≡ a → (p.closing.number == n) ≡ b → (a || b) ≡ false → (p.opening.number ≡ n → ⊥) × (p.closing.number ≡ n → ⊥)
    by true b e f h' = absurd (cc)
    by false true e f h' = absurd (cc)
    by false false e f h' = (λ is. let yes' = eq-eqb _ _ is in absurd (cc), λ is. let yes' = eq-eqb _ _ is in absurd (cc))

-- a part that doesn't has both numbers or neither
next-part : (n : ℕ) (p : HistoryPart) → meets n p ≡ false → has_number (suc n) p ≡ has_number n p
next-part n p h =
    let neither = meets-neither n p h in
    ap (λ b. b && nat_le (suc n) p.closing.number) (next-low p.opening.number n neither.0)
    ∙ ap (λ b. nat_lt p.opening.number n && b) (next-high p.closing.number n neither.1)

due-on : (last n : ℕ) → 1 ≤ n → due last n ≡ cond (nat_le n last) 1 0
due-on last n low = ap (λ b. cond (b && nat_le n last) 1 0) (lt-ltb 0 n low)

next-due : (last n : ℕ) → (n ≡ 0 → ⊥) → (last ≡ n → ⊥) → due last (suc n) ≡ due last n
next-due last zero some other = absurd (some refl)
next-due last (suc n) some other =
    let f : Bool → ℕ = λ b. cond b 1 0 in
    due-on last (suc (suc n)) (omega arith) ∙ ap f (next-high last (suc n) other) ∙ sym (due-on last (suc n) (omega arith))

-- where no part begins or ends between two numbers, the second is in place with the first
next-in-place : (segments : List HistoryPart) (s : State) (n : ℕ) → All (λ p. meets n p ≡ false) (parts_of segments s) → (n ≡ 0 → ⊥) → IsInPlace segments s n → IsInPlace segments s (suc n)
next-in-place segments s n none some here =
    let ps = parts_of segments s in
    let same : filter (has_number (suc n)) ps ≡ filter (has_number n) ps = filter_same_on (has_number (suc n)) (has_number n) ps (λ i d lt. next-part n (get_or ps i d) (none i d lt)) in
    let own = meets-neither n (tail_of s) (All-back (λ p. meets n p ≡ false) segments (tail_of s) none) in
    ap length same ∙ here ∙ sym (next-due s.world.number n some own.1)

count-none : {X : Type 0} (t : X → Bool) (xs : List X) → All (λ x. t x ≡ false) xs → length (filter t xs) ≡ 0
count-none t [] none = refl
count-none t (x ∷ xs) none =
    ap (λ b. length (cond b (x ∷ filter t xs) (filter t xs))) (All-head (λ y. t y ≡ false) x xs none) ∙ count-none t xs (All-tail (λ y. t y ≡ false) x xs none)

has-none : (n : ℕ) (p : HistoryPart) → p.closing.number < n → has_number n p ≡ false
has-none n p lt = ap (λ b. nat_lt p.opening.number n && b) (lt-leb _ _ lt) ∙ and-none (nat_lt p.opening.number n)
  where
    and-none : (b : Bool) → (b && false) ≡ false
    and-none true = refl
    and-none false = refl

has-zero : (p : HistoryPart) → has_number 0 p ≡ false
has-zero p = ap (λ b. b && nat_le 0 p.closing.number) (le-ltb p.opening.number 0 (omega arith))

in-place-zero : (segments : List HistoryPart) (s : State) → IsInPlace segments s 0
in-place-zero segments s = count-none (has_number 0) (parts_of segments s) (λ i d lt. has-zero (get_or (parts_of segments s) i d))

-- ---- below the least

less-below : (n : ℕ) (least : Option ℕ) → IsBelow (suc n) least → IsBelow n least
less-below n None h = omega (arith, h)
less-below n (Some most) h = let lt = h.0 in let fits = h.1 in (omega (arith, lt), omega (arith, fits))

-- What is known of the parts so far, and of the least number so far at which something is wrong.
pub record Found (segments : List HistoryPart) (s : State) (least : Option ℕ) (done : List HistoryPart) : Type 0 where
  pub wrong : IfSome least (λ n. IsRight segments s n → ⊥)
  pub one : IsBelow 1 least → IsInPlace segments s 1
  pub clear : All (IsClear segments s least) done

in-place : (segments : List HistoryPart) (s : State) (least : Option ℕ) → Found segments s least (parts_of segments s) → (n : ℕ) → IsBelow n least → IsInPlace segments s n
in-place segments s least f zero below = in-place-zero segments s
in-place segments s least f (suc n) below = by (list_any (meets n) (parts_of segments s)) refl (in-place segments s least f n (less-below n least below))
  where
    ps : List HistoryPart
    ps = parts_of segments s

    at : (q : HistoryPart) → IsClear segments s least q → (a b : Bool) → (q.opening.number == n) ≡ a → (q.closing.number == n) ≡ b → (a || b) ≡ true → IsInPlace segments s (suc n)
    at q clear true b e g h =
        let is = eqb-true _ _ e in let next : q.opening.number + 1 ≡ suc n = omega (arith, is) in
        subst (λ (k : ℕ). IsBelow k least → IsInPlace segments s k) next clear.first below
    at q clear false true e g h =
        let is = eqb-true _ _ g in let next : q.closing.number + 1 ≡ suc n = omega (arith, is) in
        subst (λ (k : ℕ). IsBelow k least → IsInPlace segments s k) next clear.next below
    at q clear false false e g h = absurd (cc)

    from : (b : Bool) → (n == 0) ≡ b → All (λ p. meets n p ≡ false) (parts_of segments s) → IsInPlace segments s n → IsInPlace segments s (suc n)
    from true e none here =
        let is = eqb-true _ _ e in let next : 1 ≡ suc n = omega (arith, is) in
        subst (λ (k : ℕ). IsBelow k least → IsInPlace segments s k) next f.one below
    from false e none here = next-in-place segments s n none (λ is. let yes = eq-eqb _ _ is in absurd (cc)) here

    by : (b : Bool) → list_any (meets n) (parts_of segments s) ≡ b → IsInPlace segments s n → IsInPlace segments s (suc n)
    by true e here =
        let one = any-one (meets n) (parts_of segments s) (tail_of s) e in
        let q = get_or (parts_of segments s) one.0 (tail_of s) in
        at q (f.clear one.0 (tail_of s) one.1) (q.opening.number == n) (q.closing.number == n) refl refl one.2
    by false e here = from (n == 0) refl (any-none (meets n) (parts_of segments s) e) here

right-below : (segments : List HistoryPart) (s : State) (least : Option ℕ) → Found segments s least (parts_of segments s) → (n : ℕ) → IsBelow n least → IsRight segments s n
right-below segments s least f n below = record {
  once = in-place segments s least f n below;
  begins = λ i d li. (f.clear i d li).begun n below;
}

-- no number is above
right-above : (segments : List HistoryPart) (s : State) → AreNumbered (parts_of segments s) → (n : ℕ) → 18446744073709551616 ≤ n → IsRight segments s n
right-above segments s numbered n high =
    let ps = parts_of segments s in
    let last = All-back (λ (p : HistoryPart). p.closing.number < 18446744073709551616) segments (tail_of s) numbered in
    let none : length (filter (has_number n) ps) ≡ 0 = count-none (has_number n) ps (λ i d li. above (get_or ps i d) (numbered i d li)) in
    record {
      once = none ∙ sym (due-none s.world.number (omega (arith, last, high)));
      begins = λ i d li judged first. absurd (too-high (get_or ps i d) first);
    }
  where
    above : (p : HistoryPart) → p.closing.number < 18446744073709551616 → has_number n p ≡ false
    above p lt = has-none n p (omega (arith, lt, high))

    too-high : (q : HistoryPart) → first_number q ≡ n → ⊥
    too-high q first = omega (arith, first, high)

    due-none : (last : ℕ) → last < n → due last n ≡ 0
    due-none last lt = by (nat_lt 0 n) (nat_le n last) (lt-leb _ _ lt)
      where
        by : (a b : Bool) → b ≡ false → cond {A = ℕ} (a && b) 1 0 ≡ 0
        by true true e = absurd (cc)
        by true false e = refl
        by false true e = refl
        by false false e = refl

right-all : (segments : List HistoryPart) (s : State) → Found segments s None (parts_of segments s) → AreNumbered (parts_of segments s) → (n : ℕ) → IsRight segments s n
right-all segments s f numbered n = by (nat_lt n 18446744073709551616) refl
  where
    by : (b : Bool) → nat_lt n 18446744073709551616 ≡ b → IsRight segments s n
    by true e = right-below segments s None f n (ltb-true _ _ e)
    by false e = right-above segments s numbered n (ltb-false _ _ e)

right-least : (segments : List HistoryPart) (s : State) (least : ℕ) → Found segments s (Some least) (parts_of segments s) → AreNumbered (parts_of segments s) → (n : ℕ) → n < least → IsRight segments s n
right-least segments s least f numbered n lt = by (nat_lt least 18446744073709551616) refl
  where
    by : (b : Bool) → nat_lt least 18446744073709551616 ≡ b → IsRight segments s n
    by true e = let fits = ltb-true _ _ e in right-below segments s (Some least) f n (lt, omega (arith, fits, lt))
    by false e = absurd (f.wrong (right-above segments s numbered least (ltb-false _ _ e)))

pub right-found : (segments : List HistoryPart) (s : State) (least : Option ℕ) → Found segments s least (parts_of segments s) → AreNumbered (parts_of segments s) →
    MatchOption least ((n : ℕ) → IsRight segments s n) (λ l. (n : ℕ) → n < l → IsRight segments s n)
right-found segments s None f numbered = right-all segments s f numbered
right-found segments s (Some least) f numbered = right-least segments s least f numbered

-- ---- one part more

clear-lesser : (segments : List HistoryPart) (s : State) (least less : Option ℕ) (q : HistoryPart) → ((n : ℕ) → IsBelow n less → IsBelow n least) → IsClear segments s least q → IsClear segments s less q
clear-lesser segments s least less q under clear = record {
  first = λ below. clear.first (under (q.opening.number + 1) below);
  next = λ below. clear.next (under (q.closing.number + 1) below);
  begun = λ n below. clear.begun n (under n below);
}

pub found-more : (segments : List HistoryPart) (s : State) (least fault : Option ℕ) (done : List HistoryPart) (q : HistoryPart) → Found segments s least done → ((n : ℕ) → IsRight segments s n → IsBegun segments s q n) →
    IfSome fault (IsFaultOf segments s q) → IsClear segments s fault q → Found segments s (lesser least fault) (done ++ q ∷ [])
found-more segments s least fault done q f begun wrong clear = record {
  wrong = some-lesser (λ n. IsRight segments s n → ⊥) least fault f.wrong (IfSome_then fault wrong (λ n fault' right. fault' right.once (begun n right)));
  one = λ below. f.one (below-one 1 least fault below);
  clear = All-push (IsClear segments s (lesser least fault)) done q
      (λ i d li. clear-lesser segments s least (lesser least fault) (get_or done i d) (λ n. below-one n least fault) (f.clear i d li))
      (clear-lesser segments s fault (lesser least fault) q (λ n. below-other n least fault) clear);
}

-- what is right at a number is right of each part
pub begun-segment : (segments : List HistoryPart) (s : State) (i : ℕ) (d : HistoryPart) → i < length segments → (n : ℕ) → IsRight segments s n → IsBegun segments s (get_or segments i d) n
begun-segment segments s i d li n right =
    All-front (λ (q : HistoryPart). is_judged s q ≡ true → first_number q ≡ n → Begins (parts_of segments s) q) segments (tail_of s) right.begins i d li

pub begun-tail : (segments : List HistoryPart) (s : State) (n : ℕ) → IsRight segments s n → IsBegun segments s (tail_of s) n
begun-tail segments s n right =
    All-back (λ (q : HistoryPart). is_judged s q ≡ true → first_number q ≡ n → Begins (parts_of segments s) q) segments (tail_of s) right.begins

-- one segment more
pub found-segment : (segments : List HistoryPart) (s : State) (least fault less : Option ℕ) (i : ℕ) (q : HistoryPart) → i < length segments → q ≡ get_or segments i q → less ≡ lesser least fault →
    Found segments s least (take i segments) → IfSome fault (IsFaultOf segments s q) → IsClear segments s fault q → Found segments s less (take (i + 1) segments)
found-segment segments s least fault less i q li is lesser_is f wrong clear =
    let begun : (n : ℕ) → IsRight segments s n → IsBegun segments s q n = subst (λ (p : HistoryPart). (n : ℕ) → IsRight segments s n → IsBegun segments s p n) (sym is) (begun-segment segments s i q li) in
    let next = found-more segments s least fault (take i segments) q f begun wrong clear in
    let rows : take (i + 1) segments ≡ take i segments ++ q ∷ [] = take_more segments i q li ∙ ap (λ (p : HistoryPart). take i segments ++ p ∷ []) (sym is) in
    subst (λ (o : Option ℕ). Found segments s o (take (i + 1) segments)) (sym lesser_is) (subst (Found segments s (lesser least fault)) (sym rows) next)

-- and the tail
pub found-tail : (segments : List HistoryPart) (s : State) (least fault less : Option ℕ) (done : List HistoryPart) → done ≡ segments → less ≡ lesser least fault →
    Found segments s least done → IfSome fault (IsFaultOf segments s (tail_of s)) → IsClear segments s fault (tail_of s) → Found segments s less (parts_of segments s)
found-tail segments s least fault less done all lesser_is f wrong clear =
    let next = found-more segments s least fault segments (tail_of s) (subst (Found segments s least) all f) (begun-tail segments s) wrong clear in
    subst (λ (o : Option ℕ). Found segments s o (parts_of segments s)) (sym lesser_is) next

-- a fault that a part shows
pub fault-wrong : (segments : List HistoryPart) (s : State) (q : HistoryPart) (first next both unbegun least : Option ℕ) → both ≡ lesser first next → least ≡ lesser both unbegun →
    IfSome first (λ n. IsInPlace segments s n → ⊥) → IfSome next (λ n. IsInPlace segments s n → ⊥) → IfSome unbegun (λ n. IsBegun segments s q n → ⊥) → IfSome least (IsFaultOf segments s q)
fault-wrong segments s q first next both unbegun least both_is least_is f n u =
    let places : IfSome both (λ k. IsInPlace segments s k → ⊥) = subst (λ (o : Option ℕ). IfSome o (λ k. IsInPlace segments s k → ⊥)) (sym both_is) (some-lesser (λ k. IsInPlace segments s k → ⊥) first next f n) in
    subst (λ (o : Option ℕ). IfSome o (IsFaultOf segments s q)) (sym least_is) (some-lesser (IsFaultOf segments s q) both unbegun
    (IfSome_then both places (λ k wrong place begun. wrong place)) (IfSome_then unbegun u (λ k wrong place begun. wrong begun)))
