-- Whether a part begins in the world in which the part before it ends, by places.
use Rattle.std.proofs.Common.{◌≡◌, ◌==◌, ◌&&◌, ◌||◌, cond, refl, ℕ, Bool, true, false, not, List, length, get_or, ap, sym, subst, arith, inl, inr, ◌+◌, ◌*◌, ◌<◌, ◌≤◌, ◌∙◌}
use Rattle.std.specs.Prelude.{All, nat_lt, nat_le}
use Rattle.std.specs.Bool.{Decides}
use Rattle.std.specs.List.{list_any}
use Rattle.std.proofs.lemmas.Bool.{ltb-true, leb-true, eqb-true}
use Rattle.std.proofs.lemmas.List.Elements.{All-push}
use Rattle.world.specs.World.{World}
use Rattle.hub.specs.History.{State, IsLegalRun}
use Rattle.hub.specs.Segments.{HistoryPart, tail_of}
use Rattle.hub.specs.joins.Joins.{parts_of, place, is_empty, may_precede, may_be_before, Begins, is_judged}
use Rattle.hub.specs.joins.Search.{is_before}
use Rattle.hub.proofs.joins.Joined.{Kind, kind}
use Rattle.hub.proofs.joins.Pushed.{All-front, All-back}

-- the nearest place below another
abbrev pub IsNearest : List HistoryPart → ℕ → ℕ → Type 0
IsNearest ps at nearest = (n : ℕ) → list_any (λ (r : HistoryPart). nat_lt n (place r) && nat_lt (place r) at) ps ≡ nat_lt n nearest

-- what may be the part before another is told by places
before-is : (ps : List HistoryPart) (q p : HistoryPart) (nearest at : ℕ) (empty : Bool) → place q ≡ at → is_empty q ≡ empty → IsNearest ps at nearest → may_be_before ps q p ≡ is_before (place p) nearest at empty
before-is ps q p nearest at empty at_is empty_is near =
    subst (λ (b : Bool). may_be_before ps q p ≡ is_before (place p) nearest at b) empty_is
    (subst (λ (a : ℕ). IsNearest ps a nearest → may_be_before ps q p ≡ is_before (place p) nearest a (is_empty q)) at_is
    (λ (n : IsNearest ps (place q) nearest). ap (λ b. may_precede p q && not b) (n (place p))) near)

and-first : (a b : Bool) → (a && b) ≡ true → a ≡ true
and-first true b e = refl
and-first false b e = absurd (cc)

-- the tail stands before a judged part only where it ends as it begins
tail-ends : (s : State) (q : HistoryPart) → Kind (tail_of s) → is_judged s q ≡ true → may_precede (tail_of s) q ≡ true → s.opening ≡ s.world
tail-ends s q (inl k) judged precedes = sym k.1
tail-ends s q (inr k) judged precedes = absurd (by (nat_lt (place (tail_of s)) (place q)) (is_empty q) (place (tail_of s) == place q) refl refl refl precedes)
  where
    low : place q ≤ place (tail_of s)
    low = leb-true _ _ (subst (λ (b : Bool). (b || nat_le (place q) (place (tail_of s))) ≡ true) k.2 judged)

    by : (a b c : Bool) → nat_lt (place (tail_of s)) (place q) ≡ a → is_empty q ≡ b → (place (tail_of s) == place q) ≡ c → (a || (b && c)) ≡ true → ⊥
    by true b c e f g h = let lt = ltb-true _ _ e in let le = low in omega (arith, lt, le)
    by false true true e f g h =
        let same = eqb-true _ _ g in
        let odd = k.0 in
        let even : place q ≡ 2 * q.opening.number + 0 = let add : Bool → ℕ = λ b. 2 * q.opening.number + (cond b 0 1) in ap add f in
        omega (arith, same, odd, even)
    by false true false e f g h = absurd (cc)
    by false false c e f g h = absurd (cc)

-- a segment that may be the part before and ends elsewhere
pub begins-not : (segments : List HistoryPart) (s : State) (q : HistoryPart) (i : ℕ) (x : HistoryPart) (opening : World) (nearest at : ℕ) (empty : Bool) → i < length segments → x ≡ get_or segments i x →
    (q.opening ≡ opening) → place q ≡ at → is_empty q ≡ empty → IsNearest (parts_of segments s) at nearest →
    ((is_before (place x) nearest at empty ≡ true → opening ≡ x.closing) → ⊥) → Begins (parts_of segments s) q → ⊥
begins-not segments s q i x opening nearest at empty li is opening_is at_is empty_is near wrong begins =
    let all = All-front (λ (p : HistoryPart). may_be_before (parts_of segments s) q p ≡ true → q.opening ≡ p.closing) segments (tail_of s) begins in
    let here = subst (λ (p : HistoryPart). may_be_before (parts_of segments s) q p ≡ true → q.opening ≡ p.closing) (sym is) (all i x li) in
    wrong (λ before. sym opening_is ∙ here (before-is (parts_of segments s) q x nearest at empty at_is empty_is near ∙ before))

-- where each segment that may be the part before ends there, the tail decides
pub begins-tail : (segments : List HistoryPart) (s : State) (q : HistoryPart) (opening : World) (nearest at : ℕ) (empty : Bool) (b : Bool) → IsLegalRun s.opening s.entries s.world →
    (q.opening ≡ opening) → place q ≡ at → is_empty q ≡ empty → is_judged s q ≡ true → IsNearest (parts_of segments s) at nearest →
    All (λ (p : HistoryPart). is_before (place p) nearest at empty ≡ true → opening ≡ p.closing) segments →
    Decides b (is_before (place (tail_of s)) nearest at empty ≡ true → opening ≡ s.opening) → Decides b (Begins (parts_of segments s) q)
begins-tail segments s q opening nearest at empty b legal opening_is at_is empty_is judged near all decides = (λ yes'. fits yes', λ begins. decides.1 (back begins))
  where
    ps : List HistoryPart
    ps = parts_of segments s

    ends : may_be_before (parts_of segments s) q (tail_of s) ≡ true → s.opening ≡ s.world
    ends before = tail-ends s q (kind s.opening s.entries s.world legal) judged (and-first (may_precede (tail_of s) q) _ before)

    same : (p : HistoryPart) → may_be_before (parts_of segments s) q p ≡ is_before (place p) nearest at empty
    same p = before-is (parts_of segments s) q p nearest at empty at_is empty_is near

    fits : b ≡ true → Begins (parts_of segments s) q
    fits is = All-push (λ (p : HistoryPart). may_be_before (parts_of segments s) q p ≡ true → q.opening ≡ p.closing) segments (tail_of s)
        (λ i d li before. opening_is ∙ all i d li (sym (same (get_or segments i d)) ∙ before))
        (λ before. opening_is ∙ decides.0 is (sym (same (tail_of s)) ∙ before) ∙ ends before)

    back : Begins (parts_of segments s) q → is_before (place (tail_of s)) nearest at empty ≡ true → opening ≡ s.opening
    back begins before =
        let may = same (tail_of s) ∙ before in
        let here = All-back (λ (p : HistoryPart). may_be_before (parts_of segments s) q p ≡ true → q.opening ≡ p.closing) segments (tail_of s) begins may in
        sym opening_is ∙ here ∙ sym (ends may)
