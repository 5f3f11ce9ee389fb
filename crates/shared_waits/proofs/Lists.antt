-- Lists of publishers with their receivers, and of receivers with the patience with them.
use Rattle.std.proofs.Common.{◌≡◌, ◌∙◌, ◌==◌, ◌+◌, ◌-◌, ◌<◌, ◌≤◌, ◌++◌, ◌∷◌, ◌||◌, [], ℕ, suc, zero, List, Bool, true, false, Option, None, Some, cond, refl, sym, ap, subst, filter, map, not, take, drop, length, is_some, nat_eq, arith, true≢false, get_or, add-one, append_assoc, ◌/◌}
use Rattle.std.specs.List.{list_any}
use Rattle.std.specs.Map.{lookup}
use Rattle.std.proofs.lemmas.Bool.{eqb-true, eq-eqb, ne_eqb}
use Rattle.shared_waits.specs.declared.patience.Patience.{Patience}
use Rattle.std.proofs.Math.Seq.{drop-cons}
use Rattle.shared_waits.specs.Patience.{begun, begun_by}
use Rattle.shared_waits.specs.Waiting.{Waiting, patience_with, elsewhere, all_but, under, stay, has_room, after_taken, IsRested, found, after_found, after_gone, after_end}

-- a key that isn't there leaves all
pub absent_stays : {X : Type 0} (p : ℕ) (ws : List (ℕ × X)) → lookup (nat_eq p) ws ≡ None → ws ≡ filter (λ w. not (p == w.0)) ws
absent_stays p [] none = refl
absent_stays {X} p (w ∷ ws) none = by (nat_eq p w.0) refl (absent_stays p ws)
  where
    by : (b : Bool) → nat_eq p w.0 ≡ b → (lookup (nat_eq p) ws ≡ None → ws ≡ filter (λ (v : ℕ × X). not (p == v.0)) ws)
        → w ∷ ws ≡ filter (λ (v : ℕ × X). not (p == v.0)) (w ∷ ws)
    by true e rest =
        let some : Some w.1 ≡ None = sym (ap (λ c. cond c (Some w.1) (lookup (nat_eq p) ws)) e) ∙ none in
        cc
    by false e rest =
        ap (λ (l : List (ℕ × X)). w ∷ l) (rest (sym (ap (λ c. cond c (Some w.1) (lookup (nat_eq p) ws)) e) ∙ none))
        ∙ sym (ap (λ c. cond (not c) (w ∷ filter (λ (v : ℕ × X). not (p == v.0)) ws) (filter (λ (v : ℕ × X). not (p == v.0)) ws)) e)

-- one that is left out isn't there
pub left_out : {X : Type 0} (p : ℕ) (ws : List (ℕ × X)) → lookup (nat_eq p) (filter (λ w. not (p == w.0)) ws) ≡ None
left_out p [] = refl
left_out {X} p (w ∷ ws) = by (nat_eq p w.0) refl (left_out p ws)
  where
    by : (b : Bool) → nat_eq p w.0 ≡ b → lookup (nat_eq p) (filter (λ (v : ℕ × X). not (p == v.0)) ws) ≡ None
        → lookup (nat_eq p) (filter (λ (v : ℕ × X). not (p == v.0)) (w ∷ ws)) ≡ None
    by true e rest = ap (λ c. lookup (nat_eq p) (cond (not c) (w ∷ filter (λ (v : ℕ × X). not (p == v.0)) ws) (filter (λ (v : ℕ × X). not (p == v.0)) ws))) e ∙ rest
    by false e rest =
        ap (λ c. lookup (nat_eq p) (cond (not c) (w ∷ filter (λ (v : ℕ × X). not (p == v.0)) ws) (filter (λ (v : ℕ × X). not (p == v.0)) ws))) e
        ∙ ap (λ c. cond c (Some w.1) (lookup (nat_eq p) (filter (λ (v : ℕ × X). not (p == v.0)) ws))) e
        ∙ rest

-- what passes a test is no more than all
fewer : {X : Type 0} (test : X → Bool) (xs : List X) → length (filter test xs) ≤ length xs
fewer test [] = omega arith
fewer {X} test (x ∷ xs) = by (test x) refl (fewer test xs)
  where
    by : (b : Bool) → test x ≡ b → length (filter test xs) ≤ length xs → length (filter test (x ∷ xs)) ≤ length (x ∷ xs)
    by true e rest = subst (λ b. length (cond b (x ∷ filter test xs) (filter test xs)) ≤ suc (length xs)) (sym e) (omega arith)
    by false e rest = subst (λ b. length (cond b (x ∷ filter test xs) (filter test xs)) ≤ suc (length xs)) (sym e) (omega arith)

-- those that wait for a receiver, and those that don't, are all
parts : (r : ℕ) (ws : List (ℕ × ℕ)) → length (under r ws) + length (elsewhere r ws) ≡ length ws
parts r [] = refl
parts r (w ∷ ws) = by (r == w.1) refl (parts r ws)
  where
    both : Bool → ℕ
    both b =
        length (map (λ (v : ℕ × ℕ). v.0) (cond b (w ∷ filter (λ (v : ℕ × ℕ). r == v.1) ws) (filter (λ (v : ℕ × ℕ). r == v.1) ws)))
        + length (cond (not b) (w ∷ elsewhere r ws) (elsewhere r ws))

    by : (b : Bool) → (r == w.1) ≡ b → length (under r ws) + length (elsewhere r ws) ≡ length ws
        → length (under r (w ∷ ws)) + length (elsewhere r (w ∷ ws)) ≡ length (w ∷ ws)
    by true e rest = subst (λ b. both b ≡ suc (length ws)) (sym e) (omega arith)
    by false e rest = subst (λ b. both b ≡ suc (length ws)) (sym e) (omega arith)

-- those that a connection's end lets on, and those that still wait, are no more than all before
pub leaves : (conn : ℕ) (ws : List (ℕ × ℕ)) → length (under conn ws) + length (after_end conn ws) ≤ length ws
leaves conn ws = omega (arith, parts conn ws, fewer (λ (w : ℕ × ℕ). not (conn == w.0)) (elsewhere conn ws))

-- what is put behind a list
pub behind : (xs ys : List ℕ) → drop (length xs) (xs ++ ys) ≡ ys
behind [] ys = refl
behind (x ∷ xs) ys = behind xs ys

-- the first of so many, where there may be one
pub take_next : (n : ℕ) (x : ℕ) (xs : List ℕ) → 0 < n → take n (x ∷ xs) ≡ x ∷ take (n - 1) xs
take_next zero x xs some = absurd (omega arith)
take_next (suc n) x xs some = let e : suc n - 1 ≡ n = omega arith in rw e refl

-- one more is noted of those that wait for a receiver
pub noted_next : (freed : List ℕ) (n p receiver other : ℕ) (rest : List (ℕ × ℕ)) (all : List ℕ) → 0 < n → receiver ≡ other
    → freed ++ take n (under receiver ((p, other) ∷ rest)) ≡ all → (freed ++ p ∷ []) ++ take (n - 1) (under receiver rest) ≡ all
noted_next freed n p receiver other rest all some e h =
    append_assoc freed (p ∷ []) (take (n - 1) (under receiver rest))
    ∙ ap (λ (l : List ℕ). freed ++ l) (sym (take_next n p (under receiver rest) some))
    ∙ ap (λ b. freed ++ take n (map (λ (v : ℕ × ℕ). v.0) (cond b ((p, other) ∷ filter (λ (v : ℕ × ℕ). receiver == v.1) rest) (filter (λ (v : ℕ × ℕ). receiver == v.1) rest)))) (sym (eq-eqb receiver other e))
    ∙ h

-- the first that wait are let on where something still waits
pub rested_by : (receiver waiting refused now : ℕ) (w after : Waiting) → has_room waiting (patience_with w receiver) ≡ true → (waiting == 0) ≡ false
    → after.publishers ≡ all_but receiver (take 64 (under receiver w.publishers)) w.publishers
    → ((conn : ℕ) → patience_with after conn ≡ after_taken receiver waiting refused now conn (patience_with w conn))
    → IsRested receiver waiting refused now w after
rested_by receiver waiting refused now w after room some left put = record {
  receivers = put;
  publishers =
      left
      ∙ sym (ap (λ b. cond b (elsewhere receiver w.publishers) (all_but receiver (take 64 (under receiver w.publishers)) w.publishers)) some)
      ∙ sym (ap (λ b. cond b (stay receiver waiting w.publishers) w.publishers) room);
}

-- nobody is there whom a look-up doesn't find
pub none_found : {X : Type 0} (o : Option X) → is_some o ≡ false → o ≡ None
none_found None e = refl
none_found (Some x) e = absurd (true≢false e)

chosen : {X : Type 0} (b : Bool) (x y : X) → b ≡ true → cond b x y ≡ x
chosen b x y e = ap (λ c. cond c x y) e

other : {X : Type 0} (b : Bool) (x y : X) → b ≡ false → cond b x y ≡ y
other b x y e = ap (λ c. cond c x y) e

-- who is found behind twice at a moment is found so once
pub found_twice : (now most : ℕ) (before : Option Patience) → found now most (Some (found now most before)) ≡ found now most before
found_twice now most None = refl
found_twice now most (Some p) = by p.since refl
  where
    by : (s : Option ℕ) → p.since ≡ s → begun now most (begun_by s now most p) ≡ begun_by s now most p
    by None e = refl
    by (Some since) e = ap (λ (x : Option ℕ). begun_by x now most p) e

-- what is left of a list
pub drop_next : (i : ℕ) (xs : List ℕ) → i < length xs → drop i xs ≡ get_or xs i 0 ∷ drop (i + 1) xs
drop_next i xs within = rw add-one (drop-cons xs i 0 within)

same_eqb : (a b : ℕ) → a ≡ b → nat_eq a b ≡ true
same_eqb a b e = eq-eqb a b e

-- one more is found behind, of those that are
pub found_next : (waiting : ℕ → ℕ) (now x : ℕ) (xs : List ℕ) (f g : ℕ → Option Patience)
    → ((conn : ℕ) → g conn ≡ cond (nat_eq x conn) (Some (found now (waiting x / 2) (f x))) (f conn))
    → (conn : ℕ) → after_found waiting now xs conn (g conn) ≡ after_found waiting now (x ∷ xs) conn (f conn)
found_next waiting now x xs f g next conn = by (nat_eq conn x) refl
  where
    once : g x ≡ Some (found now (waiting x / 2) (f x))
    once = next x ∙ chosen (nat_eq x x) _ _ (same_eqb x x refl)

    twice : (b : Bool) → cond b (Some (found now (waiting x / 2) (g x))) (g x) ≡ Some (found now (waiting x / 2) (f x))
    twice true = ap (λ (q : Option Patience). Some (found now (waiting x / 2) q)) once ∙ ap (λ (q : Patience). Some q) (found_twice now (waiting x / 2) (f x))
    twice false = once

    here : after_found waiting now xs x (g x) ≡ after_found waiting now (x ∷ xs) x (f x)
    here =
        twice (list_any (nat_eq x) xs)
        ∙ sym (ap (λ a. cond (a || list_any (nat_eq x) xs) (Some (found now (waiting x / 2) (f x))) (f x)) (same_eqb x x refl))

    apart : nat_eq conn x ≡ false → nat_eq x conn ≡ false
    apart e = ne_eqb x conn (λ h. true≢false (sym (same_eqb conn x (sym h)) ∙ e))

    by : (a : Bool) → nat_eq conn x ≡ a → after_found waiting now xs conn (g conn) ≡ after_found waiting now (x ∷ xs) conn (f conn)
    by true e = subst (λ c. after_found waiting now xs c (g c) ≡ after_found waiting now (x ∷ xs) c (f c)) (sym (eqb-true conn x e)) here
    by false e =
        ap (after_found waiting now xs conn) (next conn ∙ other (nat_eq x conn) _ _ (apart e))
        ∙ sym (ap (λ a. cond (a || list_any (nat_eq conn) xs) (Some (found now (waiting conn / 2) (f conn))) (f conn)) e)

-- one more has ended, of those that end
pub gone_next : (x : ℕ) (xs : List ℕ) (f g : ℕ → Option Patience)
    → ((conn : ℕ) → g conn ≡ cond (nat_eq x conn) None (f conn))
    → (conn : ℕ) → after_gone xs conn (g conn) ≡ after_gone (x ∷ xs) conn (f conn)
gone_next x xs f g next conn = by (nat_eq conn x) refl
  where
    once : g x ≡ None
    once = next x ∙ chosen (nat_eq x x) _ _ (same_eqb x x refl)

    twice : (b : Bool) → cond b None (g x) ≡ None
    twice true = refl
    twice false = once

    here : after_gone xs x (g x) ≡ after_gone (x ∷ xs) x (f x)
    here = twice (list_any (nat_eq x) xs) ∙ sym (ap (λ a. cond (a || list_any (nat_eq x) xs) None (f x)) (same_eqb x x refl))

    apart : nat_eq conn x ≡ false → nat_eq x conn ≡ false
    apart e = ne_eqb x conn (λ h. true≢false (sym (same_eqb conn x (sym h)) ∙ e))

    by : (a : Bool) → nat_eq conn x ≡ a → after_gone xs conn (g conn) ≡ after_gone (x ∷ xs) conn (f conn)
    by true e = subst (λ c. after_gone xs c (g c) ≡ after_gone (x ∷ xs) c (f c)) (sym (eqb-true conn x e)) here
    by false e =
        ap (after_gone xs conn) (next conn ∙ other (nat_eq x conn) _ _ (apart e))
        ∙ sym (ap (λ a. cond (a || list_any (nat_eq conn) xs) None (f conn)) e)
