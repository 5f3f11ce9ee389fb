-- A change of one entry by its key is a change of one subscription by its id.
use Rattle.std.proofs.Common.{◌≡◌, ◌∙◌, ◌==◌, ◌<◌, ℕ, Bool, true, false, cond, not, List, [], ◌∷◌, ◌++◌, map, filter, Option, Some, None, inl, inr, ap, sym, refl, subst, arith}
use Rattle.std.specs.Prelude.{find, All}
use Rattle.std.specs.Map.{lookup, set_value, remove_entry, values_of}
use Rattle.std.proofs.lemmas.Bool.{cases_Bool, eqb-true, eq-eqb, ne_eqb}
use Rattle.std.proofs.lemmas.Bool.Decides.{nat_tests}
use Rattle.std.proofs.lemmas.List.Elements.{All-head, All-tail, All-nil, All-cons}
use Rattle.world_subscriptions.specs.Limit.{has_ended, unended}
use Rattle.world_rows.specs.declared.subscription.Subscription.{Subscription}
use Rattle.world_subscriptions.specs.Changes.{only, is_id}
use Rattle.world_subscriptions.specs.Index.{if_any}
use Rattle.world_subscriptions.specs.Kept.{IsAbove, IsKept}
use Rattle.world_rows.proofs.Places.{test_is}

abbrev pub Entries : Type 0
Entries = List (ℕ × Subscription)

-- nothing above an id is of it, and nothing has ended
untouched : (f : Subscription → Subscription) (id : ℕ) (es : Entries) → IsKept es → IsAbove id es → unended (map (only f id) (values_of es)) ≡ values_of es
unfolding IsKept IsAbove
untouched f id [] kept above = refl
untouched f id (e ∷ es) kept above =
    let no : (e.1.id == id) ≡ false = ne_eqb e.1.id id (λ same. let h : id < e.0 = above.0 in let k = kept.0 in absurd (omega arith)) in
    ap (λ b. cond (not (has_ended (cond b (f e.1) e.1))) (cond b (f e.1) e.1 ∷ unended (map (only f id) (values_of es))) (unended (map (only f id) (values_of es)))) no
    ∙ ap (λ b. cond (not b) (e.1 ∷ unended (map (only f id) (values_of es))) (unended (map (only f id) (values_of es)))) kept.1
    ∙ ap (λ rest. e.1 ∷ rest) (untouched f id es kept.3 above.1)

-- an id that no entry has
pub absent : (f : Subscription → Subscription) (id : ℕ) (es : Entries) → IsKept es → lookup (is_id id) es ≡ None → unended (map (only f id) (values_of es)) ≡ values_of es
unfolding IsKept
absent f id [] kept none = refl
absent f id (e ∷ es) kept none = here (is_id id e.0) refl none (absent f id es kept.3)
  where
    here : (b : Bool) → is_id id e.0 ≡ b → cond b (Some e.1) (lookup (is_id id) es) ≡ None → (lookup (is_id id) es ≡ None → unended (map (only f id) (values_of es)) ≡ values_of es) → unended (map (only f id) (values_of (e ∷ es))) ≡ values_of (e ∷ es)
    here true is h later = cc
    here false is h later =
        let no : (e.1.id == id) ≡ false = ap (λ n. n == id) kept.0 ∙ sym (test_is id e.0) ∙ is in
        ap (λ b. cond (not (has_ended (cond b (f e.1) e.1))) (cond b (f e.1) e.1 ∷ unended (map (only f id) (values_of es))) (unended (map (only f id) (values_of es)))) no
        ∙ ap (λ b. cond (not b) (e.1 ∷ unended (map (only f id) (values_of es))) (unended (map (only f id) (values_of es)))) kept.1
        ∙ ap (λ rest. e.1 ∷ rest) (later h)

-- a change after which it goes on
pub goes_on : (f : Subscription → Subscription) (id : ℕ) (es : Entries) (s : Subscription) → IsKept es → lookup (is_id id) es ≡ Some s → has_ended (f s) ≡ false →
    values_of (set_value (is_id id) es (f s)) ≡ unended (map (only f id) (values_of es))
unfolding IsKept
goes_on f id [] s kept found on = cc
goes_on f id (e ∷ es) s kept found on = here (is_id id e.0) refl found (λ h. goes_on f id es s kept.3 h on)
  where
    rest : List Subscription
    rest = unended (map (only f id) (values_of es))

    here : (b : Bool) → is_id id e.0 ≡ b → cond b (Some e.1) (lookup (is_id id) es) ≡ Some s →
        (lookup (is_id id) es ≡ Some s → values_of (set_value (is_id id) es (f s)) ≡ unended (map (only f id) (values_of es))) →
        values_of (cond b ((e.0, f s) ∷ es) (e ∷ set_value (is_id id) es (f s))) ≡ unended (map (only f id) (values_of (e ∷ es)))
    here true is h later =
        let yes : (e.1.id == id) ≡ true = ap (λ n. n == id) kept.0 ∙ sym (test_is id e.0) ∙ is in
        let same : e.1 ≡ s = cc in
        let key : e.0 ≡ id = eqb-true e.0 id (sym (test_is id e.0) ∙ is) in
        sym (ap (λ b. cond (not (has_ended (cond b (f e.1) e.1))) (cond b (f e.1) e.1 ∷ rest) rest) yes
        ∙ ap (λ (x : Subscription). cond (not (has_ended (f x))) (f x ∷ rest) rest) same
        ∙ ap (λ b. cond (not b) (f s ∷ rest) rest) on
        ∙ ap (λ more. f s ∷ more) (untouched f id es kept.3 (subst (λ n. IsAbove n es) key kept.2)))
    here false is h later =
        let no : (e.1.id == id) ≡ false = ap (λ n. n == id) kept.0 ∙ sym (test_is id e.0) ∙ is in
        ap (λ more. e.1 ∷ more) (later h)
        ∙ sym (ap (λ b. cond (not (has_ended (cond b (f e.1) e.1))) (cond b (f e.1) e.1 ∷ rest) rest) no
        ∙ ap (λ b. cond (not b) (e.1 ∷ rest) rest) kept.1)

-- a change by which it ends
pub ends : (f : Subscription → Subscription) (id : ℕ) (es : Entries) (s : Subscription) → IsKept es → lookup (is_id id) es ≡ Some s → has_ended (f s) ≡ true →
    values_of (remove_entry (is_id id) (set_value (is_id id) es (f s))) ≡ unended (map (only f id) (values_of es))
unfolding IsKept
ends f id [] s kept found over = cc
ends f id (e ∷ es) s kept found over = here (is_id id e.0) refl found (λ h. ends f id es s kept.3 h over)
  where
    rest : List Subscription
    rest = unended (map (only f id) (values_of es))

    here : (b : Bool) → is_id id e.0 ≡ b → cond b (Some e.1) (lookup (is_id id) es) ≡ Some s →
        (lookup (is_id id) es ≡ Some s → values_of (remove_entry (is_id id) (set_value (is_id id) es (f s))) ≡ unended (map (only f id) (values_of es))) →
        values_of (remove_entry (is_id id) (cond b ((e.0, f s) ∷ es) (e ∷ set_value (is_id id) es (f s)))) ≡ unended (map (only f id) (values_of (e ∷ es)))
    here true is h later =
        let yes : (e.1.id == id) ≡ true = ap (λ n. n == id) kept.0 ∙ sym (test_is id e.0) ∙ is in
        let same : e.1 ≡ s = cc in
        let key : e.0 ≡ id = eqb-true e.0 id (sym (test_is id e.0) ∙ is) in
        ap (λ b. values_of (cond b es ((e.0, f s) ∷ remove_entry (is_id id) es))) is
        ∙ sym (ap (λ b. cond (not (has_ended (cond b (f e.1) e.1))) (cond b (f e.1) e.1 ∷ rest) rest) yes
        ∙ ap (λ (x : Subscription). cond (not (has_ended (f x))) (f x ∷ rest) rest) same
        ∙ ap (λ b. cond (not b) (f s ∷ rest) rest) over
        ∙ untouched f id es kept.3 (subst (λ n. IsAbove n es) key kept.2))
    here false is h later =
        let no : (e.1.id == id) ≡ false = ap (λ n. n == id) kept.0 ∙ sym (test_is id e.0) ∙ is in
        ap (λ b. values_of (cond b (set_value (is_id id) es (f s)) (e ∷ remove_entry (is_id id) (set_value (is_id id) es (f s))))) is
        ∙ ap (λ more. e.1 ∷ more) (later h)
        ∙ sym (ap (λ b. cond (not (has_ended (cond b (f e.1) e.1))) (cond b (f e.1) e.1 ∷ rest) rest) no
        ∙ ap (λ b. cond (not b) (e.1 ∷ rest) rest) kept.1)

pub lookup_set : (id : ℕ) (es : Entries) (w s : Subscription) → lookup (is_id id) es ≡ Some s → lookup (is_id id) (set_value (is_id id) es w) ≡ Some w
lookup_set id [] w s found = cc
lookup_set id (e ∷ es) w s found = elim (cases_Bool (is_id id e.0)) [
  | inl y ↦ rw (y, y) refl
  | inr n ↦ rw (n, n) (lookup_set id es w s (rw n at found))
]

-- ---- what is kept

above-set : (n id : ℕ) (es : Entries) (w : Subscription) → IsAbove n es → IsAbove n (set_value (is_id id) es w)
unfolding IsAbove
above-set n id [] w above = above
above-set n id (e ∷ es) w above = here (is_id id e.0) (above-set n id es w above.1)
  where
    here : (b : Bool) → IsAbove n (set_value (is_id id) es w) → IsAbove n (cond b ((e.0, w) ∷ es) (e ∷ set_value (is_id id) es w))
    here true later = above
    here false later = (above.0, later)

above-removed : (n id : ℕ) (es : Entries) → IsAbove n es → IsAbove n (remove_entry (is_id id) es)
unfolding IsAbove
above-removed n id [] above = above
above-removed n id (e ∷ es) above = here (is_id id e.0) (above-removed n id es above.1)
  where
    here : (b : Bool) → IsAbove n (remove_entry (is_id id) es) → IsAbove n (cond b es (e ∷ remove_entry (is_id id) es))
    here true later = above.1
    here false later = (above.0, later)

pub kept-set : (f : Subscription → Subscription) (id : ℕ) (es : Entries) (s : Subscription) → ((x : Subscription) → (f x).id ≡ x.id) → IsKept es → lookup (is_id id) es ≡ Some s → has_ended (f s) ≡ false → IsKept (set_value (is_id id) es (f s))
unfolding IsKept
kept-set f id [] s same kept found on = kept
kept-set f id (e ∷ es) s same kept found on = here (is_id id e.0) refl found (λ h. kept-set f id es s same kept.3 h on)
  where
    here : (b : Bool) → is_id id e.0 ≡ b → cond b (Some e.1) (lookup (is_id id) es) ≡ Some s → (lookup (is_id id) es ≡ Some s → IsKept (set_value (is_id id) es (f s))) → IsKept (cond b ((e.0, f s) ∷ es) (e ∷ set_value (is_id id) es (f s)))
    here true is h later = let it : e.1 ≡ s = cc in (same s ∙ sym (ap (λ (x : Subscription). x.id) it) ∙ kept.0, on, kept.2, kept.3)
    here false is h later = (kept.0, kept.1, above-set e.0 id es (f s) kept.2, later h)

pub kept-ended : (id : ℕ) (es : Entries) (w : Subscription) → IsKept es → IsKept (remove_entry (is_id id) (set_value (is_id id) es w))
unfolding IsKept
kept-ended id [] w kept = kept
kept-ended id (e ∷ es) w kept = here (is_id id e.0) refl (kept-ended id es w kept.3)
  where
    here : (b : Bool) → is_id id e.0 ≡ b → IsKept (remove_entry (is_id id) (set_value (is_id id) es w)) → IsKept (remove_entry (is_id id) (cond b ((e.0, w) ∷ es) (e ∷ set_value (is_id id) es w)))
    here true is later = subst (λ b. IsKept (cond b es ((e.0, w) ∷ remove_entry (is_id id) es))) (sym is) kept.3
    here false is later = subst (λ b. IsKept (cond b (set_value (is_id id) es w) (e ∷ remove_entry (is_id id) (set_value (is_id id) es w)))) (sym is)
        (kept.0, kept.1, above-removed e.0 id (set_value (is_id id) es w) (above-set e.0 id es w kept.2), later)

-- ---- one more, above all

-- what is above the ids is above the keys
pub keys_below : (n : ℕ) (es : Entries) → IsKept es → All (λ (x : Subscription). x.id < n) (values_of es) → All (λ (e : ℕ × Subscription). e.0 < n) es
unfolding IsKept
keys_below n [] kept below = All-nil (λ (e : ℕ × Subscription). e.0 < n)
keys_below n (e ∷ es) kept below =
    All-cons (λ (x : ℕ × Subscription). x.0 < n) e es
    (subst (λ k. k < n) kept.0 (All-head (λ (x : Subscription). x.id < n) e.1 (values_of es) below))
    (keys_below n es kept.3 (All-tail (λ (x : Subscription). x.id < n) e.1 (values_of es) below))

pub kept-added : (id : ℕ) (es : Entries) (s : Subscription) → IsKept es → All (λ (x : Subscription). x.id < id) (values_of es) → s.id ≡ id → has_ended s ≡ false → IsKept (es ++ (id, s) ∷ [])
unfolding IsKept IsAbove
kept-added id [] s kept below is on = (is, on, tt, tt)
kept-added id (e ∷ es) s kept below is on =
    (kept.0, kept.1, behind es kept.2 (let h : e.1.id < id = All-head (λ (x : Subscription). x.id < id) e.1 (values_of es) below in let k = kept.0 in omega arith), kept-added id es s kept.3 (All-tail (λ (x : Subscription). x.id < id) e.1 (values_of es) below) is on)
  where
    behind : (more : Entries) → IsAbove e.0 more → e.0 < id → IsAbove e.0 (more ++ (id, s) ∷ [])
    behind [] above h = (h, tt)
    behind (x ∷ more) above h = (above.0, behind more above.1 h)

pub found_is : (id : ℕ) (es : Entries) → IsKept es → lookup (is_id id) es ≡ find (λ (s : Subscription). s.id == id) (values_of es)
unfolding IsKept
found_is id [] kept = refl
found_is id (e ∷ es) kept =
    ap (λ b. cond b (Some e.1) (lookup (is_id id) es)) (test_is id e.0 ∙ ap (λ n. n == id) (sym kept.0))
    ∙ ap (λ o. cond (e.1.id == id) (Some e.1) o) (found_is id es kept.3)

pub going : (es : Entries) → IsKept es → unended (values_of es) ≡ values_of es
unfolding IsKept
going [] kept = refl
going (e ∷ es) kept =
    ap (λ b. cond (not b) (e.1 ∷ unended (values_of es)) (unended (values_of es))) kept.1 ∙ ap (λ rest. e.1 ∷ rest) (going es kept.3)

-- ---- those that pass a test

pub values-filter : (p : Subscription → Bool) (es : Entries) → values_of (filter (λ (e : ℕ × Subscription). p e.1) es) ≡ filter p (values_of es)
values-filter p [] = refl
values-filter p (e ∷ es) = here (p e.1) (values-filter p es)
  where
    here : (b : Bool) → values_of (filter (λ (x : ℕ × Subscription). p x.1) es) ≡ filter p (values_of es) →
        values_of (cond b (e ∷ filter (λ (x : ℕ × Subscription). p x.1) es) (filter (λ (x : ℕ × Subscription). p x.1) es)) ≡ cond b (e.1 ∷ filter p (values_of es)) (filter p (values_of es))
    here true later = ap (λ rest. e.1 ∷ rest) later
    here false later = later

above-filter : (n : ℕ) (q : ℕ × Subscription → Bool) (es : Entries) → IsAbove n es → IsAbove n (filter q es)
unfolding IsAbove
above-filter n q [] above = above
above-filter n q (e ∷ es) above = here (q e) (above-filter n q es above.1)
  where
    here : (b : Bool) → IsAbove n (filter q es) → IsAbove n (cond b (e ∷ filter q es) (filter q es))
    here true later = (above.0, later)
    here false later = later

pub kept-filter : (q : ℕ × Subscription → Bool) (es : Entries) → IsKept es → IsKept (filter q es)
unfolding IsKept
kept-filter q [] kept = kept
kept-filter q (e ∷ es) kept = here (q e) (kept-filter q es kept.3)
  where
    here : (b : Bool) → IsKept (filter q es) → IsKept (cond b (e ∷ filter q es) (filter q es))
    here true later = (kept.0, kept.1, above-filter e.0 q es kept.2, later)
    here false later = later

-- ---- one taken out by its id

all_stay : (id : ℕ) (es : Entries) → IsKept es → IsAbove id es → es ≡ filter (λ (e : ℕ × Subscription). not (e.1.id == id)) es
unfolding IsKept IsAbove
all_stay id [] kept above = refl
all_stay id (e ∷ es) kept above =
    let other : (e.1.id == id) ≡ false = grind (arith, nat_tests, above.0, kept.0) in
    rw other (ap (λ (more : Entries). e ∷ more) (all_stay id es kept.3 above.1))

pub removed-filter : (id : ℕ) (es : Entries) → IsKept es → remove_entry (is_id id) es ≡ filter (λ (e : ℕ × Subscription). not (e.1.id == id)) es
unfolding IsKept
removed-filter id [] kept = refl
removed-filter id (e ∷ es) kept = elim (cases_Bool (is_id id e.0)) [
  | inl y ↦
      let key : e.0 ≡ id = eqb-true e.0 id (sym (test_is id e.0) ∙ y) in
      rw (y, eq-eqb e.1.id id (kept.0 ∙ key)) (all_stay id es kept.3 (subst (λ n. IsAbove n es) key kept.2))
  | inr n ↦
      let other : (e.1.id == id) ≡ false = ap (λ k. k == id) kept.0 ∙ sym (test_is id e.0) ∙ n in
      rw (n, other) (ap (λ (more : Entries). e ∷ more) (removed-filter id es kept.3))
]

-- ---- those that end by a change

-- the one that a change ends
abbrev pub ended_of : (Subscription → Subscription) → Option Subscription → Option Subscription
ended_of f None = None
ended_of f (Some s) = cond (has_ended (f s)) (Some (f s)) None

none_over : (f : Subscription → Subscription) (id : ℕ) (es : Entries) → IsKept es → IsAbove id es → filter has_ended (map (only f id) (values_of es)) ≡ []
unfolding IsKept IsAbove
none_over f id [] kept above = refl
none_over f id (e ∷ es) kept above =
    let other : (e.1.id == id) ≡ false = grind (arith, nat_tests, above.0, kept.0) in
    rw (other, kept.1) (none_over f id es kept.3 above.1)

-- at most the one of that id
pub over : (f : Subscription → Subscription) (id : ℕ) (es : Entries) → IsKept es → if_any (ended_of f (lookup (is_id id) es)) ≡ filter has_ended (map (only f id) (values_of es))
unfolding IsKept
over f id [] kept = refl
over f id (e ∷ es) kept = elim (cases_Bool (is_id id e.0)) [
  | inl y ↦
      let key : e.0 ≡ id = eqb-true e.0 id (sym (test_is id e.0) ∙ y) in
      rw (y, eq-eqb e.1.id id (kept.0 ∙ key)) (here (has_ended (f e.1)) (none_over f id es kept.3 (subst (λ n. IsAbove n es) key kept.2)))
  | inr n ↦
      let other : (e.1.id == id) ≡ false = ap (λ k. k == id) kept.0 ∙ sym (test_is id e.0) ∙ n in
      rw (n, other, kept.1) (over f id es kept.3)
]
  where
    here : (b : Bool) → filter has_ended (map (only f id) (values_of es)) ≡ []
        → if_any (cond b (Some (f e.1)) None) ≡ cond b (f e.1 ∷ filter has_ended (map (only f id) (values_of es))) (filter has_ended (map (only f id) (values_of es)))
    here true none = ap (λ (xs : List Subscription). f e.1 ∷ xs) (sym none)
    here false none = sym none
