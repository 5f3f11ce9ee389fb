-- Rows by rising id, and the entries of those that stand.
use Rattle.std.proofs.Common.{◌≡◌, ◌≢◌, ◌∙◌, ◌==◌, ◌<◌, ◌+◌, ◌-◌, ℕ, zero, suc, Bool, true, false, cond, List, [], ◌∷◌, ◌++◌, length, Option, Some, None, MatchOption, ap, sym, refl, subst, arith, All, slice_index_or, slice_set}
use Rattle.std.specs.Map.{lookup, set_value, remove_entry}
use Rattle.std.proofs.lemmas.Bool.{ne_eqb, eq-eqb}
use Rattle.std.proofs.lemmas.Bool.Decides.{nat_tests}
use Rattle.std.proofs.lemmas.List.{length-append}
use Rattle.std.proofs.lemmas.List.Elements.{All-head, All-tail}
use Rattle.stores.specs.numbered_slots.Slots.{entry_of, passes, AreAbove, AreBelow, AreRising, IsAbsent}
use Rattle.stores.proofs.numbered_slots.Places.{above_at, kept_slots, rising_set, entries-append}
use Rattle.world_rows.specs.Limit.{has_ended}
use Rattle.world_rows.specs.Changes.{is_id}
use Rattle.world_rows.specs.Rows.{id_of, held, entries_in, AreEmpty, IsPlaceOf}
use Rattle.world_rows.specs.declared.rows.Row.{Row}
use Rattle.world_rows.specs.declared.subscription.Subscription.{Subscription}

pub test_is : (id k : ℕ) → is_id id k ≡ (k == id)
test_is id k = grind (arith, nat_tests)

-- what a change of one left of the entries, and whether the one that it changed has ended
abbrev pub Changes : (Subscription → Subscription) → ℕ → List (ℕ × Subscription) → List (ℕ × Subscription) → Bool → Type 0
Changes f id es new ended = MatchOption (lookup (is_id id) es) ((new ≡ es) × (ended ≡ false)) (λ s. (new ≡ set_value (is_id id) es (f s)) × (ended ≡ has_ended (f s)))

-- ---- an id that no row has

pass_row : (id n : ℕ) (o : Option Subscription) (rows : List Row) → is_id id n ≡ false → lookup (is_id id) (entry_of n o ++ entries_in rows) ≡ lookup (is_id id) (entries_in rows)
pass_row id n None rows other = refl
pass_row id n (Some s) rows other = rw other refl

is_other : (id n : ℕ) → n ≢ id → is_id id n ≡ false
is_other id n other = test_is id n ∙ ne_eqb n id other

pub absent_of : (id : ℕ) (rows : List Row) → IsAbsent id_of id rows → lookup (is_id id) (entries_in rows) ≡ None
absent_of id [] other = refl
absent_of id (r ∷ rows) other = pass_row id r.id r.subscription rows (is_other id r.id (other zero r (omega arith))) ∙ absent_of id rows (λ k d within. other (suc k) d (omega arith))

absent_above : (id : ℕ) (rows : List Row) → AreAbove id_of id rows → lookup (is_id id) (entries_in rows) ≡ None
absent_above id rows above = absent_of id rows (λ k d within same. let a : id < (slice_index_or rows k d).id = above_at id_of id rows k d above within in omega (arith, a, same))

-- the test of a row before the place of an id
before : (id : ℕ) (r : Row) (rows : List Row) (i : ℕ) (d : Row) → AreRising id_of (r ∷ rows) → i < length rows → (slice_index_or rows i d).id ≡ id → is_id id r.id ≡ false
unfolding AreRising
before id r rows i d rising within is = is_other id r.id (λ same. let a : r.id < (slice_index_or rows i d).id = above_at id_of r.id rows i d rising.0 within in omega (arith, a, same, is))

is_there : (id n : ℕ) → n ≡ id → is_id id n ≡ true
is_there id n same = test_is id n ∙ eq-eqb n id same

pub lookup_at : (id : ℕ) (rows : List Row) (i : ℕ) (d : Row) → AreRising id_of rows → IsPlaceOf id rows i → lookup (is_id id) (entries_in rows) ≡ (slice_index_or rows i d).subscription
unfolding AreRising
lookup_at id [] i d rising place = let h = place.0 in absurd (omega arith)
lookup_at id (r ∷ rows) zero d rising place = here r.subscription
  where
    here : (o : Option Subscription) → lookup (is_id id) (entry_of r.id o ++ entries_in rows) ≡ o
    here None = absent_above id rows (subst (λ n. AreAbove id_of n rows) (place.1 d) rising.0)
    here (Some s) = rw (is_there id r.id (place.1 d)) refl
lookup_at id (r ∷ rows) (suc i) d rising place =
    let within : i < length rows = let h = place.0 in omega arith in
    pass_row id r.id r.subscription rows (before id r rows i d rising within (place.1 d)) ∙ lookup_at id rows i d rising.1 (within, λ e. place.1 e)

-- ---- a row in the place of another

pub set_same : (rows : List Row) (i : ℕ) (new d : Row) → i < length rows → (slice_index_or rows i d).subscription ≡ None → new.subscription ≡ None → entries_in (slice_set rows i new) ≡ entries_in rows
set_same [] i new d within was is = refl
set_same (r ∷ rows) zero new d within was is = let gone : r.subscription ≡ None = was in rw (gone, is) refl
set_same (r ∷ rows) (suc i) new d within was is = ap (λ more. entry_of r.id r.subscription ++ more) (set_same rows i new d (omega arith) was is)

pass_set : (id n : ℕ) (o : Option Subscription) (rows : List Row) (w : Subscription) → is_id id n ≡ false → set_value (is_id id) (entry_of n o ++ entries_in rows) w ≡ entry_of n o ++ set_value (is_id id) (entries_in rows) w
pass_set id n None rows w other = refl
pass_set id n (Some s) rows w other = rw other refl

pub set_at : (id : ℕ) (rows : List Row) (i : ℕ) (new d : Row) (s w : Subscription) → AreRising id_of rows → IsPlaceOf id rows i → new.id ≡ (slice_index_or rows i d).id → (slice_index_or rows i d).subscription ≡ Some s → new.subscription ≡ Some w
    → entries_in (slice_set rows i new) ≡ set_value (is_id id) (entries_in rows) w
unfolding AreRising
set_at id [] i new d s w rising place same was is = let h = place.0 in absurd (omega arith)
set_at id (r ∷ rows) zero new d s w rising place same was is =
    let stood : r.subscription ≡ Some s = was in
    let it : new.id ≡ r.id = same in
    rw (stood, is, it, is_there id r.id (place.1 d)) refl
set_at id (r ∷ rows) (suc i) new d s w rising place same was is =
    let within : i < length rows = let h = place.0 in omega arith in
    ap (λ more. entry_of r.id r.subscription ++ more) (set_at id rows i new d s w rising.1 (within, λ e. place.1 e) same was is)
    ∙ sym (pass_set id r.id r.subscription rows w (before id r rows i d rising within (place.1 d)))

pass_remove : (id n : ℕ) (o : Option Subscription) (rows : List Row) → is_id id n ≡ false → remove_entry (is_id id) (entry_of n o ++ entries_in rows) ≡ entry_of n o ++ remove_entry (is_id id) (entries_in rows)
pass_remove id n None rows other = refl
pass_remove id n (Some s) rows other = rw other refl

pub empty_at : (id : ℕ) (rows : List Row) (i : ℕ) (new d : Row) (s : Subscription) → AreRising id_of rows → IsPlaceOf id rows i → (slice_index_or rows i d).subscription ≡ Some s → new.subscription ≡ None
    → entries_in (slice_set rows i new) ≡ remove_entry (is_id id) (entries_in rows)
unfolding AreRising
empty_at id [] i new d s rising place was is = let h = place.0 in absurd (omega arith)
empty_at id (r ∷ rows) zero new d s rising place was is =
    let stood : r.subscription ≡ Some s = was in
    rw (stood, is, is_there id r.id (place.1 d)) refl
empty_at id (r ∷ rows) (suc i) new d s rising place was is =
    let within : i < length rows = let h = place.0 in omega arith in
    ap (λ more. entry_of r.id r.subscription ++ more) (empty_at id rows i new d s rising.1 (within, λ e. place.1 e) was is)
    ∙ sym (pass_remove id r.id r.subscription rows (before id r rows i d rising within (place.1 d)))

-- what no entry has is not taken out
pub remove_none : (id : ℕ) (es : List (ℕ × Subscription)) → lookup (is_id id) es ≡ None → remove_entry (is_id id) es ≡ es
remove_none id [] none = refl
remove_none id (e ∷ es) none = here (is_id id e.0) none (remove_none id es)
  where
    here : (b : Bool) → cond b (Some e.1) (lookup (is_id id) es) ≡ None → (lookup (is_id id) es ≡ None → remove_entry (is_id id) es ≡ es) → cond b es (e ∷ remove_entry (is_id id) es) ≡ e ∷ es
    here true h later = cc
    here false h later = ap (λ more. e ∷ more) (later h)

length_set : (rows : List Row) (i : ℕ) (new : Row) → length (slice_set rows i new) ≡ length rows
length_set [] i new = refl
length_set (r ∷ rows) zero new = refl
length_set (r ∷ rows) (suc i) new = ap suc (length_set rows i new)

-- how many stand before and after
count_set : (rows : List Row) (i : ℕ) (new d : Row) → i < length rows
    → length (entry_of new.id new.subscription) + length (entries_in rows) ≡ length (entry_of (slice_index_or rows i d).id (slice_index_or rows i d).subscription) + length (entries_in (slice_set rows i new))
count_set [] i new d within = absurd (omega arith)
count_set (r ∷ rows) zero new d within =
    let a = length-append (entry_of r.id r.subscription) (entries_in rows) in
    let b = length-append (entry_of new.id new.subscription) (entries_in rows) in
    omega (arith, a, b)
count_set (r ∷ rows) (suc i) new d within =
    let a = length-append (entry_of r.id r.subscription) (entries_in rows) in
    let b = length-append (entry_of r.id r.subscription) (entries_in (slice_set rows i new)) in
    let c = count_set rows i new d (omega arith) in
    omega (arith, a, b, c)

pub empty_kept : (rows : List Row) (i : ℕ) (new d : Row) (empty : ℕ) (s w : Subscription) → i < length rows → (slice_index_or rows i d).subscription ≡ Some s → new.subscription ≡ Some w → AreEmpty rows empty → AreEmpty (slice_set rows i new) empty
empty_kept rows i new d empty s w within was is are =
    let c : length (entry_of new.id new.subscription) + length (entries_in rows) ≡ length (entry_of (slice_index_or rows i d).id (slice_index_or rows i d).subscription) + length (entries_in (slice_set rows i new)) = count_set rows i new d within in
    let a : length (entry_of (slice_index_or rows i d).id (slice_index_or rows i d).subscription) ≡ 1 = ap (λ (o : Option Subscription). length (entry_of (slice_index_or rows i d).id o)) was in
    let b : length (entry_of new.id new.subscription) ≡ 1 = ap (λ (o : Option Subscription). length (entry_of new.id o)) is in
    let l = length_set rows i new in
    let before : length (entries_in rows) + empty ≡ length rows = are in
    let after : length (entries_in (slice_set rows i new)) + empty ≡ length (slice_set rows i new) = omega (arith, a, b, c, l, before) in
    after

pub empty_more : (rows : List Row) (i : ℕ) (new d : Row) (empty : ℕ) (s : Subscription) → i < length rows → (slice_index_or rows i d).subscription ≡ Some s → new.subscription ≡ None → AreEmpty rows empty → AreEmpty (slice_set rows i new) (empty + 1)
empty_more rows i new d empty s within was is are =
    let c : length (entry_of new.id new.subscription) + length (entries_in rows) ≡ length (entry_of (slice_index_or rows i d).id (slice_index_or rows i d).subscription) + length (entries_in (slice_set rows i new)) = count_set rows i new d within in
    let a : length (entry_of (slice_index_or rows i d).id (slice_index_or rows i d).subscription) ≡ 1 = ap (λ (o : Option Subscription). length (entry_of (slice_index_or rows i d).id o)) was in
    let b : length (entry_of new.id new.subscription) ≡ 0 = ap (λ (o : Option Subscription). length (entry_of new.id o)) is in
    let l = length_set rows i new in
    let before : length (entries_in rows) + empty ≡ length rows = are in
    let after : length (entries_in (slice_set rows i new)) + (empty + 1) ≡ length (slice_set rows i new) = omega (arith, a, b, c, l, before) in
    after

pub empty_same : (rows : List Row) (i : ℕ) (new d : Row) (empty : ℕ) → i < length rows → (slice_index_or rows i d).subscription ≡ None → new.subscription ≡ None → AreEmpty rows empty → AreEmpty (slice_set rows i new) empty
empty_same rows i new d empty within was is are =
    let a = ap length (set_same rows i new d within was is) in
    let l = length_set rows i new in
    let before : length (entries_in rows) + empty ≡ length rows = are in
    let after : length (entries_in (slice_set rows i new)) + empty ≡ length (slice_set rows i new) = omega (arith, a, l, before) in
    after

-- what a row has become by a change of what stands in it
abbrev pub Becomes : (Subscription → Subscription) → Row → Row → Bool → Type 0
Becomes f r new ended = MatchOption r.subscription ((new.subscription ≡ None) × (ended ≡ false)) (λ s. (new.subscription ≡ Some (f s)) × (ended ≡ has_ended (f s)))

module _ (f : Subscription → Subscription) (id : ℕ) (rows : List Row) (i : ℕ) (new d : Row) (rising : AreRising id_of rows) (place : IsPlaceOf id rows i) (same : new.id ≡ (slice_index_or rows i d).id) (ended : Bool) where
  changes_at : Becomes f (slice_index_or rows i d) new ended → Changes f id (entries_in rows) (entries_in (slice_set rows i new)) ended
  changes_at became =
      subst (λ (o : Option Subscription). MatchOption o ((entries_in (slice_set rows i new) ≡ entries_in rows) × (ended ≡ false)) (λ s. (entries_in (slice_set rows i new) ≡ set_value (is_id id) (entries_in rows) (f s)) × (ended ≡ has_ended (f s))))
      (sym (lookup_at id rows i d rising place))
      (by (slice_index_or rows i d).subscription refl became)
    where
      by : (o : Option Subscription) → (slice_index_or rows i d).subscription ≡ o → MatchOption o ((new.subscription ≡ None) × (ended ≡ false)) (λ s. (new.subscription ≡ Some (f s)) × (ended ≡ has_ended (f s)))
          → MatchOption o ((entries_in (slice_set rows i new) ≡ entries_in rows) × (ended ≡ false)) (λ s. (entries_in (slice_set rows i new) ≡ set_value (is_id id) (entries_in rows) (f s)) × (ended ≡ has_ended (f s)))
      by None was h = (set_same rows i new d place.0 was h.0, h.1)
      by (Some s) was h = (set_at id rows i new d s (f s) rising place same was h.0, h.1)

  empty_by : Becomes f (slice_index_or rows i d) new ended → (empty : ℕ) → AreEmpty rows empty → AreEmpty (slice_set rows i new) empty
  empty_by became empty are = by (slice_index_or rows i d).subscription refl became
    where
      by : (o : Option Subscription) → (slice_index_or rows i d).subscription ≡ o → MatchOption o ((new.subscription ≡ None) × (ended ≡ false)) (λ s. (new.subscription ≡ Some (f s)) × (ended ≡ has_ended (f s))) → AreEmpty (slice_set rows i new) empty
      by None was h = empty_same rows i new d empty place.0 was h.0 are
      by (Some s) was h = empty_kept rows i new d empty s (f s) place.0 was h.0 are

-- a row that a change was made to, in its place
module _ (f : Subscription → Subscription) (id : ℕ) (rows : List Row) (i : ℕ) (new old : Row) (rising : AreRising id_of rows) (place : IsPlaceOf id rows i) (is : old ≡ slice_index_or rows i old) (same : new.id ≡ old.id) (ended : Bool) (became : Becomes f old new ended) where
  id_same : new.id ≡ (slice_index_or rows i old).id
  id_same = same ∙ ap id_of is

  became_there : Becomes f (slice_index_or rows i old) new ended
  became_there = subst (λ (r : Row). Becomes f r new ended) is became

  pub stays_kept : (empty : ℕ) → AreEmpty rows empty → AreRising id_of (slice_set rows i new) × AreEmpty (slice_set rows i new) empty
  stays_kept empty are = (rising_set id_of rows i new old rising id_same, empty_by f id rows i new old rising place id_same ended became_there empty are)

  pub changes_in : (es : List (ℕ × Subscription)) → entries_in rows ≡ es → Changes f id es (entries_in (slice_set rows i new)) ended
  changes_in es view = subst (λ (all : List (ℕ × Subscription)). Changes f id all (entries_in (slice_set rows i new)) ended) view (changes_at f id rows i new old rising place id_same ended became_there)

-- ---- those that pass a test

-- none of them is empty
full-kept : (p : Subscription → Bool) (rows : List Row) → AreEmpty (kept_slots held p rows) 0
full-kept p [] = refl
full-kept p (r ∷ rows) = by r.subscription refl (full-kept p rows)
  where
    here : (s : Subscription) → r.subscription ≡ Some s → (b : Bool) → AreEmpty (kept_slots held p rows) 0 → AreEmpty (cond b (r ∷ kept_slots held p rows) (kept_slots held p rows)) 0
    here s is true later =
        let before : length (entries_in (kept_slots held p rows)) + 0 ≡ length (kept_slots held p rows) = later in
        let after : length ((r.id, s) ∷ entries_in (kept_slots held p rows)) + 0 ≡ length (r ∷ kept_slots held p rows) = omega (arith, before) in
        subst (λ (o : Option Subscription). length (entry_of r.id o ++ entries_in (kept_slots held p rows)) + 0 ≡ length (r ∷ kept_slots held p rows)) (sym is) after
    here s is false later = later

    by : (o : Option Subscription) → r.subscription ≡ o → AreEmpty (kept_slots held p rows) 0 → AreEmpty (cond (passes p o) (r ∷ kept_slots held p rows) (kept_slots held p rows)) 0
    by None is later = later
    by (Some s) is later = here s is (p s) later

-- rows that all stand are below what their entries are below
below-kept : (rows : List Row) (n : ℕ) → All (λ (e : ℕ × Subscription). e.0 < n) (entries_in rows) → AreBelow id_of n (kept_slots held (λ s. true) rows)
unfolding AreBelow
below-kept [] n all = tt
below-kept (r ∷ rows) n all = by r.subscription all (below-kept rows n)
  where
    by : (o : Option Subscription) → All (λ (e : ℕ × Subscription). e.0 < n) (entry_of r.id o ++ entries_in rows) → (All (λ (e : ℕ × Subscription). e.0 < n) (entries_in rows) → AreBelow id_of n (kept_slots held (λ s. true) rows)) → AreBelow id_of n (cond (passes (λ s. true) o) (r ∷ kept_slots held (λ s. true) rows) (kept_slots held (λ s. true) rows))
    by None h later = later h
    by (Some s) h later = (All-head (λ (e : ℕ × Subscription). e.0 < n) (r.id, s) (entries_in rows) h, later (All-tail (λ (e : ℕ × Subscription). e.0 < n) (r.id, s) (entries_in rows) h))

-- so of the rows that are left
pub full_left : (p : Subscription → Bool) (rows left : List Row) → left ≡ kept_slots held p rows → AreEmpty left 0
full_left p rows left kept = subst (λ (rs : List Row). AreEmpty rs 0) (sym kept) (full-kept p rows)

pub below_full : (rows left : List Row) → left ≡ kept_slots held (λ s. true) rows → (n : ℕ) → All (λ (e : ℕ × Subscription). e.0 < n) (entries_in rows) → AreBelow id_of n left
below_full rows left kept n all = subst (AreBelow id_of n) (sym kept) (below-kept rows n all)

-- ---- one more row

pub below_last : (id : ℕ) (rows : List Row) → AreRising id_of rows → ((d : Row) → 0 < length rows → (slice_index_or rows (length rows - 1) d).id < id) → AreBelow id_of id rows
unfolding AreRising AreBelow
below_last id [] rising last = tt
below_last id (r ∷ rows) rising last = (first rows rising.0 last, below_last id rows rising.1 (λ d some. rest rows d some last))
  where
    first : (more : List Row) → AreAbove id_of r.id more → ((d : Row) → 0 < length (r ∷ more) → (slice_index_or (r ∷ more) (length (r ∷ more) - 1) d).id < id) → r.id < id
    first [] above h = h r (omega arith)
    first (s ∷ more) above h =
        let a : r.id < (slice_index_or (s ∷ more) (length more) r).id = above_at id_of r.id (s ∷ more) (length more) r above (omega arith) in
        let e : length (r ∷ s ∷ more) - 1 ≡ suc (length more) = omega arith in
        let b : (slice_index_or (s ∷ more) (length more) r).id < id = subst (λ k. (slice_index_or (r ∷ s ∷ more) k r).id < id) e (h r (omega arith)) in
        omega (arith, a, b)

    rest : (more : List Row) (d : Row) → 0 < length more → ((d' : Row) → 0 < length (r ∷ more) → (slice_index_or (r ∷ more) (length (r ∷ more) - 1) d').id < id) → (slice_index_or more (length more - 1) d).id < id
    rest [] d some h = absurd (omega arith)
    rest (s ∷ more) d some h =
        let e : length (r ∷ s ∷ more) - 1 ≡ suc (length more) = omega arith in
        let e' : length more ≡ length (s ∷ more) - 1 = omega arith in
        subst (λ k. (slice_index_or (s ∷ more) k d).id < id) e' (subst (λ k. (slice_index_or (r ∷ s ∷ more) k d).id < id) e (h d (omega arith)))

pub empty_added : (rows : List Row) (id : ℕ) (s : Subscription) (empty : ℕ) → AreEmpty rows empty → AreEmpty (rows ++ record { id = id; subscription = Some s } ∷ []) empty
empty_added rows id s empty are =
    let new : Row = record { id = id; subscription = Some s } in
    let a : length (entries_in (rows ++ new ∷ [])) ≡ length (entries_in rows ++ (id, s) ∷ []) = ap length (entries-append id_of held rows (new ∷ [])) in
    let b = length-append (entries_in rows) ((id, s) ∷ []) in
    let c = length-append rows (new ∷ []) in
    let before : length (entries_in rows) + empty ≡ length rows = are in
    let after : length (entries_in (rows ++ new ∷ [])) + empty ≡ length (rows ++ new ∷ []) = omega (arith, a, b, c, before) in
    after
