-- Putting an account among accounts in the order of their names.
use Rattle.std.proofs.Common.{◌≡◌, ◌+◌, ◌<◌, ◌≤◌, ℕ, Bool, true, false, List, [], ◌∷◌, length, map, filter, refl, sym, ◌∙◌, ap, subst, arith, Less, Equal, Greater, Ordering, cond, zero, suc, slice_set, ◌||◌, Option, Some, None, Result, Ok, Err}
use Rattle.std.specs.Prelude.{MatchResult}
use Rattle.std.specs.Ordering.{nat_cmp, is_lt, is_eq, ordering_reverse}
use Rattle.std.specs.Cmp.Lexicographic.{slice_cmp}
use Rattle.std.specs.List.{AllByRecursion, AllWithin, find, list_any, insert, prefix_len, slice_index_or}
use Rattle.std.specs.List.Sorted.{IsBinarySearchResult, IsSearchInRange, IsSortedBy, IsStrictlySortedBy}
use Rattle.std.proofs.lemmas.Cmp.{nat_list_cmp_total}
use Rattle.std.proofs.lemmas.List.Sorted.{searchable_from_sorted}
use Rattle.std.proofs.lemmas.Map.Keys.{sorted_head, sorted_tail}
use Rattle.std.proofs.lemmas.List.Sums.{prefix_len-le-length}
use Rattle.policy_doc.specs.Accounts.{Name, IsByName, IsGapFor, IsPlaceOf, account_name, has_name, is_before, is_after, with_account}
use Rattle.policy_doc.specs.declared.document.AccountDoc.{AccountDoc}
use Rattle.policy_doc.specs.declared.document.NamedAccount.{NamedAccount}

abbrev pub name_cmp : Name → Name → Ordering
name_cmp = slice_cmp nat_cmp

-- the new account takes its place by cases on the first
abbrev pub put_by : Ordering → NamedAccount → NamedAccount → List NamedAccount → List NamedAccount → List NamedAccount
put_by Less new x xs rest = x ∷ rest
put_by Equal new x xs rest = new ∷ xs
put_by Greater new x xs rest = new ∷ x ∷ xs

abbrev pub put : NamedAccount → List NamedAccount → List NamedAccount
put new [] = new ∷ []
put new (x ∷ xs) = put_by (name_cmp x.name new.name) new x xs (put new xs)

pub IsByName-nil : IsByName []
unfolding IsStrictlySortedBy
IsByName-nil = tt

pub IsByName-cons : (x : NamedAccount) (xs : List NamedAccount) → AllByRecursion (λ y. name_cmp x.name y ≡ Less) (map account_name xs) → IsByName xs → IsByName (x ∷ xs)
unfolding IsStrictlySortedBy
IsByName-cons x xs below rest = (below, rest)

-- all names are above a name
abbrev pub AllAbove : Name → List NamedAccount → Type 0
AllAbove n xs = AllByRecursion (λ y. name_cmp n y ≡ Less) (map account_name xs)

pub flipped : (x y : Name) (o : Ordering) → name_cmp x y ≡ o → name_cmp y x ≡ ordering_reverse o
flipped x y o e = nat_list_cmp_total.antisymm y x ∙ ap ordering_reverse e

pub AllAbove-lower : (m n : Name) (xs : List NamedAccount) → name_cmp m n ≡ Less → AllAbove n xs → AllAbove m xs
AllAbove-lower m n [] less above = tt
AllAbove-lower m n (x ∷ xs) less above = (nat_list_cmp_total.trans m n x.name less above.0, AllAbove-lower m n xs less above.1)

pub AllAbove-same : (m n : Name) (xs : List NamedAccount) → name_cmp m n ≡ Equal → AllAbove m xs → AllAbove n xs
AllAbove-same m n [] same above = tt
AllAbove-same m n (x ∷ xs) same above = (sym (nat_list_cmp_total.congr m n x.name same) ∙ above.0, AllAbove-same m n xs same above.1)

pub filter_before-above : (n : Name) (xs : List NamedAccount) → AllAbove n xs → filter (is_before n) xs ≡ []
filter_before-above n [] above = refl
filter_before-above n (x ∷ xs) above = rw (flipped n x.name Less above.0) (filter_before-above n xs above.1)

pub filter_after-above : (n : Name) (xs : List NamedAccount) → AllAbove n xs → filter (is_after n) xs ≡ xs
filter_after-above n [] above = refl
filter_after-above n (x ∷ xs) above = rw (flipped n x.name Less above.0) (ap (λ l. x ∷ l) (filter_after-above n xs above.1))

abbrev pub named : Name → AccountDoc → NamedAccount
named n a = record { name = n; account = a }

with_account-by : (n : Name) (a : AccountDoc) (x : NamedAccount) (xs : List NamedAccount) (o : Ordering) → name_cmp x.name n ≡ o → IsByName (x ∷ xs) → put (named n a) xs ≡ with_account n a xs → put_by o (named n a) x xs (put (named n a) xs) ≡ with_account n a (x ∷ xs)
with_account-by n a x xs Less e sorted rest = rw e (ap (λ l. x ∷ l) rest)
with_account-by n a x xs Equal e sorted rest =
    let above : AllAbove n xs = AllAbove-same x.name n xs e (sorted_head name_cmp x.name (map account_name xs) sorted) in
    rw (e, filter_before-above n xs above, filter_after-above n xs above) refl
with_account-by n a x xs Greater e sorted rest =
    let above : AllAbove n xs = AllAbove-lower n x.name xs (flipped x.name n Greater e) (sorted_head name_cmp x.name (map account_name xs) sorted) in
    rw (e, filter_before-above n xs above, filter_after-above n xs above) refl

-- putting it in its place is keeping those before and those after it
pub put-with_account : (n : Name) (a : AccountDoc) (xs : List NamedAccount) → IsByName xs → put (named n a) xs ≡ with_account n a xs
put-with_account n a [] sorted = refl
put-with_account n a (x ∷ xs) sorted =
    with_account-by n a x xs (name_cmp x.name n) refl sorted (put-with_account n a xs (sorted_tail name_cmp x.name (map account_name xs) sorted))

AllAbove-put_by : (m : Name) (new x : NamedAccount) (xs rest : List NamedAccount) (o : Ordering) → name_cmp m new.name ≡ Less → AllAbove m (x ∷ xs) → AllAbove m rest → AllAbove m (put_by o new x xs rest)
AllAbove-put_by m new x xs rest Less below above rest_above = (above.0, rest_above)
AllAbove-put_by m new x xs rest Equal below above rest_above = (below, above.1)
AllAbove-put_by m new x xs rest Greater below above rest_above = (below, above)

AllAbove-put : (m : Name) (new : NamedAccount) (xs : List NamedAccount) → name_cmp m new.name ≡ Less → AllAbove m xs → AllAbove m (put new xs)
AllAbove-put m new [] below above = (below, tt)
AllAbove-put m new (x ∷ xs) below above =
    AllAbove-put_by m new x xs (put new xs) (name_cmp x.name new.name) below above (AllAbove-put m new xs below above.1)

IsByName-put_by : (new x : NamedAccount) (xs : List NamedAccount) (o : Ordering) → name_cmp x.name new.name ≡ o → IsByName (x ∷ xs) → IsByName (put new xs) → IsByName (put_by o new x xs (put new xs))
IsByName-put_by new x xs Less e sorted rest =
    IsByName-cons x (put new xs) (AllAbove-put x.name new xs e (sorted_head name_cmp x.name (map account_name xs) sorted)) rest
IsByName-put_by new x xs Equal e sorted rest =
    IsByName-cons new xs (AllAbove-same x.name new.name xs e (sorted_head name_cmp x.name (map account_name xs) sorted)) (sorted_tail name_cmp x.name (map account_name xs) sorted)
IsByName-put_by new x xs Greater e sorted rest =
    let below : name_cmp new.name x.name ≡ Less = flipped x.name new.name Greater e in
    IsByName-cons new (x ∷ xs) (below, AllAbove-lower new.name x.name xs below (sorted_head name_cmp x.name (map account_name xs) sorted)) sorted

pub IsByName-put : (new : NamedAccount) (xs : List NamedAccount) → IsByName xs → IsByName (put new xs)
IsByName-put new [] sorted = IsByName-cons new [] tt IsByName-nil
IsByName-put new (x ∷ xs) sorted =
    IsByName-put_by new x xs (name_cmp x.name new.name) refl sorted (IsByName-put new xs (sorted_tail name_cmp x.name (map account_name xs) sorted))

any_has-above : (n : Name) (xs : List NamedAccount) → AllAbove n xs → list_any (has_name n) xs ≡ false
any_has-above n [] above = refl
any_has-above n (x ∷ xs) above = rw (flipped n x.name Less above.0) (any_has-above n xs above.1)

abbrev pub place : Name → List NamedAccount → ℕ
place n xs = prefix_len (is_before n) xs

pub place-le : (n : Name) (xs : List NamedAccount) → place n xs ≤ length xs
place-le n xs = prefix_len-le-length (is_before n) xs

-- by cases on the first: it is passed over, or its own place is the first
place-by : (n : Name) (x : NamedAccount) (xs : List NamedAccount) (o : Ordering) → name_cmp x.name n ≡ o → place n (x ∷ xs) ≡ cond (is_lt o) (suc (place n xs)) 0
place-by n x xs o e = rw e (grind arith)

any-by : (n : Name) (x : NamedAccount) (xs : List NamedAccount) (o : Ordering) → name_cmp x.name n ≡ o → list_any (has_name n) (x ∷ xs) ≡ is_eq o || list_any (has_name n) xs
any-by n x xs o e = rw e refl

set-put_by : (n : Name) (a : AccountDoc) (x : NamedAccount) (xs : List NamedAccount) (o : Ordering) → name_cmp x.name n ≡ o → IsByName (x ∷ xs) → (list_any (has_name n) xs ≡ true → slice_set xs (place n xs) (named n a) ≡ put (named n a) xs) → list_any (has_name n) (x ∷ xs) ≡ true → slice_set (x ∷ xs) (place n (x ∷ xs)) (named n a) ≡ put_by o (named n a) x xs (put (named n a) xs)
set-put_by n a x xs Less e sorted rest any = rw (place-by n x xs Less e) (ap (λ l. x ∷ l) (rest (sym (any-by n x xs Less e) ∙ any)))
set-put_by n a x xs Equal e sorted rest any = rw (place-by n x xs Equal e) refl
set-put_by n a x xs Greater e sorted rest any =
    let above : AllAbove n xs = AllAbove-lower n x.name xs (flipped x.name n Greater e) (sorted_head name_cmp x.name (map account_name xs) sorted) in
    let none : false ≡ true = sym (any_has-above n xs above) ∙ sym (any-by n x xs Greater e) ∙ any in
    cc

insert-put_by : (n : Name) (a : AccountDoc) (x : NamedAccount) (xs : List NamedAccount) (o : Ordering) → name_cmp x.name n ≡ o → (list_any (has_name n) xs ≡ false → insert xs (place n xs) (named n a) ≡ put (named n a) xs) → list_any (has_name n) (x ∷ xs) ≡ false → insert (x ∷ xs) (place n (x ∷ xs)) (named n a) ≡ put_by o (named n a) x xs (put (named n a) xs)
insert-put_by n a x xs Less e rest any = rw (place-by n x xs Less e) (ap (λ l. x ∷ l) (rest (sym (any-by n x xs Less e) ∙ any)))
insert-put_by n a x xs Equal e rest any = let none : true ≡ false = sym (any-by n x xs Equal e) ∙ any in cc
insert-put_by n a x xs Greater e rest any = rw (place-by n x xs Greater e) refl

set-put : (n : Name) (a : AccountDoc) (xs : List NamedAccount) → IsByName xs → list_any (has_name n) xs ≡ true → slice_set xs (place n xs) (named n a) ≡ put (named n a) xs
set-put n a [] sorted any = cc
set-put n a (x ∷ xs) sorted any =
    set-put_by n a x xs (name_cmp x.name n) refl sorted (set-put n a xs (sorted_tail name_cmp x.name (map account_name xs) sorted)) any

insert-put : (n : Name) (a : AccountDoc) (xs : List NamedAccount) → list_any (has_name n) xs ≡ false → insert xs (place n xs) (named n a) ≡ put (named n a) xs
insert-put n a [] any = refl
insert-put n a (x ∷ xs) any =
    insert-put_by n a x xs (name_cmp x.name n) refl (insert-put n a xs) any

-- an account of the name is replaced
pub set-with_account : (n : Name) (a : AccountDoc) (xs : List NamedAccount) → IsByName xs → list_any (has_name n) xs ≡ true → slice_set xs (place n xs) (named n a) ≡ with_account n a xs
set-with_account n a xs sorted any = set-put n a xs sorted any ∙ put-with_account n a xs sorted

-- a new name is put in
pub insert-with_account : (n : Name) (a : AccountDoc) (xs : List NamedAccount) → IsByName xs → list_any (has_name n) xs ≡ false → insert xs (place n xs) (named n a) ≡ with_account n a xs
insert-with_account n a xs sorted any = insert-put n a xs any ∙ put-with_account n a xs sorted

-- the order is kept
pub IsByName-with_account : (n : Name) (a : AccountDoc) (xs : List NamedAccount) → IsByName xs → IsByName (with_account n a xs)
IsByName-with_account n a xs sorted = rw (sym (put-with_account n a xs sorted)) (IsByName-put (named n a) xs sorted)

-- one of those above a name is above it
above-at : (n : Name) (xs : List NamedAccount) (i : ℕ) (d : NamedAccount) → AllAbove n xs → i < length xs → name_cmp n (slice_index_or xs i d).name ≡ Less
above-at n [] i d above within = absurd (omega (arith, within))
above-at n (x ∷ xs) zero d above within = above.0
above-at n (x ∷ xs) (suc i) d above within = above-at n xs i d above.1 (omega (arith, within))

-- whoever has a name isn't above it
not_above : (n m : Name) → name_cmp n m ≡ Less → is_eq (name_cmp m n) ≡ true → ⊥
not_above n m less at = let other : name_cmp m n ≡ Greater = flipped n m Less less in cc

-- ---- looking for a name by halves

equal_if : (o : Ordering) → is_eq o ≡ true → o ≡ Equal
equal_if Less e = cc
equal_if Equal e = refl
equal_if Greater e = cc

-- a name below one that is the same as another is below that
below_same : (m n k : Name) → name_cmp m k ≡ Less → name_cmp k n ≡ Equal → name_cmp m n ≡ Less
below_same m n k less same =
    let other : name_cmp n m ≡ name_cmp k m = nat_list_cmp_total.congr n k m (flipped k n Equal same) in
    flipped n m Greater (other ∙ flipped m k Less less)

first-by : (n : Name) (x : NamedAccount) (xs : List NamedAccount) (o : Ordering) → name_cmp x.name n ≡ o → is_eq o ≡ true → 0 ≡ place n (x ∷ xs)
first-by n x xs Less e at = cc
first-by n x xs Equal e at = rw (place-by n x xs Equal e) refl
first-by n x xs Greater e at = cc

-- the account of the name stands in the place of the name
pub at-place : (n : Name) (xs : List NamedAccount) (i : ℕ) (d : NamedAccount) → IsByName xs → i < length xs → has_name n (slice_index_or xs i d) ≡ true → i ≡ place n xs
at-place n [] i d sorted within at = absurd (omega (arith, within))
at-place n (x ∷ xs) zero d sorted within at = first-by n x xs (name_cmp x.name n) refl at
at-place n (x ∷ xs) (suc i) d sorted within at =
    let inside : i < length xs = omega (arith, within) in
    let above : AllAbove x.name xs = sorted_head name_cmp x.name (map account_name xs) sorted in
    let less : name_cmp x.name n ≡ Less = below_same x.name n (slice_index_or xs i d).name (above-at x.name xs i d above inside) (equal_if _ at) in
    rw (place-by n x xs Less less) (ap suc (at-place n xs i d (sorted_tail name_cmp x.name (map account_name xs) sorted) inside at))

any-more : (b c : Bool) → c ≡ true → b || c ≡ true
any-more true c e = refl
any-more false c e = e

-- where one has the name, one of all has it
pub any-at : (n : Name) (xs : List NamedAccount) (i : ℕ) (d : NamedAccount) → i < length xs → has_name n (slice_index_or xs i d) ≡ true → list_any (has_name n) xs ≡ true
any-at n [] i d within at = absurd (omega (arith, within))
any-at n (x ∷ xs) zero d within at = rw at refl
any-at n (x ∷ xs) (suc i) d within at = any-more (has_name n x) (list_any (has_name n) xs) (any-at n xs i d (omega (arith, within)) at)

none_of : (b : Bool) (x : NamedAccount) (any : Bool) (found : Option NamedAccount) → b || any ≡ false → (any ≡ false → found ≡ None) → cond b (Some x) found ≡ None
none_of true x any found none later = cc
none_of false x any found none later = later none

-- where none has the name, none is found
pub none-found : (n : Name) (xs : List NamedAccount) → list_any (has_name n) xs ≡ false → find (has_name n) xs ≡ None
none-found n [] none = refl
none-found n (x ∷ xs) none = none_of (has_name n x) x (list_any (has_name n) xs) (find (has_name n) xs) none (none-found n xs)

-- those below a place are before the name, those from it on after it
gap : (n : Name) (xs : List NamedAccount) (i : ℕ) → i ≤ length xs → AllWithin (λ (a : NamedAccount). name_cmp a.name n ≡ Less) xs 0 i →
    AllWithin (λ (a : NamedAccount). name_cmp a.name n ≡ Greater) xs i (length xs) → (list_any (has_name n) xs ≡ false) × (i ≡ place n xs)
gap n [] i le before after = (refl, omega (arith, le))
gap n (x ∷ xs) zero le before after =
    let e : name_cmp x.name n ≡ Greater = after 0 x (omega arith) (omega arith) in
    let rest = gap n xs zero (omega arith) (λ k d low high. absurd (omega (arith, high))) (λ k d low high. after (suc k) d (omega arith) (omega (arith, high))) in
    (any-by n x xs Greater e ∙ rest.0, rw (place-by n x xs Greater e) refl)
gap n (x ∷ xs) (suc i) le before after =
    let e : name_cmp x.name n ≡ Less = before 0 x (omega arith) (omega arith) in
    let rest = gap n xs i (omega (arith, le)) (λ k d low high. before (suc k) d (omega arith) (omega (arith, high))) (λ k d low high. after (suc k) d (omega (arith, low)) (omega (arith, high))) in
    (any-by n x xs Less e ∙ rest.0, rw (place-by n x xs Less e) (ap suc rest.1))

-- no name is below the one before it
falls_nowhere : (xs : List NamedAccount) → IsByName xs → IsSortedBy (λ (a b : NamedAccount). is_lt (name_cmp a.name b.name)) xs
falls_nowhere [] sorted k d low high = absurd (omega (arith, high))
falls_nowhere (x ∷ xs) sorted zero d low high =
    let above : AllAbove x.name xs = sorted_head name_cmp x.name (map account_name xs) sorted in
    rw (flipped x.name (slice_index_or xs 0 d).name Less (above-at x.name xs 0 d above (omega (arith, high)))) refl
falls_nowhere (x ∷ xs) sorted (suc k) d low high =
    let e : suc (k + 1) ≡ suc k + 1 = omega arith in
    let later = falls_nowhere xs (sorted_tail name_cmp x.name (map account_name xs) sorted) k d (omega arith) (omega (arith, high)) in
    subst (λ i. is_lt (name_cmp (slice_index_or (x ∷ xs) i d).name (slice_index_or xs k d).name) ≡ false) e later

-- a search by halves ends at the account of the name, or at the gap for it
pub ends : (n : Name) (xs : List NamedAccount) → IsByName xs → (r : Result ℕ ℕ) → IsSearchInRange r (length xs) → IsBinarySearchResult (λ (a : NamedAccount). name_cmp a.name n) xs r →
    MatchResult r (IsPlaceOf n xs) (IsGapFor n xs)
ends n xs sorted (Ok i) within equal = record { within = within; named = λ d. ap is_eq (equal d) }
ends n xs sorted (Err i) within parted =
    let two = parted (searchable_from_sorted nat_list_cmp_total account_name xs n (falls_nowhere xs sorted)) in
    let is = gap n xs i within two.0 two.1 in
    record { none = is.0; before = is.1 }

-- where it stands it is replaced
pub replaced : (n : Name) (a : AccountDoc) (xs : List NamedAccount) → IsByName xs → (i : ℕ) → IsPlaceOf n xs i → slice_set xs i (named n a) ≡ with_account n a xs
replaced n a xs sorted i is =
    rw (at-place n xs i (named n a) sorted is.within (is.named (named n a))) (set-with_account n a xs sorted (any-at n xs i (named n a) is.within (is.named (named n a))))

-- in the gap for it it is put in
pub put_in : (n : Name) (a : AccountDoc) (xs : List NamedAccount) → IsByName xs → (i : ℕ) → IsGapFor n xs i → insert xs i (named n a) ≡ with_account n a xs
put_in n a xs sorted i is = rw is.before (insert-with_account n a xs sorted is.none)

pub gap_within : (n : Name) (xs : List NamedAccount) (i : ℕ) → IsGapFor n xs i → i ≤ length xs
gap_within n xs i is = rw is.before (place-le n xs)

-- the account at a place of the name is the first of it
found-by : (n : Name) (x : NamedAccount) (xs : List NamedAccount) (i : ℕ) (d : NamedAccount) (o : Ordering) → name_cmp x.name n ≡ o → IsByName (x ∷ xs) → i < length xs → has_name n (slice_index_or xs i d) ≡ true →
    Some (slice_index_or xs i d) ≡ find (has_name n) xs → Some (slice_index_or xs i d) ≡ cond (is_eq o) (Some x) (find (has_name n) xs)
found-by n x xs i d Less e sorted within at later = later
found-by n x xs i d Greater e sorted within at later = later
found-by n x xs i d Equal e sorted within at later =
    let above : AllAbove n xs = AllAbove-same x.name n xs e (sorted_head name_cmp x.name (map account_name xs) sorted) in
    absurd (not_above n (slice_index_or xs i d).name (above-at n xs i d above within) at)

pub found-at : (n : Name) (xs : List NamedAccount) (i : ℕ) (d : NamedAccount) → IsByName xs → i < length xs → has_name n (slice_index_or xs i d) ≡ true → Some (slice_index_or xs i d) ≡ find (has_name n) xs
found-at n [] i d sorted within at = absurd (omega (arith, within))
found-at n (x ∷ xs) zero d sorted within at = rw at refl
found-at n (x ∷ xs) (suc i) d sorted within at =
    found-by n x xs i d (name_cmp x.name n) refl sorted (omega (arith, within)) at
    (found-at n xs i d (sorted_tail name_cmp x.name (map account_name xs) sorted) (omega (arith, within)) at)
