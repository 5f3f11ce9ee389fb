-- What is judged of an object before its keys are read.
use Rattle.std.proofs.Common.{◌≡◌, ℕ, zero, suc, ◌<◌, ◌≤◌, List, [], ◌∷◌, length, Option, Some, None, Ok, Err, Ordering, Less, Equal, Greater, Bool, true, false, ◌&&◌, ◌||◌, not, if◌then◌else◌, is_some, bytes_eq, refl, ap, sym, ◌∙◌, subst, true≢false, arith}
use Rattle.std.specs.Prelude.{⊤}
use Rattle.std.specs.Ordering.{match_ordering}
use Rattle.serde_json.specs.Data.{Data, null, boolean, number, string, array, object, Members, no_members, member}
use Rattle.serde_json.specs.Find.{get, get_member}
use Rattle.policy_walk.specs.declared.fault.ConfigFault.{ConfigFault}
use Rattle.policy_walk.specs.declared.fault.ConfigFault.TheVariants.{UnknownKey, WrongType}
use Rattle.policy_walk.specs.Fault.{Read, ◌>>=◌}
use Rattle.policy_walk.specs.Path.{Path, at_key}
use Rattle.policy_walk.specs.Object.{Row, is_known, unknown_key, missing_key, refuse, judged}
use Rattle.policy_text.specs.rows.Names.{kindless_at}
use Rattle.policy_text.specs.account_config.Place.{Place, itself, unknown, missing, under, named, IsBefore, Faults, IsFirst, IsReading}
use Rattle.policy_text.specs.account_config.Tables.{Key, required, optional, spelled, unless_found, has_key, missing_at, under_at, of_key, object_faults}
use Rattle.policy_text.specs.account_config.Standing.{kindless_faults}
use Rattle.policy_text.proofs.account_config.Order.{IsAscending, IsOrdered, above_further, absent, compared, same_key, key_is}
use Rattle.policy_text.proofs.account_config.First.{IsClear, first_itself, whole}

-- a table as the walk has it
abbrev pub rows_of : List Key → List Row
rows_of [] = []
rows_of (required k faults ∷ keys) = (k, true) ∷ rows_of keys
rows_of (optional k faults ∷ keys) = (k, false) ∷ rows_of keys
rows_of (spelled k l faults ∷ keys) = (k, false) ∷ (l, false) ∷ rows_of keys

same_keys : (keys : List Key) (key : List ℕ) → is_known (rows_of keys) key ≡ has_key keys key
same_keys [] key = refl
same_keys (required k faults ∷ keys) key = ap (λ b. bytes_eq k key || b) (same_keys keys key)
same_keys (optional k faults ∷ keys) key = ap (λ b. bytes_eq k key || b) (same_keys keys key)
same_keys (spelled k l faults ∷ keys) key = ap (λ b. bytes_eq k key || (bytes_eq l key || b)) (same_keys keys key)

-- ---- the least unknown key

abbrev IsLeastUnknown : (List ℕ → Bool) → Members → Option (List ℕ) → Type 0
IsLeastUnknown known ms None = (k : List ℕ) → is_some (get_member k ms) ≡ true → known k ≡ true
IsLeastUnknown known ms (Some u) = (is_some (get_member u ms) ≡ true) × (known u ≡ false) × ((k : List ℕ) → compared k u ≡ Less → is_some (get_member k ms) ≡ true → known k ≡ true)

-- a key behind the first is a key of the whole
still_there : (o : Ordering) (d : Data) (found : Option Data) → is_some found ≡ true → is_some (match_ordering o found (Some d) found) ≡ true
still_there Less d found is = is
still_there Equal d found is = refl
still_there Greater d found is = is

known_all : (known : List ℕ → Bool) (k : List ℕ) (d : Data) (ms : Members) → known k ≡ true → (key : List ℕ) →
    (is_some (get_member key ms) ≡ true → known key ≡ true) → is_some (get_member key (member k d ms)) ≡ true → known key ≡ true
known_all known k d ms is key later there = by (compared key k) refl there
  where
    by : (o : Ordering) → compared key k ≡ o → is_some (match_ordering o (get_member key ms) (Some d) (get_member key ms)) ≡ true → known key ≡ true
    by Less e h = later h
    by Equal e h = ap known (key_is key k e) ∙ is
    by Greater e h = later h

least_unknown : (rows : List Row) (ms : Members) → IsAscending ms → IsLeastUnknown (is_known rows) ms (unknown_key rows ms)
least_unknown rows no_members up = λ k is. absurd (true≢false (sym is))
least_unknown rows (member k d ms) up = by (is_known rows k) refl (unknown_key rows ms) (least_unknown rows ms up.2)
  where
    below : (key : List ℕ) → compared key k ≡ Less → is_some (get_member key (member k d ms)) ≡ true → is_known rows key ≡ true
    below key lt there = absurd (true≢false (sym there ∙ ap is_some (absent key (member k d ms) (lt, above_further key k ms lt up.0))))

    by : (b : Bool) → is_known rows k ≡ b → (later : Option (List ℕ)) → IsLeastUnknown (is_known rows) ms later → IsLeastUnknown (is_known rows) (member k d ms) (if b then later else Some k)
    by false e later is = (rw (same_key k) refl, e, below)
    by true e None is = λ key there. known_all (is_known rows) k d ms e key (is key) there
    by true e (Some u) is = (still_there (compared u k) d (get_member u ms) is.0, is.1, λ key lt there. known_all (is_known rows) k d ms e key (is.2 key lt) there)

-- ---- the first missing key

abbrev IsFirstMissing : Path → (ℕ → Option ConfigFault) → Option (List ℕ) → Type 0
IsFirstMissing path faults None = (i : ℕ) → faults i ≡ None
IsFirstMissing path faults (Some k) = (i : ℕ) × (faults i ≡ Some (WrongType (at_key path k))) × ((j : ℕ) → j < i → faults j ≡ None)

one_further : (path : Path) (fault : Key → Option ConfigFault) (key : Key) (keys : List Key) → fault key ≡ None →
    (found : Option (List ℕ)) → IsFirstMissing path (of_key fault keys) found → IsFirstMissing path (of_key fault (key ∷ keys)) found
one_further path fault key keys none None is = to
  where
    to : (i : ℕ) → of_key fault (key ∷ keys) i ≡ None
    to zero = none
    to (suc i) = is i
one_further path fault key keys none (Some k) is = (suc is.0, is.1, to)
  where
    to : (j : ℕ) → j < suc is.0 → of_key fault (key ∷ keys) j ≡ None
    to zero lt = none
    to (suc j) lt = is.2 j (omega arith)

first_missing : (path : Path) (d : Data) (keys : List Key) → IsFirstMissing path (of_key (missing_at path d) keys) (missing_key (rows_of keys) d)
first_missing path d [] = λ i. refl
first_missing path d (optional k faults ∷ keys) = one_further path (missing_at path d) (optional k faults) keys refl _ (first_missing path d keys)
first_missing path d (spelled k l faults ∷ keys) = one_further path (missing_at path d) (spelled k l faults) keys refl _ (first_missing path d keys)
first_missing path d (required k faults ∷ keys) = by (first_missing path d keys) (get k d) refl
  where
    by : IsFirstMissing path (of_key (missing_at path d) keys) (missing_key (rows_of keys) d) → (found : Option Data) → get k d ≡ found →
        IsFirstMissing path (of_key (missing_at path d) (required k faults ∷ keys)) (if true && not (is_some found) then Some k else missing_key (rows_of keys) d)
    by later None e = (zero, ap (λ o. unless_found o (WrongType (at_key path k))) e, λ j lt. absurd (omega arith))
    by later (Some v) e = one_further path (missing_at path d) (required k faults) keys (ap (λ o. unless_found o (WrongType (at_key path k))) e) _ later

-- ---- both

abbrev IsUnknownSaid : Path → Faults → Option (List ℕ) → Type 0
IsUnknownSaid path F None = (k : List ℕ) → F (unknown k) ≡ None
IsUnknownSaid path F (Some u) = (F (unknown u) ≡ Some (UnknownKey (at_key path u))) × ((k : List ℕ) → compared k u ≡ Less → F (unknown k) ≡ None)

first_unknown_is : (path : Path) (F : Faults) (u : List ℕ) → F itself ≡ None → IsUnknownSaid path F (Some u) → IsFirst F (UnknownKey (at_key path u))
first_unknown_is path F u kind is = (unknown u, is.0, before)
  where
    before : (q : Place) → IsBefore q (unknown u) → F q ≡ None
    before itself h = kind
    before (unknown k) h = is.1 k h
    before (missing j) h = absurd h
    before (under i q) h = absurd h
    before (named k q) h = absurd h

first_missing_is : (F : Faults) (fault : ConfigFault) (i : ℕ) → F itself ≡ None → ((k : List ℕ) → F (unknown k) ≡ None) → F (missing i) ≡ Some fault →
    ((j : ℕ) → j < i → F (missing j) ≡ None) → IsFirst F fault
first_missing_is F fault i kind no_unknown is earlier = (missing i, is, before)
  where
    before : (q : Place) → IsBefore q (missing i) → F q ≡ None
    before itself h = kind
    before (unknown k) h = no_unknown k
    before (missing j) h = earlier j h
    before (under j q) h = absurd h
    before (named k q) h = absurd h

then_judged : {X : Type 0} (path : Path) (F : Faults) (y : X) (more : ⊤ → Read X) → F itself ≡ None → (u m : Option (List ℕ)) →
    IsUnknownSaid path F u → IsFirstMissing path (λ i. F (missing i)) m → (IsClear F 0 → IsReading F y (more tt)) →
    IsReading F y ((refuse UnknownKey path u >>= λ known. refuse WrongType path m) >>= more)
then_judged path F y more kind None None no_unknown no_missing rest =
    rest (record { at_itself = kind; at_unknown = no_unknown; at_missing = no_missing; at_under = λ i p lt. absurd (omega arith) })
then_judged path F y more kind None (Some k) no_unknown is rest = first_missing_is F (WrongType (at_key path k)) is.0 kind no_unknown is.1 is.2
then_judged path F y more kind (Some u) m is missings rest = first_unknown_is path F u kind is

unknown_said : (path : Path) (rows : List Row) (keys : List Key) → ((key : List ℕ) → is_known rows key ≡ has_key keys key) →
    (ms : Members) (u : Option (List ℕ)) → IsLeastUnknown (is_known rows) ms u → IsUnknownSaid path (object_faults keys path (object ms)) u
unknown_said path rows keys same ms None is = λ k. by k (is_some (get_member k ms)) refl
  where
    by : (k : List ℕ) (b : Bool) → is_some (get_member k ms) ≡ b → (if b && not (has_key keys k) then Some (UnknownKey (at_key path k)) else None) ≡ None
    by k false e = refl
    by k true e = rw (sym (same k), is k e) refl
unknown_said path rows keys same ms (Some u) is = (rw (is.0, sym (same u), is.1) refl, λ k lt. by k lt (is_some (get_member k ms)) refl)
  where
    by : (k : List ℕ) → compared k u ≡ Less → (b : Bool) → is_some (get_member k ms) ≡ b → (if b && not (has_key keys k) then Some (UnknownKey (at_key path k)) else None) ≡ None
    by k lt false e = refl
    by k lt true e = rw (sym (same k), is.2 k lt e) refl

-- an object is judged, and then read
pub then_object : {X : Type 0} (keys : List Key) (path : Path) (d : Data) (y : X) (more : ⊤ → Read X) → IsOrdered d →
    (IsClear (object_faults keys path d) 0 → IsReading (object_faults keys path d) y (more tt)) →
    IsReading (object_faults keys path d) y (judged (rows_of keys) path d >>= more)
unfolding judged
then_object keys path null y more up rest = first_itself _ _ refl
then_object keys path (boolean b) y more up rest = first_itself _ _ refl
then_object keys path (number n) y more up rest = first_itself _ _ refl
then_object keys path (string s) y more up rest = first_itself _ _ refl
then_object keys path (array ds) y more up rest = first_itself _ _ refl
then_object keys path (object ms) y more up rest =
    then_judged path (object_faults keys path (object ms)) y more refl (unknown_key (rows_of keys) ms) (missing_key (rows_of keys) (object ms))
    (unknown_said path (rows_of keys) keys (same_keys keys) ms _ (least_unknown (rows_of keys) ms up)) (first_missing path (object ms) keys) rest

-- an object is judged by rows that say the same as its keys
pub then_rows : {X : Type 0} (keys : List Key) (rows : List Row) → rows_of keys ≡ rows → (path : Path) (d : Data) (y : X) (more : ⊤ → Read X) → IsOrdered d →
    (IsClear (object_faults keys path d) 0 → IsReading (object_faults keys path d) y (more tt)) →
    IsReading (object_faults keys path d) y (judged rows path d >>= more)
then_rows keys rows same path d y more up rest = subst (λ them. IsReading (object_faults keys path d) y (judged them path d >>= more)) same (then_object keys path d y more up rest)

-- a key that a table doesn't have isn't there, where no key is unknown
pub not_there : (found : Option Data) (fault : ConfigFault) → (if is_some found && true then Some fault else None) ≡ None → found ≡ None
not_there None fault e = refl
not_there (Some d) fault e = absurd (true≢false (ap is_some e))

-- then nothing is read under it
pub absent_read : {X Y : Type 0} (F : Faults) (written : Option Data → X) (reader : Option Data → Read X) (make : X → Y) → reader None ≡ Ok (written None) →
    ((p : Place) → F p ≡ None) → (found : Option Data) → found ≡ None → IsReading F (make (written found)) (reader found >>= λ x. Ok (make x))
absent_read F written reader make is none None e = rw is (none, refl)
absent_read F written reader make is none (Some d) e = absurd (true≢false (ap is_some e))

-- ---- a row that is of no kind

refused : {X : Type 0} (path : Path) (F : Faults) (y : X) → F itself ≡ None → F (missing 0) ≡ Some (WrongType path) → (u m : Option (List ℕ)) →
    IsUnknownSaid path F u → m ≡ None → IsReading F y ((refuse UnknownKey path u >>= λ known. refuse WrongType path m) >>= λ known. Err (WrongType path))
refused path F y kind first None None no_unknown e = first_missing_is F (WrongType path) 0 kind no_unknown first (λ j lt. absurd (omega (arith, lt)))
refused path F y kind first None (Some k) no_unknown e = absurd (true≢false (ap is_some e))
refused path F y kind first (Some u) m is e = first_unknown_is path F u kind is

-- it is judged by the keys of rows, and then refused
pub kindless_read : {X : Type 0} (rows : List Row) (keys : List Key) (path : Path) (d : Data) (y : X) → IsOrdered d →
    ((key : List ℕ) → is_known rows key ≡ has_key keys key) → missing_key rows d ≡ None →
    IsReading (kindless_faults keys path d) y (kindless_at rows path d)
unfolding judged kindless_at
kindless_read rows keys path null y up same none = first_itself _ _ refl
kindless_read rows keys path (boolean b) y up same none = first_itself _ _ refl
kindless_read rows keys path (number n) y up same none = first_itself _ _ refl
kindless_read rows keys path (string s) y up same none = first_itself _ _ refl
kindless_read rows keys path (array ds) y up same none = first_itself _ _ refl
kindless_read rows keys path (object ms) y up same none =
    refused path (kindless_faults keys path (object ms)) y refl refl (unknown_key rows ms) (missing_key rows (object ms))
    (said (unknown_key rows ms) (unknown_said path rows keys same ms _ (least_unknown rows ms up))) none
  where
    said : (u : Option (List ℕ)) → IsUnknownSaid path (object_faults keys path (object ms)) u → IsUnknownSaid path (kindless_faults keys path (object ms)) u
    said None is = is
    said (Some u) is = is

beyond : (fault : Key → Option ConfigFault) (keys : List Key) (i : ℕ) → length keys ≤ i → of_key fault keys i ≡ None
beyond fault [] i le = refl
beyond fault (key ∷ keys) zero le = absurd (omega arith)
beyond fault (key ∷ keys) (suc i) le = beyond fault keys i (omega arith)

-- an object of which each key was read has no fault
pub none_left : (keys : List Key) (path : Path) (d : Data) → IsClear (object_faults keys path d) (length keys) → (p : Place) → object_faults keys path d p ≡ None
none_left keys path d clear = whole _ (length keys) clear (λ i p le. beyond (λ key. under_at path d key p) keys i le) (λ k p. refl)
