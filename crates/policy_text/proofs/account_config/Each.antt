-- Reading each value of a list, and each under its name.
use Rattle.std.proofs.Common.{◌≡◌, ℕ, suc, ◌+◌, ◌≤◌, ◌-◌, List, ◌∷◌, Option, Some, None, Ok, Err, Ordering, Less, Equal, Greater, is_some, inl, inr, refl, ap, sym, subst, true≢false, arith}
use Rattle.std.specs.Option.{unwrap_or}
use Rattle.std.specs.Ordering.{match_ordering}
use Rattle.serde_json.specs.Data.{Data, null, boolean, number, string, array, object, Items, no_items, item, Members, no_members, member}
use Rattle.serde_json.specs.Find.{as_object, get_item, get_member}
use Rattle.policy_doc.specs.Accounts.{with_account}
use Rattle.policy_doc.specs.declared.document.NamedAccount.{NamedAccount}
use Rattle.policy_doc.specs.declared.document.Version.{Version}
use Rattle.policy_walk.specs.declared.fault.ConfigFault.{ConfigFault}
use Rattle.policy_walk.specs.Fault.{Read, ◌>>=◌}
use Rattle.policy_walk.specs.Object.{members_at}
use Rattle.policy_walk.specs.Path.{Path, at_key, at_index}
use Rattle.policy_walk.specs.Lists.{each}
use Rattle.policy_text.specs.account_config.Policy.{accounts_from, named_account_at}
use Rattle.policy_text.specs.account_config.Place.{Place, itself, unknown, missing, under, named, IsBefore, Faults, IsFirst, IsReading}
use Rattle.policy_text.specs.account_config.Tables.{in_value, members_faults}
use Rattle.policy_text.specs.account_config.Standing.{account_faults}
use Rattle.policy_text.specs.account_config.Values.{each_in}
use Rattle.policy_text.specs.account_config.Written.{account_in, accounts_in}
use Rattle.policy_text.proofs.account_config.Order.{IsAbove, IsAscending, IsOrdered, AreOrdered, above_further, absent, compared, same_key, key_is}
use Rattle.policy_text.proofs.account_config.First.{IsClear, first_itself, go_on, whole, same_faults}

-- each value that is ordered is read as its faults and what is written say
abbrev pub Reads : {X : Type 0} → (Path → Data → Faults) → (Data → X) → (Path → Data → Read X) → Type 0
Reads faults written reader = (path : Path) (d : Data) → IsOrdered d → IsReading (faults path d) (written d) (reader path d)

-- ---- lists

-- the values from index i on are read, where nothing stands before them
pub each_from : {X : Type 0} (faults : Path → Data → Faults) (written : Data → X) (reader : Path → Data → Read X) → Reads faults written reader →
    (path : Path) (F : Faults) → ((k : List ℕ) (p : Place) → F (named k p) ≡ None) →
    (i : ℕ) (ds : Items) → AreOrdered ds → ((n : ℕ) (p : Place) → F (under (i + n) p) ≡ in_value faults (at_index path (i + n)) (get_item n ds) p) →
    IsClear F i → IsReading F (each_in written ds) (each reader path i ds)
each_from {X = X} faults written reader reads path F names i no_items up has clear = (whole F i clear beyond names, refl)
  where
    beyond : (j : ℕ) (p : Place) → i ≤ j → F (under j p) ≡ None
    beyond j p le = let e : i + (j - i) ≡ j = omega arith in subst (λ n. F (under n p) ≡ None) e (has (j - i) p)
each_from {X = X} faults written reader reads path F names i (item d ds) up has clear =
    go_on F i (written d) (each_in written (item d ds)) (reader (at_index path i) d) _ clear here λ clear_next.
    by (each reader path (suc i) ds) (each_from faults written reader reads path F names (suc i) ds up.1 later clear_next)
  where
    at_zero : (p : Place) → F (under i p) ≡ faults (at_index path i) d p
    at_zero p = let e : i + 0 ≡ i = omega arith in subst (λ n. F (under n p) ≡ faults (at_index path n) d p) e (has 0 p)

    here : IsReading (λ p. F (under i p)) (written d) (reader (at_index path i) d)
    here = same_faults (faults (at_index path i) d) (λ p. F (under i p)) (λ p. at_zero p) (written d) (reader (at_index path i) d) (reads (at_index path i) d up.0)

    later : (n : ℕ) (p : Place) → F (under (suc i + n) p) ≡ in_value faults (at_index path (suc i + n)) (get_item n ds) p
    later n p = let e : i + suc n ≡ suc i + n = omega arith in subst (λ m. F (under m p) ≡ in_value faults (at_index path m) (get_item n ds) p) e (has (suc n) p)

    by : (read : Read (List X)) → IsReading F (each_in written ds) read → IsReading F (each_in written (item d ds)) (read >>= λ xs. Ok (written d ∷ xs))
    by (Ok xs) is = (is.0, ap (λ ys. written d ∷ ys) is.1)
    by (Err fault) first = first

-- ---- what stands under names

-- the faults of members under their names
abbrev pub in_members : (List ℕ → Path → Data → Faults) → Path → Members → Faults
in_members faults path ms (named name p) = in_value (faults name) (at_key path name) (get_member name ms) p
in_members faults path ms _ = None

-- without members there is none
pub none_in : (faults : List ℕ → Path → Data → Faults) (path : Path) (p : Place) → in_members faults path no_members p ≡ None
none_in faults path itself = refl
none_in faults path (unknown k) = refl
none_in faults path (missing i) = refl
none_in faults path (under i p) = refl
none_in faults path (named k p) = refl

-- no fault in the first member, and none in the others
clear_on : (faults : List ℕ → Path → Data → Faults) (path : Path) (k : List ℕ) (d : Data) (ms : Members) → ((p : Place) → faults k (at_key path k) d p ≡ None) →
    (l : List ℕ) (p : Place) → in_members faults path ms (named l p) ≡ None → in_members faults path (member k d ms) (named l p) ≡ None
clear_on faults path k d ms none l p later = by (compared l k) refl
  where
    by : (o : Ordering) → compared l k ≡ o → in_value (faults l) (at_key path l) (match_ordering o (get_member l ms) (Some d) (get_member l ms)) p ≡ None
    by Less e = later
    by Equal e = let same : l ≡ k = key_is l k e in rw same (none p)
    by Greater e = later

-- a fault behind the first member stands with it in front
stays : (faults : List ℕ → Path → Data → Faults) (path : Path) (k : List ℕ) (d : Data) (ms : Members) → IsAbove k ms → (l : List ℕ) (p : Place) (fault : ConfigFault) →
    in_members faults path ms (named l p) ≡ Some fault → in_members faults path (member k d ms) (named l p) ≡ Some fault
stays faults path k d ms above l p fault stands = by (compared l k) refl
  where
    by : (o : Ordering) → compared l k ≡ o → in_value (faults l) (at_key path l) (match_ordering o (get_member l ms) (Some d) (get_member l ms)) p ≡ Some fault
    by Less e = stands
    by Equal e =
        let gone : get_member l ms ≡ None = let same : l ≡ k = key_is l k e in rw same (absent k ms above) in
        let nothing = subst (λ (o : Option Data). in_value (faults l) (at_key path l) o p ≡ Some fault) gone stands in
        absurd (true≢false (sym (ap is_some nothing)))
    by Greater e = stands

-- the first member is read, and then the others
pub member_read : {X Y : Type 0} (faults : List ℕ → Path → Data → Faults) (path : Path) (k : List ℕ) (d : Data) (ms : Members) → IsAbove k ms →
    (x : X) (y : Y) (read : Read X) (more : X → Read Y) → IsReading (faults k (at_key path k) d) x read → IsReading (in_members faults path ms) y (more x) →
    IsReading (in_members faults path (member k d ms)) y (read >>= more)
member_read {X = X} {Y = Y} faults path k d ms above x y read more is later = by read is
  where
    F : Faults
    F = in_members faults path (member k d ms)

    behind : ((p : Place) → faults k (at_key path k) d p ≡ None) → (others : Read Y) → IsReading (in_members faults path ms) y others → IsReading F y others
    behind none (Ok ys) is = (all, is.1)
      where
        all : (p : Place) → F p ≡ None
        all itself = refl
        all (unknown l) = refl
        all (missing i) = refl
        all (under i p) = refl
        all (named l p) = clear_on faults path k d ms none l p (is.0 (named l p))
    behind none (Err fault) first = at first.0 first.1 first.2
      where
        at : (p : Place) → in_members faults path ms p ≡ Some fault → ((q : Place) → IsBefore q p → in_members faults path ms q ≡ None) → IsFirst F fault
        at itself stands none_before = absurd (true≢false (sym (ap is_some stands)))
        at (unknown l) stands none_before = absurd (true≢false (sym (ap is_some stands)))
        at (missing i) stands none_before = absurd (true≢false (sym (ap is_some stands)))
        at (under i p) stands none_before = absurd (true≢false (sym (ap is_some stands)))
        at (named l p) stands none_before = (named l p, stays faults path k d ms above l p fault stands, earlier)
          where
            earlier : (q : Place) → IsBefore q (named l p) → F q ≡ None
            earlier itself h = refl
            earlier (unknown j) h = refl
            earlier (missing i) h = refl
            earlier (under i q) h = refl
            earlier (named j q) h = clear_on faults path k d ms none j q (none_before (named j q) h)

    first_member : (fault : ConfigFault) → IsFirst (faults k (at_key path k) d) fault → IsFirst F fault
    first_member fault first = (named k first.0, rw (same_key k) first.1, earlier)
      where
        earlier : (q : Place) → IsBefore q (named k first.0) → F q ≡ None
        earlier itself h = refl
        earlier (unknown j) h = refl
        earlier (missing i) h = refl
        earlier (under i q) h = refl
        earlier (named j q) h = elim h [
          | inl lt ↦ rw (absent j (member k d ms) (lt, above_further j k ms lt above)) refl
          | inr at ↦ (let e : j ≡ k = at.0 in rw (e, same_key k) (first.2 q at.1))
        ]

    by : (read : Read X) → IsReading (faults k (at_key path k) d) x read → IsReading F y (read >>= more)
    by (Ok a) is = subst (λ b. IsReading F y (more b)) (sym is.1) (behind is.0 (more x) later)
    by (Err fault) first = first_member fault first

-- an object of which each member is read
pub members_read : {X : Type 0} (faults : List ℕ → Path → Data → Faults) (path : Path) (written : Members → X) (from : Members → Read X) →
    ((ms : Members) → IsAscending ms → IsReading (in_members faults path ms) (written ms) (from ms)) →
    (d : Data) → IsOrdered d → IsReading (members_faults faults path d) (written (unwrap_or (as_object d) no_members)) (members_at path d >>= from)
members_read faults path written from reads null up = first_itself _ _ refl
members_read faults path written from reads (boolean b) up = first_itself _ _ refl
members_read faults path written from reads (number n) up = first_itself _ _ refl
members_read faults path written from reads (string s) up = first_itself _ _ refl
members_read faults path written from reads (array ds) up = first_itself _ _ refl
members_read faults path written from reads (object ms) up = same_faults (in_members faults path ms) (members_faults faults path (object ms)) same _ _ (reads ms up)
  where
    same : (p : Place) → members_faults faults path (object ms) p ≡ in_members faults path ms p
    same itself = refl
    same (unknown k) = refl
    same (missing i) = refl
    same (under i p) = refl
    same (named k p) = refl

-- the accounts are read, each put under its name
pub accounts_read : (version : Version) → ((path : Path) (name : List ℕ) (d : Data) → IsOrdered d →
    IsReading (account_faults version name (at_key path name) d) (record { name = name; account = account_in d }) (named_account_at version path name d)) →
    (path : Path) (before : List NamedAccount) (ms : Members) → IsAscending ms →
    IsReading (in_members (account_faults version) path ms) (accounts_in before ms) (accounts_from version before path ms)
accounts_read version reads path before no_members up = (none_in (account_faults version) path, refl)
accounts_read version reads path before (member k d ms) up =
    member_read (account_faults version) path k d ms up.0 (record { name = k; account = account_in d }) (accounts_in before (member k d ms)) (named_account_at version path k d)
    (λ named. accounts_from version (with_account named.name named.account before) path ms) (reads path k d up.1)
    (accounts_read version reads path (with_account k (account_in d) before) ms up.2)
