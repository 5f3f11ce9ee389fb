-- The sets by first accounts are the smallest closed sets.
use Rattle.std.proofs.Common.{◌≡◌, ◌∙◌, ◌||◌, ◌&&◌, ◌<◌, ℕ, suc, Bool, true, false, true≢false, cond, List, [], ◌∷◌, length, map, filter, Some, ap, sym, refl, subst, Less, Greater}
use Rattle.std.specs.Prelude.{All, IsTrue, IsSomeAnd}
use Rattle.std.specs.List.{AllByRecursion, count_by, find, list_any, slice_index_or}
use Rattle.std.specs.List.Sorted.{IsStrictlySortedBy}
use Rattle.std.specs.Ordering.{is_eq, is_gt}
use Rattle.std.specs.Str.{bytes_eq}
use Rattle.std.proofs.lemmas.Cmp.{nat_list_eq_equiv}
use Rattle.std.proofs.lemmas.List.Elements.{All-nil, All-head, All-tail, All-append, All-map, All-filter, All-weaker, All-contains_itself, filter_passes}
use Rattle.std.proofs.lemmas.List.Sums.{length-filter}
use Rattle.std.proofs.lemmas.List.Kept.{IsStrictlySortedBy-filter}
use Rattle.std.proofs.lemmas.Map.Keys.{sorted_head, sorted_tail}
use Rattle.std.proofs.lemmas.Map.Text.{is_eq-slice_cmp}
use Rattle.std.proofs.lemmas.Map.Views.{any-filter_same, list_any-from_Contains}
use Rattle.policy_doc.specs.Accounts.{IsByName, Name, has_name}
use Rattle.policy_doc.specs.Document.{IsValidPolicy}
use Rattle.policy_doc.specs.Imports.{AreValidImports, IsValidImport}
use Rattle.policy_doc.specs.declared.document.ImportDoc.{ImportDoc}
use Rattle.policy_doc.specs.declared.document.NamedAccount.{NamedAccount}
use Rattle.policy_doc.specs.declared.document.PolicyDoc.{PolicyDoc}
use Rattle.policy_doc.proofs.Names.{name_cmp, flipped}
use Rattle.policy_sets.specs.Sets.{AreClosedSets, Ends, IsClosed, IsUndivided, ends_at, ends_in, ends_of, first_in, first_of, is_in, names_of, set_of, sets_by}
use Rattle.policy_sets.proofs.Closed.{same, rows_joined, first-within, first-stays, first-once, first-before, alone-before}

-- ---- names among names

and-true : (b c : Bool) → c ≡ true → (b && c) ≡ b
and-true true c e = e
and-true false c e = refl

pub all_in : (names : List Name) → All (λ n. is_in names n ≡ true) names
all_in names =
    All-weaker (λ n. (k : ℕ) × (k < length names) × (slice_index_or names k n ≡ n)) (λ n. is_in names n ≡ true)
    (λ n has. list_any-from_Contains nat_list_eq_equiv n names has) names (All-contains_itself names)

-- a name is among those that pass a test where it passes
in_filter : (p : Name → Bool) (names : List Name) (x : Name) → is_in names x ≡ true → is_in (filter p names) x ≡ p x
in_filter p names x has =
    any-filter_same (bytes_eq x) p (p x) (λ k e. ap p (sym (same x k e))) names ∙ and-true (p x) (is_in names x) has

kept_alike : (p q : Name → Bool) (names : List Name) → All (λ n. p n ≡ q n) names → filter p names ≡ filter q names
kept_alike p q [] all = refl
kept_alike p q (n ∷ names) all =
    ap (λ b. cond b (n ∷ filter p names) (filter p names)) (All-head (λ m. p m ≡ q m) n names all)
    ∙ ap (λ l. cond (q n) (n ∷ l) l) (kept_alike p q names (All-tail (λ m. p m ≡ q m) n names all))

own_filter : (p : Name → Bool) (names : List Name) → filter p names ≡ filter (is_in (filter p names)) names
own_filter p names =
    kept_alike p (is_in (filter p names)) names
    (All-weaker (λ n. is_in names n ≡ true) (λ n. p n ≡ is_in (filter p names) n) (λ n has. sym (in_filter p names n has)) names (all_in names))

-- names that stand behind one
above_in : (n x : Name) (names : List Name) → AllByRecursion (λ y. name_cmp n y ≡ Less) names → is_in names x ≡ true → name_cmp n x ≡ Less
above_in n x [] above has = absurd (true≢false (sym has))
above_in n x (y ∷ names) above has = by (bytes_eq x y) refl has (above_in n x names above.1)
  where
    by : (b : Bool) → bytes_eq x y ≡ b → (b || is_in names x) ≡ true → (is_in names x ≡ true → name_cmp n x ≡ Less) → name_cmp n x ≡ Less
    by true e h later = subst (λ z. name_cmp n z ≡ Less) (sym (same x y e)) above.0
    by false e h later = later h

-- ---- every account stands in one set

none_behind : (x : Name) (names : List Name) → AllByRecursion (λ y. name_cmp x y ≡ Less) names → filter (bytes_eq x) names ≡ []
none_behind x [] above = refl
none_behind x (y ∷ names) above =
    let other : bytes_eq x y ≡ false = sym (is_eq-slice_cmp x y) ∙ ap is_eq above.0 in
    ap (λ b. cond b (y ∷ filter (bytes_eq x) names) (filter (bytes_eq x) names)) other ∙ none_behind x names above.1

once_among : (x : Name) (names : List Name) → IsStrictlySortedBy name_cmp names → is_in names x ≡ true → length (filter (bytes_eq x) names) ≡ 1
once_among x [] sorted has = absurd (true≢false (sym has))
once_among x (y ∷ names) sorted has = by (bytes_eq x y) refl has (once_among x names (sorted_tail name_cmp y names sorted))
  where
    by : (b : Bool) → bytes_eq x y ≡ b → (b || is_in names x) ≡ true → (is_in names x ≡ true → length (filter (bytes_eq x) names) ≡ 1) → length (cond b (y ∷ filter (bytes_eq x) names) (filter (bytes_eq x) names)) ≡ 1
    by true e h later =
        let none : filter (bytes_eq x) names ≡ [] = none_behind x names (subst (λ z. AllByRecursion (λ u. name_cmp z u ≡ Less) names) (sym (same x y e)) (sorted_head name_cmp y names sorted)) in
        ap (λ l. length (y ∷ l)) none
    by false e h later = later h

counted_alike : (p : List Name → Bool) (q : Name → Bool) (make : Name → List Name) → ((f : Name) → p (make f) ≡ q f) → (fs : List Name) → length (filter p (map make fs)) ≡ length (filter q fs)
counted_alike p q make agree [] = refl
counted_alike p q make agree (f ∷ fs) =
    ap (λ b. length (cond b (make f ∷ filter p (map make fs)) (filter p (map make fs)))) (agree f) ∙ by (q f) (counted_alike p q make agree fs)
  where
    by : (b : Bool) → length (filter p (map make fs)) ≡ length (filter q fs) → length (cond b (make f ∷ filter p (map make fs)) (filter p (map make fs))) ≡ length (cond b (f ∷ filter q fs) (filter q fs))
    by true e = ap suc e
    by false e = e

-- ---- the first name of a set

first-is : (first : Name → Name) (names : List Name) (f : Name) → ((x : Name) → is_gt (name_cmp (first x) x) ≡ false) → IsStrictlySortedBy name_cmp names → bytes_eq (first f) f ≡ true → is_in names f ≡ true →
    first_in (set_of first names f) ≡ f
first-is first [] f before sorted own has = absurd (true≢false (sym has))
first-is first (n ∷ names) f before sorted own has = by (bytes_eq (first n) f) refl (bytes_eq f n) refl has (first-is first names f before (sorted_tail name_cmp n names sorted) own)
  where
    by : (b : Bool) → bytes_eq (first n) f ≡ b → (c : Bool) → bytes_eq f n ≡ c → (c || is_in names f) ≡ true → (is_in names f ≡ true → first_in (set_of first names f) ≡ f) → first_in (cond b (n ∷ set_of first names f) (set_of first names f)) ≡ f
    by true e true is h later = sym (same f n is)
    by true e false is h later =
        let behind : name_cmp f n ≡ Greater = flipped n f Less (above_in n f names (sorted_head name_cmp n names sorted) h) in
        let not : is_gt (name_cmp f n) ≡ false = subst (λ z. is_gt (name_cmp z n) ≡ false) (same (first n) f e) (before n) in
        absurd (true≢false (sym (ap is_gt behind) ∙ not))
    by false e true is h later = absurd (true≢false (sym own ∙ ap (λ z. bytes_eq (first z) f) (same f n is) ∙ e))
    by false e false is h later = later h

mapped_back : (make : Name → List Name) (fs : List Name) → All (λ f. first_in (make f) ≡ f) fs → map first_in (map make fs) ≡ fs
mapped_back make [] all = refl
mapped_back make (f ∷ fs) all =
    ap (λ x. x ∷ map first_in (map make fs)) (All-head (λ g. first_in (make g) ≡ g) f fs all)
    ∙ ap (λ l. f ∷ l) (mapped_back make fs (All-tail (λ g. first_in (make g) ≡ g) f fs all))

-- ---- the ends of rows are accounts

found_in : (n : Name) (accounts : List NamedAccount) (Q : NamedAccount → Type 0) → IsSomeAnd (find (has_name n) accounts) Q → list_any (has_name n) accounts ≡ true
found_in n [] Q found = absurd found
found_in n (a ∷ accounts) Q found = by (has_name n a) found (found_in n accounts Q)
  where
    by : (b : Bool) → IsSomeAnd (cond b (Some a) (find (has_name n) accounts)) Q → (IsSomeAnd (find (has_name n) accounts) Q → list_any (has_name n) accounts ≡ true) → (b || list_any (has_name n) accounts) ≡ true
    by true h later = refl
    by false h later = later h

pub exporter_there : (accounts : List NamedAccount) (importer : Name) (i : ImportDoc) → IsValidImport accounts importer i → IsTrue (list_any (has_name i.account) accounts)
exporter_there accounts importer i valid = found_in i.account accounts _ valid.exported

by_names : (n : Name) (accounts : List NamedAccount) → list_any (has_name n) accounts ≡ is_in (names_of accounts) n
by_names n [] = refl
by_names n (a ∷ accounts) =
    ap (λ b. b || list_any (has_name n) accounts) (is_eq-slice_cmp a.name n ∙ nat_list_eq_equiv.symm a.name n) ∙ ap (λ b. bytes_eq n a.name || b) (by_names n accounts)

-- both ends of a row are among names
abbrev pub AreEnds : List Name → Ends → Type 0
AreEnds names row = (is_in names row.importer ≡ true) × (is_in names row.exporter ≡ true)

ends_in-are : (accounts : List NamedAccount) (importer : Name) (imports : List ImportDoc) → is_in (names_of accounts) importer ≡ true → All (IsValidImport accounts importer) imports → All (AreEnds (names_of accounts)) (map (ends_at importer) imports)
ends_in-are accounts importer imports has valid =
    All-map (AreEnds (names_of accounts)) (ends_at importer) imports
    (All-weaker (IsValidImport accounts importer) (λ i. AreEnds (names_of accounts) (ends_at importer i))
    (λ i holds. (has, sym (by_names i.account accounts) ∙ exporter_there accounts importer i holds)) imports valid)

ends_from : (accounts importers : List NamedAccount) → All (λ n. is_in (names_of accounts) n ≡ true) (names_of importers) → AreValidImports accounts importers → All (AreEnds (names_of accounts)) (ends_of importers)
ends_from accounts [] have valid = All-nil (AreEnds (names_of accounts))
ends_from accounts (a ∷ more) have valid =
    let P : NamedAccount → Type 0 = λ b. All (IsValidImport accounts b.name) b.account.imports in
    let Q : Name → Type 0 = λ n. is_in (names_of accounts) n ≡ true in
    All-append (AreEnds (names_of accounts)) (ends_in a) (ends_of more)
    (ends_in-are accounts a.name a.account.imports (All-head Q a.name (names_of more) have) (All-head P a more valid))
    (ends_from accounts more (All-tail Q a.name (names_of more) have) (All-tail P a more valid))

ends_of-are : (accounts : List NamedAccount) → AreValidImports accounts accounts → All (AreEnds (names_of accounts)) (ends_of accounts)
ends_of-are accounts valid = ends_from accounts accounts (all_in (names_of accounts)) valid

-- ---- the sets

undivided : (doc : PolicyDoc) (f : Name) → IsUndivided doc (set_of (first_of doc.accounts) (names_of doc.accounts) f)
undivided doc f K closed any =
    let set : List Name = set_of (first_of doc.accounts) (names_of doc.accounts) f in
    let of_f : (n : Name) → bytes_eq (first_of doc.accounts n) f ≡ true → K f ≡ K n = λ n e. ap K (sym (same (first_of doc.accounts n) f e)) ∙ first-within K (ends_of doc.accounts) (λ x. x) closed (λ x. refl) n in
    let passes : All (λ n. bytes_eq (first_of doc.accounts n) f ≡ true) set = filter_passes (λ n. bytes_eq (first_of doc.accounts n) f) (names_of doc.accounts) in
    let at : bytes_eq (first_of doc.accounts any.1) f ≡ true = subst (λ z. bytes_eq (first_of doc.accounts z) f ≡ true) any.3 (passes any.0 any.1 any.2) in
    let has : K f ≡ true = of_f any.1 at ∙ any.4 in
    λ k d below. sym (of_f (slice_index_or set k d) (passes k d below)) ∙ has

closed_set : (doc : PolicyDoc) (f : Name) → All (AreEnds (names_of doc.accounts)) (ends_of doc.accounts) → IsClosed doc (is_in (set_of (first_of doc.accounts) (names_of doc.accounts) f))
closed_set doc f ends k d below =
    let first : Name → Name = first_of doc.accounts in
    let row : Ends = slice_index_or (ends_of doc.accounts) k d in
    let two = ends k d below in
    in_filter (λ n. bytes_eq (first n) f) (names_of doc.accounts) row.importer two.0
    ∙ ap (λ n. bytes_eq n f) (rows_joined (ends_of doc.accounts) (λ x. x) k d below)
    ∙ sym (in_filter (λ n. bytes_eq (first n) f) (names_of doc.accounts) row.exporter two.1)

in_one : (accounts : List NamedAccount) → IsByName accounts → All (AreEnds (names_of accounts)) (ends_of accounts) → (x : Name) → is_in (names_of accounts) x ≡ true →
    count_by (λ set. is_in set x) (sets_by (first_of accounts) (names_of accounts)) ≡ 1
in_one accounts sorted ends x has =
    let first : Name → Name = first_of accounts in
    let names : List Name = names_of accounts in
    let own : Name → Bool = λ n. bytes_eq (first n) n in
    let there : is_in names (first x) ≡ true = first-stays (λ n. is_in names n ≡ true) (ends_of accounts) (λ n. n) ends (λ n h. h) x has in
    let twice : first (first x) ≡ first x = first-once (ends_of accounts) (λ n. n) (λ n. refl) x in
    sym (length-filter (λ set. is_in set x) (map (set_of first names) (filter own names)))
    ∙ counted_alike (λ set. is_in set x) (bytes_eq (first x)) (set_of first names) (λ f. in_filter (λ n. bytes_eq (first n) f) names x has) (filter own names)
    ∙ once_among (first x) (filter own names) (IsStrictlySortedBy-filter name_cmp own names sorted)
    (in_filter own names (first x) there ∙ ap (λ n. bytes_eq n (first x)) twice ∙ nat_list_eq_equiv.refl (first x))

in_order : (accounts : List NamedAccount) → IsByName accounts → map first_in (sets_by (first_of accounts) (names_of accounts)) ≡ filter (λ n. bytes_eq (first_of accounts n) n) (names_of accounts)
in_order accounts sorted =
    let first : Name → Name = first_of accounts in
    let names : List Name = names_of accounts in
    let own : Name → Bool = λ n. bytes_eq (first n) n in
    let own_all : All (λ f. own f ≡ true) (filter own names) = filter_passes own names in
    let has_all : All (λ f. is_in names f ≡ true) (filter own names) = All-filter own (λ f. is_in names f ≡ true) names (all_in names) in
    mapped_back (set_of first names) (filter own names)
    (λ k d below. first-is first names (slice_index_or (filter own names) k d) (first-before (ends_of accounts) (λ n. n) alone-before) sorted (own_all k d below) (has_all k d below))

pub are_closed_sets : (doc : PolicyDoc) → IsValidPolicy doc → IsByName doc.accounts → AreClosedSets doc (sets_by (first_of doc.accounts) (names_of doc.accounts))
are_closed_sets doc valid sorted =
    let first : Name → Name = first_of doc.accounts in
    let names : List Name = names_of doc.accounts in
    let own : Name → Bool = λ n. bytes_eq (first n) n in
    let ends : All (AreEnds names) (ends_of doc.accounts) = ends_of-are doc.accounts valid.imports in
    let order = in_order doc.accounts sorted in record {
      one = All-weaker (λ n. is_in names n ≡ true) (λ n. count_by (λ set. is_in set n) (sets_by first names) ≡ 1) (λ n has. in_one doc.accounts sorted ends n has) names (all_in names);
      closed = All-map (λ set. IsClosed doc (is_in set)) (set_of first names) (filter own names) (λ k d below. closed_set doc (slice_index_or (filter own names) k d) ends);
      smallest = All-map (IsUndivided doc) (set_of first names) (filter own names) (λ k d below. undivided doc (slice_index_or (filter own names) k d));
      accounts = All-map (λ set. set ≡ filter (is_in set) names) (set_of first names) (filter own names) (λ k d below. own_filter (λ n. bytes_eq (first n) (slice_index_or (filter own names) k d)) names);
      order = order ∙ own_filter own names ∙ sym (ap (λ l. filter (is_in l) names) order);
    }
