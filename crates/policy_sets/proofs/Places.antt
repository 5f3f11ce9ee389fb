-- The places of first accounts stand for them.
use Rattle.std.proofs.Common.{◌≡◌, ◌∙◌, ◌+◌, ◌<◌, ◌==◌, ℕ, zero, suc, Bool, true, false, cond, List, [], ◌∷◌, ◌++◌, length, map, filter, take, ap, sym, refl, subst, arith, Less, Equal, Greater, Ordering}
use Rattle.std.specs.Prelude.{nat_lt}
use Rattle.std.specs.List.{AllByRecursion, range_with_len, slice_index, slice_index_or}
use Rattle.std.specs.List.Sorted.{IsStrictlySortedBy}
use Rattle.std.specs.Ordering.{MatchOrdering, is_eq, is_lt, nat_cmp}
use Rattle.std.specs.Cmp.{unsigned_tied}
use Rattle.std.specs.Str.{bytes_eq}
use Rattle.std.proofs.lemmas.Cmp.{nat_list_cmp_total, ranked, tied_itself}
use Rattle.std.proofs.lemmas.List.{get_or-map, length-map, map-append, append-nil}
use Rattle.std.proofs.lemmas.List.Elements.{filter-append}
use Rattle.std.proofs.lemmas.List.FromFn.{get_or-range_with_len, length-range_with_len}
use Rattle.std.proofs.lemmas.List.Sums.{fold-append}
use Rattle.std.proofs.lemmas.Grind.{flat_map-append, take_at_read}
use Rattle.std.proofs.lemmas.Map.Keys.{sorted_head, sorted_tail}
use Rattle.std.proofs.lemmas.Map.Text.{is_eq-slice_cmp}
use Rattle.policy_doc.specs.Accounts.{IsByName, Name, account_name, has_name}
use Rattle.policy_doc.specs.declared.document.ImportDoc.{ImportDoc}
use Rattle.policy_doc.specs.declared.document.NamedAccount.{NamedAccount}
use Rattle.policy_doc.proofs.Names.{name_cmp, flipped}
use Rattle.policy_sets.specs.Sets.{Ends, ends_at, ends_in, ends_of, exchanged, joined, joined_by, lesser_of, names_of, set_of}
use Rattle.policy_sets.specs.Firsts.{AreFirsts, IsFirstAt, exchanged_place, lesser_place, name_at}
use Rattle.policy_sets.proofs.Closed.{same}

-- ---- names compare as their places do

behind : (n : Name) (names : List Name) (j : ℕ) → AllByRecursion (λ y. name_cmp n y ≡ Less) names → j < length names → name_cmp n (name_at names j) ≡ Less
behind n [] j above within = absurd (omega (arith, within))
behind n (y ∷ names) zero above within = above.0
behind n (y ∷ names) (suc j) above within = behind n names j above.1 (omega (arith, within))

ordered : (names : List Name) (i j : ℕ) → IsStrictlySortedBy name_cmp names → i < j → j < length names → name_cmp (name_at names i) (name_at names j) ≡ Less
ordered [] i j sorted less within = absurd (omega (arith, within))
ordered (n ∷ names) i zero sorted less within = absurd (omega (arith, less))
ordered (n ∷ names) zero (suc j) sorted less within = behind n names j (sorted_head name_cmp n names sorted) (omega (arith, within))
ordered (n ∷ names) (suc i) (suc j) sorted less within = ordered names i j (sorted_tail name_cmp n names sorted) (omega (arith, less)) (omega (arith, within))

compared : (names : List Name) (i j : ℕ) → IsStrictlySortedBy name_cmp names → i < length names → j < length names → name_cmp (name_at names i) (name_at names j) ≡ nat_cmp i j
compared names i j sorted i_within j_within = by (nat_cmp i j) (ranked i j (nat_cmp i j) refl)
  where
    by : (o : Ordering) → MatchOrdering o (i < j) (i ≡ j) (j < i) → name_cmp (name_at names i) (name_at names j) ≡ o
    by Less less = ordered names i j sorted less j_within
    by Equal equal = subst (λ k. name_cmp (name_at names i) (name_at names k) ≡ Equal) equal (tied_itself nat_list_cmp_total (name_at names i))
    by Greater more = flipped (name_at names j) (name_at names i) Less (ordered names j i sorted more i_within)

pub alike_at : (names : List Name) (i j : ℕ) → IsStrictlySortedBy name_cmp names → i < length names → j < length names → bytes_eq (name_at names i) (name_at names j) ≡ (i == j)
alike_at names i j sorted i_within j_within =
    sym (is_eq-slice_cmp (name_at names i) (name_at names j)) ∙ ap is_eq (compared names i j sorted i_within j_within) ∙ unsigned_tied i j

is_lt-nat_cmp : (i j : ℕ) → is_lt (nat_cmp i j) ≡ nat_lt i j
is_lt-nat_cmp i j = by (nat_lt i j) (i == j)
  where
    by : (b c : Bool) → is_lt (cond b Less (cond c Equal Greater)) ≡ b
    by true c = refl
    by false true = refl
    by false false = refl

before_at : (names : List Name) (i j : ℕ) → IsStrictlySortedBy name_cmp names → i < length names → j < length names → is_lt (name_cmp (name_at names i) (name_at names j)) ≡ nat_lt i j
before_at names i j sorted i_within j_within = ap is_lt (compared names i j sorted i_within j_within) ∙ is_lt-nat_cmp i j

-- ---- a row joins by places as by names

-- what a place becomes is within, and has the name that its name becomes
abbrev pub Becomes : List Name → ℕ → Name → Type 0
Becomes names place name = (place < length names) × (name_at names place ≡ name)

exchanged_at : (names : List Name) (old new place : ℕ) → IsStrictlySortedBy name_cmp names → old < length names → new < length names → place < length names →
    Becomes names (exchanged_place old new place) (exchanged (name_at names old) (name_at names new) (name_at names place))
exchanged_at names old new place sorted old_within new_within within = by (place == old) (alike_at names place old sorted within old_within)
  where
    by : (b : Bool) → bytes_eq (name_at names place) (name_at names old) ≡ b → Becomes names (cond b new place) (exchanged (name_at names old) (name_at names new) (name_at names place))
    by true e = (new_within, sym (ap (λ c. cond c (name_at names new) (name_at names place)) e))
    by false e = (within, sym (ap (λ c. cond c (name_at names new) (name_at names place)) e))

lesser_at : (names : List Name) (one other place : ℕ) → IsStrictlySortedBy name_cmp names → one < length names → other < length names → place < length names →
    Becomes names (lesser_place one other place) (lesser_of (name_at names one) (name_at names other) (name_at names place))
lesser_at names one other place sorted one_within other_within within = by (nat_lt one other) (before_at names one other sorted one_within other_within)
  where
    to : Name
    to = exchanged (name_at names other) (name_at names one) (name_at names place)

    from : Name
    from = exchanged (name_at names one) (name_at names other) (name_at names place)

    by : (b : Bool) → is_lt (name_cmp (name_at names one) (name_at names other)) ≡ b → Becomes names (cond b (exchanged_place other one place) (exchanged_place one other place)) (lesser_of (name_at names one) (name_at names other) (name_at names place))
    by true e =
        let is = exchanged_at names other one place sorted other_within one_within within in
        (is.0, is.1 ∙ sym (ap (λ c. cond c to from) e))
    by false e =
        let is = exchanged_at names one other place sorted one_within other_within within in
        (is.0, is.1 ∙ sym (ap (λ c. cond c to from) e))

pub row_joined : (names : List Name) (first : Name → Name) (firsts : List ℕ) (importer exporter : ℕ) (row : Ends) → IsStrictlySortedBy name_cmp names → importer < length names → exporter < length names →
    name_at names importer ≡ row.importer → name_at names exporter ≡ row.exporter → AreFirsts names first firsts →
    AreFirsts names (joined first row) (map (lesser_place (slice_index firsts importer) (slice_index firsts exporter)) firsts)
row_joined names first firsts importer exporter row sorted importer_within exporter_within importer_is exporter_is are = record {
  as_many = length-map firsts moved ∙ are.as_many;
  each = each;
}
  where
    one : ℕ
    one = slice_index firsts importer

    other : ℕ
    other = slice_index firsts exporter

    moved : ℕ → ℕ
    moved = lesser_place one other

    at_one : name_at names one ≡ first row.importer
    at_one = (are.each importer importer_within).named ∙ ap first importer_is

    at_other : name_at names other ≡ first row.exporter
    at_other = (are.each exporter exporter_within).named ∙ ap first exporter_is

    each : (place : ℕ) → place < length names → IsFirstAt names (joined first row) (map moved firsts) place
    each place within =
        let inside : place < length firsts = omega (arith, within, are.as_many) in
        let read : slice_index (map moved firsts) place ≡ moved (slice_index firsts place) = get_or-map moved firsts place 0 0 inside in
        let at = are.each place within in
        let becomes = lesser_at names one other (slice_index firsts place) sorted (are.each importer importer_within).within (are.each exporter exporter_within).within at.within in record {
          within = subst (λ p. p < length names) (sym read) becomes.0;
          named = ap (name_at names) read ∙ becomes.1
              ∙ ap (λ n. lesser_of n (name_at names other) (name_at names (slice_index firsts place))) at_one
              ∙ ap (λ n. lesser_of (first row.importer) n (name_at names (slice_index firsts place))) at_other
              ∙ ap (lesser_of (first row.importer) (first row.exporter)) at.named;
        }

pub places_are : (names : List Name) (firsts : List ℕ) → firsts ≡ range_with_len 0 (length names) → AreFirsts names (λ n. n) firsts
places_are names firsts is = record {
  as_many = ap length is ∙ length-range_with_len 0 (length names);
  each = λ place within.
      let read : slice_index firsts place ≡ place = ap (λ l. slice_index l place) is ∙ get_or-range_with_len 0 (length names) place 0 within ∙ omega arith in record {
        within = subst (λ p. p < length names) (sym read) within;
        named = ap (name_at names) read;
      };
}

-- ---- one row, one account more

pub row_more : (first : Name → Name) (importer : Name) (imports : List ImportDoc) (i : ℕ) (d : ImportDoc) → i < length imports →
    joined_by first (map (ends_at importer) (take (i + 1) imports)) ≡ joined (joined_by first (map (ends_at importer) (take i imports))) (ends_at importer (slice_index_or imports i d))
row_more first importer imports i d within =
    ap (λ l. joined_by first (map (ends_at importer) l)) (take_at_read imports i d within).1
    ∙ ap (joined_by first) (map-append (ends_at importer) (take i imports) (slice_index_or imports i d ∷ []))
    ∙ fold-append joined first (map (ends_at importer) (take i imports)) (ends_at importer (slice_index_or imports i d) ∷ [])

pub account_more : (first : Name → Name) (accounts : List NamedAccount) (i : ℕ) (d : NamedAccount) → i < length accounts →
    joined_by first (ends_of (take (i + 1) accounts)) ≡ joined_by (joined_by first (ends_of (take i accounts))) (ends_in (slice_index_or accounts i d))
account_more first accounts i d within =
    ap (λ l. joined_by first (ends_of l)) (take_at_read accounts i d within).1
    ∙ ap (joined_by first) (flat_map-append ends_in (take i accounts) (slice_index_or accounts i d ∷ []) ∙ ap (λ l. ends_of (take i accounts) ++ l) (append-nil (ends_in (slice_index_or accounts i d))))
    ∙ fold-append joined first (ends_of (take i accounts)) (ends_in (slice_index_or accounts i d))

pub name_read : (accounts : List NamedAccount) (i : ℕ) (d : NamedAccount) → i < length accounts → name_at (names_of accounts) i ≡ (slice_index_or accounts i d).name
name_read accounts i d within = get_or-map account_name accounts i d [] within

pub as_many_names : (accounts : List NamedAccount) → length (names_of accounts) ≡ length accounts
as_many_names accounts = length-map accounts account_name

-- the account at a place that has a name
pub named_at : (n : Name) (accounts : List NamedAccount) (i : ℕ) (d : NamedAccount) → i < length accounts → has_name n (slice_index_or accounts i d) ≡ true → name_at (names_of accounts) i ≡ n
named_at n accounts i d within has =
    name_read accounts i d within ∙ same (slice_index_or accounts i d).name n (sym (is_eq-slice_cmp (slice_index_or accounts i d).name n) ∙ has)

-- ---- sets by places

-- one account more of those whose first one is at a place
pub set_more : (accounts : List NamedAccount) (first : Name → Name) (firsts : List ℕ) (f i : ℕ) (d : NamedAccount) → IsByName accounts → AreFirsts (names_of accounts) first firsts → f < length accounts → i < length accounts →
    set_of first (names_of (take (i + 1) accounts)) (name_at (names_of accounts) f) ≡ set_of first (names_of (take i accounts)) (name_at (names_of accounts) f) ++ cond (slice_index firsts i == f) ((slice_index_or accounts i d).name ∷ []) []
set_more accounts first firsts f i d sorted are f_within within =
    let names : List Name = names_of accounts in
    let many : length names ≡ length accounts = as_many_names accounts in
    let at = are.each i (omega (arith, many, within)) in
    let test : bytes_eq (first (slice_index_or accounts i d).name) (name_at names f) ≡ (slice_index firsts i == f) =
    ap (λ n. bytes_eq (first n) (name_at names f)) (sym (name_read accounts i d within)) ∙ ap (λ n. bytes_eq n (name_at names f)) (sym at.named)
    ∙ alike_at names (slice_index firsts i) f sorted at.within (omega (arith, many, f_within)) in
    ap (λ l. set_of first (names_of l) (name_at names f)) (take_at_read accounts i d within).1
    ∙ ap (λ l. set_of first l (name_at names f)) (map-append account_name (take i accounts) (slice_index_or accounts i d ∷ []))
    ∙ filter-append (λ n. bytes_eq (first n) (name_at names f)) (names_of (take i accounts)) ((slice_index_or accounts i d).name ∷ [])
    ∙ ap (λ b. set_of first (names_of (take i accounts)) (name_at names f) ++ cond b ((slice_index_or accounts i d).name ∷ []) []) test

-- one account more of those that are their own first ones
pub heads_more : (accounts : List NamedAccount) (first : Name → Name) (firsts : List ℕ) (i : ℕ) → IsByName accounts → AreFirsts (names_of accounts) first firsts → i < length accounts →
    filter (λ n. bytes_eq (first n) n) (take (i + 1) (names_of accounts)) ≡ filter (λ n. bytes_eq (first n) n) (take i (names_of accounts)) ++ cond (slice_index firsts i == i) (name_at (names_of accounts) i ∷ []) []
heads_more accounts first firsts i sorted are within =
    let names : List Name = names_of accounts in
    let many : length names ≡ length accounts = as_many_names accounts in
    let inside : i < length names = omega (arith, many, within) in
    let at = are.each i inside in
    let test : bytes_eq (first (name_at names i)) (name_at names i) ≡ (slice_index firsts i == i) =
    ap (λ n. bytes_eq n (name_at names i)) (sym at.named) ∙ alike_at names (slice_index firsts i) i sorted at.within inside in
    ap (filter (λ n. bytes_eq (first n) n)) (take_at_read names i [] inside).1
    ∙ filter-append (λ n. bytes_eq (first n) n) (take i names) (name_at names i ∷ [])
    ∙ ap (λ b. filter (λ n. bytes_eq (first n) n) (take i names) ++ cond b (name_at names i ∷ []) []) test

pub sets_more : (accounts : List NamedAccount) (first : Name → Name) (firsts : List ℕ) (i : ℕ) → IsByName accounts → AreFirsts (names_of accounts) first firsts → i < length accounts →
    map (set_of first (names_of accounts)) (filter (λ n. bytes_eq (first n) n) (take (i + 1) (names_of accounts)))
    ≡ map (set_of first (names_of accounts)) (filter (λ n. bytes_eq (first n) n) (take i (names_of accounts))) ++ cond (slice_index firsts i == i) (set_of first (names_of accounts) (name_at (names_of accounts) i) ∷ []) []
sets_more accounts first firsts i sorted are within =
    ap (map (set_of first (names_of accounts))) (heads_more accounts first firsts i sorted are within)
    ∙ map-append (set_of first (names_of accounts)) (filter (λ n. bytes_eq (first n) n) (take i (names_of accounts))) (cond (slice_index firsts i == i) (name_at (names_of accounts) i ∷ []) [])
    ∙ ap (λ l. map (set_of first (names_of accounts)) (filter (λ n. bytes_eq (first n) n) (take i (names_of accounts))) ++ l) (by (slice_index firsts i == i))
  where
    by : (b : Bool) → map (set_of first (names_of accounts)) (cond b (name_at (names_of accounts) i ∷ []) []) ≡ cond b (set_of first (names_of accounts) (name_at (names_of accounts) i) ∷ []) []
    by true = refl
    by false = refl

-- numbers up to one more
range_more : (a n : ℕ) → range_with_len a (suc n) ≡ range_with_len a n ++ (a + n) ∷ []
range_more a zero = let e : a ≡ a + 0 = omega arith in ap (λ k. k ∷ []) e
range_more a (suc n) =
    let e : a + 1 + n ≡ a + suc n = omega arith in
    ap (λ l. a ∷ l) (range_more (a + 1) n ∙ ap (λ k. range_with_len (a + 1) n ++ k ∷ []) e)

pub one_more : (n : ℕ) → range_with_len 0 (n + 1) ≡ range_with_len 0 n ++ n ∷ []
one_more n =
    let e : n + 1 ≡ suc n = omega arith in
    let f : 0 + n ≡ n = omega arith in
    ap (range_with_len 0) e ∙ range_more 0 n ∙ ap (λ k. range_with_len 0 n ++ k ∷ []) f

-- an account that has nothing
pub no_account : NamedAccount
no_account = record { name = []; account = record { users = []; exports = []; imports = []; mappings = [] } }
