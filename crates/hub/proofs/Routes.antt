-- What always holds of response routes is kept by all that changes them.
use Rattle.std.proofs.Common.{◌≡◌, ◌||◌, ◌+◌, ◌-◌, ◌<◌, ◌≤◌, ℕ, suc, zero, Bool, true, false, not, cond, List, [], ◌∷◌, length, get_or, Option, Some, None, ap, sym, refl, arith, nat_lt}
use Rattle.std.specs.Prelude.{All, AllPairs, unwrap_or}
use Rattle.std.specs.List.{filter_map, cons_option}
use Rattle.std.specs.Map.{lookup}
use Rattle.std.specs.Option.{option_map}
use Rattle.std.proofs.lemmas.Bool.{le-leb, ltb-false}
use Rattle.std.proofs.lemmas.List.{length-append}
use Rattle.std.proofs.lemmas.List.Elements.{All-nil, All-cons, All-head, All-tail, All-push, All-map, All-filter, filter_passes}
use Rattle.std.proofs.lemmas.List.Kept.{AllPairs-filter}
use Rattle.std.proofs.lemmas.List.Quantifiers.{all_pairs_push}
use Rattle.indexmap.specs.IndexMap.{insert_entry}
use Rattle.subjects.specs.Subject.{Token}
use Rattle.policy_doc.specs.declared.exports.document.Row.{Row}
use Rattle.service_exporter.specs.Limit.{is_full}
use Rattle.service_exporter.specs.Routes.{Exporter, Numbered, no_routes, lives, living, pruned_of, with_route, ends_by, spent_of, on_row, kept_route, kept_of}
use Rattle.service_exporter.specs.declared.route.NewRow.{NewRow}
use Rattle.service_exporter.specs.declared.route.Route.{Route}
use Rattle.service_routes.specs.Routes.{Name, same_name, exporter_of, changed, opened, spent, pruned, kept}
use Rattle.world_sessions.proofs.Lists.{filter-fewer}
use Rattle.hub.specs.Routes.{IsBefore, AreRouted}
use Rattle.hub.proofs.Finds.{AllPairs-head, AllPairs-tail}
use Rattle.hub.proofs.Grants.{all_pass}

-- ---- lists

pairs-cons : {X : Type 0} (R : X → X → Type 0) (x : X) (xs : List X) → All (R x) xs → AllPairs R xs → AllPairs R (x ∷ xs)
pairs-cons {X} R x xs first pairs i j d below within = here i j below within
  where
    here : (i j : ℕ) → i < j → j < length (x ∷ xs) → R (get_or (x ∷ xs) i d) (get_or (x ∷ xs) j d)
    here zero zero below within = absurd (omega (arith, below))
    here zero (suc j) below within = first j d (omega (arith, within))
    here (suc i) zero below within = absurd (omega (arith, below))
    here (suc i) (suc j) below within = pairs i j d (omega (arith, below)) (omega (arith, within))

-- what a function gives of elements, if it gives anything
module _ {X Y : Type 0} (h : X → Option Y) where
  pub given-All : (P : X → Type 0) (Q : Y → Type 0) → ((x : X) (y : Y) → h x ≡ Some y → P x → Q y) → (xs : List X) → All P xs → All Q (filter_map h xs)
  given-All P Q gives [] all = All-nil Q
  given-All P Q gives (x ∷ xs) all = here (h x) refl (given-All P Q gives xs (All-tail P x xs all))
    where
      here : (o : Option Y) → h x ≡ o → All Q (filter_map h xs) → All Q (cons_option o (filter_map h xs))
      here None e later = later
      here (Some y) e later = All-cons Q y (filter_map h xs) (gives x y e (All-head P x xs all)) later

  given-pairs : (R : X → X → Type 0) (S : Y → Y → Type 0) → ((x u : X) (y v : Y) → h x ≡ Some y → h u ≡ Some v → R x u → S y v) → (xs : List X) → AllPairs R xs → AllPairs S (filter_map h xs)
  given-pairs R S gives [] pairs = λ i j d below within. absurd (omega (arith, within))
  given-pairs R S gives (x ∷ xs) pairs = here (h x) refl (given-pairs R S gives xs (AllPairs-tail R x xs pairs))
    where
      here : (o : Option Y) → h x ≡ o → AllPairs S (filter_map h xs) → AllPairs S (cons_option o (filter_map h xs))
      here None e later = later
      here (Some y) e later = pairs-cons S y (filter_map h xs) (given-All (R x) (S y) (λ u v g r. gives x u y v e g r) xs (AllPairs-head R x xs pairs)) later

  given-fewer : (xs : List X) → length (filter_map h xs) ≤ length xs
  given-fewer [] = omega arith
  given-fewer (x ∷ xs) = here (h x) (given-fewer xs)
    where
      here : (o : Option Y) → length (filter_map h xs) ≤ length xs → length (cons_option o (filter_map h xs)) ≤ length (x ∷ xs)
      here None later = omega (arith, later)
      here (Some y) later = omega (arith, later)

-- ---- one exporter

abbrev IsPast : ℕ → Numbered → Type 0
IsPast now r = r.1.noted ≤ now

abbrev IsAlive : ℕ → Numbered → Type 0
IsAlive now r = lives now r.1 ≡ true

abbrev IsGiven : ℕ → Numbered → Type 0
IsGiven last r = r.0 ≤ last

routed_none : (now : ℕ) → AreRouted now no_routes
routed_none now = record {
  few = omega arith;
  last = omega arith;
  given = All-nil (IsGiven 0);
  rising = λ i j d below within. absurd (omega (arith, within));
  past = All-nil (IsPast now);
  living = All-nil (IsAlive now);
}

-- all but that each lives
record AreOrdered (now : ℕ) (e : Exporter) : Type 0 where
  pub few : length e.routes ≤ 65536
  pub last : e.last ≤ 18446744073709551615
  pub given : All (IsGiven e.last) e.routes
  pub rising : AllPairs IsBefore e.routes
  pub past : All (IsPast now) e.routes

ordered : (now : ℕ) (e : Exporter) → AreRouted now e → AreOrdered now e
ordered now e is = record { few = is.few; last = is.last; given = is.given; rising = is.rising; past = is.past }

routed_pruned : (now later : ℕ) (e : Exporter) → now ≤ later → AreOrdered now e → AreRouted later (pruned_of later e)
routed_pruned now later e le is = record {
  few = let f = filter-fewer alive e.routes in let h = is.few in omega (arith, f, h);
  last = is.last;
  given = All-filter alive (IsGiven e.last) e.routes is.given;
  rising = AllPairs-filter IsBefore alive e.routes is.rising;
  past = All-filter alive (IsPast later) e.routes (λ k d h. let p = is.past k d h in omega (arith, p, le));
  living = filter_passes alive e.routes;
}
  where
    alive : Numbered → Bool
    alive r = lives later r.1

or-front : (a b : Bool) → (a || b) ≡ false → a ≡ false
or-front true b h = absurd (cc)
or-front false b h = refl

or-back : (a b : Bool) → (a || b) ≡ false → b ≡ false
or-back true b h = absurd (cc)
or-back false b h = h

routed_more : (now : ℕ) (r : Route) (e : Exporter) → AreRouted now e → is_full 1 now e ≡ false → lives now r ≡ true → r.noted ≤ now → AreRouted now (with_route r e)
routed_more now r e is room alive noted = record {
  few = let l = length-append e.routes ((e.last + 1, r) ∷ []) in omega (arith, l, live, ap (λ (rs : List Numbered). length rs) all_live);
  last = next;
  given = All-push (IsGiven (e.last + 1)) e.routes (e.last + 1, r) (λ k d h. let g = is.given k d h in omega (arith, g)) (omega arith);
  rising = all_pairs_push IsBefore e.routes (e.last + 1, r) is.rising (λ k d h. let g = is.given k d h in omega (arith, g));
  past = All-push (IsPast now) e.routes (e.last + 1, r) is.past noted;
  living = All-push (IsAlive now) e.routes (e.last + 1, r) is.living alive;
}
  where
    all_live : living now e.routes ≡ e.routes
    all_live = all_pass (λ (x : Numbered). lives now x.1) e.routes is.living

    live : length (living now e.routes) + 1 ≤ 65536
    live = ltb-false 65536 (length (living now e.routes) + 1) (or-front (nat_lt 65536 (length (living now e.routes) + 1)) (nat_lt 18446744073709551615 (e.last + 1)) room)

    next : e.last + 1 ≤ 18446744073709551615
    next = ltb-false 18446744073709551615 (e.last + 1) (or-back (nat_lt 65536 (length (living now e.routes) + 1)) (nat_lt 18446744073709551615 (e.last + 1)) room)

routed_spent : (now : ℕ) (s : List Token) (e : Exporter) → AreRouted now e → AreRouted now (spent_of s e)
routed_spent now s e is = record {
  few = let f = filter-fewer stays e.routes in let h = is.few in omega (arith, f, h);
  last = is.last;
  given = All-filter stays (IsGiven e.last) e.routes is.given;
  rising = AllPairs-filter IsBefore stays e.routes is.rising;
  past = All-filter stays (IsPast now) e.routes is.past;
  living = All-filter stays (IsAlive now) e.routes is.living;
}
  where
    stays : Numbered → Bool
    stays r = not (ends_by s r)

-- a route on its new row has the number and the moment that it had
record IsAgain (r n : Numbered) : Type 0 where
  pub number : n.0 ≡ r.0
  pub noted : n.1.noted ≡ r.1.noted

again-is : (again : Row → Option NewRow) (r n : Numbered) → kept_route again r ≡ Some n → IsAgain r n
again-is again r n = here (again r.1.row)
  where
    here : (o : Option NewRow) → option_map (λ new. let x : Numbered = (r.0, on_row r.1 new) in x) o ≡ Some n → IsAgain r n
    here None e = absurd (cc)
    here (Some new) e =
        let x : Numbered = (r.0, on_row r.1 new) in
        let same : x ≡ n = cc in
        record { number = ap (λ (y : Numbered). y.0) (sym same); noted = ap (λ (y : Numbered). y.1.noted) (sym same) }

ordered_kept : (now : ℕ) (again : Row → Option NewRow) (e : Exporter) → AreRouted now e → AreOrdered now (kept_of again e)
ordered_kept now again e is = record {
  few = let f = given-fewer (kept_route again) e.routes in let h = is.few in omega (arith, f, h);
  last = is.last;
  given = given-All (kept_route again) (IsGiven e.last) (IsGiven e.last) (λ r n g le. let same = (again-is again r n g).number in omega (arith, le, same)) e.routes is.given;
  rising = given-pairs (kept_route again) IsBefore IsBefore (λ r u n v g k below. let one = (again-is again r n g).number in let two = (again-is again u v k).number in omega (arith, below, one, two)) e.routes is.rising;
  past = given-All (kept_route again) (IsPast now) (IsPast now) (λ r n g le. let same = (again-is again r n g).noted in omega (arith, le, same)) e.routes is.past;
}

-- ---- all of them

abbrev pub EachRouted : ℕ → List (Name × Exporter) → Type 0
EachRouted now all = All (λ (e : Name × Exporter). AreRouted now e.1) all

routed_of : (now : ℕ) (name : Name) (all : List (Name × Exporter)) → EachRouted now all → AreRouted now (exporter_of name all)
routed_of now name [] is = routed_none now
routed_of now name (e ∷ all) is = here (same_name name e.0) (routed_of now name all (All-tail (λ (x : Name × Exporter). AreRouted now x.1) e all is))
  where
    here : (b : Bool) → AreRouted now (exporter_of name all) → AreRouted now (unwrap_or (cond b (Some e.1) (lookup (same_name name) all)) no_routes)
    here true later = All-head (λ (x : Name × Exporter). AreRouted now x.1) e all is
    here false later = later

routed_inserted : (now : ℕ) (name : Name) (x : Exporter) (all : List (Name × Exporter)) → AreRouted now x → EachRouted now all → EachRouted now (insert_entry same_name all name x)
routed_inserted now name x [] new is = All-cons (λ (y : Name × Exporter). AreRouted now y.1) (name, x) [] new is
routed_inserted now name x (e ∷ all) new is = here (same_name name e.0) (routed_inserted now name x all new rest)
  where
    P : Name × Exporter → Type 0
    P y = AreRouted now y.1

    rest : EachRouted now all
    rest = All-tail P e all is

    here : (b : Bool) → EachRouted now (insert_entry same_name all name x) → EachRouted now (cond b ((e.0, x) ∷ all) (e ∷ insert_entry same_name all name x))
    here true later = All-cons P (e.0, x) all new rest
    here false later = All-cons P e (insert_entry same_name all name x) (All-head P e all is) later

-- a route is opened now
pub routed-opened : (now : ℕ) (name : Name) (r : Route) (all : List (Name × Exporter)) → r.noted ≡ now → is_full 1 now (exporter_of name all) ≡ false → EachRouted now all → EachRouted now (opened name r all)
routed-opened now name r all noted room is =
    routed_inserted now name (with_route r (exporter_of name all)) all
    (routed_more now r (exporter_of name all) (routed_of now name all is) room (le-leb (now - r.noted) r.terms.ttl (omega (arith, noted))) (omega (arith, noted))) is

-- a response is published
pub routed-spent : (now : ℕ) (name : Name) (s : List Token) (all : List (Name × Exporter)) → EachRouted now all → EachRouted now (spent name s all)
routed-spent now name s [] is = is
routed-spent now name s (e ∷ all) is = here (same_name name e.0) (routed-spent now name s all rest)
  where
    P : Name × Exporter → Type 0
    P y = AreRouted now y.1

    rest : EachRouted now all
    rest = All-tail P e all is

    here : (b : Bool) → EachRouted now (changed name (spent_of s) all) → EachRouted now (cond b ((e.0, spent_of s e.1) ∷ all) (e ∷ changed name (spent_of s) all))
    here true later = All-cons P (e.0, spent_of s e.1) all (routed_spent now s e.1 (All-head P e all is)) rest
    here false later = All-cons P e (changed name (spent_of s) all) (All-head P e all is) later

-- the clock goes on
pub routed-pruned : (now later : ℕ) (all : List (Name × Exporter)) → now ≤ later → EachRouted now all → EachRouted later (pruned later all)
routed-pruned now later all le is =
    All-map (λ (y : Name × Exporter). AreRouted later y.1) (λ (e : Name × Exporter). let x : Name × Exporter = (e.0, pruned_of later e.1) in x) all
    (λ k d h. let e : Name × Exporter = get_or all k d in routed_pruned now later e.1 le (ordered now e.1 (is k d h)))

-- another policy comes into force
pub routed-kept : (now : ℕ) (again : Row → Option NewRow) (all : List (Name × Exporter)) → EachRouted now all → EachRouted now (pruned now (kept again all))
routed-kept now again all is =
    All-map P prune (kept again all)
    (All-map (λ (e : Name × Exporter). P (prune e)) keep all
    (λ k d h. let e : Name × Exporter = get_or all k d in routed_pruned now now (kept_of again e.1) (omega arith) (ordered_kept now again e.1 (is k d h))))
  where
    P : Name × Exporter → Type 0
    P y = AreRouted now y.1

    prune : Name × Exporter → Name × Exporter
    prune e = (e.0, pruned_of now e.1)

    keep : Name × Exporter → Name × Exporter
    keep e = (e.0, kept_of again e.1)
