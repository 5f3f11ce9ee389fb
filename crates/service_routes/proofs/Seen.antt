-- Routes as they are seen at a moment.
use Rattle.std.proofs.Common.{◌≡◌, ◌∙◌, ◌≤◌, ◌+◌, ◌||◌, ◌++◌, ◌∷◌, [], ℕ, Bool, true, false, cond, not, List, Some, length, filter, unwrap_or, nat_lt, ap, sym, refl, arith, true≢false}
use Rattle.std.specs.Map.{lookup}
use Rattle.std.specs.Cmp.Lexicographic.{bytes_decides}
use Rattle.std.proofs.lemmas.Bool.Decides.{nat_tests}
use Rattle.std.proofs.lemmas.List.{length-append}
use Rattle.indexmap.specs.IndexMap.{insert_entry}
use Rattle.service_exporter.specs.Limit.{is_full}
use Rattle.service_exporter.specs.Routes.{Exporter, Numbered, ends_by, living, lives, no_routes, pruned_of, spent_of, with_route}
use Rattle.service_routes.specs.Routes.{Name, changed, each, exporter_of, pruned, same_name}
use Rattle.service_routes.specs.Laws.{DeadForGood, FullByLife, FullTogether, NoneElsewhere, OpenedBySeen, OthersStay, SeenByLife, SpentBySeen}
use Rattle.service_exporter.specs.declared.route.Route.{Route}

-- ---- lists of routes

living_more : (now : ℕ) (rs : List Numbered) (n : ℕ) (r : Route) → lives now r ≡ true → living now (rs ++ (n, r) ∷ []) ≡ living now rs ++ (n, r) ∷ []
living_more now [] n r is = rw is refl
living_more now (q ∷ rs) n r is = by (lives now q.1) (living_more now rs n r is)
  where
    by : (b : Bool) → living now (rs ++ (n, r) ∷ []) ≡ living now rs ++ (n, r) ∷ [] →
        cond b (q ∷ living now (rs ++ (n, r) ∷ [])) (living now (rs ++ (n, r) ∷ [])) ≡ cond b (q ∷ living now rs) (living now rs) ++ (n, r) ∷ []
    by true later = ap (λ l. q ∷ l) later
    by false later = later

-- tests one after the other may be asked the other way round
two_tests : (p q : Numbered → Bool) (rs : List Numbered) → filter p (filter q rs) ≡ filter q (filter p rs)
two_tests p q [] = refl
two_tests p q (r ∷ rs) = by (p r) (q r) refl refl (two_tests p q rs)
  where
    by : (a b : Bool) → p r ≡ a → q r ≡ b → filter p (filter q rs) ≡ filter q (filter p rs) →
        filter p (cond b (r ∷ filter q rs) (filter q rs)) ≡ filter q (cond a (r ∷ filter p rs) (filter p rs))
    by true true e f later = rw (e, f) (ap (λ l. r ∷ l) later)
    by true false e f later = rw f later
    by false true e f later = rw e later
    by false false e f later = later

-- of tests of which the one passes where the other does, the other alone counts
weaker_test : (p q : Numbered → Bool) → ((r : Numbered) → p r ≡ true → q r ≡ true) → (rs : List Numbered) → filter p (filter q rs) ≡ filter p rs
weaker_test p q weaker [] = refl
weaker_test p q weaker (r ∷ rs) = by (p r) (q r) refl refl (weaker_test p q weaker rs)
  where
    by : (a b : Bool) → p r ≡ a → q r ≡ b → filter p (filter q rs) ≡ filter p rs → filter p (cond b (r ∷ filter q rs) (filter q rs)) ≡ cond a (r ∷ filter p rs) (filter p rs)
    by true true e f later = rw e (ap (λ l. r ∷ l) later)
    by true false e f later = absurd (true≢false (sym (weaker r e) ∙ f))
    by false true e f later = rw e later
    by false false e f later = later

lived : (m n : ℕ) → m ≤ n → (r : Route) → lives n r ≡ true → lives m r ≡ true
lived m n le r h = grind (arith, nat_tests, le, h)

living_later : (m n : ℕ) → m ≤ n → (rs : List Numbered) → living n (living m rs) ≡ living n rs
living_later m n le rs = weaker_test (λ (r : Numbered). lives n r.1) (λ (r : Numbered). lives m r.1) (λ r h. lived m n le r.1 h) rs

-- ---- look-ups

looked : (f : Exporter → Exporter) (name : Name) → f no_routes ≡ no_routes → (all : List (Name × Exporter)) → exporter_of name (each f all) ≡ f (exporter_of name all)
looked f name none [] = sym none
looked f name none (e ∷ all) = by (same_name name e.0) (looked f name none all)
  where
    by : (b : Bool) → exporter_of name (each f all) ≡ f (exporter_of name all) →
        unwrap_or (cond b (Some (f e.1)) (lookup (same_name name) (each f all))) no_routes ≡ f (unwrap_or (cond b (Some e.1) (lookup (same_name name) all)) no_routes)
    by true later = refl
    by false later = later

pub seen : SeenByLife
seen now name all = looked (pruned_of now) name refl all

pub full : FullByLife
full now count e = ap (λ (rs : List Numbered). nat_lt 65536 (length rs + count) || nat_lt 18446744073709551615 (e.last + count)) (living_later now now (let le : now ≤ now = omega arith in le) e.routes)

-- ---- one exporter changed

inserted : (f : Exporter → Exporter) (name : Name) (x : Exporter) (all : List (Name × Exporter)) → each f (insert_entry same_name all name x) ≡ insert_entry same_name (each f all) name (f x)
inserted f name x [] = refl
inserted f name x (e ∷ all) = by (same_name name e.0) (inserted f name x all)
  where
    by : (b : Bool) → each f (insert_entry same_name all name x) ≡ insert_entry same_name (each f all) name (f x) →
        each f (cond b ((e.0, x) ∷ all) (e ∷ insert_entry same_name all name x)) ≡ cond b ((e.0, f x) ∷ each f all) ((e.0, f e.1) ∷ insert_entry same_name (each f all) name (f x))
    by true later = refl
    by false later = ap (λ l. (e.0, f e.1) ∷ l) later

pub opens : OpenedBySeen
opens now name r all is =
    let x = exporter_of name all in
    let more : pruned_of now (with_route r x) ≡ with_route r (pruned_of now x) = ap (λ (rs : List Numbered). record { last = x.last + 1; routes = rs }) (living_more now x.routes (x.last + 1) r is) in
    inserted (pruned_of now) name (with_route r x) all
    ∙ ap (insert_entry same_name (pruned now all) name) (more ∙ ap (with_route r) (sym (seen now name all)))

changes : (f g : Exporter → Exporter) (name : Name) → ((x : Exporter) → f (g x) ≡ g (f x)) → (all : List (Name × Exporter)) → each f (changed name g all) ≡ changed name g (each f all)
changes f g name turns [] = refl
changes f g name turns (e ∷ all) = by (same_name name e.0) (changes f g name turns all)
  where
    by : (b : Bool) → each f (changed name g all) ≡ changed name g (each f all) →
        each f (cond b ((e.0, g e.1) ∷ all) (e ∷ changed name g all)) ≡ cond b ((e.0, g (f e.1)) ∷ each f all) ((e.0, f e.1) ∷ changed name g (each f all))
    by true later = ap (λ x. (e.0, x) ∷ each f all) (turns e.1)
    by false later = ap (λ l. (e.0, f e.1) ∷ l) later

pub spends : SpentBySeen
spends now name s all =
    changes (pruned_of now) (spent_of s) name
    (λ x. ap (λ (rs : List Numbered). record { last = x.last; routes = rs }) (two_tests (λ (r : Numbered). lives now r.1) (λ (r : Numbered). not (ends_by s r)) x.routes)) all

pub dead : DeadForGood
dead m n [] le = refl
dead m n (e ∷ all) le =
    ap (λ (rs : List Numbered). (e.0, record { last = e.1.last; routes = rs }) ∷ pruned n (pruned m all)) (living_later m n le e.1.routes)
    ∙ ap (λ l. (e.0, pruned_of n e.1) ∷ l) (dead m n all le)

-- ---- several routes

pub entered : (name : Name) (x : Exporter) (all : List (Name × Exporter)) → exporter_of name (insert_entry same_name all name x) ≡ x
entered name x [] = rw ((bytes_decides name name).1 refl) refl
entered name x (e ∷ all) = by (same_name name e.0) refl (entered name x all)
  where
    by : (b : Bool) → same_name name e.0 ≡ b → exporter_of name (insert_entry same_name all name x) ≡ x → exporter_of name (cond b ((e.0, x) ∷ all) (e ∷ insert_entry same_name all name x)) ≡ x
    by true is later = rw is refl
    by false is later = rw is later

pub others : OthersStay
others name other r all apart = by all
  where
    x : Exporter
    x = with_route r (exporter_of name all)

    by : (es : List (Name × Exporter)) → exporter_of other (insert_entry same_name es name x) ≡ exporter_of other es
    by [] = let unlike : same_name other name ≡ false = turned (same_name other name) refl in rw unlike refl
      where
        turned : (b : Bool) → same_name other name ≡ b → b ≡ false
        turned false is = refl
        turned true is = absurd (true≢false (sym ((bytes_decides name other).1 (sym ((bytes_decides other name).0 is))) ∙ apart))
    by (e ∷ es) = here (same_name name e.0) refl (by es)
      where
        differs : same_name name e.0 ≡ true → (b : Bool) → same_name other e.0 ≡ b → b ≡ false
        differs is false h = refl
        differs is true h = absurd (true≢false (sym ((bytes_decides name other).1 ((bytes_decides name e.0).0 is ∙ sym ((bytes_decides other e.0).0 h))) ∙ apart))

        here : (b : Bool) → same_name name e.0 ≡ b → exporter_of other (insert_entry same_name es name x) ≡ exporter_of other es →
            exporter_of other (cond b ((e.0, x) ∷ es) (e ∷ insert_entry same_name es name x)) ≡ exporter_of other (e ∷ es)
        here true is later = let unlike : same_name other e.0 ≡ false = differs is (same_name other e.0) refl in rw unlike refl
        here false is later = behind (same_name other e.0) later
          where
            behind : (b : Bool) → exporter_of other (insert_entry same_name es name x) ≡ exporter_of other es →
                unwrap_or (cond b (Some e.1) (lookup (same_name other) (insert_entry same_name es name x))) no_routes ≡ unwrap_or (cond b (Some e.1) (lookup (same_name other) es)) no_routes
            behind true later = refl
            behind false later = later

one_more : (live last count : ℕ) → (nat_lt 65536 ((live + 1) + count) || nat_lt 18446744073709551615 ((last + 1) + count)) ≡ (nat_lt 65536 (live + (count + 1)) || nat_lt 18446744073709551615 (last + (count + 1)))
one_more live last count =
    let a : (live + 1) + count ≡ live + (count + 1) = omega arith in
    let b : (last + 1) + count ≡ last + (count + 1) = omega arith in
    ap (λ n. nat_lt 65536 n || nat_lt 18446744073709551615 ((last + 1) + count)) a ∙ ap (λ n. nat_lt 65536 (live + (count + 1)) || nat_lt 18446744073709551615 n) b

pub together : FullTogether
together now count name r all is =
    let x = exporter_of name all in
    ap (is_full count now) (entered name (with_route r x) all)
    ∙ ap (λ n. nat_lt 65536 (n + count) || nat_lt 18446744073709551615 ((x.last + 1) + count)) (ap length (living_more now x.routes (x.last + 1) r is) ∙ length-append (living now x.routes) ((x.last + 1, r) ∷ []))
    ∙ one_more (length (living now x.routes)) x.last count

-- ---- subjects without a route

pub none : NoneElsewhere
none t ts [] other = refl
none t ts (r ∷ rs) other = rw other (none t ts rs other)
