-- Response routes that are opened in turn, or ended.
use Rattle.std.proofs.Common.{◌≡◌, ◌∙◌, ◌≤◌, ◌<◌, ◌+◌, ◌-◌, zero, length, take, drop, ◌&&◌, ◌++◌, ◌∷◌, [], ℕ, suc, Bool, true, false, cond, not, List, Some, None, All, filter, ap, sym, refl, subst, arith}
use Rattle.std.specs.Cmp.Lexicographic.{bytes_decides}
use Rattle.std.proofs.lemmas.Bool.Decides.{nat_tests}
use Rattle.std.proofs.lemmas.List.Elements.{All-head, All-tail}
use Rattle.subjects.specs.Subject.{Token}
use Rattle.policy_ready.specs.imports.Views.{is_route}
use Rattle.service_exporter.specs.service_subjects.Names.{is_on}
use Rattle.service_exporter.specs.Limit.{is_full}
use Rattle.service_exporter.specs.Routes.{Exporter, Numbered, ends_by, lives, route_on, spent_of}
use Rattle.service_exporter.specs.declared.route.Route.{Route}
use Rattle.service_routes.specs.Routes.{Name, Table, changed, exporter_of, opened, pruned, room_for, same_name, spent}
use Rattle.service_routes.proofs.Seen.{entered, full, none, opens, others, seen, together}
use Rattle.world_views.specs.Changing.{count_of, opened_each, HaveRoom, IsNotedAt}
use Rattle.world_views.specs.declared.changing.Opening.{Opening}

-- a route lives at the moment at which it was noted
pub noted_lives : (now : ℕ) (r : Route) → r.noted ≡ now → lives now r ≡ true
noted_lives now r is = grind (arith, nat_tests, is)

-- openings in turn
pub opened_append : (os more : List Opening) (all : List (Name × Exporter)) → opened_each (os ++ more) all ≡ opened_each more (opened_each os all)
opened_append [] more all = refl
opened_append (o ∷ os) more all = opened_append os more (opened o.exporter o.route all)

-- what is seen of routes that were opened is what was seen before, and these
pub opened_seen : (now : ℕ) (os : List Opening) (all : List (Name × Exporter)) → All (IsNotedAt now) os → pruned now (opened_each os all) ≡ opened_each os (pruned now all)
opened_seen now [] all noted = refl
opened_seen now (o ∷ os) all noted =
    opened_seen now os (opened o.exporter o.route all) (All-tail (IsNotedAt now) o os noted)
    ∙ ap (opened_each os) (opens now o.exporter o.route all (noted_lives now o.route (All-head (IsNotedAt now) o os noted)))

-- ---- how many an exporter has

pub full_after : (now k : ℕ) (name : Name) (os : List Opening) (all : List (Name × Exporter)) → All (IsNotedAt now) os →
    is_full k now (exporter_of name (opened_each os all)) ≡ is_full (k + count_of name os) now (exporter_of name all)
full_after now k name [] all noted = let same : k ≡ k + 0 = omega arith in ap (λ n. is_full n now (exporter_of name all)) same
full_after now k name (o ∷ os) all noted =
    full_after now k name os (opened o.exporter o.route all) (All-tail (IsNotedAt now) o os noted) ∙ one (same_name o.exporter name) refl
  where
    n : ℕ
    n = count_of name os

    lives_now : lives now o.route ≡ true
    lives_now = noted_lives now o.route (All-head (IsNotedAt now) o os noted)

    one : (b : Bool) → same_name o.exporter name ≡ b →
        is_full (k + n) now (exporter_of name (opened o.exporter o.route all)) ≡ is_full (k + cond b (suc n) n) now (exporter_of name all)
    one true is =
        let more : (k + n) + 1 ≡ k + suc n = omega arith in
        ap (λ (x : Name). is_full (k + n) now (exporter_of name (opened x o.route all))) ((bytes_decides o.exporter name).0 is)
        ∙ together now (k + n) name o.route all lives_now
        ∙ ap (λ j. is_full j now (exporter_of name all)) more
    one false is = ap (is_full (k + n) now) (others o.exporter name o.route all is)

pub last_after : (name : Name) (os : List Opening) (all : List (Name × Exporter)) → (exporter_of name (opened_each os all)).last ≡ (exporter_of name all).last + count_of name os
last_after name [] all = omega arith
last_after name (o ∷ os) all = last_after name os (opened o.exporter o.route all) ∙ one (same_name o.exporter name) refl
  where
    n : ℕ
    n = count_of name os

    one : (b : Bool) → same_name o.exporter name ≡ b → (exporter_of name (opened o.exporter o.route all)).last + n ≡ (exporter_of name all).last + cond b (suc n) n
    one true is =
        let more : ((exporter_of name all).last + 1) + n ≡ (exporter_of name all).last + suc n = omega arith in
        ap (λ (x : Name). (exporter_of name (opened x o.route all)).last + n) ((bytes_decides o.exporter name).0 is)
        ∙ ap (λ (e : Exporter). e.last + n) (entered name _ all)
        ∙ more
    one false is = ap (λ (e : Exporter). e.last + n) (others o.exporter name o.route all is)

-- whether it is full with more goes by what is seen
pub full_seen : (now k : ℕ) (name : Name) (all : List (Name × Exporter)) → is_full k now (exporter_of name (pruned now all)) ≡ is_full k now (exporter_of name all)
full_seen now k name all = ap (is_full k now) (seen now name all) ∙ full now k (exporter_of name all)

-- whether the exporter is full for one more goes by those that are opened before
pub full_for_next : (now k : ℕ) (name : Name) (os : List Opening) (all : List (Name × Exporter)) (b : Bool) → All (IsNotedAt now) os → k ≡ count_of name os →
    is_full (k + 1) now (exporter_of name all) ≡ b → is_full 1 now (exporter_of name (opened_each os (pruned now all))) ≡ b
full_for_next now k name os all b noted count is =
    full_after now 1 name os (pruned now all) noted
    ∙ full_seen now (1 + count_of name os) name all
    ∙ ap (λ j. is_full j now (exporter_of name all)) (let e : 1 + count_of name os ≡ k + 1 = omega (arith, count) in e)
    ∙ is

pub last_seen : (now : ℕ) (name : Name) (all : List (Name × Exporter)) → (exporter_of name (pruned now all)).last ≡ (exporter_of name all).last
last_seen now name all = ap (λ (e : Exporter). e.last) (seen now name all)

-- with fewer it isn't full either, where it isn't with more
pub less_full : (now j k : ℕ) (e : Exporter) → j ≤ k → is_full k now e ≡ false → is_full j now e ≡ false
less_full now j k e le is = grind (arith, nat_tests, le, is)

-- and its numbers have an end
pub number_within : (now k : ℕ) (e : Exporter) → is_full k now e ≡ false → e.last + k ≤ 18446744073709551615
number_within now k e is = grind (arith, nat_tests, is)

-- ---- subjects without a route

none_on_none : (rs : List Numbered) → route_on [] rs ≡ None
none_on_none [] = refl
none_on_none (r ∷ rs) = none_on_none rs

pub routes_elsewhere : (s : List Token) (rs : List Numbered) → is_route s ≡ false → route_on s rs ≡ None
routes_elsewhere [] rs other = none_on_none rs
routes_elsewhere (t ∷ ts) rs other = none t ts rs other

-- a response ends nothing where no route has its subject
unended_by : (s : List Token) (rs : List Numbered) → route_on s rs ≡ None → filter (λ (r : Numbered). not (ends_by s r)) rs ≡ rs
unended_by s [] is = refl
unended_by s (r ∷ rs) is = by (is_on s r.0 r.1.word) r.1.terms.single is (unended_by s rs)
  where
    rest : List Numbered
    rest = filter (λ (r : Numbered). not (ends_by s r)) rs

    by : (b c : Bool) → cond b (Some r.1) (route_on s rs) ≡ None → (route_on s rs ≡ None → rest ≡ rs) → cond (not (c && b)) (r ∷ rest) rest ≡ r ∷ rs
    by true c is later = absurd (cc)
    by false true is later = ap (λ l. r ∷ l) (later is)
    by false false is later = ap (λ l. r ∷ l) (later is)

pub spent_none : (name : Name) (s : List Token) (all : List (Name × Exporter)) → route_on s (exporter_of name all).routes ≡ None → spent name s all ≡ all
spent_none name s [] is = refl
spent_none name s (e ∷ all) is = by (same_name name e.0) refl (spent_none name s all)
  where
    by : (b : Bool) → same_name name e.0 ≡ b → (route_on s (exporter_of name all).routes ≡ None → spent name s all ≡ all) →
        cond b ((e.0, spent_of s e.1) ∷ all) (e ∷ changed name (spent_of s) all) ≡ e ∷ all
    by true same later =
        let own : route_on s e.1.routes ≡ None = rw same at is in
        ap (λ (rs : List Numbered). (e.0, record { last = e.1.last; routes = rs }) ∷ all) (unended_by s e.1.routes own)
    by false same later = let other : route_on s (exporter_of name all).routes ≡ None = rw same at is in ap (λ l. e ∷ l) (later other)

-- a response of which nothing is seen ends nothing
pub spent_elsewhere : (name : Name) (s : List Token) (all : List (Name × Exporter)) → is_route s ≡ false → spent name s all ≡ all
spent_elsewhere name s all other = spent_none name s all (routes_elsewhere s (exporter_of name all).routes other)

-- ---- room

-- room for one more, where there is room for the others
pub room_more : (now : ℕ) (o : Opening) (os : List Opening) (old new : Table) → HaveRoom now os old → new.exporters ≡ old.exporters → ((name : Name) → room_for name old ≤ room_for name new) →
    count_of o.exporter (o ∷ os) ≤ room_for o.exporter new → is_full (count_of o.exporter (o ∷ os)) now (exporter_of o.exporter old.exporters) ≡ false → HaveRoom now (o ∷ os) new
room_more now o os old new rest same more room within = λ name. by name (same_name o.exporter name) refl
  where
    Fits : Name → ℕ → List (Name × Exporter) → Type 0
    Fits name n all = (n ≤ room_for name new) × (0 < n → is_full n now (exporter_of name all) ≡ false)

    own : (name : Name) → o.exporter ≡ name → (count_of name (o ∷ os) ≤ room_for name new) × (0 < count_of name (o ∷ os) → is_full (count_of name (o ∷ os)) now (exporter_of name new.exporters) ≡ false)
    own name is = subst (λ (x : Name). Fits x (count_of x (o ∷ os)) new.exporters) is
        (subst (λ (all : List (Name × Exporter)). Fits o.exporter (count_of o.exporter (o ∷ os)) all) (sym same) (room, λ some. within))

    by : (name : Name) (b : Bool) → same_name o.exporter name ≡ b → Fits name (count_of name (o ∷ os)) new.exporters
    by name true is = own name ((bytes_decides o.exporter name).0 is)
    by name false is =
        let n : ℕ = count_of name os in
        let left = rest name in
        let enough = more name in
        rw is (subst (λ (all : List (Name × Exporter)). Fits name n all) (sym same) ((omega (arith, left.0, enough)), left.1))

-- and once that one is opened, there is room for the others
pub room_left : (now : ℕ) (o : Opening) (os : List Opening) (old new : Table) → HaveRoom now (o ∷ os) old → IsNotedAt now o →
    pruned now new.exporters ≡ pruned now (opened o.exporter o.route old.exporters) →
    ((name : Name) → room_for name old ≤ room_for name new + cond (same_name o.exporter name) 1 0) → HaveRoom now os new
room_left now o os old new had noted same room = λ name. by name (same_name o.exporter name) refl
  where
    r : Route
    r = o.route

    -- what an exporter had, by whether the route is its own
    Had : Name → Bool → Type 0
    Had name b =
        (cond b (suc (count_of name os)) (count_of name os) ≤ room_for name old)
        × (0 < cond b (suc (count_of name os)) (count_of name os) → is_full (cond b (suc (count_of name os)) (count_of name os)) now (exporter_of name old.exporters) ≡ false)

    full_same : (n : ℕ) (name : Name) → is_full n now (exporter_of name new.exporters) ≡ is_full n now (exporter_of name (opened o.exporter r old.exporters))
    full_same n name =
        sym (full_seen now n name new.exporters) ∙ ap (λ (all : List (Name × Exporter)). is_full n now (exporter_of name all)) same
        ∙ full_seen now n name (opened o.exporter r old.exporters)

    by : (name : Name) (b : Bool) → same_name o.exporter name ≡ b →
        (count_of name os ≤ room_for name new) × (0 < count_of name os → is_full (count_of name os) now (exporter_of name new.exporters) ≡ false)
    by name true is =
        let n : ℕ = count_of name os in
        let had_own : Had name true = subst (Had name) is (had name) in
        let taken : room_for name old ≤ room_for name new + 1 = subst (λ b. room_for name old ≤ room_for name new + cond b 1 0) is (room name) in
        let some : 0 < suc n = omega arith in
        let one : n + 1 ≡ suc n = omega arith in (
          (omega (arith, had_own.0, taken)),
          λ more. full_same n name
              ∙ ap (λ (x : Name). is_full n now (exporter_of name (opened x r old.exporters))) ((bytes_decides o.exporter name).0 is)
              ∙ together now n name r old.exporters (noted_lives now r noted)
              ∙ ap (λ k. is_full k now (exporter_of name old.exporters)) one
              ∙ had_own.1 some,
        )
    by name false is =
        let n : ℕ = count_of name os in
        let had_other : Had name false = subst (Had name) is (had name) in
        let taken : room_for name old ≤ room_for name new + 0 = subst (λ b. room_for name old ≤ room_for name new + cond b 1 0) is (room name) in (
          (omega (arith, had_other.0, taken)),
          λ more. full_same n name ∙ ap (is_full n now) (others o.exporter name r old.exporters is) ∙ had_other.1 more,
        )

-- those from a place on are those behind it, and its own
pub from_place : (l : ℕ) (os : List Opening) → l ≤ length os → drop 1 (take (length os - l) (drop l os)) ≡ drop (l + 1) os
from_place l os within = ap (drop 1) (rest l os within) ∙ next l os
  where
    whole : (xs : List Opening) → take (length xs) xs ≡ xs
    whole [] = refl
    whole (x ∷ xs) = ap (λ more. x ∷ more) (whole xs)

    rest : (l : ℕ) (xs : List Opening) → l ≤ length xs → take (length xs - l) (drop l xs) ≡ drop l xs
    rest zero xs le = let all : length xs - zero ≡ length xs = omega arith in ap (λ n. take n xs) all ∙ whole xs
    rest (suc l) [] le = absurd (omega (arith, le))
    rest (suc l) (x ∷ xs) le =
        let fewer : length (x ∷ xs) - suc l ≡ length xs - l = omega arith in
        ap (λ n. take n (drop l xs)) fewer ∙ rest l xs (omega (arith, le))

    next : (l : ℕ) (xs : List Opening) → drop 1 (drop l xs) ≡ drop (l + 1) xs
    next zero xs = refl
    next (suc l) [] = let more : suc l + 1 ≡ suc (l + 1) = omega arith in ap (λ n. drop n []) (sym more)
    next (suc l) (x ∷ xs) = let more : suc l + 1 ≡ suc (l + 1) = omega arith in next l xs ∙ ap (λ n. drop n (x ∷ xs)) (sym more)

-- there is room for none
pub room_for_none : (now : ℕ) (t : Table) → HaveRoom now [] t
room_for_none now t = λ name. ((omega arith), λ some. absurd (omega (arith, some)))

-- the first has room, and its exporter hasn't all its routes
pub first_own : (o : Opening) (os : List Opening) → count_of o.exporter (o ∷ os) ≡ suc (count_of o.exporter os)
first_own o os = rw ((bytes_decides o.exporter o.exporter).1 refl) refl
