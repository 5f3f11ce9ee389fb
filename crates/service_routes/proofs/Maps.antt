-- Exporters by their names, with and without their room.
use Rattle.std.proofs.Common.{◌≡◌, ◌∙◌, ◌≤◌, ◌<◌, ◌+◌, ◌++◌, ◌∷◌, ◌||◌, [], ℕ, zero, suc, take, drop, slice_get, Bool, true, false, cond, List, Option, Some, None, length, nat_lt, unwrap_or, map, ap, sym, refl, subst, arith, true≢false}
use Rattle.std.specs.List.{AllByRecursion, IsDistinct}
use Rattle.std.specs.Map.{keys_of, lookup, lookup_key, set_value, values_of}
use Rattle.std.proofs.lemmas.Bool.{or_parts}
use Rattle.std.proofs.lemmas.Bool.Decides.{nat_tests}
use Rattle.std.proofs.lemmas.List.{length-map}
use Rattle.std.specs.Option.{option_map}
use Rattle.std.specs.Cmp.Lexicographic.{bytes_decides, nat_list_eq_equiv}
use Rattle.indexmap.specs.IndexMap.{insert_entry, set_value_at}
use Rattle.service_exporter.specs.Routes.{Exporter, WithRoom, no_routes, pruned_of, with_route}
use Rattle.service_routes.specs.Routes.{Name, changed, exporter_of, opened, pruned, same_name}
use Rattle.service_routes.specs.Tables.{exporters_in, rooms_in, room_of, room_or, room_in, so_far}
use Rattle.service_exporter.specs.declared.route.Route.{Route}

-- ---- look-ups

pub lookup-exporters : (name : Name) (all : List (Name × WithRoom)) (o : Option WithRoom) → lookup (same_name name) all ≡ o
    → lookup (same_name name) (exporters_in all) ≡ option_map (λ (w : WithRoom). w.exporter) o
lookup-exporters name [] o h = subst (λ (p : Option WithRoom). None ≡ option_map (λ (w : WithRoom). w.exporter) p) h refl
lookup-exporters name (e ∷ all) o h = by (same_name name e.0) refl (λ k. lookup-exporters name all o k)
  where
    by : (b : Bool) → same_name name e.0 ≡ b → (lookup (same_name name) all ≡ o → lookup (same_name name) (exporters_in all) ≡ option_map (λ (w : WithRoom). w.exporter) o) → lookup (same_name name) (exporters_in (e ∷ all)) ≡ option_map (λ (w : WithRoom). w.exporter) o
    by true is later =
        let found : Some e.1 ≡ o = sym (ap (λ c. cond c (Some e.1) (lookup (same_name name) all)) is) ∙ h in
        ap (λ c. cond c (Some e.1.exporter) (lookup (same_name name) (exporters_in all))) is ∙ ap (λ (p : Option WithRoom). option_map (λ (w : WithRoom). w.exporter) p) found
    by false is later =
        ap (λ c. cond c (Some e.1.exporter) (lookup (same_name name) (exporters_in all))) is
        ∙ later (sym (ap (λ c. cond c (Some e.1) (lookup (same_name name) all)) is) ∙ h)

-- what an exporter has that is there, and one that isn't
pub exporter-there : (name : Name) (all : List (Name × WithRoom)) (w : WithRoom) → lookup (same_name name) all ≡ Some w → exporter_of name (exporters_in all) ≡ w.exporter
exporter-there name all w h = ap (λ (o : Option Exporter). unwrap_or o no_routes) (lookup-exporters name all (Some w) h)

pub exporter-absent : (name : Name) (all : List (Name × WithRoom)) → lookup (same_name name) all ≡ None → exporter_of name (exporters_in all) ≡ no_routes
exporter-absent name all h = ap (λ (o : Option Exporter). unwrap_or o no_routes) (lookup-exporters name all None h)

-- the room that is shown is the exporter's, or what stands ready
ready-room : (name : Name) (ready : List (Name × WithRoom)) → unwrap_or (lookup (same_name name) (rooms_in ready)) 0 ≡ room_of (lookup (same_name name) ready)
ready-room name [] = refl
ready-room name (e ∷ ready) = by (same_name name e.0) (ready-room name ready)
  where
    by : (b : Bool) → unwrap_or (lookup (same_name name) (rooms_in ready)) 0 ≡ room_of (lookup (same_name name) ready)
        → unwrap_or (cond b (Some e.1.room) (lookup (same_name name) (rooms_in ready))) 0 ≡ room_of (cond b (Some e.1) (lookup (same_name name) ready))
    by true later = refl
    by false later = later

pub room-shown : (name : Name) (all ready : List (Name × WithRoom)) → unwrap_or (lookup (same_name name) (rooms_in (all ++ ready))) 0 ≡ room_in name all ready
room-shown name [] ready = ready-room name ready
room-shown name (e ∷ all) ready = by (same_name name e.0) (room-shown name all ready)
  where
    by : (b : Bool) → unwrap_or (lookup (same_name name) (rooms_in (all ++ ready))) 0 ≡ room_in name all ready
        → unwrap_or (cond b (Some e.1.room) (lookup (same_name name) (rooms_in (all ++ ready)))) 0 ≡ room_or (cond b (Some e.1) (lookup (same_name name) all)) (lookup (same_name name) ready)
    by true later = refl
    by false later = later

-- ---- one exporter written

pub changed-there : (name : Name) (f : Exporter → Exporter) (all : List (Name × WithRoom)) (w v : WithRoom) → lookup (same_name name) all ≡ Some w → v.exporter ≡ f w.exporter
    → exporters_in (set_value (same_name name) all v) ≡ changed name f (exporters_in all)
changed-there name f [] w v h is = absurd (cc)
changed-there name f (e ∷ all) w v h is = by (same_name name e.0) refl (λ k. changed-there name f all w v k is)
  where
    by : (b : Bool) → same_name name e.0 ≡ b → (lookup (same_name name) all ≡ Some w → exporters_in (set_value (same_name name) all v) ≡ changed name f (exporters_in all)) → exporters_in (set_value (same_name name) (e ∷ all) v) ≡ changed name f (exporters_in (e ∷ all))
    by true eq later =
        let found : Some e.1 ≡ Some w = sym (ap (λ c. cond c (Some e.1) (lookup (same_name name) all)) eq) ∙ h in
        let it : e.1 ≡ w = cc in
        ap (λ c. exporters_in (cond c ((e.0, v) ∷ all) (e ∷ set_value (same_name name) all v))) eq
        ∙ ap (λ (x : Exporter). (e.0, x) ∷ exporters_in all) (is ∙ ap (λ (u : WithRoom). f u.exporter) (sym it))
        ∙ sym (ap (λ c. cond c ((e.0, f e.1.exporter) ∷ exporters_in all) ((e.0, e.1.exporter) ∷ changed name f (exporters_in all))) eq)
    by false eq later =
        ap (λ c. exporters_in (cond c ((e.0, v) ∷ all) (e ∷ set_value (same_name name) all v))) eq
        ∙ ap (λ more. (e.0, e.1.exporter) ∷ more) (later (sym (ap (λ c. cond c (Some e.1) (lookup (same_name name) all)) eq) ∙ h))
        ∙ sym (ap (λ c. cond c ((e.0, f e.1.exporter) ∷ exporters_in all) ((e.0, e.1.exporter) ∷ changed name f (exporters_in all))) eq)

pub changed-same : (name : Name) (all : List (Name × Exporter)) → changed name (λ e. e) all ≡ all
changed-same name [] = refl
changed-same name (e ∷ all) = by (same_name name e.0) (changed-same name all)
  where
    by : (b : Bool) → changed name (λ x. x) all ≡ all → cond b ((e.0, e.1) ∷ all) (e ∷ changed name (λ x. x) all) ≡ e ∷ all
    by true later = refl
    by false later = ap (λ more. e ∷ more) later

pub changed-absent : (name : Name) (f : Exporter → Exporter) (all : List (Name × WithRoom)) → lookup (same_name name) all ≡ None → changed name f (exporters_in all) ≡ exporters_in all
changed-absent name f [] h = refl
changed-absent name f (e ∷ all) h = by (same_name name e.0) refl (λ k. changed-absent name f all k)
  where
    by : (b : Bool) → same_name name e.0 ≡ b → (lookup (same_name name) all ≡ None → changed name f (exporters_in all) ≡ exporters_in all) → changed name f (exporters_in (e ∷ all)) ≡ exporters_in (e ∷ all)
    by true eq later = absurd (let no : Some e.1 ≡ None = sym (ap (λ c. cond c (Some e.1) (lookup (same_name name) all)) eq) ∙ h in cc)
    by false eq later =
        ap (λ c. cond c ((e.0, f e.1.exporter) ∷ exporters_in all) ((e.0, e.1.exporter) ∷ changed name f (exporters_in all))) eq
        ∙ ap (λ more. (e.0, e.1.exporter) ∷ more) (later (sym (ap (λ c. cond c (Some e.1) (lookup (same_name name) all)) eq) ∙ h))

-- an exporter that is there and opens a route
inserted-there : (name : Name) (all : List (Name × WithRoom)) (w v : WithRoom) → lookup (same_name name) all ≡ Some w → exporters_in (set_value (same_name name) all v) ≡ insert_entry same_name (exporters_in all) name v.exporter
inserted-there name [] w v h = absurd (cc)
inserted-there name (e ∷ all) w v h = by (same_name name e.0) refl (λ k. inserted-there name all w v k)
  where
    by : (b : Bool) → same_name name e.0 ≡ b → (lookup (same_name name) all ≡ Some w → exporters_in (set_value (same_name name) all v) ≡ insert_entry same_name (exporters_in all) name v.exporter) → exporters_in (set_value (same_name name) (e ∷ all) v) ≡ insert_entry same_name (exporters_in (e ∷ all)) name v.exporter
    by true eq later =
        ap (λ c. exporters_in (cond c ((e.0, v) ∷ all) (e ∷ set_value (same_name name) all v))) eq
        ∙ sym (ap (λ c. cond c ((e.0, v.exporter) ∷ exporters_in all) ((e.0, e.1.exporter) ∷ insert_entry same_name (exporters_in all) name v.exporter)) eq)
    by false eq later =
        ap (λ c. exporters_in (cond c ((e.0, v) ∷ all) (e ∷ set_value (same_name name) all v))) eq
        ∙ ap (λ more. (e.0, e.1.exporter) ∷ more) (later (sym (ap (λ c. cond c (Some e.1) (lookup (same_name name) all)) eq) ∙ h))
        ∙ sym (ap (λ c. cond c ((e.0, v.exporter) ∷ exporters_in all) ((e.0, e.1.exporter) ∷ insert_entry same_name (exporters_in all) name v.exporter)) eq)

pub opened-there : (name : Name) (r : Route) (all : List (Name × WithRoom)) (w v : WithRoom) → lookup (same_name name) all ≡ Some w → v.exporter ≡ with_route r w.exporter
    → exporters_in (set_value (same_name name) all v) ≡ opened name r (exporters_in all)
opened-there name r all w v h is =
    inserted-there name all w v h
    ∙ ap (λ (x : Exporter). insert_entry same_name (exporters_in all) name x) (is ∙ ap (with_route r) (sym (exporter-there name all w h)))

-- an exporter that opens its first route
inserted-absent : (name : Name) (all : List (Name × WithRoom)) (v : WithRoom) → lookup (same_name name) all ≡ None → exporters_in (all ++ (name, v) ∷ []) ≡ insert_entry same_name (exporters_in all) name v.exporter
inserted-absent name [] v h = refl
inserted-absent name (e ∷ all) v h = by (same_name name e.0) refl (λ k. inserted-absent name all v k)
  where
    by : (b : Bool) → same_name name e.0 ≡ b → (lookup (same_name name) all ≡ None → exporters_in (all ++ (name, v) ∷ []) ≡ insert_entry same_name (exporters_in all) name v.exporter) → exporters_in ((e ∷ all) ++ (name, v) ∷ []) ≡ insert_entry same_name (exporters_in (e ∷ all)) name v.exporter
    by true eq later = absurd (let no : Some e.1 ≡ None = sym (ap (λ c. cond c (Some e.1) (lookup (same_name name) all)) eq) ∙ h in cc)
    by false eq later =
        ap (λ more. (e.0, e.1.exporter) ∷ more) (later (sym (ap (λ c. cond c (Some e.1) (lookup (same_name name) all)) eq) ∙ h))
        ∙ sym (ap (λ c. cond c ((e.0, v.exporter) ∷ exporters_in all) ((e.0, e.1.exporter) ∷ insert_entry same_name (exporters_in all) name v.exporter)) eq)

pub opened-absent : (name : Name) (r : Route) (all : List (Name × WithRoom)) (v : WithRoom) → lookup (same_name name) all ≡ None → v.exporter ≡ with_route r no_routes
    → exporters_in (all ++ (name, v) ∷ []) ≡ opened name r (exporters_in all)
opened-absent name r all v h is =
    inserted-absent name all v h
    ∙ ap (λ (x : Exporter). insert_entry same_name (exporters_in all) name x) (is ∙ ap (with_route r) (sym (exporter-absent name all h)))

-- ---- rooms

same_from : (a b : Name) → same_name a b ≡ true → a ≡ b
same_from a b h = (bytes_decides a b).0 h

to_same : (a b : Name) → a ≡ b → same_name a b ≡ true
to_same a b e = (bytes_decides a b).1 e

turned : (a b : Name) (c : Bool) → same_name a b ≡ c → same_name b a ≡ c
turned a b true h = to_same b a (sym (same_from a b h))
turned a b false h = by (same_name b a) refl
  where
    by : (c : Bool) → same_name b a ≡ c → same_name b a ≡ false
    by true e = absurd (true≢false (sym (to_same a b (sym (same_from b a e))) ∙ h))
    by false e = e

-- where one exporter is written, the others have the room that they had
pub room-written : (name other : Name) (all ready : List (Name × WithRoom)) (w v : WithRoom) (less : ℕ) → lookup (same_name name) all ≡ Some w → w.room ≤ v.room + less
    → room_in other all ready ≤ room_in other (set_value (same_name name) all v) ready + cond (same_name name other) less 0
room-written name other [] ready w v less h le = absurd (cc)
room-written name other (e ∷ all) ready w v less h le = by (same_name name e.0) (same_name other e.0) refl refl (λ k. room-written name other all ready w v less k le)
  where
    rest : Option WithRoom
    rest = lookup (same_name other) ready

    was : Bool → ℕ
    was c = room_or (cond c (Some e.1) (lookup (same_name other) all)) rest

    here : Bool → ℕ
    here c = room_or (cond c (Some v) (lookup (same_name other) all)) rest

    there : Bool → ℕ
    there c = room_or (cond c (Some e.1) (lookup (same_name other) (set_value (same_name name) all v))) rest

    is : Bool → ℕ
    is c = room_or (lookup (same_name other) (cond c ((e.0, v) ∷ all) (e ∷ set_value (same_name name) all v))) rest

    by : (b c : Bool) → same_name name e.0 ≡ b → same_name other e.0 ≡ c
        → (lookup (same_name name) all ≡ Some w → room_in other all ready ≤ room_in other (set_value (same_name name) all v) ready + cond (same_name name other) less 0)
        → was (same_name other e.0) ≤ is (same_name name e.0) + cond (same_name name other) less 0
    by true true eq eq' later =
        let found : Some e.1 ≡ Some w = sym (ap (λ c. cond c (Some e.1) (lookup (same_name name) all)) eq) ∙ h in
        let it : e.1.room ≡ w.room = ap (λ (o : Option WithRoom). room_of o) found in
        let x : was (same_name other e.0) ≡ e.1.room = ap was eq' in
        let y : is (same_name name e.0) ≡ v.room = ap is eq ∙ ap here eq' in
        let z : cond (same_name name other) less 0 ≡ less = ap (λ c. cond c less 0) (to_same name other (same_from name e.0 eq ∙ sym (same_from other e.0 eq'))) in
        omega (arith, it, x, y, z, le)
    by true false eq eq' later =
        let x : was (same_name other e.0) ≡ was false = ap was eq' in
        let y : is (same_name name e.0) ≡ was false = ap is eq ∙ ap here eq' in
        omega (arith, x, y)
    by false true eq eq' later =
        let x : was (same_name other e.0) ≡ e.1.room = ap was eq' in
        let y : is (same_name name e.0) ≡ e.1.room = ap is eq ∙ ap there eq' in
        omega (arith, x, y)
    by false false eq eq' later =
        let x : was (same_name other e.0) ≡ room_in other all ready = ap was eq' in
        let y : is (same_name name e.0) ≡ room_in other (set_value (same_name name) all v) ready = ap is eq ∙ ap there eq' in
        let le' = later (sym (ap (λ c. cond c (Some e.1) (lookup (same_name name) all)) eq) ∙ h) in
        omega (arith, x, y, le')

-- where what stood ready for one comes behind all, the others have the room that they had
pub room-appended : (name other : Name) (all ready left : List (Name × WithRoom)) (w v : WithRoom) → lookup (same_name name) all ≡ None → lookup (same_name name) ready ≡ Some w → w.room ≤ v.room + 1
    → (same_name name other ≡ false → lookup (same_name other) left ≡ lookup (same_name other) ready)
    → room_in other all ready ≤ room_in other (all ++ (name, v) ∷ []) left + cond (same_name name other) 1 0
room-appended name other [] ready left w v h hr le keeps = by (same_name name other) refl
  where
    is : Bool → ℕ
    is c = room_or (cond c (Some v) None) (lookup (same_name other) left)

    by : (c : Bool) → same_name name other ≡ c → room_of (lookup (same_name other) ready) ≤ is (same_name other name) + cond (same_name name other) 1 0
    by true eq =
        let x : room_of (lookup (same_name other) ready) ≡ w.room = ap (λ n. room_of (lookup (same_name n) ready)) (sym (same_from name other eq)) ∙ ap (λ (o : Option WithRoom). room_of o) hr in
        let y : is (same_name other name) ≡ v.room = ap is (turned name other true eq) in
        let z : cond {A = ℕ} (same_name name other) 1 0 ≡ 1 = ap (λ c. cond c 1 0) eq in
        omega (arith, x, y, z, le)
    by false eq =
        let x : room_of (lookup (same_name other) left) ≡ room_of (lookup (same_name other) ready) = ap (λ (o : Option WithRoom). room_of o) (keeps eq) in
        let y : is (same_name other name) ≡ room_of (lookup (same_name other) left) = ap is (turned name other false eq) in
        omega (arith, x, y)
room-appended name other (e ∷ all) ready left w v h hr le keeps = by (same_name name e.0) (same_name other e.0) refl refl (λ k. room-appended name other all ready left w v k hr le keeps)
  where
    was : Bool → ℕ
    was c = room_or (cond c (Some e.1) (lookup (same_name other) all)) (lookup (same_name other) ready)

    is : Bool → ℕ
    is c = room_or (cond c (Some e.1) (lookup (same_name other) (all ++ (name, v) ∷ []))) (lookup (same_name other) left)

    by : (b c : Bool) → same_name name e.0 ≡ b → same_name other e.0 ≡ c
        → (lookup (same_name name) all ≡ None → room_in other all ready ≤ room_in other (all ++ (name, v) ∷ []) left + cond (same_name name other) 1 0)
        → was (same_name other e.0) ≤ is (same_name other e.0) + cond (same_name name other) 1 0
    by true c eq eq' later = absurd (let no : Some e.1 ≡ None = sym (ap (λ c. cond c (Some e.1) (lookup (same_name name) all)) eq) ∙ h in cc)
    by false true eq eq' later =
        let x : was (same_name other e.0) ≡ e.1.room = ap was eq' in
        let y : is (same_name other e.0) ≡ e.1.room = ap is eq' in
        omega (arith, x, y)
    by false false eq eq' later =
        let x : was (same_name other e.0) ≡ room_in other all ready = ap was eq' in
        let y : is (same_name other e.0) ≡ room_in other (all ++ (name, v) ∷ []) left = ap is eq' in
        let le' = later (sym (ap (λ c. cond c (Some e.1) (lookup (same_name name) all)) eq) ∙ h) in
        omega (arith, x, y, le')

-- ---- exporters one after the other

abbrev pub at_each : (Exporter → Exporter) → Name × Exporter → Name × Exporter
at_each f e = (e.0, f e.1)

-- one more is changed
pub mapped-more : (f : Exporter → Exporter) (all : List (Name × WithRoom)) (i : ℕ) (w v : WithRoom) → slice_get (values_of all) i ≡ Some w → v.exporter ≡ f w.exporter
    → take (suc i) (exporters_in (set_value_at all i v)) ++ map (at_each f) (drop (suc i) (exporters_in (set_value_at all i v))) ≡ take i (exporters_in all) ++ map (at_each f) (drop i (exporters_in all))
mapped-more f [] i w v h is = absurd (cc)
mapped-more f (e ∷ all) zero w v h is =
    let it : e.1 ≡ w = cc in
    ap (λ (x : Exporter). (e.0, x) ∷ map (at_each f) (exporters_in all)) (is ∙ ap (λ (u : WithRoom). f u.exporter) (sym it))
mapped-more f (e ∷ all) (suc i) w v h is = ap (λ more. (e.0, e.1.exporter) ∷ more) (mapped-more f all i w v h is)

pub room-at : (other : Name) (all ready : List (Name × WithRoom)) (i : ℕ) (w v : WithRoom) → slice_get (values_of all) i ≡ Some w → w.room ≤ v.room → room_in other all ready ≤ room_in other (set_value_at all i v) ready
room-at other [] ready i w v h le = absurd (cc)
room-at other (e ∷ all) ready zero w v h le = by (same_name other e.0)
  where
    by : (b : Bool) → room_or (cond b (Some e.1) (lookup (same_name other) all)) (lookup (same_name other) ready) ≤ room_or (cond b (Some v) (lookup (same_name other) all)) (lookup (same_name other) ready)
    by true = let it : e.1.room ≡ w.room = ap (λ (o : Option WithRoom). room_of o) h in omega (arith, it, le)
    by false = omega arith
room-at other (e ∷ all) ready (suc i) w v h le = by (same_name other e.0) (room-at other all ready i w v h le)
  where
    by : (b : Bool) → room_in other all ready ≤ room_in other (set_value_at all i v) ready
        → room_or (cond b (Some e.1) (lookup (same_name other) all)) (lookup (same_name other) ready) ≤ room_or (cond b (Some e.1) (lookup (same_name other) (set_value_at all i v))) (lookup (same_name other) ready)
    by true later = omega arith
    by false later = later

-- what lives of an exporter that has let some go that are dead
pub pruned-there : (name : Name) (now : ℕ) (all : List (Name × WithRoom)) (w v : WithRoom) → lookup (same_name name) all ≡ Some w → pruned_of now v.exporter ≡ pruned_of now w.exporter
    → pruned now (exporters_in (set_value (same_name name) all v)) ≡ pruned now (exporters_in all)
pruned-there name now [] w v h is = absurd (cc)
pruned-there name now (e ∷ all) w v h is = by (same_name name e.0) refl (λ k. pruned-there name now all w v k is)
  where
    by : (b : Bool) → same_name name e.0 ≡ b → (lookup (same_name name) all ≡ Some w → pruned now (exporters_in (set_value (same_name name) all v)) ≡ pruned now (exporters_in all))
        → pruned now (exporters_in (set_value (same_name name) (e ∷ all) v)) ≡ pruned now (exporters_in (e ∷ all))
    by true eq later =
        let found : Some e.1 ≡ Some w = sym (ap (λ c. cond c (Some e.1) (lookup (same_name name) all)) eq) ∙ h in
        let it : e.1 ≡ w = cc in
        ap (λ c. pruned now (exporters_in (cond c ((e.0, v) ∷ all) (e ∷ set_value (same_name name) all v)))) eq
        ∙ ap (λ (x : Exporter). (e.0, x) ∷ pruned now (exporters_in all)) (is ∙ ap (λ (u : WithRoom). pruned_of now u.exporter) (sym it))
    by false eq later =
        ap (λ c. pruned now (exporters_in (cond c ((e.0, v) ∷ all) (e ∷ set_value (same_name name) all v)))) eq
        ∙ ap (λ more. (e.0, pruned_of now e.1.exporter) ∷ more) (later (sym (ap (λ c. cond c (Some e.1) (lookup (same_name name) all)) eq) ∙ h))

pub pruned-at : (now : ℕ) (all : List (Name × WithRoom)) (i : ℕ) (w v : WithRoom) → slice_get (values_of all) i ≡ Some w → pruned_of now v.exporter ≡ pruned_of now w.exporter
    → pruned now (exporters_in (set_value_at all i v)) ≡ pruned now (exporters_in all)
pruned-at now [] i w v h is = absurd (cc)
pruned-at now (e ∷ all) zero w v h is =
    let it : e.1 ≡ w = cc in
    ap (λ (x : Exporter). (e.0, x) ∷ pruned now (exporters_in all)) (is ∙ ap (λ (u : WithRoom). pruned_of now u.exporter) (sym it))
pruned-at now (e ∷ all) (suc i) w v h is = ap (λ more. (e.0, pruned_of now e.1.exporter) ∷ more) (pruned-at now all i w v h is)

-- past the last one nothing is left to change
pub past : (f : Exporter → Exporter) (all : List (Name × Exporter)) (i : ℕ) → length all ≤ i → take i all ++ map (at_each f) (drop i all) ≡ all
past f [] zero le = refl
past f [] (suc i) le = refl
past f (e ∷ all) zero le = absurd (omega (arith, le))
past f (e ∷ all) (suc i) le = ap (λ more. e ∷ more) (past f all i (omega (arith, le)))

pub mapped-next : (f : Exporter → Exporter) (all : List (Name × WithRoom)) (i : ℕ) (w v : WithRoom) → slice_get (values_of all) i ≡ Some w → v.exporter ≡ f w.exporter
    → so_far f (i + 1) (exporters_in (set_value_at all i v)) ≡ so_far f i (exporters_in all)
mapped-next f all i w v h is = by (i + 1) (omega arith)
  where
    by : (n : ℕ) → n ≡ suc i → so_far f n (exporters_in (set_value_at all i v)) ≡ so_far f i (exporters_in all)
    by n e = rw e (mapped-more f all i w v h is)

pub mapped-past : (f : Exporter → Exporter) (all : List (Name × WithRoom)) (i : ℕ) → length all ≤ i → so_far f (i + 1) (exporters_in all) ≡ so_far f i (exporters_in all)
mapped-past f all i le =
    let long = length-map {B = Name × Exporter} all (λ (e : Name × WithRoom). (e.0, e.1.exporter)) in
    past f (exporters_in all) (i + 1) (omega (arith, le, long)) ∙ sym (past f (exporters_in all) i (omega (arith, le, long)))

pub mapped-all : (f : Exporter → Exporter) (all : List (Name × WithRoom)) (i : ℕ) → length all ≤ i → so_far f i (exporters_in all) ≡ exporters_in all
mapped-all f all i le =
    let long = length-map {B = Name × Exporter} all (λ (e : Name × WithRoom). (e.0, e.1.exporter)) in
    past f (exporters_in all) i (omega (arith, le, long))

-- ---- the room that is shown

pub shown-kept : (all ready all' ready' : List (Name × WithRoom)) → ((other : Name) → room_in other all ready ≤ room_in other all' ready')
    → (other : Name) → unwrap_or (lookup (same_name other) (rooms_in (all ++ ready))) 0 ≤ unwrap_or (lookup (same_name other) (rooms_in (all' ++ ready'))) 0
shown-kept all ready all' ready' kept = λ other.
    let was = room-shown other all ready in
    let is = room-shown other all' ready' in
    let le = kept other in
    omega (arith, was, is, le)

pub shown-less : (other : Name) (all ready all' ready' : List (Name × WithRoom)) (less : ℕ) → room_in other all ready ≤ room_in other all' ready' + less
    → unwrap_or (lookup (same_name other) (rooms_in (all ++ ready))) 0 ≤ unwrap_or (lookup (same_name other) (rooms_in (all' ++ ready'))) 0 + less
shown-less other all ready all' ready' less le =
    let was = room-shown other all ready in
    let is = room-shown other all' ready' in
    omega (arith, was, is, le)

-- more room that stands ready
pub ready_more : (o a b : Option WithRoom) → room_of a ≤ room_of b → room_or o a ≤ room_or o b
ready_more None a b le = le
ready_more (Some w) a b le = omega arith

no_less : (b : Bool) → cond {A = ℕ} b 0 0 ≡ zero
no_less true = refl
no_less false = refl

pub room-kept : (name other : Name) (all ready : List (Name × WithRoom)) (w v : WithRoom) → lookup (same_name name) all ≡ Some w → w.room ≤ v.room
    → room_in other all ready ≤ room_in other (set_value (same_name name) all v) ready
room-kept name other all ready w v h le =
    let more = room-written name other all ready w v 0 h (omega (arith, le)) in
    let none = no_less (same_name name other) in
    omega (arith, more, none)

alone : (o : Option WithRoom) → room_or o None ≡ room_of o
alone None = refl
alone (Some w) = refl

pub ready-kept : (name other : Name) (ready : List (Name × WithRoom)) (w v : WithRoom) → lookup (same_name name) ready ≡ Some w → w.room ≤ v.room
    → room_of (lookup (same_name other) ready) ≤ room_of (lookup (same_name other) (set_value (same_name name) ready v))
ready-kept name other ready w v h le =
    let kept = room-kept name other ready [] w v h le in
    let was = alone (lookup (same_name other) ready) in
    let is = alone (lookup (same_name other) (set_value (same_name name) ready v)) in
    omega (arith, kept, was, is)

-- the room of one that is there, and of one for which it stands ready
pub room-there : (name : Name) (all ready : List (Name × WithRoom)) (w : WithRoom) → lookup (same_name name) all ≡ Some w → unwrap_or (lookup (same_name name) (rooms_in (all ++ ready))) 0 ≡ w.room
room-there name all ready w h = room-shown name all ready ∙ ap (λ (o : Option WithRoom). room_or o (lookup (same_name name) ready)) h

pub room-first : (name : Name) (all ready : List (Name × WithRoom)) → lookup (same_name name) all ≡ None → unwrap_or (lookup (same_name name) (rooms_in (all ++ ready))) 0 ≡ room_of (lookup (same_name name) ready)
room-first name all ready h = room-shown name all ready ∙ ap (λ (o : Option WithRoom). room_or o (lookup (same_name name) ready)) h

pub found-written : (name : Name) (all : List (Name × WithRoom)) (w v : WithRoom) → lookup (same_name name) all ≡ Some w → lookup (same_name name) (set_value (same_name name) all v) ≡ Some v
found-written name [] w v h = absurd (cc)
found-written name (e ∷ all) w v h = by (same_name name e.0) refl (λ k. found-written name all w v k)
  where
    by : (b : Bool) → same_name name e.0 ≡ b → (lookup (same_name name) all ≡ Some w → lookup (same_name name) (set_value (same_name name) all v) ≡ Some v) → lookup (same_name name) (set_value (same_name name) (e ∷ all) v) ≡ Some v
    by true eq later =
        ap (λ c. lookup (same_name name) (cond c ((e.0, v) ∷ all) (e ∷ set_value (same_name name) all v))) eq
        ∙ ap (λ c. cond c (Some v) (lookup (same_name name) all)) eq
    by false eq later =
        ap (λ c. lookup (same_name name) (cond c ((e.0, v) ∷ all) (e ∷ set_value (same_name name) all v))) eq
        ∙ ap (λ c. cond c (Some e.1) (lookup (same_name name) (set_value (same_name name) all v))) eq
        ∙ later (sym (ap (λ c. cond c (Some e.1) (lookup (same_name name) all)) eq) ∙ h)

-- ---- names

some_same : (a b : Name) → Some a ≡ Some b → a ≡ b
some_same a b e = cc

pub key_found : (name key : Name) (all : List (Name × WithRoom)) → lookup_key (same_name name) all ≡ Some key → name ≡ key
key_found name key [] h = absurd (cc)
key_found name key (e ∷ all) h = by (same_name name e.0) refl (λ k. key_found name key all k)
  where
    by : (b : Bool) → same_name name e.0 ≡ b → (lookup_key (same_name name) all ≡ Some key → name ≡ key) → name ≡ key
    by true eq later =
        let it : e.0 ≡ key = some_same e.0 key (sym (ap (λ c. cond c (Some e.0) (lookup_key (same_name name) all)) eq) ∙ h) in
        same_from name e.0 eq ∙ it
    by false eq later = later (sym (ap (λ c. cond c (Some e.0) (lookup_key (same_name name) all)) eq) ∙ h)

-- one that is put where none is
pub room-put : (name other : Name) (was is : List (Name × WithRoom)) (v : WithRoom) → lookup (same_name name) was ≡ None
    → ((q : Name) → lookup (same_name q) is ≡ cond (same_name name q) (Some v) (lookup (same_name q) was))
    → room_of (lookup (same_name other) was) ≤ room_of (lookup (same_name other) is)
room-put name other was is v absent written = by (same_name name other) refl
  where
    by : (b : Bool) → same_name name other ≡ b → room_of (lookup (same_name other) was) ≤ room_of (lookup (same_name other) is)
    by true eq =
        let none : room_of (lookup (same_name other) was) ≡ 0 = ap (λ n. room_of (lookup (same_name n) was)) (sym (same_from name other eq)) ∙ ap (λ (o : Option WithRoom). room_of o) absent in
        omega (arith, none)
    by false eq =
        let same : room_of (lookup (same_name other) is) ≡ room_of (lookup (same_name other) was) =
        ap (λ (o : Option WithRoom). room_of o) (written other ∙ ap (λ c. cond c (Some v) (lookup (same_name other) was)) eq)
        in
        omega (arith, same)

-- ---- when an exporter isn't full

pub has_number : (live last : ℕ) → nat_lt 65536 (live + 1) || nat_lt 18446744073709551615 (last + 1) ≡ false → last < 18446744073709551615
has_number live last free =
    let no : nat_lt 18446744073709551615 (last + 1) ≡ false = (or_parts (nat_lt 65536 (live + 1)) (nat_lt 18446744073709551615 (last + 1)) free).1 in
    let le : last + 1 ≤ 18446744073709551615 = grind (arith, nat_tests, no) in
    omega (arith, le)

-- ---- copies

keys-shown : (all : List (Name × WithRoom)) → keys_of (exporters_in all) ≡ keys_of all
keys-shown [] = refl
keys-shown (e ∷ all) = ap (λ more. e.0 ∷ more) (keys-shown all)

absent-shown : (name : Name) (all : List (Name × WithRoom)) → lookup (same_name name) (exporters_in all) ≡ None → lookup (same_name name) all ≡ None
absent-shown name all h = by (lookup (same_name name) all) refl
  where
    by : (o : Option WithRoom) → lookup (same_name name) all ≡ o → lookup (same_name name) all ≡ None
    by None e = e
    by (Some w) e = let some : Some w.exporter ≡ None = sym (lookup-exporters name all (Some w) e) ∙ h in absurd (cc)

apart_later : (k : Name) (es fs : List (Name × Exporter)) (e : Name × Exporter) → AllByRecursion (λ y. same_name k y ≡ false) (keys_of (es ++ e ∷ fs)) → same_name k e.0 ≡ false
apart_later k [] fs e h = h.0
apart_later k (x ∷ xs) fs e h = apart_later k xs fs e h.1

absent_before : (es fs : List (Name × Exporter)) (e : Name × Exporter) → IsDistinct same_name (keys_of (es ++ e ∷ fs)) → lookup (same_name e.0) es ≡ None
unfolding IsDistinct
absent_before [] fs e d = refl
absent_before (x ∷ xs) fs e d =
    let apart : same_name e.0 x.0 ≡ false = nat_list_eq_equiv.symm e.0 x.0 ∙ apart_later x.0 xs fs e d.0 in
    ap (λ b. cond b (Some x.1) (lookup (same_name e.0) xs)) apart ∙ absent_before xs fs e d.1

-- the exporter at a place has a name that none before it has
pub copied-absent : (copies all : List (Name × WithRoom)) (place : ℕ) (name : Name) (w : WithRoom) → slice_get all place ≡ Some (name, w) → IsDistinct same_name (keys_of all)
    → exporters_in copies ≡ take place (exporters_in all) → lookup (same_name name) copies ≡ None
copied-absent copies all place name w at distinct same =
    absent-shown name copies (ap (lookup (same_name name)) same ∙ before (exporters_in all) place (name, w.exporter) (shown_at all place at) (subst (IsDistinct same_name) (sym (keys-shown all)) distinct))
  where
    shown_at : (all : List (Name × WithRoom)) (place : ℕ) → slice_get all place ≡ Some (name, w) → slice_get (exporters_in all) place ≡ Some (name, w.exporter)
    shown_at [] place h = absurd (cc)
    shown_at (e ∷ all) zero h = ap (λ (o : Option (Name × WithRoom)). option_map (λ (x : Name × WithRoom). (x.0, x.1.exporter)) o) h
    shown_at (e ∷ all) (suc place) h = shown_at all place h

    split : (xs : List (Name × Exporter)) (i : ℕ) (e : Name × Exporter) → slice_get xs i ≡ Some e → xs ≡ take i xs ++ e ∷ drop (suc i) xs
    split [] i e h = absurd (cc)
    split (x ∷ xs) zero e h = let it : x ≡ e = cc in ap (λ (y : Name × Exporter). y ∷ xs) it
    split (x ∷ xs) (suc i) e h = ap (λ more. x ∷ more) (split xs i e h)

    before : (xs : List (Name × Exporter)) (i : ℕ) (e : Name × Exporter) → slice_get xs i ≡ Some e → IsDistinct same_name (keys_of xs) → lookup (same_name e.0) (take i xs) ≡ None
    before xs i e h d = absent_before (take i xs) (drop (suc i) xs) e (subst (λ (ys : List (Name × Exporter)). IsDistinct same_name (keys_of ys)) (split xs i e h) d)

-- and one more copy is that of the exporter there
pub copied-more : (copies all new : List (Name × WithRoom)) (place : ℕ) (name : Name) (w v : WithRoom) → slice_get all place ≡ Some (name, w) → v.exporter ≡ w.exporter
    → new ≡ copies ++ (name, v) ∷ [] → exporters_in copies ≡ take place (exporters_in all) → exporters_in new ≡ take (place + 1) (exporters_in all)
copied-more copies all new place name w v at is more same =
    ap exporters_in more
    ∙ appended copies
    ∙ ap (λ (xs : List (Name × Exporter)). xs ++ (name, v.exporter) ∷ []) same
    ∙ ap (λ (x : Exporter). take place (exporters_in all) ++ (name, x) ∷ []) is
    ∙ next all place at
    ∙ ap (λ n. take n (exporters_in all)) (let e : suc place ≡ place + 1 = omega arith in e)
  where
    appended : (es : List (Name × WithRoom)) → exporters_in (es ++ (name, v) ∷ []) ≡ exporters_in es ++ (name, v.exporter) ∷ []
    appended [] = refl
    appended (e ∷ es) = ap (λ rest. (e.0, e.1.exporter) ∷ rest) (appended es)

    next : (es : List (Name × WithRoom)) (i : ℕ) → slice_get es i ≡ Some (name, w) → take i (exporters_in es) ++ (name, w.exporter) ∷ [] ≡ take (suc i) (exporters_in es)
    next [] i h = absurd (cc)
    next (e ∷ es) zero h = let it : e ≡ (name, w) = cc in ap (λ (x : Name × WithRoom). (x.0, x.1.exporter) ∷ []) (sym it)
    next (e ∷ es) (suc i) h = ap (λ rest. (e.0, e.1.exporter) ∷ rest) (next es i h)

pub copied-all : (all : List (Name × Exporter)) (i : ℕ) → length all ≤ i → take i all ≡ all
copied-all [] zero le = refl
copied-all [] (suc i) le = refl
copied-all (e ∷ all) zero le = absurd (omega (arith, le))
copied-all (e ∷ all) (suc i) le = ap (λ more. e ∷ more) (copied-all all i (omega (arith, le)))

-- what is seen of one more exporter
pub more_seen : (now : ℕ) (all : List (Name × WithRoom)) (place : ℕ) (name : Name) (w : WithRoom) → slice_get all place ≡ Some (name, w) →
    take place (pruned now (exporters_in all)) ++ (name, pruned_of now w.exporter) ∷ [] ≡ take (place + 1) (pruned now (exporters_in all))
more_seen now all place name w at = next all place at ∙ ap (λ n. take n (pruned now (exporters_in all))) (let e : suc place ≡ place + 1 = omega arith in e)
  where
    next : (es : List (Name × WithRoom)) (i : ℕ) → slice_get es i ≡ Some (name, w) → take i (pruned now (exporters_in es)) ++ (name, pruned_of now w.exporter) ∷ [] ≡ take (suc i) (pruned now (exporters_in es))
    next [] i h = absurd (cc)
    next (e ∷ es) zero h = let it : e ≡ (name, w) = cc in ap (λ (x : Name × WithRoom). (x.0, pruned_of now x.1.exporter) ∷ []) (sym it)
    next (e ∷ es) (suc i) h = ap (λ rest. (e.0, pruned_of now e.1.exporter) ∷ rest) (next es i h)

pub all_seen : (now : ℕ) (all : List (Name × WithRoom)) (i : ℕ) → length all ≤ i → take i (pruned now (exporters_in all)) ≡ pruned now (exporters_in all)
all_seen now [] zero le = refl
all_seen now [] (suc i) le = refl
all_seen now (e ∷ all) zero le = absurd (omega (arith, le))
all_seen now (e ∷ all) (suc i) le = ap (λ more. (e.0, pruned_of now e.1.exporter) ∷ more) (all_seen now all i (omega (arith, le)))
