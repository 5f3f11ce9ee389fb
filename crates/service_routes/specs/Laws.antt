-- Laws of routes as they are seen at a moment: those that live. What is dead may stand in memory, and nobody sees it.
use Rattle.std.specs.Prelude.{◌≡◌, ◌≤◌, ◌+◌, ◌∷◌, ℕ, true, false, List, None, codes}
use Rattle.std.specs.Str.{bytes_eq}
use Rattle.subjects.specs.Subject.{Token}
use Rattle.service_exporter.specs.Limit.{is_full}
use Rattle.service_exporter.specs.Routes.{Exporter, Numbered, lives, pruned_of, route_on}
use Rattle.service_routes.specs.Routes.{Name, exporter_of, opened, pruned, same_name, spent}
use Rattle.service_exporter.specs.declared.route.Route.{Route}

-- what is seen of an exporter is what of it lives
abbrev pub SeenByLife : Type 0
SeenByLife = (now : ℕ) (name : Name) (all : List (Name × Exporter)) → exporter_of name (pruned now all) ≡ pruned_of now (exporter_of name all)

-- whether it is full goes by what is seen
abbrev pub FullByLife : Type 0
FullByLife = (now count : ℕ) (e : Exporter) → is_full count now (pruned_of now e) ≡ is_full count now e

-- what is seen after a route was opened that lives is what was seen before, and the route
abbrev pub OpenedBySeen : Type 0
OpenedBySeen = (now : ℕ) (name : Name) (r : Route) (all : List (Name × Exporter)) → lives now r ≡ true → pruned now (opened name r all) ≡ opened name r (pruned now all)

-- a response ends the route that it ends of those that are seen
abbrev pub SpentBySeen : Type 0
SpentBySeen = (now : ℕ) (name : Name) (s : List Token) (all : List (Name × Exporter)) → pruned now (spent name s all) ≡ spent name s (pruned now all)

-- what is dead stays dead
abbrev pub DeadForGood : Type 0
DeadForGood = (m n : ℕ) (all : List (Name × Exporter)) → m ≤ n → pruned n (pruned m all) ≡ pruned n all

-- There is room for so many routes behind one that lives exactly where there is for one more: so routes are opened one after
-- the other exactly where there is room for all of them together.
abbrev pub FullTogether : Type 0
FullTogether = (now count : ℕ) (name : Name) (r : Route) (all : List (Name × Exporter)) → lives now r ≡ true →
    is_full count now (exporter_of name (opened name r all)) ≡ is_full (count + 1) now (exporter_of name all)

-- no other exporter has one more
abbrev pub OthersStay : Type 0
OthersStay = (name other : Name) (r : Route) (all : List (Name × Exporter)) → same_name name other ≡ false → exporter_of other (opened name r all) ≡ exporter_of other all

-- a subject whose first token isn't `_R_` has no route
abbrev pub NoneElsewhere : Type 0
NoneElsewhere = (t : Token) (ts : List Token) (rs : List Numbered) → bytes_eq t (codes "_R_") ≡ false → route_on (t ∷ ts) rs ≡ None
