-- At the first moment all routes are seen.
use Rattle.std.proofs.Common.{◌≡◌, ◌∙◌, ◌∷◌, List, [], true, ap, refl, arith}
use Rattle.std.proofs.lemmas.Bool.Decides.{nat_tests}
use Rattle.service_exporter.specs.Routes.{Exporter, Numbered, lives, living}
use Rattle.service_exporter.specs.declared.route.Route.{Route}
use Rattle.service_routes.specs.Routes.{Name, pruned}

lives_first : (r : Route) → lives 0 r ≡ true
lives_first r = grind (arith, nat_tests)

all_live : (rs : List Numbered) → living 0 rs ≡ rs
all_live [] = refl
all_live (r ∷ rs) = let is : lives 0 r.1 ≡ true = lives_first r.1 in rw is (ap (λ l. r ∷ l) (all_live rs))

pub all_seen : (all : List (Name × Exporter)) → pruned 0 all ≡ all
all_seen [] = refl
all_seen (e ∷ all) =
    ap (λ (rs : List Numbered). (e.0, record { last = e.1.last; routes = rs }) ∷ pruned 0 all) (all_live e.1.routes) ∙ ap (λ l. e ∷ l) (all_seen all)
