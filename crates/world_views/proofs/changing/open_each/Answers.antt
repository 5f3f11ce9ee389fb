-- one more is opened, and there is room for the others
use Rattle.std.proofs.Common.{◌≡◌, ◌∙◌, ◌∷◌, List, All, ap, sym, subst}
use Rattle.std.proofs.lemmas.List.Elements.{All-head, All-tail}
use Rattle.service_exporter.specs.Routes.{Exporter}
use Rattle.service_routes.specs.Routes.{Name, pruned}
use Rattle.service_routes.proofs.Seen.{opens}
use Rattle.world_views.specs.Changing.{opened_each, HaveRoom, IsNotedAt}
use Rattle.world_views.specs.declared.changing.Opening.{Opening}
use Rattle.world_views.proofs.InTurn.{noted_lives, room_left}
use Rattle.world_views.proofs.changing.open_each.Goals as goal

pub loop-opening-preserved : goal.loop-opening-preserved
loop-opening-preserved c =
    let now = c.args.now in
    let o : Opening = c.in-Some.opening in
    let rest : List Opening = c.next.new.self.rest.items in
    let old : List (Name × Exporter) = c.loop-opening.routes.exporters in
    let left : c.loop-opening.opening-iterator.rest.items ≡ o ∷ rest = c.in-Some.ensures.steps.0 in
    let noted : All (IsNotedAt now) (o ∷ rest) = subst (λ (os : List Opening). All (IsNotedAt now) os) left c.loop-opening.invariant.noted in
    let room : HaveRoom now (o ∷ rest) c.loop-opening.routes = subst (λ (os : List Opening). HaveRoom now os c.loop-opening.routes) left c.loop-opening.invariant.room in
    let first : IsNotedAt now o = All-head (IsNotedAt now) o rest noted in
    record {
      opened = ap (opened_each rest) (c.open.ensures.exporters ∙ opens now o.exporter o.route old (noted_lives now o.route first))
          ∙ ap (λ (os : List Opening). opened_each os (pruned now old)) (sym left)
          ∙ c.loop-opening.invariant.opened;
      room = room_left now o rest c.loop-opening.routes c.open.new.routes room first c.open.ensures.exporters c.open.ensures.room;
      noted = All-tail (IsNotedAt now) o rest noted;
    }
