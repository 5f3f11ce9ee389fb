-- what is seen of a response that has ended its route
use Rattle.std.proofs.Common.{◌∙◌, List, ap, sym}
use Rattle.subjects.specs.Subject.{Token}
use Rattle.service_routes.specs.Routes.{pruned, spent}
use Rattle.service_routes.proofs.Seen.{spends}
use Rattle.world_views.specs.Changing.{changed_by}
use Rattle.world_views.specs.declared.changing.RouteChange.{RouteChange}
use Rattle.world_views.proofs.changing.change_routes.Goals as goal

pub returns-in-Answered-clause-ok : goal.returns-in-Answered-clause-ok
returns-in-Answered-clause-ok c =
    let all = c.args.routes.now.exporters in
    let now = c.args.now in
    ap (pruned now) c.spend.ensures.exporters
    ∙ spends now c.in-Answered.exporter c.subject.result all
    ∙ ap (λ (s : List Token). spent c.in-Answered.exporter s (pruned now all)) c.subject.ensures
    ∙ ap (λ (x : RouteChange). changed_by x (pruned now all)) (sym c.in-Answered.is)

pub returns-in-AnsweredUnder-clause-ok : goal.returns-in-AnsweredUnder-clause-ok
returns-in-AnsweredUnder-clause-ok c =
    let all = c.args.routes.now.exporters in
    let now = c.args.now in
    ap (pruned now) c.spend-in-AnsweredUnder.ensures.exporters
    ∙ spends now c.in-AnsweredUnder.exporter c.lend.result all
    ∙ ap (λ (s : List Token). spent c.in-AnsweredUnder.exporter s (pruned now all)) c.lend.ensures
    ∙ ap (λ (x : RouteChange). changed_by x (pruned now all)) (sym c.in-AnsweredUnder.is)
