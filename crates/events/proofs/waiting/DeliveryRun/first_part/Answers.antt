use Rattle.std.proofs.Common.{take, map, sym, ap, ◌∙◌}
use Rattle.std.proofs.lemmas.List.{take-map}
use Rattle.events.specs.DeliveryRuns.{sent_as}
use Rattle.events.proofs.waiting.DeliveryRun.first_part.Goals as goal

pub returns : goal.returns
returns c =
    let r = c.self.inside in
    (λ i. map (sent_as (c.in_ok-sent.ensures i) (c.in_ok-sid.ensures i)) (c.in_ok-texts.ensures i))
    ∙ sym (take-map (sent_as r.sent r.sid) c.args.count r.texts)
    ∙ ap (take c.args.count) c.self.view_is
