-- all of them are sent under one subject
use Rattle.std.proofs.Common.{◌≡◌, sym, subst}
use Rattle.std.specs.List.{All}
use Rattle.events.specs.DeliveryRuns.{sent_as}
use Rattle.events.specs.declared.answer.Delivery.{Delivery}
use Rattle.events.proofs.Elements.{all_alike}
use Rattle.events.proofs.waiting.DeliveryRun.subject.Goals as goal

pub returns : goal.returns
returns c =
    let r = c.self.inside in
    subst (All (λ (d : Delivery). d.message.subject ≡ c.subject.result)) c.self.view_is
    (all_alike (sent_as r.sent r.sid) (λ d. d.message.subject) c.subject.result r.texts (λ t. sym c.subject.ensures))
