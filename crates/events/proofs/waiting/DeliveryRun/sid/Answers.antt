-- all of them are for one subscription
use Rattle.std.proofs.Common.{◌≡◌, sym, subst}
use Rattle.std.specs.List.{All}
use Rattle.events.specs.DeliveryRuns.{sent_as}
use Rattle.events.specs.declared.answer.Delivery.{Delivery}
use Rattle.events.proofs.Elements.{all_alike}
use Rattle.events.proofs.waiting.DeliveryRun.sid.Goals as goal

pub returns : goal.returns
returns c =
    let r = c.self.inside in
    subst (All (λ (d : Delivery). d.sid ≡ c.as_slice.result.now)) c.self.view_is
    (all_alike (sent_as r.sent r.sid) (λ d. d.sid) c.as_slice.result.now r.texts (λ t. sym c.as_slice.ensures))
