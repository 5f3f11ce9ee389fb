use Rattle.std.proofs.Common.{drop, map, sym, ap, ◌∙◌}
use Rattle.std.proofs.lemmas.List.{drop-map}
use Rattle.events.specs.DeliveryRuns.{sent_as}
use Rattle.events.proofs.waiting.DeliveryRun.leave_out.Goals as goal

pub returns : goal.returns
returns c =
    let r = c.self.inside in
    ap (map (sent_as r.sent r.sid)) c.drop_first.ensures
    ∙ sym (drop-map (sent_as r.sent r.sid) c.args.count r.texts)
    ∙ ap (drop c.args.count) c.self.view_is
