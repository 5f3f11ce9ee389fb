use Rattle.std.proofs.Common.{◌∙◌, ap}
use Rattle.std.specs.Option.{is_some}
use Rattle.world_subscriptions.proofs.BySid.{stands_by}
use Rattle.world_subscriptions.proofs.subscriptions.Subscriptions.stands.Goals as goal

pub returns : goal.returns
returns c = c.is_some.ensures ∙ ap is_some c.id_of.ensures ∙ stands_by c.args.self.now c.args.conn c.args.sid.now
