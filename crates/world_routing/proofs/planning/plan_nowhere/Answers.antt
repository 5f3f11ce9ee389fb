-- a message that its account's mappings send on nowhere comes to its one item
use Rattle.std.proofs.Common.{◌∙◌, List, ap, sym}
use Rattle.world_sessions.specs.deliveries.Sessions.{session_of}
use Rattle.world_sessions.specs.declared.deliveries.session.Session.{Session}
use Rattle.world_routing.specs.declared.planning.Plan.{Plan}
use Rattle.world_routing.specs.declared.planning.Plan.TheVariants.{ToSome}
use Rattle.world_routing.proofs.Publishing.{planned_nowhere}
use Rattle.world_routing.proofs.planning.plan_nowhere.Goals as goal

pub returns-in_ok-answered-in-Some : goal.returns-in_ok-answered-in-Some
returns-in_ok-answered-in-Some c = record {
  planned = λ w of.
      let conn = c.args.publish.conn in
      let plan : Plan = ToSome c.args.by c.one.result c.no_deliveries-deliveries.result in
      planned_nowhere conn c.args.publish.message.now c.in-Some.session.now c.args.by c.args.item c.in_ok-answered-in-Some.answered c.requires.plain c.in_ok-answered-in-Some.ensures
      w (c.in-Some.ensures ∙ ap (λ (zs : List Session). session_of zs conn) (sym of)) plan
      (λ i. ToSome c.args.by (c.one.ensures i) (record { all = c.no_deliveries-deliveries.ensures.all i; answered = c.no_deliveries-deliveries.ensures.answered i }));
}
