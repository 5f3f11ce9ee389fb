use Rattle.std.proofs.Common.{◌∙◌, ap, sym}
use Rattle.world_subscriptions.specs.Limit.{unended}
use Rattle.world_subscriptions.proofs.Apart.{limited-is, limited-none}
use Rattle.world_subscriptions.proofs.subscriptions.Subscriptions.limit.Goals as goal

pub returns-in-None : goal.returns-in-None
returns-in-None c =
    sym (ap unended (limited-none c.args.conn c.args.sid.now c.args.most c.args.self.now (sym c.in-None.ensures)) ∙ c.prove_invariant.ensures.going)

pub returns-in-Some : goal.returns-in-Some
returns-in-Some c =
    c.limit_one.ensures ∙ ap unended (sym (limited-is c.args.conn c.args.sid.now c.args.most c.in-Some.id c.args.self.now c.prove_invariant.ensures.apart (sym c.in-Some.ensures)))
