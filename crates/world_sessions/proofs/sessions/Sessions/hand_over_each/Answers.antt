-- each delivery that is taken out was the first of those left
use Rattle.std.proofs.Common.{◌∙◌, List, ap, sym, rules}
use Rattle.std.specs.Vec.ExtractIf.{extract_if_rest}
use Rattle.events.specs.declared.answer.Addressed.{Addressed}
use Rattle.world_sessions.specs.declared.deliveries.session.Session.{Session}
use Rattle.world_sessions.specs.deliveries.Delivered.{delivered}
use Rattle.world_sessions.proofs.Lists.{taken_first, taken_none}
use Rattle.world_sessions.proofs.sessions.Sessions.hand_over_each.Goals as goal

pub loop-next-preserved : goal.loop-next-preserved
loop-next-preserved c =
    let first = taken_first _ (λ s x b t y called. search rules) _ _ _ _ _ _ c.in-Some.ensures.steps.0.1 in
    ap (λ (zs : List Session). (delivered c.args.now (extract_if_rest c.next.new.self) zs).0) c.hand_over.ensures
    ∙ ap (λ (xs : List Addressed). (delivered c.args.now xs c.loop-next.self).0) (sym first)
    ∙ c.loop-next.invariant

pub returns : goal.returns
returns c =
    let none = taken_none _ (λ s x b t y called. search rules) _ _ _ _ _ c.in-None.ensures.steps.0.1 in
    ap (λ (xs : List Addressed). (delivered c.args.now xs c.loop-next.self).0) (sym none)
    ∙ c.loop-next.invariant
