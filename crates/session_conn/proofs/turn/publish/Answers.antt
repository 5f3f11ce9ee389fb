-- what was answered is told; of a message that is published nothing, where no answer was asked for
use Rattle.std.proofs.Common.{◌≡◌, ◌∙◌, [], Some, inr, sym, subst}
use Rattle.std.proofs.lemmas.List.{append-nil}
use Rattle.session_plan.specs.Replies.{told_text}
use Rattle.session_plan.specs.declared.plan.Plan.{Plan}
use Rattle.session_conn.specs.Turns.{Turned, port_of, Goes, turn_after, outcome_of, IsPlanned, IsFrameTurn}
use Rattle.session_conn.proofs.Told.{told_nothing, turned_so}
use Rattle.session_conn.proofs.turn.publish.Goals as goal

pub returns-then-is_quiet-clause-turn : goal.returns-then-is_quiet-clause-turn
returns-then-is_quiet-clause-turn g c =
    let outcome = outcome_of c.in-Some.answer in
    let told = told_nothing c.args.context.stage c.args.frame.now (Some c.word_of-drawn.result) outcome (sym c.is_quiet.ensures ∙ c.if-is_quiet.true) in (
      [],
      inr (inr (subst (λ (plan : Plan). IsPlanned (port_of g.P.Port.steps g.P.Port.posts g.P.Port.holds) g.W.Words.draws c.args.context.moment c.args.context.conn c.args.context.stage c.args.context.word c.args.frame.now c.args.port.now c.args.words.now (Goes (told_text [] c.args.context.stage)) c.offer.new.port c.word_of-drawn.new.words plan)
          (sym c.requires.plan)
          (outcome, c.word_of-drawn.result, c.word_of-drawn.ensures, c.in-Some.ensures.offered, sym told))),
      sym (append-nil c.args.out.now.items),
    )

pub returns-clause-turn : goal.returns-clause-turn
returns-clause-turn g c =
    let outcome = outcome_of c.in-Some.answer in
    turned_so (λ (t : Turned). t ≡ turn_after c.args.context.stage c.args.context.stage c.args.frame.now (Some c.word_of-drawn.result) outcome)
    (λ (t : Turned). IsFrameTurn (port_of g.P.Port.steps g.P.Port.posts g.P.Port.holds) g.W.Words.draws c.args.context.moment c.args.context.conn c.args.context.stage c.args.context.word c.args.frame.now c.args.port.now c.args.words.now t c.offer.new.port c.word_of-drawn.new.words)
    c.turn_of_answer.result c.args.out.now.items c.turn_of_answer.new.out.items
    (λ t is. inr (inr (subst (λ (plan : Plan). IsPlanned (port_of g.P.Port.steps g.P.Port.posts g.P.Port.holds) g.W.Words.draws c.args.context.moment c.args.context.conn c.args.context.stage c.args.context.word c.args.frame.now c.args.port.now c.args.words.now t c.offer.new.port c.word_of-drawn.new.words plan)
    (sym c.requires.plan)
    (outcome, c.word_of-drawn.result, c.word_of-drawn.ensures, c.in-Some.ensures.offered, is))))
    c.turn_of_answer.ensures
