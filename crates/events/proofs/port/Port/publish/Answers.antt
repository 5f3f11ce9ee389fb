-- each message is offered behind those before it
use Rattle.std.proofs.Common.{◌≡◌, ◌∙◌, [], sym, refl, arith}
use Rattle.std.proofs.lemmas.Grind.{common_steps}
use Rattle.events.specs.declared.run.RunEnd.TheVariants as run
use Rattle.events.proofs.Posted.{posted_more, posted_ended, posted_all}
use Rattle.events.proofs.port.Port.publish.Goals as goal

pub loop-message-init : goal.loop-message-init
loop-message-init g c = record { place = refl; posted = λ end rest p' w' h. h }

pub returns-then-not-was_published-clause-posted : goal.returns-then-not-was_published-clause-posted
returns-then-not-was_published-clause-posted g c =
    posted_ended g.Self.Port.posts g.Self.Port.holds g.W.Words.draws c.args.conn c.args.now c.args.messages.now.items c.args.self.now c.args.words.now
    c.loop-message.messages.items c.in-Some.message c.pop_front.new.self.items c.loop-message.self c.loop-message.words c.next-word.result c.next-word.new.self
    (run.Answered c.in-Ok.answer) c.offer.new.self c.in-Some.ensures.items c.loop-message.invariant.posted c.next-word.ensures c.in-Ok.ensures.offered

pub returns-in-Err-clause-posted : goal.returns-in-Err-clause-posted
returns-in-Err-clause-posted g c =
    posted_ended g.Self.Port.posts g.Self.Port.holds g.W.Words.draws c.args.conn c.args.now c.args.messages.now.items c.args.self.now c.args.words.now
    c.loop-message.messages.items c.in-Some.message c.pop_front.new.self.items c.loop-message.self c.loop-message.words c.next-word.result c.next-word.new.self
    (run.Stopped c.next-word.result c.in-Err.refusal) c.offer.new.self c.in-Some.ensures.items c.loop-message.invariant.posted c.next-word.ensures
    (refl, (c.in-Err.event, c.in-Err.ensures.offered))

pub loop-message-preserved : goal.loop-message-preserved
loop-message-preserved g c = record {
  place = c.in-Ok.ensures.place ∙ c.loop-message.invariant.place;
  posted = posted_more g.Self.Port.posts g.Self.Port.holds g.W.Words.draws c.args.conn c.args.now c.args.messages.now.items c.args.self.now c.args.words.now
      c.loop-message.messages.items c.in-Some.message c.pop_front.new.self.items c.loop-message.self c.loop-message.words c.next-word.result c.next-word.new.self
      c.in-Ok.answer c.offer.new.self c.in-Some.ensures.items c.loop-message.invariant.posted c.next-word.ensures c.in-Ok.ensures.offered
      (sym c.was_published.ensures ∙ c.if-not-was_published.false);
}

pub returns-clause-posted : goal.returns-clause-posted
returns-clause-posted g c =
    let none : c.loop-message.messages.items ≡ [] = grind (arith, common_steps) in
    let gone : c.pop_front.new.self.items ≡ [] = grind (arith, common_steps) in
    posted_all g.Self.Port.posts g.Self.Port.holds g.W.Words.draws c.args.conn c.args.now c.args.messages.now.items c.args.self.now c.args.words.now
    c.loop-message.messages.items c.pop_front.new.self.items c.loop-message.self c.loop-message.words none gone c.loop-message.invariant.posted
