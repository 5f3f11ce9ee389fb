-- what the port below has posted, the port above has
use Rattle.std.proofs.Common.{◌≡◌, ◌<◌, ◌-◌, [], length, refl, arith}
use Rattle.std.proofs.lemmas.Grind.{common_steps}
use Rattle.server_stats.proofs.Pulled.{counted_none, counted_some, posted_below, posted_none}
use Rattle.server_stats.proofs.counting.CountingPort.publish.Goals as goal

pub returns-then-is_empty-clause-posted : goal.returns-then-is_empty-clause-posted
returns-then-is_empty-clause-posted g c = posted_none _ _ _ _ _ _ _ _ (grind (arith, common_steps))

pub returns-then-is_empty-clause-counted : goal.returns-then-is_empty-clause-counted
returns-then-is_empty-clause-counted g c = counted_none (length c.args.messages.now.items) (length c.args.messages.now.items) _ _ (grind (arith, common_steps))

pub returns-clause-posted : goal.returns-clause-posted
returns-clause-posted g c =
    let before = c.args.self.now in
    let after = record before { port = record before.port { now = c.publish-end.new.self }; counts = c.count_run.new.self } in
    let some : c.args.messages.now.items ≡ [] → ⊥ = λ none. absurd (grind (arith, common_steps, none)) in
    posted_below (λ x. x.port.now) (λ p. record after { port = record after.port { now = p } }) g.P.Port.posts g.P.Port.holds g.W.Words.draws c.args.conn c.args.now
    c.args.messages.now.items before c.args.words.now c.publish-end.result c.publish-end.new.messages.items after c.publish-end.new.words (λ x. refl) refl some c.publish-end.ensures.posted

pub returns-clause-counted : goal.returns-clause-counted
returns-clause-counted g c =
    let some : 0 < length c.args.messages.now.items = grind (arith, common_steps) in
    let offered : c.saturating_sub-offered.result ≡ length c.args.messages.now.items - length c.publish-end.new.messages.items = grind (arith, common_steps) in
    counted_some (length c.args.messages.now.items) (length c.publish-end.new.messages.items) c.publish-end.result c.args.self.now.counts c.count_run.new.self some
    (rw (c.count_run.ensures, offered))
