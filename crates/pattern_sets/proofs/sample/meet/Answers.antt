use Rattle.std.proofs.Common.{◌∙◌, ◌<◌, sym, arith, length, List, ℕ, Bor}
use Rattle.pattern_sets.proofs.Texts.{meet_ended, meet_kept}
use Rattle.pattern_sets.proofs.sample.meet.Goals as goal

pub returns-then-not-agree-clause-value : goal.returns-then-not-agree-clause-value
returns-then-not-agree-clause-value c =
    let other : c.loop-at.at < length c.args.other.now = omega (arith, c.if-one-other.false, c.loop-at-test.true) in
    sym (sym c.loop-at.invariant ∙ meet_ended (λ (t : Bor (List ℕ)). t.now) c.args.one.now c.args.other.now c.loop-at.at _ _ c.loop-at-test.true other (sym c.agree.ensures ∙ c.if-not-agree.true))

pub loop-at-preserved : goal.loop-at-preserved
loop-at-preserved c =
    let other : c.loop-at.at < length c.args.other.now = omega (arith, c.if-one-other.false, c.loop-at-test.true) in
    sym (meet_kept (λ (t : Bor (List ℕ)). t.now) c.args.one.now c.args.other.now c.loop-at.at _ _ c.loop-at-test.true other (sym c.agree.ensures ∙ c.if-not-agree.false)) ∙ c.loop-at.invariant
