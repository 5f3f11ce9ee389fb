use Rattle.std.proofs.Common.{◌≡◌, ◌∙◌, ◌<◌, ◌-◌, ap, sym, arith, length, map, take, List, ℕ, Bor}
use Rattle.subjects.specs.Outside.{dotted}
use Rattle.subjects.proofs.Missing.{undotted}
use Rattle.pattern_sets.specs.Samples.{either_each}
use Rattle.pattern_sets.proofs.Texts.{text_end, text_more}
use Rattle.pattern_sets.proofs.sample.common_text.Goals as goal

pub loop-at-preserved : goal.loop-at-preserved
loop-at-preserved c =
    let of = λ (t : Bor (List ℕ)). t.now in
    let other : c.loop-at.at < length c.args.other.now = omega (arith, c.requires, c.loop-at-test.true) in
    sym (text_more of c.args.fresh.now c.args.one.now c.args.other.now c.loop-at.at _ _ c.loop-at.text.items c.push_token.new.text.items c.either.result.now
    c.loop-at-test.true other c.either.ensures c.in_ok-push_token.ensures) ∙ c.loop-at.invariant

pub returns : goal.returns
returns c =
    let of = λ (t : Bor (List ℕ)). t.now in
    let all = either_each c.args.fresh.now (map of c.args.one.now) (map of c.args.other.now) in
    let whole : c.loop-at.text.items ≡ dotted all =
    sym (text_end of c.args.fresh.now c.args.one.now c.args.other.now c.loop-at.at c.loop-at.text.items (omega (arith, c.loop-at-test.false))) ∙ c.loop-at.invariant in
    c.pop-last_dot.ensures.rest ∙ ap (λ n. take (n - 1) c.loop-at.text.items) c.loop-at.text.ok.0 ∙ ap (λ bs. take (length bs - 1) bs) whole ∙ undotted all
