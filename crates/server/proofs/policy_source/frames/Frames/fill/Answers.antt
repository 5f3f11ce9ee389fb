use Rattle.std.proofs.Common.{rules, arith, ◌≡◌, ◌∙◌, ◌-◌, length, refl}
use Rattle.server.proofs.policy_source.Grammar.{filled_more, length_more}
use Rattle.server.proofs.policy_source.frames.Frames.fill.Goals as goal

pub loop-done-preserved : goal.loop-done-preserved
loop-done-preserved g c =
    let rest : length c.read.new.buf ≡ length c.loop-done.buf - c.loop-done.done = search rules in
    let same = length_more c.loop-done.buf c.read.new.buf c.loop-done.done (length c.loop-done.buf - c.loop-done.done) c.loop-done.invariant.within refl rest in
    record {
      within = omega (arith, same, rest, c.in-Ok.ensures.bound, c.loop-done.invariant.within);
      whole = same ∙ c.loop-done.invariant.whole;
      read = filled_more _ _ _ c.loop-done.buf c.read.new.buf c.loop-done.done _ c.in-Ok.count c.loop-done.invariant.within (search rules) c.loop-done.invariant.read c.in-Ok.ensures.bytes.0;
      failed = search rules;
    }
