use Rattle.std.proofs.Common.{◌∙◌, sym, List, ℕ, Bor}
use Rattle.pattern_sets.proofs.Parts.{taken_by}
use Rattle.pattern_sets.proofs.part.part_of.Goals as goal

pub loop-token-preserved : goal.loop-token-preserved
loop-token-preserved c =
    let next =
    taken_by (λ (t : Bor (List ℕ)). t.now) c.args.length.has_tail c.loop-token.left c.loop-token.rest c.loop-token.part.items c.push.new.self.items c.in-Some.token c.next_piece.new.self
    c.loop-token.invariant.0 c.in-Some.ensures (sym c.if-is_tail.ensures) c.in_ok-push.ensures.items in
    (next.0, next.1 ∙ c.loop-token.invariant.1)
