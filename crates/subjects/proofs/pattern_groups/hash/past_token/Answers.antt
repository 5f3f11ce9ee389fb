use Rattle.std.proofs.Common.{◌+◌, sym, subst, drop, slice_index_or}
use Rattle.std.proofs.lemmas.List.{at_drop_more}
use Rattle.subjects.specs.pattern_groups.Hashes.{IsPast}
use Rattle.subjects.proofs.pattern_groups.Fronts.{past_more}
use Rattle.subjects.proofs.pattern_groups.hash.past_token.Goals as goal

pub loop-at-preserved : goal.loop-at-preserved
loop-at-preserved c m behind past =
    c.loop-at.invariant m behind
    (subst (λ bs. IsPast c.loop-at.all bs m behind) (sym (at_drop_more (λ bs. bs) c.args.text.now c.loop-at.at 0 c.loop-at-test.true))
    (past_more c.loop-at.all (slice_index_or c.args.text.now c.loop-at.at 0) (drop (c.loop-at.at + 1) c.args.text.now) m behind c.if-byte-eq46.false
    (subst (λ n. IsPast n (drop (c.loop-at.at + 1) c.args.text.now) m behind) c.with_byte-all.ensures past)))
