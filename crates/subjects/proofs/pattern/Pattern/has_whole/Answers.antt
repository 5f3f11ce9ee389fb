-- where the fingerprints differ it isn't covered
use Rattle.std.proofs.Common.{sym}
use Rattle.subjects.proofs.pattern.Pattern.has_whole.Goals as goal

pub returns-then-not-may_cover : goal.returns-then-not-may_cover
returns-then-not-may_cover c =
    sym (c.may_cover.ensures c.args.self.now c.args.other.now (rw (← c.self.view_is) c.self.invariant.1) (rw (← c.other.view_is) c.other.invariant.1) c.if-not-may_cover.true)
