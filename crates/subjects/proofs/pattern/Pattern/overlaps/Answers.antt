-- the test is a common subject, since the tokens of both are patterns
use Rattle.std.proofs.Common.{◌≡◌}
use Rattle.subjects.specs.Subject.{IsPattern, overlaps}
use Rattle.subjects.proofs.Sharing.{overlaps-Overlaps}
use Rattle.subjects.proofs.pattern.Pattern.overlaps.Goals as goal

pub returns-clause-common : goal.returns-clause-common
returns-clause-common c =
    let own : IsPattern c.args.self.now = rw (← c.self.view_is) c.self.invariant.0 in
    let other : IsPattern c.args.other.now = rw (← c.other.view_is) c.other.invariant.0 in
    let e : c.overlaps.result ≡ overlaps c.args.self.now c.args.other.now = cc in
    rw e (overlaps-Overlaps c.args.self.now c.args.other.now own other)
