-- the test is inclusion and its failure a missing subject, since the other one's tokens are a pattern
use Rattle.std.proofs.Common.{◌≡◌}
use Rattle.subjects.specs.Subject.{IsPattern, covers}
use Rattle.subjects.proofs.Inclusion.{covers-Covers, covers-Lacks}
use Rattle.subjects.proofs.pattern.Pattern.covers.Goals as goal

pub returns-clause-inclusion : goal.returns-clause-inclusion
returns-clause-inclusion c =
    let h : IsPattern c.args.other.now = rw (← c.other.view_is) c.other.invariant.0 in
    let e : c.has_whole.result ≡ covers c.args.self.now c.args.other.now = cc in
    rw e (covers-Covers c.args.self.now c.args.other.now h)

pub returns-clause-missing : goal.returns-clause-missing
returns-clause-missing c =
    let h : IsPattern c.args.other.now = rw (← c.other.view_is) c.other.invariant.0 in
    let e : c.has_whole.result ≡ covers c.args.self.now c.args.other.now = cc in
    covers-Lacks c.args.self.now c.args.other.now c.has_whole.result e h
