-- What a grant allows, and what is counted on it (docs/GUARANTEE.md, "Reply grants").
use Rattle.std.specs.Prelude.{◌&&◌, ℕ, Bool, not, List, if◌then◌else◌}
use Rattle.subjects.specs.Subject.{Token}
use Rattle.permissions.specs.Verdicts.{publish_verdict, is_allowed}
use Rattle.permissions.specs.declared.verdict.By.{By}
use Rattle.permissions.specs.declared.verdict.By.TheVariants.{All as AllowsAll, Index, Grant}
use Rattle.permissions.specs.declared.verdict.Verdict.{Verdict}
use Rattle.permissions.specs.declared.verdict.Verdict.TheVariants.{Allowed}
use Rattle.world_sessions.specs.deliveries.Sessions.{with_session}
use Rattle.world_sessions.specs.deliveries.Replying.{is_granted, responding, ending}
use Rattle.world_sessions.specs.declared.deliveries.session.Session.{Session}

-- what the lists refuse, a deny entry included, a live grant allows
abbrev pub or_granted : Bool → Verdict → Verdict
or_granted granted v = if not (is_allowed v) && granted then Allowed Grant else v

-- the verdict on a publish at a moment: the lists', and where they refuse, a grant's
abbrev pub verdict_on : ℕ → Session → List Token → Verdict
verdict_on now z s = or_granted (is_granted now s z) (publish_verdict z.user.rules s)

-- a publish that a grant has allowed is counted on it, before the message is delivered
abbrev pub counted_on : By → ℕ → List Token → List Session → List Session
counted_on AllowsAll conn s zs = zs
counted_on (Index i) conn s zs = zs
counted_on Grant conn s zs = with_session (responding s) conn zs

-- and after that the grant goes, where as many answers have passed on it as may
abbrev pub ended_on : By → ℕ → List Token → List Session → List Session
ended_on AllowsAll conn s zs = zs
ended_on (Index i) conn s zs = zs
ended_on Grant conn s zs = with_session (ending s) conn zs
