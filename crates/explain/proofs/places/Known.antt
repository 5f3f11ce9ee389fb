-- The verdict of what is explained.
use Rattle.std.proofs.Common.{◌≡◌, Option, Some, None, Ok, Err, ap, refl}
use Rattle.explain.specs.Fault.{Answers}
use Rattle.explain.specs.declared.explanation.Explanation.{Explanation}
use Rattle.explain.specs.declared.fault.ExplainFault.TheVariants.{NoSuchUser}
use Rattle.explain.specs.places.Verdict.{verdict_of}
use Rattle.permissions.specs.declared.verdict.Verdict.{Verdict}

pub known_verdict : (known : Option Explanation) (e : Explanation) → Answers NoSuchUser known (Ok e) → ◌≡◌ {A = Option Verdict} (Some e.verdict) (verdict_of known)
known_verdict None e h = absurd h
known_verdict (Some x) e h = ap (λ (y : Explanation). Some y.verdict) h

pub unknown_user : (known : Option Explanation) → Answers NoSuchUser known (Err NoSuchUser) → ◌≡◌ {A = Option Verdict} None (verdict_of known)
unknown_user None h = refl
unknown_user (Some x) h = absurd (cc)
