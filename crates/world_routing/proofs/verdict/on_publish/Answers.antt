-- what is remembered is what the lists say, and a live grant allows what they refuse
use Rattle.std.proofs.Common.{rules, ◌≡◌, ◌∙◌, subst, sym}
use Rattle.permissions.specs.Verdicts.{publish_verdict}
use Rattle.permissions.specs.verdict_cache.Verdicts.{Judges}
use Rattle.world_routing.specs.Remembered.{judged_by}
use Rattle.world_routing.proofs.Remembered.{judges, granted_is, denied_is, allowed_is}
use Rattle.world_routing.proofs.verdict.on_publish.Goals.{else-not-is_allowed-via-then-not-is_allowed+else-is_granted, else-not-is_allowed-via-else-not-is_allowed}
use Rattle.world_routing.proofs.verdict.on_publish.Goals as goal

pub returns-then-is_granted-clause-verdict : goal.returns-then-is_granted-clause-verdict
returns-then-is_granted-clause-verdict c =
    let doc = c.args._in_force.now in
    let z = c.args.session.now in
    let by = subst (λ user. Judges (judged_by doc) user z.user.rules) (sym c.as_slice.ensures) (judges doc z.user c.requires.user) in
    let listed : c.on_publish-verdict.result ≡ publish_verdict z.user.rules c.args.subject.now = c.on_publish-verdict.ensures.verdict (judged_by doc) c.requires.verdicts by in
    granted_is _ _ _ listed (search rules) (sym c.is_granted.ensures ∙ c.if-is_granted.true)

pub returns-else-not-is_allowed-clause-verdict : goal.returns-else-not-is_allowed-clause-verdict
returns-else-not-is_allowed-clause-verdict c =
    let doc = c.args._in_force.now in
    let z = c.args.session.now in
    let by = subst (λ user. Judges (judged_by doc) user z.user.rules) (sym c.as_slice.ensures) (judges doc z.user c.requires.user) in
    let listed : c.on_publish-verdict.result ≡ publish_verdict z.user.rules c.args.subject.now = c.on_publish-verdict.ensures.verdict (judged_by doc) c.requires.verdicts by in
    elim c.else-not-is_allowed.branch [
      | else-not-is_allowed-via-then-not-is_allowed+else-is_granted w ↦ denied_is _ _ _ listed (sym w.is_granted.ensures ∙ w.if-is_granted.false)
      | else-not-is_allowed-via-else-not-is_allowed w ↦ allowed_is _ _ _ listed (search rules)
    ]

pub returns-then-is_granted-clause-verdicts : goal.returns-then-is_granted-clause-verdicts
returns-then-is_granted-clause-verdicts c =
    let doc = c.args._in_force.now in
    let z = c.args.session.now in
    c.on_publish-verdict.ensures.kept (judged_by doc) c.requires.verdicts (subst (λ user. Judges (judged_by doc) user z.user.rules) (sym c.as_slice.ensures) (judges doc z.user c.requires.user))

pub returns-else-not-is_allowed-clause-verdicts : goal.returns-else-not-is_allowed-clause-verdicts
returns-else-not-is_allowed-clause-verdicts c =
    let doc = c.args._in_force.now in
    let z = c.args.session.now in
    c.on_publish-verdict.ensures.kept (judged_by doc) c.requires.verdicts (subst (λ user. Judges (judged_by doc) user z.user.rules) (sym c.as_slice.ensures) (judges doc z.user c.requires.user))
