-- the fault of permissions is that of their first part that has one
use Rattle.std.proofs.Common.{refl}
use Rattle.std.proofs.lemmas.Result.{err_from_is_err_and}
use Rattle.policy_permissions.specs.Permissions.{permissions_at}
use Rattle.policy_permissions.proofs.direction.permissions_of.Goals as goal

pub returns-in_err-judge : goal.returns-in_err-judge
unfolding permissions_at
returns-in_err-judge c =
    let p = err_from_is_err_and c.from_residual.result c.from_residual.ensures.1 in
    rw (p.1, p.2) (λ other. rw (c.in_err-judge.ensures other) refl)

pub returns-in_err-publish : goal.returns-in_err-publish
unfolding permissions_at
returns-in_err-publish c =
    let p = err_from_is_err_and c.from_residual-in_err-publish.result c.from_residual-in_err-publish.ensures.1 in
    rw (p.1, p.2) (λ other. rw (c.in_ok-judge.ensures, c.in_err-publish.ensures other) refl)

pub returns-in_err-subscribe : goal.returns-in_err-subscribe
unfolding permissions_at
returns-in_err-subscribe c =
    let p = err_from_is_err_and c.from_residual-in_err-subscribe.result c.from_residual-in_err-subscribe.ensures.1 in
    rw (p.1, p.2) (λ other. rw (c.in_ok-judge.ensures, c.in_ok-publish.ensures, c.in_err-subscribe.ensures other) refl)

pub returns-in_err-allow_responses : goal.returns-in_err-allow_responses
unfolding permissions_at
returns-in_err-allow_responses c =
    let p = err_from_is_err_and c.from_residual-in_err-allow_responses.result c.from_residual-in_err-allow_responses.ensures.1 in
    rw (p.1, p.2) (λ other. rw (c.in_ok-judge.ensures, c.in_ok-publish.ensures, c.in_ok-subscribe.ensures, c.in_err-allow_responses.ensures other) refl)

pub returns : goal.returns
unfolding permissions_at
returns c = rw (c.in_ok-judge.ensures, c.in_ok-publish.ensures, c.in_ok-subscribe.ensures, c.in_ok-allow_responses.ensures) refl
