-- the fault of a user is that of its first part that has one
use Rattle.std.proofs.Common.{refl}
use Rattle.std.proofs.lemmas.Result.{err_from_is_err_and}
use Rattle.policy_text.specs.account_config.Policy.{user_at}
use Rattle.policy_text.proofs.account_config.user.user_of.Goals as goal

pub returns-in_err-judge : goal.returns-in_err-judge
unfolding user_at
returns-in_err-judge c =
    let p = err_from_is_err_and c.from_residual.result c.from_residual.ensures.1 in
    rw (p.1, p.2) (λ other. rw (c.in_err-judge.ensures other) refl)

pub returns-in_err-user : goal.returns-in_err-user
unfolding user_at
returns-in_err-user c =
    let p = err_from_is_err_and c.from_residual-in_err-user.result c.from_residual-in_err-user.ensures.1 in
    rw (p.1, p.2) (λ other. rw (c.in_ok-judge.ensures, c.in_err-user.ensures other) refl)

pub returns-in_err-password : goal.returns-in_err-password
unfolding user_at
returns-in_err-password c =
    let p = err_from_is_err_and c.from_residual-in_err-password.result c.from_residual-in_err-password.ensures.1 in
    rw (p.1, p.2) (λ other. rw (c.in_ok-judge.ensures, c.in_ok-user.ensures, c.in_err-password.ensures other) refl)

pub returns-in_err-permissions : goal.returns-in_err-permissions
unfolding user_at
returns-in_err-permissions c =
    let p = err_from_is_err_and c.from_residual-in_err-permissions.result c.from_residual-in_err-permissions.ensures.1 in
    rw (p.1, p.2) (λ other. rw (c.in_ok-judge.ensures, c.in_ok-user.ensures, c.in_ok-password.ensures, c.in_err-permissions.ensures other) refl)

pub returns : goal.returns
unfolding user_at
returns c = rw (c.in_ok-judge.ensures, c.in_ok-user.ensures, c.in_ok-password.ensures, c.in_ok-permissions.ensures) refl
