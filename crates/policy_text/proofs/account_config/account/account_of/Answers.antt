-- the fault of an account is that of its first key that has one
use Rattle.std.proofs.Common.{refl, sym}
use Rattle.std.proofs.lemmas.Result.{err_from_is_err_and}
use Rattle.policy_text.specs.account_config.Policy.{account_at}
use Rattle.policy_text.proofs.account_config.account.account_of.Goals as goal

pub returns-in_err-users : goal.returns-in_err-users
unfolding account_at
returns-in_err-users c =
    let p = err_from_is_err_and c.from_residual-in_err-users.result c.from_residual-in_err-users.ensures.1 in
    rw (p.1, p.2) (λ other. rw (c.in_ok-judge_account.ensures, sym c.in_ok-below.ensures, sym c.get.ensures, c.in_err-users.ensures other) refl)

pub returns-in_err-exports : goal.returns-in_err-exports
unfolding account_at
returns-in_err-exports c =
    let p = err_from_is_err_and c.from_residual-in_err-exports.result c.from_residual-in_err-exports.ensures.1 in
    rw (p.1, p.2) (λ other. rw (c.in_ok-judge_account.ensures, sym c.in_ok-below.ensures, sym c.get.ensures, c.in_ok-users.ensures, sym c.in_ok-below-2.ensures, sym c.get-2.ensures, c.in_err-exports.ensures other) refl)

pub returns-in_err-imports : goal.returns-in_err-imports
unfolding account_at
returns-in_err-imports c =
    let p = err_from_is_err_and c.from_residual-in_err-imports.result c.from_residual-in_err-imports.ensures.1 in
    rw (p.1, p.2) (λ other. rw (c.in_ok-judge_account.ensures, sym c.in_ok-below.ensures, sym c.get.ensures, c.in_ok-users.ensures, sym c.in_ok-below-2.ensures, sym c.get-2.ensures, c.in_ok-exports.ensures, sym c.in_ok-below-3.ensures, sym c.get-3.ensures, c.in_err-imports.ensures other) refl)

pub returns-in_err-mappings : goal.returns-in_err-mappings
unfolding account_at
returns-in_err-mappings c =
    let p = err_from_is_err_and c.from_residual-in_err-mappings.result c.from_residual-in_err-mappings.ensures.1 in
    rw (p.1, p.2) (λ other. rw (c.in_ok-judge_account.ensures, sym c.in_ok-below.ensures, sym c.get.ensures, c.in_ok-users.ensures, sym c.in_ok-below-2.ensures, sym c.get-2.ensures, c.in_ok-exports.ensures, sym c.in_ok-below-3.ensures, sym c.get-3.ensures, c.in_ok-imports.ensures, sym c.in_ok-below-4.ensures, sym c.get-4.ensures, c.in_err-mappings.ensures other) refl)

pub returns : goal.returns
unfolding account_at
returns c = rw (c.in_ok-judge_account.ensures, sym c.in_ok-below.ensures, sym c.get.ensures, c.in_ok-users.ensures, sym c.in_ok-below-2.ensures, sym c.get-2.ensures, c.in_ok-exports.ensures, sym c.in_ok-below-3.ensures, sym c.get-3.ensures, c.in_ok-imports.ensures, sym c.in_ok-below-4.ensures, sym c.get-4.ensures, c.in_ok-mappings.ensures) refl
