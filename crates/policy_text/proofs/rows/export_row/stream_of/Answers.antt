-- the fault of an export is that of its first part that has one
use Rattle.std.proofs.Common.{refl}
use Rattle.std.proofs.lemmas.Result.{err_from_is_err_and}
use Rattle.policy_text.specs.rows.Exports.{stream_at}
use Rattle.policy_text.proofs.rows.export_row.stream_of.Goals as goal

pub returns-in_err-judge : goal.returns-in_err-judge
unfolding stream_at
returns-in_err-judge c =
    let p = err_from_is_err_and c.from_residual.result c.from_residual.ensures.1 in
    rw (p.1, p.2) (λ other. rw (c.in_err-judge.ensures other) refl)

pub returns-in_err-accounts : goal.returns-in_err-accounts
unfolding stream_at
returns-in_err-accounts c =
    let p = err_from_is_err_and c.from_residual-in_err-accounts.result c.from_residual-in_err-accounts.ensures.1 in
    rw (p.1, p.2) (λ other. rw (c.in_ok-judge.ensures, c.in_ok-subject.ensures, c.in_err-accounts.ensures other) refl)
