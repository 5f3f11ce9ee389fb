-- the fault of the terms is that of their first key that has one
use Rattle.std.proofs.Common.{refl, sym}
use Rattle.std.proofs.lemmas.Result.{err_from_is_err_and}
use Rattle.policy_text.specs.rows.Exports.{response_at}
use Rattle.policy_text.proofs.rows.terms.response_of.Goals as goal

pub returns-in_err-single : goal.returns-in_err-single
unfolding response_at
returns-in_err-single c =
    let p = err_from_is_err_and c.from_residual-in_err-single.result c.from_residual-in_err-single.ensures.1 in
    rw (p.1, p.2) (λ other. rw (sym c.in_ok-below.ensures, sym c.get.ensures, c.in_err-single.ensures other) refl)

pub returns-in_err-ttl : goal.returns-in_err-ttl
unfolding response_at
returns-in_err-ttl c =
    let p = err_from_is_err_and c.from_residual-in_err-ttl.result c.from_residual-in_err-ttl.ensures.1 in
    rw (p.1, p.2) (λ other. rw (sym c.in_ok-below.ensures, sym c.get.ensures, c.in_ok-single.ensures, sym c.in_ok-below-2.ensures, sym c.get-2.ensures, c.in_err-ttl.ensures other) refl)

pub returns : goal.returns
unfolding response_at
returns c = rw (sym c.in_ok-below.ensures, sym c.get.ensures, c.in_ok-single.ensures, sym c.in_ok-below-2.ensures, sym c.get-2.ensures, c.in_ok-ttl.ensures) refl
