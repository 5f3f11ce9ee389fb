-- the fault of a destination's template is that of its first part that has one
use Rattle.std.proofs.Common.{refl, sym}
use Rattle.std.proofs.lemmas.Result.{err_from_is_err_and}
use Rattle.policy_text.specs.mappings.Mappings.{template_at}
use Rattle.policy_text.proofs.mappings.destination.template_of.Goals as goal

pub returns-in_err-text-clause-template : goal.returns-in_err-text-clause-template
unfolding template_at
returns-in_err-text-clause-template c =
    let p = err_from_is_err_and c.from_residual.result c.from_residual.ensures.1 in
    rw (p.1, p.2) (λ other. rw (c.in_err-text.ensures other) refl)

pub returns-in_err-template_from-clause-template : goal.returns-in_err-template_from-clause-template
unfolding template_at
returns-in_err-template_from-clause-template c =
    let p = err_from_is_err_and c.from_residual-in_err-template_from.result c.from_residual-in_err-template_from.ensures.1 in
    rw (p.1, p.2) (λ other. rw (c.in_ok-text.ensures, sym c.in_ok-below.ensures, c.in_err-template_from.ensures.template other) refl)

pub returns-clause-template : goal.returns-clause-template
unfolding template_at
returns-clause-template c = rw (c.in_ok-text.ensures, sym c.in_ok-below.ensures, c.in_ok-template_from.ensures.template) refl
