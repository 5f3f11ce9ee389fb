-- the text has no fault exactly where its tokens are a pattern
use Rattle.std.proofs.Common.{sym, ◌∙◌}
use Rattle.std.proofs.lemmas.Result.{err_from_is_err_and}
use Rattle.subjects.proofs.Grammar.{pattern_from_no_fault}
use Rattle.subjects.proofs.Exact.{pattern_refused}
use Rattle.subjects.proofs.pattern.Pattern.parse.Goals as goal

pub invariant_of-result : goal.invariant_of-result
invariant_of-result c =
    (rw c.in_ok-copy_from_slice-in-None.ensures (pattern_from_no_fault c.args.text.now (sym c.pattern_fault.ensures ∙ c.in-None.is)), rw (c.in_ok-copy_from_slice-in-None.ensures, ← c.tokens_in.ensures) c.of.ensures)

pub returns-in-Some-clause-grammar : goal.returns-in-Some-clause-grammar
returns-in-Some-clause-grammar c =
    pattern_refused c.args.text.now c.in-Some.fault (sym c.pattern_fault.ensures ∙ c.in-Some.is)

pub returns-in_ok-copy_from_slice-in-None-clause-grammar : goal.returns-in_ok-copy_from_slice-in-None-clause-grammar
returns-in_ok-copy_from_slice-in-None-clause-grammar c =
    pattern_from_no_fault c.args.text.now (sym c.pattern_fault.ensures ∙ c.in-None.is)

pub returns-in_err-copy_from_slice-in-None-clause-grammar : goal.returns-in_err-copy_from_slice-in-None-clause-grammar
returns-in_err-copy_from_slice-in-None-clause-grammar c =
    let p = err_from_is_err_and c.from_residual.result c.from_residual.ensures.1 in
    rw (p.1, p.2) (pattern_from_no_fault c.args.text.now (sym c.pattern_fault.ensures ∙ c.in-None.is))
