use Rattle.std.proofs.Common.{◌∙◌, sym}
use Rattle.message_changes.proofs.Exact.{same_alike}
use Rattle.message_changes.proofs.reasons.first_between.Goals as goal

pub returns-then-are_alike-clause-none : goal.returns-then-are_alike-clause-none
returns-then-are_alike-clause-none c = λ none.
    same_alike c.args.kind c.args.one.now c.args.other.now (sym c.rules_of-own.ensures ∙ c.are_alike.ensures c.if-are_alike.true ∙ c.rules_of-others.ensures)
