-- The verdict that is given for what was found is that of the question.
use Rattle.std.proofs.Common.{◌≡◌, ◌∙◌, List, Option, Some, ap, sym}
use Rattle.std.specs.Option.{option_and_then}
use Rattle.permissions.specs.Lists.{Queue}
use Rattle.permissions.specs.declared.verdict.Verdict.{Verdict}
use Rattle.policy_doc.specs.Accounts.{Name}
use Rattle.subjects.specs.Subject.{Token}

pub asked : (verdict : Name → List Token → Queue → Option Verdict) (who name : Name) (found parsed : Option (List Token)) (s : List Token) (given named : Option Queue) (queue : Queue) →
    who ≡ name → found ≡ parsed → found ≡ Some s → given ≡ named → given ≡ Some queue →
    verdict who s queue ≡ option_and_then (λ t. option_and_then (verdict name t) named) parsed
asked verdict who name found parsed s given named queue same is some is_queue some_queue =
    ap (λ w. verdict w s queue) same ∙ sym (ap (option_and_then (verdict name s)) (sym is_queue ∙ some_queue))
    ∙ sym (ap (option_and_then (λ t. option_and_then (verdict name t) named)) (sym is ∙ some))
