-- an account of a policy is text
use Rattle.std.proofs.Common.{◌≡◌, ◌∙◌, rules, IfOk, ap, sym, subst}
use Rattle.std.specs.Str.{IsUtf8}
use Rattle.policy_doc.specs.Faults.{fault_place}
use Rattle.policy_notes.specs.Places.{named_by, named_row}
use Rattle.policy_notes.proofs.Texts.{named_in, not_named}
use Rattle.policy_notes.proofs.place.path_of.Goals as goal

pub returns-in-Ok : goal.returns-in-Ok
returns-in-Ok c =
    let fault = c.in-Policy.fault in
    let is : c.in-Ok.account.now ≡ c.in-Policy.account = search rules in
    let text : IsUtf8 c.in-Policy.account = search rules in
    let same : named_row fault c.in-Ok.account.now (fault_place fault) ≡ named_by c.args.fault.now =
    ap (λ account. named_row fault account (fault_place fault)) is ∙ named_in fault c.in-Policy.account text ∙ sym (ap named_by c.in-Policy.is) in
    subst (λ wanted. IfOk c.path_of_row.result (λ found. found ≡ wanted)) same c.path_of_row.ensures

pub returns-in-Err : goal.returns-in-Err
returns-in-Err c =
    let other : IsUtf8 c.in-Policy.account → ⊥ = λ text. c.in-Err.ensures.cases.0 (search (rules, text)) in
    not_named c.in-Policy.fault c.in-Policy.account other ∙ sym (ap named_by c.in-Policy.is)
