-- by whether the name is text
use Rattle.std.proofs.Common.{◌≡◌, ◌∙◌, rules, Some, ap}
use Rattle.std.specs.Str.{IsUtf8}
use Rattle.policy_notes.proofs.paths.Names.{is_none, is_text}
use Rattle.policy_notes.proofs.paths.user.text_if.Goals as goal

pub returns-in-Ok : goal.returns-in-Ok
returns-in-Ok c =
    let same : c.in-Ok.text.now ≡ c.args.name.now = search rules in
    let text : IsUtf8 c.args.name.now = search rules in
    ap Some same ∙ is_text c.args.name.now text

pub returns-in-Err : goal.returns-in-Err
returns-in-Err c =
    let other : IsUtf8 c.args.name.now → ⊥ = λ text. c.in-Err.ensures.cases.0 (search (rules, text)) in
    is_none c.args.name.now other
