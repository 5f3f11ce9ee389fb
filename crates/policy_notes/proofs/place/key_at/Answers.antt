-- what begins at the byte is text, or it is none
use Rattle.std.proofs.Common.{◌≡◌, ◌∙◌, rules, IfOk, List, ℕ, ap, drop, string_bytes, subst}
use Rattle.std.specs.Option.{option_map}
use Rattle.std.specs.Str.{IsUtf8}
use Rattle.json.specs.Lex.{tokens}
use Rattle.json.specs.Print.{quoted}
use Rattle.policy_notes.specs.Places.{first_key, key_at}
use Rattle.policy_notes.proofs.Keys.{key_of_text, no_key}
use Rattle.policy_notes.proofs.place.key_at.Goals as goal

pub returns-in-Ok : goal.returns-in-Ok
returns-in-Ok c =
    let is : c.in-Ok.rest.now ≡ drop c.args.at c.args.text.now = search rules in
    let text : IsUtf8 (drop c.args.at c.args.text.now) = search rules in
    let same : option_map quoted (first_key (tokens c.in-Ok.rest.now)) ≡ key_at c.args.text.now c.args.at =
    ap (λ (t : List ℕ). option_map quoted (first_key (tokens t))) is ∙ key_of_text c.args.text.now c.args.at text in
    subst (λ wanted. IfOk c.first_key.result (λ shown. option_map string_bytes shown ≡ wanted)) same c.first_key.ensures

pub returns-in-Err : goal.returns-in-Err
returns-in-Err c =
    let other : IsUtf8 (drop c.args.at c.args.text.now) → ⊥ = λ text. c.in-Err.ensures.cases.0 (search (rules, text)) in
    no_key c.args.text.now c.args.at other
