-- of the first 100
use Rattle.std.proofs.Common.{◌≡◌, ◌∙◌, rules, ap, map, min, length, take, string_bytes}
use Rattle.policy_notes.specs.positions.Repeats.{repeated, repeats_of}
use Rattle.policy_notes.specs.Notes.{warning}
use Rattle.policy_notes.proofs.Few.{take_few}
use Rattle.policy_notes.proofs.notes.warnings_of.Goals as goal

pub returns : goal.returns
returns c =
    let all = c.in_ok-repeats.repeats.items in
    let few : map string_bytes c.in_ok-warnings.warnings.items ≡ map (λ r. warning c.args.text.now (repeated r)) (take (min (length all) 100) all) = search rules in
    let same : map repeated all ≡ repeats_of c.args.spots.now = search rules in
    few ∙ take_few repeated (warning c.args.text.now) all 100 ∙ ap (λ l. map (warning c.args.text.now) (take 100 l)) same
