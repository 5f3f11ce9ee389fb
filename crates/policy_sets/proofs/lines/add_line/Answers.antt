-- the name at the place, behind a space unless it is the first
use Rattle.std.proofs.Common.{◌∙◌, ◌==◌, ◌++◌, List, ℕ, cond, codes, ap, sym, take, append_assoc}
use Rattle.std.specs.List.{join_with_byte}
use Rattle.policy_doc.specs.Accounts.{Name}
use Rattle.policy_sets.proofs.Printed.{line_more}
use Rattle.policy_sets.proofs.lines.add_line.Goals as goal

pub loop-place-preserved : goal.loop-place-preserved
loop-place-preserved c =
    let names = c.args.names.now in
    let place = c.loop-place.place in
    let before : List ℕ = c.args.line.now.items in
    let some : List ℕ = join_with_byte 32 (take place names) in
    let with_space : Name → List ℕ = λ n. cond (place == 0) n (codes " " ++ n) in
    c.in_ok-add_name.ensures ∙ ap (λ (l : List ℕ). l ++ with_space c.index-names-place.result) c.loop-place.invariant
    ∙ append_assoc before some (with_space c.index-names-place.result)
    ∙ ap (λ (l : List ℕ). before ++ l) (ap (λ (n : Name). some ++ with_space n) c.index-names-place.is ∙ sym (line_more names place c.index-names-place.result c.loop-place-test.true))
