-- those that are let on are what has been noted
use Rattle.std.proofs.Common.{◌≡◌, ◌∙◌, ◌++◌, List, ℕ, length, take, drop, ap, arith}
use Rattle.std.proofs.lemmas.List.{take_rest}
use Rattle.shared_waits.specs.Waiting.{under, all_but}
use Rattle.shared_waits.proofs.Lists.{behind}
use Rattle.shared_waits.proofs.waits.let_some_on.Goals as goal

pub returns-clause-left : goal.returns-clause-left
returns-clause-left c =
    let ws = c.args.publishers.now.entries in
    let start : c.len-start.result ≡ length c.args.freed.now.items = omega (arith, c.args.freed.now.ok.0) in
    c.leave_some.ensures
    ∙ ap (λ (l : List ℕ). all_but c.args.receiver l ws)
    (take_rest c.as_slice.result.now c.len-start.result
    ∙ ap (drop c.len-start.result) (c.as_slice.ensures.value ∙ c.note_first.ensures)
    ∙ ap (λ n. drop n (c.args.freed.now.items ++ take 64 (under c.args.receiver ws))) start
    ∙ behind c.args.freed.now.items (take 64 (under c.args.receiver ws)))
