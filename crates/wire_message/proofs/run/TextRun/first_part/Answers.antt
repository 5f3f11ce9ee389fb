use Rattle.std.proofs.Common.{◌≡◌, ◌+◌, ◌-◌, map, take, drop, sym, ap, ◌∙◌, arith}
use Rattle.std.proofs.lemmas.List.{take-map}
use Rattle.wire_message.specs.Runs.{spot_texts}
use Rattle.wire_message.proofs.run.TextRun.first_part.Goals as goal

pub returns : goal.returns
returns c =
    let inside = c.self.inside in
    let count = c.args.count in
    let f = spot_texts inside.block in
    let left = drop inside.gone inside.spots.items in
    let size : inside.gone + count - inside.gone ≡ count = omega arith in
    ap (λ b. map (spot_texts b) c.in_ok-spots.spots.items) c.in_ok-block.ensures
    ∙ ap (map f) (c.in_ok-spots.ensures.items ∙ ap (λ k. take k (drop inside.gone c.deref.result.now)) size ∙ ap (λ xs. take count (drop inside.gone xs)) c.deref.ensures.value)
    ∙ sym (take-map f count left)
    ∙ ap (take count) c.self.view_is
