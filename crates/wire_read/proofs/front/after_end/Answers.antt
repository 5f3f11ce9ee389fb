use Rattle.std.proofs.Common.{◌≡◌, ◌+◌, ◌≤◌, ℕ, List, drop, length-take, take, sym, ap, ◌∙◌, subst, arith}
use Rattle.std.proofs.lemmas.Grind.{common_steps}
use Rattle.wire_read.specs.lines.Line.{without_cr}
use Rattle.wire_read.specs.Command.{command, Alone, Publish, Refused}
use Rattle.wire_read.specs.Front.{after_announced}
use Rattle.wire_read.specs.Places.{announced_at, frame_at, IsInOrder}
use Rattle.wire_read.specs.Awaited.{IsFound, AwaitsBlock, front_of}
use Rattle.wire_read.proofs.lines.LineLemmas.{without_cr-bounds}
use Rattle.wire_read.proofs.TextLemmas.{in_order, same_texts}
use Rattle.wire_read.proofs.SaysLemmas.{command_within, command_total}
use Rattle.wire_read.proofs.AwaitedLemmas.{found_refused, found_alone, found_published, if_both}
use Rattle.wire_read.proofs.front.after_end.Goals as goal

pub publish-requires-clause-head : goal.publish-requires-clause-head
publish-requires-clause-head c =
    let text = take c.len_without_cr-len.result c.as_slice-2.result.now in
    command_within text (announced_at text c.in-Publish.line) (sym c.in-Publish.ensures.says)

pub publish-requires-clause-total : goal.publish-requires-clause-total
publish-requires-clause-total c =
    let text = take c.len_without_cr-len.result c.as_slice-2.result.now in
    command_total text (announced_at text c.in-Publish.line) (sym c.in-Publish.ensures.says)

pub publish-requires-clause-order : goal.publish-requires-clause-order
publish-requires-clause-order c =
    let len = c.len_without_cr-len.result in
    let bytes = c.args.bytes.now in
    let order = subst (λ (t : List ℕ). IsInOrder (take len t) c.in-Publish.line) c.as_slice-2.ensures c.in-Publish.ensures.order in
    let few : len ≤ c.args.end + 1 =
    omega (arith, c.len_without_cr-len.ensures, (without_cr-bounds (take c.args.end c.as_slice.result.now)).0, length-take c.args.end c.as_slice.result.now) in
    in_order bytes len (c.args.end + 1) c.in-Publish.line order few

pub returns-in-Refused : goal.returns-in-Refused
returns-in-Refused c =
    let len = c.len_without_cr-len.result in
    let text = take len c.args.bytes.now in
    let line : text ≡ without_cr (take c.args.end c.args.bytes.now) = grind (arith, common_steps) in
    let says = subst (λ (t : List ℕ). Refused c.in-Refused.fault ≡ command (take len t)) c.as_slice-2.ensures c.in-Refused.ensures.says in
    found_refused c.args.bytes.now text c.args.end c.in-Refused.fault c.requires.line line says

pub returns-in_ok-frame_of-in-Alone : goal.returns-in_ok-frame_of-in-Alone
returns-in_ok-frame_of-in-Alone c =
    let len = c.len_without_cr-len.result in
    let text = take len c.args.bytes.now in
    let line : text ≡ without_cr (take c.args.end c.args.bytes.now) = grind (arith, common_steps) in
    let says = subst (λ (t : List ℕ). Alone (frame_at (take len t) c.in-Alone.frame) ≡ command (take len t)) c.as_slice-2.ensures c.in-Alone.ensures.says in
    found_alone c.args.bytes.now text c.args.end c.in_ok-frame_of-in-Alone.field-0 c.requires.line line (ap Alone c.in_ok-frame_of-in-Alone.ensures ∙ says)

pub returns-in-Publish : goal.returns-in-Publish
returns-in-Publish c =
    let len = c.len_without_cr-len.result in
    let bytes = c.args.bytes.now in
    let text = take len bytes in
    let found = c.in-Publish.line in
    let line : text ≡ without_cr (take c.args.end bytes) = grind (arith, common_steps) in
    let says = subst (λ (t : List ℕ). Publish (announced_at (take len t) found) ≡ command (take len t)) c.as_slice-2.ensures c.in-Publish.ensures.says in
    let order = subst (λ (t : List ℕ). IsInOrder (take len t) found) c.as_slice-2.ensures c.in-Publish.ensures.order in
    let few : len ≤ c.args.end + 1 =
    omega (arith, c.len_without_cr-len.ensures, (without_cr-bounds (take c.args.end c.as_slice.result.now)).0, length-take c.args.end c.as_slice.result.now) in
    let same : announced_at (take (c.args.end + 1) bytes) found ≡ announced_at text found =
    same_texts bytes len (c.args.end + 1) found order few in
    let message = announced_at text found in
    if_both c.publish.result
    (λ f. front_of f ≡ after_announced (announced_at (take (c.args.end + 1) bytes) found) (c.args.end + 1) (drop (c.args.end + 1) bytes))
    (λ f. AwaitsBlock f (c.args.end + 1 + found.total))
    (λ f. IsFound f bytes)
    (λ f by block. found_published bytes text c.args.end message f c.requires.line line says (by ∙ ap (λ a. after_announced a (c.args.end + 1) (drop (c.args.end + 1) bytes)) same) block)
    c.publish.ensures.front
    c.publish.ensures.awaited
