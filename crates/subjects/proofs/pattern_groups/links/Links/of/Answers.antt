use Rattle.std.proofs.Common.{◌≡◌, length, arith}
use Rattle.subjects.proofs.pattern_groups.Linked.{none_linked, ends_of, length_of}
use Rattle.subjects.proofs.pattern_groups.links.Links.of.Goals as goal

pub loop-done-init : goal.loop-done-init
loop-done-init c =
    let rows = c.next_power_of_two-rows.result in
    let firsts = c.in_ok-first.ensures.items_if_clones_equal (λ y e. e) in
    let nexts = c.in_ok-next.ensures.items_if_clones_equal (λ y e. e) in
    let many : length c.in_ok-first.first.items ≡ rows = length_of _ rows _ firsts in
    let each : length c.in_ok-next.next.items ≡ length c.args.hashes.now = length_of _ _ _ nexts in (
      none_linked c.args.hashes.now c.in_ok-first.first.items c.in_ok-next.next.items _ (omega arith) (omega arith)
          (omega (arith, many, c.requires.some, c.next_power_of_two-rows.ensures.lower_bound))
          each (λ row below. ends_of _ rows _ firsts row (omega (arith, many, below))),
      many,
    )
