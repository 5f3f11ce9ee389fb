-- what is left decides the same as the whole
use Rattle.std.proofs.Common.{◌≡◌, ◌+◌, ◌-◌}
use Rattle.std.specs.List.{list_all, range_with_len}
use Rattle.mapping.specs.templates.Wildcards.{contains, has_each}
use Rattle.mapping.proofs.templates.references.has_each.Given as goal

abbrev pub invariant-loop-number : goal.invariant-loop-number
invariant-loop-number l =
    list_all (λ n. contains n l.numbers) (range_with_len l.number (l.count + 1 - l.number)) ≡ has_each l.count l.numbers
