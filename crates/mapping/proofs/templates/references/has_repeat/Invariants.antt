-- what is left decides the same as the whole
use Rattle.std.proofs.Common.{◌≡◌, drop}
use Rattle.mapping.specs.templates.Wildcards.{has_repeat}
use Rattle.mapping.proofs.templates.references.has_repeat.Given as goal

abbrev pub invariant-loop-at : goal.invariant-loop-at
invariant-loop-at l = has_repeat (drop l.at l.numbers) ≡ has_repeat l.numbers
