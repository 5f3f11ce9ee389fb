use Rattle.std.proofs.Common.{◌≡◌, ◌++◌}
use Rattle.sublist.proofs.ids.append_set.Given as goal

-- what is appended and what is left are all of them
abbrev pub invariant-loop-id : goal.invariant-loop-id
invariant-loop-id l = l.found.items ++ l.id-iterator ≡ l.initial.found.items ++ l.ids.keys
