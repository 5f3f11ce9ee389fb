-- How much of a round's share an answer is.
use Rattle.std.specs.Prelude.{ℕ, ◌+◌, length}
use Rattle.std.specs.Io.Iter.{u64_saturate}
use Rattle.events.specs.declared.answer.Outcome.{Outcome}
use Rattle.events.specs.declared.answer.Outcome.TheVariants.{Published, Taken}

-- one, and one for each delivery of a message; what a connection takes is its own
abbrev pub work : Outcome → ℕ
work (Published _ met) = u64_saturate (length met + 1)
work (Taken _ _) = 0
work _ = 1
