-- what is written, with a sample of what is left, is the whole sample
use Rattle.std.proofs.Common.{◌≡◌, ◌++◌, length}
use Rattle.subjects.specs.Outside.{dotted, sample, stand_ins}
use Rattle.subjects.proofs.outside.sample_text.Given as goal

abbrev pub invariant-loop-token : goal.invariant-loop-token
invariant-loop-token l =
    l.text.items ++ dotted (sample (stand_ins l.fn.tail) l.first l.second) ≡ dotted (sample (stand_ins l.fn.tail) l.fn.first l.fn.second)

abbrev pub decreases-loop-token : goal.decreases-loop-token
decreases-loop-token l = length l.second
