-- the tokens before the one that is at hand are names, and so far the bytes of it are a token's
use Rattle.subjects.proofs.Cuts.{IsWalked}
use Rattle.subjects.proofs.bytewise.is_subject.Given as goal

abbrev pub invariant-loop-at : goal.invariant-loop-at
invariant-loop-at l = IsWalked l.text l.start l.dots l.at
