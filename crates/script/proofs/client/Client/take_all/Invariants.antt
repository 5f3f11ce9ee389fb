-- what the Takes that are left come to, behind what is printed, is what all come to
use Rattle.std.proofs.Common.{◌-◌}
use Rattle.script.specs.Play.{takes}
use Rattle.script.proofs.Takes.{Completes}
use Rattle.script.proofs.client.Client.take_all.Given as goal

abbrev pub invariant-taking : goal.invariant-taking
invariant-taking l =
    Completes l.out.items (takes (l.most - l.counter) l.server l.self) l.initial.out.items (takes l.most l.initial.server l.initial.self)
