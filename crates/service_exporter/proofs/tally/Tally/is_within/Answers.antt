-- so many lived at most before, and no more do now
use Rattle.std.proofs.Common.{◌≤◌, arith}
use Rattle.std.proofs.lemmas.Bool.Decides.{nat_tests}
use Rattle.service_exporter.proofs.Tallies.{known_within}
use Rattle.service_exporter.proofs.tally.Tally.is_within.Goals as goal

pub returns-then-self-now : goal.returns-then-self-now
returns-then-self-now c = λ rs told tallied.
    let le : c.args.self.now.most ≤ c.args.most = grind (arith, nat_tests, told) in
    known_within c.args.self.now c.args.most c.args.now rs c.requires c.if-self-now.true le tallied
