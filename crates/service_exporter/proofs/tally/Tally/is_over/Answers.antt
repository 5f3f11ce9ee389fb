-- so many live at least later, and no fewer do now
use Rattle.std.proofs.Common.{◌<◌, arith}
use Rattle.std.proofs.lemmas.Bool.Decides.{nat_tests}
use Rattle.service_exporter.proofs.Tallies.{known_over}
use Rattle.service_exporter.proofs.tally.Tally.is_over.Goals as goal

pub returns-then-now-self : goal.returns-then-now-self
returns-then-now-self c = λ rs told tallied.
    let lt : c.args.most < c.args.self.now.least = grind (arith, nat_tests, told) in
    known_over c.args.self.now c.args.most c.args.now rs c.if-now-self.true lt tallied
