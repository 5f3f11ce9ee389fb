-- the run of this hub and this ledger, with a seat for each job
use Rattle.std.proofs.Common.{length}
use Rattle.test_shared_hub.proofs.runs.run.Given as goal

abbrev pub ghosts-shared-L-Run : goal.ghosts-shared-L-Run
ghosts-shared-L-Run g a = record { first = a.hub; opening = a.hub.world.number; seats = length a.jobs.now }

abbrev pub ghosts-shared-L-Ledger : goal.ghosts-shared-L-Ledger
ghosts-shared-L-Ledger g a = record { name = a.blank.name; parts = a.blank.parts }
