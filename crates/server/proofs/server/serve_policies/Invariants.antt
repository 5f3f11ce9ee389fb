-- the run of the hub that begins here, with all its seats
use Rattle.server.proofs.server.serve_policies.Given as goal

abbrev pub ghosts-serve_run-L-Run : goal.ghosts-serve_run-L-Run
ghosts-serve_run-L-Run g a = record { first = a.hub; opening = 0; seats = a.seats }

abbrev pub ghosts-serve_run-L-Ledger : goal.ghosts-serve_run-L-Ledger
ghosts-serve_run-L-Ledger g a = record { name = a.blank.name; parts = a.blank.parts }
