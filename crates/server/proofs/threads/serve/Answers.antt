-- what the threads have in common may be used by several of them at once
use denote.Param.{param}
use mir.Syntax.{named}
use Rattle.server.proofs.Crossing.{common_sync}
use Rattle.server.proofs.threads.serve.Goals as goal

pub run_all-requires-sync-T : goal.run_all-requires-sync-T
run_all-requires-sync-T g c κs within =
    record { shared = (common_sync (record { mir = named 5; lft = κs.1.1.1.1.1.0 }) (param 0 g.row.L) (param 1 g.row.R) g.L.Run g.L.Ledger c.type_bounds.sync-R).shared }
