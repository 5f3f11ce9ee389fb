-- the place where the workers work is lent to all their threads: what it lends may be used by several at once
use denote.Param.{param}
use denote.Param.Send.{IsSync, sendable, recorded_sync, struct_sync, shr_sync}
use denote.RattleType.{RattleType}
use denote.Ref.{NamedLft}
use denote.Struct.Declared.{shape}
use mir.Syntax.{named}
use Rattle.std.proofs.alloc.Global.TheSendSync as global
use Rattle.std.specs.declared.sync.ledger.Ledger.{Ghosts as Ledgers}
use Rattle.shared_hub.specs.declared.desk.desk.Run.{Ghosts as Runs}
use Rattle.shared_hub.proofs.Crossing.{shared_sync}
use Rattle.test_shared_hub.specs.contracts.worker.Place as place
use Rattle.test_shared_hub.proofs.runs.worked.Goals as goal

place_sync : (κ : NamedLft) (L R : RattleType) (r : Runs L.Denot) (l : Ledgers L.Denot) → IsSync R → IsSync (place.the_row κ L R r l)
place_sync κ L R r l s =
    recorded_sync _ _ _ (place.the_type κ L R r l).to_one (struct_sync (shape (place.the_type κ L R r l)) (search (sendable, s), (global.the_field_sync, (shr_sync _ _ _ (shared_sync L r l), tt))))

pub work_each-requires-sync-S : goal.work_each-requires-sync-S
work_each-requires-sync-S g c κs within =
    record { shared = (place_sync (record { mir = named 5; lft = κs.1.1.1.1.1.0 }) (param 0 g.row.L) (param 1 g.row.R) g.L.Run g.L.Ledger c.type_bounds.sync-R).shared }
