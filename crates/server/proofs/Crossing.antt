-- What the threads of a server have in common may be used by several of them at once.
use denote.RattleType.{RattleType}
use denote.Ref.{NamedLft}
use denote.Param.Send.{IsSync, sendable, recorded_sync, struct_sync, shr_sync}
use denote.Struct.Declared.{shape}
use Rattle.std.proofs.alloc.Global.TheSendSync as global
use Rattle.std.specs.declared.sync.ledger.Ledger.{Ghosts as Ledgers}
use Rattle.shared_hub.specs.declared.desk.desk.Run.{Ghosts as Runs}
use Rattle.server_state.proofs.mail.server_state.ServerState.TheSendSync as state
use Rattle.server.specs.contracts.threads.Common as common
use Rattle.server.proofs.reloads.installs.Installs.TheSendSync as installs
use Rattle.shared_hub.proofs.Crossing.{shared_sync}

pub common_sync : (κ : NamedLft) (L R : RattleType) (r : Runs L.Denot) (l : Ledgers L.Denot) → IsSync R → IsSync (common.the_row κ L R r l)
common_sync κ L R r l s =
    recorded_sync _ _ _ (common.the_type κ L R r l).to_one (struct_sync (shape (common.the_type κ L R r l)) (search (sendable, s), (global.the_field_sync, (shr_sync _ _ _ (shared_sync L r l), (search (sendable, state.the_sync), (search (sendable, installs.the_sync), tt))))))
