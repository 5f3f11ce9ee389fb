-- A shared hub may be used by several threads at once. The prover finds no such law by itself where a map's values hold maps
-- again (a tree's nodes) or are trees; so each type from a node up to the shared hub has it here, by its fields.
use denote.RattleType.{RattleType}
use denote.Param.Send.{IsSend, IsSync, sendable, recorded_send, struct_send, recorded_sync, struct_sync, part_keyless}
use denote.Struct.Declared.{shape}
use Rattle.std.proofs.Crossing.{frees, crosses}
use Rattle.std.proofs.MapsCrossingOver.{BTreeSet-send}
use Rattle.std.specs.contracts.prelude.U64Ord.TheImpl as u64_ord
use Rattle.std.specs.contracts.prelude.U64PartialEq.TheImpl as u64_eq
use Rattle.std.specs.contracts.prelude.U64PartialOrd.TheImpl as u64_partial
use Rattle.std.specs.contracts.hash.DefaultHasher as hasher
use denote.Builtin.{u8, u64}
use Rattle.std.specs.contracts.hash.BuildHasherDefault as by_default
use Rattle.std.specs.contracts.hash.FoldHasher as fold
use Rattle.std.specs.contracts.vec.Vec as vec_row
use Rattle.std.specs.contracts.alloc.Global as heap_row
use Rattle.std.specs.contracts.impls.GlobalAllocator.TheImpl.{ghosts}
use Rattle.sublist.specs.contracts.tree.Sublist as tree
use Rattle.sublist.specs.contracts.ids.Ids as ids
use Rattle.sublist.specs.contracts.node.Node as node
use Rattle.sublist.proofs.node.Node.TheLaws.TheKnot.{send-Node}
use Rattle.std.proofs.alloc.Global.TheSendSync as global
use Rattle.std.proofs.random_state.RandomState.TheSendSync as state
use Rattle.std.proofs.option.Option.TheSendSync as option
use Rattle.std.proofs.boxed.Box.TheSendSync as boxed
use Rattle.std.proofs.collections.HashMap.TheSendSync as hash_map
use Rattle.std.proofs.vec.Vec.TheSendSync as vec
use Rattle.world_subscriptions.specs.contracts.subscriptions.Subscriptions.TheInside as subs_in
use Rattle.world.specs.contracts.world.World.TheInside as world_in
use Rattle.world.specs.contracts.world.World as world
use Rattle.hub.specs.contracts.hub.Hub.TheInside as hub_in
use Rattle.hub.specs.contracts.hub.Hub as hub
use Rattle.policy_ready.proofs.ready.CompiledPolicy.TheSendSync as ready
use Rattle.world_sessions.proofs.sessions.Sessions.TheSendSync as sessions
use Rattle.world.proofs.Handed.{caches_send, routes_send}
use Rattle.hub.proofs.Handed.{history_send}
use Rattle.base.proofs.shared.Shared.TheSendSync as shared
use Rattle.world.proofs.plain.PlainWorld.TheSendSync as plain
use Rattle.shared_hub.specs.contracts.desk.desk.Desk as desk
use Rattle.shared_hub.specs.contracts.shared_hub.SharedHub as shared_row
use Rattle.std.proofs.sync.ledger.Book.TheSendSync as book
use Rattle.shared_waits.proofs.waits.Waits.TheSendSync as waits
use Rattle.std.proofs.sync.Mutex.TheSendSync as mutex
use Rattle.shared_hub.specs.declared.desk.desk.Run.{Ghosts as Runs}
use Rattle.std.specs.declared.sync.ledger.Ledger.{Ghosts as Ledgers}
use Rattle.std.specs.contracts.sync.ledger.Share as share_row
use Rattle.std.proofs.sync.ledger.Share.TheSendSync as share
use Rattle.shared_hub.specs.contracts.shared_hub.Rest as rest_row
use Rattle.world_rows.specs.contracts.ids.trees.Trees as trees
use Rattle.world_subscriptions.specs.contracts.subscriptions.Subscriptions as subs
use Rattle.world_rows.proofs.ids.sids.Sids.TheSendSync as sids
use Rattle.world_rows.proofs.ids.id_cache.IdCache.TheSendSync as id_cache
use Rattle.world_rows.proofs.rows.Rows.TheSendSync as rows

ids_send : IsSend (ids.the_field).row
ids_send = let m = boxed.the_send _ _ _ (BTreeSet-send u64 heap_row.the_row u64_ord.ghosts u64_eq.ghosts u64_partial.ghosts ghosts (search sendable) global.the_send frees) global.the_send frees in search sendable depth 20

u8s_send : IsSend (vec_row.the_row u8 heap_row.the_row ghosts)
u8s_send = vec.the_send u8 heap_row.the_row ghosts (search sendable) global.the_send frees

node_send : IsSend (node.the_field).row
node_send = send-Node ids_send (λ h s. option.the_send _ (boxed.the_send _ _ _ s global.the_send frees)) (λ h s. option.the_send _ (boxed.the_send _ _ _ (hash_map.the_send _ _ _ _ hasher.the_row _ _ _ _ _ u8s_send (boxed.the_send _ _ _ s global.the_send frees) state.the_send global.the_send frees) global.the_send frees))

tree_send : IsSend tree.the_row
tree_send = search (sendable, node_send) depth 12

fold_send : IsSend (by_default.the_row fold.the_row)
fold_send = search (sendable, crosses) depth 12

trees_send : IsSend (trees.the_field).row
trees_send = struct_send (shape trees.the_type) (global.the_field_send, (state.the_field_send, (hash_map.the_send (vec_row.the_row u8 heap_row.the_row ghosts) tree.the_row (by_default.the_row fold.the_row) heap_row.the_row fold.the_row _ _ _ _ ghosts u8s_send tree_send fold_send global.the_send frees, (id_cache.the_field_send, tt))))

subs_send : IsSend (trees.the_field).row → IsSend subs_in.the_row
subs_send t = recorded_send _ _ _ (subs_in.the_type).to_one (struct_send (shape subs_in.the_type)
    (global.the_field_send, (rows.the_send, (t, (sids.the_field_send, tt)))))

subs_out_send : IsSend subs_in.the_row → IsSend subs.the_row
subs_out_send t = search (sendable, t) depth 6

world_send : IsSend subs.the_row → IsSend world_in.the_row
world_send t = recorded_send _ _ _ (world_in.the_type).to_one (struct_send (shape world_in.the_type)
    (global.the_field_send, (state.the_field_send, (ready.the_send, (search sendable, (search sendable, (search sendable, (search sendable, (sessions.the_send, (t, (caches_send, (routes_send, (search sendable, tt)))))))))))))

world_out_send : IsSend world_in.the_row → IsSend world.the_row
world_out_send t = search (sendable, t) depth 6

hub_send : IsSend world.the_row → IsSend hub_in.the_row
hub_send t = recorded_send _ _ _ (hub_in.the_type).to_one (struct_send (shape hub_in.the_type)
    (global.the_field_send, (t, (search (sendable, shared.the_send, plain.the_send, plain.the_sync) depth 6, (search sendable, (history_send, tt))))))

hub_out_send : IsSend hub_in.the_row → IsSend hub.the_row
hub_out_send t = search (sendable, t) depth 6

hubs_send : IsSend hub.the_row
hubs_send = hub_out_send (hub_send (world_out_send (world_send (subs_out_send (subs_send trees_send)))))

desk_send : (L : RattleType) (r : Runs L.Denot) (l : Ledgers L.Denot) → IsSend (desk.the_row L r l)
desk_send L r l = recorded_send _ _ _ (desk.the_type L r l).to_one (struct_send (shape (desk.the_type L r l)) (global.the_field_send, (hubs_send, (book.the_send L l, (waits.the_send, (search (sendable, crosses) depth 12, tt))))))

share_sync : (L : RattleType) (l : Ledgers L.Denot) → IsSync (share_row.the_row L l)
share_sync L l = record { shared = λ x b o κ q. part_keyless (share_row.the_row L l) (share.the_send L l) q x b o }

rest_sync : (L : RattleType) (r : Runs L.Denot) (l : Ledgers L.Denot) → IsSync (rest_row.the_field L r l).row
rest_sync L r l = struct_sync (shape (rest_row.the_type L r l)) (search sendable, (share_sync L l, tt))

pub shared_sync : (L : RattleType) (r : Runs L.Denot) (l : Ledgers L.Denot) → IsSync (shared_row.the_row L r l)
shared_sync L r l = recorded_sync _ _ _ (shared_row.the_type L r l).to_one (struct_sync (shape (shared_row.the_type L r l)) (mutex.the_sync (desk.the_row L r l) (desk_send L r l), (rest_sync L r l, tt)))
