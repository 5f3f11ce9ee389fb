-- What proofs above the world cite of the crates below it.
pub use Rattle.receivers.proofs.views.Tests.{both, find-passes}
pub use Rattle.world_routing.proofs.Publishing.{same_met}
pub use Rattle.world_routing.proofs.Remembered.{find-All}
pub use Rattle.world_routing.proofs.marks.Staying.{passing, session_of-filter, session_of-remaining}
pub use Rattle.world_routing.proofs.caches.Caches.TheSendSync.{the_field_send as caches_send}
pub use Rattle.base.proofs.list_laws.Finds.{find-map, find-filter}
pub use Rattle.service_routes.proofs.routes.Routes.TheSendSync.{the_send as routes_send}
