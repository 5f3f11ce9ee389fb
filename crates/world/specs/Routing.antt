-- Whom a message reaches (docs/GUARANTEE.md, "Delivery").
pub use Rattle.receivers.specs.views.Open.{lets_through, may_hear, is_open_to, is_open}
pub use Rattle.world_routing.specs.Routing.{View, view_of, view_with, under_subject, is_admitted, admitted, deliveries, routed, in_view, in_views, is_nil, requested, requested_by}
pub use Rattle.world_routing.specs.Handing.{is_of_delivery, of_deliveries}
pub use Rattle.world_routing.specs.Requests.{response_by, responses_on, route_for, next_subject}
