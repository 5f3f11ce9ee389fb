-- what is left to address, behind what has been
use Rattle.std.proofs.Common.{◌≡◌, ◌++◌, All, drop}
use Rattle.world_views.specs.Changing.{IsNotedAt}
use Rattle.world_views.specs.Viewing.{addressed_after, addressing, publication, reports_after, tables_at}
use Rattle.world_views.proofs.viewing.address_each.Given as goal

abbrev pub invariant-loop-view : goal.invariant-loop-view
invariant-loop-view l =
    let t = tables_at l.occasion.ready.now l.occasion.now l.occasion.sessions.now l.occasion.subscriptions.now l.initial.routes.exporters in
    let p = publication l.occasion.sending.publisher.now l.occasion.sending.message.now l.occasion.sending.word in
    let before = addressing l.initial.receivers.deliveries.items l.initial.found.openings.items in
    let now = addressing l.receivers.deliveries.items l.found.openings.items in record {
      all : addressed_after t p now (drop l.view-index l.views) ≡ addressed_after t p before l.views;
      reports : l.found.reports.items ++ reports_after t p now (drop l.view-index l.views) ≡ l.initial.found.reports.items ++ reports_after t p before l.views;
      noted : All (IsNotedAt l.occasion.now) l.found.openings.items;
      cached : l.receivers.cache ≡ l.initial.receivers.cache;
      routes : l.routes.exporters ≡ l.initial.routes.exporters;
    }
