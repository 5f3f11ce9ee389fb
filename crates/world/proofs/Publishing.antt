-- What is planned for a publish is decided.
use Rattle.std.proofs.Common.{◌≡◌, ℕ, List, Ok, subst}
use Rattle.permissions.specs.declared.verdict.By.{By}
use Rattle.events.specs.Messages.{Message}
use Rattle.events.specs.declared.answer.Item.{Item}
use Rattle.events.specs.declared.answer.Outcome.{Outcome}
use Rattle.events.specs.declared.answer.Outcome.TheVariants.{Published}
use Rattle.world_routing.specs.World.{World}
use Rattle.world_routing.specs.Handing.{met, carried, of_deliveries}
use Rattle.events.specs.declared.refusal.HubRefusal.{HubRefusal}
use Rattle.world_routing.specs.Publishing.{published_by, IsRefusal}
use Rattle.world_routing.specs.Changing.{changed_by, AreNoted}
use Rattle.world_routing.specs.declared.carrying.Deliveries.{Deliveries}
use Rattle.world_routing.specs.declared.carrying.Routing.{Routing}
use Rattle.world.specs.Changes.{IsDecided}
use Rattle.world.specs.declared.change.Change.TheVariants.{Nothing, Deliver, Route}
use Rattle.world.specs.declared.change.Decided.{Decided}
use Rattle.world.proofs.Subscribing.{decided_by}

module _ (before w : World) (same : before ≡ w) (conn : ℕ) (m : Message) (word : ℕ) where
  -- where nothing changes
  pub nothing_is : (d : Decided) (o : Outcome) → d.outcome ≡ o → d.change ≡ Nothing → published_by before conn m word ≡ Ok (o, before) → IsDecided w (published_by w conn m word) (Ok d)
  nothing_is d o told change is =
      let P : World → Type 0 = λ x. published_by x conn m word ≡ Ok (o, x) in
      decided_by w (published_by w conn m word) d o Nothing told change (subst P same is) tt

  -- where deliveries are handed over
  pub deliver_is : (by : By) (items : List Item) (ds : Deliveries) →
      (published_by before conn m word ≡ Ok (Published by items, carried before ds.answered ds.all items)) × (of_deliveries items ≡ met before ds.all) →
      IsDecided w (published_by w conn m word) (Ok record { outcome = Published by items; change = Deliver ds })
  deliver_is by items ds h =
      let P : World → Type 0 = λ x. IsDecided x (published_by x conn m word) (Ok record { outcome = Published by items; change = Deliver ds }) in
      subst P same h

  -- where response routes may change too
  pub route_is : (by : By) (items : List Item) (r : Routing) →
      (published_by before conn m word ≡ Ok (Published by items, record (carried before r.deliveries.answered r.deliveries.all items) { routes = changed_by r.routes before.routes }))
      × (of_deliveries items ≡ met before r.deliveries.all) × AreNoted before.moment r.routes →
      IsDecided w (published_by w conn m word) (Ok record { outcome = Published by items; change = Route r })
  route_is by items r h =
      let P : World → Type 0 = λ x. IsDecided x (published_by x conn m word) (Ok record { outcome = Published by items; change = Route r }) in
      subst P same (h.0, (h.1, h.2))

  -- where it is refused
  pub refused_is : (refusal : HubRefusal) → IsRefusal (published_by before conn m word) refusal → IsRefusal (published_by w conn m word) refusal
  refused_is refusal h =
      let P : World → Type 0 = λ x. IsRefusal (published_by x conn m word) refusal in
      subst P same h
