-- What an item tells, read in one place (docs/GUARANTEE.md, "The guarantee").
use Rattle.std.specs.Prelude.{ℕ, List, Bool, true, false, Option, Some, None}
use Rattle.events.specs.declared.answer.Item.{Item}
use Rattle.events.specs.declared.answer.Item.TheVariants.{Entered, Full, RouteFull, MapTooLong, Unmapped, MappedTooLong}

-- a delivery of which an item tells: the connection and the id of its subscription, and whether it has entered
pub record DeliveryItem : Type 0 where
  pub conn : ℕ
  pub sid : List ℕ
  pub entered : Bool

-- an import row that is reported is none
abbrev pub delivery_item : Item → Option DeliveryItem
delivery_item (Entered conn sid) = Some (record { conn = conn; sid = sid; entered = true })
delivery_item (Full conn sid) = Some (record { conn = conn; sid = sid; entered = false })
delivery_item (RouteFull row) = None
delivery_item (MapTooLong row) = None
delivery_item Unmapped = None
delivery_item (MappedTooLong index) = None

abbrev pub passes : (DeliveryItem → Bool) → Option DeliveryItem → Bool
passes test None = false
passes test (Some d) = test d

-- whether an item tells of a delivery that passes the test
abbrev pub tells_of : (DeliveryItem → Bool) → Item → Bool
tells_of test item = passes test (delivery_item item)
