-- What a message met at the subscriptions that it is for (docs/GUARANTEE.md, "Delivery").
use Rattle.std.specs.Prelude.{◌∷◌, [], List}
use Rattle.events.specs.declared.answer.Item.{Item}
use Rattle.events.specs.declared.answer.MetItems.{MetItems}
use Rattle.events.specs.declared.answer.MetItems.TheVariants.{One, Many}

-- the items, oldest subscription first
abbrev pub met_items : MetItems → List Item
met_items (One item) = item ∷ []
met_items (Many items) = items.items
