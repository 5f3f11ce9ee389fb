-- The items of an outcome.
use Rattle.std.specs.Prelude.{List, []}
use Rattle.events.specs.declared.answer.Item.{Item}
use Rattle.events.specs.declared.answer.Outcome.{Outcome}
use Rattle.events.specs.declared.answer.Outcome.TheVariants.{Published}

abbrev pub items_in : Outcome → List Item
items_in (Published by items) = items
items_in _ = []
