-- What a history keeps, as the list of its entries.
use Rattle.std.specs.Prelude.{ℕ, List, [], ◌∷◌}
use Rattle.events.specs.declared.answer.Entry.{Entry}
use Rattle.records.specs.declared.history.Record.{Record}
use Rattle.records.specs.declared.history.Record.TheVariants.{One}

-- the entries, oldest first, and for how many records more there is room
pub record Recorded : Type 0 where
  pub entries : List Entry
  pub room : ℕ

abbrev pub entries_of : Record → List Entry
entries_of (One entry) = entry ∷ []
