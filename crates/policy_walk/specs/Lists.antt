-- Lists of a policy, whose values are read one by one (docs/POLICY.md, "Objects").
use Rattle.std.specs.Prelude.{◌∷◌, ℕ, suc, List, [], Option, Some, None, Ok}
use Rattle.serde_json.specs.Data.{Data, Items, no_items, item}
use Rattle.policy_walk.specs.Fault.{Read, ◌>>=◌}
use Rattle.policy_walk.specs.Path.{Path, at_index}
use Rattle.policy_walk.specs.Texts.{items_at}

-- each value of a list from an index on, read in order
abbrev pub each : {X : Type 0} → (Path → Data → Read X) → Path → ℕ → Items → Read (List X)
each reader path i no_items = Ok []
each reader path i (item d ds) = do
  x ← reader (at_index path i) d
  xs ← each reader path (suc i) ds
  Ok (x ∷ xs)

-- each value of a list, which has to be one
unfoldable pub list_at : {X : Type 0} → (Path → Data → Read X) → Path → Data → Read (List X)
list_at reader path d = do
  items ← items_at path d
  each reader path 0 items

-- an absent list has nothing
abbrev pub list_under : {X : Type 0} → (Path → Data → Read X) → Path → Option Data → Read (List X)
list_under reader path None = Ok []
list_under reader path (Some d) = list_at reader path d
