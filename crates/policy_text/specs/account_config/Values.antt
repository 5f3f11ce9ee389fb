-- What a text, a list and a key of a JSON value without a fault write (docs/POLICY.md, "Objects").
use Rattle.std.specs.Prelude.{◌∷◌, ℕ, List, []}
use Rattle.std.specs.Option.{unwrap_or}
use Rattle.serde_json.specs.Data.{Data, null, Items, no_items, item}
use Rattle.serde_json.specs.Find.{get, as_str, as_array}

abbrev pub text_in : Data → List ℕ
text_in d = unwrap_or (as_str d) []

abbrev pub each_in : {X : Type 0} → (Data → X) → Items → List X
each_in written no_items = []
each_in written (item d ds) = written d ∷ each_in written ds

abbrev pub list_in : {X : Type 0} → (Data → X) → Data → List X
list_in written d = each_in written (unwrap_or (as_array d) no_items)

-- what stands under a key that has to be there
abbrev pub value_under : List ℕ → Data → Data
value_under key d = unwrap_or (get key d) null
