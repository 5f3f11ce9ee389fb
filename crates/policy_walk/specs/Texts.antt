-- Texts and lists of a policy (docs/POLICY.md, "Objects").
use Rattle.std.specs.Prelude.{ℕ, List}
use Rattle.std.specs.Option.{ok_or}
use Rattle.serde_json.specs.Data.{Data, Items}
use Rattle.serde_json.specs.Find.{as_str, as_array}
use Rattle.policy_walk.specs.declared.fault.ConfigFault.TheVariants.{WrongType}
use Rattle.policy_walk.specs.Fault.{Read, ◌>>=◌}
use Rattle.policy_walk.specs.Path.{Path, at_key}
use Rattle.policy_walk.specs.Object.{required_at}

abbrev pub text_at : Path → Data → Read (List ℕ)
text_at path d = ok_or (as_str d) (WrongType path)

abbrev pub items_at : Path → Data → Read Items
items_at path d = ok_or (as_array d) (WrongType path)

-- a text under a key that must be there
unfoldable pub required_text_at : List ℕ → Path → Data → Read (List ℕ)
required_text_at key path d = do
  value ← required_at key path d
  text_at (at_key path key) value
