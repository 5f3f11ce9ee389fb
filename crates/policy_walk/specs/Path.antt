-- Where in a policy's text a value stands (docs/POLICY.md, "Faults").
use Rattle.std.specs.Prelude.{◌==◌, ◌++◌, ◌∷◌, ℕ, List, [], codes, decimal, if◌then◌else◌}
use Rattle.std.specs.List.{flat_map}

-- `/` before each key and index, from the outermost on; the whole text has the empty path
abbrev pub Path : Type 0
Path = List ℕ

-- in a key `~` is printed as `~0`, and `/` as `~1`
abbrev pub printed_byte : ℕ → List ℕ
printed_byte b = if b == 126 then codes "~0" else if b == 47 then codes "~1" else b ∷ []

abbrev pub printed_key : List ℕ → List ℕ
printed_key key = flat_map printed_byte key

-- the path of what an object has under a key
abbrev pub at_key : Path → List ℕ → Path
at_key path key = path ++ codes "/" ++ printed_key key

-- the path of what a list has at an index
abbrev pub at_index : Path → ℕ → Path
at_index path i = path ++ codes "/" ++ decimal i
