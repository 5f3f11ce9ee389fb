-- The members and items of a JSON text, and where they stand (docs/POLICY.md, "Where a fault stands").
use Rattle.std.specs.Prelude.{◌≡◌, ◌⊎◌, ℕ, ◌+◌, ◌++◌, List, [], ◌∷◌, Option, None, Some}
use Rattle.json.specs.Token.{Token, begin_object, end_object, begin_array, end_array, key, string, number, boolean, null, bad}
use Rattle.json.specs.Lex.{tokens}
use Rattle.policy_walk.specs.Path.{Path, at_key, at_index}
use Rattle.policy_notes.specs.positions.Starts.{starts_from}
use Rattle.policy_notes.specs.declared.positions.spots.Spot.{Spot}
use Rattle.policy_notes.specs.declared.positions.spots.Key as keys
use Rattle.policy_notes.specs.declared.positions.spots.Level.{Level}
use Rattle.policy_notes.specs.declared.positions.starts.Mode.TheVariants.{Between}

-- how far a text was passed: the objects and lists around, from the outermost on, the innermost, a key that waits for its value,
-- and the spots so far
pub record Passed : Type 0 where
  pub outer : List Level
  pub inner : Level
  pub waits : Option keys.Key
  pub spots : List Spot

abbrev pub passed : List Level → Level → Option keys.Key → List Spot → Passed
passed outer inner waits spots = record { outer = outer; inner = inner; waits = waits; spots = spots }

abbrev pub level : ℕ → Option ℕ → Level
level begin next = record { begin = begin; next = next }

abbrev pub key_at : Path → ℕ → keys.Key
key_at name at = record { name = name; at = at }

abbrev pub spot : ℕ → Path → ℕ → ℕ → Spot
spot container name at value = record { container = container; name = name; at = at; value = value }

-- a value begins: in a list it is the next item's, and in an object that of the key before it
abbrev pub with_member : Option keys.Key → ℕ → Passed → Passed
with_member None at p = p
with_member (Some k) at p = passed p.outer p.inner None (p.spots ++ spot p.inner.begin k.name k.at at ∷ [])

abbrev pub with_value : Option ℕ → ℕ → Passed → Passed
with_value None at p = with_member p.waits at p
with_value (Some next) at p = passed p.outer (level p.inner.begin (Some (next + 1))) p.waits (p.spots ++ spot p.inner.begin (at_index [] next) at at ∷ [])

abbrev pub with_begin : ℕ → Passed → Passed
with_begin at p = with_value p.inner.next at p

-- an object or a list begins, whose first item has this index
abbrev pub with_level : Option ℕ → ℕ → Passed → Passed
with_level next at p = passed (p.outer ++ p.inner ∷ []) (level at next) p.waits p.spots

-- the innermost object or list ends; where there is none, nothing does
abbrev pub Ends : Passed → Passed → Type 0
Ends p q = (q.waits ≡ p.waits) × (q.spots ≡ p.spots) × (((p.outer ≡ []) × (q.outer ≡ []) × (q.inner ≡ p.inner)) ⊎ (p.outer ≡ q.outer ++ q.inner ∷ []))

-- a token is passed, which begins there
abbrev pub Passes : ℕ → Token → Passed → Passed → Type 0
Passes at begin_object p q = q ≡ with_level None at (with_begin at p)
Passes at begin_array p q = q ≡ with_level (Some 0) at (with_begin at p)
Passes at end_object p q = Ends p q
Passes at end_array p q = Ends p q
Passes at (key k) p q = q ≡ passed p.outer p.inner (Some (key_at (at_key [] k) at)) p.spots
Passes at (string s) p q = q ≡ with_begin at p
Passes at (number s) p q = q ≡ with_begin at p
Passes at (boolean b) p q = q ≡ with_begin at p
Passes at null p q = q ≡ with_begin at p
Passes at bad p q = q ≡ p

-- the next token is passed, if there is one, which begins there; others are left
abbrev pub PassesNext : ℕ → List Token → Passed → List Token → Passed → Type 0
PassesNext at [] p left q = (left ≡ []) × (q ≡ p)
PassesNext at (t ∷ ts) p left q = (left ≡ ts) × Passes at t p q

-- tokens are passed, each of which begins at its place of the list
unfoldable pub PassesAll : List ℕ → List Token → Passed → Passed → Type 0
PassesAll [] ts p q = q ≡ p
PassesAll (at ∷ ats) ts p q = (left : List Token) × (between : Passed) × PassesNext at ts p left between × PassesAll ats left between q

-- before the first token
abbrev pub nothing_passed : Passed
nothing_passed = passed [] (level 0 None) None []

-- the spots of a text, by where their values begin
abbrev pub AreSpots : List ℕ → List Spot → Type 0
AreSpots text spots = (end : Passed) × PassesAll (starts_from 0 Between text) (tokens text) nothing_passed end × (spots ≡ end.spots)
