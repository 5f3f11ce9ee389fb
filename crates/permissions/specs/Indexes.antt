-- The indexes of a direction's lists.
use Rattle.std.specs.Prelude.{◌≡◌, ℕ, List, map, IfSome}
use Rattle.subjects.specs.Subject.{Token}
use Rattle.subjects.specs.pattern_groups.Places.{Hashed, AreLiteral, hash_at}
use Rattle.subjects.specs.pattern_groups.Places as patterns
use Rattle.permissions.specs.Lists.{Entry, Rules}
use Rattle.permissions.specs.declared.indexed.Indexes.{Indexes}
use Rattle.permissions.specs.declared.indexed.Indexed.{Indexed}

-- an entry's pattern
abbrev pub pattern_of : Entry → List Token
pattern_of e = e.subject

-- this is the index of the entries' patterns
abbrev pub IsIndexOf : List Entry → Hashed → Type 0
IsIndexOf entries index = patterns.IsIndexOf (map pattern_of entries) index

-- these are the indexes of a direction's lists
pub record AreIndexesOf (rules : Rules) (indexes : Indexes) : Type 0 where
  pub allow : IfSome rules.allow (λ entries. IsIndexOf entries indexes.allow)
  pub deny : IsIndexOf rules.deny indexes.deny

-- both directions have their indexes
pub record AreIndexed (indexed : Indexed) : Type 0 where
  pub publish : AreIndexesOf indexed.lists.publish indexed.publish
  pub subscribe : AreIndexesOf indexed.lists.subscribe indexed.subscribe

-- these tokens have the hash of the pattern at each choice of its literal tokens
abbrev pub HasHashes : List Token → List Token → Type 0
HasHashes pattern tokens = (places : ℕ) → AreLiteral places pattern → hash_at places pattern ≡ hash_at places tokens
