-- Laws of mappings.
use Rattle.std.specs.Prelude.{◌≡◌, ◌↔◌, IsTrue, List, Some}
use Rattle.subjects.specs.Subject.{Token, in_set, IsConcreteSubject}
use Rattle.mapping.specs.Pairs.{RowMap, IsRowMap, IsPair, forward, back}

-- a subject is in at most one pair, on either side
abbrev pub OneToOne : Type 0
OneToOne = (m : RowMap) → IsRowMap m → (s t u v : List Token) → IsPair m s t → IsPair m u v → (s ≡ u) ↔ (t ≡ v)

-- both sides of a pair are concrete subjects, each of its pattern
abbrev pub PairsAreSubjects : Type 0
PairsAreSubjects = (m : RowMap) → IsRowMap m → (s t : List Token) → IsPair m s t → (IsConcreteSubject s × IsTrue (in_set m.outer s)) × (IsConcreteSubject t × IsTrue (in_set m.local t))

-- each subject of the outer pattern is in a pair, and `forward` finds it
abbrev pub ForwardIsPairs : Type 0
ForwardIsPairs = (m : RowMap) → IsRowMap m → (s t : List Token) → IsConcreteSubject s → (forward m s ≡ Some t) ↔ IsPair m s t

-- and each of the local pattern, and `back` finds it
abbrev pub BackIsPairs : Type 0
BackIsPairs = (m : RowMap) → IsRowMap m → (s t : List Token) → IsConcreteSubject t → (back m t ≡ Some s) ↔ IsPair m s t

-- so `back` undoes `forward`, and `forward` undoes `back`
abbrev pub BackUndoesForward : Type 0
BackUndoesForward = (m : RowMap) → IsRowMap m → (s t : List Token) → IsConcreteSubject s → IsConcreteSubject t → (forward m s ≡ Some t) ↔ (back m t ≡ Some s)
