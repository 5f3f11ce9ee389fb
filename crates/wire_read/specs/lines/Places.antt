-- What stands at the places of a line.
use Rattle.std.specs.Prelude.{◌≡◌, ℕ, ◌+◌, ◌-◌, ◌<◌, ◌≤◌, List, length, take, drop, Option, Some, None}
use Rattle.base.specs.Blanks.{blanks_of}
use Rattle.wire_read.specs.declared.lines.field.Place.{Place}
use Rattle.wire_read.specs.declared.lines.field.FieldsAt.{FieldsAt}
use Rattle.wire_read.specs.declared.lines.field.FieldsAt.TheVariants as at
use Rattle.wire_read.specs.lines.Field.{Fields, One, Two, Three, Four, Other}

-- the text at a place, if there is one
abbrev pub text_at : List ℕ → Place → List ℕ
text_at line p = take (p.end - p.start) (drop p.start line)

abbrev pub text_if_at : List ℕ → Option Place → Option (List ℕ)
text_if_at line None = None
text_if_at line (Some p) = Some (text_at line p)

-- the fields at their places
abbrev pub fields_at : List ℕ → FieldsAt → Fields
fields_at line (at.One a) = One (text_at line a)
fields_at line (at.Two a b) = Two (text_at line a) (text_at line b)
fields_at line (at.Three a b c) = Three (text_at line a) (text_at line b) (text_at line c)
fields_at line (at.Four a b c d) = Four (text_at line a) (text_at line b) (text_at line c) (text_at line d)
fields_at line at.Other = Other

-- a place with a byte of a line, behind the blanks behind its first `from` bytes
abbrev pub IsBehind : ℕ → List ℕ → Place → Type 0
IsBehind from line p = (p.start ≡ from + blanks_of (drop from line)) × (p.start < p.end) × (p.end ≤ length line)

-- the same of a place that may be there
abbrev pub IsBehindIf : ℕ → List ℕ → Option Place → Type 0
IsBehindIf from line None = Unit {0}
IsBehindIf from line (Some p) = IsBehind from line p

-- fields one behind the other
abbrev pub AreInOrder : ℕ → List ℕ → FieldsAt → Type 0
AreInOrder from line (at.One a) = IsBehind from line a
AreInOrder from line (at.Two a b) = IsBehind from line a × IsBehind a.end line b
AreInOrder from line (at.Three a b c) = IsBehind from line a × IsBehind a.end line b × IsBehind b.end line c
AreInOrder from line (at.Four a b c d) = IsBehind from line a × IsBehind a.end line b × IsBehind b.end line c × IsBehind c.end line d
AreInOrder from line at.Other = Unit {0}
