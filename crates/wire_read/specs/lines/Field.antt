-- The fields of a control line (NATS documentation, "Client Protocol").
use Rattle.std.specs.Prelude.{ℕ, ◌==◌, Bool, not, List, [], ◌∷◌, length, drop, filter}
use Rattle.std.specs.List.{slice_split, prefix_len, take_while}
use Rattle.base.specs.Blanks.{is_blank, blanks_of}

-- fields are parted by blanks
abbrev pub is_field_byte : ℕ → Bool
is_field_byte b = not (is_blank b)

-- a field has a byte
abbrev pub has_byte : List ℕ → Bool
has_byte field = not (length field == 0)

-- the fields of a line, in order: what stands between its blanks
unfoldable pub fields : List ℕ → List (List ℕ)
fields line = filter has_byte (slice_split is_blank line)

-- a line after its leading blanks
abbrev pub trimmed : List ℕ → List ℕ
trimmed line = drop (blanks_of line) line

-- the first field of a line, which has no byte where the line has no field
abbrev pub first_field : List ℕ → List ℕ
first_field line = take_while is_field_byte (trimmed line)

-- the line after its first field
abbrev pub after_first_field : List ℕ → List ℕ
after_first_field line = drop (prefix_len is_field_byte (trimmed line)) (trimmed line)

-- the fields of a line, as many as an operation may take
pub data Fields : Type 0 where
  One : List ℕ → Fields
  Two : List ℕ → List ℕ → Fields
  Three : List ℕ → List ℕ → List ℕ → Fields
  Four : List ℕ → List ℕ → List ℕ → List ℕ → Fields
  Other : Fields

abbrev pub counted : List (List ℕ) → Fields
counted (a ∷ []) = One a
counted (a ∷ b ∷ []) = Two a b
counted (a ∷ b ∷ c ∷ []) = Three a b c
counted (a ∷ b ∷ c ∷ d ∷ []) = Four a b c d
counted _ = Other
