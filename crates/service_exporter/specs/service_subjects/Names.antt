-- The subject of a route (docs/GUARANTEE.md, "Response routes").
use Rattle.std.specs.Prelude.{ℕ, Bool, List, [], ◌∷◌, Option, Some, None, min, codes, if◌then◌else◌}
use Rattle.std.specs.Int.{bytes_high_first}
use Rattle.std.specs.Fmt.{decimal}
use Rattle.std.specs.Str.Parse.{digits_value}
use Rattle.base.specs.Number.{is_number}
use Rattle.hex.specs.Hex.{encode_lower}
use Rattle.subjects.specs.Subject.{Token}
use Rattle.subjects.specs.Equal.{same_subject}

-- the 16 lower hexadecimal digits of a word
abbrev pub hex_of : ℕ → Token
hex_of word = encode_lower (bytes_high_first 8 word)

-- `_R_`, the word's digits, the route's number
abbrev pub route_subject : ℕ → ℕ → List Token
route_subject word number = codes "_R_" ∷ hex_of word ∷ decimal number ∷ []

-- whether a subject is that of a route
abbrev pub is_on : List Token → ℕ → ℕ → Bool
is_on s number word = same_subject s (route_subject word number)

-- the number that digits write, as far as 64 bits have it
abbrev pub number_of : Token → Option ℕ
number_of digits = if is_number digits then Some (min (digits_value 10 digits) 18446744073709551615) else None
