-- Templates: what a row's local subjects look like (docs/GUARANTEE.md, "Mappings").
use Rattle.std.specs.Prelude.{◌≡◌, ◌+◌, ◌-◌, ℕ, Bool, true, false, not, ◌&&◌, ◌||◌, List, [], ◌∷◌, Option, Some, None, length, take, drop, map, if◌then◌else◌, nat_lt, slice_range, codes}
use Rattle.std.specs.List.{list_any, cons_option}
use Rattle.base.specs.Number.{is_number}
use Rattle.base.specs.decimal.Short.{short_number}
use Rattle.subjects.specs.Subject.{Token, is_star, is_tail, same_token}
use Rattle.mapping.specs.declared.templates.part.Part.{Part}
use Rattle.mapping.specs.declared.templates.template.Kinds.{Kinds}
use Rattle.mapping.specs.declared.templates.part.Part.TheVariants.{Literal, Star, Tail, Numbered, Bad}

abbrev pub begins_with : List ℕ → List ℕ → Bool
begins_with front text = not (nat_lt (length text) (length front)) && same_token (take (length front) text) front

abbrev pub ends_with : List ℕ → List ℕ → Bool
ends_with end text = not (nat_lt (length text) (length end)) && same_token (drop (length text - length end) text) end

abbrev pub numbered_if : Option ℕ → Part
numbered_if None = Bad
numbered_if (Some n) = Numbered n

-- one to three digits number a wildcard
abbrev pub numbered_or_bad : List ℕ → Part
numbered_or_bad digits = numbered_if (short_number 3 digits)

-- `$` and digits is a reference, and `$` and anything else a literal
abbrev pub dollar_part : List ℕ → Part
dollar_part digits = if is_number digits then numbered_or_bad digits else Literal

-- what begins `{{` is `{{wildcard(`, digits and `)}}`, or nothing
abbrev pub is_braced : Token → Bool
is_braced t = begins_with (codes "{{wildcard(") t && ends_with (codes ")}}") t

abbrev pub braced_part : Token → Part
braced_part t =
    if nat_lt (length t) 14 then Bad
    else (if is_braced t then numbered_or_bad (slice_range t 11 (length t - 3)) else Bad)

-- what a token stands for
abbrev pub part_of : Token → Part
part_of t =
    if is_star t then Star
    else (if is_tail t then Tail
    else (if begins_with (codes "$") t then dollar_part (drop 1 t)
    else (if begins_with (codes "{{") t then braced_part t else Literal)))

abbrev pub is_bad_part : Part → Bool
is_bad_part Bad = true
is_bad_part _ = false

abbrev pub is_star_part : Part → Bool
is_star_part Star = true
is_star_part _ = false

abbrev pub is_numbered_part : Part → Bool
is_numbered_part (Numbered n) = true
is_numbered_part _ = false

-- the number that a part refers to, where the next `*` refers to `next`
abbrev pub number_at : ℕ → Part → Option ℕ
number_at next Star = Some next
number_at next (Numbered n) = Some n
number_at next Literal = None
number_at next Tail = None
number_at next Bad = None

-- the number that the next `*` behind a part refers to
abbrev pub number_behind : ℕ → Part → ℕ
number_behind next part = if is_star_part part then next + 1 else next

-- the numbers of the wildcards that a template refers to, in order: `$2` says its own, and `*`s refer to 1, 2, 3 in order
abbrev pub references_from : ℕ → List Token → List ℕ
references_from next [] = []
references_from next (t ∷ ts) = cons_option (number_at next (part_of t)) (references_from (number_behind next (part_of t)) ts)

abbrev pub references_of : List Token → List ℕ
references_of ts = references_from 1 ts

-- the local pattern has `*` for each reference
abbrev pub local_token : Token → Token
local_token t = if is_numbered_part (part_of t) then 42 ∷ [] else t

abbrev pub local_of : List Token → List Token
local_of ts = map local_token ts

-- whether some part of a text is of no template, or `*` stands beside a number
abbrev pub has_bad_part : List Token → Bool
has_bad_part ts =
    list_any (λ t. is_bad_part (part_of t)) ts
    || (list_any (λ t. is_star_part (part_of t)) ts && list_any (λ t. is_numbered_part (part_of t)) ts)

-- which parts a text has
pub record HasKinds (kinds : Kinds) (ts : List Token) : Type 0 where
  pub bad : kinds.has_bad ≡ list_any (λ t. is_bad_part (part_of t)) ts
  pub star : kinds.has_star ≡ list_any (λ t. is_star_part (part_of t)) ts
  pub numbered : kinds.has_numbered ≡ list_any (λ t. is_numbered_part (part_of t)) ts
