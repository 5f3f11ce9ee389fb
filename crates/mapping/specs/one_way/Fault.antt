-- What is wrong with a template of a mapping in one direction (docs/GUARANTEE.md, "Mappings").
use Rattle.std.specs.Prelude.{ℕ, Bool, not, ◌||◌, List, length, Option, Some, None, if◌then◌else◌, nat_lt}
use Rattle.subjects.specs.Subject.{Token, tokens_of}
use Rattle.subjects.specs.Fault.{pattern_fault}
use Rattle.mapping.specs.templates.Wildcards.{are_within, count_stars, has_tail}
use Rattle.mapping.specs.templates.Template.{references_of, has_bad_part}
use Rattle.mapping.specs.templates.Fault.{is_spelled, differ}
use Rattle.mapping.specs.declared.templates.error.MappingError.{MappingError}
use Rattle.mapping.specs.declared.templates.error.MappingError.TheVariants.{WildcardCount, TailMismatch, BadTemplate, TooLong}

-- whether a template refers to a wildcard that the pattern hasn't
abbrev pub refers_outside : List Token → List ℕ → Bool
refers_outside pattern text = not (are_within (count_stars pattern) (references_of (tokens_of text)))

abbrev pub outside_fault : List Token → List ℕ → Option MappingError
outside_fault pattern text = if refers_outside pattern text then Some WildcardCount else None

-- The first fault of a template's text, in the order in which they are answered. They are those of any template, but that a
-- wildcard may be used twice or not at all.
abbrev pub one_way_fault : List Token → List ℕ → Option MappingError
one_way_fault pattern text =
    if not (is_spelled (pattern_fault text)) || has_bad_part (tokens_of text) then Some BadTemplate
    else (if nat_lt 512 (length (tokens_of text)) then Some TooLong
    else (if differ (has_tail (tokens_of text)) (has_tail pattern) then Some TailMismatch
    else outside_fault pattern text))
