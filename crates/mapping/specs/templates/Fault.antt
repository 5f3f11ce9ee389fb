-- What is wrong with a template (docs/GUARANTEE.md, "Mappings").
use Rattle.std.specs.Prelude.{ℕ, Bool, true, false, not, ◌||◌, List, length, Option, Some, None, if◌then◌else◌, nat_lt, codes}
use Rattle.subjects.specs.Subject.{Token, tokens_of}
use Rattle.subjects.specs.Fault.{pattern_fault}
use Rattle.subjects.specs.declared.error.SubjectError.TheVariants.{TooManyTokens}
use Rattle.subjects.specs.declared.error.SubjectError.{SubjectError}
use Rattle.mapping.specs.templates.Wildcards.{count_stars, has_tail, has_repeat, refers_to_each}
use Rattle.mapping.specs.templates.Template.{references_of, has_bad_part}
use Rattle.mapping.specs.declared.templates.error.MappingError.{MappingError}
use Rattle.mapping.specs.declared.templates.error.MappingError.TheVariants.{WildcardCount, WildcardTwice, TailMismatch, BadTemplate, TooLong, NoMemory}

-- whether a pattern's text may be a template's: it is one, or has but too many tokens
abbrev pub is_spelled : Option SubjectError → Bool
is_spelled None = true
is_spelled (Some TooManyTokens) = true
is_spelled (Some _) = false

abbrev pub references_fault : ℕ → List ℕ → Option MappingError
references_fault count references =
    if has_repeat references then Some WildcardTwice
    else (if not (refers_to_each count references) then Some WildcardCount else None)

abbrev pub differ : Bool → Bool → Bool
differ a b = if a then not b else b

-- the first fault of a template's text, in the order in which they are answered
abbrev pub template_fault : List Token → List ℕ → Option MappingError
template_fault pattern text =
    if not (is_spelled (pattern_fault text)) || has_bad_part (tokens_of text) then Some BadTemplate
    else (if nat_lt 512 (length (tokens_of text)) then Some TooLong
    else (if differ (has_tail (tokens_of text)) (has_tail pattern) then Some TailMismatch
    else references_fault (count_stars pattern) (references_of (tokens_of text))))

-- what is said of an error
abbrev pub error_text : MappingError → List ℕ
error_text WildcardCount = codes "the template doesn't refer to exactly the wildcards of the subject"
error_text WildcardTwice = codes "the template refers to a wildcard twice"
error_text TailMismatch = codes "only one of the template and the subject ends in `>`"
error_text BadTemplate = codes "the text is no template"
error_text TooLong = codes "the mapped subject has more than 512 tokens"
error_text NoMemory = codes "no memory"
