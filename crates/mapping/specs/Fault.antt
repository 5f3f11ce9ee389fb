-- The mappings of a prefix and of a template, and when there is none (docs/GUARANTEE.md, "Mappings").
use Rattle.std.specs.Prelude.{◌≡◌, ◌+◌, ◌++◌, ℕ, List, length, Option, Some, None, Result, Ok, Err, if◌then◌else◌, nat_lt, codes}
use Rattle.std.specs.List.{range_with_len}
use Rattle.subjects.specs.Subject.{Token}
use Rattle.mapping.specs.templates.Template.{references_of, local_of}
pub use Rattle.mapping.specs.templates.Fault.{differ, error_text, is_spelled, references_fault, template_fault}
use Rattle.mapping.specs.declared.templates.error.MappingError.{MappingError}
use Rattle.mapping.specs.declared.templates.error.MappingError.TheVariants.{TooLong, NoMemory}
use Rattle.mapping.specs.Pairs.{RowMap, count_stars}
use Rattle.mapping.specs.declared.error.MapError.{MapError}
use Rattle.mapping.specs.declared.error.MapError.TheVariants as map_error

-- the wildcards of a pattern keep their order
abbrev pub in_order : List Token → List ℕ
in_order pattern = range_with_len 1 (count_stars pattern)

-- each subject is its own
abbrev pub unchanged : List Token → RowMap
unchanged pattern = record { outer = pattern; local = pattern; references = in_order pattern }

-- the prefix stands before each subject
abbrev pub prefixed : List Token → List Token → RowMap
prefixed pattern prefix = record { outer = pattern; local = prefix ++ pattern; references = in_order pattern }

abbrev pub prefix_fault : List Token → List Token → Option MappingError
prefix_fault pattern prefix = if nat_lt 512 (length prefix + length pattern) then Some TooLong else None

-- each subject goes into the template
abbrev pub templated : List Token → List Token → RowMap
templated pattern template =
    record { outer = pattern; local = local_of template; references = references_of template }

-- that mapping, or lack of memory for it, where there is no fault; else the fault
abbrev pub IsMade : RowMap → Option MappingError → Result RowMap MappingError → Type 0
IsMade m None (Ok made) = made ≡ m
IsMade m None (Err e) = e ≡ NoMemory
IsMade m (Some fault) (Ok made) = ⊥
IsMade m (Some fault) (Err e) = e ≡ fault

-- what is said of a subject that isn't mapped
abbrev pub map_error_text : MapError → List ℕ
map_error_text map_error.TooLong = codes "the mapped subject has more than 512 tokens"
map_error_text map_error.NoMemory = codes "no memory"
