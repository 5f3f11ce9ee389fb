-- The faults of a template in one direction are those of any template, but for how its references are used.
use Rattle.std.proofs.Common.{◌≡◌, Bool, true, false, not, ◌&&◌, ◌||◌, List, ℕ, Option, Some, None, length, if◌then◌else◌, refl}
use Rattle.std.specs.Prelude.{nat_lt}
use Rattle.subjects.specs.Subject.{Token, tokens_of}
use Rattle.subjects.specs.Fault.{pattern_fault}
use Rattle.mapping.specs.templates.Wildcards.{are_within, count_stars, has_each, has_repeat, has_tail}
use Rattle.mapping.specs.templates.Template.{references_of, has_bad_part}
use Rattle.mapping.specs.templates.Fault.{is_spelled, differ, template_fault}
use Rattle.mapping.specs.declared.templates.error.MappingError.{MappingError}
use Rattle.mapping.specs.declared.templates.error.MappingError.TheVariants.{WildcardCount, WildcardTwice, TailMismatch, BadTemplate, TooLong}
use Rattle.mapping.specs.one_way.Fault.{one_way_fault, outside_fault}

-- a template's fault by what its tests say, in both kinds of mappings
abbrev fault_by : Bool → Bool → Bool → Bool → Bool → Option MappingError
fault_by bad long differ rep each =
    if bad then Some BadTemplate
    else (if long then Some TooLong
    else (if differ then Some TailMismatch
    else (if rep then Some WildcardTwice
    else (if not each then Some WildcardCount else None))))

abbrev one_by : Bool → Bool → Bool → Bool → Option MappingError
one_by bad long differ within =
    if bad then Some BadTemplate
    else (if long then Some TooLong
    else (if differ then Some TailMismatch
    else (if not within then Some WildcardCount else None)))

-- the fault where references may be used freely, which have this fault themselves
abbrev pub loosened : Option MappingError → Option MappingError → Option MappingError
loosened None fault = None
loosened (Some WildcardTwice) fault = fault
loosened (Some WildcardCount) fault = fault
loosened (Some other) fault = Some other

loosened_by : (bad long differ rep within has : Bool) →
    one_by bad long differ within ≡ loosened (fault_by bad long differ rep (within && has)) (if not within then Some WildcardCount else None)
loosened_by true long differ rep within has = refl
loosened_by false true differ rep within has = refl
loosened_by false false true rep within has = refl
loosened_by false false false true within has = refl
loosened_by false false false false true true = refl
loosened_by false false false false true false = refl
loosened_by false false false false false has = refl

pub is_loosened : (pattern : List Token) (text : List ℕ) → one_way_fault pattern text ≡ loosened (template_fault pattern text) (outside_fault pattern text)
is_loosened pattern text =
    let ts = tokens_of text in
    loosened_by (not (is_spelled (pattern_fault text)) || has_bad_part ts) (nat_lt 512 (length ts)) (differ (has_tail ts) (has_tail pattern))
    (has_repeat (references_of ts)) (are_within (count_stars pattern) (references_of ts)) (has_each (count_stars pattern) (references_of ts))

short_twice : (bad long differ rep each : Bool) → fault_by bad long differ rep each ≡ Some WildcardTwice → long ≡ false
short_twice true long differ rep each e = absurd (cc)
short_twice false true differ rep each e = absurd (cc)
short_twice false false differ rep each e = refl

short_count : (bad long differ rep each : Bool) → fault_by bad long differ rep each ≡ Some WildcardCount → long ≡ false
short_count true long differ rep each e = absurd (cc)
short_count false true differ rep each e = absurd (cc)
short_count false false differ rep each e = refl

-- a template whose references are at fault isn't too long
pub few_twice : (pattern : List Token) (text : List ℕ) → template_fault pattern text ≡ Some WildcardTwice → nat_lt 512 (length (tokens_of text)) ≡ false
few_twice pattern text e =
    let ts = tokens_of text in
    short_twice (not (is_spelled (pattern_fault text)) || has_bad_part ts) (nat_lt 512 (length ts)) (differ (has_tail ts) (has_tail pattern)) (has_repeat (references_of ts)) _ e

pub few_count : (pattern : List Token) (text : List ℕ) → template_fault pattern text ≡ Some WildcardCount → nat_lt 512 (length (tokens_of text)) ≡ false
few_count pattern text e =
    let ts = tokens_of text in
    short_count (not (is_spelled (pattern_fault text)) || has_bad_part ts) (nat_lt 512 (length ts)) (differ (has_tail ts) (has_tail pattern)) (has_repeat (references_of ts)) _ e

-- what holds of a template without fault
pub record IsFree (pattern : List Token) (text : List ℕ) : Type 0 where
  pub spelled : is_spelled (pattern_fault text) ≡ true
  pub few : nat_lt 512 (length (tokens_of text)) ≡ false
  pub tails : has_tail (tokens_of text) ≡ has_tail pattern
  pub within : are_within (count_stars pattern) (references_of (tokens_of text)) ≡ true

alike : (a b : Bool) → differ a b ≡ false → a ≡ b
alike true true h = refl
alike true false h = absurd (cc)
alike false true h = absurd (cc)
alike false false h = refl

passed : (spelled bad long differ within : Bool) → one_by (not spelled || bad) long differ within ≡ None → (spelled ≡ true) × (long ≡ false) × (differ ≡ false) × (within ≡ true)
passed false bad long differ within e = absurd (cc)
passed true true long differ within e = absurd (cc)
passed true false true differ within e = absurd (cc)
passed true false false true within e = absurd (cc)
passed true false false false false e = absurd (cc)
passed true false false false true e = (refl, refl, refl, refl)

pub free : (pattern : List Token) (text : List ℕ) → one_way_fault pattern text ≡ None → IsFree pattern text
free pattern text e =
    let ts = tokens_of text in
    let p = passed (is_spelled (pattern_fault text)) (has_bad_part ts) (nat_lt 512 (length ts)) (differ (has_tail ts) (has_tail pattern)) (are_within (count_stars pattern) (references_of ts)) e in
    record { spelled = p.0; few = p.1; tails = alike (has_tail ts) (has_tail pattern) p.2; within = p.3 }
