-- The parts of a template, and its local pattern.
use Rattle.std.proofs.Common.{◌≡◌, ◌+◌, ◌-◌, ◌∙◌, ◌||◌, ◌==◌, ℕ, Bool, true, false, not, List, [], ◌∷◌, Option, Some, None, length, drop, refl, sym, ap, arith, if◌then◌else◌, true≢false}
use Rattle.std.specs.Prelude.{codes}
use Rattle.std.specs.List.{list_all, cons_option}
use Rattle.std.proofs.lemmas.Bool.{and_parts}
use Rattle.base.specs.Number.{is_number}
use Rattle.base.specs.decimal.Short.{short_number}
use Rattle.subjects.specs.Subject.{Token, is_star, is_tail, is_token, tokens_of, IsPattern}
use Rattle.subjects.specs.Fault.{pattern_fault}
use Rattle.subjects.proofs.Grammar.{first_fault, pattern_from_no_fault}
use Rattle.mapping.specs.templates.Wildcards.{count_stars, has_tail, has_repeat, refers_to_each}
use Rattle.mapping.specs.templates.Fault.{is_spelled, differ, template_fault}
use Rattle.mapping.specs.templates.Template.{begins_with, numbered_if, numbered_or_bad, dollar_part, braced_part, is_braced, part_of, is_star_part, is_numbered_part, number_at, number_behind, references_from, references_of, local_token, local_of, has_bad_part}
use Rattle.mapping.specs.declared.templates.part.Part.{Part}
use Rattle.mapping.specs.declared.templates.part.Part.TheVariants.{Literal, Star, Tail, Numbered, Bad}
use Rattle.mapping.specs.declared.templates.error.MappingError.{MappingError}
use Rattle.mapping.specs.declared.templates.error.MappingError.TheVariants.{WildcardCount, WildcardTwice, TailMismatch, BadTemplate, TooLong}
use Rattle.mapping.proofs.templates.Stars.{tail_no_star, count-more}
use Rattle.std.specs.Prelude.{nat_lt}
use Rattle.std.specs.List.{slice_range}

numbered-other : (digits : List ℕ) → is_star_part (numbered_or_bad digits) ≡ false
numbered-other digits = by (short_number 3 digits)
  where
    by : (number : Option ℕ) → is_star_part (numbered_if number) ≡ false
    by None = refl
    by (Some n) = refl

dollar-other : (digits : List ℕ) → is_star_part (dollar_part digits) ≡ false
dollar-other digits = by (is_number digits)
  where
    by : (number : Bool) → is_star_part (if number then numbered_or_bad digits else Literal) ≡ false
    by true = numbered-other digits
    by false = refl

braced-other : (t : Token) → is_star_part (braced_part t) ≡ false
braced-other t = by (nat_lt (length t) 14) (is_braced t)
  where
    by : (short braced : Bool) → is_star_part (if short then Bad else (if braced then numbered_or_bad (slice_range t 11 (length t - 3)) else Bad)) ≡ false
    by true braced = refl
    by false true = numbered-other (slice_range t 11 (length t - 3))
    by false false = refl

-- only `*` is a star's part
pub star_part : (t : Token) → is_star_part (part_of t) ≡ is_star t
star_part t = by (is_star t) (is_tail t) (begins_with (codes "$") t) (begins_with (codes "{{") t)
  where
    by : (star tail dollar brace : Bool) →
        is_star_part (if star then Star else (if tail then Tail else (if dollar then dollar_part (drop 1 t) else (if brace then braced_part t else Literal)))) ≡ star
    by true tail dollar brace = refl
    by false true dollar brace = refl
    by false false true brace = dollar-other (drop 1 t)
    by false false false true = braced-other t
    by false false false false = refl

star_is : (p : Part) → is_star_part p ≡ true → is_numbered_part p ≡ false
star_is Star h = refl
star_is (Numbered n) h = absurd (cc)
star_is Literal h = absurd (cc)
star_is Tail h = absurd (cc)
star_is Bad h = absurd (cc)

tail_part : (t : Token) → is_tail t ≡ true → is_numbered_part (part_of t) ≡ false
tail_part t h = rw (tail_no_star t h, h) refl

tail_token : (t : Token) (tail numbered : Bool) → is_tail t ≡ tail → is_numbered_part (part_of t) ≡ numbered → is_tail (if numbered then 42 ∷ [] else t) ≡ tail
tail_token t tail false et en = et
tail_token t false true et en = refl
tail_token t true true et en = absurd (true≢false (sym en ∙ tail_part t et))

-- the local pattern ends in `>` where the template does
pub tail-local : (ts : List Token) → has_tail (local_of ts) ≡ has_tail ts
tail-local [] = refl
tail-local (t ∷ ts) =
    rw (tail_token t (is_tail t) (is_numbered_part (part_of t)) refl refl, tail-local ts) refl

found-more : (next : ℕ) (p : Part) (rest : List ℕ) → length (cons_option (number_at next p) rest) ≡ (if is_star_part p || is_numbered_part p then 1 else 0) + length rest
found-more next Star rest = omega arith
found-more next (Numbered n) rest = omega arith
found-more next Literal rest = omega arith
found-more next Tail rest = omega arith
found-more next Bad rest = omega arith

star_token : (t : Token) (star numbered : Bool) → is_star t ≡ star → is_numbered_part (part_of t) ≡ numbered → is_star (if numbered then 42 ∷ [] else t) ≡ (star || numbered)
star_token t false false es en = es
star_token t true false es en = es
star_token t false true es en = refl
star_token t true true es en = refl

-- and has a `*` for each reference
pub stars-local : (next : ℕ) (ts : List Token) → count_stars (local_of ts) ≡ length (references_from next ts)
stars-local next [] = refl
stars-local next (t ∷ ts) =
    count-more (local_token t) (local_of ts) (is_star t || is_numbered_part (part_of t)) (star_token t (is_star t) (is_numbered_part (part_of t)) refl refl)
    ∙ ap (λ n. (if is_star t || is_numbered_part (part_of t) then 1 else 0) + n) (stars-local (number_behind next (part_of t)) ts)
    ∙ sym (found-more next (part_of t) (references_from (number_behind next (part_of t)) ts)
    ∙ ap (λ b. (if b || is_numbered_part (part_of t) then 1 else 0) + length (references_from (number_behind next (part_of t)) ts)) (star_part t))

token_local : (t : Token) (numbered : Bool) → is_token t ≡ true → is_token (if numbered then 42 ∷ [] else t) ≡ true
token_local t true h = refl
token_local t false h = h

-- its tokens are tokens
pub tokens-local : (ts : List Token) → list_all is_token ts ≡ true → list_all is_token (local_of ts) ≡ true
tokens-local [] h = refl
tokens-local (t ∷ ts) h =
    let parts = and_parts (is_token t) (list_all is_token ts) h in
    rw (token_local t (is_numbered_part (part_of t)) parts.0, tokens-local ts parts.1) refl

pub record IsFit (pattern : List Token) (text : List ℕ) : Type 0 where
  pub spelled : is_spelled (pattern_fault text) ≡ true
  pub few : nat_lt 512 (length (tokens_of text)) ≡ false
  pub tails : has_tail (tokens_of text) ≡ has_tail pattern
  pub once : has_repeat (references_of (tokens_of text)) ≡ false
  pub each : refers_to_each (count_stars pattern) (references_of (tokens_of text)) ≡ true

abbrev fault_by : Bool → Bool → Bool → Bool → Bool → Bool → Option MappingError
fault_by spelled bad long differ rep each =
    if not spelled || bad then Some BadTemplate
    else (if long then Some TooLong
    else (if differ then Some TailMismatch
    else (if rep then Some WildcardTwice
    else (if not each then Some WildcardCount else None))))

passed : (spelled bad long differ rep each : Bool) → fault_by spelled bad long differ rep each ≡ None →
    (spelled ≡ true) × (long ≡ false) × (differ ≡ false) × (rep ≡ false) × (each ≡ true)
passed false bad long differ rep each e = absurd (cc)
passed true true long differ rep each e = absurd (cc)
passed true false true differ rep each e = absurd (cc)
passed true false false true rep each e = absurd (cc)
passed true false false false true each e = absurd (cc)
passed true false false false false false e = absurd (cc)
passed true false false false false true e = (refl, refl, refl, refl, refl)

alike : (a b : Bool) → differ a b ≡ false → a ≡ b
alike true true h = refl
alike true false h = absurd (cc)
alike false true h = absurd (cc)
alike false false h = refl

-- what holds of a template without fault
pub fits : (pattern : List Token) (text : List ℕ) → template_fault pattern text ≡ None → IsFit pattern text
fits pattern text e =
    let ts = tokens_of text in
    let p = passed (is_spelled (pattern_fault text)) (has_bad_part ts) (nat_lt 512 (length ts)) (differ (has_tail ts) (has_tail pattern)) (has_repeat (references_of ts)) (refers_to_each (count_stars pattern) (references_of ts)) e in
    record { spelled = p.0; few = p.1; tails = alike (has_tail ts) (has_tail pattern) p.2; once = p.3; each = p.4 }

unfaulty : (none bytes hollow tail many : Bool) → is_spelled (first_fault none bytes hollow tail many) ≡ true → many ≡ false → first_fault none bytes hollow tail many ≡ None
unfaulty true bytes hollow tail many s m = absurd (cc)
unfaulty false false hollow tail many s m = absurd (cc)
unfaulty false true true tail many s m = absurd (cc)
unfaulty false true false false many s m = absurd (cc)
unfaulty false true false true true s m = absurd (cc)
unfaulty false true false true false s m = refl

-- its text is a pattern's
pub spelled-pattern : (text : List ℕ) → is_spelled (pattern_fault text) ≡ true → nat_lt 512 (length (tokens_of text)) ≡ false → IsPattern (tokens_of text)
spelled-pattern text s m =
    pattern_from_no_fault text (unfaulty (length text == 0) _ _ _ (nat_lt 512 (length (tokens_of text))) s m)
