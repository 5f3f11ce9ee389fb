-- What a mapping in one direction is made of, and what `forward` answers.
use Rattle.std.proofs.Common.{◌≡◌, ◌+◌, ◌∙◌, ℕ, Bool, true, false, ltb, leb, List, [], Option, None, Result, Ok, length, refl, sym, ap, subst, arith}
use Rattle.std.proofs.lemmas.Bool.Decides.{nat_tests}
use Rattle.subjects.specs.Subject.{Token, in_set, tokens_of, IsSubject}
use Rattle.subjects.proofs.Text.{tokens_from_literals}
use Rattle.mapping.specs.templates.Template.{local_of, references_of}
use Rattle.mapping.specs.templates.Text.{with_tokens}
use Rattle.mapping.specs.templates.Wildcards.{are_within, count_stars, has_tail}
use Rattle.mapping.proofs.templates.Parts.{tail-local}
use Rattle.mapping.specs.Pairs.{RowMap, IsPair, IsMapped, IsSent, IsSide, forward}
use Rattle.mapping.specs.Fault.{templated}
use Rattle.mapping.specs.declared.error.MapError.{MapError}
use Rattle.mapping.proofs.Carries.{concrete}
use Rattle.mapping.proofs.Pairs.{AreFit, Joins, by_pairs, carried_from, carried_if, concrete_parts, joined_from, joins_pair, lengths, pair_joins, some-joined, to_concrete}
use Rattle.mapping.proofs.Texts.{with-tokens_of}
use Rattle.std.specs.Prelude.{nat_lt}
use Rattle.subjects.specs.Fault.{pattern_fault}
use Rattle.mapping.specs.templates.Fault.{is_spelled}
use Rattle.mapping.specs.one_way.Fault.{one_way_fault}
use Rattle.mapping.specs.one_way.OneWay.{IsMost, IsOneWay, mapped, way}
use Rattle.mapping.proofs.one_way.Faults.{free}

-- ---- the mapping of a template

pub spelled : (pattern : List Token) (template : List ℕ) → one_way_fault pattern template ≡ None →
    (is_spelled (pattern_fault template) ≡ true) × (nat_lt 512 (length (tokens_of template)) ≡ false)
spelled pattern template f = let fit = free pattern template f in (fit.spelled, fit.few)

pub local_tails : (pattern : List Token) (template : List ℕ) (local : List Token) → one_way_fault pattern template ≡ None → local ≡ local_of (tokens_of template) →
    has_tail local ≡ has_tail pattern
local_tails pattern template local f e = ap has_tail e ∙ tail-local (tokens_of template) ∙ (free pattern template f).tails

pub local_within : (pattern : List Token) (template references : List ℕ) → one_way_fault pattern template ≡ None → references ≡ references_of (tokens_of template) →
    are_within (count_stars pattern) references ≡ true
local_within pattern template references f r = ap (are_within (count_stars pattern)) r ∙ (free pattern template f).within

pub templated_is : (pattern : List Token) (template : List ℕ) (local : List Token) (references : List ℕ) → local ≡ local_of (tokens_of template) →
    references ≡ references_of (tokens_of template) → way pattern local references ≡ templated pattern (tokens_of template)
templated_is pattern template local references e r = ap (λ ts. way pattern ts references) e ∙ ap (way pattern (local_of (tokens_of template))) r

-- ---- forward

fit : (m : RowMap) → IsOneWay m → AreFit m.outer m.local m.references
fit m h = record { from_pattern = h.outer; to_pattern = h.local; tails = h.tails; stars = h.stars; within = h.within }

joins : (m : RowMap) (s : List Token) → IsOneWay m → IsSubject s → in_set m.outer s ≡ true → Joins m.outer m.local m.references s (mapped m s)
joins m s h k i = some-joined m.outer m.local m.references s _ refl (fit m h) (concrete s k) i

same_test : (l f s t m : ℕ) → l + f ≡ s + t → m + t ≡ 512 + f → ltb m s ≡ ltb 512 l
same_test l f s t m e g = by (ltb m s) refl
  where
    by : (b : Bool) → ltb m s ≡ b → b ≡ ltb 512 l
    by true h = grind (arith, nat_tests, h)
    by false h = grind (arith, nat_tests, h)

-- a subject is too long for its mapping exactly where it has more tokens than this
too_long : (m : RowMap) (most : ℕ) (s : List Token) → IsOneWay m → IsMost most m → IsSubject s → in_set m.outer s ≡ true → ltb most (length s) ≡ ltb 512 (length (mapped m s))
too_long m most s h g k i =
    same_test _ (length m.outer) (length s) (length m.local) most (lengths m.outer m.local m.references s (mapped m s) (fit m h) (joins m s h k i)) g

pub long_by : (m : RowMap) (most : ℕ) (s : List Token) (long : Bool) → IsOneWay m → IsMost most m → IsSubject s → in_set m.outer s ≡ true → ltb most (length s) ≡ long →
    ltb 512 (length (mapped m s)) ≡ long
long_by m most s long h g k i e = sym (too_long m most s h g k i) ∙ e

pub mapped_none : (m : RowMap) (s : List Token) → in_set m.outer s ≡ false → IsMapped (forward m s) (Ok None)
mapped_none m s i = rw (carried_if m.outer m.local m.references s false i) refl

pub mapped_by : (m : RowMap) (s : List Token) (long : Bool) (answer : Result (Option (List Token)) MapError) → in_set m.outer s ≡ true →
    ltb 512 (length (mapped m s)) ≡ long → IsSent long (mapped m s) answer → IsMapped (forward m s) answer
mapped_by m s long answer i e sent = rw (carried_if m.outer m.local m.references s true i, e) sent

-- what is answered is the other side of a pair
pub by_pair : (m : RowMap) (s : List Token) (answer : Result (Option (List Token)) MapError) → IsOneWay m → IsSubject s → IsMapped (forward m s) answer → IsSide (IsPair m s) answer
by_pair m s answer h k e =
    by_pairs (IsPair m s) (forward m s) answer (λ t. (
      λ found. joins_pair m s t (joined_from m.outer m.local m.references s t (fit m h) (concrete s k) found),
      λ pair. carried_from m.outer m.local m.references s t (fit m h) (pair_joins m s t pair),
    )) e

-- a text of the mapped tokens is a subject's
pub text_subject : (m : RowMap) (s : List Token) (text : List ℕ) → IsOneWay m → IsSubject s → in_set m.outer s ≡ true → ltb 512 (length (mapped m s)) ≡ false →
    text ≡ with_tokens [] (mapped m s) → IsSubject (tokens_of text) × (tokens_of text ≡ mapped m s)
text_subject m s text h k i e t =
    let concrete_mapped = to_concrete m.outer m.local m.references s (mapped m s) (fit m h) (joins m s h k i) in
    let parts = concrete_parts (mapped m s) concrete_mapped in
    let same : tokens_of text ≡ mapped m s = ap tokens_of t ∙ with-tokens_of (mapped m s) (tokens_from_literals (mapped m s) parts.1) parts.0 in
    let few : leb (length (mapped m s)) 512 ≡ true = grind (arith, nat_tests, e) in
    let subject_mapped : IsSubject (mapped m s) = rw (concrete_mapped, few) refl in
    (subst IsSubject (sym same) subject_mapped, same)
