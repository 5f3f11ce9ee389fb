-- What `carry` answers, by what its tests say.
use Rattle.std.proofs.Common.{◌≡◌, ◌+◌, ◌∙◌, ℕ, Bool, true, false, ltb, leb, List, [], Option, None, Ok, Result, length, map, refl, sym, ap, subst, arith}
use Rattle.std.proofs.lemmas.Bool.{and_parts}
use Rattle.std.proofs.lemmas.Bool.Decides.{nat_tests}
use Rattle.subjects.specs.Subject.{Token, is_concrete, in_set, tokens_of, IsConcreteSubject, IsSubject}
use Rattle.subjects.proofs.Text.{tokens_from_literals}
use Rattle.mapping.specs.declared.side.Side.{Side}
use Rattle.mapping.specs.declared.error.MapError.{MapError}
use Rattle.mapping.specs.Pairs.{IsMapped, IsSent, carried, count_stars, are_within, filled, numbered, stars_of, tail_of}
use Rattle.mapping.specs.Sides.{AreSides, other_side}
use Rattle.mapping.specs.templates.Text.{with_tokens}
use Rattle.mapping.proofs.templates.Patterns.{grammar}
use Rattle.mapping.proofs.Filling.{counted-stars}
use Rattle.mapping.proofs.Pairs.{AreFit, Joins, carried_if, some-joined, to_concrete, lengths, concrete_parts}
use Rattle.mapping.proofs.Texts.{with-tokens_of}

fit : (from to : Side) → AreSides from to → AreFit from.pattern to.pattern to.references.items
fit from to a = record { from_pattern = a.from_pattern; to_pattern = a.to_pattern; tails = a.tails; stars = a.stars; within = a.within }

pub concrete : (s : List Token) → IsSubject s → IsConcreteSubject s
concrete s h = (and_parts (is_concrete s) (leb (length s) 512) h).0

joins : (from to : Side) (s : List Token) → AreSides from to → IsSubject s → in_set from.pattern s ≡ true → Joins from.pattern to.pattern to.references.items s (other_side from to s)
joins from to s a h i = some-joined from.pattern to.pattern to.references.items s _ refl (fit from to a) (concrete s h) i

same_test : (l f s t m : ℕ) → l + f ≡ s + t → m + t ≡ 512 + f → ltb 512 l ≡ ltb m s
same_test l f s t m e g = by (ltb m s) refl
  where
    by : (b : Bool) → ltb m s ≡ b → ltb 512 l ≡ b
    by true h = grind (arith, nat_tests, h)
    by false h = grind (arith, nat_tests, h)

too_long : (from to : Side) (s : List Token) → AreSides from to → IsSubject s → in_set from.pattern s ≡ true → ltb 512 (length (other_side from to s)) ≡ ltb from.most (length s)
too_long from to s a h i =
    same_test _ (length from.pattern) (length s) (length to.pattern) from.most
    (lengths from.pattern to.pattern to.references.items s (other_side from to s) (fit from to a) (joins from to s a h i)) a.most

pub mapped_none : (from to : Side) (s : List Token) → in_set from.pattern s ≡ false → IsMapped (carried from.pattern to.pattern to.references.items s) (Ok None)
mapped_none from to s i = rw (carried_if from.pattern to.pattern to.references.items s false i) refl

pub mapped_by : (from to : Side) (s : List Token) (long : Bool) (answer : Result (Option (List Token)) MapError) → AreSides from to → IsSubject s → in_set from.pattern s ≡ true →
    ltb from.most (length s) ≡ long → IsSent long (other_side from to s) answer → IsMapped (carried from.pattern to.pattern to.references.items s) answer
mapped_by from to s long answer a h i e sent =
    let size : ltb 512 (length (other_side from to s)) ≡ long = too_long from to s a h i ∙ e in
    rw (carried_if from.pattern to.pattern to.references.items s true i, size) sent

-- a text of the other side's tokens is a subject's
pub text_subject : (from to : Side) (s : List Token) (text : List ℕ) → AreSides from to → IsSubject s → in_set from.pattern s ≡ true → ltb from.most (length s) ≡ false →
    text ≡ with_tokens [] (other_side from to s) → IsSubject (tokens_of text) × (tokens_of text ≡ other_side from to s)
text_subject from to s text a h i e t =
    let is_concrete_other = to_concrete from.pattern to.pattern to.references.items s (other_side from to s) (fit from to a) (joins from to s a h i) in
    let parts = concrete_parts (other_side from to s) is_concrete_other in
    let same : tokens_of text ≡ other_side from to s = ap tokens_of t ∙ with-tokens_of (other_side from to s) (tokens_from_literals (other_side from to s) parts.1) parts.0 in
    let size : ltb 512 (length (other_side from to s)) ≡ false = too_long from to s a h i ∙ e in
    let few : leb (length (other_side from to s)) 512 ≡ true = grind (arith, nat_tests, size) in
    let is_subject_other : IsSubject (other_side from to s) = rw (is_concrete_other, few) refl in
    (subst IsSubject (sym same) is_subject_other, same)

-- as many tokens are given as the pattern has `*`s
pub within_given : (from to : Side) (s given : List Token) → AreSides from to → in_set from.pattern s ≡ true → given ≡ stars_of from.pattern s →
    are_within (length given) to.references.items ≡ true
within_given from to s given a i e =
    let count : length given ≡ count_stars from.pattern = ap (λ (us : List Token). length us) e ∙ counted-stars from.pattern s (grammar from.pattern a.from_pattern).last i in
    rw count a.within

-- what is given of a subject is put into the other side
pub written : (from to : Side) (s given tail : List Token) (text : List ℕ) → given ≡ stars_of from.pattern s → tail ≡ tail_of from.pattern s →
    text ≡ with_tokens [] (filled to.pattern (map (numbered given) to.references.items) tail) → text ≡ with_tokens [] (other_side from to s)
written from to s given tail text e f h = rw (← e, ← f) h
