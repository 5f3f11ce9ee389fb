-- The pairs of a mapping: `forward` and `back` are their two directions.
use Rattle.std.proofs.Common.{◌≡◌, ◌<◌, ◌+◌, ◌∙◌, ◌↔◌, inl, inr, ℕ, Bool, true, false, ltb, List, [], ◌∷◌, Option, Some, None, Result, length, map, refl, sym, ap, subst, arith, if◌then◌else◌}
use Rattle.std.specs.List.{list_all}
use Rattle.std.proofs.lemmas.Bool.{and_parts}
use Rattle.std.proofs.lemmas.Bool.Decides.{nat_tests}
use Rattle.std.proofs.lemmas.List.{length-map}
use Rattle.subjects.specs.Subject.{Token, is_literal, in_set, IsConcreteSubject, IsPattern}
use Rattle.subjects.proofs.Grammar.{concrete-tests}
use Rattle.mapping.specs.Pairs.{RowMap, IsRowMap, IsPair, IsGiven, IsMapped, IsSent, IsSide, count_stars, has_tail, numbered, filled, stars_of, tail_of, are_within, has_each, carried, inverse}
use Rattle.mapping.specs.Laws.{OneToOne, PairsAreSubjects, ForwardIsPairs, BackIsPairs, BackUndoesForward}
use Rattle.mapping.specs.declared.error.MapError.{MapError}
use Rattle.mapping.proofs.templates.Patterns.{IsGrammar, grammar}
use Rattle.mapping.proofs.Filling.{member-filled, filled-again, stars-filled, tail-filled, filled-without, literal-filled, some-filled, counted-stars, literal-stars, literal-tail, some-tail, length-filled, tail_len}
use Rattle.mapping.proofs.Orders.{undone, redone, within-inverse, length-inverse, literal-order}

-- Two patterns that pair, where each `*` of the second has the token of the first's `*` with its number.
pub record AreFit (from to : List Token) (references : List ℕ) : Type 0 where
  pub from_pattern : IsPattern from
  pub to_pattern : IsPattern to
  pub tails : has_tail to ≡ has_tail from
  pub stars : count_stars to ≡ length references
  pub within : are_within (count_stars from) references ≡ true

pub record Joins (from to : List Token) (references : List ℕ) (s t : List Token) : Type 0 where
  pub stars : List Token
  pub tail : List Token
  pub given : IsGiven from stars tail
  pub s_is : s ≡ filled from stars tail
  pub t_is : t ≡ filled to (map (numbered stars) references) tail

pub concrete_parts : (ts : List Token) → IsConcreteSubject ts → (0 < length ts) × (list_all is_literal ts ≡ true)
concrete_parts [] h = absurd (cc)
concrete_parts (t ∷ ts) h = (omega arith, h)

concrete_from : (ts : List Token) → 0 < length ts → list_all is_literal ts ≡ true → IsConcreteSubject ts
concrete_from ts n h = concrete-tests ts n ∙ h

-- what a pattern is filled with makes a concrete subject
filled_concrete : (ps stars tail : List Token) → IsPattern ps → length stars ≡ count_stars ps → list_all is_literal stars ≡ true → IsConcreteSubject tail →
    IsConcreteSubject (filled ps stars tail)
filled_concrete [] stars tail h n l c = absurd (cc)
filled_concrete (p ∷ ps) stars tail h n l c =
    let g = grammar (p ∷ ps) h in
    let parts = concrete_parts tail c in
    concrete_from (filled (p ∷ ps) stars tail) (some-filled p ps stars tail parts.0)
    (literal-filled (p ∷ ps) stars tail g.tokens g.last n l parts.1)

within_stars : (from : List Token) (to : List Token) (ns : List ℕ) (stars : List Token) → AreFit from to ns → length stars ≡ count_stars from → are_within (length stars) ns ≡ true
within_stars from to ns stars fit e = rw e fit.within

pub from_concrete : (from to : List Token) (ns : List ℕ) (s t : List Token) → AreFit from to ns → Joins from to ns s t → IsConcreteSubject s
from_concrete from to ns s t fit j =
    subst IsConcreteSubject (sym j.s_is) (filled_concrete from j.stars j.tail fit.from_pattern j.given.each j.given.literal j.given.rest)

pub to_concrete : (from to : List Token) (ns : List ℕ) (s t : List Token) → AreFit from to ns → Joins from to ns s t → IsConcreteSubject t
to_concrete from to ns s t fit j =
    subst IsConcreteSubject (sym j.t_is)
    (filled_concrete to (map (numbered j.stars) ns) j.tail fit.to_pattern (length-map ns (numbered j.stars) ∙ sym fit.stars)
    (literal-order j.stars ns j.given.literal (within_stars from to ns j.stars fit j.given.each)) j.given.rest)

pub from_member : (from to : List Token) (ns : List ℕ) (s t : List Token) → Joins from to ns s t → in_set from s ≡ true
from_member from to ns s t j = rw (j.s_is) (member-filled from j.stars j.tail (concrete_parts j.tail j.given.rest).0)

pub to_member : (from to : List Token) (ns : List ℕ) (s t : List Token) → Joins from to ns s t → in_set to t ≡ true
to_member from to ns s t j = rw (j.t_is) (member-filled to (map (numbered j.stars) ns) j.tail (concrete_parts j.tail j.given.rest).0)

same_fill : (to stars tail : List Token) (has : Bool) → has_tail to ≡ has → filled to stars (if has then tail else []) ≡ filled to stars tail
same_fill to stars tail true e = refl
same_fill to stars tail false e = filled-without to stars [] tail e

pub carried_if : (from to : List Token) (ns : List ℕ) (s : List Token) (has : Bool) → in_set from s ≡ has →
    carried from to ns s ≡ (if has then Some (filled to (map (numbered (stars_of from s)) ns) (tail_of from s)) else None)
carried_if from to ns s has e = rw e refl

-- what is joined is carried
pub carried_from : (from to : List Token) (ns : List ℕ) (s t : List Token) → AreFit from to ns → Joins from to ns s t → carried from to ns s ≡ Some t
carried_from from to ns s t fit j =
    let some = (concrete_parts j.tail j.given.rest).0 in
    let g = grammar from fit.from_pattern in
    let stars : stars_of from s ≡ j.stars = ap (stars_of from) j.s_is ∙ stars-filled from j.stars j.tail g.last j.given.each some in
    let tail : tail_of from s ≡ (if has_tail from then j.tail else []) = ap (tail_of from) j.s_is ∙ tail-filled from j.stars j.tail some in
    carried_if from to ns s true (from_member from to ns s t j)
    ∙ ap (λ us. Some (filled to (map (numbered us) ns) (tail_of from s))) stars
    ∙ ap (λ us. Some (filled to (map (numbered j.stars) ns) us)) tail
    ∙ ap (λ us. Some us) (same_fill to (map (numbered j.stars) ns) j.tail (has_tail from) fit.tails)
    ∙ ap (λ us. Some us) (sym j.t_is)

-- a subject of the first pattern is joined with what it is carried to
pub some-joined : (from to : List Token) (ns : List ℕ) (s : List Token) (has : Bool) → has_tail from ≡ has → AreFit from to ns → IsConcreteSubject s → in_set from s ≡ true →
    Joins from to ns s (filled to (map (numbered (stars_of from s)) ns) (tail_of from s))
some-joined from to ns s true e fit c i =
    let g = grammar from fit.from_pattern in
    let literal = (concrete_parts s c).1 in
    record {
      stars = stars_of from s;
      tail = tail_of from s;
      given = record {
        each = counted-stars from s g.last i;
        literal = literal-stars from s literal;
        rest = concrete_from (tail_of from s) (some-tail from s i e) (literal-tail from s literal);
      };
      s_is = sym (filled-again from s i);
      t_is = refl;
    }
some-joined from to ns s false e fit c i =
    let g = grammar from fit.from_pattern in
    let literal = (concrete_parts s c).1 in
    let other : List Token = (97 ∷ []) ∷ [] in
    record {
      stars = stars_of from s;
      tail = other;
      given = record { each = counted-stars from s g.last i; literal = literal-stars from s literal; rest = refl };
      s_is = sym (filled-again from s i) ∙ filled-without from (stars_of from s) (tail_of from s) other e;
      t_is = filled-without to (map (numbered (stars_of from s)) ns) (tail_of from s) other (fit.tails ∙ e);
    }

-- and what is carried is joined
pub joined_from : (from to : List Token) (ns : List ℕ) (s t : List Token) → AreFit from to ns → IsConcreteSubject s → carried from to ns s ≡ Some t → Joins from to ns s t
joined_from from to ns s t fit c e = by (in_set from s) refl
  where
    by : (b : Bool) → in_set from s ≡ b → Joins from to ns s t
    by false i = absurd (let none : None ≡ Some t = sym (carried_if from to ns s false i) ∙ e in cc)
    by true i =
        let same : Some (filled to (map (numbered (stars_of from s)) ns) (tail_of from s)) ≡ Some t = sym (carried_if from to ns s true i) ∙ e in
        let is : filled to (map (numbered (stars_of from s)) ns) (tail_of from s) ≡ t = cc in
        subst (Joins from to ns s) is (some-joined from to ns s (has_tail from) refl fit c i)

-- a mapping's patterns, in both directions
pub fit_forward : (m : RowMap) → IsRowMap m → AreFit m.outer m.local m.references
fit_forward m h =
    record { from_pattern = h.outer; to_pattern = h.local; tails = h.tails; stars = h.stars; within = (and_parts (are_within (count_stars m.outer) m.references) (has_each (count_stars m.outer) m.references) h.each).0 }

pub fit_back : (m : RowMap) → IsRowMap m → AreFit m.local m.outer (inverse (count_stars m.outer) m.references)
fit_back m h =
    let has = (and_parts (are_within (count_stars m.outer) m.references) (has_each (count_stars m.outer) m.references) h.each).1 in
    record {
      from_pattern = h.local;
      to_pattern = h.outer;
      tails = sym h.tails;
      stars = sym (length-inverse (count_stars m.outer) m.references);
      within = rw (h.stars) (within-inverse (count_stars m.outer) m.references has);
    }

pub pair_joins : (m : RowMap) (s t : List Token) → IsPair m s t → Joins m.outer m.local m.references s t
pair_joins m s t p = record { stars = p.stars; tail = p.tail; given = p.given; s_is = p.outer_is; t_is = p.local_is }

pub joins_pair : (m : RowMap) (s t : List Token) → Joins m.outer m.local m.references s t → IsPair m s t
joins_pair m s t j = record { stars = j.stars; tail = j.tail; given = j.given; outer_is = j.s_is; local_is = j.t_is }

pub pair_turned : (m : RowMap) (s t : List Token) → IsRowMap m → IsPair m s t → Joins m.local m.outer (inverse (count_stars m.outer) m.references) t s
pair_turned m s t h p =
    let fit = fit_forward m h in
    let again : map (numbered (map (numbered p.stars) m.references)) (inverse (count_stars m.outer) m.references) ≡ p.stars =
    ap (λ n. map (numbered (map (numbered p.stars) m.references)) (inverse n m.references)) (sym p.given.each)
    ∙ undone p.stars m.references (rw (p.given.each) h.each) in
    record {
      stars = map (numbered p.stars) m.references;
      tail = p.tail;
      given = record {
        each = length-map m.references (numbered p.stars) ∙ sym h.stars;
        literal = literal-order p.stars m.references p.given.literal (within_stars m.outer m.local m.references p.stars fit p.given.each);
        rest = p.given.rest;
      };
      s_is = p.local_is;
      t_is = p.outer_is ∙ ap (λ us. filled m.outer us p.tail) (sym again);
    }

pub turned_pair : (m : RowMap) (s t : List Token) → IsRowMap m → Joins m.local m.outer (inverse (count_stars m.outer) m.references) t s → IsPair m s t
turned_pair m s t h j =
    let fit = fit_back m h in
    let ns = inverse (count_stars m.outer) m.references in
    let again : map (numbered (map (numbered j.stars) ns)) m.references ≡ j.stars =
    redone (count_stars m.outer) j.stars m.references (fit_forward m h).within h.once (j.given.each ∙ h.stars) in
    record {
      stars = map (numbered j.stars) ns;
      tail = j.tail;
      given = record {
        each = length-map ns (numbered j.stars) ∙ length-inverse (count_stars m.outer) m.references;
        literal = literal-order j.stars ns j.given.literal (within_stars m.local m.outer ns j.stars fit j.given.each);
        rest = j.given.rest;
      };
      outer_is = j.t_is;
      local_is = j.s_is ∙ ap (λ us. filled m.local us j.tail) (sym again);
    }

pub forward_pairs : ForwardIsPairs
forward_pairs m h s t c = (
  λ e. joins_pair m s t (joined_from m.outer m.local m.references s t (fit_forward m h) c e),
  λ p. carried_from m.outer m.local m.references s t (fit_forward m h) (pair_joins m s t p),
)

pub back_pairs : BackIsPairs
back_pairs m h s t c = (
  λ e. turned_pair m s t h (joined_from m.local m.outer (inverse (count_stars m.outer) m.references) t s (fit_back m h) c e),
  λ p. carried_from m.local m.outer (inverse (count_stars m.outer) m.references) t s (fit_back m h) (pair_turned m s t h p),
)

pub undoes : BackUndoesForward
undoes m h s t cs ct = (
  λ e. (back_pairs m h s t ct).1 ((forward_pairs m h s t cs).0 e),
  λ e. (forward_pairs m h s t cs).1 ((back_pairs m h s t ct).0 e),
)

pub subjects : PairsAreSubjects
subjects m h s t p =
    let j = pair_joins m s t p in
    let fit = fit_forward m h in (
      (from_concrete m.outer m.local m.references s t fit j, from_member m.outer m.local m.references s t j),
      (to_concrete m.outer m.local m.references s t fit j, to_member m.outer m.local m.references s t j),
    )

some_same : (a b : List Token) → Some a ≡ Some b → a ≡ b
some_same a b e = cc

pub one : OneToOne
one m h s t u v p q =
    let there = λ (a b : List Token) (r : IsPair m a b). carried_from m.outer m.local m.references a b (fit_forward m h) (pair_joins m a b r) in
    let back_again = λ (a b : List Token) (r : IsPair m a b). carried_from m.local m.outer (inverse (count_stars m.outer) m.references) b a (fit_back m h) (pair_turned m a b h r) in (
      λ e. some_same t v (sym (there s t p) ∙ ap (λ us. carried m.outer m.local m.references us) e ∙ there u v q),
      λ e. some_same s u (sym (back_again s t p) ∙ ap (λ us. carried m.local m.outer (inverse (count_stars m.outer) m.references) us) e ∙ back_again u v q),
    )

-- a subject and its other side differ in length as the patterns do
pub lengths : (from to : List Token) (ns : List ℕ) (s t : List Token) → AreFit from to ns → Joins from to ns s t → length t + length from ≡ length s + length to
lengths from to ns s t fit j =
    by (has_tail from) refl fit.tails
  where
    g : IsGrammar from
    g = grammar from fit.from_pattern

    k : IsGrammar to
    k = grammar to fit.to_pattern

    one_side : length (filled from j.stars j.tail) + tail_len (has_tail from) 1 ≡ length from + tail_len (has_tail from) (length j.tail)
    one_side = length-filled from j.stars j.tail g.last

    other_side : length (filled to (map (numbered j.stars) ns) j.tail) + tail_len (has_tail to) 1 ≡ length to + tail_len (has_tail to) (length j.tail)
    other_side = length-filled to (map (numbered j.stars) ns) j.tail k.last

    by : (has : Bool) → has_tail from ≡ has → has_tail to ≡ has_tail from → length t + length from ≡ length s + length to
    by true e f =
        let a = rw e at one_side in
        let b = rw (f ∙ e) at other_side in
        omega (arith, a, b, ap (λ (us : List Token). length us) j.s_is, ap (λ (us : List Token). length us) j.t_is)
    by false e f =
        let a = rw e at one_side in
        let b = rw (f ∙ e) at other_side in
        omega (arith, a, b, ap (λ (us : List Token). length us) j.s_is, ap (λ (us : List Token). length us) j.t_is)

-- what is answered by the function is answered by the pairs
by_size : (pairs : List Token → Type 0) (ts : List Token) (long : Bool) (answer : Result (Option (List Token)) MapError) →
    ltb 512 (length ts) ≡ long → pairs ts → IsSent long ts answer → IsSide pairs answer
by_size pairs ts true answer e p h = subst (IsSide pairs) (sym h) (ts, p, grind (arith, nat_tests, e))
by_size pairs ts false answer e p (inl h) = subst (IsSide pairs) (sym h) (p, grind (arith, nat_tests, e))
by_size pairs ts false answer e p (inr h) = subst (IsSide pairs) (sym h) (ts, p, grind (arith, nat_tests, e))

pub by_pairs : (pairs : List Token → Type 0) (found : Option (List Token)) (answer : Result (Option (List Token)) MapError) →
    ((ts : List Token) → (found ≡ Some ts) ↔ pairs ts) → IsMapped found answer → IsSide pairs answer
by_pairs pairs None answer same h = subst (IsSide pairs) (sym h) (λ ts p. let e = (same ts).1 p in cc)
by_pairs pairs (Some ts) answer same h = by_size pairs ts (ltb 512 (length ts)) answer refl ((same ts).0 refl) h
