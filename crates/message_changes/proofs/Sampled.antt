-- A question is shortened, and its sample taken.
use Rattle.std.proofs.Common.{◌≡◌, ◌∙◌, ◌<◌, ◌≤◌, ◌+◌, ◌-◌, ◌⊎◌, inl, inr, ◌&&◌, ◌||◌, ℕ, zero, suc, Bool, true, false, not, if◌then◌else◌, List, [], ◌∷◌, length, take, min, Option, Some, None, ap, refl, sym, subst, arith}
use Rattle.std.specs.Prelude.{nat_le}
use Rattle.std.specs.List.{list_all}
use Rattle.std.proofs.lemmas.Bool.{and_parts, cases_lt}
use Rattle.subjects.specs.Subject.{Token, covers, is_literal, is_star, is_tail, is_token, same_token, tail_is_last, IsPattern, IsSubject}
use Rattle.subjects.proofs.Grammar.{pattern_from_subject}
use Rattle.subjects.proofs.Same.{equal_from_same}
use Rattle.permissions.specs.Lists.{Queue}
use Rattle.pattern_sets.proofs.Counts.{pattern_few}
use Rattle.pattern_sets.proofs.Exact.{concrete, few_test, front_of_front, front_short, front_subject, length_front, plain}
use Rattle.pattern_sets.proofs.Sampling.{cover_parts, lengths_suffice, samples_suffice}
use Rattle.pattern_sets.specs.Asking.{common, IsQueue}
use Rattle.pattern_sets.specs.Laws.{has_tail, has_token, sample_of}
use Rattle.pattern_sets.specs.Samples.{part}
use Rattle.message_changes.proofs.Members.{two}
use Rattle.message_changes.proofs.Verdicts.{any, any_covers, no_queue, queue_has, subject_same}
use Rattle.message_changes.specs.Exact.{IsAskedWith}

-- ---- what covers a pattern that covers another covers that one

token_through : (q p r : Token) → (is_star q || same_token q p) ≡ true → (is_star p || same_token p r) ≡ true → (is_star q || same_token q r) ≡ true
token_through q p r e f = by_star (is_star q) refl
  where
    by_star : (b : Bool) → is_star q ≡ b → (is_star q || same_token q r) ≡ true
    by_star true s = ap (λ (b : Bool). b || same_token q r) s
    by_star false s =
        let same : q ≡ p = equal_from_same q p (subst (λ (b : Bool). (b || same_token q p) ≡ true) s e) in
        subst (λ (t : Token). (is_star t || same_token t r) ≡ true) (sym same) f

cover_made : (qt rt m c : Bool) → qt ≡ false → rt ≡ false → m ≡ true → c ≡ true → (qt || (not rt && m && c)) ≡ true
cover_made qt rt m c e f g h = rw (e, f, g, h) refl

pub covers_through : (q p r : List Token) → covers q p ≡ true → covers p r ≡ true → covers q r ≡ true
covers_through [] [] r e f = f
covers_through [] (p ∷ ps) r e f = absurd (cc)
covers_through (q ∷ qs) [] r e f = absurd (cc)
covers_through (q ∷ qs) (p ∷ ps) [] e f = absurd (cc)
covers_through (q ∷ qs) (p ∷ ps) (r ∷ rs) e f = by_tail (is_tail q) refl (λ c d. covers_through qs ps rs c d)
  where
    by_tail : (b : Bool) → is_tail q ≡ b → (covers qs ps ≡ true → covers ps rs ≡ true → covers qs rs ≡ true) → covers (q ∷ qs) (r ∷ rs) ≡ true
    by_tail true t more = ap (λ (b : Bool). b || (not (is_tail r) && (is_star q || same_token q r) && covers qs rs)) t
    by_tail false t more =
        let one = cover_parts (is_tail q) (is_tail p) (is_star q) (same_token q p) (covers qs ps) e t in
        let other = cover_parts (is_tail p) (is_tail r) (is_star p) (same_token p r) (covers ps rs) f one.0 in
        cover_made (is_tail q) (is_tail r) (is_star q || same_token q r) (covers qs rs) t other.0 (token_through q p r one.1 other.1) (more one.2 other.2)

-- ---- a pattern that is too long is judged like its front

front_tokens : (n : ℕ) (l : List Token) → list_all is_token l ≡ true → list_all is_token (take n l) ≡ true
front_tokens zero l h = refl
front_tokens (suc n) [] h = refl
front_tokens (suc n) (t ∷ ts) h =
    let parts = and_parts (is_token t) (list_all is_token ts) h in two (is_token t) (list_all is_token (take n ts)) parts.0 (front_tokens n ts parts.1)

one_last : (m : ℕ) (s : Token) → tail_is_last (take (suc m) (s ∷ [])) ≡ true
one_last zero s = refl
one_last (suc m) s = refl

front_last : (n : ℕ) (l : List Token) → tail_is_last l ≡ true → tail_is_last (take n l) ≡ true
front_last zero l h = refl
front_last (suc n) [] h = refl
front_last (suc n) (t ∷ []) h = one_last n t
front_last (suc zero) (t ∷ s ∷ ts) h = refl
front_last (suc (suc n)) (t ∷ s ∷ ts) h =
    let parts = and_parts (not (is_tail t)) (tail_is_last (s ∷ ts)) h in
    two (not (is_tail t)) (tail_is_last (s ∷ take n ts)) parts.0 (front_last (suc n) (s ∷ ts) parts.1)

front_pattern : (m : ℕ) (u : List Token) → IsPattern u → IsPattern (take (suc m) u)
front_pattern m [] h = absurd (cc)
front_pattern m (t ∷ ts) h =
    let tests = and_parts (list_all is_token (t ∷ ts) && tail_is_last (t ∷ ts)) (nat_le (length (t ∷ ts)) 512) h in
    let fronts = and_parts (list_all is_token (t ∷ ts)) (tail_is_last (t ∷ ts)) tests.0 in
    let few = pattern_few (t ∷ ts) h in
    let less = front_short (suc m) (t ∷ ts) in
    two (list_all is_token (t ∷ take m ts) && tail_is_last (t ∷ take m ts)) (nat_le (length (t ∷ take m ts)) 512)
    (two (list_all is_token (t ∷ take m ts)) (tail_is_last (t ∷ take m ts)) (front_tokens (suc m) (t ∷ ts) fronts.0) (front_last (suc m) (t ∷ ts) fronts.1))
    (few_test (length (t ∷ take m ts)) (omega (arith, few, less)))

-- A pattern with no more tokens than are asked about, which each pattern of at most m tokens covers exactly if it covers another.
pub record IsShort (m : ℕ) (u w : List Token) : Type 0 where
  pub before : ℕ
  pub few : before < min (m + 1) 512
  pub length_is : length w ≡ before + 1
  pub pattern : IsPattern w
  pub subject : IsSubject u → IsSubject w
  pub same : (p : List Token) → length p ≤ m → covers p w ≡ covers p u

some_tokens : (u : List Token) → IsPattern u → 0 < length u
some_tokens [] h = absurd (cc)
some_tokens (t ∷ ts) h = omega arith

pub shorten : (m : ℕ) (u : List Token) → IsPattern u → (w : List Token) × IsShort m u w
shorten m u h = by_length (cases_lt (min (m + 1) 512) (length u))
  where
    long : m + 1 < length u → (w : List Token) × IsShort m u w
    long more =
        let next : m + 1 ≡ suc m = omega arith in
        let few = pattern_few u h in
        let size = length_front (m + 1) u (omega (arith, more)) in (
          take (m + 1) u,
          record {
            before = m;
            few = omega (arith, more, few);
            length_is = size;
            pattern = subst (λ (n : ℕ). IsPattern (take n u)) (sym next) (front_pattern m u h);
            subject = λ k. front_subject m u k;
            same =
                λ p less.
                lengths_suffice p (take (m + 1) u) u (omega (arith, less, size)) (omega (arith, less, more)) (front_of_front (length p) (m + 1) u (omega (arith, less)));
          },
        )

    by_length : ((min (m + 1) 512) < length u) ⊎ (length u ≤ min (m + 1) 512) → (w : List Token) × IsShort m u w
    by_length (inl more) = let few = pattern_few u h in long (omega (arith, more, few))
    by_length (inr less) =
        let some = some_tokens u h in (
          u,
          record {
            before = length u - 1;
            few = omega (arith, less, some);
            length_is = omega (arith, some);
            pattern = h;
            subject = λ k. k;
            same = λ p few. refl;
          },
        )

-- ---- patterns that are known

-- a pattern is no longer than the longest, or that of everything
abbrev pub IsKnown : ℕ → List Token → Type 0
IsKnown m p = (length p ≤ m) ⊎ (p ≡ any)

pub known_covers : (m : ℕ) (u w p : List Token) → IsShort m u w → IsKnown m p → covers p u ≡ true → covers p w ≡ true
known_covers m u w p short (inl less) e = short.same p less ∙ e
known_covers m u w p short (inr is) e =
    let long = short.length_is in subst (λ (q : List Token). covers q w ≡ true) (sym is) (any_covers w (omega (arith, long)))

-- ---- the sample of a question's subject

pub record IsSubjectSample (fresh : Token) (m : ℕ) (one other u sampled : List Token) : Type 0 where
  pub before : ℕ
  pub tailed : Bool
  pub few : before < min (m + 1) 512
  pub tails : IsSubject u → tailed ≡ false
  pub is : common fresh tailed (before + 1) one other ≡ Some sampled
  pub first : covers one sampled ≡ true
  pub second : covers other sampled ≡ true
  pub pattern : IsPattern sampled
  pub subject : IsSubject u → IsSubject sampled
  pub back : (p : List Token) → has_token fresh p ≡ false → length p ≤ m → covers p sampled ≡ true → covers p u ≡ true

pub subject_sample : (fresh : Token) (m : ℕ) (one other u : List Token) → is_literal fresh ≡ true → IsPattern u → IsKnown m one → IsKnown m other → covers one u ≡ true → covers other u ≡ true →
    (sampled : List Token) × IsSubjectSample fresh m one other u sampled
subject_sample fresh m one other u literal h k l c d =
    let short = shorten m u h in
    let w = short.0 in
    let s = short.1 in
    let stands = samples_suffice fresh one other w literal s.pattern (known_covers m u w one s k c) (known_covers m u w other s l d) in
    let sampled = stands.0 in
    let at_length = subst (λ (n : ℕ). sample_of fresh (part (has_tail w) n one) (part (has_tail w) n other) ≡ Some sampled) s.length_is stands.1 in (
      sampled,
      record {
        before = s.before;
        tailed = has_tail w;
        few = s.few;
        tails = λ is. plain w (concrete w (s.subject is)).each;
        is = at_length;
        first = stands.2.first;
        second = stands.2.second;
        pattern = stands.2.pattern;
        subject = λ is. stands.2.subject (s.subject is);
        back = λ p free less covered. sym (s.same p less) ∙ stands.2.sample_law p free covered;
      },
    )

known_back : (fresh : Token) (m : ℕ) (one other q sampled : List Token) → IsSubjectSample fresh m one other q sampled → 0 < length q →
    (p : List Token) → has_token fresh p ≡ false → IsKnown m p → covers p sampled ≡ true → covers p q ≡ true
known_back fresh m one other q sampled s some p free (inl less) had = s.back p free less had
known_back fresh m one other q sampled s some p free (inr is) had = subst (λ (r : List Token). covers r q ≡ true) (sym is) (any_covers q some)

-- ---- that of its queue

pub record IsQueueSample (fresh : Token) (b : Bool) (m : ℕ) (most : Option ℕ) (one other : List Token) (queue sampled : Queue) : Type 0 where
  pub asked : IsAskedWith b sampled
  pub is : IsQueue fresh most one other sampled
  pub first : queue_has one sampled ≡ true
  pub second : queue_has other sampled ≡ true
  pub back : (p : List Token) → has_token fresh p ≡ false → IsKnown m p → queue_has p sampled ≡ true → queue_has p queue ≡ true

pub queue_sample : (fresh : Token) (b : Bool) (m : ℕ) (most : Option ℕ) (one other : List Token) (queue : Queue) → is_literal fresh ≡ true → most ≡ (if b then Some (min (m + 1) 512) else None) → IsAskedWith b queue →
    IsKnown m one → IsKnown m other → queue_has one queue ≡ true → queue_has other queue ≡ true → (sampled : Queue) × IsQueueSample fresh b m most one other queue sampled
queue_sample fresh false m most one other (Some q) literal e asked k l c d = absurd (no_queue q (sym asked))
queue_sample fresh false m most one other None literal e asked k l c d =
    (None, record { asked = refl; is = subst (λ (o : Option ℕ). IsQueue fresh o one other None) (sym e) tt; first = refl; second = refl; back = λ p free known had. refl })
queue_sample fresh true m most one other None literal e asked k l c d = absurd (no_queue asked.0 asked.1)
queue_sample fresh true m most one other (Some q) literal e asked k l c d =
    let h = subject_same q asked.0 asked.1 asked.2 in
    let some = (concrete q h).some in
    let made = subject_sample fresh m one other q literal (pattern_from_subject q some h).0 k l c d in
    let s = made.1 in
    let untailed = subst (λ (t : Bool). common fresh t (s.before + 1) one other ≡ Some made.0) (s.tails h) s.is in (
      Some made.0,
      record {
        asked = (made.0, refl, s.subject h);
        is = subst (λ (o : Option ℕ). IsQueue fresh o one other (Some made.0)) (sym e) (s.before, s.few, untailed, s.subject h);
        first = s.first;
        second = s.second;
        back = λ p free known had. known_back fresh m one other q made.0 s some p free known had;
      },
    )
