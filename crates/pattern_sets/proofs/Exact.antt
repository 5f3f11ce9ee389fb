-- Where no sample differs, nothing does.
use Rattle.std.proofs.Common.{◌≡◌, ◌∙◌, ◌<◌, ◌≤◌, ◌⊎◌, inl, inr, ◌+◌, ◌-◌, ◌++◌, ◌&&◌, ◌||◌, ℕ, zero, suc, Bool, true, false, not, List, [], ◌∷◌, length, take, map, max, min, Option, Some, None, ap, refl, sym, subst, arith, get_or, length-append}
use Rattle.std.proofs.lemmas.Bool.Decides.{nat_tests}
use Rattle.std.proofs.lemmas.List.{get_or-map, get_or_append_left, get_or_push, length-map}
use Rattle.std.proofs.lemmas.List.Folds.{list_any-append, list_any_at}
use Rattle.std.specs.Prelude.{nat_le, is_some}
use Rattle.std.specs.Option.{option_map}
use Rattle.std.specs.List.{list_all, list_any, slice_index_or}
use Rattle.std.proofs.lemmas.Bool.{and_parts, cases_lt}
use Rattle.subjects.specs.Subject.{Token, covers, in_set, is_concrete, is_literal, is_star, is_tail, is_subject, is_token, is_wildcard, same_token, tokens_of, IsSubject}
use Rattle.subjects.proofs.Grammar.{pattern_from_subject}
use Rattle.subjects.proofs.Text.{pattern_again}
use Rattle.pattern_sets.specs.Asking.{common, AllAlike, IsAlikeIf, IsExact, IsFirst, IsQueue, Judging}
use Rattle.pattern_sets.specs.Judging.{is_between, HasNone, IsDifference}
use Rattle.pattern_sets.specs.Laws.{has_tail, has_token, sample_of, StandsFor}
use Rattle.pattern_sets.specs.Longest.{longest}
use Rattle.pattern_sets.specs.Samples.{part, tail}
use Rattle.pattern_sets.specs.Sets.{IsSearch}
use Rattle.pattern_sets.specs.declared.search.Allowing.{Allowing}
use Rattle.pattern_sets.specs.declared.search.Asked.{Asked}
use Rattle.pattern_sets.specs.declared.search.Reason.{Reason}
use Rattle.pattern_sets.specs.declared.search.Search.{Search}
use Rattle.pattern_sets.proofs.Sampling.{lengths_suffice, samples_suffice}
use Rattle.pattern_sets.proofs.Searching.{item_of, same_at}

-- ---- tests

by_not : (b : Bool) → (b ≡ true → ⊥) → b ≡ false
by_not true h = absurd (h refl)
by_not false h = refl

two : (a b : Bool) → a ≡ true → b ≡ true → (a && b) ≡ true
two a b e f = rw (e, f) refl

no_both : (b : Bool) → b ≡ true → b ≡ false → ⊥
no_both b e f = let bad : true ≡ false = sym e ∙ f in cc

not_true : (b : Bool) → not b ≡ true → b ≡ false
not_true true e = absurd (cc)
not_true false e = refl

literal_plain : (t : Token) → is_literal t ≡ true → is_tail t ≡ false
literal_plain t h = after (is_star t) (is_tail t) (and_parts (is_token t) (not (is_wildcard t)) h).1
  where
    after : (s b : Bool) → not (s || b) ≡ true → b ≡ false
    after true b e = absurd (cc)
    after false true e = absurd (cc)
    after false false e = refl

-- ---- of a concrete subject, to cover it is to have it

both_tests : (qt pt m c d : Bool) → pt ≡ false → c ≡ d → (qt || (not pt && m && c)) ≡ (qt || (m && d))
both_tests qt true m c d e f = absurd (cc)
both_tests qt false m c d e f = ap (λ b. qt || (m && b)) f

pub covers_as : (p s : List Token) → list_all is_literal s ≡ true → covers p s ≡ in_set p s
covers_as [] [] h = refl
covers_as [] (s ∷ ss) h = refl
covers_as (p ∷ ps) [] h = refl
covers_as (p ∷ ps) (s ∷ ss) h =
    let parts = and_parts (is_literal s) (list_all is_literal ss) h in
    both_tests (is_tail p) (is_tail s) (is_star p || same_token p s) (covers ps ss) (in_set ps ss) (literal_plain s parts.0) (covers_as ps ss parts.1)

pub literals : (s : List Token) → is_concrete s ≡ true → list_all is_literal s ≡ true
literals [] h = refl
literals (s ∷ ss) h = h

pub plain : (s : List Token) → list_all is_literal s ≡ true → has_tail s ≡ false
plain [] h = refl
plain (s ∷ []) h = literal_plain s (and_parts (is_literal s) true h).0
plain (s ∷ t ∷ ss) h = plain (t ∷ ss) (and_parts (is_literal s) (list_all is_literal (t ∷ ss)) h).1

-- what is known of a subject
pub record IsConcrete (s : List Token) : Type 0 where
  pub each : list_all is_literal s ≡ true
  pub some : 0 < length s
  pub few : length s ≤ 512

concrete_some : (s : List Token) → is_concrete s ≡ true → 0 < length s
concrete_some [] h = absurd (cc)
concrete_some (s ∷ ss) h = omega arith

pub few_by : (n : ℕ) → nat_le n 512 ≡ true → n ≤ 512
few_by n h = grind (arith, nat_tests)

pub concrete : (s : List Token) → IsSubject s → IsConcrete s
concrete s h =
    let parts = and_parts (is_concrete s) (nat_le (length s) 512) h in
    record { each = literals s parts.0; some = concrete_some s parts.0; few = few_by (length s) parts.1 }

pub length_front : (n : ℕ) (l : List Token) → n ≤ length l → length (take n l) ≡ n
length_front zero l less = refl
length_front (suc n) [] less = absurd (omega (arith, less))
length_front (suc n) (t ∷ ts) less = ap suc (length_front n ts (omega (arith, less)))

pub front_of_front : (m n : ℕ) (l : List Token) → m ≤ n → take m (take n l) ≡ take m l
front_of_front zero n l less = refl
front_of_front (suc m) zero l less = absurd (omega (arith, less))
front_of_front (suc m) (suc n) [] less = refl
front_of_front (suc m) (suc n) (t ∷ ts) less = ap (λ l. t ∷ l) (front_of_front m n ts (omega (arith, less)))

front_literals : (n : ℕ) (l : List Token) → list_all is_literal l ≡ true → list_all is_literal (take n l) ≡ true
front_literals zero l h = refl
front_literals (suc n) [] h = refl
front_literals (suc n) (t ∷ ts) h =
    let parts = and_parts (is_literal t) (list_all is_literal ts) h in
    two (is_literal t) (list_all is_literal (take n ts)) parts.0 (front_literals n ts parts.1)

pub front_short : (n : ℕ) (l : List Token) → length (take n l) ≤ length l
front_short zero l = omega arith
front_short (suc n) [] = omega arith
front_short (suc n) (t ∷ ts) = let less = front_short n ts in omega (arith, less)

pub few_test : (n : ℕ) → n ≤ 512 → nat_le n 512 ≡ true
few_test n h = grind (arith, nat_tests)

subject_of : (t : Token) (ts : List Token) → list_all is_literal (t ∷ ts) ≡ true → length (t ∷ ts) ≤ 512 → IsSubject (t ∷ ts)
subject_of t ts h few = two (is_concrete (t ∷ ts)) (nat_le (length (t ∷ ts)) 512) h (few_test (length (t ∷ ts)) few)

-- the front of a subject is one
pub front_subject : (m : ℕ) (s : List Token) → IsSubject s → IsSubject (take (m + 1) s)
front_subject m s h = let more : m + 1 ≡ suc m = omega arith in subst (λ n. IsSubject (take n s)) (sym more) (by_tokens s h)
  where
    by_tokens : (l : List Token) → IsSubject l → IsSubject (take (suc m) l)
    by_tokens [] k = absurd (cc)
    by_tokens (t ∷ ts) k =
        let known = concrete (t ∷ ts) k in
        let few = known.few in
        let less = front_short (suc m) (t ∷ ts) in
        subject_of t (take m ts) (front_literals (suc m) (t ∷ ts) known.each) (omega (arith, few, less))

-- ---- lists of patterns, at two subjects

module _ {P : Type 0} (of : P → List Token) where
  -- what has the one has the other, pattern by pattern
  pub no_more : (u s : List Token) (ps : List P) (x : Token) → list_any (λ p. has_token x (of p)) ps ≡ false →
      ((p : List Token) → has_token x p ≡ false → in_set p u ≡ true → in_set p s ≡ true) →
      list_any (λ p. in_set (of p) u) ps ≡ true → list_any (λ p. in_set (of p) s) ps ≡ true
  no_more u s [] x free law h = h
  no_more u s (p ∷ ps) x free law h =
      by_first (has_token x (of p)) (list_any (λ q. has_token x (of q)) ps) (in_set (of p) u) (list_any (λ q. in_set (of q) u) ps) (in_set (of p) s) (list_any (λ q. in_set (of q) s) ps)
      free h (law (of p)) (no_more u s ps x)
    where
      by_first : (f g a b c d : Bool) → (f || g) ≡ false → (a || b) ≡ true → (f ≡ false → a ≡ true → c ≡ true) →
          (g ≡ false → ((q : List Token) → has_token x q ≡ false → in_set q u ≡ true → in_set q s ≡ true) → b ≡ true → d ≡ true) → (c || d) ≡ true
      by_first true g a b c d e k l m = absurd (cc)
      by_first false true a b c d e k l m = absurd (cc)
      by_first false false true b c d e k l m = rw (l refl refl) refl
      by_first false false false b true d e k l m = refl
      by_first false false false b false d e k l m = m refl law k

  -- two subjects of which each is longer than each pattern, and begins alike
  pub same_beyond : (u s : List Token) (ps : List P) (n : ℕ) → longest (map of ps) < n → n ≤ length s → u ≡ take n s → list_all is_literal s ≡ true → list_all is_literal u ≡ true →
      list_any (λ p. in_set (of p) u) ps ≡ list_any (λ p. in_set (of p) s) ps
  same_beyond u s [] n less most e h k = refl
  same_beyond u s (p ∷ ps) n less most e h k =
      let long : length u ≡ n = ap length e ∙ length_front n s most in
      let front : take (length (of p)) u ≡ take (length (of p)) s = ap (take (length (of p))) e ∙ front_of_front (length (of p)) n s (omega (arith, less)) in
      let one : in_set (of p) u ≡ in_set (of p) s =
      sym (covers_as (of p) u k) ∙ lengths_suffice (of p) u s (omega (arith, less, long)) (omega (arith, less, most)) front ∙ covers_as (of p) s h in
      let more = same_beyond u s ps n (omega (arith, less)) most e h k in
      ap (λ b. b || list_any (λ q. in_set (of q) u) ps) one ∙ ap (λ b. in_set (of p) s || b) more

-- ---- which pattern has a subject

record IsAt {P : Type 0} (test : P → Bool) (ps : List P) : Type 0 where
  place : ℕ
  inside : place < length ps
  passes : (d : P) → test (get_or ps place d) ≡ true

found : {P : Type 0} (test : P → Bool) (ps : List P) → list_any test ps ≡ true → IsAt test ps
found test [] h = absurd (cc)
found test (p ∷ ps) h = by_first (test p) refl (λ k. found test ps k)
  where
    by_first : (b : Bool) → test p ≡ b → (list_any test ps ≡ true → IsAt test ps) → IsAt test (p ∷ ps)
    by_first true e more = record { place = 0; inside = omega arith; passes = λ d. e }
    by_first false e more =
        let rest = more (subst (λ (b : Bool). (b || list_any test ps) ≡ true) e h) in
        record { place = suc rest.place; inside = let less = rest.inside in omega (arith, less); passes = λ d. rest.passes d }

-- ---- lists in a row

part_false : (a b : Bool) → (a || b) ≡ false → (a ≡ false) × (b ≡ false)
part_false true b e = absurd (cc)
part_false false b e = (refl, e)

split_any : {A : Type 0} (test : A → Bool) (xs ys : List A) → list_any test (xs ++ ys) ≡ false → (list_any test xs ≡ false) × (list_any test ys ≡ false)
split_any test xs ys e = part_false (list_any test xs) (list_any test ys) (sym (list_any-append test xs ys) ∙ e)

split_longest : {A : Type 0} (of : A → List Token) (xs ys : List A) → longest (map of (xs ++ ys)) ≡ max (longest (map of xs)) (longest (map of ys))
split_longest of [] ys = omega arith
split_longest of (x ∷ xs) ys = let rest = split_longest of xs ys in omega (arith, rest)

-- ---- two sets

is_same : {p q l k o n w v : Bool} → p ≡ q → l ≡ k → o ≡ n → w ≡ v → (p && not l && not (o && not w)) ≡ (q && not k && not (n && not v))
is_same e f g i = cc

between_parts : (p l o m : Bool) → (p && not l && not (o && not m)) ≡ true → (p ≡ true) × (l ≡ false) × ((o ≡ false) ⊎ (m ≡ true))
between_parts false l o m e = absurd (cc)
between_parts true true o m e = absurd (cc)
between_parts true false true true e = (refl, refl, inr refl)
between_parts true false true false e = absurd (cc)
between_parts true false false m e = (refl, refl, inl refl)

between_whole : (p l o m : Bool) → p ≡ true → l ≡ false → (o ≡ false) ⊎ (m ≡ true) → (p && not l && not (o && not m)) ≡ true
between_whole p l o m e f (inl g) = rw (e, f, g) refl
between_whole p l true m e f (inr g) = rw (e, f, g) refl
between_whole p l false m e f (inr g) = rw (e, f) refl

any_subject : (s : List Token) → 0 < length s → covers (tail ∷ []) s ≡ true
any_subject [] less = absurd (omega (arith, less))
any_subject (s ∷ ss) less = refl

module _ {P : Type 0} (of : P → List Token) (patterns less others others_less : List P) where
  abbrev pub between : List Token → Bool
  between s = is_between of patterns less others others_less s

  abbrev Is : Search → Type 0
  Is search = IsSearch of patterns less others others_less search

  -- two patterns of reasons that both cover a subject: their sample stands for it, and was judged alike
  sampled : (search : Search) (differs : Judging) (s : List Token) (n i j : ℕ) → Is search → IsSubject s → length s ≡ n + 1 → AllAlike differs search false (n + 1) →
      (a : Allowing) (r : Reason) → i < length search.allowing.items → j < length search.refusing.items →
      covers (slice_index_or search.allowing.items i a).reason.subject.now s ≡ true → covers (slice_index_or search.refusing.items j r).subject.now s ≡ true →
      (u : List Token) × StandsFor search.token.now (slice_index_or search.allowing.items i a).reason.subject.now (slice_index_or search.refusing.items j r).subject.now s u × (differs u None ≡ false)
  sampled search differs s n i j is h long alike a r ia jr first second =
      let p = (slice_index_or search.allowing.items i a).reason in
      let q = slice_index_or search.refusing.items j r in
      let known = concrete s h in
      let pattern = (pattern_from_subject s known.some h).0 in
      let stands = samples_suffice search.token.now p.subject.now q.subject.now s is.literal pattern first second in
      let u = stands.0 in
      let no_tail : has_tail s ≡ false = plain s known.each in
      let here : common search.token.now false (n + 1) p.subject.now q.subject.now ≡ Some u =
      subst (λ m. sample_of search.token.now (part false m p.subject.now) (part false m q.subject.now) ≡ Some u) long
      (subst (λ b. sample_of search.token.now (part b (length s) p.subject.now) (part b (length s) q.subject.now) ≡ Some u) no_tail stands.1) in
      let reach = is.reach i a ia in
      let judged = (alike i a ia).each j r jr (omega (arith, jr, reach)) in
      let at_text = subst (IsAlikeIf differs search.token.now search.most_of_queues p.queue.now q.queue.now) here judged None (subst (λ m. IsQueue search.token.now m p.queue.now q.queue.now None) (sym is.queue) tt) in
      (u, stands.2, subst (λ t. differs t None ≡ false) (pattern_again u stands.2.pattern) at_text)

  in_of : (p u : List Token) → IsSubject u → covers p u ≡ true → in_set p u ≡ true
  in_of p u h e = sym (covers_as p u (concrete u h).each) ∙ e

  cover_of : (p u : List Token) → IsSubject u → in_set p u ≡ true → covers p u ≡ true
  cover_of p u h e = covers_as p u (concrete u h).each ∙ e

  law : (x : Token) (one other s u : List Token) → IsSubject s → StandsFor x one other s u → (p : List Token) → has_token x p ≡ false → in_set p u ≡ true → in_set p s ≡ true
  law x one other s u h stands p f e = in_of p s h (stands.sample_law p f (cover_of p u (stands.subject h) e))

  -- the sample of a pattern that has a subject and of a reason to refuse it is in the one set and not in the other
  differs_too : (x : Token) (one other s u : List Token) → IsSubject s → StandsFor x one other s u →
      list_any (λ p. has_token x (of p)) less ≡ false → list_any (λ p. in_set (of p) s) less ≡ false → list_any (λ p. in_set (of p) u) patterns ≡ true →
      (list_any (λ p. in_set (of p) u) others ≡ false) ⊎ (list_any (λ p. in_set (of p) u) others_less ≡ true) → between u ≡ true
  differs_too x one other s u h stands free none some refused =
      let still : list_any (λ p. in_set (of p) u) less ≡ false = by_not _ (λ e. no_both _ (no_more of u s less x free (law x one other s u h stands) e) none) in
      between_whole (list_any (λ p. in_set (of p) u) patterns) (list_any (λ p. in_set (of p) u) less) (list_any (λ p. in_set (of p) u) others) (list_any (λ p. in_set (of p) u) others_less) some still refused

  patterns_at : (u one : List Token) (i : ℕ) (d : P) → IsSubject u → i < length patterns → one ≡ of (get_or patterns i d) → covers one u ≡ true → list_any (λ p. in_set (of p) u) patterns ≡ true
  patterns_at u one i d h less same e = list_any_at (λ p. in_set (of p) u) patterns i d less (in_of (of (get_or patterns i d)) u h (subst (λ p. covers p u ≡ true) same e))

  others_at : (u other : List Token) (j : ℕ) (d : P) → IsSubject u → j < length others_less → other ≡ of (get_or others_less j d) → covers other u ≡ true → list_any (λ p. in_set (of p) u) others_less ≡ true
  others_at u other j d h less same e = list_any_at (λ p. in_set (of p) u) others_less j d less (in_of (of (get_or others_less j d)) u h (subst (λ p. covers p u ≡ true) same e))

  -- what a place of the reasons to refuse has
  refusing_at : (search : Search) (j : ℕ) (r : Reason) (e : List Token) → Is search → j < length others_less + 1 →
      (slice_index_or search.refusing.items j r).subject.now ≡ get_or (map of others_less ++ ((tail ∷ []) ∷ [])) j e
  refusing_at search j r e is less =
      let sub = λ (q : Reason). q.subject.now in
      let long = ap length is.refusing in
      let inside : j < length search.refusing.items =
      omega (arith, less, long, length-map search.refusing.items sub, length-append (map of others_less) ((tail ∷ []) ∷ []), length-map others_less of) in
      sym (get_or-map sub search.refusing.items j r e inside) ∙ ap (λ l. get_or l j e) is.refusing

  refusing_long : (search : Search) → Is search → length search.refusing.items ≡ length others_less + 1
  refusing_long search is =
      let long = ap length is.refusing in
      omega (arith, long, length-map search.refusing.items (λ (q : Reason). q.subject.now), length-append (map of others_less) ((tail ∷ []) ∷ []), length-map others_less of)

  refusing_last : (search : Search) (r : Reason) → Is search → (slice_index_or search.refusing.items (length others_less) r).subject.now ≡ tail ∷ []
  refusing_last search r is =
      refusing_at search (length others_less) r [] is (omega arith) ∙ get_or_push (map of others_less) (tail ∷ []) [] (length others_less) (length-map others_less of)

  refusing_entry : (search : Search) (j : ℕ) (r : Reason) (d : P) → Is search → j < length others_less → (slice_index_or search.refusing.items j r).subject.now ≡ of (get_or others_less j d)
  refusing_entry search j r d is less =
      refusing_at search j r [] is (omega (arith, less)) ∙ get_or_append_left (map of others_less) ((tail ∷ []) ∷ []) [] j (omega (arith, less, length-map others_less of))
      ∙ get_or-map of others_less j d [] less

  allowing_long : (search : Search) → Is search → length search.allowing.items ≡ length patterns
  allowing_long search is =
      let long = ap length is.allowing in
      omega (arith, long, length-map search.allowing.items (λ (a : Allowing). a.reason.subject.now), length-map patterns of)

  -- no pattern has the token
  free_of : (search : Search) → Is search →
      (list_any (λ p. has_token search.token.now (of p)) patterns ≡ false) × (list_any (λ p. has_token search.token.now (of p)) less ≡ false) × (list_any (λ p. has_token search.token.now (of p)) others ≡ false)
      × (list_any (λ p. has_token search.token.now (of p)) others_less ≡ false)
  free_of search is =
      let token = λ (p : P). has_token search.token.now (of p) in
      let three = split_any token (patterns ++ less ++ others) others_less is.free in
      let two_lists = split_any token (patterns ++ less) others three.0 in
      let one = split_any token patterns less two_lists.0 in
      (one.0, one.1, two_lists.1, three.1)

  -- with each sample judged alike, no subject of a length that was asked differs
  module _ (search : Search) (differs : Judging) (is : Is search) (judged : (t : List Token) (queue : Option (List Token)) → differs t queue ≡ (is_subject t && between t)) where
    short_by : (s : List Token) (n i j : ℕ) (a : Allowing) (r : Reason) (d : P) → IsSubject s → length s ≡ n + 1 → AllAlike differs search false (n + 1) →
        list_any (λ p. in_set (of p) s) less ≡ false → i < length patterns → in_set (of (get_or patterns i d)) s ≡ true → j < length search.refusing.items →
        covers (slice_index_or search.refusing.items j r).subject.now s ≡ true →
        ((u : List Token) → IsSubject u → StandsFor search.token.now (slice_index_or search.allowing.items i a).reason.subject.now (slice_index_or search.refusing.items j r).subject.now s u →
        (list_any (λ p. in_set (of p) u) others ≡ false) ⊎ (list_any (λ p. in_set (of p) u) others_less ≡ true)) → ⊥
    short_by s n i j a r d h long alike none inside first jr second refuse =
        let same = same_at (λ (q : Allowing). q.reason.subject.now) of search.allowing.items patterns is.allowing i inside a d in
        let ia : i < length search.allowing.items = let all = allowing_long search is in omega (arith, inside, all) in
        let covered = subst (λ p. covers p s ≡ true) (sym same) (cover_of (of (get_or patterns i d)) s h first) in
        let asked = sampled search differs s n i j is h long alike a r ia jr covered second in
        let u = asked.0 in
        let hu = asked.1.subject h in
        let some = patterns_at u _ i d hu inside same asked.1.first in
        let holds = differs_too search.token.now _ _ s u h asked.1 (free_of search is).1 none some (refuse u hu asked.1) in
        no_both (is_subject u && between u) (two (is_subject u) (between u) hu holds) (sym (judged u None) ∙ asked.2)

    short : (s : List Token) (n : ℕ) → IsSubject s → length s ≡ n + 1 → AllAlike differs search false (n + 1) → between s ≡ true → ⊥
    short s n h long alike holds =
        let parts = between_parts (list_any (λ p. in_set (of p) s) patterns) (list_any (λ p. in_set (of p) s) less) (list_any (λ p. in_set (of p) s) others) (list_any (λ p. in_set (of p) s) others_less) holds in
        let one = found (λ p. in_set (of p) s) patterns parts.0 in
        by_place one.place one.inside one.passes parts.1 parts.2
      where
        by_lack : (i : ℕ) (a : Allowing) (r : Reason) (d : P) → i < length patterns → in_set (of (get_or patterns i d)) s ≡ true → list_any (λ p. in_set (of p) s) less ≡ false →
            list_any (λ p. in_set (of p) s) others ≡ false → ⊥
        by_lack i a r d inside first none lacks =
            let many = refusing_long search is in
            let jr : length others_less < length search.refusing.items = omega (arith, many) in
            let second = subst (λ p. covers p s ≡ true) (sym (refusing_last search r is)) (any_subject s (concrete s h).some) in
            short_by s n i (length others_less) a r d h long alike none inside first jr second
            (λ u hu stands. inl (by_not _ (λ e. no_both _ (no_more of u s others search.token.now (free_of search is).2 (law search.token.now _ _ s u h stands) e) lacks)))

        by_entry : (i : ℕ) (a : Allowing) (r : Reason) (d : P) → i < length patterns → in_set (of (get_or patterns i d)) s ≡ true → list_any (λ p. in_set (of p) s) less ≡ false →
            (j : ℕ) → j < length others_less → ((e : P) → in_set (of (get_or others_less j e)) s ≡ true) → ⊥
        by_entry i a r d inside first none j jl has =
            let many = refusing_long search is in
            let jr : j < length search.refusing.items = omega (arith, many, jl) in
            let second = subst (λ p. covers p s ≡ true) (sym (refusing_entry search j r d is jl)) (cover_of (of (get_or others_less j d)) s h (has d)) in
            short_by s n i j a r d h long alike none inside first jr second (λ u hu stands. inr (others_at u _ j d hu jl (refusing_entry search j r d is jl) stands.second))

        by_refusal : (i : ℕ) (a : Allowing) (r : Reason) (d : P) → i < length patterns → in_set (of (get_or patterns i d)) s ≡ true → list_any (λ p. in_set (of p) s) less ≡ false →
            (list_any (λ p. in_set (of p) s) others ≡ false) ⊎ (list_any (λ p. in_set (of p) s) others_less ≡ true) → ⊥
        by_refusal i a r d inside first none (inl lacks) = by_lack i a r d inside first none lacks
        by_refusal i a r d inside first none (inr has) =
            let other = found (λ p. in_set (of p) s) others_less has in by_entry i a r d inside first none other.place other.inside other.passes

        by_place : (i : ℕ) → i < length patterns → ((d : P) → in_set (of (get_or patterns i d)) s ≡ true) → list_any (λ p. in_set (of p) s) less ≡ false →
            (list_any (λ p. in_set (of p) s) others ≡ false) ⊎ (list_any (λ p. in_set (of p) s) others_less ≡ true) → ⊥
        by_place i inside first none refused =
            let all = allowing_long search is in
            let ia : i < length search.allowing.items = omega (arith, inside, all) in
            let many = refusing_long search is in
            let jr : 0 < length search.refusing.items = omega (arith, many) in
            let d = item_of patterns i inside in
            by_refusal i (item_of search.allowing.items i ia) (item_of search.refusing.items 0 jr) d inside (first d) none refused

    -- nor does a longer one
    pub exact : (longest_is : ℕ) → longest (map of patterns) ≤ longest_is → longest (map of less) ≤ longest_is → longest (map of others) ≤ longest_is → longest (map of others_less) ≤ longest_is →
        search.most ≡ min (longest_is + 1) 512 → ((n : ℕ) → n < search.most → AllAlike differs search false (n + 1)) →
        (s : List Token) → IsSubject s → between s ≡ false
    exact m a b c d most alike s h = by_not (between s) (λ holds. by_length (cases_lt search.most (length s)) holds)
      where
        by_length : (search.most < length s) ⊎ (length s ≤ search.most) → between s ≡ true → ⊥
        by_length (inr few) holds =
            let some = (concrete s h).some in
            short s (length s - 1) h (omega (arith, some)) (alike (length s - 1) (omega (arith, some, few))) holds
        by_length (inl more) holds =
            let known = concrete s h in
            let bound = known.few in
            let is_more : search.most ≡ m + 1 = omega (arith, most, more, bound) in
            let u = take (m + 1) s in
            let inside : m + 1 ≤ length s = omega (arith, is_more, more) in
            let hu = front_subject m s h in
            let each = (concrete u hu).each in
            let same : between u ≡ between s =
            is_same (same_beyond of u s patterns (m + 1) (omega (arith, a)) inside refl known.each each)
            (same_beyond of u s less (m + 1) (omega (arith, b)) inside refl known.each each)
            (same_beyond of u s others (m + 1) (omega (arith, c)) inside refl known.each each)
            (same_beyond of u s others_less (m + 1) (omega (arith, d)) inside refl known.each each) in
            short u m hu (length_front (m + 1) s inside) (alike m (omega (arith, is_more))) (same ∙ holds)

    -- and none with fewer tokens than what is found
    fewest : (before : ℕ) → ((n : ℕ) → n < before → AllAlike differs search false (n + 1)) → (s : List Token) → IsSubject s → length s ≤ before → between s ≡ false
    fewest before alike s h few =
        let some = (concrete s h).some in
        by_not (between s) (λ holds. short s (length s - 1) h (omega (arith, some)) (alike (length s - 1) (omega (arith, some, few))) holds)

    nothing : ((n : ℕ) → n < search.most → AllAlike differs search false (n + 1)) → IsDifference of patterns less others others_less None
    nothing alike =
        let three = split_longest of (patterns ++ less ++ others) others_less in
        let two_lists = split_longest of (patterns ++ less) others in
        let one = split_longest of patterns less in
        exact (longest (map of (patterns ++ less ++ others ++ others_less))) (omega (arith, one, two_lists, three)) (omega (arith, one, two_lists, three)) (omega (arith, two_lists, three)) (omega (arith, three)) is.most alike

    something : (asked : Asked) → IsFirst differs search false asked → IsDifference of patterns less others others_less (Some asked.subject.items)
    something asked first =
        let t = tokens_of asked.subject.items in
        let parts = and_parts (is_subject t) (between t) (sym (judged t asked.queue) ∙ first.found.judged) in
        let token = (and_parts (is_token search.token.now) (not (is_wildcard search.token.now)) is.literal).0 in
        let long = first.found.length_is token (omega arith) in
        (parts.0, parts.1, λ s h fewer. fewest first.before first.fewest s h (omega (arith, long, fewer)))

    -- what a search finds is the difference
    pub answer : (found : Option Asked) → IsExact differs search false found → (text : Option (List ℕ)) → text ≡ option_map (λ (asked : Asked). asked.subject.items) found →
        IsDifference of patterns less others others_less text
    answer None alike text same = subst (IsDifference of patterns less others others_less) (sym same) (nothing alike)
    answer (Some asked) first text same = subst (IsDifference of patterns less others others_less) (sym same) (something asked first)

-- reasons that reach as far as all do so each
pub each_reach : {P : Type 0} (patterns : List P) (all : List Allowing) (reach n : ℕ) → map (λ (a : Allowing). a.reach) all ≡ map (λ p. reach) patterns → n ≤ reach →
    (i : ℕ) (a : Allowing) → i < length all → n ≤ (slice_index_or all i a).reach
each_reach patterns [] reach n e less i a inside = absurd (omega (arith, inside))
each_reach [] (b ∷ all) reach n e less i a inside = absurd (cc)
each_reach (p ∷ patterns) (b ∷ all) reach n e less zero a inside = let same : b.reach ≡ reach = cc in omega (arith, same, less)
each_reach (p ∷ patterns) (b ∷ all) reach n e less (suc i) a inside =
    let rest : map (λ (c : Allowing). c.reach) all ≡ map (λ q. reach) patterns = cc in each_reach patterns all reach n rest less i a (omega (arith, inside))

-- as many reasons as patterns, and one more
pub one_more : {P : Type 0} (of : P → List Token) (patterns : List P) (any : List Token) (all : List Reason) → map (λ (r : Reason). r.subject.now) all ≡ map of patterns ++ (any ∷ []) → length all ≡ length patterns + 1
one_more of patterns any all e =
    let long = ap length e in
    omega (arith, long, length-map all (λ (r : Reason). r.subject.now), length-append (map of patterns) (any ∷ []), length-map patterns of)

-- whether the other set has every subject, by what a search found
pub has_none : {P A : Type 0} (of : P → List Token) (patterns less others others_less : List P) (found : Option A) (items : A → List ℕ) (b : Bool) → is_some found ≡ not b →
    IsDifference of patterns less others others_less (option_map items found) → HasNone of patterns less others others_less b
has_none of patterns less others others_less None items true e h = h
has_none of patterns less others others_less None items false e h = absurd (cc)
has_none of patterns less others others_less (Some text) items true e h = absurd (cc)
has_none of patterns less others others_less (Some text) items false e h = (tokens_of (items text), h.0, h.1)
