-- Views come by rows, and rows give views.
use Rattle.std.proofs.Common.{◌≡◌, ◌∙◌, ◌&&◌, ◌||◌, ◌<◌, ◌⊎◌, inl, inr, ℕ, zero, suc, Bool, true, false, true≢false, cond, not, List, [], ◌∷◌, ◌++◌, length, filter, ap, sym, refl, arith}
use Rattle.std.specs.Prelude.{Any, Contains}
use Rattle.std.specs.List.{filter_map, list_any, slice_index_or}
use Rattle.std.specs.Str.{bytes_eq}
use Rattle.std.specs.Cmp.Lexicographic.{bytes_decides, pointwise_decides}
use Rattle.std.proofs.lemmas.Bool.{and_parts}
use Rattle.std.proofs.lemmas.List.Folds.{Any-from_list_any, list_any_at}
use Rattle.std.proofs.lemmas.Slice.Eq.{bytes_eq-Decides}
use Rattle.subjects.specs.Subject.{Token}
use Rattle.subjects.specs.Equal.{same_subject}
use Rattle.policy_ready.specs.imports.Across.{crossing, crossings_in, views_in, way_of}
use Rattle.policy_ready.specs.imports.Views.{first_of_each, is_at, is_route, is_same}
use Rattle.policy_ready.specs.imports.Laws.{IsSeenBy, RowsGiveViews, ViewsComeByRows}
use Rattle.policy_ready.specs.declared.imports.view.ViewItem.{ViewItem}
use Rattle.policy_ready.specs.declared.imports.view.ViewItem.TheVariants.{At, TooLong}
use Rattle.policy_ready.specs.declared.imports.view.Way.{Way}
use Rattle.policy_ready.specs.declared.imports.view.Way.TheVariants.{Own}
use Rattle.policy_ready.proofs.imports.Crossed.{given_by, gives, seen_by, seen_crosses}

-- ---- each view comes by a row

kept_was : (test : ViewItem → Bool) (vs : List ViewItem) (v : ViewItem) → Contains (filter test vs) v → Contains vs v
kept_was test [] v has = has
kept_was test (x ∷ vs) v has = by (test x) has (λ h. kept_was test vs v h)
  where
    behind : Contains vs v → Contains (x ∷ vs) v
    behind h = (suc h.0, omega (arith, h.1), h.2)

    first : (k : ℕ) → k < length (x ∷ filter test vs) → slice_index_or (x ∷ filter test vs) k v ≡ v → (Contains (filter test vs) v → Contains vs v) → Contains (x ∷ vs) v
    first zero below is later = (zero, omega arith, is)
    first (suc k) below is later = behind (later (k, omega (arith, below), is))

    by : (b : Bool) → Contains (cond b (x ∷ filter test vs) (filter test vs)) v → (Contains (filter test vs) v → Contains vs v) → Contains (x ∷ vs) v
    by true h later = first h.0 h.1 h.2 later
    by false h later = behind (later h)

first_was : (vs : List ViewItem) (v : ViewItem) → Contains (first_of_each vs) v → Contains vs v
first_was [] v has = has
first_was (x ∷ vs) v has = by has.0 has.1 has.2 (λ h. first_was vs v (kept_was (λ u. not (is_same x u)) (first_of_each vs) v h))
  where
    by : (k : ℕ) → k < length (first_of_each (x ∷ vs)) → slice_index_or (first_of_each (x ∷ vs)) k v ≡ v → (Contains (filter (λ u. not (is_same x u)) (first_of_each vs)) v → Contains vs v) → Contains (x ∷ vs) v
    by zero below is later = (zero, omega arith, is)
    by (suc k) below is later = let h = later (k, omega (arith, below), is) in (suc h.0, omega (arith, h.1), h.2)

-- what is in two lists is in one of them
either : (xs ys : List ViewItem) (v : ViewItem) → Contains (xs ++ ys) v → Contains xs v ⊎ Contains ys v
either [] ys v has = inr has
either (x ∷ xs) ys v has = by has.0 has.1 has.2 (λ h. either xs ys v h)
  where
    by : (k : ℕ) → k < length (x ∷ (xs ++ ys)) → slice_index_or (x ∷ (xs ++ ys)) k v ≡ v → (Contains (xs ++ ys) v → Contains xs v ⊎ Contains ys v) → Contains (x ∷ xs) v ⊎ Contains ys v
    by zero below is later = inl (zero, omega arith, is)
    by (suc k) below is later = elim (later (k, omega (arith, below), is)) [
      | inl h ↦ inl (suc h.0, omega (arith, h.1), h.2)
      | inr h ↦ inr h
    ]

pub come : ViewsComeByRows
come rows responses a b s t way has = by it.0 it.1 it.2
  where
    others : List ViewItem
    others = crossings_in rows a s ++ responses

    it : Contains (At a s Own ∷ others) (At b t way)
    it = first_was (At a s Own ∷ others) (At b t way) has

    Seen : Type 0
    Seen = Any (λ r. (way ≡ way_of r) × IsSeenBy r a s b t) rows

    beyond : (c : Bool) → Contains (cond c [] (filter_map (crossing a s) rows)) (At b t way) → Seen
    beyond true h = absurd (omega (arith, h.1))
    beyond false h =
        let any = given_by (crossing a s) rows (At b t way) h in
        let seen = seen_by any.1 a b s t way any.4 in
        (any.0, any.1, any.2, any.3, (sym seen.0, seen.1))

    behind : Contains others (At b t way) → Seen ⊎ Contains responses (At b t way)
    behind h = elim (either (crossings_in rows a s) responses (At b t way) h) [
      | inl g ↦ inl (beyond (is_route s) g)
      | inr g ↦ inr g
    ]

    by : (k : ℕ) → k < length (At a s Own ∷ others) → slice_index_or (At a s Own ∷ others) k (At b t way) ≡ At b t way → ((b ≡ a) × (t ≡ s) × (way ≡ Own)) ⊎ (Seen ⊎ Contains responses (At b t way))
    by zero below is =
        let account : a ≡ b = cc in
        let subject : s ≡ t = cc in
        let own : Own ≡ way = cc in
        inl (sym account, sym subject, sym own)
    by (suc k) below is = inr (behind (k, omega (arith, below), is))

-- ---- each row gives a view

abbrev has_at : List ℕ → List Token → List ViewItem → Bool
has_at b t vs = list_any (is_at b t) vs

-- views of one account and subject are at the same accounts and subjects
both_at : (b : List ℕ) (t : List Token) (x u : ViewItem) → is_same x u ≡ true → is_at b t u ≡ is_at b t x
both_at b t (At a s w) (At c r y) same =
    let parts = and_parts (bytes_eq a c) (same_subject s r) same in
    sym (ap (λ n. bytes_eq b n && same_subject t s) ((bytes_eq-Decides a c).0 parts.0) ∙ ap (λ n. bytes_eq b c && same_subject t n) ((pointwise_decides bytes_decides s r).0 parts.1))
both_at b t (At a s w) (TooLong row) same = absurd (true≢false (sym same))
both_at b t (TooLong row) u same = absurd (true≢false (sym same))

left_at : (b : List ℕ) (t : List Token) (x : ViewItem) → is_at b t x ≡ false → (us : List ViewItem) → has_at b t (filter (λ u. not (is_same x u)) us) ≡ has_at b t us
left_at b t x elsewhere [] = refl
left_at b t x elsewhere (u ∷ us) = by (is_same x u) refl (left_at b t x elsewhere us)
  where
    rest : List ViewItem
    rest = filter (λ u. not (is_same x u)) us

    by : (c : Bool) → is_same x u ≡ c → has_at b t rest ≡ has_at b t us → has_at b t (cond (not c) (u ∷ rest) rest) ≡ has_at b t (u ∷ us)
    by true e later = later ∙ sym (ap (λ d. d || has_at b t us) (both_at b t x u e ∙ elsewhere))
    by false e later = ap (λ d. is_at b t u || d) later

-- the first of each has all accounts and subjects
firsts_at : (b : List ℕ) (t : List Token) (vs : List ViewItem) → has_at b t (first_of_each vs) ≡ has_at b t vs
firsts_at b t [] = refl
firsts_at b t (x ∷ vs) = by (is_at b t x) refl (firsts_at b t vs)
  where
    by : (c : Bool) → is_at b t x ≡ c → has_at b t (first_of_each vs) ≡ has_at b t vs → (c || has_at b t (filter (λ u. not (is_same x u)) (first_of_each vs))) ≡ (c || has_at b t vs)
    by true e later = refl
    by false e later = left_at b t x e (first_of_each vs) ∙ later

itself : (b : List ℕ) (t : List Token) (way : Way) → is_at b t (At b t way) ≡ true
itself b t way =
    ap (λ c. c && same_subject t t) ((bytes_eq-Decides b b).1 refl) ∙ (pointwise_decides bytes_decides t t).1 refl

-- more views take none away
still_at : (b : List ℕ) (t : List Token) (vs more : List ViewItem) → has_at b t vs ≡ true → has_at b t (vs ++ more) ≡ true
still_at b t [] more has = absurd (true≢false (sym has))
still_at b t (v ∷ vs) more has = by (is_at b t v) has (λ h. still_at b t vs more h)
  where
    by : (c : Bool) → (c || has_at b t vs) ≡ true → (has_at b t vs ≡ true → has_at b t (vs ++ more) ≡ true) → (c || has_at b t (vs ++ more)) ≡ true
    by true has later = refl
    by false has later = later has

pub give : RowsGiveViews
give rows responses a b s t plain any =
    let r = any.1 in
    let v : ViewItem = At b t (way_of r) in
    let vs : List ViewItem = filter_map (crossing a s) rows in
    let has = gives (crossing a s) rows v (any.0, r, any.2, any.3, seen_crosses r a b s t any.4) in
    let there : has_at b t vs ≡ true = list_any_at (is_at b t) vs has.0 v has.1 (ap (is_at b t) has.2 ∙ itself b t (way_of r)) in
    let all : has_at b t (At a s Own ∷ (vs ++ responses)) ≡ true = ap (λ d. is_at b t (At a s Own) || d) (still_at b t vs responses there) ∙ or_true (is_at b t (At a s Own)) in
    let views : has_at b t (views_in rows a s responses) ≡ true =
    ap (λ c. has_at b t (first_of_each (At a s Own ∷ (cond c [] vs ++ responses)))) plain ∙ firsts_at b t (At a s Own ∷ (vs ++ responses)) ∙ all in
    Any-from_list_any (is_at b t) (views_in rows a s responses) views
  where
    or_true : (c : Bool) → (c || true) ≡ true
    or_true true = refl
    or_true false = refl
