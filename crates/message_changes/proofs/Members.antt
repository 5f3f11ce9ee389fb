-- What is among a list.
use Rattle.std.proofs.Common.{◌≡◌, ◌∙◌, ◌<◌, ◌≤◌, ◌+◌, ◌++◌, ◌&&◌, ◌||◌, ℕ, zero, suc, Bool, true, false, not, cond, List, [], ◌∷◌, length, map, get_or, take, Option, Some, None, position, ap, refl, sym, subst, arith, length-append}
use Rattle.std.specs.Prelude.{is_some}
use Rattle.std.specs.List.{filter, list_any, slice_index_or, position_or_len}
use Rattle.std.proofs.lemmas.Bool.{not-true}
use Rattle.std.proofs.lemmas.Grind.{common_steps}
use Rattle.std.proofs.lemmas.List.{map-append, map_more}
use Rattle.std.proofs.lemmas.List.Elements.{filter-append, filter_more}
use Rattle.std.proofs.lemmas.List.Folds.{list_any_at, list_any_none}
use Rattle.std.proofs.lemmas.List.Quantifiers.{position-Some}
use Rattle.std.proofs.lemmas.List.Sums.{prefix_len_passes}
use Rattle.pattern_sets.specs.Longest.{longest}

-- ---- tests

pub both : (b : Bool) → b ≡ true → b ≡ false → ⊥
both b e f = let bad : true ≡ false = sym e ∙ f in cc

pub by_not : (b : Bool) → (b ≡ true → ⊥) → b ≡ false
by_not true h = absurd (h refl)
by_not false h = refl

pub two : (a b : Bool) → a ≡ true → b ≡ true → (a && b) ≡ true
two a b e f = rw (e, f) refl

pub and_true : (b : Bool) → (b && true) ≡ b
and_true true = refl
and_true false = refl

-- ---- elements

-- an element stands at a place of a list
pub record IsIn {A : Type 0} (x : A) (xs : List A) : Type 0 where
  pub place : ℕ
  pub inside : place < length xs
  pub is : (d : A) → get_or xs place d ≡ x

module _ {A : Type 0} where
  pub in_more : (x y : A) (xs : List A) → IsIn x xs → IsIn x (y ∷ xs)
  in_more x y xs h = record { place = suc h.place; inside = let less = h.inside in omega (arith, less); is = λ d. h.is d }

  pub in_first : (x : A) (xs : List A) → IsIn x (x ∷ xs)
  in_first x xs = record { place = 0; inside = omega arith; is = λ d. refl }

  pub found_in : (p : A → Bool) (xs : List A) → list_any p xs ≡ true → (x : A) × IsIn x xs × (p x ≡ true)
  found_in p [] h = absurd (cc)
  found_in p (x ∷ xs) h = by_first (p x) refl (λ k. found_in p xs k)
    where
      by_first : (b : Bool) → p x ≡ b → (list_any p xs ≡ true → (y : A) × IsIn y xs × (p y ≡ true)) → (y : A) × IsIn y (x ∷ xs) × (p y ≡ true)
      by_first true e more = (x, in_first x xs, e)
      by_first false e more = let rest = more (subst (λ (b : Bool). (b || list_any p xs) ≡ true) e h) in (rest.0, in_more rest.0 x xs rest.1, rest.2)

  pub any_in : (p : A → Bool) (x : A) (xs : List A) → IsIn x xs → p x ≡ true → list_any p xs ≡ true
  any_in p x xs h e = list_any_at p xs h.place x h.inside (ap p (h.is x) ∙ e)

  pub none_in : (p : A → Bool) (x : A) (xs : List A) → IsIn x xs → list_any p xs ≡ false → p x ≡ false
  none_in p x xs h none = by_not (p x) (λ e. both (list_any p xs) (any_in p x xs h e) none)

  -- what passes one test passes another, so none passes
  pub none_more : (p q : A → Bool) (xs : List A) → ((x : A) → IsIn x xs → p x ≡ true → q x ≡ true) → list_any q xs ≡ false → list_any p xs ≡ false
  none_more p q xs law none = by_not (list_any p xs) (λ e. let one = found_in p xs e in both (list_any q xs) (any_in q one.0 xs one.1 (law one.0 one.1 one.2)) none)

  -- what is in the first of two lists has the same place in both
  pub left_at : (x : A) (ys zs : List A) (i : ℕ) → i < length zs → ((d : A) → get_or zs i d ≡ x) → (d : A) → get_or (zs ++ ys) i d ≡ x
  left_at x ys [] i less is d = absurd (omega (arith, less))
  left_at x ys (z ∷ zs) zero less is d = is d
  left_at x ys (z ∷ zs) (suc i) less is d = left_at x ys zs i (omega (arith, less)) is d

  abbrev pub in_left : (x : A) (xs ys : List A) → IsIn x xs → IsIn x (xs ++ ys)
  in_left x xs ys h =
      let less = h.inside in
      let long = length-append xs ys in
      record { place = h.place; inside = omega (arith, less, long); is = left_at x ys xs h.place h.inside h.is }

  pub in_right : (x : A) (xs ys : List A) → IsIn x ys → IsIn x (xs ++ ys)
  in_right x [] ys h = h
  in_right x (z ∷ zs) ys h = in_more x z (zs ++ ys) (in_right x zs ys h)

  pub any_same : (p q : A → Bool) (xs : List A) → ((x : A) → p x ≡ q x) → list_any p xs ≡ list_any q xs
  any_same p q [] h = refl
  any_same p q (x ∷ xs) h = ap (λ (b : Bool). b || list_any p xs) (h x) ∙ ap (λ (b : Bool). q x || b) (any_same p q xs h)

module _ {A : Type 0} (p : A → Bool) (x : A) where
  over : (b : Bool) (y : A) (ys : List A) → IsIn x ys → IsIn x (cond b (y ∷ ys) ys)
  over true y ys k = in_more x y ys k
  over false y ys k = k

  kept_at : p x ≡ true → (ys : List A) (i : ℕ) → i < length ys → ((d : A) → get_or ys i d ≡ x) → IsIn x (filter p ys)
  kept_at e [] i less is = absurd (omega (arith, less))
  kept_at e (y ∷ ys) zero less is =
      let same : y ≡ x = is y in
      let passes : p y ≡ true = ap p same ∙ e in
      subst (λ (b : Bool). IsIn x (cond b (y ∷ filter p ys) (filter p ys))) (sym passes) (subst (λ (z : A). IsIn x (z ∷ filter p ys)) (sym same) (in_first x (filter p ys)))
  kept_at e (y ∷ ys) (suc i) less is = over (p y) y (filter p ys) (kept_at e ys i (omega (arith, less)) is)

  pub in_kept : (xs : List A) → IsIn x xs → p x ≡ true → IsIn x (filter p xs)
  in_kept xs h e = kept_at e xs h.place h.inside h.is

  first_kept : (y : A) (ys : List A) → p y ≡ true → (i : ℕ) → i < length (y ∷ filter p ys) → ((d : A) → get_or (y ∷ filter p ys) i d ≡ x) → (IsIn x (filter p ys) → IsIn x ys × (p x ≡ true)) →
      IsIn x (y ∷ ys) × (p x ≡ true)
  first_kept y ys e zero less is more = let same : y ≡ x = is y in (subst (λ (z : A). IsIn z (y ∷ ys)) same (in_first y ys), ap p (sym same) ∙ e)
  first_kept y ys e (suc i) less is more = let rest = more record { place = i; inside = omega (arith, less); is = is } in (in_more x y ys rest.0, rest.1)

  tested : (y : A) (ys : List A) (b : Bool) → p y ≡ b → IsIn x (cond b (y ∷ filter p ys) (filter p ys)) → (IsIn x (filter p ys) → IsIn x ys × (p x ≡ true)) → IsIn x (y ∷ ys) × (p x ≡ true)
  tested y ys true e k more = first_kept y ys e k.place k.inside k.is more
  tested y ys false e k more = let rest = more k in (in_more x y ys rest.0, rest.1)

  pub from_kept : (xs : List A) → IsIn x (filter p xs) → IsIn x xs × (p x ≡ true)
  from_kept [] h = let less = h.inside in absurd (omega (arith, less))
  from_kept (y ∷ ys) h = tested y ys (p y) refl h (λ k. from_kept ys k)

module _ {A B : Type 0} (f : A → B) where
  map_at : (x : A) (ys : List A) (i : ℕ) → i < length ys → ((d : A) → get_or ys i d ≡ x) → IsIn (f x) (map f ys)
  map_at x [] i less is = absurd (omega (arith, less))
  map_at x (y ∷ ys) zero less is = record { place = 0; inside = omega arith; is = λ d. ap f (is y) }
  map_at x (y ∷ ys) (suc i) less is = in_more (f x) (f y) (map f ys) (map_at x ys i (omega (arith, less)) is)

  pub in_map : (x : A) (xs : List A) → IsIn x xs → IsIn (f x) (map f xs)
  in_map x xs h = map_at x xs h.place h.inside h.is

  from_at : (y : B) (ys : List A) (i : ℕ) → i < length (map f ys) → ((d : B) → get_or (map f ys) i d ≡ y) → (x : A) × IsIn x ys × (f x ≡ y)
  from_at y [] i less is = absurd (omega (arith, less))
  from_at y (z ∷ zs) zero less is = (z, in_first z zs, is y)
  from_at y (z ∷ zs) (suc i) less is = let rest = from_at y zs i (omega (arith, less)) is in (rest.0, in_more rest.0 z zs rest.1, rest.2)

  pub from_map : (y : B) (xs : List A) → IsIn y (map f xs) → (x : A) × IsIn x xs × (f x ≡ y)
  from_map y xs h = from_at y xs h.place h.inside h.is

  -- a loop that appends what passes
  map_cond : (b : Bool) (x : A) → map f (cond b (x ∷ []) []) ≡ cond b (f x ∷ []) []
  map_cond true x = refl
  map_cond false x = refl

  pub kept_more : (p : A → Bool) (xs : List A) (i : ℕ) (d : A) → i < length xs → map f (filter p (take (i + 1) xs)) ≡ map f (filter p (take i xs)) ++ cond (p (get_or xs i d)) (f (get_or xs i d) ∷ []) []
  kept_more p xs i d less =
      ap (map f) (filter_more p xs i d less) ∙ map-append f (filter p (take i xs)) (cond (p (get_or xs i d)) (get_or xs i d ∷ []) [])
      ∙ ap (λ (l : List B). map f (filter p (take i xs)) ++ l) (map_cond (p (get_or xs i d)) (get_or xs i d))

  pub mapped_more : (p : B → Bool) (xs : List A) (i : ℕ) (d : A) → i < length xs → filter p (map f (take (i + 1) xs)) ≡ filter p (map f (take i xs)) ++ cond (p (f (get_or xs i d))) (f (get_or xs i d) ∷ []) []
  mapped_more p xs i d less =
      ap (filter p) (map_more f xs i d less) ∙ filter-append p (map f (take i xs)) (f (get_or xs i d) ∷ [])

  pub any_map : (g : B → Bool) (xs : List A) → list_any g (map f xs) ≡ list_any (λ (x : A). g (f x)) xs
  any_map g [] = refl
  any_map g (x ∷ xs) = ap (λ (b : Bool). g (f x) || b) (any_map g xs)

  -- ---- a test of what a filter leaves

  one_kept : (g : B → Bool) (t : A → Bool) (x : A) (xs : List A) (b : Bool) → list_any g (map f (cond b (x ∷ filter t xs) (filter t xs))) ≡ ((b && g (f x)) || list_any g (map f (filter t xs)))
  one_kept g t x xs true = refl
  one_kept g t x xs false = refl

  pub any_kept : (g : B → Bool) (t : A → Bool) (xs : List A) → list_any g (map f (filter t xs)) ≡ list_any (λ (x : A). t x && g (f x)) xs
  any_kept g t [] = refl
  any_kept g t (x ∷ xs) = one_kept g t x xs (t x) ∙ ap (λ (b : Bool). (t x && g (f x)) || b) (any_kept g t xs)

-- ---- the first that passes

module _ {A : Type 0} (test : A → Bool) where
  none_passes : (xs : List A) → position test xs ≡ None → (k : ℕ) (d : A) → k < length xs → test (slice_index_or xs k d) ≡ false
  none_passes xs none k d below =
      let end : length xs ≤ position_or_len test xs = grind (arith, common_steps) in
      let here : k < position_or_len test xs = omega (arith, end, below) in
      not-true (test (slice_index_or xs k d)) (prefix_len_passes (λ (x : A). not (test x)) xs k d here)

  at_place : (d : A) (xs : List A) (o : Option ℕ) → position test xs ≡ o → is_some o ≡ list_any test xs
  at_place d xs None e = sym (list_any_none test xs (λ k c below. none_passes xs e k c below))
  at_place d xs (Some i) e = let there = position-Some test xs i d e in sym (list_any_at test xs i d there.0 there.1)

  pub position_any : (xs : List A) → is_some (position test xs) ≡ list_any test xs
  position_any [] = refl
  position_any (x ∷ xs) = at_place x (x ∷ xs) (position test (x ∷ xs)) refl

-- ---- how long the longest is

pub longest_in : (p : List (List ℕ)) (ps : List (List (List ℕ))) → IsIn p ps → length p ≤ longest ps
longest_in p ps h = at_place ps h.place h.inside h.is
  where
    at_place : (qs : List (List (List ℕ))) (i : ℕ) → i < length qs → ((d : List (List ℕ)) → get_or qs i d ≡ p) → length p ≤ longest qs
    at_place [] i less is = absurd (omega (arith, less))
    at_place (q ∷ qs) zero less is = let same : length q ≡ length p = ap length (is q) in omega (arith, same)
    at_place (q ∷ qs) (suc i) less is = let rest = at_place qs i (omega (arith, less)) is in omega (arith, rest)
