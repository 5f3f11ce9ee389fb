-- Lists of which a part is kept.
use Rattle.std.proofs.Common.{◌≡◌, ◌∙◌, Bool, true, false, cond, List, [], ◌∷◌, ◌++◌, filter, map, Option, Some, None, ap, sym, refl}
use Rattle.std.specs.Prelude.{All, IfSome, find}
use Rattle.std.specs.List.{filter_map, flat_map, cons_option}
use Rattle.std.proofs.lemmas.List.Elements.{All-head, All-tail, filter-append}

-- what a test finds is the same, where what it finds is kept, if it finds anything
pub find_if_kept : {X : Type 0} (p k : X → Bool) (xs : List X) → IfSome (find p xs) (λ x. k x ≡ true) → find p (filter k xs) ≡ find p xs
find_if_kept p k [] is = refl
find_if_kept {X} p k (x ∷ xs) is = by (p x) refl (k x) refl is (find_if_kept p k xs)
  where
    by : (a : Bool) → p x ≡ a → (b : Bool) → k x ≡ b → IfSome (cond a (Some x) (find p xs)) (λ y. k y ≡ true) → (IfSome (find p xs) (λ y. k y ≡ true) → find p (filter k xs) ≡ find p xs) →
        find p (cond b (x ∷ filter k xs) (filter k xs)) ≡ cond a (Some x) (find p xs)
    by true f true e h later = rw f refl
    by true f false e h later = let no : false ≡ true = sym e ∙ h in absurd (cc)
    by false f true e h later = rw f (later h)
    by false f false e h later = later h

-- what gives nothing may be left out
pub given_kept : {X Y : Type 0} (f : X → Option Y) (k : X → Bool) (xs : List X) → All (λ x. k x ≡ false → f x ≡ None) xs → filter_map f (filter k xs) ≡ filter_map f xs
given_kept f k [] nothing = refl
given_kept {X} {Y} f k (x ∷ xs) nothing = by (k x) (All-head (λ y. k y ≡ false → f y ≡ None) x xs nothing) (given_kept f k xs (All-tail (λ y. k y ≡ false → f y ≡ None) x xs nothing))
  where
    by : (b : Bool) → (b ≡ false → f x ≡ None) → filter_map f (filter k xs) ≡ filter_map f xs → filter_map f (cond b (x ∷ filter k xs) (filter k xs)) ≡ cons_option (f x) (filter_map f xs)
    by true none later = ap (cons_option (f x)) later
    by false none later = later ∙ ap (λ o. cons_option o (filter_map f xs)) (sym (none refl))

-- what the kept ones have is what is kept of what all have, where each has what is kept, or what isn't
pub flat_kept : {X Y : Type 0} (f : X → List Y) (k : X → Bool) (j : Y → Bool) (xs : List X) → ((x : X) → filter j (f x) ≡ cond (k x) (f x) []) →
    flat_map f (filter k xs) ≡ filter j (flat_map f xs)
flat_kept f k j [] each = refl
flat_kept {X} {Y} f k j (x ∷ xs) each =
    by (k x) (each x) (flat_kept f k j xs each) ∙ sym (filter-append j (f x) (flat_map f xs))
  where
    by : (b : Bool) → filter j (f x) ≡ cond b (f x) [] → flat_map f (filter k xs) ≡ filter j (flat_map f xs) → flat_map f (cond b (x ∷ filter k xs) (filter k xs)) ≡ filter j (f x) ++ filter j (flat_map f xs)
    by true is later = ap (λ l. f x ++ l) later ∙ ap (λ l. l ++ filter j (flat_map f xs)) (sym is)
    by false is later = later ∙ ap (λ l. l ++ filter j (flat_map f xs)) (sym is)

-- a test with one answer for all keeps all, or none
pub all_or_none : {X Y : Type 0} (f : X → Y) (j : Y → Bool) (b : Bool) (xs : List X) → ((x : X) → j (f x) ≡ b) → filter j (map f xs) ≡ cond b (map f xs) []
all_or_none f j true [] is = refl
all_or_none f j false [] is = refl
all_or_none f j true (x ∷ xs) is = rw (is x) (ap (λ l. f x ∷ l) (all_or_none f j true xs is))
all_or_none f j false (x ∷ xs) is = rw (is x) (all_or_none f j false xs is)

-- ---- lists of which each element is changed

-- what the changed ones have is what others have of the unchanged
pub flat_changed : {X Y : Type 0} (g h : X → List Y) (f : X → X) (xs : List X) → ((x : X) → g (f x) ≡ h x) → flat_map g (map f xs) ≡ flat_map h xs
flat_changed g h f [] same = refl
flat_changed g h f (x ∷ xs) same = ap (λ l. l ++ flat_map g (map f xs)) (same x) ∙ ap (λ l. h x ++ l) (flat_changed g h f xs same)

pub map_changed : {X Y : Type 0} (g h : X → Y) (f : X → X) (xs : List X) → ((x : X) → g (f x) ≡ h x) → map g (map f xs) ≡ map h xs
map_changed g h f [] same = refl
map_changed g h f (x ∷ xs) same = ap (λ y. y ∷ map g (map f xs)) (same x) ∙ ap (λ l. h x ∷ l) (map_changed g h f xs same)
