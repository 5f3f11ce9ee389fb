-- Lists that are put together of parts, and options that have a value.
use Rattle.std.proofs.Common.{◌≡◌, ◌∙◌, ◌&&◌, ◌⊎◌, inl, inr, ◌+◌, ◌<◌, ◌||◌, ℕ, suc, zero, Bool, true, false, not, cond, List, [], ◌∷◌, ◌++◌, map, filter, length, get_or, Option, Some, None, ap, sym, refl, subst, arith}
use Rattle.std.specs.Prelude.{All, Contains, IfSome, IsSome, IsSomeAnd, find, position, slice_get}
use Rattle.std.specs.List.{filter_map, flat_map, cons_option, list_any, position_or_len}
use Rattle.std.proofs.lemmas.Bool.{lt-ltb}
use Rattle.std.proofs.lemmas.List.{get_or-map, length-map}
use Rattle.std.proofs.lemmas.List.Elements.{All-nil, All-cons, All-head, All-tail, All-append, Contains-append_left, Contains-append_right}
use Rattle.std.proofs.lemmas.List.Quantifiers.{position-Some}
use Rattle.std.proofs.lemmas.Option.{slice_get-get_or}

pub front : (b c : Bool) → (b && c) ≡ true → b ≡ true
front true c h = refl
front false c h = absurd (cc)

pub back : (b c : Bool) → (b && c) ≡ true → c ≡ true
back true c h = h
back false c h = absurd (cc)

-- what holds of a value that is known to be there
pub at_some : {X : Type 0} (P : X → Type 0) (o : Option X) (x : X) → o ≡ Some x → IsSomeAnd o P → P x
at_some P o x e h = subst (λ p. IsSomeAnd p P) e h

pub from_some : {X : Type 0} (P Q : X → Type 0) (o : Option X) → ((x : X) → o ≡ Some x → P x → Q x) → IsSomeAnd o P → IsSomeAnd o Q
from_some P Q None f h = h
from_some P Q (Some x) f h = f x refl h

-- what holds of each, wherever the list is split there, holds of all
pub each_split : {X : Type 0} (Q : X → Type 0) (xs : List X) → ((before : List X) (x : X) (later : List X) → xs ≡ before ++ x ∷ later → Q x) → All Q xs
each_split Q [] h = All-nil Q
each_split Q (x ∷ xs) h = All-cons Q x xs (h [] x xs refl) (each_split Q xs (λ before y later at. h (x ∷ before) y later (ap (λ l. x ∷ l) at)))

-- what a map makes of each is in the list that it makes
pub All-in_map : {X Y : Type 0} (f : X → Y) (xs : List X) (ys : List Y) → map f xs ≡ ys → All (λ x. Contains ys (f x)) xs
All-in_map f xs ys e k d below =
    subst (λ zs. Contains zs (f (get_or xs k d))) e (k, omega (arith, below, length-map xs f), get_or-map f xs k d (f (get_or xs k d)) below)

-- the first that passes, where one does
first_below : {X : Type 0} (p : X → Bool) (xs : List X) → list_any p xs ≡ true → position_or_len p xs < length xs
first_below p [] some = absurd (cc)
first_below p (x ∷ xs) some = here (p x) some (first_below p xs)
  where
    here : (b : Bool) → (b || list_any p xs) ≡ true → (list_any p xs ≡ true → position_or_len p xs < length xs) → cond (not b) (1 + position_or_len p xs) 0 < length (x ∷ xs)
    here true some later = omega arith
    here false some later = let below = later some in omega (arith, below)

pub position-some : {X : Type 0} (p : X → Bool) (xs : List X) → list_any p xs ≡ true → position p xs ≡ Some (position_or_len p xs)
position-some p xs some = ap (λ b. cond b (Some (position_or_len p xs)) None) (lt-ltb _ _ (first_below p xs some))

-- ---- what a list contains

pub Contains-head : {X : Type 0} (x : X) (xs : List X) → Contains (x ∷ xs) x
Contains-head x xs = (0, omega arith, refl)

pub Contains-more : {X : Type 0} (y : X) (xs : List X) (x : X) → Contains xs x → Contains (y ∷ xs) x
Contains-more y xs x at = (suc at.0, (let below = at.1 in omega (arith, below)), at.2)

pub Contains-cases : {X : Type 0} (y : X) (xs : List X) (x : X) → Contains (y ∷ xs) x → (y ≡ x) ⊎ Contains xs x
Contains-cases y xs x has = here has.0 has.1 has.2
  where
    here : (k : ℕ) → k < length (y ∷ xs) → get_or (y ∷ xs) k x ≡ x → (y ≡ x) ⊎ Contains xs x
    here zero below at = inl at
    here (suc k) below at = inr (k, omega (arith, below), at)

pub Contains-filter : {X : Type 0} (p : X → Bool) (xs : List X) (x : X) → Contains xs x → p x ≡ true → Contains (filter p xs) x
Contains-filter p [] x has passes = absurd (let below = has.1 in omega (arith, below))
Contains-filter {X} p (y ∷ xs) x has passes = here (p y) refl (Contains-cases y xs x has) (λ more. Contains-filter p xs x more passes)
  where
    here : (b : Bool) → p y ≡ b → (y ≡ x) ⊎ Contains xs x → (Contains xs x → Contains (filter p xs) x) → Contains (cond b (y ∷ filter p xs) (filter p xs)) x
    here true is (inl same) later = subst (Contains (y ∷ filter p xs)) same (Contains-head y (filter p xs))
    here true is (inr more) later = Contains-more y (filter p xs) x (later more)
    here false is (inl same) later = let no : false ≡ true = sym is ∙ ap p same ∙ passes in absurd (cc)
    here false is (inr more) later = later more

pub Contains-at : {X : Type 0} (xs : List X) (k : ℕ) (x : X) → slice_get xs k ≡ Some x → Contains xs x
Contains-at [] k x at = absurd (cc)
Contains-at (y ∷ xs) zero x at = let same : y ≡ x = cc in subst (Contains (y ∷ xs)) same (Contains-head y xs)
Contains-at (y ∷ xs) (suc k) x at = Contains-more y xs x (Contains-at xs k x at)

pub Contains-flat_map : {X Y : Type 0} (f : X → List Y) (xs : List X) (x : X) (y : Y) → Contains xs x → Contains (f x) y → Contains (flat_map f xs) y
Contains-flat_map f [] x y has within = absurd (let below = has.1 in omega (arith, below))
Contains-flat_map {X} {Y} f (z ∷ xs) x y has within = here (Contains-cases z xs x has) (λ more. Contains-flat_map f xs x y more within)
  where
    here : (z ≡ x) ⊎ Contains xs x → (Contains xs x → Contains (flat_map f xs) y) → Contains (f z ++ flat_map f xs) y
    here (inl same) later = Contains-append_left (f z) (flat_map f xs) y (subst (λ w. Contains (f w) y) (sym same) within)
    here (inr more) later = Contains-append_right (f z) (flat_map f xs) y (later more)

pub All-filter_map : {X Y : Type 0} (P : Y → Type 0) (h : X → Option Y) (xs : List X) → All (λ x. IfSome (h x) P) xs → All P (filter_map h xs)
All-filter_map P h [] all = All-nil P
All-filter_map {X} {Y} P h (x ∷ xs) all = here (h x) (All-head (λ y. IfSome (h y) P) x xs all) (All-filter_map P h xs (All-tail (λ y. IfSome (h y) P) x xs all))
  where
    here : (o : Option Y) → IfSome o P → All P (filter_map h xs) → All P (cons_option o (filter_map h xs))
    here None is later = later
    here (Some y) is later = All-cons P y (filter_map h xs) is later

pub Contains-filter_map : {X Y : Type 0} (h : X → Option Y) (xs : List X) (x : X) (y : Y) → Contains xs x → h x ≡ Some y → Contains (filter_map h xs) y
Contains-filter_map h [] x y has is = absurd (let below = has.1 in omega (arith, below))
Contains-filter_map {X} {Y} h (z ∷ xs) x y has is = here (Contains-cases z xs x has) (λ others. Contains-filter_map h xs x y others is)
  where
    more : (o : Option Y) → Contains (filter_map h xs) y → Contains (cons_option o (filter_map h xs)) y
    more None at = at
    more (Some w) at = Contains-more w (filter_map h xs) y at

    here : (z ≡ x) ⊎ Contains xs x → (Contains xs x → Contains (filter_map h xs) y) → Contains (cons_option (h z) (filter_map h xs)) y
    here (inl same) later = subst (λ o. Contains (cons_option o (filter_map h xs)) y) (sym (ap h same ∙ is)) (Contains-head y (filter_map h xs))
    here (inr others) later = more (h z) (later others)

-- what a test finds is in the list, and passes
pub found : {X : Type 0} (p : X → Bool) (xs : List X) (x : X) → find p xs ≡ Some x → Contains xs x × (p x ≡ true)
found p [] x e = absurd (cc)
found {X} p (y ∷ xs) x e = here (p y) refl e (found p xs x)
  where
    here : (b : Bool) → p y ≡ b → cond b (Some y) (find p xs) ≡ Some x → (find p xs ≡ Some x → Contains xs x × (p x ≡ true)) → Contains (y ∷ xs) x × (p x ≡ true)
    here true is e' later = let same : y ≡ x = cc in (subst (Contains (y ∷ xs)) same (Contains-head y xs), subst (λ z. p z ≡ true) same is)
    here false is e' later = let rest = later e' in (Contains-more y xs x rest.0, rest.1)

pub placed : {X : Type 0} (p : X → Bool) (xs : List X) → IsSome (position p xs) → (x : X) × Contains xs x × (p x ≡ true)
placed p [] some = absurd (cc)
placed {X} p (x ∷ xs) some = here (position p (x ∷ xs)) refl some
  where
    here : (o : Option ℕ) → position p (x ∷ xs) ≡ o → IsSome o → (y : X) × Contains (x ∷ xs) y × (p y ≡ true)
    here None e is = absurd (cc)
    here (Some n) e is = let at = position-Some p (x ∷ xs) n x e in (get_or (x ∷ xs) n x, Contains-at (x ∷ xs) n _ (slice_get-get_or (x ∷ xs) n x at.0), at.1)

pub Contains-map : {X Y : Type 0} (f : X → Y) (xs : List X) (x : X) → Contains xs x → Contains (map f xs) (f x)
Contains-map f [] x has = absurd (let below = has.1 in omega (arith, below))
Contains-map {X} {Y} f (z ∷ xs) x has = here (Contains-cases z xs x has) (λ more. Contains-map f xs x more)
  where
    here : (z ≡ x) ⊎ Contains xs x → (Contains xs x → Contains (map f xs) (f x)) → Contains (f z ∷ map f xs) (f x)
    here (inl same) later = subst (λ w. Contains (f z ∷ map f xs) (f w)) same (Contains-head (f z) (map f xs))
    here (inr more) later = Contains-more (f z) (map f xs) (f x) (later more)

-- where a map of a list has a value, the list is split at an element that makes it
pub record IsSplit {X Y : Type 0} (f : X → Y) (xs : List X) (y : Y) : Type 0 where
  pub before : List X
  pub here : X
  pub later : List X
  pub all : xs ≡ before ++ here ∷ later
  pub makes : f here ≡ y

pub split_at : {X Y : Type 0} (f : X → Y) (xs : List X) (y : Y) → Contains (map f xs) y → IsSplit f xs y
split_at f [] y has = absurd (let below = has.1 in omega (arith, below))
split_at {X} {Y} f (x ∷ xs) y has = by_place (Contains-cases (f x) (map f xs) y has) (split_at f xs y)
  where
    by_place : (f x ≡ y) ⊎ Contains (map f xs) y → (Contains (map f xs) y → IsSplit f xs y) → IsSplit f (x ∷ xs) y
    by_place (inl same) later = record { before = []; here = x; later = xs; all = refl; makes = same }
    by_place (inr more) later =
        let rest = later more in
        record { before = x ∷ rest.before; here = rest.here; later = rest.later; all = ap (λ l. x ∷ l) rest.all; makes = rest.makes }

pub Contains-split : {X Y : Type 0} (f : X → Y) (xs : List X) (y : Y) → (split : IsSplit f xs y) → Contains xs split.here
Contains-split f xs y split = subst (λ l. Contains l split.here) (sym split.all) (Contains-append_right split.before (split.here ∷ split.later) split.here (Contains-head split.here split.later))
