-- Steps of loops over lists.
use Rattle.std.proofs.Common.{◌≡◌, ◌∙◌, ℕ, ◌+◌, ◌<◌, ◌≤◌, Bool, true, false, not, List, [], ◌∷◌, ◌++◌, take, map, filter, length, get_or, Option, Some, None, unwrap_or, is_some, ap, sym, refl, arith, true≢false}
use Rattle.std.specs.Bool.{MatchBool}
use Rattle.std.specs.List.Retain.{ExtractsNext}
use Rattle.std.specs.List.{filter_map}
use Rattle.std.proofs.lemmas.List.{take_more, map-append}
use Rattle.std.proofs.lemmas.List.Filters.{length-filter_both}
use Rattle.std.proofs.lemmas.List.Elements.{filter-append, filter_map-append}

-- one more element, mapped if it passes
pub map_filter_more : {X Y : Type 0} (f : X → Y) (p : X → Bool) (xs : List X) (i : ℕ) (x : X) → i < length xs → x ≡ get_or xs i x →
    map f (filter p (take (i + 1) xs)) ≡ map f (filter p (take i xs)) ++ map f (filter p (x ∷ []))
map_filter_more f p xs i x h is =
    ap (λ ys. map f (filter p ys)) (take_more xs i x h ∙ ap (λ y. take i xs ++ y ∷ []) (sym is))
    ∙ ap (map f) (filter-append p (take i xs) (x ∷ []))
    ∙ map-append f (filter p (take i xs)) (filter p (x ∷ []))

-- one more element, with what it gives
pub filter_map_more : {X Y : Type 0} (h : X → Option Y) (xs : List X) (i : ℕ) (x : X) → i < length xs → x ≡ get_or xs i x →
    filter_map h (take (i + 1) xs) ≡ filter_map h (take i xs) ++ filter_map h (x ∷ [])
filter_map_more h xs i x l is =
    ap (λ ys. filter_map h ys) (take_more xs i x l ∙ ap (λ y. take i xs ++ y ∷ []) (sym is))
    ∙ filter_map-append h (take i xs) (x ∷ [])

-- no more pass a test than there are
pub filter-fewer : {X : Type 0} (p : X → Bool) (xs : List X) → length (filter p xs) ≤ length xs
filter-fewer p xs = omega (arith, length-filter_both p (λ x. not (p x)) (λ x. refl) xs)

-- ---- `extract_if` with a test that always says `true`, and leaves what it is shown

first_case : (X Y : Type 0) (b : Bool) → b ≡ true → MatchBool b X Y → X
first_case X Y true is told = told
first_case X Y false is told = absurd (true≢false (sym is))

-- what is taken out was the first of what was left
pub taken_first : {S X : Type 0} (R : S → X → Bool → S → X → Type 0) → ((s : S) (x : X) (b : Bool) (t : S) (y : X) → R s x b t y → (b ≡ true) × (y ≡ x)) →
    (s : S) (xs : List X) (x : X) (t : S) (kept rest : List X) → ExtractsNext R s xs (Some x) t kept rest → xs ≡ x ∷ rest
taken_first R always s [] x t kept rest next = absurd (true≢false (ap is_some next.0))
taken_first R always s (z ∷ xs) x t kept rest next =
    let said = always s z next.0 next.1 next.2 next.3 in
    let first = first_case _ _ next.0 said.0 next.4 in
    ap (λ y. y ∷ xs) (sym said.1 ∙ sym (ap (λ o. unwrap_or o x) first.0)) ∙ ap (λ ys. x ∷ ys) (sym first.3)

-- and nothing was left where nothing is taken out
pub taken_none : {S X : Type 0} (R : S → X → Bool → S → X → Type 0) → ((s : S) (x : X) (b : Bool) (t : S) (y : X) → R s x b t y → (b ≡ true) × (y ≡ x)) →
    (s : S) (xs : List X) (t : S) (kept rest : List X) → ExtractsNext R s xs None t kept rest → xs ≡ []
taken_none R always s [] t kept rest next = refl
taken_none R always s (z ∷ xs) t kept rest next =
    let said = always s z next.0 next.1 next.2 next.3 in
    let first = first_case _ _ next.0 said.0 next.4 in
    absurd (true≢false (sym (ap is_some first.0)))
