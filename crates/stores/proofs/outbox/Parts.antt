-- Elements that are several, and parts of them.
use Rattle.std.proofs.Common.{◌≡◌, ◌∙◌, ℕ, zero, suc, ◌+◌, ◌<◌, ◌≤◌, List, [], ◌∷◌, ◌++◌, take, drop, length, Option, Some, None, slice_get, slice_set, ap, sym, arith, refl, append-nil, flat_map}
use Rattle.std.proofs.Math.Seq.{drop-append-add, take-append-add}
use Rattle.std.proofs.lemmas.List.{length-append, drop-append-le, take-append-le, take-append-drop, take_all, flat_map_more}
use Rattle.std.proofs.lemmas.List.Concat.{flat_map-append}
use Rattle.stores.specs.outbox.Bounded.{AreSome, IsPart, listed}
use Rattle.stores.proofs.outbox.Fronts.{take_next}

-- one more behind others
pub one_behind : {X T : Type 0} (each : X → List T) (xs : List X) (x : X) → flat_map each (xs ++ x ∷ []) ≡ flat_map each xs ++ each x
one_behind each xs x = sym (flat_map_more each [] xs x)

pub some_behind : {X T : Type 0} (each : X → List T) (xs : List X) (x : X) → AreSome each xs → 1 ≤ length (each x) → AreSome each (xs ++ x ∷ [])
some_behind each [] x s h = (h, tt)
some_behind each (y ∷ xs) x s h = (s.0, some_behind each xs x s.1 h)

-- an element that is one alone
pub one_alone : {X : Type 0} (xs : List X) (x : X) → xs ≡ x ∷ [] → length xs ≡ 1
one_alone xs x e = ap length e

-- there are no more elements than these are
pub few_elements : {X T : Type 0} (each : X → List T) (xs : List X) → AreSome each xs → length xs ≤ length (flat_map each xs)
few_elements each [] s = omega arith
few_elements each (x ∷ xs) s = omega (arith, length-append (each x) (flat_map each xs), few_elements each xs s.1, s.0)

length_behind : {X T : Type 0} (each : X → List T) (xs : List X) (x : X) → length (flat_map each (xs ++ x ∷ [])) ≡ length (flat_map each xs) + length (each x)
length_behind each xs x = ap length (one_behind each xs x) ∙ length-append (flat_map each xs) (each x)

-- one element more of the front
pub one_more_whole : {X T : Type 0} (each : X → List T) (xs : List X) (i : ℕ) (x : X) → slice_get xs i ≡ Some x → length (flat_map each (take (i + 1) xs)) ≡ length (flat_map each (take i xs)) + length (each x)
one_more_whole each xs i x e = ap (λ t. length (flat_map each t)) (take_next xs i x e) ∙ length_behind each (take i xs) x

-- the element at a place is the first behind so many
pub part_there : {X T : Type 0} (each : X → List T) (xs : List X) (i n : ℕ) (x : X) → slice_get xs i ≡ Some x → n < length (each x) → IsPart each n (drop i xs)
part_there each [] i n x e h = cc
part_there each (y ∷ xs) zero n x e h =
    let same : x ≡ y = cc in
    omega (arith, h, ap (λ z. length (each z)) same)
part_there each (y ∷ xs) (suc i) n x e h = part_there each xs i n x e h

-- behind all elements there is no part
part_of_nothing : {X T : Type 0} (each : X → List T) (xs : List X) (n : ℕ) → n ≡ 0 → IsPart each n (drop (length xs) xs)
part_of_nothing each [] n e = e
part_of_nothing each (x ∷ xs) n e = part_of_nothing each xs n e

pub none_left : {X T : Type 0} (each : X → List T) (xs : List X) (n count : ℕ) → length (flat_map each (take (length xs) xs)) + n ≡ count → count ≤ length (flat_map each xs) → IsPart each n (drop (length xs) xs)
none_left each xs n count e few =
    let within : length xs ≤ length xs = omega arith in
    let none : n ≡ 0 = omega (arith, e, few, ap (λ t. length (flat_map each t)) (take_all (length xs) xs within)) in
    part_of_nothing each xs n none

-- no more than elements are one each
pub alone_whole : {X T : Type 0} (each : X → List T) (xs : List X) (n : ℕ) → AreSome each xs → length (flat_map each xs) ≡ length xs → n ≤ length xs → length (flat_map each (take n xs)) ≡ n
alone_whole each [] zero s e h = refl
alone_whole each [] (suc n) s e h = absurd (omega (arith, h))
alone_whole each (x ∷ xs) zero s e h = refl
alone_whole each (x ∷ xs) (suc n) s e h =
    let long = length-append (each x) (flat_map each xs) in
    let few = few_elements each xs s.1 in
    let alone : length (flat_map each xs) ≡ length xs = omega (arith, long, few, s.0, e) in
    omega (arith, long, few, s.0, e, length-append (each x) (flat_map each (take n xs)), alone_whole each xs n s.1 alone (omega (arith, h)))

none_of_next : {X T : Type 0} (each : X → List T) (xs : List X) → AreSome each xs → IsPart each 0 xs
none_of_next each [] s = refl
none_of_next each (x ∷ xs) s = omega (arith, s.0)

pub some_left : {X T : Type 0} (each : X → List T) (xs : List X) (i : ℕ) → AreSome each xs → AreSome each (drop i xs)
some_left each xs zero s = s
some_left each [] (suc i) s = s
some_left each (x ∷ xs) (suc i) s = some_left each xs i s.1

-- none of the next element
pub no_part : {X T : Type 0} (each : X → List T) (xs : List X) (i : ℕ) → AreSome each xs → IsPart each 0 (drop i xs)
no_part each xs i s = none_of_next each (drop i xs) (some_left each xs i s)

-- where an element is, the part is of it
pub part_of : {X T : Type 0} (each : X → List T) (xs : List X) (i n : ℕ) (x : X) → slice_get xs i ≡ Some x → IsPart each n (drop i xs) → n < length (each x)
part_of each [] i n x e h = cc
part_of each (y ∷ xs) zero n x e h =
    let same : x ≡ y = cc in
    omega (arith, h, ap (λ z. length (each z)) same)
part_of each (y ∷ xs) (suc i) n x e h = part_of each xs i n x e h

pub part_of_none : {X T : Type 0} (each : X → List T) (xs : List X) (i n : ℕ) → slice_get xs i ≡ None → IsPart each n (drop i xs) → n ≡ 0
part_of_none each [] zero n e h = h
part_of_none each [] (suc i) n e h = h
part_of_none each (y ∷ xs) zero n e h = cc
part_of_none each (y ∷ xs) (suc i) n e h = part_of_none each xs i n e h

-- where none is wanted, none is
pub take_none_of : {X : Type 0} (xs : List X) (n : ℕ) → n ≡ 0 → take n xs ≡ []
take_none_of xs n e = ap (λ k. take k xs) e

pub take_part : {X T : Type 0} (each : X → List T) (xs : List X) (i n : ℕ) (x p : X) → slice_get xs i ≡ Some x → n < length (each x) → each p ≡ take n (each x) → flat_map each (p ∷ []) ≡ take n (flat_map each (drop i xs))
take_part each [] i n x p e h f = cc
take_part each (y ∷ xs) zero n x p e h f =
    let same : x ≡ y = cc in
    append-nil (each p) ∙ f ∙ ap (λ z. take n (each z)) same ∙ sym (take-append-le n (each y) (flat_map each xs) (omega (arith, h, ap (λ z. length (each z)) same)))
take_part each (y ∷ xs) (suc i) n x p e h f = take_part each xs i n x p e h f

-- the first without its first so many
pub first_left_out : {X T : Type 0} (each : X → List T) (xs : List X) (n : ℕ) (x w : X) → slice_get xs 0 ≡ Some x → n < length (each x) → each w ≡ drop n (each x) → flat_map each (slice_set xs 0 w) ≡ drop n (flat_map each xs)
first_left_out each [] n x w e h f = cc
first_left_out each (y ∷ xs) n x w e h f =
    let same : x ≡ y = cc in
    ap (λ t. t ++ flat_map each xs) (f ∙ ap (λ z. drop n (each z)) same) ∙ sym (drop-append-le n (each y) (flat_map each xs) (omega (arith, h, ap (λ z. length (each z)) same)))

pub first_some : {X T : Type 0} (each : X → List T) (xs : List X) (w : X) → AreSome each xs → 1 ≤ length (each w) → AreSome each (slice_set xs 0 w)
first_some each [] w s h = s
first_some each (x ∷ xs) w s h = (h, s.1)

-- whole elements and the others are all
whole_and_rest : {X T : Type 0} (each : X → List T) (xs : List X) (i : ℕ) → flat_map each (take i xs) ++ flat_map each (drop i xs) ≡ flat_map each xs
whole_and_rest each xs i = sym (flat_map-append each (take i xs) (drop i xs)) ∙ ap (flat_map each) (take-append-drop i xs)

-- what is behind whole elements and a part of the next
pub rest_dropped : {X T : Type 0} (each : X → List T) (xs : List X) (i n count : ℕ) → length (flat_map each (take i xs)) + n ≡ count → drop n (flat_map each (drop i xs)) ≡ drop count (flat_map each xs)
rest_dropped each xs i n count e =
    sym (drop-append-add (flat_map each (take i xs)) (flat_map each (drop i xs)) n)
    ∙ ap (λ k. drop k (flat_map each (take i xs) ++ flat_map each (drop i xs))) e
    ∙ ap (drop count) (whole_and_rest each xs i)

-- whole elements and a part of the next
pub front_taken : {X T : Type 0} (each : X → List T) (xs : List X) (i n count : ℕ) (part : Option X) → length (flat_map each (take i xs)) + n ≡ count → flat_map each (listed part) ≡ take n (flat_map each (drop i xs)) → flat_map each (take i xs ++ listed part) ≡ take count (flat_map each xs)
front_taken each xs i n count part e f =
    flat_map-append each (take i xs) (listed part)
    ∙ ap (λ t. flat_map each (take i xs) ++ t) f
    ∙ sym (take-append-add (flat_map each (take i xs)) (flat_map each (drop i xs)) n)
    ∙ ap (λ k. take k (flat_map each (take i xs) ++ flat_map each (drop i xs))) e
    ∙ ap (take count) (whole_and_rest each xs i)
