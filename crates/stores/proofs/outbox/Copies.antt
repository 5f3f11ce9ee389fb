-- Copies of elements, and of parts of them.
use Rattle.std.proofs.Common.{◌≡◌, ◌∙◌, ℕ, ◌+◌, ◌-◌, ◌<◌, ◌≤◌, List, [], ◌∷◌, ◌++◌, take, drop, length, min, get_or, ap, sym, arith, append-nil, append_assoc, flat_map}
use Rattle.std.proofs.lemmas.List.{length-append, length-drop, take_all, take_min, drop_min, drop-take, drop_more, at_drop_all}
use Rattle.stores.proofs.outbox.Batches.{take_both, drop_both, take_none, drop_none, first_of_three}
use Rattle.stores.proofs.outbox.Parts.{one_behind}

-- an element's part behind those that are left out
pub one_copied : {X T : Type 0} (each : X → List T) (copies : List X) (x part copy : X) (gone n : ℕ) → each part ≡ take (gone + n) (each x) → each copy ≡ drop gone (each part) → flat_map each (copies ++ copy ∷ []) ≡ flat_map each copies ++ take n (drop gone (each x))
one_copied each copies x part copy gone n e f = one_behind each copies copy ∙ ap (λ t. flat_map each copies ++ t) (f ∙ ap (drop gone) e ∙ drop-take gone n (each x))

pub none_wanted : {X : Type 0} (all xs : List X) (left : ℕ) → left ≡ 0 → all ++ take left xs ≡ all
none_wanted all xs left e = ap (λ k. all ++ take k xs) e ∙ append-nil all

-- an element's part, and then those of the others
copied_on : {T : Type 0} (xs rest : List T) (gone left skipped wanted : ℕ) → skipped ≡ min gone (length xs) → wanted ≡ min left (length xs - skipped)
    → take wanted (drop skipped xs) ++ take (left - wanted) (drop (gone - skipped) rest) ≡ take left (drop gone (xs ++ rest))
copied_on xs rest gone left skipped wanted s w =
    let long = length-drop gone xs in
    let part : wanted ≡ min left (length (drop gone xs)) = omega (arith, s, w, long) in
    let more : left - wanted ≡ left - length (drop gone xs) = omega (arith, s, w, long) in
    let past : gone - skipped ≡ gone - length xs = omega (arith, s) in
    ap (λ t. take wanted t ++ take (left - wanted) (drop (gone - skipped) rest)) (ap (λ k. drop k xs) s ∙ drop_min gone xs)
    ∙ ap (λ k. take k (drop gone xs) ++ take (left - wanted) (drop (gone - skipped) rest)) part
    ∙ ap (λ t. t ++ take (left - wanted) (drop (gone - skipped) rest)) (take_min left (drop gone xs))
    ∙ ap (λ k. take left (drop gone xs) ++ take k (drop (gone - skipped) rest)) more
    ∙ ap (λ k. take left (drop gone xs) ++ take (left - length (drop gone xs)) (drop k rest)) past
    ∙ sym (take_both (drop gone xs) (drop (gone - length xs) rest) left)
    ∙ ap (take left) (sym (drop_both xs rest gone))

-- the elements from a place on are one and the others
next_and_rest : {X T : Type 0} (each : X → List T) (items : List X) (i : ℕ) (x : X) → i < length items → x ≡ get_or items i x → flat_map each (drop i items) ≡ each x ++ flat_map each (drop (i + 1) items)
next_and_rest each items i x h is = ap (flat_map each) (drop_more items i x h ∙ ap (λ y. y ∷ drop (i + 1) items) (sym is))

-- with a copy of the next element's part, the others are still to come
pub one_more_copied : {X T : Type 0} (each : X → List T) (items : List X) (i : ℕ) (x : X) (before after : List T) (gone left skipped wanted : ℕ)
    → i < length items → x ≡ get_or items i x → skipped ≡ min gone (length (each x)) → wanted ≡ min left (length (each x) - skipped) → after ≡ before ++ take wanted (drop skipped (each x))
    → after ++ take (left - wanted) (drop (gone - skipped) (flat_map each (drop (i + 1) items))) ≡ before ++ take left (drop gone (flat_map each (drop i items)))
one_more_copied each items i x before after gone left skipped wanted h is s w e =
    let rest = flat_map each (drop (i + 1) items) in
    ap (λ t. t ++ take (left - wanted) (drop (gone - skipped) rest)) e
    ∙ append_assoc before (take wanted (drop skipped (each x))) (take (left - wanted) (drop (gone - skipped) rest))
    ∙ ap (λ t. before ++ t) (copied_on (each x) rest gone left skipped wanted s w)
    ∙ ap (λ t. before ++ take left (drop gone t)) (sym (next_and_rest each items i x h is))

pub one_less_left : {X T : Type 0} (each : X → List T) (items : List X) (i : ℕ) (x : X) (gone left skipped wanted : ℕ)
    → i < length items → x ≡ get_or items i x → skipped ≡ min gone (length (each x)) → wanted ≡ min left (length (each x) - skipped)
    → (left - wanted) - (length (flat_map each (drop (i + 1) items)) - (gone - skipped)) ≡ left - (length (flat_map each (drop i items)) - gone)
one_less_left each items i x gone left skipped wanted h is s w =
    let long = ap length (next_and_rest each items i x h is) ∙ length-append (each x) (flat_map each (drop (i + 1) items)) in
    omega (arith, long, s, w)

-- behind all elements there are no others
nothing_behind : {X T : Type 0} (each : X → List T) (items : List X) (i : ℕ) → length items ≤ i → flat_map each (drop i items) ≡ []
nothing_behind each items i h = at_drop_all (flat_map each) items i h

pub all_copied : {X T : Type 0} (each : X → List T) (items : List X) (i : ℕ) (copies : List T) (gone left : ℕ) → length items ≤ i → copies ++ take left (drop gone (flat_map each (drop i items))) ≡ copies
all_copied each items i copies gone left h =
    ap (λ t. copies ++ take left (drop gone t)) (nothing_behind each items i h)
    ∙ ap (λ t. copies ++ take left t) (drop_none gone)
    ∙ ap (λ t. copies ++ t) (take_none left)
    ∙ append-nil copies

pub none_more : {X T : Type 0} (each : X → List T) (items : List X) (i gone left : ℕ) → length items ≤ i → left ≡ left - (length (flat_map each (drop i items)) - gone)
none_more each items i gone left h = omega (arith, ap length (nothing_behind each items i h))

-- copies of a list and of two more
pub three_copied : {X T : Type 0} (each : X → List T) (none one two three items first last ring : List X) (gone most left more : ℕ) → none ≡ [] → first ++ last ≡ ring
    → flat_map each one ≡ flat_map each none ++ take most (drop gone (flat_map each items)) → left ≡ most - (length (flat_map each items) - gone)
    → flat_map each two ≡ flat_map each one ++ take left (drop 0 (flat_map each first)) → more ≡ left - (length (flat_map each first) - 0)
    → flat_map each three ≡ flat_map each two ++ take more (drop 0 (flat_map each last))
    → flat_map each three ≡ take most (drop gone (flat_map each items) ++ flat_map each ring)
three_copied each none one two three items first last ring gone most left more o e f l s m t =
    let rest : more ≡ left - length (flat_map each first) = omega (arith, m) in
    let begun : flat_map each one ≡ take most (drop gone (flat_map each items)) = f ∙ ap (λ xs. flat_map each xs ++ take most (drop gone (flat_map each items))) o in
    let on : flat_map each two ≡ take most (drop gone (flat_map each items)) ++ take left (flat_map each first) = s ∙ ap (λ ys. ys ++ take left (flat_map each first)) begun in
    t
    ∙ ap (λ ys. ys ++ take more (flat_map each last)) on
    ∙ first_of_three each (flat_map each items) first last ring gone most left more e l rest
