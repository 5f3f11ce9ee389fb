-- A batch of which the oldest were let go, before a ring.
use Rattle.std.proofs.Common.{◌≡◌, ◌∙◌, ℕ, zero, suc, ◌+◌, ◌-◌, ◌≤◌, List, [], ◌∷◌, ◌++◌, take, drop, length, min, ap, sym, arith, refl, append_assoc, flat_map}
use Rattle.std.proofs.Math.Seq.{drop-append-add}
use Rattle.std.proofs.lemmas.List.{length-append, length-drop, length-take, drop-append-le, drop-drop, drop_min, take_min, take-append-drop}
use Rattle.std.proofs.lemmas.List.Concat.{flat_map-append}
use Rattle.stores.specs.outbox.Bounded.{Bounded, IsCounted}

-- the lengths of both
pub of_both : {X : Type 0} (b r : List X) (gone : ℕ) → length (drop gone b ++ r) ≡ (length b - gone) + length r
of_both b r gone = length-append (drop gone b) r ∙ ap (λ n. n + length r) (length-drop gone b)

-- what waits is as many as are counted
pub counted_length : {X T : Type 0} (each : X → List T) (b : List T) (ring : List X) (gone waiting capacity : ℕ) → IsCounted each b ring gone waiting capacity → length (drop gone b ++ flat_map each ring) ≡ waiting
counted_length each b ring gone waiting capacity c = omega (arith, of_both b (flat_map each ring) gone, c.within, c.counted)

-- what waits in one of two that are the same
pub same_waiting : {T : Type 0} {one other : Bounded T} → one ≡ other → one.waiting ≡ other.waiting
same_waiting {T = T} e = ap (λ (o : Bounded T). o.waiting) e

-- more behind both
pub more_behind : {X : Type 0} (b r x : List X) → b ++ (r ++ x) ≡ (b ++ r) ++ x
more_behind b r x = sym (append_assoc b r x)

-- fewer than are left of the batch are dropped of it alone
pub drop_of_batch : {X : Type 0} (b r : List X) (gone n : ℕ) → gone + n ≤ length b → drop n (drop gone b ++ r) ≡ drop (gone + n) b ++ r
drop_of_batch b r gone n few = drop-append-le n (drop gone b) r (omega (arith, length-drop gone b, few)) ∙ ap (λ t. t ++ r) (drop-drop n gone b)

-- where no fewer are dropped, the others are dropped of the ring
pub drop_of_ring : {X : Type 0} (b r : List X) (gone n left : ℕ) → left ≡ min (n - (length b - gone)) (length r) → length b - gone ≤ n → drop n (drop gone b ++ r) ≡ drop left r
drop_of_ring b r gone n left e enough =
    let same : n ≡ length (drop gone b) + (n - (length b - gone)) = omega (arith, length-drop gone b, enough) in
    ap (λ k. drop k (drop gone b ++ r)) same ∙ drop-append-add (drop gone b) r (n - (length b - gone)) ∙ sym (drop_min (n - (length b - gone)) r) ∙ ap (λ k. drop k r) (sym e)

pub take_none : {X : Type 0} (n : ℕ) → take {A = X} n [] ≡ []
take_none zero = refl
take_none (suc n) = refl

pub drop_none : {X : Type 0} (n : ℕ) → drop {A = X} n [] ≡ []
drop_none zero = refl
drop_none (suc n) = refl

-- the first of both are those of the one and then those of the other
pub take_both : {X : Type 0} (a b : List X) (n : ℕ) → take n (a ++ b) ≡ take n a ++ take (n - length a) b
take_both [] b n =
    let same : n ≡ n - 0 = omega arith in
    ap (λ k. take k b) same ∙ sym (ap (λ t. t ++ take (n - 0) b) (take_none n))
take_both (x ∷ a) b zero =
    let none : 0 - suc (length a) ≡ 0 = omega arith in
    ap (λ k. take k b) (sym none)
take_both (x ∷ a) b (suc n) =
    let same : n - length a ≡ suc n - suc (length a) = omega arith in
    ap (λ t. x ∷ t) (take_both a b n) ∙ ap (λ k. x ∷ (take n a ++ take k b)) same

-- and so without the first of both
pub drop_both : {X : Type 0} (a b : List X) (n : ℕ) → drop n (a ++ b) ≡ drop n a ++ drop (n - length a) b
drop_both [] b n =
    let same : n ≡ n - 0 = omega arith in
    ap (λ k. drop k b) same ∙ sym (ap (λ t. t ++ drop (n - 0) b) (drop_none n))
drop_both (x ∷ a) b zero =
    let none : 0 - suc (length a) ≡ 0 = omega arith in
    ap (λ k. x ∷ (a ++ drop k b)) (sym none)
drop_both (x ∷ a) b (suc n) =
    let same : n - length a ≡ suc n - suc (length a) = omega arith in
    drop_both a b n ∙ ap (λ k. drop n a ++ drop k b) same

-- the first of a batch and of a ring in two parts
pub first_of_three : {X T : Type 0} (each : X → List T) (b : List T) (first last ring : List X) (gone n more rest : ℕ) → first ++ last ≡ ring → more ≡ n - (length b - gone) → rest ≡ more - length (flat_map each first)
    → (take n (drop gone b) ++ take more (flat_map each first)) ++ take rest (flat_map each last) ≡ take n (drop gone b ++ flat_map each ring)
first_of_three each b first last ring gone n more rest e m r =
    let a = flat_map each first in
    let z = flat_map each last in
    let behind : more ≡ n - length (drop gone b) = m ∙ ap (λ k. n - k) (sym (length-drop gone b)) in
    append_assoc (take n (drop gone b)) (take more a) (take rest z)
    ∙ ap (λ k. take n (drop gone b) ++ (take more a ++ take k z)) r
    ∙ ap (λ t. take n (drop gone b) ++ t) (sym (take_both a z more))
    ∙ ap (λ t. take n (drop gone b) ++ take more t) (sym (flat_map-append each first last) ∙ ap (flat_map each) e)
    ∙ ap (λ k. take n (drop gone b) ++ take k (flat_map each ring)) behind
    ∙ sym (take_both (drop gone b) (flat_map each ring) n)

-- what was moved into a batch stands before the others as it did
pub gathered : {X : Type 0} (old b r new : List X) (gone n : ℕ) → old ≡ [] → gone ≤ length old → b ≡ take n r → new ≡ drop n r → drop gone b ++ new ≡ drop gone old ++ r
gathered old b r new gone n o within e f =
    let none : gone ≡ 0 = omega (arith, ap length o, within) in
    ap (λ k. drop k b ++ new) none
    ∙ ap (λ t. t ++ new) e
    ∙ ap (λ t. take n r ++ t) f
    ∙ take-append-drop n r
    ∙ ap (λ t. t ++ r) (sym o)
    ∙ ap (λ k. drop k old ++ r) (sym none)

-- the front that is counted is that of what waits
pub whole_front : {X T : Type 0} (each : X → List T) (b : List T) (ring : List X) (gone waiting capacity n count : ℕ) (items front : List T) → IsCounted each b ring gone waiting capacity
    → count ≡ min n waiting → items ≡ b → front ≡ take count (drop gone items ++ flat_map each ring) → front ≡ take n (drop gone b ++ flat_map each ring)
whole_front each b ring gone waiting capacity n count items front c few i e =
    let all = drop gone b ++ flat_map each ring in
    e
    ∙ ap (λ t. take count (drop gone t ++ flat_map each ring)) i
    ∙ ap (λ k. take k all) (few ∙ ap (λ k. min n k) (sym (counted_length each b ring gone waiting capacity c)))
    ∙ take_min n all

pub front_length : {X T : Type 0} (each : X → List T) (b : List T) (ring : List X) (gone waiting capacity n count : ℕ) (items front : List T) → IsCounted each b ring gone waiting capacity
    → count ≡ min n waiting → items ≡ b → front ≡ take count (drop gone items ++ flat_map each ring) → count ≡ length front
front_length each b ring gone waiting capacity n count items front c few i e =
    let all = drop gone b ++ flat_map each ring in
    omega (arith, few, counted_length each b ring gone waiting capacity c, ap length (whole_front each b ring gone waiting capacity n count items front c few i e), length-take n all)
