-- A map of the names that were seen, by its look-ups.
use Rattle.std.proofs.Common.{◌≡◌, ◌∙◌, ◌++◌, ◌∷◌, ◌&&◌, ◌==◌, ℕ, List, [], Bool, true, false, cond, Option, Some, Ordering, suc, ◌+◌, ◌<◌, length, drop, get_or, nat_lt, refl, sym, ap, append_assoc, append-nil, ◌≤◌, drop-cons, arith}
use Rattle.std.proofs.lemmas.List.{drop_all}
use Rattle.std.specs.declared.cmp.Ordering.TheVariants.{Less, Equal, Greater}
use Rattle.std.proofs.lemmas.Bool.{ltb-true, ne_eqb}
use Rattle.std.specs.Borrow.{Bor}
use Rattle.std.specs.Ordering.{is_eq, nat_cmp, ordering_then}
use Rattle.std.specs.Cmp.Lexicographic.{slice_cmp}
use Rattle.std.specs.Str.{bytes_eq}
use Rattle.std.proofs.lemmas.Map.Text.{is_eq-slice_cmp}
use Rattle.policy_notes.specs.positions.Repeats.{repeated_at, repeats_behind, repeats_of, Repeated, Seen, with_seen}
use Rattle.policy_notes.specs.declared.positions.spots.Spot.{Spot}

abbrev pub Key : Type 0
Key = ℕ × Bor (List ℕ)

abbrev pub order : Key → Key → Ordering
order a b = ordering_then (nat_cmp a.0 b.0) (slice_cmp nat_cmp a.1.now b.1.now)

same_nat : (a b : ℕ) → is_eq (nat_cmp a b) ≡ (a == b)
same_nat a b = by (nat_lt a b) refl
  where
    last : (c : Bool) → is_eq (cond c Equal Greater) ≡ c
    last true = refl
    last false = refl

    by : (c : Bool) → nat_lt a b ≡ c → is_eq (cond c Less (cond (a == b) Equal Greater)) ≡ (a == b)
    by false e = last (a == b)
    by true e = let less : a < b = ltb-true a b e in sym (ne_eqb a b (λ same. omega (arith, less, same)))

both : (o p : Ordering) → is_eq (ordering_then o p) ≡ is_eq o && is_eq p
both Less p = refl
both Equal p = refl
both Greater p = refl

order_is : (a b : Key) → is_eq (order a b) ≡ (a.0 == b.0) && bytes_eq a.1.now b.1.now
order_is a b = both (nat_cmp a.0 b.0) (slice_cmp nat_cmp a.1.now b.1.now) ∙ (λ i. same_nat a.0 b.0 i && is_eq-slice_cmp a.1.now b.1.now i)

-- one name more was seen
pub seen_more : (s : Spot) (known : Seen) (old new : Key → Option ℕ) (k : Key) → k.0 ≡ s.container → k.1.now ≡ s.name → ((q : Key) → old q ≡ known q.0 q.1.now)
    → ((q : Key) → new q ≡ cond (is_eq (order k q)) (Some s.at) (old q)) → (q : Key) → new q ≡ with_seen s known q.0 q.1.now
seen_more s known old new k container name knows puts q =
    let test : is_eq (order k q) ≡ (s.container == q.0) && bytes_eq s.name q.1.now = order_is k q ∙ (λ i. (container i == q.0) && bytes_eq (name i) q.1.now) in
    puts q ∙ (λ i. cond (test i) (Some s.at) (knows q i))

-- the spots that are left complete the whole
pub repeats_more : (spots : List Spot) (i : ℕ) (s : Spot) (known : Seen) (done more : List Repeated) (first : Option ℕ) → i < length spots → s ≡ get_or spots i s → first ≡ known s.container s.name
    → more ≡ done ++ repeated_at s first → done ++ repeats_behind known (drop i spots) ≡ repeats_of spots
    → more ++ repeats_behind (with_seen s known) (drop (i + 1) spots) ≡ repeats_of spots
unfolding repeats_behind
repeats_more spots i s known done more first within at was adds so-far =
    let next : suc i ≡ i + 1 = omega arith in
    let left : drop i spots ≡ s ∷ drop (i + 1) spots = drop-cons spots i s within ∙ (λ j. (sym at) j ∷ drop (next j) spots) in
    let step : repeats_behind known (drop i spots) ≡ repeated_at s (known s.container s.name) ++ repeats_behind (with_seen s known) (drop (i + 1) spots) = ap (repeats_behind known) left in
    let adds-known : more ≡ done ++ repeated_at s (known s.container s.name) = adds ∙ ap (λ f. done ++ repeated_at s f) was in
    ap (λ l. l ++ repeats_behind (with_seen s known) (drop (i + 1) spots)) adds-known ∙ append_assoc done (repeated_at s (known s.container s.name)) _ ∙ ap (λ l. done ++ l) (sym step) ∙ so-far

-- none is left
pub repeats_end : (spots : List Spot) (i : ℕ) (known : Seen) (done : List Repeated) → length spots ≤ i → done ++ repeats_behind known (drop i spots) ≡ repeats_of spots → done ≡ repeats_of spots
unfolding repeats_behind
repeats_end spots i known done all so-far = sym (append-nil done) ∙ ap (λ (l : List Spot). done ++ repeats_behind known l) (sym (drop_all i spots all)) ∙ so-far
