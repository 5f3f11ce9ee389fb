-- What waits where each delivery enters on the terms of a server.
use Rattle.std.proofs.Common.{◌≡◌, ◌∙◌, ◌+◌, ◌-◌, ◌*◌, ◌≤◌, ◌<◌, ◌++◌, ◌∷◌, ℕ, suc, Bool, true, false, cond, List, [], Option, Some, None, length, drop, sym, ap, refl, subst, arith}
use Rattle.std.specs.List.{sum_by}
use Rattle.std.proofs.Math.Nat.{mul-le-mul_right, le_of_mul-le-mul_right}
use Rattle.std.proofs.lemmas.Bool.{ltb-false}
use Rattle.std.proofs.lemmas.List.{length-append, length-drop}
use Rattle.std.proofs.lemmas.List.Sums.{sum_by-cons, sum_by_push, sum_by-take-drop}
use Rattle.events.specs.declared.answer.Delivery.{Delivery}
use Rattle.world_sessions.specs.declared.deliveries.session.Session.{Session}
use Rattle.world_sessions.specs.leniency.Held.{weight_of, is_over}
use Rattle.shared_hub.specs.desk.Bounds.{is_large, large_weight, IsBounded, HasNoMore, StaysEntering, StaysLeaving}

-- what weighs no less than large messages weighs no less than all
more : (f g : Delivery → ℕ) (ds : List Delivery) → ((d : Delivery) → f d ≤ g d) → sum_by f ds ≤ sum_by g ds
more f g [] each = omega arith
more f g (d ∷ ds) each =
    let P : ℕ → Type 0 = λ n. n ≤ sum_by g (d ∷ ds) in
    let Q : ℕ → Type 0 = λ n. f d + sum_by f ds ≤ n in
    subst P (sym (sum_by-cons f d ds)) (subst Q (sym (sum_by-cons g d ds)) (omega (arith, each d, more f g ds each)))

-- with so much more for each, what is added up by one measure is no less than by the other
more-times : (f g : Delivery → ℕ) (k m : ℕ) (ds : List Delivery) → ((d : Delivery) → f d * k ≤ g d * k + m)
    → sum_by f ds * k ≤ sum_by g ds * k + length ds * m
more-times f g k m [] each = omega arith
more-times f g k m (d ∷ ds) each =
    let P : ℕ → Type 0 = λ n. n * k ≤ sum_by g (d ∷ ds) * k + suc (length ds) * m in
    let Q : ℕ → Type 0 = λ n. (f d + sum_by f ds) * k ≤ n * k + suc (length ds) * m in
    subst P (sym (sum_by-cons f d ds)) (subst Q (sym (sum_by-cons g d ds)) (omega (arith, each d, more-times f g k m ds each)))

large-within : (capacity : ℕ) (d : Delivery) → large_weight capacity d ≤ weight_of d
large-within capacity d = here (is_large capacity (weight_of d))
  where
    here : (b : Bool) → cond b (weight_of d) 0 ≤ weight_of d
    here true = omega arith
    here false = omega arith

-- a small one, as often as an outbox holds it, is within the bound
small-within : (capacity : ℕ) (d : Delivery) → weight_of d * capacity ≤ large_weight capacity d * capacity + 67108864
small-within capacity d = here (is_large capacity (weight_of d)) refl
  where
    here : (b : Bool) → is_large capacity (weight_of d) ≡ b → weight_of d * capacity ≤ cond b (weight_of d) 0 * capacity + 67108864
    here true is = omega arith
    here false is = omega (arith, ltb-false 67108864 (weight_of d * capacity) is)

pub has_no_more : HasNoMore
has_no_more capacity ds some b =
    let all = more-times weight_of (large_weight capacity) capacity 67108864 ds (small-within capacity) in
    le_of_mul-le-mul_right {m = sum_by weight_of ds} {n = 134217728} {k = capacity}
    (omega (arith, all, mul-le-mul_right capacity b.large, mul-le-mul_right 67108864 b.count)) some

pub stays_entering : StaysEntering
stays_entering capacity z d b room small free =
    let ds = z.outbox.waiting in
    record {
      count = subst (λ (n : ℕ). n ≤ capacity) (sym (length-append ds (d ∷ []))) (omega (arith, room));
      large = subst (λ (n : ℕ). n ≤ 67108864) (sym (sum_by_push (large_weight capacity) ds d)) (here (is_large capacity (weight_of d)) free);
    }
  where
    here : (c : Bool) → is_over (cond c (Some (67108864 - weight_of d)) None) (Some z) ≡ false
        → sum_by (large_weight capacity) z.outbox.waiting + cond c (weight_of d) 0 ≤ 67108864
    here true over =
        omega (arith, small, ltb-false (67108864 - weight_of d) (sum_by weight_of z.outbox.waiting) over, more (large_weight capacity) weight_of z.outbox.waiting (large-within capacity))
    here false over = omega (arith, b.large)

pub stays_leaving : StaysLeaving
stays_leaving capacity ds most b = record {
  count = omega (arith, length-drop most ds, b.count);
  large = omega (arith, sum_by-take-drop (large_weight capacity) ds most, b.large);
}
