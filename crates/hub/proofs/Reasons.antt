-- What decides whether a user may be sent a message has its reason.
use Rattle.std.proofs.Common.{◌≡◌, ◌<◌, ◌≤◌, ◌&&◌, ◌⊎◌, inl, inr, ℕ, Bool, true, false, cond, List, length, Option, Some, None, refl, arith, nat_lt}
use Rattle.std.specs.List.{position_or_len, slice_index_or}
use Rattle.std.proofs.lemmas.Bool.{ltb-true, ltb-false}
use Rattle.std.proofs.lemmas.List.Sums.{fails_before_first, passes_at_first}
use Rattle.subjects.specs.Subject.{Token, in_set}
use Rattle.permissions.specs.Lists.{Entry, Lists, is_for}
use Rattle.permissions.specs.declared.verdict.By.TheVariants.{All as AllowsAll}
use Rattle.permissions.specs.declared.verdict.Verdict.TheVariants.{Allowed}
use Rattle.permissions.specs.Verdicts.{unless_denied, delivery_verdict, LacksFor, IsJustifiedDelivery}

both : (a b : Bool) → (a && b) ≡ true → (a ≡ true) × (b ≡ true)
both true b h = (refl, h)
both false b h = absurd (cc)

either : (a b : Bool) → (a && b) ≡ false → (a ≡ false) ⊎ (b ≡ false)
either true b h = inr h
either false b h = inl refl

-- each deny entry for the subscription lacks the subject, or the least that has it refuses
pub delivery_justified : (lists : Lists) (s : List Token) (queue : Option (List Token)) → IsJustifiedDelivery s queue lists.subscribe (delivery_verdict lists s queue)
delivery_justified lists s queue = here (nat_lt n (length deny)) refl
  where
    has : Entry → Bool
    has entry = is_for queue entry && in_set entry.subject s

    deny : List Entry
    deny = lists.subscribe.deny

    n : ℕ
    n = position_or_len has deny

    lacks : (k : ℕ) (d : Entry) → k < n → LacksFor s queue (slice_index_or deny k d)
    lacks k d below = either (is_for queue (slice_index_or deny k d)) (in_set (slice_index_or deny k d).subject s) (fails_before_first has deny k d below)

    here : (b : Bool) → nat_lt n (length deny) ≡ b → IsJustifiedDelivery s queue lists.subscribe (unless_denied (cond b (Some n) None) (Allowed AllowsAll))
    here true is =
        let within : n < length deny = ltb-true n (length deny) is in
        (within, (λ d. both (is_for queue (slice_index_or deny n d)) (in_set (slice_index_or deny n d).subject s) (passes_at_first has deny d within)), lacks)
    here false is =
        let none : length deny ≤ n = ltb-false n (length deny) is in
        ((λ k d below. lacks k d (omega (arith, below, none))), refl)
