-- A message that was offered and refused.
use Rattle.std.proofs.Common.{ℕ, ◌≡◌, Err, subst}
use Rattle.events.specs.declared.event.Event.{Event}
use Rattle.events.specs.declared.refusal.HubRefusal.{HubRefusal}
use Rattle.events.specs.declared.refusal.PublishRefusal.{PublishRefusal}
use Rattle.events.specs.declared.refusal.PublishRefusal.TheVariants.{By, Held}
use Rattle.events.specs.Offers.{IsOffered}
use Rattle.shared_hub.specs.Entering.{IsPostedBy}

-- the seat has as many as before
pub same_count : {P : Type 0} (count : P → ℕ) (opening : ℕ) (p q : P) (e back : Event) (r : PublishRefusal)
    → IsOffered (λ old e r new. IsPostedBy opening (count old) e r (count new)) (λ old new. count new ≡ count old) p e (Err (back, r)) q
    → count q ≡ count p
same_count count opening p q e back (By x) h = h.0.1
same_count count opening p q e back Held h = h

-- it was posted, if it was not held back
pub posted_if : {P : Type 0} (count : P → ℕ) (opening : ℕ) (p q : P) (e back : Event) (r : PublishRefusal) (x : HubRefusal)
    → IsOffered (λ old e r new. IsPostedBy opening (count old) e r (count new)) (λ old new. count new ≡ count old) p e (Err (back, r)) q
    → r ≡ By x → IsPostedBy opening (count p) e (Err (back, x)) (count q)
posted_if count opening p q e back r x h is =
    subst (λ y. IsOffered (λ old e r new. IsPostedBy opening (count old) e r (count new)) (λ old new. count new ≡ count old) p e (Err (back, y)) q) is h
