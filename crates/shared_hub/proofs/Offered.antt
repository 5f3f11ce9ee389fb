-- What a seat knows of a message's event that was offered for it under the lock.
use Rattle.std.proofs.Common.{ℕ, Ok, Err, refl}
use Rattle.events.specs.declared.event.Event.{Event}
use Rattle.events.specs.declared.refusal.PublishRefusal.TheVariants.{By, Held}
use Rattle.shared_waits.specs.runs.Runs.{Came}
use Rattle.shared_hub.specs.desk.Publishing.{Inside, inside, IsPublished}
use Rattle.shared_hub.specs.Entering.{IsOfferedBy, IsToldOfOffer}

-- of the seat only its count matters
abbrev counting : {S : Type 0} (count : S → ℕ) → Inside S → Inside ℕ
counting count x = inside x.hub x.waits x.held (count x.seat) x.told

by_count : {S : Type 0} (count : S → ℕ) (opening : ℕ) (x : Inside S) (e : Event) (r : Came) (y : Inside S) → IsPublished count opening x e r y
    → IsPublished (λ n. n) opening (counting count x) e r (counting count y)
by_count count opening x e r y h = record {
  hub = h.hub;
  step = h.step;
  guarantee = h.guarantee;
  counted = h.counted;
  number = h.number;
  waits = h.waits;
  until = h.until;
  slow = h.slow;
  size = h.size;
}

-- what it is told
pub told_by : {S : Type 0} (count : S → ℕ) (opening : ℕ) (x : Inside S) (e : Event) (r : Came) (y : Inside S)
    → IsPublished count opening x e r y → IsToldOfOffer opening (count x.seat) e r (count y.seat) y.told
told_by count opening x e r y h = record {
  had = counting count x;
  has = counting count y;
  published = by_count count opening x e r y h;
  old = refl;
  new = refl;
  tells = refl;
}

-- what came of the event
pub offered_by : {S : Type 0} (count : S → ℕ) (opening : ℕ) (x : Inside S) (e : Event) (r : Came) (y : Inside S)
    → IsPublished count opening x e r y → IsOfferedBy opening (count x.seat) e r (count y.seat)
offered_by count opening x e (Ok entry) y h = (
  (
    (h.guarantee.event, h.counted, h.number),
    record { before = x.hub; after = y.hub; hub = h.hub; step = h.step.0; guarantee = h.guarantee },
  ),
  (counting count x, (counting count y, by_count count opening x e (Ok entry) y h)),
)
offered_by count opening x e (Err (back, By refusal)) y h = (
  (
    h.step.0,
    h.counted,
    record { before = x.hub; after = y.hub; hub = h.hub; step = h.step; guarantee = h.guarantee },
  ),
  (counting count x, (counting count y, by_count count opening x e (Err (back, By refusal)) y h)),
)
offered_by count opening x e (Err (back, Held)) y h = h.counted
