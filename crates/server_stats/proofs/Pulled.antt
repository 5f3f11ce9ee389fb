-- What a port over another has posted, by what that has, and what is counted of it.
use Rattle.std.proofs.Common.{◌≡◌, ◌∙◌, ◌∷◌, ◌<◌, ◌-◌, [], ℕ, zero, suc, List, Result, Ok, Err, inl, inr, refl, subst, sym, ap, arith}
use Rattle.events.specs.Messages.{Message}
use Rattle.events.specs.Offers.{IsOffered}
use Rattle.events.specs.Runs.{EndsRun, IsPosted, post}
use Rattle.events.specs.declared.event.Event.{Event}
use Rattle.events.specs.declared.answer.Entry.{Entry}
use Rattle.events.specs.declared.refusal.HubRefusal.{HubRefusal}
use Rattle.events.specs.declared.refusal.PublishRefusal.{PublishRefusal}
use Rattle.events.specs.declared.refusal.PublishRefusal.TheVariants.{By, Held}
use Rattle.events.specs.declared.run.RunEnd.{RunEnd}
use Rattle.events.specs.declared.run.RunEnd.TheVariants as run
use Rattle.server_stats.specs.Counts.{IsRunCounted, after_end}
use Rattle.server_stats.specs.declared.counts.TurnCounts.{TurnCounts}

abbrev Steps : Type 0 → Type 1
Steps P = P → Event → Result Entry (Event × HubRefusal) → P → Type 0

-- what comes of an offer of the port below is what comes of it above
pub offered_below : {P C : Type 0} (below : C → P) (posts : Steps P) (holds : P → P → Type 0) (c d : C) (e : Event) (r : Result Entry (Event × PublishRefusal)) →
    IsOffered posts holds (below c) e r (below d) → IsOffered (λ (old : C) e r (new : C). posts (below old) e r (below new)) (λ (old new : C). holds (below old) (below new)) c e r d
offered_below below posts holds c d e (Ok entry) h = h
offered_below below posts holds c d e (Err (back, By refusal)) h = h
offered_below below posts holds c d e (Err (back, Held)) h = h

ended_below : {P C : Type 0} (below : C → P) (posts : Steps P) (holds : P → P → Type 0) (c d : C) (e : Event) (word : ℕ) (end : RunEnd) →
    EndsRun posts holds (below c) e word end (below d) → EndsRun (λ (old : C) e r (new : C). posts (below old) e r (below new)) (λ (old new : C). holds (below old) (below new)) c e word end d
ended_below below posts holds c d e word run.Published h = h
ended_below below posts holds c d e word (run.Answered entry) h = h
ended_below below posts holds c d e word (run.Stopped drawn refusal) h = (h.0, (h.1.0, offered_below below posts holds c d e (Err (h.1.0, refusal)) h.1.1))

-- a run of no messages
pub posted_none : {P W : Type 0} (posts : Steps P) (holds : P → P → Type 0) (draws : W → ℕ → W → Type 0) (conn now : ℕ) (ms : List Message) (p : P) (w : W) →
    ms ≡ [] → IsPosted posts holds draws conn now ms p w run.Published ms p w
unfolding IsPosted
posted_none posts holds draws conn now [] p w none = (refl, refl, refl, refl)
posted_none posts holds draws conn now (m ∷ ms) p w none = cc

-- the rest of a run, at a port over a port that is as it was
rest_below : {P C W : Type 0} (below : C → P) (over : P → C) (posts : Steps P) (holds : P → P → Type 0) (draws : W → ℕ → W → Type 0) (conn now : ℕ)
    (ms : List Message) (p : P) (w : W) (end : RunEnd) (left : List Message) (d : C) (w' : W) → ((x : P) → below (over x) ≡ x) → over (below d) ≡ d →
    IsPosted posts holds draws conn now ms p w end left (below d) w' →
    IsPosted (λ (old : C) e r (new : C). posts (below old) e r (below new)) (λ (old new : C). holds (below old) (below new)) draws conn now ms (over p) w end left d w'
unfolding IsPosted
rest_below below over posts holds draws conn now [] p w end left d w' at same h =
    (h.0, h.1, sym same ∙ ap over h.2, h.3)
rest_below {P} {C} below over posts holds draws conn now (m ∷ ms) p w end left d w' at same (word, next, drawn, inl (entry, mid, posted, published, rest)) =
    (word, next, drawn, inl (entry, over mid, both p mid _ (Ok entry) posted, published, rest_below below over posts holds draws conn now ms mid next end left d w' at same rest))
  where
    both : (x y : P) (e : Event) (r : Result Entry (Event × HubRefusal)) → posts x e r y → posts (below (over x)) e r (below (over y))
    both x y e r h = subst (λ z. posts z e r (below (over y))) (sym (at x)) (subst (λ z. posts x e r z) (sym (at y)) h)
rest_below {P} {C} below over posts holds draws conn now (m ∷ ms) p w end left d w' at same (word, next, drawn, inr (ended, others, drawn_last)) =
    (word, next, drawn, inr (ended_below below posts holds (over p) d (post conn now m word) word end (subst (λ z. EndsRun posts holds z (post conn now m word) word end (below d)) (sym (at p)) ended), others, drawn_last))

-- a run of some messages
pub posted_below : {P C W : Type 0} (below : C → P) (over : P → C) (posts : Steps P) (holds : P → P → Type 0) (draws : W → ℕ → W → Type 0) (conn now : ℕ)
    (ms : List Message) (c : C) (w : W) (end : RunEnd) (left : List Message) (d : C) (w' : W) → ((x : P) → below (over x) ≡ x) → over (below d) ≡ d → (ms ≡ [] → ⊥) →
    IsPosted posts holds draws conn now ms (below c) w end left (below d) w' →
    IsPosted (λ (old : C) e r (new : C). posts (below old) e r (below new)) (λ (old new : C). holds (below old) (below new)) draws conn now ms c w end left d w'
unfolding IsPosted
posted_below below over posts holds draws conn now [] c w end left d w' at same some h = absurd (some refl)
posted_below below over posts holds draws conn now (m ∷ ms) c w end left d w' at same some (word, next, drawn, inl (entry, mid, posted, published, rest)) =
    (word, next, drawn, inl (entry, over mid, subst (λ z. posts (below c) (post conn now m word) (Ok entry) z) (sym (at mid)) posted, published, rest_below below over posts holds draws conn now ms mid next end left d w' at same rest))
posted_below below over posts holds draws conn now (m ∷ ms) c w end left d w' at same some (word, next, drawn, inr (ended, others, drawn_last)) =
    (word, next, drawn, inr (ended_below below posts holds c d (post conn now m word) word end ended, others, drawn_last))

-- what is counted of a run of no messages, and of some
pub counted_none : (n left : ℕ) (end : RunEnd) (c : TurnCounts) → n ≡ 0 → IsRunCounted n left end c c
counted_none zero left end c none = refl
counted_none (suc n) left end c none = absurd (omega arith)

pub counted_some : (n left : ℕ) (end : RunEnd) (old new : TurnCounts) → 0 < n → new ≡ after_end (n - left) end old → IsRunCounted n left end old new
counted_some zero left end old new some counted = absurd (omega arith)
counted_some (suc n) left end old new some counted = counted
