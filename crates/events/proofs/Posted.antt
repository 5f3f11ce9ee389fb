-- How a run of messages goes on.
use Rattle.std.proofs.Common.{◌≡◌, ◌∷◌, [], ℕ, List, Result, Ok, true, refl, inl, inr, subst, sym}
use Rattle.events.specs.Messages.{Message}
use Rattle.events.specs.declared.event.Event.{Event}
use Rattle.events.specs.declared.answer.Entry.{Entry}
use Rattle.events.specs.declared.refusal.HubRefusal.{HubRefusal}
use Rattle.events.specs.declared.run.RunEnd.{RunEnd}
use Rattle.events.specs.declared.run.RunEnd.TheVariants as run
use Rattle.events.specs.Runs.{IsPosted, EndsRun, post, was_published}

-- what is left, once it is offered, completes the run of all
abbrev pub Continues : {P W : Type 0} → (P → Event → Result Entry (Event × HubRefusal) → P → Type 0) → (P → P → Type 0) → (W → ℕ → W → Type 0)
    → ℕ → ℕ → List Message → P → W → List Message → P → W → Type 0
Continues {P} {W} steps holds draws conn now all p w left q v =
    (end : RunEnd) (rest : List Message) (p' : P) (w' : W) → IsPosted steps holds draws conn now left q v end rest p' w' → IsPosted steps holds draws conn now all p w end rest p' w'

-- one more was published
more : {P W : Type 0} (steps : P → Event → Result Entry (Event × HubRefusal) → P → Type 0) (holds : P → P → Type 0) (draws : W → ℕ → W → Type 0)
    (conn now : ℕ) (all : List Message) (p : P) (w : W) (m : Message) (ms : List Message) (q : P) (v : W) (word : ℕ) (v' : W) (entry : Entry) (q' : P) →
    Continues steps holds draws conn now all p w (m ∷ ms) q v → draws v word v' → steps q (post conn now m word) (Ok entry) q' → was_published entry.outcome ≡ true →
    Continues steps holds draws conn now all p w ms q' v'
unfolding IsPosted
more steps holds draws conn now all p w m ms q v word v' entry q' done drawn step published end rest p' w' h =
    done end rest p' w' (word, v', drawn, inl (entry, q', step, published, h))

pub posted_more : {P W : Type 0} (steps : P → Event → Result Entry (Event × HubRefusal) → P → Type 0) (holds : P → P → Type 0) (draws : W → ℕ → W → Type 0)
    (conn now : ℕ) (all : List Message) (p : P) (w : W) (left : List Message) (m : Message) (ms : List Message) (q : P) (v : W) (word : ℕ) (v' : W) (entry : Entry) (q' : P) →
    left ≡ m ∷ ms → Continues steps holds draws conn now all p w left q v → draws v word v' → steps q (post conn now m word) (Ok entry) q' → was_published entry.outcome ≡ true →
    Continues steps holds draws conn now all p w ms q' v'
posted_more steps holds draws conn now all p w left m ms q v word v' entry q' is done =
    more steps holds draws conn now all p w m ms q v word v' entry q' (subst (λ (x : List Message). Continues steps holds draws conn now all p w x q v) is done)

-- the next one ended the run
ended : {P W : Type 0} (steps : P → Event → Result Entry (Event × HubRefusal) → P → Type 0) (holds : P → P → Type 0) (draws : W → ℕ → W → Type 0)
    (conn now : ℕ) (all : List Message) (p : P) (w : W) (m : Message) (ms : List Message) (q : P) (v : W) (word : ℕ) (v' : W) (end : RunEnd) (q' : P) →
    Continues steps holds draws conn now all p w (m ∷ ms) q v → draws v word v' → EndsRun steps holds q (post conn now m word) word end q' →
    IsPosted steps holds draws conn now all p w end ms q' v'
unfolding IsPosted
ended steps holds draws conn now all p w m ms q v word v' end q' done drawn ends = done end ms q' v' (word, v', drawn, inr (ends, refl, refl))

pub posted_ended : {P W : Type 0} (steps : P → Event → Result Entry (Event × HubRefusal) → P → Type 0) (holds : P → P → Type 0) (draws : W → ℕ → W → Type 0)
    (conn now : ℕ) (all : List Message) (p : P) (w : W) (left : List Message) (m : Message) (ms : List Message) (q : P) (v : W) (word : ℕ) (v' : W) (end : RunEnd) (q' : P) →
    left ≡ m ∷ ms → Continues steps holds draws conn now all p w left q v → draws v word v' → EndsRun steps holds q (post conn now m word) word end q' →
    IsPosted steps holds draws conn now all p w end ms q' v'
posted_ended steps holds draws conn now all p w left m ms q v word v' end q' is done =
    ended steps holds draws conn now all p w m ms q v word v' end q' (subst (λ (x : List Message). Continues steps holds draws conn now all p w x q v) is done)

-- none is left
all_posted : {P W : Type 0} (steps : P → Event → Result Entry (Event × HubRefusal) → P → Type 0) (holds : P → P → Type 0) (draws : W → ℕ → W → Type 0)
    (conn now : ℕ) (all : List Message) (p : P) (w : W) (q : P) (v : W) →
    Continues steps holds draws conn now all p w [] q v → IsPosted steps holds draws conn now all p w run.Published [] q v
unfolding IsPosted
all_posted steps holds draws conn now all p w q v done = done run.Published [] q v (refl, refl, refl, refl)

pub posted_all : {P W : Type 0} (steps : P → Event → Result Entry (Event × HubRefusal) → P → Type 0) (holds : P → P → Type 0) (draws : W → ℕ → W → Type 0)
    (conn now : ℕ) (all : List Message) (p : P) (w : W) (left rest : List Message) (q : P) (v : W) → left ≡ [] → rest ≡ [] →
    Continues steps holds draws conn now all p w left q v → IsPosted steps holds draws conn now all p w run.Published rest q v
posted_all steps holds draws conn now all p w left rest q v none gone done =
    subst (λ (x : List Message). IsPosted steps holds draws conn now all p w run.Published x q v) (sym gone)
    (all_posted steps holds draws conn now all p w q v (subst (λ (x : List Message). Continues steps holds draws conn now all p w x q v) none done))
