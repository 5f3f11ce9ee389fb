-- The turns of frames over a hub, where memory is enough.
use Rattle.std.proofs.Common.{◌≡◌, ◌∙◌, ◌∷◌, [], ℕ, List, Bool, true, false, Option, Some, None, Result, Ok, Err, inl, inr, cond, ap, sym, refl}
use Rattle.wire_read.specs.declared.frame.Frame.{Frame}
use Rattle.hub.specs.History.{State}
use Rattle.script.specs.sessions.Accounts.{AreSteps}
use Rattle.events.specs.declared.event.Event.{Event}
use Rattle.events.specs.declared.event.Command.TheVariants as command
use Rattle.events.specs.declared.answer.Entry.{Entry}
use Rattle.events.specs.declared.answer.Outcome.{Outcome}
use Rattle.events.specs.declared.refusal.HubRefusal.{HubRefusal}
use Rattle.events.specs.declared.refusal.HubRefusal.TheVariants as refusal
use Rattle.session_plan.specs.declared.plan.Plan.{Plan}
use Rattle.session_plan.specs.declared.plan.Plan.TheVariants.{Tells, Asks, Publishes}
use Rattle.session_plan.specs.declared.stage.Stage.{Stage}
use Rattle.session_plan.specs.Plans.{plan_of}
use Rattle.session_plan.specs.Replies.{told, is_closed}
use Rattle.session_conn.specs.Serving.{Spot, spot, Served, served, rests, behind, UnlessClosed, IsFollowed, Serves}
use Rattle.session_conn.specs.Turns.{Step, Steps, Turned, Goes, Stalls, turn_after, event, IsAnswered, IsWord, IsHeldBack, IsPlanned, IsFrameTurn}
use Rattle.script.specs.Server.{heard, IsNextWord}
use Rattle.script.specs.Session.{Here, FrameTurn, frame_turn, word_of, words_after, answered_turn, planned, goes_on, turns, is_memory_stall}
use Rattle.script.proofs.Answering.{is_memory_answer, answered_is}

-- a port to a hub that holds nothing back
pub record IsOpenPort {P : Type 0} (steps : Steps P) (hub_of : P → State) : Type 0 where
  pub step : AreSteps steps.step hub_of
  pub post : AreSteps steps.post hub_of
  pub never : (p p' : P) → steps.holds p p' → ⊥

-- what is seen of a place between two turns, and of what the turns came to
abbrev pub seen : {P : Type 0} → (P → State) → Spot P (List ℕ) → Here
seen hub_of at = spot (hub_of at.port) at.words at.stage at.word

abbrev pub seen_served : {P : Type 0} → (P → State) → Served P (List ℕ) → Served State (List ℕ)
seen_served hub_of r = served r.text r.frames r.stall (seen hub_of r.at)

-- ---- a turn

-- memory lacked in a turn
abbrev pub is_memory_turn : Turned → Bool
is_memory_turn (Goes r) = false
is_memory_turn (Stalls s word) = is_memory_stall (Some s)

-- it lacked exactly where it lacked for the hub
memory_after : (s accepted : Stage) (f : Frame) (word : Option ℕ) (r : Result Outcome HubRefusal) → is_memory_turn (turn_after s accepted f word r) ≡ is_memory_answer r
memory_after s accepted f word (Ok o) = refl
memory_after s accepted f word (Err refusal.NoMemory) = refl
memory_after s accepted f word (Err refusal.HistoryFull) = refl
memory_after s accepted f word (Err refusal.NoSession) = refl
memory_after s accepted f word (Err refusal.SessionTaken) = refl
memory_after s accepted f word (Err refusal.SessionLimit) = refl

-- the hub was asked
asked_is : {P : Type 0} (step : Step P) (hub_of : P → State) → AreSteps step hub_of → (s accepted : Stage) (f : Frame) (word : Option ℕ) (words : List ℕ) (e : Event)
    (p p' : P) (r : Result Outcome HubRefusal) (t : Turned) → IsAnswered step p e r p' → t ≡ turn_after s accepted f word r → is_memory_turn t ≡ false →
    frame_turn t (hub_of p') words ≡ answered_turn s accepted f word words (heard (hub_of p) e)
asked_is step hub_of are s accepted f word words e p p' r t answered is enough =
    let had : is_memory_answer r ≡ false = sym (memory_after s accepted f word r) ∙ sym (ap is_memory_turn is) ∙ enough in
    ap (λ (x : Turned). frame_turn x (hub_of p') words) is
    ∙ ap (λ (a : Result Outcome HubRefusal × State). answered_turn s accepted f word words a) (answered_is (hub_of p) e answered.0 r (hub_of p') (are p e answered.0 p' answered.1) answered.2 had)

-- the word of a message
word_is : (word : Option ℕ) (words words' : List ℕ) (drawn : ℕ) → IsWord IsNextWord words word drawn words' → (drawn ≡ word_of word words) × (words' ≡ words_after word words)
word_is (Some w) words words' drawn h = (h.0, h.1)
word_is None words words' drawn h = (h.0, h.1)

-- a turn by its plan
planned_is : {P : Type 0} (steps : Steps P) (hub_of : P → State) → IsOpenPort steps hub_of → (now conn : ℕ) (at : Spot P (List ℕ)) (f : Frame) (t : Turned) (p : P) (w : List ℕ) (plan : Plan) →
    IsPlanned steps IsNextWord now conn at.stage at.word f at.port at.words t p w plan → is_memory_turn t ≡ false →
    frame_turn t (hub_of p) w ≡ planned now conn (seen hub_of at) f plan
planned_is steps hub_of over now conn at f t p w (Tells r) h enough =
    ap (λ (x : Turned). frame_turn x (hub_of p) w) h.0 ∙ ap (λ (x : State). frame_turn (Goes (told r)) x w) (ap hub_of h.1) ∙ ap (λ (x : List ℕ). frame_turn (Goes (told r)) (hub_of at.port) x) h.2
planned_is steps hub_of over now conn at f t p w (Asks what accepted) h enough =
    ap (λ (x : List ℕ). frame_turn t (hub_of p) x) h.3
    ∙ asked_is steps.step hub_of over.step at.stage accepted f at.word at.words (event now what) at.port p h.0 t h.1 h.2 enough
planned_is steps hub_of over now conn at f t p w (Publishes message) h enough =
    let word = word_is at.word at.words w h.1 h.2 in
    asked_is steps.post hub_of over.post at.stage at.stage f (Some h.1) w (event now (command.Pub conn message h.1)) at.port p h.0 t h.3 h.4 enough
    ∙ ap (λ (x : ℕ). answered_turn at.stage at.stage f (Some x) w (heard (hub_of at.port) (event now (command.Pub conn message x)))) word.0
    ∙ ap (λ (x : List ℕ). answered_turn at.stage at.stage f (Some (word_of at.word at.words)) x (heard (hub_of at.port) (event now (command.Pub conn message (word_of at.word at.words))))) word.1

-- ---- turns

-- where a turn stalled for memory, so did all
stalled_is : {P : Type 0} (more : Spot P (List ℕ) → Served P (List ℕ) → Type 0) (all : List Frame) (s : Stage) (t : Turned) (p : P) (w : List ℕ) (r : Served P (List ℕ)) →
    IsFollowed more all s t p w r → is_memory_stall r.stall ≡ false → is_memory_turn t ≡ false
stalled_is more all s (Goes r') p w r h enough = refl
stalled_is more all s (Stalls stall word) p w r h enough = sym (ap (λ (x : Served _ (List ℕ)). is_memory_stall x.stall) h) ∙ enough

-- a turn, and then the others
followed_is : {P : Type 0} (hub_of : P → State) (more : Spot P (List ℕ) → Served P (List ℕ) → Type 0) (more_of : Here → Served State (List ℕ)) (all : List Frame) (s : Stage) (t : Turned) (p : P) (w : List ℕ) (r : Served P (List ℕ)) →
    ((at' : Spot P (List ℕ)) (r' : Served P (List ℕ)) → more at' r' → is_memory_stall r'.stall ≡ false → seen_served hub_of r' ≡ more_of (seen hub_of at')) →
    IsFollowed more all s t p w r → is_memory_stall r.stall ≡ false → seen_served hub_of r ≡ goes_on more_of all s (frame_turn t (hub_of p) w) t
followed_is hub_of more more_of all s (Goes told) p w r rest_is h enough =
    let still : is_memory_stall (h.0).stall ≡ false = sym (ap (λ (x : Served _ (List ℕ)). is_memory_stall x.stall) h.2) ∙ enough in
    ap (λ (x : Served _ (List ℕ)). seen_served hub_of x) h.2
    ∙ ap (λ (x : Served State (List ℕ)). behind told.text x) (rest_is (spot p w told.stage None) h.0 h.1 still)
followed_is hub_of more more_of all s (Stalls stall word) p w r rest_is h enough = ap (λ (x : Served _ (List ℕ)). seen_served hub_of x) h

-- before a closing text, and after it
unless_closed : {P : Type 0} (hub_of : P → State) (closed : Bool) (at : Spot P (List ℕ)) (r : Served P (List ℕ)) (Turns : Type 0) (after : Served State (List ℕ)) →
    (Turns → seen_served hub_of r ≡ after) → UnlessClosed closed at r Turns → seen_served hub_of r ≡ cond closed (rests (seen hub_of at)) after
unless_closed hub_of true at r Turns after while_open h = ap (λ (x : Served _ (List ℕ)). seen_served hub_of x) h
unless_closed hub_of false at r Turns after while_open h = while_open h

-- nothing is held back
held_never : {P : Type 0} (steps : Steps P) (hub_of : P → State) → IsOpenPort steps hub_of → (word : Option ℕ) (p : P) (words : List ℕ) (t : Turned) (p' : P) (words' : List ℕ) (plan : Plan) →
    IsHeldBack steps IsNextWord word p words t p' words' plan → ⊥
held_never steps hub_of over word p words t p' words' (Tells r) h = over.never p p' h.0
held_never steps hub_of over word p words t p' words' (Asks what accepted) h = h
held_never steps hub_of over word p words t p' words' (Publishes message) h = over.never p p' h.2

-- a turn of its plan
turn_is : {P : Type 0} (steps : Steps P) (hub_of : P → State) → IsOpenPort steps hub_of → (now conn : ℕ) (at : Spot P (List ℕ)) (f : Frame) (t : Turned) (p : P) (w : List ℕ) →
    IsFrameTurn steps IsNextWord now conn at.stage at.word f at.port at.words t p w → is_memory_turn t ≡ false →
    frame_turn t (hub_of p) w ≡ planned now conn (seen hub_of at) f (plan_of conn at.stage f)
turn_is steps hub_of over now conn at f t p w (inl untouched) enough =
    let lacked : is_memory_turn t ≡ true = ap is_memory_turn untouched.stalls in absurd (cc)
turn_is steps hub_of over now conn at f t p w (inr (inl h)) enough = absurd (held_never steps hub_of over at.word at.port at.words t p w (plan_of conn at.stage f) h)
turn_is steps hub_of over now conn at f t p w (inr (inr h)) enough = planned_is steps hub_of over now conn at f t p w (plan_of conn at.stage f) h enough

-- frames in order
pub turns_are : {P : Type 0} (steps : Steps P) (hub_of : P → State) → IsOpenPort steps hub_of → (now conn : ℕ) (fs : List Frame) (at : Spot P (List ℕ)) (r : Served P (List ℕ)) →
    Serves steps IsNextWord now conn fs at r → is_memory_stall r.stall ≡ false → seen_served hub_of r ≡ turns now conn fs (seen hub_of at)
unfolding Serves turns
turns_are steps hub_of over now conn [] at r h enough = ap (λ (x : Served _ (List ℕ)). seen_served hub_of x) h
turns_are {P} steps hub_of over now conn (f ∷ fs) at r h enough =
    let Turns : Type 0 = (t : Turned) × (p : P) × (w : List ℕ) × IsFrameTurn steps IsNextWord now conn at.stage at.word f at.port at.words t p w
    × IsFollowed (Serves steps IsNextWord now conn fs) (f ∷ fs) at.stage t p w r in
    let t : FrameTurn = planned now conn (seen hub_of at) f (plan_of conn at.stage f) in
    unless_closed hub_of (is_closed at.stage) at r Turns (goes_on (turns now conn fs) (f ∷ fs) at.stage t t.turned)
    (λ (h' : Turns).
    let had = stalled_is (Serves steps IsNextWord now conn fs) (f ∷ fs) at.stage h'.0 h'.1 h'.2 r h'.4 enough in
    followed_is hub_of (Serves steps IsNextWord now conn fs) (turns now conn fs) (f ∷ fs) at.stage h'.0 h'.1 h'.2 r (turns_are steps hub_of over now conn fs) h'.4 enough
    ∙ ap (λ (x : FrameTurn). goes_on (turns now conn fs) (f ∷ fs) at.stage x x.turned) (turn_is steps hub_of over now conn at f h'.0 h'.1 h'.2 h'.3 had))
    h
