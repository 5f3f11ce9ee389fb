-- What answers come to.
use Rattle.std.proofs.Common.{rules, ◌≡◌, ◌∙◌, ◌∷◌, ◌++◌, [], ℕ, List, Bool, ◌&&◌, not, true, false, Option, Some, None, Result, Ok, Err, IsTrue, ap, refl, sym, subst}
use Rattle.std.specs.Option.{option_to_list}
use Rattle.wire_read.specs.declared.frame.Frame.{Frame}
use Rattle.hub.specs.History.{State, IsStep}
use Rattle.events.specs.declared.event.Event.{Event}
use Rattle.events.specs.declared.event.Command.{Command}
use Rattle.events.specs.declared.answer.Entry.{Entry}
use Rattle.events.specs.declared.answer.Outcome.{Outcome}
use Rattle.events.specs.declared.refusal.HubRefusal.{HubRefusal}
use Rattle.events.specs.declared.refusal.HubRefusal.TheVariants as refusal
use Rattle.session_plan.specs.declared.stage.Stage.{Stage}
use Rattle.session_conn.specs.declared.output.Stall.{Stall}
use Rattle.session_conn.specs.declared.output.Stall.TheVariants as stall
use Rattle.session_plan.specs.declared.reply.Reply.{Reply}
use Rattle.session_plan.specs.declared.plan.Plan.{Plan}
use Rattle.session_plan.specs.declared.plan.Plan.TheVariants.{Tells, Asks, Publishes}
use Rattle.session_plan.specs.Replies.{Told, reply_to}
use Rattle.session_conn.specs.Turns.{Step, Draws, Goes, Stalls, outcome_of, without_event, turn_after, IsAnswered, IsWord}
use Rattle.script.specs.sessions.Happenings.{is_final}
use Rattle.script.specs.sessions.Accounts.{AreSteps, IsStepped, IsDrawn, unless_refused}

-- ---- the hub

-- what a port answers, its hub does
pub of_hub : {P : Type 0} (step : Step P) (hub_of : P → State) → AreSteps step hub_of →
    {p : P} {e : Event} {r : Result Outcome HubRefusal} {p' : P} → IsAnswered step p e r p' → IsAnswered IsStep (hub_of p) e r (hub_of p')
of_hub step hub_of are {p} {e} {p'} h = (h.0, are p e h.0 p' h.1, h.2)

pub stepped-one : (s s' : State) (e : Event) (r : Result Outcome HubRefusal) → IsAnswered IsStep s e r s' → IsStepped ((e, r) ∷ []) s s'
unfolding IsStepped
stepped-one s s' e r h = (s', h, refl)

-- a refusal changes nothing
refused_by : (s s' : State) (e : Event) (x : HubRefusal) (a : Result Entry (Event × HubRefusal)) → IsStep s e a s' → Err x ≡ outcome_of (without_event a) → s' ≡ s
refused_by s s' e x (Ok a) step is = absurd (cc)
refused_by s s' e x (Err r) step is = step.1

pub refused : {s s' : State} (e : Event) {r : Result Outcome HubRefusal} (x : HubRefusal) → r ≡ Err x → IsAnswered IsStep s e r s' → s' ≡ s
refused {s} {s'} e x is h = refused_by s s' e x h.0 h.1 (sym is ∙ h.2)

-- ---- words

-- the words that are drawn where a message takes one
pub record IsWordFrom {W : Type 0} (draws : Draws W) (w : W) (word : Option ℕ) (drawn : ℕ) (w' : W) : Type 0 where
  pub new : List ℕ
  pub are : IsDrawn draws w new w'
  pub same : drawn ∷ [] ≡ option_to_list word ++ new

pub word_from : {W : Type 0} (draws : Draws W) (w : W) (word : Option ℕ) (drawn : ℕ) (w' : W) → IsWord draws w word drawn w' → IsWordFrom draws w word drawn w'
unfolding IsDrawn
word_from draws w None drawn w' h = record { new = drawn ∷ []; are = (w', h, refl); same = refl }
word_from draws w (Some k) drawn w' h = record { new = []; are = h.1; same = ap (λ (x : ℕ). x ∷ []) h.0 }

-- a word that was drawn is one of a message
abbrev pub HasWord : Option ℕ → Plan → Type 0
HasWord None plan = Unit {0}
HasWord (Some n) (Publishes message) = Unit {0}
HasWord (Some n) (Tells r) = ⊥
HasWord (Some n) (Asks what accepted) = ⊥

pub told_wordless : (word : Option ℕ) (r : Reply) → HasWord word (Tells r) → word ≡ None
told_wordless None r h = refl
told_wordless (Some n) r h = absurd h

pub asked_wordless : (word : Option ℕ) (what : Command) (accepted : Stage) → HasWord word (Asks what accepted) → word ≡ None
asked_wordless None what accepted h = refl
asked_wordless (Some n) what accepted h = absurd h

-- ---- answers

pub goes_told : (t : Told) (s accepted : Stage) (f : Frame) (word : Option ℕ) (r : Result Outcome HubRefusal) → Goes t ≡ turn_after s accepted f word r →
    (t ≡ reply_to s accepted f r) × (is_final r ≡ true)
goes_told t s accepted f word (Err refusal.NoMemory) h = absurd (cc)
goes_told t s accepted f word (Err refusal.HistoryFull) h = absurd (cc)
goes_told t s accepted f word (Err x) h = (cc, refl)
goes_told t s accepted f word (Ok o) h = (inside t (reply_to s accepted f (Ok o)) h, refl)
  where
    inside : (a b : Told) → Goes a ≡ Goes b → a ≡ b
    inside a b e = cc

-- the piece was taken
abbrev pub IsNoRefusal : Option Stall → Type 0
IsNoRefusal st = (piece : List ℕ) → unless_refused st piece ≡ piece

-- the answer is a refusal, the word is kept, and the piece was taken
pub record IsStalled (st : Stall) (kept word : Option ℕ) (r : Result Outcome HubRefusal) : Type 0 where
  pub why : HubRefusal
  pub is : r ≡ Err why
  pub keeps : kept ≡ word
  pub takes : IsNoRefusal (Some st)

stalls_so : (st st' : Stall) (kept word : Option ℕ) (r : Result Outcome HubRefusal) (x : HubRefusal) → r ≡ Err x → IsNoRefusal (Some st') →
    Stalls st kept ≡ Stalls st' word → IsStalled st kept word r
stalls_so st st' kept word r x is takes e =
    let same : st' ≡ st = cc in
    record { why = x; is = is; keeps = cc; takes = subst (λ (y : Stall). IsNoRefusal (Some y)) same takes }

pub stalls_told : (st : Stall) (kept : Option ℕ) (s accepted : Stage) (f : Frame) (word : Option ℕ) (r : Result Outcome HubRefusal) →
    Stalls st kept ≡ turn_after s accepted f word r → IsStalled st kept word r
stalls_told st kept s accepted f word (Err refusal.NoMemory) h = stalls_so st stall.Memory kept word (Err refusal.NoMemory) refusal.NoMemory refl (λ piece. refl) h
stalls_told st kept s accepted f word (Err refusal.HistoryFull) h = stalls_so st stall.HistoryFull kept word (Err refusal.HistoryFull) refusal.HistoryFull refl (λ piece. refl) h
stalls_told st kept s accepted f word (Err x) h = absurd (cc)
stalls_told st kept s accepted f word (Ok o) h = absurd (unlike (reply_to s accepted f (Ok o)) h)
  where
    unlike : (a : Told) → Stalls st kept ≡ Goes a → ⊥
    unlike a e = cc

-- ---- stages

pub may_write : (closed : Bool) → closed ≡ false → IsTrue (not closed)
may_write true h = absurd (cc)
may_write false h = search rules

pub may_go : (closed concluded : Bool) → closed ≡ false → concluded ≡ true → IsTrue (not closed && concluded)
may_go true c h k = absurd (cc)
may_go false true h k = search rules
may_go false false h k = absurd (cc)
