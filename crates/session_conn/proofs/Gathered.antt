-- Messages that are gathered before they are offered.
use Rattle.std.proofs.Common.{◌≡◌, ◌∷◌, ◌++◌, ◌+◌, ◌≤◌, [], ℕ, List, Bool, Option, Result, true, false, IfOk, IfSome, drop, arith, sym, subst, ap, ◌∙◌}
use Rattle.std.proofs.lemmas.List.{append_assoc, append-nil}
use Rattle.base.specs.declared.no_memory.NoMemory.{NoMemory}
use Rattle.wire_read.specs.declared.frame.Frame.{Frame}
use Rattle.events.specs.Messages.{Message}
use Rattle.session_plan.specs.declared.stage.Stage.{Stage}
use Rattle.session_plan.specs.declared.plan.Plan.TheVariants.{Publishes}
use Rattle.session_plan.specs.Plans.{plan_of}
use Rattle.session_plan.specs.Replies.{room_of}
use Rattle.session_conn.specs.Turns.{is_verbose}
use Rattle.session_conn.specs.Running.{IsMessageOf, IsAhead, IsAdded, IsPut}

-- what was put is the frame's message
pub added_so : (b : Bool) (s : Stage) (f : Frame) (planned : Result (Option Message) NoMemory) (more room : ℕ) (ms : List Message) (room' : ℕ) (ms' : List Message) →
    IfOk planned (λ published. IfSome published (λ message. (conn : ℕ) → plan_of conn s f ≡ Publishes message)) → room_of f ≡ more →
    IsPut b planned more room ms room' ms' → IsAdded b s f room ms room' ms'
added_so true s f planned more room ms room' ms' plan is (m, which, put, kept, enough) = (
  m,
  subst (λ (x : Result (Option Message) NoMemory). IfOk x (λ published. IfSome published (λ message. (conn : ℕ) → plan_of conn s f ≡ Publishes message))) which plan,
  put,
  kept,
  subst (λ (x : ℕ). x ≤ room') (sym is) enough,
)
added_so false s f planned more room ms room' ms' plan is h = h

-- messages of what is left make those of all, whatever more room there is
abbrev pub Gathers : Stage → List Frame → ℕ → ℕ → List Message → Type 0
Gathers s all i room ms = (room' : ℕ) (more : List Message) → room ≤ room' → IsAhead s room' (drop i all) more → IsAhead s room' all (ms ++ more)

pub none_gathered : (s : Stage) (all : List Frame) (room : ℕ) (ms : List Message) → ms ≡ [] → Gathers s all 0 room ms
none_gathered s all room ms none room' more enough h = subst (λ (x : List Message). IsAhead s room' all (x ++ more)) (sym none) h

one_ahead : (s : Stage) (room : ℕ) (f : Frame) (fs : List Frame) (m : Message) (ms : List Message) → IsMessageOf s room f m → IsAhead s room fs ms → IsAhead s room (f ∷ fs) (m ∷ ms)
unfolding IsAhead
one_ahead s room f fs m ms of h = (of, h)

pub gathered_more : (s : Stage) (all : List Frame) (i room : ℕ) (ms : List Message) (f : Frame) (room' : ℕ) (ms' : List Message) → is_verbose s ≡ false →
    drop i all ≡ f ∷ drop (i + 1) all → Gathers s all i room ms → IsAdded true s f room ms room' ms' → Gathers s all (i + 1) room' ms'
gathered_more s all i room ms f room' ms' quiet is sofar (m, plan, put, kept, enough) room2 more wider h =
    let of : IsMessageOf s room2 f m = record { plan = plan; fits = omega (arith, enough, wider); quiet = quiet } in
    let next = one_ahead s room2 f (drop (i + 1) all) m more of h in
    let whole = sofar room2 (m ∷ more) (omega (arith, kept, wider)) (subst (λ (x : List Frame). IsAhead s room2 x (m ∷ more)) (sym is) next) in
    subst (λ (x : List Message). IsAhead s room2 all x) (sym (append_assoc ms (m ∷ []) more) ∙ sym (ap (λ (x : List Message). x ++ more) put)) whole

nothing_ahead : (s : Stage) (room : ℕ) (fs : List Frame) → IsAhead s room fs []
unfolding IsAhead
nothing_ahead s room fs = tt

pub gathered_all : (s : Stage) (all : List Frame) (i room : ℕ) (ms : List Message) → Gathers s all i room ms → IsAhead s room all ms
gathered_all s all i room ms sofar =
    subst (λ (x : List Message). IsAhead s room all x) (append-nil ms) (sofar room [] (omega arith) (nothing_ahead s room (drop i all)))

-- nothing is ahead of any frames
pub none_ahead : (s : Stage) (room : ℕ) (fs : List Frame) (ms : List Message) → ms ≡ [] → IsAhead s room fs ms
none_ahead s room fs ms none = subst (λ (x : List Message). IsAhead s room fs x) (sym none) (nothing_ahead s room fs)

-- further frames behind them
pub ahead_further : (s : Stage) (room : ℕ) (fs rest : List Frame) (ms : List Message) → IsAhead s room fs ms → IsAhead s room (fs ++ rest) ms
unfolding IsAhead
ahead_further s room fs rest [] h = tt
ahead_further s room [] rest (m ∷ ms) h = absurd h
ahead_further s room (f ∷ fs) rest (m ∷ ms) (of, h) = (of, ahead_further s room fs rest ms h)

-- the same where nothing was added
pub same_added : (s : Stage) (all : List Frame) (i room : ℕ) (ms : List Message) (room' : ℕ) (ms' : List Message) → Gathers s all i room ms → room' ≡ room → ms' ≡ ms → IsAhead s room' all ms'
same_added s all i room ms room' ms' sofar same kept =
    subst (λ (x : ℕ). IsAhead s x all ms') (sym same) (subst (λ (x : List Message). IsAhead s room all x) (sym kept) (gathered_all s all i room ms sofar))
