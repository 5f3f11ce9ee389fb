-- What is left behind a run.
use Rattle.std.proofs.Common.{◌≡◌, ◌∙◌, ◌∷◌, ◌+◌, ◌-◌, ◌<◌, ◌≤◌, [], ℕ, List, Bool, Option, Some, None, Result, Ok, Err, true, false, drop, length, length-drop, if◌then◌else◌, arith, refl, sym, subst, ap}
use Rattle.std.proofs.lemmas.List.{append-nil}
use Rattle.wire_read.specs.declared.frame.Frame.{Frame}
use Rattle.wire_write.specs.Errors.{closes_after}
use Rattle.wire_write.specs.declared.error.ServerError.{ServerError}
use Rattle.wire_write.specs.declared.error.ServerError.TheVariants as error
use Rattle.events.specs.Messages.{Message}
use Rattle.events.specs.declared.answer.Entry.{Entry}
use Rattle.events.specs.declared.answer.Outcome.{Outcome}
use Rattle.events.specs.declared.answer.Outcome.TheVariants as outcome
use Rattle.events.specs.declared.refusal.HubRefusal.{HubRefusal}
use Rattle.events.specs.declared.refusal.HubRefusal.TheVariants as refusal
use Rattle.events.specs.declared.refusal.PublishRefusal.{PublishRefusal}
use Rattle.events.specs.declared.refusal.PublishRefusal.TheVariants.{By, Held}
use Rattle.events.specs.declared.run.RunEnd.{RunEnd}
use Rattle.events.specs.declared.run.RunEnd.TheVariants as run
use Rattle.session_plan.specs.declared.stage.Stage.{Stage}
use Rattle.session_plan.specs.declared.stage.Stage.TheVariants as stage
use Rattle.session_plan.specs.Replies.{told_text, is_closed, closed_from, after_error}
use Rattle.session_conn.specs.declared.turn.FrameTurn.{FrameTurn}
use Rattle.session_conn.specs.declared.turn.FrameTurn.TheVariants as turn
use Rattle.session_conn.specs.Turns.{Steps, Draws, Turned, Goes, Stalls, turn_after, IsFrameTurn, IsFrameTurned}
use Rattle.session_conn.specs.Serving.{Spot, spot, served, Serves}
use Rattle.session_conn.specs.Running.{Completes, IsAhead, IsAheadAfter, IsNearer, IsLastTold, IsToldFirst, HasRoomFirst, left_after, Went}
use Rattle.session_conn.proofs.Runs.{completes_goes, completes_stalls}
use Rattle.session_conn.proofs.Told.{turned_so}
use Rattle.session_conn.proofs.Posted.{LastTurn, LeadsOn}
use Rattle.session_conn.proofs.Gathered.{none_ahead}

-- ---- where the connection stays open, its stage stays

abbrev StaysIn : Stage → Turned → Type 0
StaysIn s (Goes t) = is_closed t.stage ≡ false → t.stage ≡ s
StaysIn s (Stalls stall word) = Unit {0}

stays_if : (b : Bool) (s : Stage) → is_closed (if b then closed_from s else s) ≡ false → (if b then closed_from s else s) ≡ s
stays_if true stage.Fresh e = absurd (cc)
stays_if true (stage.Connected verbose headers) e = absurd (cc)
stays_if true (stage.Closed session) e = absurd (cc)
stays_if false s e = refl

stays_error : (e : ServerError) (s : Stage) → is_closed (after_error e s) ≡ false → after_error e s ≡ s
stays_error e s = stays_if (closes_after e) s

stays_after : (s : Stage) (f : Frame) (word : Option ℕ) (r : Result Outcome HubRefusal) → StaysIn s (turn_after s s f word r)
stays_after s f word (Err refusal.NoMemory) = tt
stays_after s f word (Err refusal.HistoryFull) = tt
stays_after s f word (Err refusal.NoSession) = λ e. absurd (cc)
stays_after s f word (Err refusal.SessionTaken) = stays_error error.InvalidProtocol s
stays_after s f word (Err refusal.SessionLimit) = stays_error error.ConnectionsExceeded s
stays_after s f word (Ok outcome.Connected) = λ e. refl
stays_after s f word (Ok outcome.AuthViolation) = stays_error error.Authorization s
stays_after s f word (Ok outcome.Subscribed) = λ e. refl
stays_after s f word (Ok outcome.SameSid) = λ e. refl
stays_after s f word (Ok outcome.SubLimit) = stays_error error.SubscriptionsExceeded s
stays_after s f word (Ok (outcome.Denied verdict)) = λ e. refl
stays_after s f word (Ok (outcome.Published by met)) = λ e. refl
stays_after s f word (Ok (outcome.Taken deliveries missed)) = λ e. refl
stays_after s f word (Ok outcome.Unsubscribed) = λ e. refl
stays_after s f word (Ok outcome.Closed) = λ e. refl
stays_after s f word (Ok (outcome.Reloaded gone removed)) = λ e. refl

stays : (s : Stage) (f : Frame) (end : RunEnd) (t : Turned) → IsLastTold s f end t → StaysIn s t
stays s f run.Published t told = subst (λ (x : Turned). StaysIn s x) (sym told) (λ e. refl)
stays s f (run.Answered entry) t told = subst (λ (x : Turned). StaysIn s x) (sym told) (stays_after s f None (Ok entry.outcome))
stays s f (run.Stopped word (By refusal)) t told = subst (λ (x : Turned). StaysIn s x) (sym told) (stays_after s f (Some word) (Err refusal))
stays s f (run.Stopped word Held) t told = subst (λ (x : Turned). StaysIn s x) (sym told) tt

-- ---- each message was published

pub went_published : {P W : Type 0} (steps : Steps P) (draws : Draws W) (now conn : ℕ) (s : Stage) (room : ℕ) (fs : List Frame) (at : Spot P W) (count gone : ℕ) (left : List Message)
    (p' : P) (w' : W) (before : List ℕ) (new : List Frame) → LeadsOn steps draws now conn s room fs at [] fs count run.Published left p' w' → gone + length left ≡ count → new ≡ drop gone fs →
    Went steps draws now conn fs at (turn.Goes s) before before new p' w'
went_published steps draws now conn s room fs at count gone left p' w' before new (n, sum, (done, none)) all is =
    let same : n ≡ gone = omega (arith, sum, all) in
    ([], sym (append-nil before), subst (λ (x : List Frame). Completes steps draws now conn fs at [] x (spot p' w' s None)) (ap (λ (k : ℕ). drop k fs) same ∙ sym is) done)

frames_ahead : (s : Stage) (room : ℕ) (fs : List Frame) (ms : List Message) → IsAhead s room fs ms → 0 < length ms → 0 < length fs
unfolding IsAhead
frames_ahead s room [] [] h some = absurd (omega (arith, some))
frames_ahead s room [] (m ∷ ms) h some = absurd h
frames_ahead s room (f ∷ fs) ms h some = omega arith

pub none_behind : {P W : Type 0} (steps : Steps P) (draws : Draws W) (now conn : ℕ) (s : Stage) (room : ℕ) (fs : List Frame) (at : Spot P W) (count : ℕ) (left : List Message)
    (p' : P) (w' : W) → LeadsOn steps draws now conn s room fs at [] fs count run.Published left p' w' → left ≡ []
none_behind steps draws now conn s room fs at count left p' w' (n, sum, (done, none)) = none

pub nearer_published : (s : Stage) (room : ℕ) (fs : List Frame) (ms : List Message) (gone : ℕ) (left : List Message) (new : List Frame) → IsAhead s room fs ms → 0 < length ms →
    gone + length left ≡ length ms → left ≡ [] → new ≡ drop gone fs → length new < length fs
nearer_published s room fs ms gone left new ahead some all none is =
    let few : length left ≡ 0 = ap length none in
    let frames = frames_ahead s room fs ms ahead some in
    let length_is : length new ≡ length fs - gone = ap length is ∙ length-drop gone fs in
    omega (arith, few, frames, length_is, some, all)

-- ---- the last was told

abbrev pub Last : {P W : Type 0} → Steps P → Draws W → ℕ → ℕ → Stage → ℕ → List Frame → Spot P W → ℕ → RunEnd → List Message → P → W → Type 0
Last steps draws now conn s room fs at k end left p' w' = LastTurn steps draws now conn s room fs at [] fs k end left p' w'

pub last_answered : {P W : Type 0} (steps : Steps P) (draws : Draws W) (now conn : ℕ) (s : Stage) (room : ℕ) (fs : List Frame) (at : Spot P W) (count : ℕ) (entry : Entry) (left : List Message)
    (p' : P) (w' : W) (k : ℕ) → LeadsOn steps draws now conn s room fs at [] fs count (run.Answered entry) left p' w' → k ≡ count - length left - 1 →
    Last steps draws now conn s room fs at k (run.Answered entry) left p' w'
last_answered steps draws now conn s room fs at count entry left p' w' k (n, sum, (k', is, last)) e =
    subst (λ (x : ℕ). Last steps draws now conn s room fs at x (run.Answered entry) left p' w') (omega (arith, sum, is, e)) last

pub last_stopped : {P W : Type 0} (steps : Steps P) (draws : Draws W) (now conn : ℕ) (s : Stage) (room : ℕ) (fs : List Frame) (at : Spot P W) (count word : ℕ) (refusal : PublishRefusal) (left : List Message)
    (p' : P) (w' : W) (k : ℕ) → LeadsOn steps draws now conn s room fs at [] fs count (run.Stopped word refusal) left p' w' → k ≡ count - length left - 1 →
    Last steps draws now conn s room fs at k (run.Stopped word refusal) left p' w'
last_stopped steps draws now conn s room fs at count word refusal left p' w' k (n, sum, (k', is, last)) e =
    subst (λ (x : ℕ). Last steps draws now conn s room fs at x (run.Stopped word refusal) left p' w') (omega (arith, sum, is, e)) last

pub room_last : {P W : Type 0} (steps : Steps P) (draws : Draws W) (now conn : ℕ) (s : Stage) (room : ℕ) (fs : List Frame) (at : Spot P W) (k : ℕ) (end : RunEnd) (left : List Message)
    (p' : P) (w' : W) (len capacity : ℕ) → Last steps draws now conn s room fs at k end left p' w' → len + room ≤ capacity → HasRoomFirst len capacity (drop k fs)
room_last steps draws now conn s room fs at k end left p' w' len capacity last enough =
    subst (λ (x : List Frame). HasRoomFirst len capacity x) (sym last.is) (omega (arith, last.fits, enough))

-- what was told of the first frame that was left
told_last : {P W : Type 0} (steps : Steps P) (draws : Draws W) (now conn : ℕ) (s : Stage) (room : ℕ) (fs : List Frame) (at : Spot P W) (k : ℕ) (end : RunEnd) (left : List Message)
    (p' : P) (w' : W) (r : FrameTurn) (before after : List ℕ) (new : List Frame) (last : Last steps draws now conn s room fs at k end left p' w') →
    IsToldFirst s end r before after (drop k fs) new → IsFrameTurned (λ t. IsLastTold s last.f end t) r before after × (new ≡ left_after r (last.f ∷ last.rest))
told_last steps draws now conn s room fs at k end left p' w' r before after new last told =
    subst (λ (x : List Frame). IsToldFirst s end r before after x new) last.is told

went_by : {P W : Type 0} (steps : Steps P) (draws : Draws W) (now conn : ℕ) (s : Stage) (all : List Frame) (at : Spot P W) (f : Frame) (rest : List Frame) (p : P) (w : W)
    (p' : P) (w' : W) (r : FrameTurn) (before after : List ℕ) (new : List Frame) → at.stage ≡ s → is_closed s ≡ false → Completes steps draws now conn all at [] (f ∷ rest) (spot p w s None) →
    IsFrameTurned (λ t. IsFrameTurn steps draws now conn s None f p w t p' w') r before after → new ≡ left_after r (f ∷ rest) → Went steps draws now conn all at r before after new p' w'
went_by steps draws now conn s all at f rest p w p' w' (turn.Goes s') before after new here still done (told, goes, written) is = (
  told,
  written,
  subst (λ (x : List Frame). Completes steps draws now conn all at told x (spot p' w' s' None)) (sym is)
      (completes_goes steps draws now conn all at [] (spot p w s None) (f ∷ rest) f rest (told_text told s') p' w' refl done still goes),
)
went_by steps draws now conn s all at f rest p w p' w' (turn.Stalls stall word) before after new here still done (stalls, same) is = (
  [],
  same ∙ sym (append-nil before),
  subst (λ (x : List Frame). Serves steps draws now conn all at (served [] x (Some stall) (spot p' w' at.stage word))) (sym is)
      (subst (λ (x : Stage). Serves steps draws now conn all at (served [] (f ∷ rest) (Some stall) (spot p' w' x word))) (sym here)
      (completes_stalls steps draws now conn all at [] (spot p w s None) (f ∷ rest) f rest stall word p' w' refl done still stalls)),
)

pub went_last : {P W : Type 0} (steps : Steps P) (draws : Draws W) (now conn : ℕ) (s : Stage) (room : ℕ) (fs : List Frame) (at : Spot P W) (k : ℕ) (end : RunEnd) (left : List Message)
    (p' : P) (w' : W) (r : FrameTurn) (before after : List ℕ) (new : List Frame) → at.stage ≡ s → is_closed s ≡ false → Last steps draws now conn s room fs at k end left p' w' →
    IsToldFirst s end r before after (drop k fs) new → Went steps draws now conn fs at r before after new p' w'
went_last steps draws now conn s room fs at k end left p' w' r before after new here still last told =
    let so = told_last steps draws now conn s room fs at k end left p' w' r before after new last told in
    let turned = turned_so (λ (t : Turned). IsLastTold s last.f end t) (λ (t : Turned). IsFrameTurn steps draws now conn s None last.f last.p last.w t p' w') r before after last.turn so.0 in
    went_by steps draws now conn s fs at last.f last.rest last.p last.w p' w' r before after new here still last.done turned so.1

nearer_by : (r : FrameTurn) (k : ℕ) (fs : List Frame) (f : Frame) (rest new : List Frame) → drop k fs ≡ f ∷ rest → new ≡ left_after r (f ∷ rest) → IsNearer r fs new
nearer_by (turn.Goes s) k fs f rest new at is =
    let behind : length fs - k ≡ length (f ∷ rest) = sym (length-drop k fs) ∙ ap length at in
    let here : length new ≡ length rest = ap length is in
    omega (arith, behind, here)
nearer_by (turn.Stalls stall word) k fs f rest new at is = tt

pub nearer_last : {P W : Type 0} (steps : Steps P) (draws : Draws W) (now conn : ℕ) (s : Stage) (room : ℕ) (fs : List Frame) (at : Spot P W) (k : ℕ) (end : RunEnd) (left : List Message)
    (p' : P) (w' : W) (r : FrameTurn) (before after : List ℕ) (new : List Frame) (last : Last steps draws now conn s room fs at k end left p' w') →
    IsToldFirst s end r before after (drop k fs) new → IsNearer r fs new
nearer_last steps draws now conn s room fs at k end left p' w' r before after new last told =
    nearer_by r k fs last.f last.rest new last.is (told_last steps draws now conn s room fs at k end left p' w' r before after new last told).1

ahead_by : (s : Stage) (room : ℕ) (f : Frame) (rest : List Frame) (end : RunEnd) (left : List Message) (r : FrameTurn) (before after : List ℕ) (new : List Frame) → IsAhead s room rest left →
    IsFrameTurned (λ t. IsLastTold s f end t) r before after → new ≡ left_after r (f ∷ rest) → IsAheadAfter r room new left
ahead_by s room f rest end left (turn.Goes s') before after new ahead (told, goes, written) is = λ still.
    let same : s' ≡ s = stays s f end (Goes (told_text told s')) goes still in
    subst (λ (x : List Frame). IsAhead s' room x left) (sym is) (subst (λ (x : Stage). IsAhead x room rest left) (sym same) ahead)
ahead_by s room f rest end left (turn.Stalls stall word) before after new ahead told is = tt

pub ahead_last : {P W : Type 0} (steps : Steps P) (draws : Draws W) (now conn : ℕ) (s : Stage) (room : ℕ) (fs : List Frame) (at : Spot P W) (k : ℕ) (end : RunEnd) (left : List Message)
    (p' : P) (w' : W) (r : FrameTurn) (before after : List ℕ) (new : List Frame) (last : Last steps draws now conn s room fs at k end left p' w') →
    IsToldFirst s end r before after (drop k fs) new → IsAheadAfter r room new left
ahead_last steps draws now conn s room fs at k end left p' w' r before after new last told =
    let so = told_last steps draws now conn s room fs at k end left p' w' r before after new last told in
    ahead_by s room last.f last.rest end left r before after new last.ahead so.0 so.1

-- behind one turn alone none is ahead
pub nothing_after : (r : FrameTurn) (room : ℕ) (fs : List Frame) (ms : List Message) → ms ≡ [] → IsAheadAfter r room fs ms
nothing_after (turn.Goes s) room fs ms none = λ still. none_ahead s room fs ms none
nothing_after (turn.Stalls stall word) room fs ms none = tt
