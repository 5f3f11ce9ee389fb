-- The Takes of a drain leave nothing that is pending.
use Rattle.std.proofs.Common.{◌≡◌, ◌∙◌, ◌≤◌, ◌+◌, ◌-◌, ◌*◌, ◌/◌, ◌==◌, ◌&&◌, ◌⊎◌, inl, inr, ℕ, zero, suc, Bool, true, false, cond, List, [], ◌∷◌, Option, Some, None, Result, Ok, Err, take, arith, ap, sym, refl, subst}
use Rattle.std.specs.Prelude.{is_some}
use Rattle.std.specs.Option.{option_map}
use Rattle.std.proofs.lemmas.List.{length-drop}
use Rattle.world.specs.World.{World, advanced}
use Rattle.world_sessions.specs.deliveries.Sessions.{session_of, with_session, drained}
use Rattle.world.specs.Transition.{transition, taken, in_session, numbered}
use Rattle.hub.specs.History.{State, is_history_full, remembered}
use Rattle.world.specs.Shown.{waiting_in, waiting_of}
use Rattle.world_sessions.specs.declared.deliveries.session.Session.{Session}
use Rattle.events.specs.declared.event.Command.TheVariants as command
use Rattle.events.specs.declared.answer.Outcome.{Outcome}
use Rattle.events.specs.declared.refusal.HubRefusal.{HubRefusal}
use Rattle.events.specs.declared.refusal.HubRefusal.TheVariants as refusal
use Rattle.session_conn.specs.declared.output.Stall.{Stall}
use Rattle.session_plan.specs.declared.stage.Stage.{Stage}
use Rattle.session_plan.specs.declared.stage.Stage.TheVariants as stage
use Rattle.session_conn.specs.Calls.{Connection, stage_closed, undrained}
use Rattle.session_conn.specs.Drains.{Drain, texts}
use Rattle.session_plan.specs.Replies.{is_closed, is_connected, closed_from, takes_headers}
use Rattle.session_conn.specs.Turns.{event}
use Rattle.script.specs.Server.{Serving, heard, by_step}
use Rattle.script.specs.Session.{Call, unchanged, delivered, take_answered, drain_of, drain_if, drain_call, closing, end_call}
use Rattle.script.specs.Play.{ClientEffect, goes_on, printed, printed_by, is_pending, pending_effect, takes, enough_takes, IsClientEffect}
use Rattle.script.specs.declared.client.Client.{Client}
use Rattle.script.proofs.Takes.{takes_none, takes_some}

-- ---- what a Take leaves

-- 64 fewer wait for a session that stood, and none was missed
abbrev IsFewer : Option (ℕ × Bool) → World → ℕ → Type 0
IsFewer None w conn = ⊥
IsFewer (Some waiting) w conn = waiting_of w conn ≡ Some (waiting.0 - 64, false)

-- the history is full, or the connection isn't connected any more, or fewer wait
abbrev Leaves : Option (ℕ × Bool) → Bool → Stage → World → ℕ → Type 0
Leaves o full s w conn = (full ≡ true) ⊎ ((is_connected s ≡ false) ⊎ IsFewer o w conn)

-- the session that a Take changed is found again
session_of-drained : (conn : ℕ) (zs : List Session) (z : Session) → session_of zs conn ≡ Some z →
    session_of (with_session (drained 64) conn zs) conn ≡ Some (drained 64 z)
session_of-drained conn [] z e = absurd (cc)
session_of-drained conn (x ∷ xs) z e = here (x.conn == conn) refl e (session_of-drained conn xs z)
  where
    here : (b : Bool) → (x.conn == conn) ≡ b → cond b (Some x) (session_of xs conn) ≡ Some z →
        (session_of xs conn ≡ Some z → session_of (with_session (drained 64) conn xs) conn ≡ Some (drained 64 z)) →
        session_of (cond b (drained 64 x ∷ xs) (x ∷ with_session (drained 64) conn xs)) conn ≡ Some (drained 64 z)
    here true is found later =
        let same : x ≡ z = cc in
        ap (λ (b : Bool). cond b (Some (drained 64 x)) (session_of xs conn)) is ∙ ap (λ (y : Session). Some (drained 64 y)) same
    here false is found later = ap (λ (b : Bool). cond b (Some x) (session_of (with_session (drained 64) conn xs) conn)) is ∙ later found

closed_from-gone : (s : Stage) → is_connected (closed_from s) ≡ false
closed_from-gone stage.Fresh = refl
closed_from-gone (stage.Connected verbose headers) = refl
closed_from-gone (stage.Closed session) = refl

-- ---- a Take's answer

abbrev DrainLeaves : Option (ℕ × Bool) → ℕ → Drain × State → Type 0
DrainLeaves o conn d = Leaves o (is_some d.0.stall) d.0.stage d.1.world conn

abbrev answered : Stage → List ℕ → Result Outcome HubRefusal × State → Drain × State
answered s before a = (take_answered s before a.0, a.1)

-- a session stands
taken_leaves : (s : Stage) (before : List ℕ) (zs : List Session) (after : World) (conn : ℕ) (z : Session) (missed : Bool) → session_of zs conn ≡ Some z →
    after.sessions ≡ with_session (drained 64) conn zs →
    (let d = delivered s before (take 64 z.outbox.waiting) missed in Leaves (Some (waiting_in z)) (is_some d.stall) d.stage after conn)
taken_leaves s before zs after conn z true stands changed = inr (inl (closed_from-gone s))
taken_leaves s before zs after conn z false stands changed =
    inr (inr (ap (λ (xs : List Session). option_map waiting_in (session_of xs conn)) changed
    ∙ ap (λ (o : Option Session). option_map waiting_in o) (session_of-drained conn zs z stands)
    ∙ ap (λ (n : ℕ). Some (n, false)) (length-drop 64 z.outbox.waiting)))

answer_leaves : (s : Stage) (before : List ℕ) (h : State) (now conn : ℕ) →
    DrainLeaves (waiting_of h.world conn) conn (answered s before (heard h (event now (command.Take conn 64))))
unfolding heard
answer_leaves s before h now conn = by_history (is_history_full h)
  where
    by_session : (o : Option Session) → session_of h.world.sessions conn ≡ o →
        DrainLeaves (option_map waiting_in o) conn (answered s before (by_step h (remembered h (event now (command.Take conn 64))
        (numbered (h.world.number + 1) (in_session o (taken (advanced h.world now) conn 64))))))
    by_session None stands = inr (inl refl)
    by_session (Some z) stands =
        taken_leaves s before h.world.sessions (record (advanced h.world now) { sessions = with_session (drained 64) conn h.world.sessions; number = h.world.number + 1 })
        conn z z.missed stands refl

    by_history : (b : Bool) → DrainLeaves (waiting_of h.world conn) conn (answered s before (by_step h
        (cond b (Err refusal.HistoryFull) (remembered h (event now (command.Take conn 64)) (transition h.world (event now (command.Take conn 64)))))))
    by_history true = inl refl
    by_history false = by_session (session_of h.world.sessions conn) refl

-- ---- a drain of 64

drain_leaves : (w : Serving) (c : Connection) → DrainLeaves (waiting_of w.hub.world c.conn) c.conn (drain_of w c 64)
drain_leaves w c = by_missed c.missed
  where
    by_missed : (b : Bool) → DrainLeaves (waiting_of w.hub.world c.conn) c.conn (cond b (delivered c.stage [] c.owed true, w.hub)
        (answered c.stage (texts (takes_headers c.stage) c.owed) (heard w.hub (event w.moment (command.Take c.conn 64)))))
    by_missed true = inr (inl (closed_from-gone c.stage))
    by_missed false = answer_leaves c.stage (texts (takes_headers c.stage) c.owed) w.hub w.moment c.conn

abbrev CallLeaves : Option (ℕ × Bool) → Call → Type 0
CallLeaves o c = Leaves o (is_some c.stall) c.conn.stage c.server.hub.world c.conn.conn

call_leaves : (w : Serving) (c : Connection) → is_connected c.stage ≡ true → CallLeaves (waiting_of w.hub.world c.conn) (drain_call w c 64)
unfolding drain_call
call_leaves w c stands = by_stage (is_closed c.stage) (not_closed c.stage stands)
  where
    not_closed : (s : Stage) → is_connected s ≡ true → is_closed s ≡ false
    not_closed stage.Fresh e = refl
    not_closed (stage.Connected verbose headers) e = refl
    not_closed (stage.Closed session) e = absurd (cc)

    by_stall : (s : Option Stall) → CallLeaves (waiting_of w.hub.world c.conn) (drain_if w c 64 s)
    by_stall None = drain_leaves w c
    by_stall (Some s) = inl refl

    by_stage : (b : Bool) → b ≡ false → CallLeaves (waiting_of w.hub.world c.conn) (cond b (unchanged w c None) (drain_if w c 64 (undrained c.stall)))
    by_stage true e = absurd (cc)
    by_stage false e = by_stall (undrained c.stall)

-- ---- what is printed of it

-- the end of a connection leaves it closed
end_closed : (w : Serving) (c : Connection) → is_connected (end_call w c).conn.stage ≡ false
unfolding end_call
end_closed w c = by_stage c.stage
  where
    by_answer : (a : Result Outcome HubRefusal) → is_connected (stage_closed a) ≡ false
    by_answer (Ok o) = refl
    by_answer (Err refusal.NoSession) = refl
    by_answer (Err refusal.HistoryFull) = refl
    by_answer (Err refusal.SessionTaken) = refl
    by_answer (Err refusal.SessionLimit) = refl
    by_answer (Err refusal.NoMemory) = refl

    by_stage : (s : Stage) → is_connected (closing w c.conn (closed_from s)).stage ≡ false
    by_stage stage.Fresh = refl
    by_stage (stage.Connected verbose headers) = by_answer (heard w.hub (event w.moment (command.Close c.conn))).0
    by_stage (stage.Closed true) = by_answer (heard w.hub (event w.moment (command.Close c.conn))).0
    by_stage (stage.Closed false) = refl

abbrev EffectLeaves : Option (ℕ × Bool) → ClientEffect → Type 0
EffectLeaves o t = Leaves o t.full t.client.conn.stage t.server.hub.world t.client.conn.conn

printed_leaves : (o : Option (ℕ × Bool)) (k : Client) (c : Call) → CallLeaves o c → EffectLeaves o (printed k c)
printed_leaves o k c left = by_call c.stall (is_closed c.conn.stage) left
  where
    by_call : (s : Option Stall) (closed : Bool) → Leaves o (is_some s) c.conn.stage c.server.hub.world c.conn.conn →
        EffectLeaves o (printed_by (record k { conn = c.conn }) c.server c.text s closed)
    by_call (Some s) closed left = inl refl
    by_call None true left = inr (inl (end_closed c.server c.conn))
    by_call None false left = left

some_is : {X : Type 0} (x y : X) → Some x ≡ Some y → x ≡ y
some_is x y e = cc

pending_leaves : (w : Serving) (k : Client) (t : ClientEffect) (o : Option (ℕ × Bool)) → waiting_of w.hub.world k.conn.conn ≡ o → pending_effect w k ≡ Some t → EffectLeaves o t
pending_leaves w k t o waits e =
    subst (λ (o : Option (ℕ × Bool)). EffectLeaves o t) waits (by_test (is_connected k.conn.stage) (is_pending (waiting_of w.hub.world k.conn.conn)) refl e)
  where
    by_test : (connected pending : Bool) → is_connected k.conn.stage ≡ connected →
        cond (connected && pending) (Some (printed k (drain_call w k.conn 64))) None ≡ Some t → EffectLeaves (waiting_of w.hub.world k.conn.conn) t
    by_test true true stands is =
        subst (λ (u : ClientEffect). EffectLeaves (waiting_of w.hub.world k.conn.conn) u) (some_is _ _ is)
        (printed_leaves _ k (drain_call w k.conn 64) (call_leaves w k.conn stands))
    by_test true false stands is = absurd (cc)
    by_test false pending stands is = absurd (cc)

-- ---- nothing is pending

-- after it, if the history isn't full
abbrev IsDone : ClientEffect → Type 0
IsDone t = t.full ≡ false → pending_effect t.server t.client ≡ None

gone_none : (w : Serving) (k : Client) → is_connected k.conn.stage ≡ false → pending_effect w k ≡ None
gone_none w k gone =
    ap (λ (b : Bool). cond (b && is_pending (waiting_of w.hub.world k.conn.conn)) (Some (printed k (drain_call w k.conn 64))) None) gone

empty_none : (w : Serving) (k : Client) → waiting_of w.hub.world k.conn.conn ≡ Some (0, false) → pending_effect w k ≡ None
empty_none w k empty =
    ap (λ (o : Option (ℕ × Bool)). cond (is_connected k.conn.stage && is_pending o) (Some (printed k (drain_call w k.conn 64))) None) empty
    ∙ neither (is_connected k.conn.stage) (printed k (drain_call w k.conn 64))
  where
    neither : (b : Bool) (t : ClientEffect) → cond (b && is_pending (Some (0, false))) (Some t) None ≡ None
    neither true t = refl
    neither false t = refl

done_none : (n : ℕ) (w : Serving) (k : Client) → pending_effect w k ≡ None → IsDone (takes n w k)
done_none n w k none = subst (λ (t : ClientEffect). IsDone t) (sym (takes_none n w k none)) (λ full. none)

-- one Take, and then the rest
goes_on-done : (t : ClientEffect) (more : Serving → Client → ClientEffect) (full : Bool) → t.full ≡ full → (t.full ≡ false → IsDone (more t.server t.client)) → IsDone (goes_on t full more)
goes_on-done t more true e rest = λ room. absurd (cc)
goes_on-done t more false e rest = rest e

done_one : (n : ℕ) (w : Serving) (k : Client) → ((t : ClientEffect) → pending_effect w k ≡ Some t → t.full ≡ false → IsDone (takes n t.server t.client)) →
    IsDone (takes (suc n) w k)
done_one n w k rest = by_turn (pending_effect w k) refl
  where
    by_turn : (o : Option ClientEffect) → pending_effect w k ≡ o → IsDone (takes (suc n) w k)
    by_turn None e = done_none (suc n) w k e
    by_turn (Some t) e =
        subst (λ (u : ClientEffect). IsDone u) (sym (takes_some n w k t e)) (goes_on-done t (λ v x. takes n v x) t.full refl (rest t e))

leaves-done : (n : ℕ) (o : Option (ℕ × Bool)) (t : ClientEffect) → EffectLeaves o t → t.full ≡ false →
    (IsFewer o t.server.hub.world t.client.conn.conn → IsDone (takes n t.server t.client)) → IsDone (takes n t.server t.client)
leaves-done n o t (inl full) room few = absurd (cc)
leaves-done n o t (inr (inl gone)) room few = done_none n t.server t.client (gone_none t.server t.client gone)
leaves-done n o t (inr (inr fewer)) room few = few fewer

-- so many Takes are enough for 64 times as many deliveries
takes_within : (n : ℕ) (w : Serving) (k : Client) (count : ℕ) → waiting_of w.hub.world k.conn.conn ≡ Some (count, false) → count ≤ 64 * n → IsDone (takes n w k)
takes_within zero w k count waits h =
    let none : count ≡ 0 = omega arith in
    done_none zero w k (empty_none w k (waits ∙ ap (λ (c : ℕ). Some (c, false)) none))
takes_within (suc n) w k count waits h =
    done_one n w k (λ t some room. leaves-done n (Some (count, false)) t (pending_leaves w k t (Some (count, false)) waits some) room
    (λ fewer. takes_within n t.server t.client (count - 64) fewer (omega arith)))

-- the first Take tells what was missed
enough_of : (w : Serving) (k : Client) (o : Option (ℕ × Bool)) → waiting_of w.hub.world k.conn.conn ≡ o → IsDone (takes (enough_takes o) w k)
enough_of w k None waits = done_one 0 w k (λ t some room. leaves-done 0 None t (pending_leaves w k t None waits some) room (λ fewer. absurd fewer))
enough_of w k (Some waiting) waits =
    let left : waiting.0 - 64 ≤ 64 * (waiting.0 / 64) = omega arith in
    let count : suc (waiting.0 / 64) ≡ waiting.0 / 64 + 1 = omega arith in
    subst (λ (n : ℕ). IsDone (takes n w k)) count
    (done_one (waiting.0 / 64) w k (λ t some room. leaves-done (waiting.0 / 64) (Some waiting) t (pending_leaves w k t (Some waiting) waits some) room
    (λ fewer. takes_within (waiting.0 / 64) t.server t.client (waiting.0 - 64) fewer left)))

-- enough Takes leave nothing that is pending, if the history isn't full
pub enough : (most : ℕ) (w w' : Serving) (k k' : Client) (before after : List ℕ) (full : Bool) →
    most ≡ enough_takes (waiting_of w.hub.world k.conn.conn) → IsClientEffect (takes most w k) before after k' w' full → full ≡ false → pending_effect w' k' ≡ None
enough most w w' k k' before after full count is room =
    let done : IsDone (takes most w k) = subst (λ (n : ℕ). IsDone (takes n w k)) (sym count) (enough_of w k (waiting_of w.hub.world k.conn.conn) refl) in
    ap (λ (v : Serving). pending_effect v k') is.server_is
    ∙ ap (λ (x : Client). pending_effect (takes most w k).server x) is.client_is
    ∙ done (sym is.full_is ∙ room)
