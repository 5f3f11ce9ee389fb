-- The calls of a connection over a script's server, where memory is enough.
use Rattle.std.proofs.Common.{◌≡◌, ◌∙◌, ◌++◌, [], ℕ, List, Bool, true, false, Option, Some, None, Result, Ok, Err, inl, inr, cond, ap, sym, refl}
use Rattle.wire_read.specs.Framing.{Reader}
use Rattle.hub.specs.History.{State, IsStep}
use Rattle.events.specs.declared.event.Command.TheVariants as command
use Rattle.events.specs.declared.answer.Delivery.{Delivery}
use Rattle.events.specs.declared.answer.Outcome.{Outcome}
use Rattle.events.specs.declared.answer.Outcome.TheVariants as outcome
use Rattle.events.specs.declared.refusal.HubRefusal.{HubRefusal}
use Rattle.events.specs.declared.refusal.HubRefusal.TheVariants as refusal
use Rattle.wire_write.specs.Errors.{err_line}
use Rattle.wire_write.specs.declared.error.ServerError.TheVariants as error
use Rattle.session_conn.specs.declared.output.Output.{Output}
use Rattle.session_conn.specs.declared.output.Stall.{Stall}
use Rattle.session_plan.specs.declared.stage.Stage.{Stage}
use Rattle.session_plan.specs.declared.stage.Stage.TheVariants as stage
use Rattle.script.specs.declared.sessions.direct.Direct.{Direct}
use Rattle.session_conn.specs.declared.drain.Written.{Written}
use Rattle.session_conn.specs.declared.drain.Written.TheVariants.{All, Closes, Short}
use Rattle.session_conn.specs.Calls.{Connection, IsNothing, IsRead, IsServedAt, IsServed, IsDrain, IsDrainIf, IsDrainedAt, IsDrained, IsQuiet, IsClosing, IsEnded, Given, nothing, stage_closed, stall_closed, undrained, unless_closed}
use Rattle.session_conn.specs.Drains.{Drain, Drains, drain_owing_nothing, texts, IsTold, IsTakeTold, stage_after, stall_after}
use Rattle.session_plan.specs.Replies.{is_closed, closed_from, takes_headers}
use Rattle.session_conn.specs.Serving.{Served, spot, served, frames_after, reader_after}
use Rattle.session_conn.specs.Turns.{Steps, port_of, event}
use Rattle.script.specs.Server.{Serving, heard, IsNextWord}
use Rattle.script.specs.Session.{Here, Closing, turns, after_turns, unchanged, bytes_call, delivered, take_answered, drain_of, after_drain, drain_if, drain_call, closed_by, closing, end_call, is_memory_stall, IsCall}
use Rattle.script.proofs.Answering.{is_memory_answer, answered_is}
use Rattle.script.proofs.Turning.{IsOpenPort, turns_are}

-- a hub that is lent steps as a hub does, and holds nothing back
abbrev pub direct_steps : Steps Direct
direct_steps = port_of (λ old e r new. IsStep old.hub.now e r new.hub.now) (λ old e r new. IsStep old.hub.now e r new.hub.now) (λ _ _. ⊥)

abbrev pub hub_of : Direct → State
hub_of p = p.hub.now

pub direct_open : IsOpenPort direct_steps hub_of
direct_open = record { step = λ p e r p' h. h; post = λ p e r p' h. h; never = λ p p' h. h }

-- ---- a call that does nothing

nothing_is : {P : Type 0} (hub_of : P → State) (w : Serving) (c : Connection) (p : P) (o : Output) (c' : Connection) (p' : P) (words : List ℕ) (close : Bool) (stall : Option Stall) →
    IsNothing (nothing close stall) c p o c' p' → hub_of p ≡ w.hub → words ≡ w.words →
    IsCall (unchanged w c stall) o c' (record w { hub = hub_of p'; words = words })
nothing_is hub_of w c p o c' p' words close stall h at same = record {
  text = ap (λ (g : Given). g.bytes) h.gives;
  stall = ap (λ (g : Given). g.stall) h.gives;
  conn_is = h.conn;
  server_is = ap (λ (x : State). record w { hub = x; words = words }) (ap hub_of h.port ∙ at) ∙ ap (λ (x : List ℕ). record w { words = x }) same;
}

-- ---- bytes

-- the connection after its turns
read_conn : (c c' : Connection) (reader : Reader) (o : Option Stall) (text : List ℕ) (at : Here) (r : Served State (List ℕ)) →
    c'.reader ≡ reader → c'.stall ≡ o → c'.conn ≡ c.conn → c'.owed ≡ c.owed → c'.missed ≡ c.missed →
    served text c'.frames o (spot at.port at.words c'.stage c'.word) ≡ r →
    c' ≡ record c { reader = reader; stage = r.at.stage; frames = r.frames; word = r.at.word; stall = r.stall }
read_conn c c' reader o text at r is_reader is_stall is_conn is_owed is_missed is =
    ap (λ (x : Reader). record c' { reader = x }) is_reader
    ∙ ap (λ (x : Option Stall). record c' { reader = reader; stall = x }) is_stall
    ∙ ap (λ (x : ℕ). record c' { reader = reader; stall = o; conn = x }) is_conn
    ∙ ap (λ (x : List Delivery). record c' { reader = reader; stall = o; conn = c.conn; owed = x }) is_owed
    ∙ ap (λ (x : Bool). record c' { reader = reader; stall = o; conn = c.conn; owed = c.owed; missed = x }) is_missed
    ∙ ap (λ (x : Served State (List ℕ)). record c { reader = reader; stage = x.at.stage; frames = x.frames; word = x.at.word; stall = x.stall }) is

-- the piece is read
read_is : {P : Type 0} (steps : Steps P) (hub_of : P → State) → IsOpenPort steps hub_of → (w : Serving) (piece : List ℕ) (c : Connection) (p : P) (o : Output) (c' : Connection) (p' : P) (words : List ℕ) →
    IsRead steps IsNextWord w.moment piece c p w.words o c' p' words → is_memory_stall o.stall ≡ false → hub_of p ≡ w.hub →
    IsCall (after_turns w c piece (turns w.moment c.conn (c.frames ++ frames_after c.reader piece) (spot w.hub w.words c.stage c.word))) o c' (record w { hub = hub_of p'; words = words })
read_is steps hub_of over w piece c p o c' p' words h enough at =
    let fs = c.frames ++ frames_after c.reader piece in
    let r = turns w.moment c.conn fs (spot w.hub w.words c.stage c.word) in
    let is : served o.bytes.items c'.frames o.stall (spot (hub_of p') words c'.stage c'.word) ≡ r =
    turns_are steps hub_of over w.moment c.conn fs (spot p w.words c.stage c.word) (served o.bytes.items c'.frames o.stall (spot p' words c'.stage c'.word)) h.turns enough
    ∙ ap (λ (x : State). turns w.moment c.conn fs (spot x w.words c.stage c.word)) at in
    record {
      text = ap (λ (x : Served State (List ℕ)). x.text) is;
      stall = ap (λ (x : Served State (List ℕ)). x.stall) is;
      conn_is = read_conn c c' (reader_after c.reader piece) o.stall o.bytes.items (spot (hub_of p') words c'.stage c'.word) r h.reader h.stall h.conn h.owed h.missed is;
      server_is = ap (λ (x : Served State (List ℕ)). record w { hub = x.at.port; words = x.at.words }) is;
    }

-- the client's bytes, and whether the connection has closed
bytes_at : {P : Type 0} (steps : Steps P) (hub_of : P → State) → IsOpenPort steps hub_of → (w : Serving) (piece : List ℕ) (c : Connection) (p : P) (o : Output) (c' : Connection) (p' : P) (words : List ℕ) (closed : Bool) →
    IsServedAt steps IsNextWord w.moment piece c p w.words o c' p' words closed → is_memory_stall o.stall ≡ false → hub_of p ≡ w.hub →
    IsCall (cond closed (unchanged w c None) (after_turns w c piece (turns w.moment c.conn (c.frames ++ frames_after c.reader piece) (spot w.hub w.words c.stage c.word)))) o c' (record w { hub = hub_of p'; words = words })
bytes_at steps hub_of over w piece c p o c' p' words true h enough at = nothing_is hub_of w c p o c' p' words true None h.0 at h.1
bytes_at steps hub_of over w piece c p o c' p' words false (inl h) enough at =
    let lacked : is_memory_stall o.stall ≡ true = ap (λ (g : Given). is_memory_stall g.stall) h.0.gives in absurd (cc)
bytes_at steps hub_of over w piece c p o c' p' words false (inr h) enough at = read_is steps hub_of over w piece c p o c' p' words h enough at

pub bytes_is : {P : Type 0} (steps : Steps P) (hub_of : P → State) → IsOpenPort steps hub_of → (w : Serving) (piece : List ℕ) (c : Connection) (p : P) (o : Output) (c' : Connection) (p' : P) (words : List ℕ) →
    IsServed steps IsNextWord w.moment piece c p w.words o c' p' words → is_memory_stall o.stall ≡ false → hub_of p ≡ w.hub →
    IsCall (bytes_call w c piece) o c' (record w { hub = hub_of p'; words = words })
unfolding bytes_call
bytes_is steps hub_of over w piece c p o c' p' words h enough at = bytes_at steps hub_of over w piece c p o c' p' words (is_closed c.stage) h enough at

-- ---- drains

-- what a drain left
drain_is : (d : Drain) (text : List ℕ) (s : Stage) (o : Option Stall) (missed : Bool) → d.text ≡ text → d.stage ≡ s → d.stall ≡ o → d.owed ≡ [] → d.missed ≡ missed →
    d ≡ drain_owing_nothing text s o missed
drain_is d text s o missed is_text is_stage is_stall is_owed is_missed =
    ap (λ (x : List ℕ). record d { text = x }) is_text
    ∙ ap (λ (x : Stage). record d { text = text; stage = x }) is_stage
    ∙ ap (λ (x : Option Stall). record d { text = text; stage = s; stall = x }) is_stall
    ∙ ap (λ (x : List Delivery). record d { text = text; stage = s; stall = o; owed = x }) is_owed
    ∙ ap (λ (x : Bool). drain_owing_nothing text s o x) is_missed

-- what was taken is written
written_is : (s : Stage) (before : List ℕ) (all : List Delivery) (missed : Bool) (written : Written) (d : Drain) →
    IsTold (takes_headers s) before all missed written d.text d.owed d.missed → d.stage ≡ stage_after s written → d.stall ≡ stall_after written → is_memory_stall d.stall ≡ false →
    d ≡ delivered s before all missed
written_is s before all missed All d told is_stage is_stall enough =
    let text = before ++ texts (takes_headers s) all in
    drain_is d text s None false told.0 is_stage is_stall told.1 told.3
    ∙ ap (λ (b : Bool). cond b (drain_owing_nothing (text ++ err_line error.SlowConsumer) (closed_from s) None false) (drain_owing_nothing text s None false)) (sym told.2)
written_is s before all missed Closes d told is_stage is_stall enough =
    let text = before ++ texts (takes_headers s) all in
    drain_is d (text ++ err_line error.SlowConsumer) (closed_from s) None false told.0 is_stage is_stall told.1 told.3
    ∙ ap (λ (b : Bool). cond b (drain_owing_nothing (text ++ err_line error.SlowConsumer) (closed_from s) None false) (drain_owing_nothing text s None false)) (sym told.2)
written_is s before all missed Short d told is_stage is_stall enough = let lacked : is_memory_stall d.stall ≡ true = ap is_memory_stall is_stall in absurd (cc)

-- memory did not lack for a Take whose drain did not stall for it
take_had : (s : Stage) (before : List ℕ) (r : Result Outcome HubRefusal) (d : Drain) → IsTakeTold s before false r d → is_memory_stall d.stall ≡ false → is_memory_answer r ≡ false
take_had s before (Ok o) d h enough = refl
take_had s before (Err refusal.NoMemory) d h enough = sym (ap (λ (x : Drain). is_memory_stall x.stall) h) ∙ enough
take_had s before (Err refusal.HistoryFull) d h enough = refl
take_had s before (Err refusal.NoSession) d h enough = refl
take_had s before (Err refusal.SessionTaken) d h enough = refl
take_had s before (Err refusal.SessionLimit) d h enough = refl

-- what a Take's answer comes to
take_is : (s : Stage) (before : List ℕ) (r : Result Outcome HubRefusal) (d : Drain) → IsTakeTold s before false r d → is_memory_stall d.stall ≡ false → d ≡ take_answered s before r
take_is s before (Ok (outcome.Taken deliveries missed)) d h enough = written_is s before deliveries missed h.0 d h.1 h.2 h.3 enough
take_is s before (Err refusal.NoSession) d h enough = h
take_is s before (Err refusal.HistoryFull) d h enough = h
take_is s before (Err refusal.NoMemory) d h enough = h
take_is s before (Err refusal.SessionTaken) d h enough = h
take_is s before (Err refusal.SessionLimit) d h enough = h
take_is s before (Ok outcome.Connected) d h enough = h
take_is s before (Ok outcome.AuthViolation) d h enough = h
take_is s before (Ok outcome.Subscribed) d h enough = h
take_is s before (Ok outcome.SameSid) d h enough = h
take_is s before (Ok outcome.SubLimit) d h enough = h
take_is s before (Ok (outcome.Denied _)) d h enough = h
take_is s before (Ok outcome.Unsubscribed) d h enough = h
take_is s before (Ok (outcome.Published _ _)) d h enough = h
take_is s before (Ok outcome.Closed) d h enough = h
take_is s before (Ok (outcome.Reloaded _ _)) d h enough = h

-- a drain of an open connection whose frames have had their turns
drains_are : {P : Type 0} (steps : Steps P) (hub_of : P → State) → IsOpenPort steps hub_of → (w : Serving) (most : ℕ) (c : Connection) (p : P) (d : Drain) (p' : P) →
    Drains steps w.moment c.conn most c.stage c.owed c.missed p d p' → is_memory_stall d.stall ≡ false → hub_of p ≡ w.hub →
    (d, hub_of p') ≡ drain_of w c most
drains_are steps hub_of over w most c p d p' (inl h) enough at = let lacked : is_memory_stall d.stall ≡ true = ap is_memory_stall h.stall in absurd (cc)
drains_are steps hub_of over w most c p d p' (inr (inl h)) enough at =
    let told : d ≡ delivered c.stage [] c.owed c.missed = written_is c.stage [] c.owed c.missed Closes d h.told h.stage h.stall enough in
    let missed : c.missed ≡ true = h.told.2 in
    let a : Result Outcome HubRefusal × State = heard w.hub (event w.moment (command.Take c.conn most)) in
    let after : Drain × State = (take_answered c.stage (texts (takes_headers c.stage) c.owed) a.0, a.1) in
    ap (λ (x : Drain). (x, hub_of p')) (told ∙ ap (delivered c.stage [] c.owed) missed)
    ∙ ap (λ (x : State). (delivered c.stage [] c.owed true, x)) (ap hub_of h.port ∙ at)
    ∙ ap (λ (b : Bool). cond b (delivered c.stage [] c.owed true, w.hub) after) (sym missed)
drains_are steps hub_of over w most c p d p' (inr (inr (missed, inl h))) enough at = let lacked : is_memory_stall d.stall ≡ true = ap (λ (x : Drain). is_memory_stall x.stall) h.drain in absurd (cc)
drains_are steps hub_of over w most c p d p' (inr (inr (missed, inr h))) enough at =
    let before = texts (takes_headers c.stage) c.owed in
    let e = event w.moment (command.Take c.conn most) in
    let had : is_memory_answer h.0 ≡ false = take_had c.stage before h.0 d h.2 enough in
    let answer : (h.0, hub_of p') ≡ heard w.hub e =
    answered_is (hub_of p) e h.1.0 h.0 (hub_of p') (over.step p e h.1.0 p' h.1.1) h.1.2 had ∙ ap (λ (x : State). heard x e) at in
    let a : Result Outcome HubRefusal × State = heard w.hub e in
    let after : Drain × State = (take_answered c.stage before a.0, a.1) in
    ap (λ (x : Drain). (x, hub_of p')) (take_is c.stage before h.0 d h.2 enough)
    ∙ ap (λ (x : Result Outcome HubRefusal × State). (take_answered c.stage before x.0, x.1)) answer
    ∙ ap (λ (b : Bool). cond b (delivered c.stage [] c.owed true, w.hub) after) (sym missed)

drain_made : {P : Type 0} (steps : Steps P) (hub_of : P → State) → IsOpenPort steps hub_of → (w : Serving) (most : ℕ) (c : Connection) (p : P) (o : Output) (c' : Connection) (p' : P) →
    IsDrain steps w.moment most c p o c' p' → is_memory_stall o.stall ≡ false → hub_of p ≡ w.hub →
    IsCall (after_drain w c (drain_of w c most)) o c' (record w { hub = hub_of p' })
drain_made steps hub_of over w most c p o c' p' h enough at =
    let d : Drain = record { text = o.bytes.items; stage = c'.stage; stall = o.stall; owed = c'.owed; missed = c'.missed } in
    let is : (d, hub_of p') ≡ drain_of w c most = drains_are steps hub_of over w most c p d p' h.drains enough at in
    record {
      text = ap (λ (x : Drain × State). x.0.text) is;
      stall = ap (λ (x : Drain × State). x.0.stall) is;
      conn_is = h.same ∙ ap (λ (x : Drain × State). unless_closed (is_closed x.0.stage) (record c { stage = x.0.stage; owed = x.0.owed; missed = x.0.missed })) is;
      server_is = ap (λ (x : Drain × State). record w { hub = x.1 }) is;
    }

drain_if_is : {P : Type 0} (steps : Steps P) (hub_of : P → State) → IsOpenPort steps hub_of → (w : Serving) (most : ℕ) (c : Connection) (p : P) (o : Output) (c' : Connection) (p' : P) (stall : Option Stall) →
    IsDrainIf steps w.moment most c p o c' p' stall → is_memory_stall o.stall ≡ false → hub_of p ≡ w.hub →
    IsCall (drain_if w c most stall) o c' (record w { hub = hub_of p' })
drain_if_is steps hub_of over w most c p o c' p' (Some s) h enough at = nothing_is hub_of w c p o c' p' w.words false (Some s) h at refl
drain_if_is steps hub_of over w most c p o c' p' None h enough at = drain_made steps hub_of over w most c p o c' p' h enough at

drain_at : {P : Type 0} (steps : Steps P) (hub_of : P → State) → IsOpenPort steps hub_of → (w : Serving) (most : ℕ) (c : Connection) (p : P) (o : Output) (c' : Connection) (p' : P) (closed : Bool) →
    IsDrainedAt steps w.moment most c p o c' p' closed → is_memory_stall o.stall ≡ false → hub_of p ≡ w.hub →
    IsCall (cond closed (unchanged w c None) (drain_if w c most (undrained c.stall))) o c' (record w { hub = hub_of p' })
drain_at steps hub_of over w most c p o c' p' true h enough at = nothing_is hub_of w c p o c' p' w.words true None h at refl
drain_at steps hub_of over w most c p o c' p' false h enough at = drain_if_is steps hub_of over w most c p o c' p' (undrained c.stall) h enough at

pub drained_is : {P : Type 0} (steps : Steps P) (hub_of : P → State) → IsOpenPort steps hub_of → (w : Serving) (most : ℕ) (c : Connection) (p : P) (o : Output) (c' : Connection) (p' : P) →
    IsDrained steps w.moment most c p o c' p' → is_memory_stall o.stall ≡ false → hub_of p ≡ w.hub →
    IsCall (drain_call w c most) o c' (record w { hub = hub_of p' })
unfolding drain_call
drained_is steps hub_of over w most c p o c' p' h enough at = drain_at steps hub_of over w most c p o c' p' (is_closed c.stage) h enough at

-- ---- the end

-- memory did not lack for a Close that did not stall for it
close_had : (r : Result Outcome HubRefusal) → is_memory_stall (stall_closed r) ≡ is_memory_answer r
close_had (Ok o) = refl
close_had (Err refusal.NoMemory) = refl
close_had (Err refusal.HistoryFull) = refl
close_had (Err refusal.NoSession) = refl
close_had (Err refusal.SessionTaken) = refl
close_had (Err refusal.SessionLimit) = refl

abbrev ending : Stage → Option Stall → State → Closing
ending s stall hub = record { stage = s; stall = stall; hub = hub }

quiet_is : {P : Type 0} (hub_of : P → State) (w : Serving) (s : Stage) (p : P) (s' : Stage) (stall : Option Stall) (p' : P) → IsQuiet s p s' stall p' → hub_of p ≡ w.hub →
    ending s' stall (hub_of p') ≡ ending s None w.hub
quiet_is hub_of w s p s' stall p' h at =
    ap (λ (x : Stage). ending x stall (hub_of p')) h.stage ∙ ap (λ (x : Option Stall). ending s x (hub_of p')) h.stall_is ∙ ap (λ (x : State). ending s None x) (ap hub_of h.port ∙ at)

closing_is : {P : Type 0} (steps : Steps P) (hub_of : P → State) → IsOpenPort steps hub_of → (w : Serving) (conn : ℕ) (s : Stage) (p : P) (s' : Stage) (stall : Option Stall) (p' : P) →
    IsClosing steps w.moment conn s p s' stall p' → is_memory_stall stall ≡ false → hub_of p ≡ w.hub →
    ending s' stall (hub_of p') ≡ closing w conn s
closing_is steps hub_of over w conn (stage.Closed true) p s' stall p' h enough at =
    let e = event w.moment (command.Close conn) in
    let had : is_memory_answer h.0 ≡ false = sym (close_had h.0) ∙ sym (ap is_memory_stall h.3) ∙ enough in
    let answer : (h.0, hub_of p') ≡ heard w.hub e =
    answered_is (hub_of p) e h.1.0 h.0 (hub_of p') (over.step p e h.1.0 p' h.1.1) h.1.2 had ∙ ap (λ (x : State). heard x e) at in
    ap (λ (x : Stage). ending x stall (hub_of p')) h.2
    ∙ ap (λ (x : Option Stall). ending (stage_closed h.0) x (hub_of p')) h.3
    ∙ ap (λ (x : Result Outcome HubRefusal × State). closed_by x) answer
closing_is steps hub_of over w conn (stage.Closed false) p s' stall p' h enough at = quiet_is hub_of w (stage.Closed false) p s' stall p' h at
closing_is steps hub_of over w conn stage.Fresh p s' stall p' h enough at = quiet_is hub_of w stage.Fresh p s' stall p' h at
closing_is steps hub_of over w conn (stage.Connected verbose headers) p s' stall p' h enough at = quiet_is hub_of w (stage.Connected verbose headers) p s' stall p' h at

pub ended_is : {P : Type 0} (steps : Steps P) (hub_of : P → State) → IsOpenPort steps hub_of → (w : Serving) (c : Connection) (p : P) (o : Output) (c' : Connection) (p' : P) →
    IsEnded steps w.moment c p o c' p' → is_memory_stall o.stall ≡ false → hub_of p ≡ w.hub →
    IsCall (end_call w c) o c' (record w { hub = hub_of p' })
unfolding end_call
ended_is steps hub_of over w c p o c' p' h enough at =
    let is : ending c'.stage o.stall (hub_of p') ≡ closing w c.conn (closed_from c.stage) =
    closing_is steps hub_of over w c.conn (closed_from c.stage) p c'.stage o.stall p' h.closing enough at in
    record {
      text = h.bytes;
      stall = ap (λ (x : Closing). x.stall) is;
      conn_is = h.same ∙ ap (λ (x : Closing). record c { stage = x.stage; frames = []; word = None; stall = None }) is;
      server_is = ap (λ (x : Closing). record w { hub = x.hub }) is;
    }
