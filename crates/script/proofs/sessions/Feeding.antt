-- Where the client's bytes lead.
use Rattle.std.proofs.Common.{◌≡◌, ◌∙◌, ◌∷◌, ◌++◌, [], ℕ, List, Bool, true, false, Option, ap, refl, sym, subst, inl, inr}
use Rattle.std.proofs.lemmas.List.{append-nil}
use Rattle.std.proofs.lemmas.Bool.{cond-true, cond-false}
use Rattle.wire_read.specs.declared.frame.Frame.{Frame}
use Rattle.wire_read.specs.Framing.{Reader, Framing, framing, followed, CutAnywhere}
use Rattle.hub.specs.History.{State}
use Rattle.session_plan.specs.declared.stage.Stage.{Stage}
use Rattle.session_conn.specs.declared.output.Output.{Output}
use Rattle.session_conn.specs.declared.output.Stall.{Stall}
use Rattle.session_plan.specs.Replies.{is_closed}
use Rattle.session_conn.specs.Turns.{Steps, Draws}
use Rattle.session_conn.specs.Serving.{Spot, spot, Served, served, Serves, frames_after, reader_after}
use Rattle.session_conn.specs.Calls.{Connection, Given, given, IsRead, IsServedAt}
use Rattle.script.specs.sessions.Happenings.{Happening}
use Rattle.script.specs.sessions.Accounts.{Call, Moment, IsPortTo, unless_refused}
use Rattle.script.proofs.sessions.Leading.{Place, Leads, leads_as, drawn-nil}
use Rattle.script.proofs.sessions.Serving.{HasFirst, no_word, IsStanding, IsServedTo, serves_to}
use Rattle.script.proofs.sessions.Calling.{place_of, IsBetween, ReadsOn, IsCallTo, idle, as_kept}

-- the frames that a piece completes, and what the reader keeps then
read_by : (rest : List ℕ) (failed : Bool) (piece : List ℕ) (fs : List Frame) →
    (let r : Reader = record { rest = rest; failed = failed } in
    framing (fs ++ frames_after r piece) (reader_after r piece).rest (reader_after r piece).failed ≡ followed (framing fs rest failed) piece)
read_by rest true piece fs = ap (λ (l : List Frame). framing l rest true) (append-nil fs)
read_by rest false piece fs = refl

reads_piece : CutAnywhere → (r : Reader) (piece : List ℕ) → ReadsOn r piece (frames_after r piece) (reader_after r piece)
reads_piece cut r piece fs bytes h = read_by r.rest r.failed piece fs ∙ ap (λ (f : Framing). followed f piece) h ∙ sym (cut bytes piece)

-- frames that arrived come behind those that had no turn
arrived_first : {conn : ℕ} (a : Place) (more : List Frame) {hs : List Happening} {text drawn : List ℕ} {b : Place} →
    Leads conn (record a { left = a.left ++ more }) hs text [] drawn b → Leads conn a hs text more drawn b
arrived_first a more l = record {
  came = l.came;
  comes_so = l.comes_so;
  order = l.order;
  text_so = l.text_so;
  stage_so = l.stage_so;
  hub = l.hub;
  words = l.words;
  frames = l.frames ∙ append-nil (a.left ++ more);
  owed = l.owed;
  missed = l.missed;
}

has_first : (conn : ℕ) (s : Stage) (word : Option ℕ) (fs more : List Frame) → HasFirst conn s word fs → HasFirst conn s word (fs ++ more)
has_first conn s word [] more h = subst (λ (o : Option ℕ). HasFirst conn s o more) (sym h) (no_word conn s more)
has_first conn s word (f ∷ fs) more h = h

-- the piece is read, and the frames have their turns
read_to : {P W : Type 0} (steps : Steps P) (draws : Draws W) (hub_of : P → State) → IsPortTo steps hub_of → CutAnywhere →
    (conn now : ℕ) (piece : List ℕ) (w w' : W) (m : Moment) (left : List Frame) (spare : Option ℕ) (p : P) (o : Output) (p' : P) (m' : Moment) →
    IsBetween conn m.at left spare → hub_of p ≡ m.hub → m'.hub ≡ hub_of p' → is_closed m.at.stage ≡ false →
    IsRead steps draws now piece m.at p w o m'.at p' w' →
    IsCallTo draws conn (Call.Bytes now piece w w') m left spare (given o) m'
read_to {P} {W} steps draws hub_of port cut conn now piece w w' m left spare p o p' m' between before after still h =
    let c : Connection = m.at in
    let more : List Frame = frames_after c.reader piece in
    let at : Spot P W = spot p w c.stage c.word in
    let r : Served P W = served o.bytes.items m'.at.frames o.stall (spot p' w' m'.at.stage m'.at.word) in
    let kept = as_kept (is_closed c.stage) left spare c.frames c.word still between.standing.waits in
    let to : IsServedTo draws hub_of conn now c.owed c.missed (c.frames ++ more) at r =
    serves_to steps draws hub_of port conn now c.owed c.missed (c.frames ++ more) at r (λ (closed : is_closed c.stage ≡ true). absurd (cc))
    (has_first conn c.stage c.word c.frames more between.standing.first)
    (subst (λ (n : ℕ). Serves steps draws now n (c.frames ++ more) at r) between.same h.turns) in
    record {
      happened = to.happened;
      arrived = more;
      left' = to.left;
      spare' = to.spare;
      drawn = to.drawn;
      words = to.words;
      leads = arrived_first (place_of m left spare) more
          (leads_as (λ i. record { stage = c.stage; left = sym kept.0 i ++ more; spare = sym kept.1 i; owed = c.owed; missed = c.missed; hub = sym before i }) refl
          (λ i. record { stage = m'.at.stage; left = to.left; spare = to.spare; owed = h.owed i; missed = h.missed i; hub = after i }) to.leads);
      between = record {
        same = h.conn ∙ between.same;
        standing = subst (λ (st : Option Stall). IsStanding conn m'.at.stage m'.at.frames m'.at.word st to.left to.spare) (sym h.stall) to.standing;
      };
      part = to.framed;
      closes = h.close;
      reads = subst (λ (l : List ℕ). ReadsOn c.reader l more m'.at.reader) (sym (cond-false (is_closed c.stage) [] (unless_refused o.stall piece) still ∙ to.takes piece))
          (subst (ReadsOn c.reader piece more) (sym h.reader) (reads_piece cut c.reader piece));
    }

pub fed_to : {P W : Type 0} (steps : Steps P) (draws : Draws W) (hub_of : P → State) → IsPortTo steps hub_of → CutAnywhere →
    (conn now : ℕ) (piece : List ℕ) (w w' : W) (m : Moment) (left : List Frame) (spare : Option ℕ) (p : P) (o : Output) (p' : P) (m' : Moment) (closed : Bool) →
    IsBetween conn m.at left spare → hub_of p ≡ m.hub → m'.hub ≡ hub_of p' → is_closed m.at.stage ≡ closed →
    IsServedAt steps draws now piece m.at p w o m'.at p' w' closed →
    IsCallTo draws conn (Call.Bytes now piece w w') m left spare (given o) m'
fed_to steps draws hub_of port cut conn now piece w w' m left spare p o p' m' true between before after closed h =
    idle draws conn (Call.Bytes now piece w w') m left spare (given o) m' between (ap (λ (g : Given). g.bytes) h.0.gives) (ap (λ (g : Given). g.close) h.0.gives ∙ sym closed)
    (cond-true (is_closed m.at.stage) [] (unless_refused o.stall piece) closed) tt (drawn-nil draws w w' h.1) h.0.conn (after ∙ ap hub_of h.0.port ∙ before)
fed_to steps draws hub_of port cut conn now piece w w' m left spare p o p' m' false between before after closed (inl h) =
    idle draws conn (Call.Bytes now piece w w') m left spare (given o) m' between (ap (λ (g : Given). g.bytes) h.0.gives) (ap (λ (g : Given). g.close) h.0.gives ∙ sym closed)
    (cond-false (is_closed m.at.stage) [] (unless_refused o.stall piece) closed ∙ ap (λ (g : Given). unless_refused g.stall piece) h.0.gives)
    tt (drawn-nil draws w w' h.1) h.0.conn (after ∙ ap hub_of h.0.port ∙ before)
fed_to steps draws hub_of port cut conn now piece w w' m left spare p o p' m' false between before after closed (inr h) =
    read_to steps draws hub_of port cut conn now piece w w' m left spare p o p' m' between before after closed h
