-- Where a call leads: INFO, and a drain.
use Rattle.std.proofs.Common.{rules, ◌≡◌, ◌∙◌, ◌∷◌, ◌++◌, [], ℕ, List, Bool, true, false, Option, Some, None, cond, ap, refl, sym, subst, inl, inr}
use Rattle.std.proofs.lemmas.List.{append-nil}
use Rattle.wire_write.specs.connect_opts.Info.{info_text}
use Rattle.wire_read.specs.declared.frame.Frame.{Frame}
use Rattle.wire_read.specs.Framing.{Reader, framing, frames_of}
use Rattle.wire_write.specs.Texts.{info_line}
use Rattle.hub.specs.History.{State}
use Rattle.session_plan.specs.declared.stage.Stage.{Stage}
use Rattle.session_conn.specs.declared.output.Output.{Output}
use Rattle.session_conn.specs.declared.output.Stall.{Stall}
use Rattle.session_plan.specs.Replies.{is_closed}
use Rattle.session_conn.specs.Turns.{Steps, Draws}
use Rattle.session_conn.specs.Drains.{Drain, Drains}
use Rattle.session_conn.specs.Calls.{Connection, Given, given, undrained, IsOpenedBy, IsDrain, IsDrainIf, IsDrainedAt}
use Rattle.script.specs.sessions.Happenings.{Happening, Opened}
use Rattle.script.specs.sessions.Accounts.{Call, Moment, IsDrawnBy, IsPortTo, taken_by, closes_by, IsPart, IsLeft}
use Rattle.script.proofs.sessions.Leading.{Place, Leads, leads_as, stepped-nil, or_false, idles, one_happening}
use Rattle.script.proofs.sessions.Serving.{IsStanding}
use Rattle.script.proofs.sessions.Draining.{IsDrainedTo, drained_open, drains_to}

-- ---- between two calls

abbrev pub place_of : Moment → List Frame → Option ℕ → Place
place_of m left spare = record { stage = m.at.stage; left = left; spare = spare; owed = m.at.owed; missed = m.at.missed; hub = m.hub }

pub record IsBetween (conn : ℕ) (c : Connection) (left : List Frame) (spare : Option ℕ) : Type 0 where
  pub same : c.conn ≡ conn
  pub standing : IsStanding conn c.stage c.frames c.word c.stall left spare

-- the frames so far are those of the bytes so far, and stay so
abbrev pub ReadsOn : Reader → List ℕ → List Frame → Reader → Type 0
ReadsOn r piece arrived r' = (fs : List Frame) (bytes : List ℕ) → framing fs r.rest r.failed ≡ frames_of bytes → framing (fs ++ arrived) r'.rest r'.failed ≡ frames_of (bytes ++ piece)

pub reads_none : (r : Reader) → ReadsOn r [] [] r
reads_none r fs bytes h = ap (λ (l : List Frame). framing l r.rest r.failed) (append-nil fs) ∙ h ∙ ap frames_of (sym (append-nil bytes))

-- where a call leads
pub record IsCallTo {W : Type 0} (draws : Draws W) (conn : ℕ) (call : Call W) (m : Moment) (left : List Frame) (spare : Option ℕ) (g : Given) (m' : Moment) : Type 0 where
  pub happened : List Happening
  pub arrived : List Frame
  pub left' : List Frame
  pub spare' : Option ℕ
  pub drawn : List ℕ
  pub leads : Leads conn (place_of m left spare) happened g.bytes arrived drawn (place_of m' left' spare')
  pub words : IsDrawnBy draws call drawn
  pub between : IsBetween conn m'.at left' spare'
  pub part : IsPart call happened
  pub closes : g.close ≡ closes_by call m'.at.stage
  pub reads : ReadsOn m.at.reader (taken_by call m.at g) arrived m'.at.reader

-- a call that does nothing
pub idle : {W : Type 0} (draws : Draws W) (conn : ℕ) (call : Call W) (m : Moment) (left : List Frame) (spare : Option ℕ) (g : Given) (m' : Moment) →
    IsBetween conn m.at left spare → g.bytes ≡ [] → g.close ≡ closes_by call m.at.stage → taken_by call m.at g ≡ [] → IsPart call [] → IsDrawnBy draws call [] → m'.at ≡ m.at → m'.hub ≡ m.hub →
    IsCallTo draws conn call m left spare g m'
idle draws conn call m left spare g m' between none closes untaken part undrawn at hub = record {
  happened = [];
  arrived = [];
  left' = left;
  spare' = spare;
  drawn = [];
  leads = leads_as refl none (λ i. place_of (record { at = at i; hub = hub i }) left spare) (idles (place_of m left spare));
  words = undrawn;
  between = subst (λ (c : Connection). IsBetween conn c left spare) (sym at) between;
  part = part;
  closes = closes ∙ ap (λ (c : Connection). closes_by call c.stage) (sym at);
  reads = subst (λ (l : List ℕ). ReadsOn m.at.reader l [] m'.at.reader) (sym untaken)
      (subst (λ (c : Connection). ReadsOn m.at.reader [] [] c.reader) (sym at) (reads_none m.at.reader));
}

-- ---- INFO

pub opens_to : {W : Type 0} (draws : Draws W) (conn : ℕ) (m : Moment) (left : List Frame) (spare : Option ℕ) (o : Output) (st : Option Stall) →
    IsBetween conn m.at left spare → IsOpenedBy st m.at.conn o → IsCallTo draws conn Call.Opens m left spare (given o) m
opens_to draws conn m left spare o None between h = record {
  happened = Opened ∷ [];
  arrived = [];
  left' = left;
  spare' = spare;
  drawn = [];
  words = refl;
  leads = leads_as refl (ap (λ (g : Given). g.bytes) h ∙ ap (λ (n : ℕ). info_line (info_text n)) between.same) refl
      (one_happening (place_of m left spare) Opened {s = m.at.stage} refl (search rules) refl (stepped-nil m.hub m.hub refl) (append-nil m.at.owed) (or_false m.at.missed));
  between = between;
  part = inr refl;
  closes = ap (λ (g : Given). g.close) h;
  reads = reads_none m.at.reader;
}
opens_to draws conn m left spare o (Some s) between h =
    idle draws conn Call.Opens m left spare (given o) m between (ap (λ (g : Given). g.bytes) h) (ap (λ (g : Given). g.close) h) refl (inl refl) refl refl refl

-- ---- a drain

-- frames wait as they are while the connection is open
pub as_kept : (b : Bool) (left : List Frame) (spare : Option ℕ) (frames : List Frame) (word : Option ℕ) → b ≡ false → IsLeft b left spare frames word → (frames ≡ left) × (word ≡ spare)
as_kept true left spare frames word still h = absurd (cc)
as_kept false left spare frames word still h = h

-- they wait as they did while it stays open, and are dropped once it has closed
stands_on : (conn : ℕ) (s s' : Stage) (frames : List Frame) (word : Option ℕ) (st : Option Stall) (left : List Frame) (spare : Option ℕ) (shut : Bool) →
    is_closed s' ≡ shut → (shut ≡ false → s' ≡ s) → IsStanding conn s frames word st left spare →
    IsStanding conn s' (cond shut [] frames) (cond shut None word) (cond shut None st) left spare
stands_on conn s s' frames word st left spare true closed same h = record {
  waits = subst (λ (b : Bool). IsLeft b left spare [] None) (sym closed) (refl, refl);
  first = refl;
  rests = λ _. refl;
  wordless = h.wordless;
}
stands_on conn s s' frames word st left spare false closed same h =
    subst (λ (x : Stage). IsStanding conn x frames word st left spare) (sym (same refl)) h

drain_to : {P W : Type 0} (steps : Steps P) (draws : Draws W) (hub_of : P → State) → IsPortTo steps hub_of →
    (conn now most : ℕ) (m : Moment) (left : List Frame) (spare : Option ℕ) (p : P) (o : Output) (p' : P) (m' : Moment) →
    IsBetween conn m.at left spare → hub_of p ≡ m.hub → m'.hub ≡ hub_of p' → is_closed m.at.stage ≡ false →
    IsDrain steps now most m.at p o m'.at p' →
    IsCallTo draws conn (Call.Drains now most) m left spare (given o) m'
drain_to steps draws hub_of port conn now most m left spare p o p' m' between before after still h =
    let c : Connection = m.at in
    let d : Drain = record { text = o.bytes.items; stage = m'.at.stage; stall = o.stall; owed = m'.at.owed; missed = m'.at.missed } in
    let to : IsDrainedTo conn now most (place_of m left spare) d (hub_of p') = drains_to steps hub_of port conn now most (place_of m left spare) p d p' still before
    (subst (λ (n : ℕ). Drains steps now n most c.stage c.owed c.missed p d p') between.same h.drains) in
    record {
      happened = to.happened;
      arrived = [];
      left' = left;
      spare' = spare;
      drawn = [];
      words = refl;
      leads = leads_as refl refl (λ i. place_of (record { at = m'.at; hub = after i }) left spare) to.leads;
      between = subst (λ (x : Connection). IsBetween conn x left spare) (sym h.same)
          (record {
            same = between.same;
            standing = stands_on conn c.stage m'.at.stage c.frames c.word c.stall left spare (is_closed m'.at.stage) refl
                (drained_open steps now c.conn most c.stage c.owed c.missed p d p' h.drains) between.standing;
          });
      part = to.of_drain;
      closes = h.close;
      reads = subst (ReadsOn c.reader [] []) (ap (λ (x : Connection). x.reader) (sym h.same)) (reads_none c.reader);
    }

drain_if : {P W : Type 0} (steps : Steps P) (draws : Draws W) (hub_of : P → State) → IsPortTo steps hub_of →
    (conn now most : ℕ) (m : Moment) (left : List Frame) (spare : Option ℕ) (p : P) (o : Output) (p' : P) (m' : Moment) (st : Option Stall) →
    IsBetween conn m.at left spare → hub_of p ≡ m.hub → m'.hub ≡ hub_of p' → is_closed m.at.stage ≡ false →
    IsDrainIf steps now most m.at p o m'.at p' st → IsCallTo draws conn (Call.Drains now most) m left spare (given o) m'
drain_if steps draws hub_of port conn now most m left spare p o p' m' None between before after still h =
    drain_to steps draws hub_of port conn now most m left spare p o p' m' between before after still h
drain_if steps draws hub_of port conn now most m left spare p o p' m' (Some s) between before after still h =
    idle draws conn (Call.Drains now most) m left spare (given o) m' between (ap (λ (g : Given). g.bytes) h.gives) (ap (λ (g : Given). g.close) h.gives ∙ sym still) refl tt refl h.conn (after ∙ ap hub_of h.port ∙ before)

pub drained_to : {P W : Type 0} (steps : Steps P) (draws : Draws W) (hub_of : P → State) → IsPortTo steps hub_of →
    (conn now most : ℕ) (m : Moment) (left : List Frame) (spare : Option ℕ) (p : P) (o : Output) (p' : P) (m' : Moment) (closed : Bool) →
    IsBetween conn m.at left spare → hub_of p ≡ m.hub → m'.hub ≡ hub_of p' → is_closed m.at.stage ≡ closed →
    IsDrainedAt steps now most m.at p o m'.at p' closed → IsCallTo draws conn (Call.Drains now most) m left spare (given o) m'
drained_to steps draws hub_of port conn now most m left spare p o p' m' true between before after closed h =
    idle draws conn (Call.Drains now most) m left spare (given o) m' between (ap (λ (g : Given). g.bytes) h.gives) (ap (λ (g : Given). g.close) h.gives ∙ sym closed) refl tt refl h.conn (after ∙ ap hub_of h.port ∙ before)
drained_to steps draws hub_of port conn now most m left spare p o p' m' false between before after closed h =
    drain_if steps draws hub_of port conn now most m left spare p o p' m' (undrained m.at.stall) between before after closed h
