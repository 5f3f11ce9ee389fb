-- What happened in any calls accounts for them.
use Rattle.std.proofs.Common.{◌≡◌, ◌∙◌, ◌∷◌, ◌++◌, [], ℕ, List, false, Option, None, ap, refl, sym, subst}
use Rattle.std.specs.List.{flat_map}
use Rattle.std.specs.Option.{option_to_list}
use Rattle.std.proofs.lemmas.List.{append_assoc}
use Rattle.wire_read.specs.declared.frame.Frame.{Frame}
use Rattle.wire_read.specs.Framing.{framing, first_frames, frames_of, CutAnywhere}
use Rattle.hub.specs.History.{State}
use Rattle.session_plan.specs.declared.stage.Stage.{Stage}
use Rattle.session_plan.specs.declared.stage.Stage.TheVariants.{Fresh}
use Rattle.session_plan.specs.Replies.{is_closed}
use Rattle.session_conn.specs.Turns.{Steps, Draws}
use Rattle.session_conn.specs.Calls.{Given, given, new_connection}
use Rattle.script.specs.sessions.Happenings.{Happening, Came, comes}
use Rattle.script.specs.sessions.Accounts.{Call, Moment, moment, Made, written_by, taken_by, closes_by, IsPortTo, IsCall, AreCalls, HasParts, IsStepped, AreDrawn, IsAccounted, AccountsForCalls}
use Rattle.script.proofs.sessions.Leading.{Leads, leads_on, idles}
use Rattle.script.proofs.sessions.Calling.{place_of, IsBetween, ReadsOn, reads_none, IsCallTo, opens_to, drained_to}
use Rattle.script.proofs.sessions.Ending.{ended_to, other_to}
use Rattle.script.proofs.sessions.Feeding.{fed_to}

-- any call
call_to : {P W : Type 0} (steps : Steps P) (draws : Draws W) (hub_of : P → State) → IsPortTo steps hub_of → CutAnywhere →
    (conn : ℕ) (call : Call W) (m : Moment) (left : List Frame) (spare : Option ℕ) (g : Given) (m' : Moment) →
    IsBetween conn m.at left spare → IsCall steps draws hub_of call m g m' → IsCallTo draws conn call m left spare g m'
call_to steps draws hub_of port cut conn Call.Opens m left spare g m' between h =
    subst (λ (x : Given). IsCallTo draws conn Call.Opens m left spare x m') (sym h.1)
    (subst (λ (x : Moment). IsCallTo draws conn Call.Opens m left spare (given h.0) x) (sym h.3) (opens_to draws conn m left spare h.0 h.0.stall between h.2))
call_to steps draws hub_of port cut conn (Call.Bytes now piece w w') m left spare g m' between h =
    subst (λ (x : Given). IsCallTo draws conn (Call.Bytes now piece w w') m left spare x m') (sym h.1)
    (fed_to steps draws hub_of port cut conn now piece w w' m left spare h.2.0 h.0 h.2.1 m' (is_closed m.at.stage) between h.2.2 h.2.3 refl h.2.4)
call_to steps draws hub_of port cut conn (Call.Drains now most) m left spare g m' between h =
    subst (λ (x : Given). IsCallTo draws conn (Call.Drains now most) m left spare x m') (sym h.1)
    (drained_to steps draws hub_of port conn now most m left spare h.2.0 h.0 h.2.1 m' (is_closed m.at.stage) between h.2.2 h.2.3 refl h.2.4)
call_to steps draws hub_of port cut conn (Call.Ends now) m left spare g m' between h =
    subst (λ (x : Given). IsCallTo draws conn (Call.Ends now) m left spare x m') (sym h.1)
    (ended_to steps draws hub_of port conn now m left spare h.2.0 h.0 h.2.1 m' between h.2.2 h.2.3 h.2.4)
call_to steps draws hub_of port cut conn (Call.Others e) m left spare g m' between h = other_to draws conn e m left spare g m' h.0 between h.1 h.2 h.3

-- where calls lead
record AreCallsTo {W : Type 0} (draws : Draws W) (conn : ℕ) (calls : List (Made W)) (m : Moment) (left : List Frame) (spare : Option ℕ) (taken : List ℕ) (m' : Moment) : Type 0 where
  happened : List Happening
  arrived : List Frame
  left' : List Frame
  spare' : Option ℕ
  drawn : List ℕ
  leads : Leads conn (place_of m left spare) happened (flat_map written_by calls) arrived drawn (place_of m' left' spare')
  words : AreDrawn draws calls drawn
  between : IsBetween conn m'.at left' spare'
  parts : HasParts conn m.at.stage calls happened
  reads : ReadsOn m.at.reader taken arrived m'.at.reader

none_called : {W : Type 0} (draws : Draws W) (conn : ℕ) (m : Moment) (left : List Frame) (spare : Option ℕ) → IsBetween conn m.at left spare →
    AreCallsTo draws conn [] m left spare [] m
unfolding HasParts AreDrawn
none_called draws conn m left spare between = record {
  happened = [];
  arrived = [];
  left' = left;
  spare' = spare;
  drawn = [];
  leads = idles (place_of m left spare);
  words = refl;
  between = between;
  parts = refl;
  reads = reads_none m.at.reader;
}

one_more : {W : Type 0} (draws : Draws W) (conn : ℕ) (made : Made W) (more : List (Made W)) (m : Moment) (left : List Frame) (spare : Option ℕ) (next : Moment) (taken : List ℕ) (m' : Moment)
    (h : IsCallTo draws conn made.0 m left spare made.1 next) → AreCallsTo draws conn more next h.left' h.spare' taken m' →
    AreCallsTo draws conn (made ∷ more) m left spare (taken_by made.0 m.at made.1 ++ taken) m'
unfolding HasParts AreDrawn
one_more draws conn made more m left spare next taken m' h k =
    let is : h.leads.came ≡ comes conn m.at.stage h.happened = sym h.leads.comes_so in
    let at : next.at.stage ≡ (comes conn m.at.stage h.happened).stage = h.leads.stage_so ∙ ap (λ (c : Came). c.stage) is in
    record {
      happened = h.happened ++ k.happened;
      arrived = h.arrived ++ k.arrived;
      left' = k.left';
      spare' = k.spare';
      drawn = h.drawn ++ k.drawn;
      leads = leads_on h.leads k.leads;
      words = (h.drawn, k.drawn, refl, h.words, k.words);
      between = k.between;
      parts = (
        h.happened,
        k.happened,
        refl,
        h.part,
        h.leads.text_so ∙ ap (λ (c : Came). c.text) is,
        h.closes ∙ ap (closes_by made.0) at,
        subst (λ (s : Stage). HasParts conn s more k.happened) at k.parts,
      );
      reads = λ fs bytes so_far.
          ap (λ (l : List Frame). framing l m'.at.reader.rest m'.at.reader.failed) (sym (append_assoc fs h.arrived k.arrived))
          ∙ k.reads (fs ++ h.arrived) (bytes ++ taken_by made.0 m.at made.1) (h.reads fs bytes so_far)
          ∙ ap frames_of (append_assoc bytes (taken_by made.0 m.at made.1) taken);
    }

all_called : {P W : Type 0} (steps : Steps P) (draws : Draws W) (hub_of : P → State) → IsPortTo steps hub_of → CutAnywhere →
    (conn : ℕ) (calls : List (Made W)) (m : Moment) (left : List Frame) (spare : Option ℕ) (taken : List ℕ) (m' : Moment) →
    IsBetween conn m.at left spare → AreCalls steps draws hub_of calls m taken m' → AreCallsTo draws conn calls m left spare taken m'
unfolding AreCalls
all_called steps draws hub_of port cut conn [] m left spare taken m' between h =
    subst (λ (l : List ℕ). AreCallsTo draws conn [] m left spare l m') (sym h.0)
    (subst (λ (x : Moment). AreCallsTo draws conn [] m left spare [] x) (sym h.1) (none_called draws conn m left spare between))
all_called steps draws hub_of port cut conn (made ∷ more) m left spare taken m' between h =
    let first = call_to steps draws hub_of port cut conn made.0 m left spare made.1 h.0 between h.2 in
    subst (λ (l : List ℕ). AreCallsTo draws conn (made ∷ more) m left spare l m') (sym h.4)
    (one_more draws conn made more m left spare h.0 h.1 m' first
    (all_called steps draws hub_of port cut conn more h.0 first.left' first.spare' h.1 m' first.between h.3))

-- ---- from the opening on

between_new : (conn : ℕ) → IsBetween conn (new_connection conn) [] None
between_new conn = record { same = refl; standing = record { waits = (refl, refl); first = refl; rests = λ _. refl; wordless = λ _. refl } }

frames_nil : framing [] [] false ≡ frames_of []
unfolding frames_of first_frames
frames_nil = refl

accounted : {W : Type 0} (draws : Draws W) (conn : ℕ) (s : State) (calls : List (Made W)) (taken : List ℕ) (m : Moment) →
    AreCallsTo draws conn calls (moment (new_connection conn) s) [] None taken m → IsAccounted draws conn s calls taken m
accounted draws conn s calls taken m h =
    let l = h.leads in
    let is : l.came ≡ comes conn Fresh h.happened = sym l.comes_so in
    record {
      happened = h.happened;
      left = h.left';
      spare = h.spare';
      parts = h.parts;
      order = l.order;
      text = l.text_so ∙ ap (λ (c : Came). c.text) is;
      stage = l.stage_so ∙ ap (λ (c : Came). c.stage) is;
      hub = subst (λ (c : Came). IsStepped c.submitted s m.hub) is l.hub;
      words = subst (AreDrawn draws calls) (sym l.words ∙ ap (λ (c : Came). c.words ++ option_to_list h.spare') is) h.words;
      frames = ap (λ (x : List Frame). framing x m.at.reader.rest m.at.reader.failed) l.frames ∙ h.reads [] [] frames_nil;
      waits = h.between.standing.waits;
      wordless = h.between.standing.wordless;
      rests = h.between.standing.rests;
      deliveries = l.owed;
      missed = l.missed;
    }

pub accounts_for_calls : {P W : Type 0} (steps : Steps P) (draws : Draws W) → CutAnywhere → AccountsForCalls steps draws
accounts_for_calls steps draws cut hub_of port conn s calls taken m h =
    accounted draws conn s calls taken m
    (all_called steps draws hub_of port cut conn calls (moment (new_connection conn) s) [] None taken m (between_new conn) h)
