-- Where the turns of frames lead.
use Rattle.std.proofs.Common.{◌≡◌, ◌∷◌, ◌++◌, [], ℕ, List, Bool, true, false, Option, Some, None, refl, sym, subst}
use Rattle.std.specs.List.{AllByRecursion}
use Rattle.wire_read.specs.declared.frame.Frame.{Frame}
use Rattle.hub.specs.History.{State}
use Rattle.events.specs.declared.answer.Delivery.{Delivery}
use Rattle.session_plan.specs.declared.stage.Stage.{Stage}
use Rattle.session_conn.specs.declared.output.Stall.{Stall}
use Rattle.session_plan.specs.Replies.{Told, is_closed}
use Rattle.session_plan.specs.Plans.{plan_of}
use Rattle.session_conn.specs.Turns.{Steps, Draws, Turned, Goes, Stalls, IsFrameTurn}
use Rattle.session_conn.specs.Serving.{Spot, spot, Served, served, rests, behind, UnlessClosed, IsFollowed, Serves}
use Rattle.script.specs.sessions.Happenings.{Happening, Framed}
use Rattle.script.specs.sessions.Accounts.{IsPortTo, IsFramedAt, IsLeft, IsDrawn}
use Rattle.script.proofs.sessions.Leading.{Leads, leads_on, idles, drawn-nil, drawn-append}
use Rattle.script.proofs.sessions.Concluding.{HasWord, IsNoRefusal}
use Rattle.script.proofs.sessions.Turning.{place_at, IsConcluded, turn_goes, IsKept, turn_stalls}

-- ---- between two turns

-- a word that was drawn is that of the first frame, a message
abbrev pub HasFirst : ℕ → Stage → Option ℕ → List Frame → Type 0
HasFirst conn s word [] = word ≡ None
HasFirst conn s word (f ∷ fs) = HasWord word (plan_of conn s f)

-- what holds of the frames that are kept between two calls, and of those that had no turn
pub record IsStanding (conn : ℕ) (s : Stage) (frames : List Frame) (word : Option ℕ) (stall : Option Stall) (left : List Frame) (spare : Option ℕ) : Type 0 where
  pub waits : IsLeft (is_closed s) left spare frames word
  pub first : HasFirst conn s word frames
  pub rests : stall ≡ None → frames ≡ []
  pub wordless : left ≡ [] → spare ≡ None

-- where turns lead
pub record IsServedTo {P W : Type 0} (draws : Draws W) (hub_of : P → State) (conn now : ℕ) (owed : List Delivery) (missed : Bool) (fs : List Frame) (at : Spot P W) (r : Served P W) : Type 0 where
  pub happened : List Happening
  pub left : List Frame
  pub spare : Option ℕ
  pub drawn : List ℕ
  pub leads : Leads conn (place_at hub_of owed missed fs at) happened r.text [] drawn (place_at hub_of owed missed left (spot r.at.port r.at.words r.at.stage spare))
  pub words : IsDrawn draws at.words drawn r.at.words
  pub framed : AllByRecursion (IsFramedAt now) happened
  pub standing : IsStanding conn r.at.stage r.frames r.at.word r.stall left spare
  pub takes : IsNoRefusal r.stall

-- a word that isn't drawn yet is any frame's
pub no_word : (conn : ℕ) (s : Stage) (fs : List Frame) → HasFirst conn s None fs
no_word conn s [] = refl
no_word conn s (f ∷ fs) = tt

-- ---- no more turns

-- frames are dropped behind a closing text, or there are none
left_so : (b : Bool) (left : List Frame) (word : Option ℕ) → (b ≡ false → left ≡ []) → word ≡ None → IsLeft b left word [] word
left_so true left word none wordless = (refl, wordless)
left_so false left word none wordless = (sym (none refl), refl)

no_turn : {P W : Type 0} (draws : Draws W) (hub_of : P → State) (conn now : ℕ) (owed : List Delivery) (missed : Bool) (fs : List Frame) (at : Spot P W) →
    (is_closed at.stage ≡ false → fs ≡ []) → at.word ≡ None → IsServedTo draws hub_of conn now owed missed fs at (rests at)
no_turn draws hub_of conn now owed missed fs at none wordless = record {
  happened = [];
  left = fs;
  spare = at.word;
  drawn = [];
  leads = idles (place_at hub_of owed missed fs at);
  words = drawn-nil draws at.words at.words refl;
  framed = tt;
  standing = record { waits = left_so (is_closed at.stage) fs at.word none wordless; first = wordless; rests = λ _. refl; wordless = λ _. wordless };
  takes = λ piece. refl;
}

-- ---- turns

left_kept : (b : Bool) (left : List Frame) (word : Option ℕ) → b ≡ false → IsLeft b left word left word
left_kept true left word h = absurd (cc)
left_kept false left word h = (refl, refl)

first_stalls : {P W : Type 0} (draws : Draws W) (hub_of : P → State) (conn now : ℕ) (owed : List Delivery) (missed : Bool) (f : Frame) (fs : List Frame) (at : Spot P W) (st : Stall) (kept : Option ℕ) (p : P) (w : W) →
    is_closed at.stage ≡ false → IsKept draws hub_of conn owed missed f (f ∷ fs) at st kept p w →
    IsServedTo draws hub_of conn now owed missed (f ∷ fs) at (served [] (f ∷ fs) (Some st) (spot p w at.stage kept))
first_stalls draws hub_of conn now owed missed f fs at st kept p w still h = record {
  happened = [];
  left = f ∷ fs;
  spare = kept;
  drawn = h.drawn;
  leads = h.leads;
  words = h.words;
  framed = tt;
  standing = record {
    waits = left_kept (is_closed at.stage) (f ∷ fs) kept still;
    first = h.has;
    rests = λ (none : Some st ≡ None). absurd (cc);
    wordless = λ (none : f ∷ fs ≡ []). absurd (cc);
  };
  takes = h.takes;
}

first_goes : {P W : Type 0} (draws : Draws W) (hub_of : P → State) (conn now : ℕ) (owed : List Delivery) (missed : Bool) (f : Frame) (fs : List Frame) (at : Spot P W) (t : Told) (p : P) (w : W) (rest : Served P W) →
    IsConcluded draws hub_of conn now owed missed f fs at t p w → IsServedTo draws hub_of conn now owed missed fs (spot p w t.stage None) rest →
    IsServedTo draws hub_of conn now owed missed (f ∷ fs) at (behind t.text rest)
first_goes draws hub_of conn now owed missed f fs at t p w rest h k = record {
  happened = Framed now f h.word h.answer ∷ k.happened;
  left = k.left;
  spare = k.spare;
  drawn = h.drawn ++ k.drawn;
  leads = leads_on h.leads k.leads;
  words = drawn-append draws h.drawn k.drawn at.words w rest.at.words h.words k.words;
  framed = (refl, k.framed);
  standing = k.standing;
  takes = k.takes;
}

-- where the turns of these frames lead
abbrev pub ServesTo : {P W : Type 0} → Steps P → Draws W → (P → State) → ℕ → ℕ → List Delivery → Bool → List Frame → Type 0
ServesTo {P} {W} steps draws hub_of conn now owed missed fs =
    (at : Spot P W) (r : Served P W) → (is_closed at.stage ≡ true → at.word ≡ None) → HasFirst conn at.stage at.word fs →
    Serves steps draws now conn fs at r → IsServedTo draws hub_of conn now owed missed fs at r

first_turn : {P W : Type 0} (steps : Steps P) (draws : Draws W) (hub_of : P → State) → IsPortTo steps hub_of →
    (conn now : ℕ) (owed : List Delivery) (missed : Bool) (f : Frame) (fs : List Frame) (at : Spot P W) (r : Served P W) (t : Turned) (p : P) (w : W) →
    ServesTo steps draws hub_of conn now owed missed fs → is_closed at.stage ≡ false → HasWord at.word (plan_of conn at.stage f) →
    IsFrameTurn steps draws now conn at.stage at.word f at.port at.words t p w →
    IsFollowed (Serves steps draws now conn fs) (f ∷ fs) at.stage t p w r → IsServedTo draws hub_of conn now owed missed (f ∷ fs) at r
first_turn steps draws hub_of port conn now owed missed f fs at r (Goes t) p w more still has turn h =
    subst (IsServedTo draws hub_of conn now owed missed (f ∷ fs) at) (sym h.2)
    (first_goes draws hub_of conn now owed missed f fs at t p w h.0
    (turn_goes steps draws hub_of port conn now owed missed f fs at t p w still has turn)
    (more (spot p w t.stage None) h.0 (λ _. refl) (no_word conn t.stage fs) h.1))
first_turn steps draws hub_of port conn now owed missed f fs at r (Stalls st kept) p w more still has turn h =
    subst (IsServedTo draws hub_of conn now owed missed (f ∷ fs) at) (sym h)
    (first_stalls draws hub_of conn now owed missed f fs at st kept p w still
    (turn_stalls steps draws hub_of port conn now owed missed f (f ∷ fs) at st kept p w has turn))

-- by whether the connection has closed
by_stage : {P W : Type 0} (at : Spot P W) (r : Served P W) (Turns Q : Type 0) (b : Bool) →
    (b ≡ true → r ≡ rests at → Q) → (b ≡ false → Turns → Q) → UnlessClosed b at r Turns → Q
by_stage at r Turns Q true closed still h = closed refl h
by_stage at r Turns Q false closed still h = still refl h

pub serves_to : {P W : Type 0} (steps : Steps P) (draws : Draws W) (hub_of : P → State) → IsPortTo steps hub_of →
    (conn now : ℕ) (owed : List Delivery) (missed : Bool) (fs : List Frame) → ServesTo steps draws hub_of conn now owed missed fs
unfolding Serves
serves_to steps draws hub_of port conn now owed missed [] at r closed first h =
    subst (IsServedTo draws hub_of conn now owed missed [] at) (sym h) (no_turn draws hub_of conn now owed missed [] at (λ _. refl) first)
serves_to {P} {W} steps draws hub_of port conn now owed missed (f ∷ fs) at r closed first h =
    by_stage at r
    ((t : Turned) × (p : P) × (w : W) × IsFrameTurn steps draws now conn at.stage at.word f at.port at.words t p w
    × IsFollowed (Serves steps draws now conn fs) (f ∷ fs) at.stage t p w r)
    (IsServedTo draws hub_of conn now owed missed (f ∷ fs) at r) (is_closed at.stage)
    (λ shut is. subst (IsServedTo draws hub_of conn now owed missed (f ∷ fs) at) (sym is)
    (no_turn draws hub_of conn now owed missed (f ∷ fs) at (λ (still : is_closed at.stage ≡ false). absurd (cc)) (closed shut)))
    (λ still turn. first_turn steps draws hub_of port conn now owed missed f fs at r turn.0 turn.1 turn.2
    (serves_to steps draws hub_of port conn now owed missed fs) still first turn.3 turn.4)
    h
