-- Where a frame's turn leads.
use Rattle.std.proofs.Common.{◌≡◌, ◌∙◌, ◌∷◌, ◌++◌, [], ℕ, List, Bool, true, false, Option, Some, None, Result, Ok, ap, refl, sym, subst, inl, inr}
use Rattle.std.specs.Option.{option_to_list}
use Rattle.std.proofs.lemmas.List.{append-nil}
use Rattle.wire_read.specs.declared.frame.Frame.{Frame}
use Rattle.hub.specs.History.{State}
use Rattle.events.specs.declared.event.Command.TheVariants as command
use Rattle.events.specs.declared.answer.Delivery.{Delivery}
use Rattle.events.specs.declared.answer.Outcome.{Outcome}
use Rattle.events.specs.declared.answer.Outcome.TheVariants as outcome
use Rattle.events.specs.declared.refusal.HubRefusal.{HubRefusal}
use Rattle.session_conn.specs.declared.output.Stall.{Stall}
use Rattle.session_conn.specs.declared.output.Stall.TheVariants as stall
use Rattle.session_plan.specs.declared.plan.Plan.{Plan}
use Rattle.session_plan.specs.declared.plan.Plan.TheVariants.{Tells, Asks, Publishes}
use Rattle.session_plan.specs.Replies.{Told, told, is_closed}
use Rattle.session_plan.specs.Plans.{plan_of}
use Rattle.session_conn.specs.Turns.{Steps, Draws, Goes, Stalls, event, IsHeldBack, IsPlanned, IsFrameTurn}
use Rattle.session_conn.specs.Serving.{Spot, spot}
use Rattle.script.specs.sessions.Happenings.{Framed, Came, come_of_plan, is_final}
use Rattle.script.specs.sessions.Accounts.{IsPortTo, IsStepped, IsDrawn}
use Rattle.script.proofs.sessions.Leading.{Place, Leads, comes-one, in_order-one, stepped-nil, drawn-nil, or_false, stays}
use Rattle.script.proofs.sessions.Concluding.{of_hub, stepped-one, refused, IsWordFrom, word_from, HasWord, told_wordless, asked_wordless, goes_told, IsNoRefusal, IsStalled, stalls_told, may_go}

-- the place of a spot between two turns, with the frames that had none yet
abbrev pub place_at : {P W : Type 0} → (P → State) → List Delivery → Bool → List Frame → Spot P W → Place
place_at hub_of owed missed left at = record { stage = at.stage; left = left; spare = at.word; owed = owed; missed = missed; hub = hub_of at.port }

-- ---- a turn that is concluded

framed_leads : (conn now : ℕ) (a : Place) (f : Frame) (fs : List Frame) (hub : State) (t : Told) (word : ℕ) (r : Result Outcome HubRefusal) (plan : Plan) (drawn : List ℕ) →
    (let c : Came = come_of_plan conn now a.stage f word r plan in
    is_closed a.stage ≡ false → is_final r ≡ true → plan_of conn a.stage f ≡ plan →
    t.text ≡ c.text → t.stage ≡ c.stage → IsStepped c.submitted a.hub hub → c.words ≡ option_to_list a.spare ++ drawn →
    Leads conn (record a { left = f ∷ fs }) (Framed now f word r ∷ []) t.text [] drawn (record a { stage = t.stage; left = fs; spare = None; hub = hub }))
framed_leads conn now a f fs hub t word r plan drawn still done planned text stage stepped so = record {
  came = come_of_plan conn now a.stage f word r plan;
  comes_so = comes-one conn a.stage (Framed now f word r) ∙ ap (come_of_plan conn now a.stage f word r) planned;
  order = in_order-one conn a.stage (Framed now f word r) (may_go (is_closed a.stage) (is_final r) still done);
  text_so = text;
  stage_so = stage;
  hub = stepped;
  words = append-nil (come_of_plan conn now a.stage f word r plan).words ∙ so;
  frames = sym (append-nil (f ∷ fs));
  owed = append-nil a.owed;
  missed = or_false a.missed;
}

-- where it leads, with the word of the message and the answer
pub record IsConcluded {P W : Type 0} (draws : Draws W) (hub_of : P → State) (conn now : ℕ) (owed : List Delivery) (missed : Bool) (f : Frame) (fs : List Frame) (at : Spot P W) (t : Told) (p : P) (w : W) : Type 0 where
  pub word : ℕ
  pub answer : Result Outcome HubRefusal
  pub drawn : List ℕ
  pub leads : Leads conn (place_at hub_of owed missed (f ∷ fs) at) (Framed now f word answer ∷ []) t.text [] drawn (place_at hub_of owed missed fs (spot p w t.stage None))
  pub words : IsDrawn draws at.words drawn w

goes_by : {P W : Type 0} (steps : Steps P) (draws : Draws W) (hub_of : P → State) → IsPortTo steps hub_of →
    (conn now : ℕ) (owed : List Delivery) (missed : Bool) (f : Frame) (fs : List Frame) (at : Spot P W) (t : Told) (p : P) (w : W) (plan : Plan) →
    is_closed at.stage ≡ false → HasWord at.word plan → plan_of conn at.stage f ≡ plan → IsPlanned steps draws now conn at.stage at.word f at.port at.words (Goes t) p w plan →
    IsConcluded draws hub_of conn now owed missed f fs at t p w
goes_by steps draws hub_of port conn now owed missed f fs at t p w (Tells r) still has planned h =
    let is : t ≡ told r = same_told t (told r) h.0 in
    record {
      word = 0;
      answer = Ok outcome.Closed;
      drawn = [];
      leads = framed_leads conn now (place_at hub_of owed missed fs at) f fs (hub_of p) t 0 (Ok outcome.Closed) (Tells r) []
          still refl planned (ap (λ (x : Told). x.text) is) (ap (λ (x : Told). x.stage) is) (stepped-nil (hub_of at.port) (hub_of p) (ap hub_of h.1))
          (ap (λ (o : Option ℕ). option_to_list o ++ []) (sym (told_wordless at.word r has)));
      words = drawn-nil draws at.words w h.2;
    }
  where
    same_told : (a b : Told) → Goes a ≡ Goes b → a ≡ b
    same_told a b e = cc
goes_by steps draws hub_of port conn now owed missed f fs at t p w (Asks what accepted) still has planned h =
    let done = goes_told t at.stage accepted f at.word h.0 h.2 in
    record {
      word = 0;
      answer = h.0;
      drawn = [];
      leads = framed_leads conn now (place_at hub_of owed missed fs at) f fs (hub_of p) t 0 h.0 (Asks what accepted) []
          still done.1 planned (ap (λ (x : Told). x.text) done.0) (ap (λ (x : Told). x.stage) done.0)
          (stepped-one (hub_of at.port) (hub_of p) (event now what) h.0 (of_hub steps.step hub_of port.step h.1))
          (ap (λ (o : Option ℕ). option_to_list o ++ []) (sym (asked_wordless at.word what accepted has)));
      words = drawn-nil draws at.words w h.3;
    }
goes_by steps draws hub_of port conn now owed missed f fs at t p w (Publishes message) still has planned h =
    let done = goes_told t at.stage at.stage f (Some h.1) h.0 h.4 in
    let drawn : IsWordFrom draws at.words at.word h.1 w = word_from draws at.words at.word h.1 w h.2 in
    record {
      word = h.1;
      answer = h.0;
      drawn = drawn.new;
      leads = framed_leads conn now (place_at hub_of owed missed fs at) f fs (hub_of p) t h.1 h.0 (Publishes message) drawn.new
          still done.1 planned (ap (λ (x : Told). x.text) done.0) (ap (λ (x : Told). x.stage) done.0)
          (stepped-one (hub_of at.port) (hub_of p) (event now (command.Pub conn message h.1)) h.0 (of_hub steps.post hub_of port.post h.3)) drawn.same;
      words = drawn.are;
    }

-- what is held back stalls
held_goes : {P W : Type 0} (steps : Steps P) (draws : Draws W) (word : Option ℕ) (p : P) (w : W) (t : Told) (p' : P) (w' : W) (plan : Plan) →
    IsHeldBack steps draws word p w (Goes t) p' w' plan → ⊥
held_goes steps draws word p w t p' w' (Tells r) h = unlike word h.1
  where
    unlike : (k : Option ℕ) → Goes t ≡ Stalls stall.Held k → ⊥
    unlike k e = cc
held_goes steps draws word p w t p' w' (Asks what accepted) h = h
held_goes steps draws word p w t p' w' (Publishes message) h = unlike (Some h.0) h.3
  where
    unlike : (k : Option ℕ) → Goes t ≡ Stalls stall.Held k → ⊥
    unlike k e = cc

pub turn_goes : {P W : Type 0} (steps : Steps P) (draws : Draws W) (hub_of : P → State) → IsPortTo steps hub_of →
    (conn now : ℕ) (owed : List Delivery) (missed : Bool) (f : Frame) (fs : List Frame) (at : Spot P W) (t : Told) (p : P) (w : W) →
    is_closed at.stage ≡ false → HasWord at.word (plan_of conn at.stage f) → IsFrameTurn steps draws now conn at.stage at.word f at.port at.words (Goes t) p w →
    IsConcluded draws hub_of conn now owed missed f fs at t p w
turn_goes steps draws hub_of port conn now owed missed f fs at t p w still has (inl h) = absurd (unlike at.word h.stalls)
  where
    unlike : (word : Option ℕ) → Goes t ≡ Stalls stall.Memory word → ⊥
    unlike word e = cc
turn_goes steps draws hub_of port conn now owed missed f fs at t p w still has (inr (inl h)) =
    absurd (held_goes steps draws at.word at.port at.words t p w (plan_of conn at.stage f) h)
turn_goes steps draws hub_of port conn now owed missed f fs at t p w still has (inr (inr h)) =
    goes_by steps draws hub_of port conn now owed missed f fs at t p w (plan_of conn at.stage f) still has refl h

-- ---- a turn that stalls

-- all stays, but that the message may have drawn its word
pub record IsKept {P W : Type 0} (draws : Draws W) (hub_of : P → State) (conn : ℕ) (owed : List Delivery) (missed : Bool) (f : Frame) (left : List Frame) (at : Spot P W) (st : Stall) (kept : Option ℕ) (p : P) (w : W) : Type 0 where
  pub drawn : List ℕ
  pub leads : Leads conn (place_at hub_of owed missed left at) [] [] [] drawn (place_at hub_of owed missed left (spot p w at.stage kept))
  pub words : IsDrawn draws at.words drawn w
  pub has : HasWord kept (plan_of conn at.stage f)
  pub takes : IsNoRefusal (Some st)

-- what stopped it, and the word
same_parts : (st : Stall) (kept : Option ℕ) (st' : Stall) (word : Option ℕ) → Stalls st kept ≡ Stalls st' word → (st ≡ st') × (kept ≡ word)
same_parts st kept st' word e = (cc, cc)

stalls_by : {P W : Type 0} (steps : Steps P) (draws : Draws W) (hub_of : P → State) → IsPortTo steps hub_of →
    (conn now : ℕ) (owed : List Delivery) (missed : Bool) (f : Frame) (left : List Frame) (at : Spot P W) (st : Stall) (kept : Option ℕ) (p : P) (w : W) (plan : Plan) →
    HasWord at.word plan → plan_of conn at.stage f ≡ plan → IsPlanned steps draws now conn at.stage at.word f at.port at.words (Stalls st kept) p w plan →
    IsKept draws hub_of conn owed missed f left at st kept p w
stalls_by steps draws hub_of port conn now owed missed f left at st kept p w (Tells r) has planned h = absurd (unlike (told r) h.0)
  where
    unlike : (t : Told) → Stalls st kept ≡ Goes t → ⊥
    unlike t e = cc
stalls_by steps draws hub_of port conn now owed missed f left at st kept p w (Asks what accepted) has planned h =
    let so : IsStalled st kept at.word h.0 = stalls_told st kept at.stage accepted f at.word h.0 h.2 in
    record {
      drawn = [];
      leads = stays (place_at hub_of owed missed left at) (refused (event now what) so.why so.is (of_hub steps.step hub_of port.step h.1))
          (ap option_to_list so.keeps ∙ sym (append-nil (option_to_list at.word)));
      words = drawn-nil draws at.words w h.3;
      has = subst (HasWord kept) (sym planned) (subst (λ (o : Option ℕ). HasWord o (Asks what accepted)) (sym so.keeps) has);
      takes = so.takes;
    }
stalls_by steps draws hub_of port conn now owed missed f left at st kept p w (Publishes message) has planned h =
    let so : IsStalled st kept (Some h.1) h.0 = stalls_told st kept at.stage at.stage f (Some h.1) h.0 h.4 in
    let drawn : IsWordFrom draws at.words at.word h.1 w = word_from draws at.words at.word h.1 w h.2 in
    record {
      drawn = drawn.new;
      leads = stays (place_at hub_of owed missed left at) (refused (event now (command.Pub conn message h.1)) so.why so.is (of_hub steps.post hub_of port.post h.3))
          (ap option_to_list so.keeps ∙ drawn.same);
      words = drawn.are;
      has = subst (HasWord kept) (sym planned) (subst (λ (o : Option ℕ). HasWord o (Publishes message)) (sym so.keeps) tt);
      takes = so.takes;
    }

-- the same where it is held back
held_by : {P W : Type 0} (steps : Steps P) (draws : Draws W) (hub_of : P → State) → IsPortTo steps hub_of →
    (conn : ℕ) (owed : List Delivery) (missed : Bool) (f : Frame) (left : List Frame) (at : Spot P W) (st : Stall) (kept : Option ℕ) (p : P) (w : W) (plan : Plan) →
    HasWord at.word plan → plan_of conn at.stage f ≡ plan → IsHeldBack steps draws at.word at.port at.words (Stalls st kept) p w plan →
    IsKept draws hub_of conn owed missed f left at st kept p w
held_by steps draws hub_of port conn owed missed f left at st kept p w (Tells r) has planned h =
    let same = same_parts st kept stall.Held at.word h.1 in
    record {
      drawn = [];
      leads = stays (place_at hub_of owed missed left at) (port.holds at.port p h.0) (ap option_to_list same.1 ∙ sym (append-nil (option_to_list at.word)));
      words = drawn-nil draws at.words w h.2;
      has = subst (HasWord kept) (sym planned) (subst (λ (o : Option ℕ). HasWord o (Tells r)) (sym same.1) has);
      takes = subst (λ (y : Stall). IsNoRefusal (Some y)) (sym same.0) (λ piece. refl);
    }
held_by steps draws hub_of port conn owed missed f left at st kept p w (Asks what accepted) has planned h = absurd h
held_by steps draws hub_of port conn owed missed f left at st kept p w (Publishes message) has planned h =
    let same = same_parts st kept stall.Held (Some h.0) h.3 in
    let drawn : IsWordFrom draws at.words at.word h.0 w = word_from draws at.words at.word h.0 w h.1 in
    record {
      drawn = drawn.new;
      leads = stays (place_at hub_of owed missed left at) (port.holds at.port p h.2) (ap option_to_list same.1 ∙ drawn.same);
      words = drawn.are;
      has = subst (HasWord kept) (sym planned) (subst (λ (o : Option ℕ). HasWord o (Publishes message)) (sym same.1) tt);
      takes = subst (λ (y : Stall). IsNoRefusal (Some y)) (sym same.0) (λ piece. refl);
    }

pub turn_stalls : {P W : Type 0} (steps : Steps P) (draws : Draws W) (hub_of : P → State) → IsPortTo steps hub_of →
    (conn now : ℕ) (owed : List Delivery) (missed : Bool) (f : Frame) (left : List Frame) (at : Spot P W) (st : Stall) (kept : Option ℕ) (p : P) (w : W) →
    HasWord at.word (plan_of conn at.stage f) → IsFrameTurn steps draws now conn at.stage at.word f at.port at.words (Stalls st kept) p w →
    IsKept draws hub_of conn owed missed f left at st kept p w
turn_stalls steps draws hub_of port conn now owed missed f left at st kept p w has (inl h) =
    let same = same_parts st kept stall.Memory at.word h.stalls in
    record {
      drawn = [];
      leads = stays (place_at hub_of owed missed left at) (ap hub_of h.port) (ap option_to_list same.1 ∙ sym (append-nil (option_to_list at.word)));
      words = drawn-nil draws at.words w h.words;
      has = subst (λ (o : Option ℕ). HasWord o (plan_of conn at.stage f)) (sym same.1) has;
      takes = subst (λ (y : Stall). IsNoRefusal (Some y)) (sym same.0) (λ piece. refl);
    }
turn_stalls steps draws hub_of port conn now owed missed f left at st kept p w has (inr (inl h)) =
    held_by steps draws hub_of port conn owed missed f left at st kept p w (plan_of conn at.stage f) has refl h
turn_stalls steps draws hub_of port conn now owed missed f left at st kept p w has (inr (inr h)) =
    stalls_by steps draws hub_of port conn now owed missed f left at st kept p w (plan_of conn at.stage f) has refl h
