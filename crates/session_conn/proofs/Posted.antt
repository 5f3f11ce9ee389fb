-- The turns of frames whose messages were offered together.
use Rattle.std.proofs.Common.{◌≡◌, ◌∙◌, ◌∷◌, ◌+◌, ◌≤◌, ◌&&◌, [], ℕ, suc, List, Bool, Some, None, Ok, Err, true, false, not, drop, length, arith, refl, sym, subst, ap, inl, inr}
use Rattle.std.proofs.lemmas.List.{append-nil}
use Rattle.wire_read.specs.declared.frame.Frame.{Frame}
use Rattle.events.specs.Messages.{Message}
use Rattle.events.specs.Runs.{IsPosted, EndsRun, post, was_published}
use Rattle.events.specs.declared.answer.Entry.{Entry}
use Rattle.events.specs.declared.answer.Outcome.{Outcome}
use Rattle.events.specs.declared.answer.Outcome.TheVariants as outcome
use Rattle.events.specs.declared.refusal.PublishRefusal.TheVariants.{By, Held}
use Rattle.events.specs.declared.run.RunEnd.{RunEnd}
use Rattle.events.specs.declared.run.RunEnd.TheVariants as run
use Rattle.session_plan.specs.declared.stage.Stage.{Stage}
use Rattle.session_plan.specs.declared.plan.Plan.{Plan}
use Rattle.session_plan.specs.Replies.{told_text, room_of, is_closed}
use Rattle.session_conn.specs.declared.output.Stall.TheVariants as stall
use Rattle.session_conn.specs.Turns.{Steps, Draws, Turned, Goes, Stalls, turn_after, is_verbose, is_published, IsPlanned, IsHeldBack, IsFrameTurn}
use Rattle.session_conn.specs.Serving.{Spot, spot}
use Rattle.session_conn.specs.Running.{Completes, IsMessageOf, IsAhead, IsLastTold}
use Rattle.session_conn.proofs.Told.{told_nothing}
use Rattle.session_conn.proofs.Runs.{completes_goes}

-- ---- a turn

published_too : (o : Outcome) → was_published o ≡ true → is_published (Ok o) ≡ true
published_too (outcome.Published by met) e = refl
published_too outcome.Connected e = absurd (cc)
published_too outcome.AuthViolation e = absurd (cc)
published_too outcome.Subscribed e = absurd (cc)
published_too outcome.SameSid e = absurd (cc)
published_too outcome.SubLimit e = absurd (cc)
published_too (outcome.Denied verdict) e = absurd (cc)
published_too (outcome.Taken deliveries missed) e = absurd (cc)
published_too outcome.Unsubscribed e = absurd (cc)
published_too outcome.Closed e = absurd (cc)
published_too (outcome.Reloaded gone removed) e = absurd (cc)

quiet_too : (verbose : Bool) (o : Outcome) → verbose ≡ false → was_published o ≡ true → not verbose && is_published (Ok o) ≡ true
quiet_too true o v e = absurd (cc)
quiet_too false o v e = published_too o e

-- a message that was published
published_turn : {P W : Type 0} (steps : Steps P) (draws : Draws W) (now conn : ℕ) (s : Stage) (room : ℕ) (f : Frame) (m : Message) (p : P) (w : W) (word : ℕ) (w' : W) (entry : Entry) (p' : P) →
    IsMessageOf s room f m → draws w word w' → steps.post p (post conn now m word) (Ok entry) p' → was_published entry.outcome ≡ true →
    IsFrameTurn steps draws now conn s None f p w (Goes (told_text [] s)) p' w'
published_turn steps draws now conn s room f m p w word w' entry p' of drawn step published =
    inr (inr (subst (λ (plan : Plan). IsPlanned steps draws now conn s None f p w (Goes (told_text [] s)) p' w' plan) (sym (of.plan conn))
    (Ok entry.outcome, word, drawn, (Ok entry, step, refl), sym (told_nothing s f (Some word) (Ok entry.outcome) (quiet_too (is_verbose s) entry.outcome of.quiet published)))))

-- the message that ended the run
last_turn : {P W : Type 0} (steps : Steps P) (draws : Draws W) (now conn : ℕ) (s : Stage) (room : ℕ) (f : Frame) (m : Message) (p : P) (w : W) (word : ℕ) (w' : W) (end : RunEnd) (p' : P) (t : Turned) →
    IsMessageOf s room f m → draws w word w' → EndsRun steps.post steps.holds p (post conn now m word) word end p' → IsLastTold s f end t →
    IsFrameTurn steps draws now conn s None f p w t p' w'
last_turn steps draws now conn s room f m p w word w' run.Published p' t of drawn ends told = absurd ends
last_turn steps draws now conn s room f m p w word w' (run.Answered entry) p' t of drawn ends told =
    inr (inr (subst (λ (plan : Plan). IsPlanned steps draws now conn s None f p w t p' w' plan) (sym (of.plan conn))
    (Ok entry.outcome, word, drawn, (Ok entry, ends, refl), told)))
last_turn steps draws now conn s room f m p w word w' (run.Stopped kept (By refusal)) p' t of drawn (same, (back, refused)) told =
    inr (inr (subst (λ (plan : Plan). IsPlanned steps draws now conn s None f p w t p' w' plan) (sym (of.plan conn))
    (Err refusal, word, drawn, (Err (back, refusal), refused, refl), subst (λ (x : ℕ). t ≡ turn_after s s f (Some x) (Err refusal)) same told)))
last_turn steps draws now conn s room f m p w word w' (run.Stopped kept Held) p' t of drawn (same, (back, held)) told =
    inr (inl (subst (λ (plan : Plan). IsHeldBack steps draws None p w t p' w' plan) (sym (of.plan conn))
    (word, drawn, held, told ∙ ap (λ (x : ℕ). Stalls stall.Held (Some x)) same)))

-- ---- the turns

-- the frame of the message that ended a run, behind so many others
pub record LastTurn {P W : Type 0} (steps : Steps P) (draws : Draws W) (now conn : ℕ) (s : Stage) (room : ℕ) (all : List Frame) (start : Spot P W) (text : List ℕ)
    (fs : List Frame) (k : ℕ) (end : RunEnd) (left : List Message) (p' : P) (w' : W) : Type 0 where
  pub f : Frame
  pub rest : List Frame
  pub p : P
  pub w : W
  pub is : drop k fs ≡ f ∷ rest
  pub done : Completes steps draws now conn all start text (f ∷ rest) (spot p w s None)
  pub turn : (t : Turned) → IsLastTold s f end t → IsFrameTurn steps draws now conn s None f p w t p' w'
  pub fits : room_of f ≤ room
  pub ahead : IsAhead s room rest left

-- what a run of so many messages leads to
abbrev pub Leads : {P W : Type 0} → Steps P → Draws W → ℕ → ℕ → Stage → ℕ → List Frame → Spot P W → List ℕ → List Frame → ℕ → RunEnd → List Message → P → W → Type 0
Leads steps draws now conn s room all start text fs n run.Published left p' w' =
    Completes steps draws now conn all start text (drop n fs) (spot p' w' s None) × (left ≡ [])
Leads steps draws now conn s room all start text fs n (run.Answered entry) left p' w' =
    (k : ℕ) × (n ≡ k + 1) × LastTurn steps draws now conn s room all start text fs k (run.Answered entry) left p' w'
Leads steps draws now conn s room all start text fs n (run.Stopped word refusal) left p' w' =
    (k : ℕ) × (n ≡ k + 1) × LastTurn steps draws now conn s room all start text fs k (run.Stopped word refusal) left p' w'

drop_behind : {X : Type 0} (n : ℕ) (x : X) (xs : List X) → drop (n + 1) (x ∷ xs) ≡ drop n xs
drop_behind n x xs = let e : n + 1 ≡ suc n = omega arith in rw e refl

last_behind_one : {P W : Type 0} (steps : Steps P) (draws : Draws W) (now conn : ℕ) (s : Stage) (room : ℕ) (all : List Frame) (start : Spot P W) (text : List ℕ)
    (f : Frame) (fs : List Frame) (k : ℕ) (end : RunEnd) (left : List Message) (p' : P) (w' : W) →
    LastTurn steps draws now conn s room all start text fs k end left p' w' → LastTurn steps draws now conn s room all start text (f ∷ fs) (k + 1) end left p' w'
last_behind_one steps draws now conn s room all start text f fs k end left p' w' last =
    record { f = last.f; rest = last.rest; p = last.p; w = last.w; is = drop_behind k f fs ∙ last.is; done = last.done; turn = last.turn; fits = last.fits; ahead = last.ahead }

behind_one : {P W : Type 0} (steps : Steps P) (draws : Draws W) (now conn : ℕ) (s : Stage) (room : ℕ) (all : List Frame) (start : Spot P W) (text : List ℕ)
    (f : Frame) (fs : List Frame) (n : ℕ) (end : RunEnd) (left : List Message) (p' : P) (w' : W) →
    Leads steps draws now conn s room all start text fs n end left p' w' → Leads steps draws now conn s room all start text (f ∷ fs) (n + 1) end left p' w'
behind_one steps draws now conn s room all start text f fs n run.Published left p' w' (done, none) =
    (subst (λ (x : List Frame). Completes steps draws now conn all start text x (spot p' w' s None)) (sym (drop_behind n f fs)) done, none)
behind_one steps draws now conn s room all start text f fs n (run.Answered entry) left p' w' (k, is, last) =
    (k + 1, ap (λ (x : ℕ). x + 1) is, last_behind_one steps draws now conn s room all start text f fs k (run.Answered entry) left p' w' last)
behind_one steps draws now conn s room all start text f fs n (run.Stopped word refusal) left p' w' (k, is, last) =
    (k + 1, ap (λ (x : ℕ). x + 1) is, last_behind_one steps draws now conn s room all start text f fs k (run.Stopped word refusal) left p' w' last)

-- the message at the front ended the run
last_at_first : {P W : Type 0} (steps : Steps P) (draws : Draws W) (now conn : ℕ) (s : Stage) (room : ℕ) (all : List Frame) (start : Spot P W) (text : List ℕ)
    (f : Frame) (fs : List Frame) (m : Message) (left : List Message) (p : P) (w : W) (word : ℕ) (w' : W) (end : RunEnd) (p' : P) →
    IsMessageOf s room f m → IsAhead s room fs left → Completes steps draws now conn all start text (f ∷ fs) (spot p w s None) → draws w word w' →
    EndsRun steps.post steps.holds p (post conn now m word) word end p' → LastTurn steps draws now conn s room all start text (f ∷ fs) 0 end left p' w'
last_at_first steps draws now conn s room all start text f fs m left p w word w' end p' of ahead done drawn ends = record {
  f = f;
  rest = fs;
  p = p;
  w = w;
  is = refl;
  done = done;
  fits = of.fits;
  ahead = ahead;
  turn = λ t told. last_turn steps draws now conn s room f m p w word w' end p' t of drawn ends told;
}

-- the run ends at its first message
at_first : {P W : Type 0} (steps : Steps P) (draws : Draws W) (now conn : ℕ) (s : Stage) (room : ℕ) (all : List Frame) (start : Spot P W) (text : List ℕ)
    (f : Frame) (fs : List Frame) (m : Message) (left : List Message) (p : P) (w : W) (word : ℕ) (w' : W) (end : RunEnd) (p' : P) →
    IsMessageOf s room f m → IsAhead s room fs left → Completes steps draws now conn all start text (f ∷ fs) (spot p w s None) → draws w word w' →
    EndsRun steps.post steps.holds p (post conn now m word) word end p' → Leads steps draws now conn s room all start text (f ∷ fs) 1 end left p' w'
at_first steps draws now conn s room all start text f fs m left p w word w' run.Published p' of ahead done drawn ends = absurd ends
at_first steps draws now conn s room all start text f fs m left p w word w' (run.Answered entry) p' of ahead done drawn ends =
    (0, refl, last_at_first steps draws now conn s room all start text f fs m left p w word w' (run.Answered entry) p' of ahead done drawn ends)
at_first steps draws now conn s room all start text f fs m left p w word w' (run.Stopped kept refusal) p' of ahead done drawn ends =
    (0, refl, last_at_first steps draws now conn s room all start text f fs m left p w word w' (run.Stopped kept refusal) p' of ahead done drawn ends)

-- what so many messages of a run lead to
abbrev pub LeadsOn : {P W : Type 0} → Steps P → Draws W → ℕ → ℕ → Stage → ℕ → List Frame → Spot P W → List ℕ → List Frame → ℕ → RunEnd → List Message → P → W → Type 0
LeadsOn steps draws now conn s room all start text fs count end left p' w' =
    (n : ℕ) × (n + length left ≡ count) × Leads steps draws now conn s room all start text fs n end left p' w'

one_more : {P W : Type 0} (steps : Steps P) (draws : Draws W) (now conn : ℕ) (s : Stage) (room : ℕ) (all : List Frame) (start : Spot P W) (text : List ℕ)
    (f : Frame) (fs : List Frame) (count : ℕ) (end : RunEnd) (left : List Message) (p' : P) (w' : W) →
    LeadsOn steps draws now conn s room all start text fs count end left p' w' → LeadsOn steps draws now conn s room all start text (f ∷ fs) (suc count) end left p' w'
one_more steps draws now conn s room all start text f fs count end left p' w' (n, sum, leads) =
    (n + 1, omega (arith, sum), behind_one steps draws now conn s room all start text f fs n end left p' w' leads)

none_offered : {P W : Type 0} (steps : Steps P) (draws : Draws W) (now conn : ℕ) (s : Stage) (room : ℕ) (all : List Frame) (start : Spot P W) (text : List ℕ)
    (fs : List Frame) (end : RunEnd) (left : List Message) (p : P) (w : W) (p' : P) (w' : W) → end ≡ run.Published → left ≡ [] → p' ≡ p → w' ≡ w →
    Completes steps draws now conn all start text fs (spot p w s None) → LeadsOn steps draws now conn s room all start text fs 0 end left p' w'
none_offered steps draws now conn s room all start text fs end left p w p' w' is none port words done =
    let at : LeadsOn steps draws now conn s room all start text fs 0 run.Published [] p w = (0, refl, (done, refl)) in
    subst (λ (x : RunEnd). LeadsOn steps draws now conn s room all start text fs 0 x left p' w') (sym is)
    (subst (λ (x : List Message). LeadsOn steps draws now conn s room all start text fs 0 run.Published x p' w') (sym none)
    (subst (λ q. LeadsOn steps draws now conn s room all start text fs 0 run.Published [] q w') (sym port)
    (subst (λ v. LeadsOn steps draws now conn s room all start text fs 0 run.Published [] p v) (sym words) at)))

-- a run is the turns of its frames
pub leads : {P W : Type 0} (steps : Steps P) (draws : Draws W) (now conn : ℕ) (s : Stage) (room : ℕ) (all : List Frame) (start : Spot P W) (text : List ℕ)
    (fs : List Frame) (ms : List Message) (p : P) (w : W) (end : RunEnd) (left : List Message) (p' : P) (w' : W) → is_closed s ≡ false → IsAhead s room fs ms →
    Completes steps draws now conn all start text fs (spot p w s None) → IsPosted steps.post steps.holds draws conn now ms p w end left p' w' →
    LeadsOn steps draws now conn s room all start text fs (length ms) end left p' w'
unfolding IsPosted IsAhead
leads steps draws now conn s room all start text fs [] p w end left p' w' still ahead done (is, none, port, words) =
    none_offered steps draws now conn s room all start text fs end left p w p' w' is none port words done
leads steps draws now conn s room all start text [] (m ∷ ms) p w end left p' w' still ahead done h = absurd ahead
leads steps draws now conn s room all start text (f ∷ fs) (m ∷ ms) p w end left p' w' still (of, ahead) done (word, next, drawn, inl (entry, mid, step, published, more)) =
    let turn = published_turn steps draws now conn s room f m p w word next entry mid of drawn step published in
    let told = completes_goes steps draws now conn all start text (spot p w s None) (f ∷ fs) f fs (told_text [] s) mid next refl done still turn in
    let at = subst (λ (x : List ℕ). Completes steps draws now conn all start x fs (spot mid next s None)) (append-nil text) told in
    one_more steps draws now conn s room all start text f fs (length ms) end left p' w'
    (leads steps draws now conn s room all start text fs ms mid next end left p' w' still ahead at more)
leads {P} {W} steps draws now conn s room all start text (f ∷ fs) (m ∷ ms) p w end left p' w' still (of, ahead) done (word, next, drawn, inr (ends, is, words)) =
    let at : LeadsOn steps draws now conn s room all start text (f ∷ fs) (length (m ∷ ms)) end ms p' next =
    (1, omega arith, at_first steps draws now conn s room all start text f fs m ms p w word next end p' of ahead done drawn ends) in
    subst (λ (x : List Message). LeadsOn steps draws now conn s room all start text (f ∷ fs) (length (m ∷ ms)) end x p' w') (sym is)
    (subst (λ (v : W). LeadsOn steps draws now conn s room all start text (f ∷ fs) (length (m ∷ ms)) end ms p' v) (sym words) at)
