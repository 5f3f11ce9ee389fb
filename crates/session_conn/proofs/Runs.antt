-- How the turns of frames go on.
use Rattle.std.proofs.Common.{◌≡◌, ◌∷◌, ◌++◌, [], ℕ, List, Bool, Option, Some, None, true, false, drop, length, ◌<◌, arith, refl, sym, subst, ◌∙◌, ap}
use Rattle.std.proofs.lemmas.List.{append_assoc, append-nil}
use Rattle.wire_read.specs.declared.frame.Frame.{Frame}
use Rattle.session_plan.specs.declared.stage.Stage.{Stage}
use Rattle.session_conn.specs.declared.output.Stall.{Stall}
use Rattle.session_conn.specs.declared.turn.FrameTurn.TheVariants as turn
use Rattle.session_plan.specs.Replies.{Told, told_text, is_closed}
use Rattle.session_conn.specs.Turns.{Steps, Draws, Turned, Goes, Stalls, IsFrameTurn, IsFrameTurned}
use Rattle.session_conn.specs.Serving.{Spot, spot, Served, served, rests, behind, UnlessClosed, IsFollowed, Serves}
use Rattle.session_conn.specs.Running.{Completes, Went}

-- nothing had its turn yet
pub completes_start : {P W : Type 0} (steps : Steps P) (draws : Draws W) (now conn : ℕ) (all : List Frame) (at : Spot P W) →
    Completes steps draws now conn all at [] all at
completes_start steps draws now conn all at r h = h

-- before a closing text, and after it
while_open : {P W : Type 0} (b : Bool) (at : Spot P W) (r : Served P W) (X : Type 0) → b ≡ false → X → UnlessClosed b at r X
while_open true at r X h x = absurd (cc)
while_open false at r X h x = x

once_closed : {P W : Type 0} (b : Bool) (at : Spot P W) (X : Type 0) → b ≡ true → UnlessClosed b at (rests at) X
once_closed true at X h = refl
once_closed false at X h = absurd (cc)

-- the next frame had its turn
goes_on : {P W : Type 0} (steps : Steps P) (draws : Draws W) (now conn : ℕ) (all : List Frame) (start : Spot P W) (text : List ℕ) (at : Spot P W)
    (f : Frame) (fs : List Frame) (t : Told) (p : P) (w : W) →
    Completes steps draws now conn all start text (f ∷ fs) at → is_closed at.stage ≡ false →
    IsFrameTurn steps draws now conn at.stage at.word f at.port at.words (Goes t) p w →
    Completes steps draws now conn all start (text ++ t.text) fs (spot p w t.stage None)
unfolding Serves
goes_on {P} {W} steps draws now conn all start text at f fs t p w done still turn r h =
    let whole = done (behind t.text r) (while_open (is_closed at.stage) at (behind t.text r)
    ((t' : Turned) × (p' : P) × (w' : W) × IsFrameTurn steps draws now conn at.stage at.word f at.port at.words t' p' w'
    × IsFollowed (Serves steps draws now conn fs) (f ∷ fs) at.stage t' p' w' (behind t.text r))
    still (Goes t, p, w, turn, (r, h, refl))) in
    subst (λ (x : List ℕ). Serves steps draws now conn all start (served x r.frames r.stall r.at)) (sym (append_assoc text t.text r.text)) whole

pub completes_goes : {P W : Type 0} (steps : Steps P) (draws : Draws W) (now conn : ℕ) (all : List Frame) (start : Spot P W) (text : List ℕ) (at : Spot P W)
    (left : List Frame) (f : Frame) (fs : List Frame) (t : Told) (p : P) (w : W) → left ≡ f ∷ fs →
    Completes steps draws now conn all start text left at → is_closed at.stage ≡ false →
    IsFrameTurn steps draws now conn at.stage at.word f at.port at.words (Goes t) p w →
    Completes steps draws now conn all start (text ++ t.text) fs (spot p w t.stage None)
completes_goes steps draws now conn all start text at left f fs t p w is done =
    goes_on steps draws now conn all start text at f fs t p w (subst (λ (x : List Frame). Completes steps draws now conn all start text x at) is done)

-- the same of what the code answers, once what is told is written
pub completes_written : {P W : Type 0} (steps : Steps P) (draws : Draws W) (now conn : ℕ) (all : List Frame) (start : Spot P W) (text : List ℕ) (at : Spot P W)
    (left : List Frame) (f : Frame) (fs : List Frame) (s : Stage) (after : List ℕ) (p : P) (w : W) → left ≡ f ∷ fs →
    Completes steps draws now conn all start text left at → is_closed at.stage ≡ false →
    IsFrameTurned (λ t. IsFrameTurn steps draws now conn at.stage at.word f at.port at.words t p w) (turn.Goes s) text after →
    Completes steps draws now conn all start after fs (spot p w s None)
completes_written steps draws now conn all start text at left f fs s after p w is done still (told, goes, written) =
    subst (λ (x : List ℕ). Completes steps draws now conn all start x fs (spot p w s None)) (sym written)
    (completes_goes steps draws now conn all start text at left f fs (told_text told s) p w is done still goes)

-- the next frame stalled, and all is left
stalled : {P W : Type 0} (steps : Steps P) (draws : Draws W) (now conn : ℕ) (all : List Frame) (start : Spot P W) (text : List ℕ) (at : Spot P W)
    (f : Frame) (fs : List Frame) (stall : Stall) (word : Option ℕ) (p : P) (w : W) →
    Completes steps draws now conn all start text (f ∷ fs) at → is_closed at.stage ≡ false →
    IsFrameTurn steps draws now conn at.stage at.word f at.port at.words (Stalls stall word) p w →
    Serves steps draws now conn all start (served text (f ∷ fs) (Some stall) (spot p w at.stage word))
unfolding Serves
stalled {P} {W} steps draws now conn all start text at f fs stall word p w done still turn =
    let r : Served P W = served [] (f ∷ fs) (Some stall) (spot p w at.stage word) in
    let whole = done r (while_open (is_closed at.stage) at r
    ((t' : Turned) × (p' : P) × (w' : W) × IsFrameTurn steps draws now conn at.stage at.word f at.port at.words t' p' w'
    × IsFollowed (Serves steps draws now conn fs) (f ∷ fs) at.stage t' p' w' r)
    still (Stalls stall word, p, w, turn, refl)) in
    subst (λ (x : List ℕ). Serves steps draws now conn all start (served x (f ∷ fs) (Some stall) (spot p w at.stage word))) (append-nil text) whole

pub completes_stalls : {P W : Type 0} (steps : Steps P) (draws : Draws W) (now conn : ℕ) (all : List Frame) (start : Spot P W) (text : List ℕ) (at : Spot P W)
    (left : List Frame) (f : Frame) (fs : List Frame) (stall : Stall) (word : Option ℕ) (p : P) (w : W) → left ≡ f ∷ fs →
    Completes steps draws now conn all start text left at → is_closed at.stage ≡ false →
    IsFrameTurn steps draws now conn at.stage at.word f at.port at.words (Stalls stall word) p w →
    Serves steps draws now conn all start (served text left (Some stall) (spot p w at.stage word))
completes_stalls steps draws now conn all start text at left f fs stall word p w is done still turn =
    subst (λ (x : List Frame). Serves steps draws now conn all start (served text x (Some stall) (spot p w at.stage word))) (sym is)
    (stalled steps draws now conn all start text at f fs stall word p w (subst (λ (x : List Frame). Completes steps draws now conn all start text x at) is done) still turn)

-- the same of what the code answers, where nothing is written
pub completes_stopped : {P W : Type 0} (steps : Steps P) (draws : Draws W) (now conn : ℕ) (all : List Frame) (start : Spot P W) (text : List ℕ) (at : Spot P W)
    (left : List Frame) (f : Frame) (fs : List Frame) (stall : Stall) (word : Option ℕ) (after : List ℕ) (p : P) (w : W) → left ≡ f ∷ fs →
    Completes steps draws now conn all start text left at → is_closed at.stage ≡ false →
    IsFrameTurned (λ t. IsFrameTurn steps draws now conn at.stage at.word f at.port at.words t p w) (turn.Stalls stall word) text after →
    Serves steps draws now conn all start (served after left (Some stall) (spot p w at.stage word))
completes_stopped steps draws now conn all start text at left f fs stall word after p w is done still (stalls, same) =
    subst (λ (x : List ℕ). Serves steps draws now conn all start (served x left (Some stall) (spot p w at.stage word))) (sym same)
    (completes_stalls steps draws now conn all start text at left f fs stall word p w is done still stalls)

-- the connection has closed, or no frame is left
rested : {P W : Type 0} (steps : Steps P) (draws : Draws W) (now conn : ℕ) (all : List Frame) (start : Spot P W) (text : List ℕ) (at : Spot P W) →
    Serves steps draws now conn all start (behind text (rests at)) → Serves steps draws now conn all start (served text [] None at)
rested steps draws now conn all start text at whole =
    subst (λ (x : List ℕ). Serves steps draws now conn all start (served x [] None at)) (append-nil text) whole

closed_with : {P W : Type 0} (steps : Steps P) (draws : Draws W) (now conn : ℕ) (all : List Frame) (start : Spot P W) (text : List ℕ) (at : Spot P W)
    (f : Frame) (fs : List Frame) → Completes steps draws now conn all start text (f ∷ fs) at → is_closed at.stage ≡ true →
    Serves steps draws now conn all start (behind text (rests at))
unfolding Serves
closed_with {P} {W} steps draws now conn all start text at f fs done closed =
    done (rests at) (once_closed (is_closed at.stage) at
    ((t' : Turned) × (p' : P) × (w' : W) × IsFrameTurn steps draws now conn at.stage at.word f at.port at.words t' p' w'
    × IsFollowed (Serves steps draws now conn fs) (f ∷ fs) at.stage t' p' w' (rests at))
    closed)

pub completes_closed : {P W : Type 0} (steps : Steps P) (draws : Draws W) (now conn : ℕ) (all : List Frame) (start : Spot P W) (text : List ℕ) (at : Spot P W)
    (left : List Frame) (f : Frame) (fs : List Frame) → left ≡ f ∷ fs → Completes steps draws now conn all start text left at → is_closed at.stage ≡ true →
    Serves steps draws now conn all start (served text [] None at)
completes_closed steps draws now conn all start text at left f fs is done closed =
    rested steps draws now conn all start text at
    (closed_with steps draws now conn all start text at f fs (subst (λ (x : List Frame). Completes steps draws now conn all start text x at) is done) closed)

none_left : {P W : Type 0} (steps : Steps P) (draws : Draws W) (now conn : ℕ) (all : List Frame) (start : Spot P W) (text : List ℕ) (at : Spot P W) →
    Completes steps draws now conn all start text [] at → Serves steps draws now conn all start (behind text (rests at))
unfolding Serves
none_left steps draws now conn all start text at done = done (rests at) refl

pub completes_end : {P W : Type 0} (steps : Steps P) (draws : Draws W) (now conn : ℕ) (all : List Frame) (start : Spot P W) (text : List ℕ) (at : Spot P W)
    (left : List Frame) → left ≡ [] → Completes steps draws now conn all start text left at →
    Serves steps draws now conn all start (served text left None at)
completes_end steps draws now conn all start text at left is done =
    subst (λ (x : List Frame). Serves steps draws now conn all start (served text x None at)) (sym is)
    (rested steps draws now conn all start text at
    (none_left steps draws now conn all start text at (subst (λ (x : List Frame). Completes steps draws now conn all start text x at) is done)))

-- ---- some turns, and then the others

-- one turn, by what the code answers
pub went_goes : {P W : Type 0} (steps : Steps P) (draws : Draws W) (now conn : ℕ) (left : List Frame) (at : Spot P W) (f : Frame) (fs : List Frame) (s : Stage)
    (before after : List ℕ) (p : P) (w : W) → left ≡ f ∷ drop 1 left → fs ≡ drop 1 left → is_closed at.stage ≡ false →
    IsFrameTurned (λ t. IsFrameTurn steps draws now conn at.stage at.word f at.port at.words t p w) (turn.Goes s) before after →
    Went steps draws now conn left at (turn.Goes s) before after fs p w
went_goes steps draws now conn left at f fs s before after p w is rest still (told, goes, written) = (
  told,
  written,
  subst (λ (x : List Frame). Completes steps draws now conn left at told x (spot p w s None)) (sym rest)
      (completes_goes steps draws now conn left at [] at left f (drop 1 left) (told_text told s) p w is (completes_start steps draws now conn left at) still goes),
)

pub went_stalls : {P W : Type 0} (steps : Steps P) (draws : Draws W) (now conn : ℕ) (left : List Frame) (at : Spot P W) (f : Frame) (stall : Stall) (word : Option ℕ)
    (before after : List ℕ) (p : P) (w : W) → left ≡ f ∷ drop 1 left → is_closed at.stage ≡ false →
    IsFrameTurned (λ t. IsFrameTurn steps draws now conn at.stage at.word f at.port at.words t p w) (turn.Stalls stall word) before after →
    Went steps draws now conn left at (turn.Stalls stall word) before after left p w
went_stalls steps draws now conn left at f stall word before after p w is still (stalls, same) =
    ([], same ∙ sym (append-nil before), completes_stalls steps draws now conn left at [] at left f (drop 1 left) stall word p w is (completes_start steps draws now conn left at) still stalls)

-- further turns behind those that had been
pub went_on : {P W : Type 0} (steps : Steps P) (draws : Draws W) (now conn : ℕ) (all : List Frame) (start : Spot P W) (text : List ℕ) (left : List Frame) (at : Spot P W)
    (s : Stage) (after : List ℕ) (new : List Frame) (p : P) (w : W) → Completes steps draws now conn all start text left at →
    Went steps draws now conn left at (turn.Goes s) text after new p w → Completes steps draws now conn all start after new (spot p w s None)
went_on steps draws now conn all start text left at s after new p w done (told, is, more) r h =
    subst (λ (x : List ℕ). Serves steps draws now conn all start (served x r.frames r.stall r.at)) (sym (append_assoc text told r.text) ∙ sym (ap (λ (x : List ℕ). x ++ r.text) is))
    (done (behind told r) (more r h))

pub went_off : {P W : Type 0} (steps : Steps P) (draws : Draws W) (now conn : ℕ) (all : List Frame) (start : Spot P W) (text : List ℕ) (left : List Frame) (at : Spot P W)
    (stall : Stall) (word : Option ℕ) (after : List ℕ) (new : List Frame) (p : P) (w : W) → Completes steps draws now conn all start text left at →
    Went steps draws now conn left at (turn.Stalls stall word) text after new p w →
    Serves steps draws now conn all start (served after new (Some stall) (spot p w at.stage word))
went_off steps draws now conn all start text left at stall word after new p w done (told, is, more) =
    subst (λ (x : List ℕ). Serves steps draws now conn all start (served x new (Some stall) (spot p w at.stage word))) (sym is)
    (done (served told new (Some stall) (spot p w at.stage word)) more)

-- the connection has closed, whatever is left
pub closed_at : {P W : Type 0} (steps : Steps P) (draws : Draws W) (now conn : ℕ) (all : List Frame) (start : Spot P W) (text : List ℕ) (left : List Frame) (at : Spot P W) →
    Completes steps draws now conn all start text left at → is_closed at.stage ≡ true → Serves steps draws now conn all start (served text [] None at)
closed_at steps draws now conn all start text [] at done closed =
    rested steps draws now conn all start text at (none_left steps draws now conn all start text at done)
closed_at steps draws now conn all start text (f ∷ fs) at done closed =
    rested steps draws now conn all start text at (closed_with steps draws now conn all start text at f fs done closed)

-- nothing is left below one
pub empty_of : (fs : List Frame) → length fs < 1 → fs ≡ []
empty_of [] few = refl
empty_of (f ∷ fs) few = absurd (omega (arith, few))
