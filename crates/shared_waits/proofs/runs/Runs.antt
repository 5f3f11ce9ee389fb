-- Runs of messages: how they go on, what they are of another state, and how two are one.
use Rattle.std.proofs.Common.{◌≡◌, ◌∷◌, ◌++◌, ◌≤◌, ◌<◌, [], ℕ, List, Option, Some, None, Result, Ok, Err, true, ap, refl, inl, inr, subst, sym, length, append-nil, append_assoc, arith}
use Rattle.events.specs.Messages.{Message}
use Rattle.events.specs.Runs.{IsPosted, EndsRun, post, was_published}
use Rattle.events.specs.Offers.{IsOffered}
use Rattle.events.specs.declared.event.Event.{Event}
use Rattle.events.specs.declared.answer.Entry.{Entry}
use Rattle.events.specs.declared.refusal.HubRefusal.{HubRefusal}
use Rattle.events.specs.declared.refusal.PublishRefusal.TheVariants.{Held}
use Rattle.events.specs.declared.run.RunEnd.{RunEnd}
use Rattle.events.specs.declared.run.RunEnd.TheVariants as run
use Rattle.shared_waits.specs.runs.Runs.{Came, Offers, Draws, IsBack, IsRun, told_end, word_of}

-- ---- of other states

-- a run leads along a function of the states
pub run_along : {P Q W : Type 0} (f : P → Q) (offered : Offers P) (gives : Offers Q) (draws : Draws W) (conn now : ℕ)
    → ((p : P) (e : Event) (r : Came) (p' : P) → offered p e r p' → gives (f p) e r (f p'))
    → (ms : List Message) (p : P) (w : W) (answers : List Entry) (end : Option Came) (left : List Message) (p' : P) (w' : W)
    → IsRun offered draws conn now ms p w answers end left p' w' → IsRun gives draws conn now ms (f p) w answers end left (f p') w'
unfolding IsRun
run_along f offered gives draws conn now each [] p w answers end left p' w' (none, is, gone, same, words) = (none, is, gone, ap f same, words)
run_along f offered gives draws conn now each (m ∷ ms) p w answers end left p' w' (word, next, drawn, inl (entry, mid, rest, step, published, is, more)) =
    (word, next, drawn, inl (entry, f mid, rest, each p _ _ mid step, published, is, run_along f offered gives draws conn now each ms mid next rest end left p' w' more))
run_along f offered gives draws conn now each (m ∷ ms) p w answers end left p' w' (word, next, drawn, inr (r, step, back, none, is, gone, words)) =
    (word, next, drawn, inr (r, each p _ r p' step, back, none, is, gone, words))

-- A run of a part is a run of the whole, between any wholes that have the part: each step of the part is one of the wholes, and
-- some whole has the part wherever it comes to.
part : {P S W : Type 0} (has : S → P → Type 0) (put : S → P) (offered : Offers S) (gives : Offers P) (draws : Draws W) (conn now : ℕ)
    → ((s : S) → has s (put s))
    → ((a : S) (p : P) (e : Event) (r : Came) (b : S) (q : P) → has a p → has b q → offered a e r b → gives p e r q)
    → (m : Message) (ms : List Message) (s : S) (p : P) (w : W) (answers : List Entry) (end : Option Came) (left : List Message) (s' : S) (p' : P) (w' : W)
    → has s p → has s' p' → IsRun offered draws conn now (m ∷ ms) s w answers end left s' w' → IsRun gives draws conn now (m ∷ ms) p w answers end left p' w'
unfolding IsRun
part has put offered gives draws conn now there each m [] s p w answers end left s' p' w' first last (word, next, drawn, inl (entry, mid, rest, step, published, is, (none, ended, gone, same, words))) =
    (word, next, drawn, inl (entry, p', rest, each s p _ _ mid p' first (subst (λ x. has x p') same last) step, published, is, (none, ended, gone, refl, words)))
part has put offered gives draws conn now there each m (n ∷ ms) s p w answers end left s' p' w' first last (word, next, drawn, inl (entry, mid, rest, step, published, is, more)) = (
  word,
  next,
  drawn,
  inl (
    entry,
    put mid,
    rest,
    each s p _ _ mid (put mid) first (there mid) step,
    published,
    is,
    part has put offered gives draws conn now there each n ms mid (put mid) next rest end left s' p' w' (there mid) last more,
  ),
)
part has put offered gives draws conn now there each m ms s p w answers end left s' p' w' first last (word, next, drawn, inr (r, step, back, none, is, gone, words)) =
    (word, next, drawn, inr (r, each s p _ r s' p' first last step, back, none, is, gone, words))

pub run_of_part : {P S W : Type 0} (has : S → P → Type 0) (put : S → P) (offered : Offers S) (gives : Offers P) (draws : Draws W) (conn now : ℕ)
    → ((s : S) → has s (put s))
    → ((a : S) (p : P) (e : Event) (r : Came) (b : S) (q : P) → has a p → has b q → offered a e r b → gives p e r q)
    → (ms : List Message) (s : S) (p : P) (w : W) (answers : List Entry) (end : Option Came) (left : List Message) (s' : S) (p' : P) (w' : W)
    → 0 < length ms → has s p → has s' p' → IsRun offered draws conn now ms s w answers end left s' w' → IsRun gives draws conn now ms p w answers end left p' w'
run_of_part has put offered gives draws conn now there each [] s p w answers end left s' p' w' some first last h = absurd (omega (arith, some))
run_of_part has put offered gives draws conn now there each (m ∷ ms) s p w answers end left s' p' w' some first last h =
    part has put offered gives draws conn now there each m ms s p w answers end left s' p' w' first last h

-- what was offered last is offered once more
pub run_again : {P W : Type 0} (offered : Offers P) (draws : Draws W) (conn now : ℕ) (p' q' : P) (r s : Came)
    → ((p : P) (e : Event) → IsBack e r → offered p e r p' → offered p e s q' × IsBack e s)
    → (ms : List Message) (p : P) (w : W) (answers : List Entry) (left : List Message) (w' : W)
    → IsRun offered draws conn now ms p w answers (Some r) left p' w' → IsRun offered draws conn now ms p w answers (Some s) left q' w'
unfolding IsRun
run_again offered draws conn now p' q' r s each [] p w answers left w' (none, is, gone, same, words) = absurd (cc)
run_again offered draws conn now p' q' r s each (m ∷ ms) p w answers left w' (word, next, drawn, inl (entry, mid, rest, step, published, is, more)) =
    (word, next, drawn, inl (entry, mid, rest, step, published, is, run_again offered draws conn now p' q' r s each ms mid next rest left w' more))
run_again {P} {W} offered draws conn now p' q' r s each (m ∷ ms) p w answers left w' (word, next, drawn, inr (x, step, back, none, is, gone, words)) =
    let same : x ≡ r = sym (cc) in
    let e = post conn now m word in
    let again = each p e (subst (IsBack e) same back) (subst (λ (y : Came). offered p e y p') same step) in
    (word, next, drawn, inr (s, again.0, again.1, none, refl, gone, words))

-- ---- as a port tells it

-- a run of offers to a port is what the port posts
pub posted_run : {P W : Type 0} (steps : P → Event → Result Entry (Event × HubRefusal) → P → Type 0) (holds : P → P → Type 0) (draws : Draws W) (conn now : ℕ)
    (ms : List Message) (p : P) (w : W) (answers : List Entry) (end : Option Came) (left : List Message) (p' : P) (w' : W)
    → IsRun (IsOffered steps holds) draws conn now ms p w answers end left p' w' → IsPosted steps holds draws conn now ms p w (told_end end) left p' w'
unfolding IsRun IsPosted
posted_run steps holds draws conn now [] p w answers end left p' w' (none, is, gone, same, words) = (ap told_end is, gone, same, words)
posted_run steps holds draws conn now (m ∷ ms) p w answers end left p' w' (word, next, drawn, inl (entry, mid, rest, step, published, is, more)) =
    (word, next, drawn, inl (entry, mid, step, published, posted_run steps holds draws conn now ms mid next rest end left p' w' more))
posted_run steps holds draws conn now (m ∷ ms) p w answers end left p' w' (word, next, drawn, inr (Ok entry, step, back, none, is, gone, words)) =
    let E : RunEnd → Type 0 = λ x. EndsRun steps holds p (post conn now m word) word x p' in
    (word, next, drawn, inr (subst E (sym (ap told_end is)) step, gone, words))
posted_run steps holds draws conn now (m ∷ ms) p w answers end left p' w' (word, next, drawn, inr (Err refused, step, back, none, is, gone, words)) =
    let E : RunEnd → Type 0 = λ x. EndsRun steps holds p (post conn now m word) word x p' in
    (word, next, drawn, inr (subst E (sym (ap told_end is)) (ap (λ (e : Event). word_of e.what) back, (refused.0, step)), gone, words))

-- the first was held back, and nothing was submitted
first_held : {P W : Type 0} (steps : P → Event → Result Entry (Event × HubRefusal) → P → Type 0) (holds : P → P → Type 0) (draws : Draws W) (conn now : ℕ)
    (m : Message) (ms : List Message) (p : P) (w : W) (word : ℕ) (p' : P) (w' : W)
    → draws w word w' → holds p p' → IsPosted steps holds draws conn now (m ∷ ms) p w (run.Stopped word Held) ms p' w'
unfolding IsPosted
first_held steps holds draws conn now m ms p w word p' w' drawn held = (word, w', drawn, inr ((refl, (post conn now m word, held)), refl, refl))

pub posted_held : {P W : Type 0} (steps : P → Event → Result Entry (Event × HubRefusal) → P → Type 0) (holds : P → P → Type 0) (draws : Draws W) (conn now : ℕ)
    (all : List Message) (m : Message) (ms : List Message) (p : P) (w : W) (word : ℕ) (p' : P) (w' : W)
    → all ≡ m ∷ ms → draws w word w' → holds p p' → IsPosted steps holds draws conn now all p w (run.Stopped word Held) ms p' w'
posted_held steps holds draws conn now all m ms p w word p' w' is drawn held =
    subst (λ (l : List Message). IsPosted steps holds draws conn now l p w (run.Stopped word Held) ms p' w') (sym is)
    (first_held steps holds draws conn now m ms p w word p' w' drawn held)

-- ---- one behind another

-- a run that ended behind a message that was published, and the run of those that were left, are one
pub joined : {P W : Type 0} (steps : P → Event → Result Entry (Event × HubRefusal) → P → Type 0) (holds : P → P → Type 0) (draws : Draws W) (conn now : ℕ)
    (ms : List Message) (p : P) (w : W) (entry : Entry) (left : List Message) (q : P) (v : W) (end : RunEnd) (rest : List Message) (p' : P) (w' : W)
    → was_published entry.outcome ≡ true → IsPosted steps holds draws conn now ms p w (run.Answered entry) left q v
    → IsPosted steps holds draws conn now left q v end rest p' w' → IsPosted steps holds draws conn now ms p w end rest p' w'
unfolding IsPosted
joined steps holds draws conn now [] p w entry left q v end rest p' w' published (is, gone, same, words) h = absurd (cc)
joined steps holds draws conn now (m ∷ ms) p w entry left q v end rest p' w' published (word, next, drawn, inl (first, mid, step, was, more)) h =
    (word, next, drawn, inl (first, mid, step, was, joined steps holds draws conn now ms mid next entry left q v end rest p' w' published more h))
joined {P} {W} steps holds draws conn now (m ∷ ms) p w entry left q v end rest p' w' published (word, next, drawn, inr (ends, gone, words)) h =
    let L : List Message → Type 0 = λ l. IsPosted steps holds draws conn now l q v end rest p' w' in
    let V : W → Type 0 = λ x. IsPosted steps holds draws conn now ms q x end rest p' w' in
    (word, next, drawn, inl (entry, q, ends, published, subst V words (subst L gone h)))

-- the same behind one that was published to its end
pub joined_all : {P W : Type 0} (steps : P → Event → Result Entry (Event × HubRefusal) → P → Type 0) (holds : P → P → Type 0) (draws : Draws W) (conn now : ℕ)
    (ms : List Message) (p : P) (w : W) (left : List Message) (q : P) (v : W) (end : RunEnd) (rest : List Message) (p' : P) (w' : W)
    → IsPosted steps holds draws conn now ms p w run.Published left q v
    → IsPosted steps holds draws conn now left q v end rest p' w' → IsPosted steps holds draws conn now ms p w end rest p' w'
unfolding IsPosted
joined_all {P} {W} steps holds draws conn now [] p w left q v end rest p' w' (is, gone, same, words) h =
    let L : List Message → Type 0 = λ l. IsPosted steps holds draws conn now l q v end rest p' w' in
    let Q : P → Type 0 = λ x. IsPosted steps holds draws conn now [] x v end rest p' w' in
    let V : W → Type 0 = λ x. IsPosted steps holds draws conn now [] p x end rest p' w' in
    subst V words (subst Q same (subst L gone h))
joined_all steps holds draws conn now (m ∷ ms) p w left q v end rest p' w' (word, next, drawn, inl (first, mid, step, was, more)) h =
    (word, next, drawn, inl (first, mid, step, was, joined_all steps holds draws conn now ms mid next left q v end rest p' w' more h))
joined_all steps holds draws conn now (m ∷ ms) p w left q v end rest p' w' (word, next, drawn, inr (ends, gone, words)) h = absurd ends

-- fewer are left of a run of some
fewer : {P W : Type 0} (steps : P → Event → Result Entry (Event × HubRefusal) → P → Type 0) (holds : P → P → Type 0) (draws : Draws W) (conn now : ℕ)
    (m : Message) (ms : List Message) (p : P) (w : W) (end : RunEnd) (left : List Message) (p' : P) (w' : W)
    → IsPosted steps holds draws conn now (m ∷ ms) p w end left p' w' → length left ≤ length ms
unfolding IsPosted
fewer steps holds draws conn now m [] p w end left p' w' (word, next, drawn, inl (first, mid, step, was, (is, gone, same, words))) =
    let none = ap (λ (l : List Message). length l) gone in omega (arith, none)
fewer steps holds draws conn now m (n ∷ ms) p w end left p' w' (word, next, drawn, inl (first, mid, step, was, more)) =
    let less = fewer steps holds draws conn now n ms mid next end left p' w' more in omega (arith, less)
fewer steps holds draws conn now m ms p w end left p' w' (word, next, drawn, inr (ends, gone, words)) =
    let same = ap (λ (l : List Message). length l) gone in omega (arith, same)

pub nearer : {P W : Type 0} (steps : P → Event → Result Entry (Event × HubRefusal) → P → Type 0) (holds : P → P → Type 0) (draws : Draws W) (conn now : ℕ)
    (ms : List Message) (p : P) (w : W) (end : RunEnd) (left : List Message) (p' : P) (w' : W) → 0 < length ms
    → IsPosted steps holds draws conn now ms p w end left p' w' → length left < length ms
nearer steps holds draws conn now [] p w end left p' w' some h = absurd (omega (arith, some))
nearer steps holds draws conn now (m ∷ ms) p w end left p' w' some h = let less = fewer steps holds draws conn now m ms p w end left p' w' h in omega (arith, less)

-- what is left, once it is posted, completes what was posted before
abbrev pub Completes : {P W : Type 0} → (P → Event → Result Entry (Event × HubRefusal) → P → Type 0) → (P → P → Type 0) → Draws W
    → ℕ → ℕ → List Message → P → W → List Message → P → W → Type 0
Completes {P} {W} steps holds draws conn now all p w left q v =
    (end : RunEnd) (rest : List Message) (p' : P) (w' : W) → IsPosted steps holds draws conn now left q v end rest p' w' → IsPosted steps holds draws conn now all p w end rest p' w'

pub completes_answered : {P W : Type 0} (steps : P → Event → Result Entry (Event × HubRefusal) → P → Type 0) (holds : P → P → Type 0) (draws : Draws W) (conn now : ℕ)
    (all : List Message) (p : P) (w : W) (ms : List Message) (q : P) (v : W) (entry : Entry) (left : List Message) (q' : P) (v' : W)
    → Completes steps holds draws conn now all p w ms q v → was_published entry.outcome ≡ true → IsPosted steps holds draws conn now ms q v (run.Answered entry) left q' v'
    → Completes steps holds draws conn now all p w left q' v'
completes_answered steps holds draws conn now all p w ms q v entry left q' v' done published posted end rest p' w' h =
    done end rest p' w' (joined steps holds draws conn now ms q v entry left q' v' end rest p' w' published posted h)

pub completes_published : {P W : Type 0} (steps : P → Event → Result Entry (Event × HubRefusal) → P → Type 0) (holds : P → P → Type 0) (draws : Draws W) (conn now : ℕ)
    (all : List Message) (p : P) (w : W) (ms : List Message) (q : P) (v : W) (left : List Message) (q' : P) (v' : W)
    → Completes steps holds draws conn now all p w ms q v → IsPosted steps holds draws conn now ms q v run.Published left q' v'
    → Completes steps holds draws conn now all p w left q' v'
completes_published steps holds draws conn now all p w ms q v left q' v' done posted end rest p' w' h =
    done end rest p' w' (joined_all steps holds draws conn now ms q v left q' v' end rest p' w' posted h)

none_posted : {P W : Type 0} (steps : P → Event → Result Entry (Event × HubRefusal) → P → Type 0) (holds : P → P → Type 0) (draws : Draws W) (conn now : ℕ) (q : P) (v : W)
    → IsPosted steps holds draws conn now [] q v run.Published [] q v
unfolding IsPosted
none_posted steps holds draws conn now q v = (refl, refl, refl, refl)

pub completes_none : {P W : Type 0} (steps : P → Event → Result Entry (Event × HubRefusal) → P → Type 0) (holds : P → P → Type 0) (draws : Draws W) (conn now : ℕ)
    (all : List Message) (p : P) (w : W) (left : List Message) (q : P) (v : W) → left ≡ [] → Completes steps holds draws conn now all p w left q v
    → IsPosted steps holds draws conn now all p w run.Published left q v
completes_none steps holds draws conn now all p w left q v none done =
    let L : List Message → Type 0 = λ l. IsPosted steps holds draws conn now l q v run.Published l q v in
    done run.Published left q v (subst L (sym none) (none_posted steps holds draws conn now q v))

-- ---- as a loop offers them

-- what is left, once it is offered, completes the run of all; these have answered so far
abbrev pub Continues : {P W : Type 0} → Offers P → Draws W → ℕ → ℕ → List Message → P → W → List Entry → List Message → P → W → Type 0
Continues {P} {W} offered draws conn now all p w answers left q v =
    (more : List Entry) (end : Option Came) (rest : List Message) (p' : P) (w' : W)
    → IsRun offered draws conn now left q v more end rest p' w' → IsRun offered draws conn now all p w (answers ++ more) end rest p' w'

-- one more was published
one_more : {P W : Type 0} (offered : Offers P) (draws : Draws W) (conn now : ℕ)
    (all : List Message) (p : P) (w : W) (answers : List Entry) (m : Message) (ms : List Message) (q : P) (v : W) (word : ℕ) (v' : W) (entry : Entry) (q' : P) →
    Continues offered draws conn now all p w answers (m ∷ ms) q v → draws v word v' → offered q (post conn now m word) (Ok entry) q' → was_published entry.outcome ≡ true →
    Continues offered draws conn now all p w (answers ++ entry ∷ []) ms q' v'
unfolding IsRun
one_more {P} {W} offered draws conn now all p w answers m ms q v word v' entry q' done drawn step published more end rest p' w' h =
    let A : List Entry → Type 0 = λ l. IsRun offered draws conn now all p w l end rest p' w' in
    subst A (sym (append_assoc answers (entry ∷ []) more))
    (done (entry ∷ more) end rest p' w' (word, v', drawn, inl (entry, q', more, step, published, refl, h)))

-- the next one ended it
ended_here : {P W : Type 0} (offered : Offers P) (draws : Draws W) (conn now : ℕ)
    (all : List Message) (p : P) (w : W) (answers : List Entry) (m : Message) (ms : List Message) (q : P) (v : W) (word : ℕ) (v' : W) (r : Came) (q' : P) →
    Continues offered draws conn now all p w answers (m ∷ ms) q v → draws v word v' → offered q (post conn now m word) r q' → IsBack (post conn now m word) r →
    IsRun offered draws conn now all p w answers (Some r) ms q' v'
unfolding IsRun
ended_here offered draws conn now all p w answers m ms q v word v' r q' done drawn step back =
    let A : List Entry → Type 0 = λ l. IsRun offered draws conn now all p w l (Some r) ms q' v' in
    subst A (append-nil answers) (done [] (Some r) ms q' v' (word, v', drawn, inr (r, step, back, refl, refl, refl, refl)))

-- none is left
none_left : {P W : Type 0} (offered : Offers P) (draws : Draws W) (conn now : ℕ) (all : List Message) (p : P) (w : W) (answers : List Entry) (q : P) (v : W) →
    Continues offered draws conn now all p w answers [] q v → IsRun offered draws conn now all p w answers None [] q v
unfolding IsRun
none_left offered draws conn now all p w answers q v done =
    let A : List Entry → Type 0 = λ l. IsRun offered draws conn now all p w l None [] q v in
    subst A (append-nil answers) (done [] None [] q v (refl, refl, refl, refl, refl))

-- the same of the first of those that are left, and of its event
pub run_more : {P W : Type 0} (offered : Offers P) (draws : Draws W) (conn now : ℕ)
    (all : List Message) (p : P) (w : W) (answers : List Entry) (left : List Message) (m : Message) (ms : List Message) (q : P) (v : W) (word : ℕ) (v' : W) (e : Event) (entry : Entry) (q' : P) →
    left ≡ m ∷ ms → e ≡ post conn now m word → Continues offered draws conn now all p w answers left q v → draws v word v' → offered q e (Ok entry) q' → was_published entry.outcome ≡ true →
    Continues offered draws conn now all p w (answers ++ entry ∷ []) ms q' v'
run_more offered draws conn now all p w answers left m ms q v word v' e entry q' is of done drawn step published =
    let L : List Message → Type 0 = λ l. Continues offered draws conn now all p w answers l q v in
    let E : Event → Type 0 = λ x. offered q x (Ok entry) q' in
    one_more offered draws conn now all p w answers m ms q v word v' entry q' (subst L is done) drawn (subst E of step) published

pub run_ended : {P W : Type 0} (offered : Offers P) (draws : Draws W) (conn now : ℕ)
    (all : List Message) (p : P) (w : W) (answers : List Entry) (left : List Message) (m : Message) (ms : List Message) (q : P) (v : W) (word : ℕ) (v' : W) (e : Event) (r : Came) (q' : P) →
    left ≡ m ∷ ms → e ≡ post conn now m word → Continues offered draws conn now all p w answers left q v → draws v word v' → offered q e r q' → IsBack e r →
    IsRun offered draws conn now all p w answers (Some r) ms q' v'
run_ended offered draws conn now all p w answers left m ms q v word v' e r q' is of done drawn step back =
    let L : List Message → Type 0 = λ l. Continues offered draws conn now all p w answers l q v in
    let E : Event → Type 0 = λ x. offered q x r q' × IsBack x r in
    let known = subst E of (step, back) in
    ended_here offered draws conn now all p w answers m ms q v word v' r q' (subst L is done) drawn known.0 known.1

pub run_all : {P W : Type 0} (offered : Offers P) (draws : Draws W) (conn now : ℕ) (all : List Message) (p : P) (w : W) (answers : List Entry) (left rest : List Message) (q : P) (v : W) →
    left ≡ [] → rest ≡ [] → Continues offered draws conn now all p w answers left q v → IsRun offered draws conn now all p w answers None rest q v
run_all offered draws conn now all p w answers left rest q v none gone done =
    let L : List Message → Type 0 = λ l. Continues offered draws conn now all p w answers l q v in
    let R : List Message → Type 0 = λ l. IsRun offered draws conn now all p w answers None l q v in
    subst R (sym gone) (none_left offered draws conn now all p w answers q v (subst L none done))
