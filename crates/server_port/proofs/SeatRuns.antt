-- What a port posts, by what its seat has offered in a hold of the lock.
use Rattle.std.proofs.Common.{◌≡◌, ◌<◌, ◌∷◌, ℕ, List, Option, Some, Result, Ok, Err, true, ap, inl, inr, length, subst, sym}
use Rattle.events.specs.Messages.{Message}
use Rattle.events.specs.Offers.{IsOffered}
use Rattle.events.specs.Runs.{IsPosted}
use Rattle.events.specs.declared.event.Event.{Event}
use Rattle.events.specs.declared.answer.Entry.{Entry}
use Rattle.events.specs.declared.refusal.HubRefusal.{HubRefusal}
use Rattle.events.specs.declared.refusal.HubRefusal.TheVariants.{HistoryFull}
use Rattle.events.specs.declared.refusal.PublishRefusal.TheVariants.{By, Held}
use Rattle.events.specs.declared.run.RunEnd.{RunEnd}
use Rattle.events.specs.declared.run.RunEnd.TheVariants as run
use Rattle.shared_waits.specs.runs.Runs.{Came, Draws, IsBack, IsRun, told_end}
use Rattle.shared_waits.proofs.runs.Runs.{Completes, completes_answered, completes_published, run_again, run_of_part, posted_run, posted_held}
use Rattle.shared_hub.specs.Entering.{IsOfferedBy, IsPostedBy}
use Rattle.server_port.specs.Ends.{IsEnded, goes_on}

-- an offer of a seat is one of the ports whose seats have as many
offered_at : {P S : Type 0} (seat : P → S) (count : S → ℕ) (opening : ℕ) (a : S) (p : P) (e : Event) (r : Came) (b : S) (q : P) → count (seat p) ≡ count a → count (seat q) ≡ count b
    → IsOfferedBy opening (count a) e r (count b)
    → IsOffered (λ old e r new. IsPostedBy opening (count (seat old)) e r (count (seat new))) (λ old new. count (seat new) ≡ count (seat old)) p e r q
offered_at seat count opening a p e (Ok entry) b q first last h =
    subst (λ n. IsPostedBy opening n e (Ok entry) (count (seat q))) (sym first) (subst (λ n. IsPostedBy opening (count a) e (Ok entry) n) (sym last) h)
offered_at seat count opening a p e (Err (back, By x)) b q first last h =
    subst (λ n. IsPostedBy opening n e (Err (back, x)) (count (seat q))) (sym first) (subst (λ n. IsPostedBy opening (count a) e (Err (back, x)) n) (sym last) h)
offered_at seat count opening a p e (Err (back, Held)) b q first last h =
    subst (λ n. count (seat q) ≡ n) (sym first) (subst (λ n. n ≡ count a) (sym last) h)

-- a run of a seat is what its port has posted
pub posted_by : {P S W : Type 0} (seat : P → S) (put : S → P) (count : S → ℕ) (opening : ℕ) (draws : Draws W) (conn now : ℕ)
    (ms : List Message) (s : S) (p : P) (w : W) (answers : List Entry) (last : Option Came) (end : RunEnd) (left : List Message) (s' : S) (p' : P) (w' : W)
    → ((x : S) → count (seat (put x)) ≡ count x) → 0 < length ms → count (seat p) ≡ count s → count (seat p') ≡ count s' → end ≡ told_end last
    → IsRun (λ a e r b. IsOfferedBy opening (count a) e r (count b)) draws conn now ms s w answers last left s' w'
    → IsPosted (λ old e r new. IsPostedBy opening (count (seat old)) e r (count (seat new))) (λ old new. count (seat new) ≡ count (seat old)) draws conn now ms p w end left p' w'
posted_by {P} seat put count opening draws conn now ms s p w answers last end left s' p' w' there some before after is h =
    let steps : P → Event → Result Entry (Event × HubRefusal) → P → Type 0 = λ old e r new. IsPostedBy opening (count (seat old)) e r (count (seat new)) in
    let holds : P → P → Type 0 = λ old new. count (seat new) ≡ count (seat old) in
    subst (λ (x : RunEnd). IsPosted steps holds draws conn now ms p w x left p' w') (sym is)
    (posted_run steps holds draws conn now ms p w answers last left p' w'
    (run_of_part (λ x q. count (seat q) ≡ count x) put (λ a e r b. IsOfferedBy opening (count a) e r (count b)) (IsOffered steps holds) draws conn now there (offered_at seat count opening)
    ms s p w answers last left s' p' w' some before after h))

-- a port has held the first message back
pub held_first : {P S W : Type 0} (seat : P → S) (count : S → ℕ) (opening : ℕ) (draws : Draws W) (conn now : ℕ)
    (all : List Message) (m : Message) (ms : List Message) (p : P) (w : W) (word : ℕ) (end : RunEnd) (p' : P) (w' : W)
    → end ≡ run.Stopped word Held → all ≡ m ∷ ms → draws w word w' → seat p' ≡ seat p
    → IsPosted (λ old e r new. IsPostedBy opening (count (seat old)) e r (count (seat new))) (λ old new. count (seat new) ≡ count (seat old)) draws conn now all p w end ms p' w'
held_first {P} seat count opening draws conn now all m ms p w word end p' w' is first drawn same =
    let steps : P → Event → Result Entry (Event × HubRefusal) → P → Type 0 = λ old e r new. IsPostedBy opening (count (seat old)) e r (count (seat new)) in
    let holds : P → P → Type 0 = λ old new. count (seat new) ≡ count (seat old) in
    subst (λ (x : RunEnd). IsPosted steps holds draws conn now all p w x ms p' w') (sym is)
    (posted_held steps holds draws conn now all m ms p w word p' w' first drawn (ap count same))

-- an offer of a port, as its seat knows it
pub by_count : {P : Type 0} (count : P → ℕ) (opening : ℕ) (p : P) (e : Event) (r : Came) (q : P)
    → IsOffered (λ old e r new. IsPostedBy opening (count old) e r (count new)) (λ old new. count new ≡ count old) p e r q → IsOfferedBy opening (count p) e r (count q)
by_count count opening p e (Ok entry) q h = h
by_count count opening p e (Err (back, By x)) q h = h
by_count count opening p e (Err (back, Held)) q h = h

-- a message that met a full history has left the seat as it was
full_count : (opening before : ℕ) (e back : Event) (after : ℕ) → IsOfferedBy opening before e (Err (back, By HistoryFull)) after → after ≡ before
full_count opening before e back after h = h.0.1

-- an offer that ended as the run did, of another count that is the same
moved : {S : Type 0} (count : S → ℕ) (opening : ℕ) (s b c : S) (e : Event) (r : Came) → count c ≡ count b
    → IsOfferedBy opening (count s) e r (count b) → IsOfferedBy opening (count s) e r (count c)
moved count opening s b c e r same h = subst (λ n. IsOfferedBy opening (count s) e r n) (sym same) h

-- an offer that met a full history, and the next one, are one
again : {S : Type 0} (count : S → ℕ) (opening : ℕ) (s b c : S) (e back : Event) (r : Came) → back ≡ e
    → IsOfferedBy opening (count s) e (Err (back, By HistoryFull)) (count b) → IsBack back r → IsOfferedBy opening (count b) back r (count c)
    → IsOfferedBy opening (count s) e r (count c) × IsBack e r
again count opening s b c e back r is first handed h = (
  subst (λ x. IsOfferedBy opening (count s) x r (count c)) is (subst (λ n. IsOfferedBy opening n back r (count c)) (full_count opening (count s) e back (count b) first) h),
  subst (λ x. IsBack x r) is handed,
)

-- a run, as its last message ends it
abbrev pub Ends : {S W : Type 0} → (S → ℕ) → ℕ → Draws W → ℕ → ℕ → List Message → S → W → List Entry → List Message → W → S → RunEnd → Type 0
Ends count opening draws conn now ms s w answers left w' c end =
    (r : Came) × (end ≡ told_end (Some r)) × IsRun (λ a e r b. IsOfferedBy opening (count a) e r (count b)) draws conn now ms s w answers (Some r) left c w'

pub run_ends : {S W : Type 0} (count : S → ℕ) (opening : ℕ) (draws : Draws W) (conn now : ℕ) (ms : List Message) (s : S) (w : W) (answers : List Entry) (r : Came)
    (left : List Message) (b c : S) (w' : W) (end : RunEnd) → IsRun (λ a e r b. IsOfferedBy opening (count a) e r (count b)) draws conn now ms s w answers (Some r) left b w'
    → IsEnded opening r (count b) end (count c) → Ends count opening draws conn now ms s w answers left w' c end
run_ends {S} count opening draws conn now ms s w answers r left b c w' end h (inl (is, same)) =
    let each : (p : S) (e : Event) → IsBack e r → IsOfferedBy opening (count p) e r (count b) → IsOfferedBy opening (count p) e r (count c) × IsBack e r =
    λ p e back step. (moved count opening p b c e r same step, back) in
    (r, is, run_again (λ a e r b. IsOfferedBy opening (count a) e r (count b)) draws conn now b c r r each ms s w answers left w' h)
run_ends {S} count opening draws conn now ms s w answers r left b c w' end h (inr (e0, full, (x, is, handed, once))) =
    let each : (p : S) (e : Event) → IsBack e (Err (e0, By HistoryFull)) → IsOfferedBy opening (count p) e (Err (e0, By HistoryFull)) (count b) → IsOfferedBy opening (count p) e x (count c) × IsBack e x =
    λ p e back step. again count opening p b c e e0 x back step handed once in (
      x,
      is,
      run_again (λ a e r b. IsOfferedBy opening (count a) e r (count b)) draws conn now b c (Err (e0, By HistoryFull)) x each ms s w answers left w'
          (subst (λ y. IsRun (λ a e r b. IsOfferedBy opening (count a) e r (count b)) draws conn now ms s w answers (Some y) left b w') full h),
    )

-- what is left behind a hold completes what was posted before
pub completes_on : {P W : Type 0} (steps : P → Event → Result Entry (Event × HubRefusal) → P → Type 0) (holds : P → P → Type 0) (draws : Draws W) (conn now : ℕ)
    (all : List Message) (p : P) (w : W) (ms : List Message) (q : P) (v : W) (end : RunEnd) (left : List Message) (q' : P) (v' : W)
    → Completes steps holds draws conn now all p w ms q v → goes_on end ≡ true → IsPosted steps holds draws conn now ms q v end left q' v'
    → Completes steps holds draws conn now all p w left q' v'
completes_on steps holds draws conn now all p w ms q v run.Published left q' v' done goes posted = completes_published steps holds draws conn now all p w ms q v left q' v' done posted
completes_on steps holds draws conn now all p w ms q v (run.Answered entry) left q' v' done goes posted =
    completes_answered steps holds draws conn now all p w ms q v entry left q' v' done goes posted
completes_on steps holds draws conn now all p w ms q v (run.Stopped word refusal) left q' v' done goes posted = absurd (cc)
