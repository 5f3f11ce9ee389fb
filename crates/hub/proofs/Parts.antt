-- Legal runs one after the other, and what parts of a history keep.
use Rattle.std.proofs.Common.{◌≡◌, ◌+◌, ℕ, List, [], ◌∷◌, ◌++◌, ◌≤◌, length, All, Result, Ok, Err, ap, sym, refl, subst, arith}
use Rattle.events.specs.declared.answer.Entry.{Entry}
use Rattle.events.specs.declared.answer.Outcome.{Outcome}
use Rattle.events.specs.declared.refusal.HubRefusal.{HubRefusal}
use Rattle.world.specs.World.{World, advanced}
use Rattle.world.specs.Transition.{moved, numbered}
use Rattle.hub.specs.Sound.{IsSound}
use Rattle.hub.specs.History.{IsOpening, IsLegalRun}
use Rattle.hub.specs.Counts.{IsCounted}
use Rattle.hub.specs.Segments.{IsReached}
use Rattle.hub.proofs.Counts.{counted-run}

-- a run after a run
pub legal-append : (w : World) (es : List Entry) (mid : World) (fs : List Entry) (after : World) → IsLegalRun w es mid → IsLegalRun mid fs after → IsLegalRun w (es ++ fs) after
unfolding IsLegalRun
legal-append w [] mid fs after run rest = subst (λ (v : World). IsLegalRun v fs after) run rest
legal-append w (x ∷ es) mid fs after run rest = (run.0, run.1, legal-append run.0 es mid fs after run.2 rest)

-- each entry raises the number by one
number_in : ℕ → Result (Outcome × World) HubRefusal → ℕ
number_in n (Ok r) = r.1.number
number_in n (Err e) = n

numbered-number : (n : ℕ) (r : Result (Outcome × World) HubRefusal) (o : Outcome) (next : World) → numbered n r ≡ Ok (o, next) → next.number ≡ n
unfolding number_in
numbered-number n (Ok r) o next e = sym (ap (number_in n) e)
numbered-number n (Err refusal) o next e = absurd (cc)

pub run-number : (w : World) (es : List Entry) (after : World) → IsLegalRun w es after → after.number ≡ w.number + length es
unfolding IsLegalRun
run-number w [] after run = let e = ap (λ (v : World). v.number) run in omega (arith, e)
run-number w (x ∷ es) after run =
    let rest = run-number run.0 es after run.2 in
    let here = numbered-number (w.number + 1) (moved (advanced w x.event.now) x.event.what) x.outcome run.0 run.1.outcome in
    omega (arith, rest, here)

-- where no number was given, nothing has happened
opens-by : (first : World) (past : List Entry) (w : World) → IsOpening first → IsLegalRun first past w → w.number ≡ 0 → IsOpening w
unfolding IsLegalRun
opens-by first [] w opens run zero = subst IsOpening (sym run) opens
opens-by first (x ∷ past) w opens run zero =
    let n = run-number first (x ∷ past) w run in
    absurd (omega (arith, n, zero))

pub opens : (w : World) → IsReached w → w.number ≡ 0 → IsOpening w
opens w r zero = opens-by r.first r.past w r.opens r.legal zero

-- an opening is reached at once
pub reached-first : (w : World) → IsOpening w → IsReached w
unfolding IsLegalRun
reached-first w opens = record { first = w; opens = opens; past = []; legal = refl }

-- what is held leads on from what was reached
pub reached-on : (w : World) (es : List Entry) (after : World) → IsReached w → IsLegalRun w es after → IsReached after
reached-on w es after r run =
    record { first = r.first; opens = r.opens; past = r.past ++ es; legal = legal-append r.first r.past w es after r.legal run }

-- the subscriptions are counted by all that has happened
pub counted : (first : World) (past : List Entry) (w : World) (es : List Entry) (after : World) → IsOpening first → IsLegalRun first past w → IsLegalRun w es after → All (IsCounted (past ++ es)) after.subscriptions
counted first past w es after opens before run =
    let all : IsLegalRun first (past ++ es) after = legal-append first past w es after before run in
    counted-run first.policy first.capacity (past ++ es) after (subst (λ (v : World). IsLegalRun v (past ++ es) after) opens.fresh all)

-- a hub that has handed out what it held keeps what every hub keeps
pub kept-rotation : (opening : World) (es : List Entry) (w : World) (most : ℕ) (now : World) (left : List Entry) → IsSound w → IsLegalRun opening es w → IsReached opening → now ≡ w → left ≡ [] →
    IsSound w × IsLegalRun now left w × (length left ≤ most) × IsReached now
unfolding IsLegalRun
kept-rotation opening es w most now left sound run reached same none = (
  sound,
  subst (λ (l : List Entry). IsLegalRun now l w) (sym none) (sym same),
  subst (λ (l : List Entry). length l ≤ most) (sym none) (omega arith),
  subst IsReached (sym same) (reached-on opening es w reached run),
)
