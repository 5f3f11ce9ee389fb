-- Messages of one connection that are offered one after the other, and what came of each (docs/GUARANTEE.md, "Threads").
use Rattle.std.specs.Prelude.{◌≡◌, ◌⊎◌, ◌++◌, ◌<◌, ℕ, true, length, List, [], ◌∷◌, Option, Some, None, Result, Ok, Err, IfErr}
use Rattle.events.specs.Messages.{Message}
use Rattle.events.specs.Runs.{post, was_published}
use Rattle.events.specs.declared.event.Event.{Event}
use Rattle.events.specs.declared.event.Command.{Command}
use Rattle.events.specs.declared.event.Command.TheVariants.{Connect, Sub, Unsub, Pub, Take, Close, Reload}
use Rattle.events.specs.declared.answer.Entry.{Entry}
use Rattle.events.specs.declared.refusal.PublishRefusal.{PublishRefusal}
use Rattle.events.specs.declared.run.RunEnd.{RunEnd}
use Rattle.events.specs.declared.run.RunEnd.TheVariants as run

-- what came of an event that was offered: its answer, or itself and why it was not entered
abbrev pub Came : Type 0
Came = Result Entry (Event × PublishRefusal)

-- what it is offered to, the event, what came of it, and what it is offered to then
abbrev pub Offers : Type 0 → Type 1
Offers P = P → Event → Came → P → Type 0

-- where words are drawn from, before and after a word
abbrev pub Draws : Type 0 → Type 1
Draws W = W → ℕ → W → Type 0

-- a refusal hands the event back
abbrev pub IsBack : Event → Came → Type 0
IsBack e r = IfErr r (λ refused. refused.0 ≡ e)

-- A run: each message draws its word and is offered, once, in order, while those before it were published. Each was published,
-- and these are the answers; or the last that was offered came to this, the answers are those of the messages before it, and
-- those behind it are left and have drawn nothing.
unfoldable pub IsRun : {P W : Type 0} → Offers P → Draws W → ℕ → ℕ → List Message → P → W → List Entry → Option Came → List Message → P → W → Type 0
IsRun offered draws conn now [] p w answers end left p' w' = (answers ≡ []) × (end ≡ None) × (left ≡ []) × (p' ≡ p) × (w' ≡ w)
IsRun {P} {W} offered draws conn now (m ∷ ms) p w answers end left p' w' =
    (word : ℕ) × (next : W) × draws w word next
    × (((entry : Entry) × (mid : P) × (rest : List Entry) × offered p (post conn now m word) (Ok entry) mid × (was_published entry.outcome ≡ true)
    × (answers ≡ entry ∷ rest) × IsRun offered draws conn now ms mid next rest end left p' w')
    ⊎ ((r : Came) × offered p (post conn now m word) r p' × IsBack (post conn now m word) r
    × (answers ≡ []) × (end ≡ Some r) × (left ≡ ms) × (w' ≡ next)))

-- the word that a message has drawn, 0 of what is no message
abbrev pub word_of : Command → ℕ
word_of (Connect conn user password echo) = 0
word_of (Sub conn p queue sid) = 0
word_of (Unsub conn sid most) = 0
word_of (Pub conn m word) = word
word_of (Take conn most) = 0
word_of (Close conn) = 0
word_of (Reload doc) = 0

-- the end of a run, as a port tells it
abbrev pub told_end : Option Came → RunEnd
told_end None = run.Published
told_end (Some (Ok entry)) = run.Answered entry
told_end (Some (Err refused)) = run.Stopped (word_of refused.0.what) refused.1

-- an answer is kept behind those before it, if it is one of a message that was published and one more may come; or it is
-- handed back
abbrev pub IsKept : ℕ → Entry → Option Entry → List Entry → List Entry → Type 0
IsKept most entry None before after = (was_published entry.outcome ≡ true) × (after ≡ before ++ entry ∷ []) × (length after < most)
IsKept most entry (Some back) before after = (back ≡ entry) × (after ≡ before)

-- fewer answers are kept than may come, as it was before
abbrev pub StaysBelow : ℕ → List Entry → List Entry → Type 0
StaysBelow most before after = length before < most → length after < most
