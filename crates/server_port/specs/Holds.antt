-- What a port notes of a run of messages, and which points of its gate it passes: some are offered in each hold of the lock.
use Rattle.std.specs.Prelude.{◌≡◌, ◌∷◌, ◌++◌, ◌+◌, ◌-◌, ◌≤◌, [], ℕ, List, Bool, Option, None, Some, min, replicate}
use Rattle.events.specs.Messages.{Message}
use Rattle.events.specs.declared.answer.Entry.{Entry}
use Rattle.events.specs.declared.refusal.PublishRefusal.TheVariants.{By, Held}
use Rattle.events.specs.declared.run.RunEnd.{RunEnd}
use Rattle.events.specs.declared.run.RunEnd.TheVariants as run
use Rattle.server_port.specs.declared.gates.gate.Point.{Point}
use Rattle.server_port.specs.declared.gates.gate.Point.TheVariants.{FrameRead, Answered}
use Rattle.server_log.specs.Noting.{IsAnswerNoted, noted_stop}
use Rattle.server_log.specs.declared.noted.Noted.{Noted}
use Rattle.server_port.specs.Points.{ArePassed, Passes, answered_if}
use Rattle.worker_port.specs.declared.course.Why.{Why}
use Rattle.shared_waits.specs.runs.Runs.{Came, Draws, IsRun, Offers, told_end}

-- ---- what is noted

-- each of the answers, in order
abbrev pub AreAnswersNoted : List Entry → Noted → Noted → Type 0
AreAnswersNoted [] before after = after ≡ before
AreAnswersNoted (entry ∷ entries) before after = (next : Noted) × IsAnswerNoted entry before next × AreAnswersNoted entries next after

-- what ended a run
abbrev pub IsEndNoted : RunEnd → Noted → Noted → Type 0
IsEndNoted run.Published before after = after ≡ before
IsEndNoted (run.Answered entry) before after = IsAnswerNoted entry before after
IsEndNoted (run.Stopped word refusal) before after = after ≡ noted_stop refusal before

-- These answers were noted, and then what ended the run.
abbrev pub AreNoted : List Entry → RunEnd → Noted → Noted → Type 0
AreNoted answers end before after = (next : Noted) × AreAnswersNoted answers before next × IsEndNoted end next after

-- A run of offers with this end; its answers were noted, and then its end.
abbrev pub IsRunNoted : {P W : Type 0} → Offers P → Draws W → ℕ → ℕ → List Message → P → W → RunEnd → List Message → P → W → Noted → Noted → Type 0
IsRunNoted offered draws conn now ms p w end left p' w' before after =
    (answers : List Entry) × (last : Option Came) × (end ≡ told_end last) × IsRun offered draws conn now ms p w answers last left p' w' × AreNoted answers end before after

-- ---- what is held back

-- why the latest message is held back, behind a run that this has ended; else this is as before
abbrev pub IsWhy : RunEnd → Option Why → Option Why → Type 0
IsWhy run.Published before after = after ≡ before
IsWhy (run.Answered entry) before after = after ≡ before
IsWhy (run.Stopped word (By refusal)) before after = after ≡ before
IsWhy (run.Stopped word Held) before after = (why : Why) × (after ≡ Some why)

-- ---- which points are passed

-- how many messages are read for a hold, at most
abbrev pub most : ℕ
most = 64

-- so many messages are read
abbrev pub read_points : ℕ → List Point
read_points messages = replicate messages FrameRead

-- so many have their answers
abbrev pub answer_points : ℕ → List Point
answer_points answered = replicate answered Answered

-- what ended a run has its answer, unless it is held back
abbrev pub end_points : Option Why → RunEnd → List Point
end_points why run.Published = []
end_points why (run.Answered entry) = Answered ∷ []
end_points why (run.Stopped word refusal) = answered_if why

-- how many messages of a run have no answer: the one that is held back
abbrev pub held_back : Option Why → RunEnd → ℕ
held_back why run.Published = 0
held_back why (run.Answered entry) = 0
held_back None (run.Stopped word refusal) = 0
held_back (Some why) (run.Stopped word refusal) = 1

-- Of so many messages as many are read as a hold takes; then so many have their answers.
abbrev pub hold_points : ℕ → ℕ → List Point
hold_points messages answered = read_points (min messages most) ++ answer_points answered

-- holds one after the other, by how many have their answers in each
abbrev pub run_points : ℕ → List ℕ → List Point
run_points messages [] = []
run_points messages (answered ∷ later) = hold_points messages answered ++ run_points (messages - answered) later

-- So many messages have no answer behind these holds, each of which answers no more than it reads. One in which none has its
-- answer is the last.
abbrev pub AreHolds : ℕ → List ℕ → ℕ → Type 0
AreHolds messages [] without = without ≡ messages
AreHolds messages (answered ∷ later) without = (answered ≤ min messages most) × (answered ≡ 0 → later ≡ []) × AreHolds (messages - answered) later without

-- the points of one hold were passed, in which no more have their answers than are read
abbrev pub IsHoldPassed : {G : Type 0} → Passes G → ℕ → ℕ → G → Bool → G → Bool → Type 0
IsHoldPassed passes messages without gate spent gate' spent' =
    (answered : ℕ) × (answered ≤ min messages most) × (answered + without ≡ messages) × ArePassed passes (hold_points messages answered) gate spent gate' spent'

-- the points of some holds were passed, one hold after the other
abbrev pub AreHoldsPassed : {G : Type 0} → Passes G → ℕ → ℕ → G → Bool → G → Bool → Type 0
AreHoldsPassed passes messages without gate spent gate' spent' =
    (holds : List ℕ) × AreHolds messages holds without × ArePassed passes (run_points messages holds) gate spent gate' spent'
