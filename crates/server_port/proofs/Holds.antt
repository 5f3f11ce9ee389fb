-- What is noted of a run of messages and which points are passed: of a hold, and of those behind it.
use Rattle.std.proofs.Common.{◌≡◌, ◌≢◌, ◌∙◌, ◌<◌, ◌≤◌, ◌+◌, ◌-◌, ◌∷◌, ◌++◌, [], ℕ, Bool, List, Option, Some, None, Ok, Err, true, ap, inl, inr, refl, subst, sym, length, take, get_or, append-nil, min, zero, suc, arith}
use Rattle.std.proofs.lemmas.List.{length-take-le, replicate-append-replicate, take_all, take_more}
use Rattle.events.specs.Messages.{Message}
use Rattle.events.specs.Runs.{post, was_published}
use Rattle.events.specs.declared.answer.Entry.{Entry}
use Rattle.events.specs.declared.refusal.PublishRefusal.TheVariants.{Held}
use Rattle.events.specs.declared.run.RunEnd.{RunEnd}
use Rattle.events.specs.declared.run.RunEnd.TheVariants as run
use Rattle.server_port.specs.declared.gates.gate.Point.{Point}
use Rattle.server_port.specs.declared.gates.gate.Point.TheVariants.{Answered}
use Rattle.server_log.specs.Noting.{IsAnswerNoted}
use Rattle.server_log.specs.declared.noted.Noted.{Noted}
use Rattle.server_port.specs.Ends.{goes_on}
use Rattle.server_port.specs.Holds.{AreAnswersNoted, AreHolds, AreHoldsPassed, IsEndNoted, IsHoldPassed, IsRunNoted, answer_points, end_points, held_back, hold_points, most, read_points, run_points}
use Rattle.server_port.specs.Points.{ArePassed, Passes}
use Rattle.worker_port.specs.declared.course.Why.{Why}
use Rattle.server_port.proofs.Passing.{passed_once_more, passed_then}
use Rattle.shared_waits.specs.runs.Runs.{Came, Draws, IsRun, Offers, StaysBelow, told_end}
use Rattle.shared_waits.proofs.runs.Runs.{run_along}
use Rattle.shared_hub.specs.Entering.{IsOfferedBy}

-- ---- what is noted

pub noted_then : (entries others : List Entry) (a b d : Noted) → AreAnswersNoted entries a b → AreAnswersNoted others b d → AreAnswersNoted (entries ++ others) a d
noted_then [] others a b d same rest = subst (λ x. AreAnswersNoted others x d) same rest
noted_then (entry ∷ entries) others a b d (next, first, more) rest = (next, first, noted_then entries others next b d more rest)

-- one more answer, as a loop notes them
pub noted_more : (entries : List Entry) (i : ℕ) (entry : Entry) (a b d : Noted) → i < length entries → entry ≡ get_or entries i entry
    → AreAnswersNoted (take i entries) a b → IsAnswerNoted entry b d → AreAnswersNoted (take (i + 1) entries) a d
noted_more entries i entry a b d within is done noted =
    subst (λ (l : List Entry). AreAnswersNoted l a d) (ap (λ (x : Entry). take i entries ++ x ∷ []) is ∙ sym (take_more entries i entry within))
    (noted_then (take i entries) (entry ∷ []) a b d done (d, noted, refl))

pub all_noted : (entries : List Entry) (i : ℕ) (a b : Noted) → length entries ≤ i → AreAnswersNoted (take i entries) a b → AreAnswersNoted entries a b
all_noted entries i a b past done = subst (λ (l : List Entry). AreAnswersNoted l a b) (take_all i entries past) done

-- ---- one behind another

-- the answer of what ended a run
end_answers : Option Came → List Entry
end_answers None = []
end_answers (Some (Ok entry)) = entry ∷ []
end_answers (Some (Err refused)) = []

-- what ended a run whose messages go on is noted as one more answer
end_noted : (last : Option Came) (a b : Noted) → goes_on (told_end last) ≡ true → IsEndNoted (told_end last) a b → AreAnswersNoted (end_answers last) a b
unfolding end_answers
end_noted None a b goes h = h
end_noted (Some (Ok entry)) a b goes h = (b, h, refl)
end_noted (Some (Err refused)) a b goes h = absurd (cc)

-- a run and that of those behind it are one, with the answers of both
run_joined : {P W : Type 0} (offered : Offers P) (draws : Draws W) (conn now : ℕ)
    (ms : List Message) (p : P) (w : W) (answers : List Entry) (last : Option Came) (left : List Message) (q : P) (v : W)
    (more : List Entry) (end : Option Came) (rest : List Message) (p' : P) (w' : W) → goes_on (told_end last) ≡ true
    → IsRun offered draws conn now ms p w answers last left q v → IsRun offered draws conn now left q v more end rest p' w'
    → IsRun offered draws conn now ms p w (answers ++ end_answers last ++ more) end rest p' w'
unfolding IsRun end_answers
run_joined {P} {W} offered draws conn now [] p w answers last left q v more end rest p' w' goes (none, is, gone, same, words) h =
    let L : List Message → Type 0 = λ l. IsRun offered draws conn now l q v more end rest p' w' in
    let Q : P → Type 0 = λ x. IsRun offered draws conn now [] x v more end rest p' w' in
    let V : W → Type 0 = λ x. IsRun offered draws conn now [] p x more end rest p' w' in
    let A : List Entry → Type 0 = λ l. IsRun offered draws conn now [] p w l end rest p' w' in
    let they : more ≡ answers ++ end_answers last ++ more = sym (ap (λ (l : List Entry). l ++ end_answers last ++ more) none ∙ ap (λ (o : Option Came). end_answers o ++ more) is) in
    subst A they (subst V words (subst Q same (subst L gone h)))
run_joined offered draws conn now (m ∷ ms) p w answers last left q v more end rest p' w' goes (word, next, drawn, inl (entry, mid, others, step, published, is, on)) h = (
  word,
  next,
  drawn,
  inl (
    entry,
    mid,
    others ++ end_answers last ++ more,
    step,
    published,
    ap (λ (l : List Entry). l ++ end_answers last ++ more) is,
    run_joined offered draws conn now ms mid next others last left q v more end rest p' w' goes on h,
  ),
)
run_joined {P} {W} offered draws conn now (m ∷ ms) p w answers last left q v more end rest p' w' goes (word, next, drawn, inr (Ok entry, step, back, none, is, gone, words)) h =
    let L : List Message → Type 0 = λ l. IsRun offered draws conn now l q v more end rest p' w' in
    let V : W → Type 0 = λ x. IsRun offered draws conn now ms q x more end rest p' w' in
    let published : was_published entry.outcome ≡ true = sym (ap (λ (o : Option Came). goes_on (told_end o)) is) ∙ goes in
    let they : answers ++ end_answers last ++ more ≡ entry ∷ more = ap (λ (l : List Entry). l ++ end_answers last ++ more) none ∙ ap (λ (o : Option Came). end_answers o ++ more) is in
    (word, next, drawn, inl (entry, q, more, step, published, they, subst V words (subst L gone h)))
run_joined offered draws conn now (m ∷ ms) p w answers last left q v more end rest p' w' goes (word, next, drawn, inr (Err refused, step, back, none, is, gone, words)) h =
    let stopped = sym (ap (λ (o : Option Came). goes_on (told_end o)) is) ∙ goes in absurd (cc)

pub run_noted_on : {P W : Type 0} (offered : Offers P) (draws : Draws W) (conn now : ℕ) (ms : List Message) (p : P) (w : W) (end : RunEnd) (left : List Message) (q : P) (v : W)
    (finish : RunEnd) (rest : List Message) (p' : P) (w' : W) (a b d : Noted) → goes_on end ≡ true
    → IsRunNoted offered draws conn now ms p w end left q v a b → IsRunNoted offered draws conn now left q v finish rest p' w' b d
    → IsRunNoted offered draws conn now ms p w finish rest p' w' a d
run_noted_on offered draws conn now ms p w end left q v finish rest p' w' a b d goes (answers, last, told, h, (x, before, ended)) (more, final, is, g, (y, behind, stopped)) =
    let on : goes_on (told_end last) ≡ true = sym (ap goes_on told) ∙ goes in
    let one = end_noted last x b on (subst (λ (e : RunEnd). IsEndNoted e x b) told ended) in (
      answers ++ end_answers last ++ more,
      final,
      is,
      run_joined offered draws conn now ms p w answers last left q v more final rest p' w' on h g,
      (y, noted_then (answers ++ end_answers last) more a b y (noted_then answers (end_answers last) a x b before one) behind, stopped),
    )

-- ---- which points are passed

-- one more answer, as a loop follows them
pub answered_more : {G : Type 0} (passes : Passes G) (entries : List Entry) (i : ℕ) (g a d : G) (s t v : Bool) → i < length entries
    → ArePassed passes (answer_points (length (take i entries))) g s a t → ArePassed passes (Answered ∷ []) a t d v
    → ArePassed passes (answer_points (length (take (i + 1) entries))) g s d v
answered_more passes entries i g a d s t v within done last =
    let before = length-take-le i entries (omega (arith, within)) in
    let behind = length-take-le (i + 1) entries (omega (arith, within)) in
    let first = subst (λ n. ArePassed passes (answer_points n) g s a t) before done in
    subst (λ n. ArePassed passes (answer_points n) g s d v) (sym behind) (passed_once_more passes i Answered g a d s t v first last)

pub all_answered : {G : Type 0} (passes : Passes G) (entries : List Entry) (i : ℕ) (g a : G) (s t : Bool) → length entries ≤ i
    → ArePassed passes (answer_points (length (take i entries))) g s a t → ArePassed passes (answer_points (length entries)) g s a t
all_answered passes entries i g a s t past done = subst (λ (l : List Entry). ArePassed passes (answer_points (length l)) g s a t) (take_all i entries past) done

-- whether a last message was offered
unfoldable pub last_of : Option Came → ℕ
last_of None = 0
last_of (Some r) = 1

-- each message has its answer, was offered last or is left
pub run_counts : {P W : Type 0} (offered : Offers P) (draws : Draws W) (conn now : ℕ)
    (ms : List Message) (p : P) (w : W) (answers : List Entry) (last : Option Came) (left : List Message) (p' : P) (w' : W)
    → IsRun offered draws conn now ms p w answers last left p' w' → length answers + last_of last + length left ≡ length ms
unfolding IsRun last_of
run_counts offered draws conn now [] p w answers last left p' w' (none, is, gone, same, words) =
    let a = ap (λ (l : List Entry). length l) none in
    let b = ap last_of is in
    let d = ap (λ (l : List Message). length l) gone in
    omega (arith, a, b, d)
run_counts offered draws conn now (m ∷ ms) p w answers last left p' w' (word, next, drawn, inl (entry, mid, others, step, published, is, on)) =
    let a = ap (λ (l : List Entry). length l) is in
    let rest = run_counts offered draws conn now ms mid next others last left p' w' on in
    omega (arith, a, rest)
run_counts offered draws conn now (m ∷ ms) p w answers last left p' w' (word, next, drawn, inr (r, step, back, none, is, gone, words)) =
    let a = ap (λ (l : List Entry). length l) none in
    let b = ap last_of is in
    let d = ap (λ (l : List Message). length l) gone in
    omega (arith, a, b, d)

-- the last message has its answer or is held back
end_counts : (why : Option Why) (last : Option Came) → length (end_points why (told_end last)) + held_back why (told_end last) ≡ last_of last
unfolding last_of
end_counts why None = refl
end_counts why (Some (Ok entry)) = refl
end_counts None (Some (Err refused)) = refl
end_counts (Some why) (Some (Err refused)) = refl

end_is : (why : Option Why) (end : RunEnd) → end_points why end ≡ answer_points (length (end_points why end))
end_is why run.Published = refl
end_is why (run.Answered entry) = refl
end_is None (run.Stopped word refusal) = refl
end_is (Some why) (run.Stopped word refusal) = refl

-- one answer at most
end_within : (why : Option Why) (end : RunEnd) → length (end_points why end) ≤ 1
end_within why run.Published = omega arith
end_within why (run.Answered entry) = omega arith
end_within None (run.Stopped word refusal) = omega arith
end_within (Some why) (run.Stopped word refusal) = omega arith

-- what was read for a hold, what has its answers behind it, and what ended it
hold_then : {G : Type 0} (passes : Passes G) (messages read answers left : ℕ) (why : Option Why) (end : RunEnd) (g a b d : G) (s t u v : Bool)
    → read ≡ min messages most → answers < read → answers + length (end_points why end) + (held_back why end + left) ≡ messages
    → ArePassed passes (read_points read) g s a t → ArePassed passes (answer_points answers) a t b u → ArePassed passes (end_points why end) b u d v
    → IsHoldPassed passes messages (held_back why end + left) g s d v
hold_then passes messages read answers left why end g a b d s t u v is below counts first more last =
    let ended = length (end_points why end) in
    let they : answer_points answers ++ end_points why end ≡ answer_points (answers + ended) =
    ap (λ (ps : List Point). answer_points answers ++ ps) (end_is why end) ∙ replicate-append-replicate answers ended Answered
    in
    let behind = subst (λ (ps : List Point). ArePassed passes ps a t d v) they (passed_then passes (answer_points answers) (end_points why end) a b d t u v more last) in
    let before = subst (λ n. ArePassed passes (read_points n) g s a t) is first in
    let within : answers + length (end_points why end) ≤ min messages most = omega (arith, is, below, end_within why end) in
    (answers + ended, within, counts, passed_then passes (read_points (min messages most)) (answer_points (answers + ended)) g a d s t v before behind)

pub hold_passed : {G P W : Type 0} (passes : Passes G) (offered : Offers P) (draws : Draws W) (conn now : ℕ)
    (ms : List Message) (p : P) (w : W) (answers : List Entry) (last : Option Came) (left : List Message) (p' : P) (w' : W)
    (why : Option Why) (end : RunEnd) (read : ℕ) (g a b d : G) (s t u v : Bool)
    → IsRun offered draws conn now ms p w answers last left p' w' → end ≡ told_end last → read ≡ min (length ms) most → length answers < read
    → ArePassed passes (read_points read) g s a t → ArePassed passes (answer_points (length answers)) a t b u → ArePassed passes (end_points why end) b u d v
    → IsHoldPassed passes (length ms) (held_back why end + length left) g s d v
hold_passed passes offered draws conn now ms p w answers last left p' w' why end read g a b d s t u v h is within below first more done =
    let all = run_counts offered draws conn now ms p w answers last left p' w' h in
    let one : length (end_points why end) + held_back why end ≡ last_of last = ap (λ e. length (end_points why e) + held_back why e) is ∙ end_counts why last in
    let counts : length answers + length (end_points why end) + (held_back why end + length left) ≡ length ms = omega (arith, all, one) in
    hold_then passes (length ms) read (length answers) (length left) why end g a b d s t u v within below counts first more done

-- ---- holds one after the other

none_held : (why : Option Why) (end : RunEnd) → goes_on end ≡ true → held_back why end ≡ 0
none_held why run.Published goes = refl
none_held why (run.Answered entry) goes = refl
none_held why (run.Stopped word refusal) goes = absurd (cc)

-- what is passed behind some holds completes what they have passed
abbrev pub PassesOn : {G : Type 0} → Passes G → ℕ → G → Bool → ℕ → G → Bool → Type 0
PassesOn {G} passes all g s messages a t =
    (without : ℕ) (d : G) (v : Bool) → AreHoldsPassed passes messages without a t d v → AreHoldsPassed passes all without g s d v

-- a hold in which some have their answers, and those behind it
hold_on : {G : Type 0} (passes : Passes G) (messages left without : ℕ) (g a d : G) (s t v : Bool) → left < messages
    → IsHoldPassed passes messages left g s a t → AreHoldsPassed passes left without a t d v → AreHoldsPassed passes messages without g s d v
hold_on passes messages left without g a d s t v fewer (answered, within, counts, first) (holds, are, rest) =
    let behind : left ≡ messages - answered = omega (arith, counts) in
    let some : answered ≡ 0 → holds ≡ [] = λ none. absurd (omega (arith, counts, fewer, none)) in
    let later = subst (λ n. ArePassed passes (run_points n holds) a t d v) behind rest in
    (answered ∷ holds, (within, some, subst (λ n. AreHolds n holds without) behind are), passed_then passes (hold_points messages answered) (run_points (messages - answered) holds) g a d s t v first later)

pub passes_further : {G : Type 0} (passes : Passes G) (all messages left : ℕ) (why : Option Why) (end : RunEnd) (g a b : G) (s t u : Bool)
    → PassesOn passes all g s messages a t → goes_on end ≡ true → left < messages
    → IsHoldPassed passes messages (held_back why end + left) a t b u → PassesOn passes all g s left b u
passes_further passes all messages left why end g a b s t u done goes fewer hold without d v rest =
    let same : held_back why end + left ≡ left = omega (arith, none_held why end goes) in
    done without d v (hold_on passes messages left without a b d t u v fewer (subst (λ n. IsHoldPassed passes messages n a t b u) same hold) rest)

-- one hold, the last
last_hold : {G : Type 0} (passes : Passes G) (messages without : ℕ) (g d : G) (s v : Bool)
    → IsHoldPassed passes messages without g s d v → AreHoldsPassed passes messages without g s d v
last_hold passes messages without g d s v (answered, within, counts, first) =
    let left : without ≡ messages - answered = omega (arith, counts) in
    let points = subst (λ (ps : List Point). ArePassed passes ps g s d v) (sym (append-nil (hold_points messages answered))) first in
    (answered ∷ [], (within, (λ none. refl), left), points)

-- the last hold, or none, where nothing is left of the share
pub passes_last : {G : Type 0} (passes : Passes G) (share messages without : ℕ) (g d : G) (s v : Bool)
    → (share ≡ 0 → (without ≡ messages) × (d ≡ g) × (v ≡ s)) → (share ≢ 0 → IsHoldPassed passes messages without g s d v) → AreHoldsPassed passes messages without g s d v
passes_last passes zero messages without g d s v unasked asked = let (left, same, equal) = unasked refl in ([], left, (same, equal))
passes_last passes (suc n) messages without g d s v unasked asked = last_hold passes messages without g d s v (asked (λ none. absurd (omega (arith, none))))

pub passes_none : {G : Type 0} (passes : Passes G) (messages : ℕ) (g : G) (s : Bool) → AreHoldsPassed passes messages messages g s g s
passes_none passes messages g s = ([], refl, (refl, refl))

-- what is noted behind some holds completes what was noted of them
abbrev pub NotesOn : {P W : Type 0} → Offers P → Draws W → ℕ → ℕ → List Message → P → W → Noted → List Message → P → W → Noted → Type 0
NotesOn {P} {W} offered draws conn now all p w a left q v b =
    (end : RunEnd) (rest : List Message) (p' : P) (w' : W) (d : Noted) → IsRunNoted offered draws conn now left q v end rest p' w' b d → IsRunNoted offered draws conn now all p w end rest p' w' a d

pub notes_further : {P W : Type 0} (offered : Offers P) (draws : Draws W) (conn now : ℕ) (all : List Message) (p : P) (w : W) (a : Noted) (ms : List Message) (q : P) (v : W) (b : Noted)
    (end : RunEnd) (left : List Message) (q' : P) (v' : W) (d : Noted) → NotesOn offered draws conn now all p w a ms q v b → goes_on end ≡ true
    → IsRunNoted offered draws conn now ms q v end left q' v' b d → NotesOn offered draws conn now all p w a left q' v' d
notes_further offered draws conn now all p w a ms q v b end left q' v' d done goes hold finish rest p' w' f h =
    done finish rest p' w' f (run_noted_on offered draws conn now ms q v end left q' v' finish rest p' w' b d f goes hold h)

none_noted : {P W : Type 0} (offered : Offers P) (draws : Draws W) (conn now : ℕ) (q : P) (v : W) (b : Noted) → IsRunNoted offered draws conn now [] q v run.Published [] q v b b
unfolding IsRun
none_noted offered draws conn now q v b = ([], None, refl, (refl, refl, refl, refl, refl), (b, refl, refl))

pub notes_none : {P W : Type 0} (offered : Offers P) (draws : Draws W) (conn now : ℕ) (all : List Message) (p : P) (w : W) (a : Noted) (left : List Message) (q : P) (v : W) (b : Noted)
    → left ≡ [] → NotesOn offered draws conn now all p w a left q v b → IsRunNoted offered draws conn now all p w run.Published left q v a b
notes_none offered draws conn now all p w a left q v b none done =
    let L : List Message → Type 0 = λ l. IsRunNoted offered draws conn now l q v run.Published l q v b b in
    done run.Published left q v b (subst L (sym none) (none_noted offered draws conn now q v b))

-- ---- a hold, by what its calls say

-- a hold that began with no answer has kept those of its run
pub kept_are : (kept begun answers : List Entry) → kept ≡ begun ++ answers → begun ≡ [] → kept ≡ answers
kept_are kept begun answers is none = is ∙ ap (λ (l : List Entry). l ++ answers) none

-- it has fewer than may come
pub kept_below : (messages read bound : ℕ) (kept begun answers : List Entry) → 0 < messages → read ≡ min messages most → bound ≡ read → begun ≡ []
    → StaysBelow bound begun kept → kept ≡ answers → length answers < read
kept_below messages read bound kept begun answers some is same none below they =
    let empty = ap (λ (l : List Entry). length l) none in
    let first : length begun < bound = omega (arith, some, is, same, empty) in
    let few = below first in
    let all = ap (λ (l : List Entry). length l) they in
    omega (arith, few, all, same)

pub hold_noted : {S W : Type 0} (count : S → ℕ) (opening : ℕ) (draws : Draws W) (conn now : ℕ) (ms : List Message) (p : S) (w : W) (answers : List Entry) (last : Option Came)
    (left : List Message) (q : S) (v : W) (end : RunEnd) (n m : ℕ) (a b d : Noted) → count p ≡ n → m ≡ count q → end ≡ told_end last
    → IsRun (λ x e r y. IsOfferedBy opening (count x) e r (count y)) draws conn now ms p w answers last left q v
    → AreAnswersNoted answers a b → IsEndNoted end b d → IsRunNoted (IsOfferedBy opening) draws conn now ms n w end left m v a d
hold_noted count opening draws conn now ms p w answers last left q v end n m a b d before after is h first more =
    let counted = run_along count (λ x e r y. IsOfferedBy opening (count x) e r (count y)) (IsOfferedBy opening) draws conn now (λ x e r y step. step) ms p w answers last left q v h in
    let begun = subst (λ x. IsRun (IsOfferedBy opening) draws conn now ms x w answers last left (count q) v) before counted in
    (answers, last, is, subst (λ x. IsRun (IsOfferedBy opening) draws conn now ms n w answers last left x v) (sym after) begun, (b, first, more))

-- the first was held back, and nothing was submitted
first_noted : {W : Type 0} (opening : ℕ) (draws : Draws W) (conn now : ℕ) (m : Message) (ms : List Message) (n : ℕ) (w : W) (word : ℕ) (end : RunEnd) (n' : ℕ) (w' : W) (a d : Noted)
    → end ≡ run.Stopped word Held → draws w word w' → n' ≡ n → d ≡ a → IsRunNoted (IsOfferedBy opening) draws conn now (m ∷ ms) n w end ms n' w' a d
unfolding IsRun
first_noted opening draws conn now m ms n w word end n' w' a d is drawn same noted =
    let last : Came = Err (post conn now m word, Held) in
    ([], Some last, is, (word, w', drawn, inr (last, same, refl, refl, refl, refl, refl)), (a, refl, subst (λ e. IsEndNoted e a d) (sym is) noted))

pub held_noted : {W : Type 0} (opening : ℕ) (draws : Draws W) (conn now : ℕ) (all : List Message) (m : Message) (ms : List Message) (n : ℕ) (w : W) (word : ℕ) (end : RunEnd) (n' : ℕ) (w' : W) (a d : Noted)
    → end ≡ run.Stopped word Held → all ≡ m ∷ ms → draws w word w' → n' ≡ n → d ≡ a → IsRunNoted (IsOfferedBy opening) draws conn now all n w end ms n' w' a d
held_noted opening draws conn now all m ms n w word end n' w' a d is first drawn same noted =
    let L : List Message → Type 0 = λ l. IsRunNoted (IsOfferedBy opening) draws conn now l n w end ms n' w' a d in
    subst L (sym first) (first_noted opening draws conn now m ms n w word end n' w' a d is drawn same noted)

-- it is the one message that is held back
pub held_counts : (why : Option Why) (end : RunEnd) (all left : List Message) (m : Message) (word : ℕ) (cause : Why)
    → why ≡ Some cause → end ≡ run.Stopped word Held → all ≡ m ∷ left → held_back why end + length left ≡ length all
held_counts why end all left m word cause so is first =
    let one : held_back why end ≡ 1 = ap (λ o. held_back o end) so ∙ ap (λ e. held_back (Some cause) e) is in
    let they = ap (λ (l : List Message). length l) first in
    omega (arith, one, they)

-- a run whose messages go on was not held back
pub was_asked : (end : RunEnd) (word : ℕ) → goes_on end ≡ true → end ≡ run.Stopped word Held → ⊥
was_asked end word goes is = let stopped = sym (ap goes_on is) ∙ goes in cc
