-- What a stream begins with stays so however it goes on.
use Rattle.std.proofs.Common.{◌≡◌, ℕ, zero, suc, ◌+◌, ◌<◌, ◌≤◌, Bool, true, false, not, cond, ◌&&◌, eqb, List, [], ◌∷◌, ◌++◌, length, get_or, take, drop, refl, sym, ap, ◌∙◌, arith, ⊎_elim, length-drop, length-take, length-append, append-nil, append_assoc, Ok, Err}
use Rattle.std.specs.List.{before_first, position_or_len, flat_map}
use Rattle.std.proofs.lemmas.List.{get_or_append_left, take_all, take_at, take-append-le, drop-append-le, drop_all}
use Rattle.std.proofs.lemmas.List.Sums.{position_or_len_is, fails_before_first, passes_at_first, prefix_len-le-length}
use Rattle.std.proofs.lemmas.Bool.{cases_lt, cases_eq}
use Rattle.wire_read.specs.declared.fault.FeedError.TheVariants.{Failed, NoMemory}
use Rattle.wire_read.specs.declared.frame.Frame.{Frame}
use Rattle.wire_read.specs.declared.frame.Frame.TheVariants as frame
use Rattle.wire_read.specs.Command.{Announced}
use Rattle.wire_read.specs.Command.{Command}
use Rattle.wire_read.specs.Command.{Alone, Publish, Refused}
use Rattle.wire_read.specs.declared.front.End.TheVariants as ends
use Rattle.wire_read.specs.declared.lines.line.FoundLine.{FoundLine}
use Rattle.wire_read.specs.declared.lines.line.FoundLine.TheVariants.{Open, TooLong, Ended}
use Rattle.wire_read.specs.Front.{Front, Whole, More, Wrong, front, front_at, after_line, after_announced, published, message, ended_by}
use Rattle.wire_read.specs.lines.Line.{is_lf, line_of, without_cr}
use Rattle.wire_read.specs.Command.{command}
use Rattle.wire_read.specs.Framing.{framing, behind, framed_by, first_frames, frames_of, followed, Reader, IsRun, Call, taken_by, given_by, CutAnywhere, ReadsAnyPieces}
use Rattle.wire_read.proofs.lines.LineLemmas.{without_cr-bounds, line_long, line_ended, line_parts}
use Rattle.wire_read.proofs.FramingLemmas.{front_len, frames_step}

-- the first LF stays the first
lf_more : (a b : List ℕ) → position_or_len is_lf a < length a → position_or_len is_lf (a ++ b) ≡ position_or_len is_lf a
lf_more a b within =
    position_or_len_is is_lf (a ++ b) (position_or_len is_lf a) 0 (omega (arith, length-append a b))
    (λ k h. rw (get_or_append_left a b 0 k (omega arith)) (fails_before_first is_lf a k 0 h))
    (λ _. rw (get_or_append_left a b 0 (position_or_len is_lf a) within) (passes_at_first is_lf a 0 within))

-- where there is none, it comes behind
lf_behind : (a b : List ℕ) → position_or_len is_lf a ≡ length a → length a ≤ position_or_len is_lf (a ++ b)
lf_behind a b none =
    ⊎_elim
    (λ before.
    let i : ℕ = position_or_len is_lf (a ++ b) in
    let within : position_or_len is_lf (a ++ b) < length (a ++ b) = omega (arith, length-append a b) in
    absurd (both (is_lf (get_or a i 0))
    (fails_before_first is_lf a i 0 (omega arith))
    (ap is_lf (sym (get_or_append_left a b 0 i before)) ∙ passes_at_first is_lf (a ++ b) 0 within)))
    (λ behind. behind)
    (cases_lt (position_or_len is_lf (a ++ b)) (length a))
  where
    both : (t : Bool) → t ≡ false → t ≡ true → ⊥
    both t fails passes = cc

-- a line that ended stays as it is
pub ended_more : (a b : List ℕ) (end : ℕ) → line_of a ≡ Ended end → line_of (a ++ b) ≡ Ended end
ended_more a b end is =
    let parts = (line_parts a).2 end is in
    let at : position_or_len is_lf (a ++ b) ≡ end = lf_more a b (omega arith) ∙ parts.1 in
    let same : before_first is_lf (a ++ b) ≡ before_first is_lf a = ap (λ k. take k (a ++ b)) (at ∙ sym parts.1) ∙ take-append-le _ a b (omega arith) in
    sym (line_ended (a ++ b) end (omega (arith, ap (λ l. length (without_cr l)) same)) at (omega (arith, length-append a b)))

-- a line that is too long stays too long
long_more : (a b : List ℕ) → line_of a ≡ TooLong → line_of (a ++ b) ≡ TooLong
long_more a b is =
    let long = (line_parts a).0 is in
    let up = prefix_len-le-length (λ x. not (is_lf x)) a in
    ⊎_elim
    (λ within.
    let same : before_first is_lf (a ++ b) ≡ before_first is_lf a = ap (λ k. take k (a ++ b)) (lf_more a b within) ∙ take-append-le _ a b (omega arith) in
    sym (line_long (a ++ b) (omega (arith, ap (λ l. length (without_cr l)) same))))
    (λ none.
    let whole : before_first is_lf a ≡ a = take_all _ a none in
    let enough : 4096 < length (without_cr a) = omega (arith, ap (λ l. length (without_cr l)) whole) in
    let far = lf_behind a b (omega arith) in
    ⊎_elim
    (λ here.
    let same : before_first is_lf (a ++ b) ≡ a = take_at a b _ (sym here) in
    sym (line_long (a ++ b) (omega (arith, ap (λ l. length (without_cr l)) same))))
    (λ (behind : position_or_len is_lf (a ++ b) ≡ length a → ⊥).
    let above : length a < position_or_len is_lf (a ++ b) = omega arith in
    let most = prefix_len-le-length (λ x. not (is_lf x)) (a ++ b) in
    sym (line_long (a ++ b) (omega (arith, length-take (position_or_len is_lf (a ++ b)) (a ++ b), without_cr-bounds a, (without_cr-bounds (before_first is_lf (a ++ b))).1))))
    (cases_eq (position_or_len is_lf (a ++ b)) (length a)))
    (cases_lt (position_or_len is_lf a) (length a))

-- bytes after a payload that settle the message settle it however they go on
published_more : (f : Frame) (n : ℕ) (rest more : List ℕ) → (published f n rest ≡ More → ⊥) → published f n (rest ++ more) ≡ published f n rest
published_more f n [] more settled = absurd (settled refl)
published_more f n (b ∷ []) [] settled = refl
published_more f n (b ∷ []) (c ∷ more) settled = by_test (eqb b 13) settled
  where
    by_test : (t : Bool) → (ended_by (cond t ends.Open ends.Wrong) f n ≡ More → ⊥) → ended_by (cond (t && eqb c 10) ends.Whole ends.Wrong) f n ≡ ended_by (cond t ends.Open ends.Wrong) f n
    by_test true open_end = absurd (open_end refl)
    by_test false _ = refl
published_more f n (b ∷ c ∷ cs) more settled = refl

after_announced_more : (a : Announced) (n : ℕ) (rest more : List ℕ) → (after_announced a n rest ≡ More → ⊥) → after_announced a n (rest ++ more) ≡ after_announced a n rest
after_announced_more a n rest more settled =
    ⊎_elim
    (λ short. absurd (settled (ap (published (message a.subject a.reply a.head (take a.total rest)) (n + a.total + 2)) (drop_all a.total rest (omega arith)))))
    (λ (enough : a.total ≤ length rest).
    rw (take-append-le a.total rest more enough, drop-append-le a.total rest more enough)
    (published_more (message a.subject a.reply a.head (take a.total rest)) (n + a.total + 2) (drop a.total rest) more settled))
    (cases_lt (length rest) a.total)

after_line_more : (c : Command) (n : ℕ) (rest more : List ℕ) → (after_line c n rest ≡ More → ⊥) → after_line c n (rest ++ more) ≡ after_line c n rest
after_line_more (Refused w) n rest more settled = refl
after_line_more (Alone f) n rest more settled = refl
after_line_more (Publish a) n rest more settled = after_announced_more a n rest more settled

front_at_more : (l : FoundLine) (a b : List ℕ) → line_of a ≡ l → (front_at l a ≡ More → ⊥) → front_at l (a ++ b) ≡ front_at l a
front_at_more Open a b is settled = absurd (settled refl)
front_at_more TooLong a b is settled = refl
front_at_more (Ended end) a b is settled =
    let parts = (line_parts a).2 end is in
    rw (take-append-le end a b (omega arith), drop-append-le (end + 1) a b (omega arith)) (after_line_more (command (without_cr (take end a))) (end + 1) (drop (end + 1) a) b settled)

line_more : (l : FoundLine) (a b : List ℕ) → line_of a ≡ l → (front_at l a ≡ More → ⊥) → line_of (a ++ b) ≡ l
line_more Open a b is settled = absurd (settled refl)
line_more TooLong a b is settled = long_more a b is
line_more (Ended end) a b is settled = ended_more a b end is

-- what settles what a stream begins with, settles it however it goes on
pub front_more : (a b : List ℕ) → (front a ≡ More → ⊥) → front (a ++ b) ≡ front a
unfolding front
front_more a b settled =
    ap (λ l. front_at l (a ++ b)) (line_more (line_of a) a b refl settled) ∙ front_at_more (line_of a) a b refl settled

-- a framing behind a frame goes on as it does
behind_followed : (failed : Bool) (f : Frame) (fs : List Frame) (rest b : List ℕ) → behind (f ∷ []) (followed (framing fs rest failed) b) ≡ followed (framing (f ∷ fs) rest failed) b
behind_followed true f fs rest b = refl
behind_followed false f fs rest b = refl

cut_by : (m : ℕ) (r : Front) (a b : List ℕ) → ((c : List ℕ) → length c < length a → frames_of (c ++ b) ≡ followed (frames_of c) b) → front a ≡ r → frames_of (a ++ b) ≡ followed (frames_of a) b
cut_by m More a b shorter is =
    let e : frames_of a ≡ framing [] a false = frames_step a ∙ ap (λ r. framed_by r (λ n. frames_of (drop n a)) a) is in
    sym (ap (λ f. followed f b) e)
cut_by m (Wrong w) a b shorter is =
    let e : frames_of a ≡ framing (frame.Fault w ∷ []) [] true = frames_step a ∙ ap (λ r. framed_by r (λ n. frames_of (drop n a)) a) is in
    let settled : front a ≡ More → ⊥ = λ (no : front a ≡ More). cc in
    let more : front (a ++ b) ≡ Wrong w = front_more a b settled ∙ is in
    frames_step (a ++ b) ∙ ap (λ r. framed_by r (λ n. frames_of (drop n (a ++ b))) (a ++ b)) more ∙ sym (ap (λ f. followed f b) e)
cut_by m (Whole f n) a b shorter is =
    let e : frames_of a ≡ behind (f ∷ []) (frames_of (drop n a)) = frames_step a ∙ ap (λ r. framed_by r (λ n. frames_of (drop n a)) a) is in
    let settled : front a ≡ More → ⊥ = λ (no : front a ≡ More). cc in
    let more : front (a ++ b) ≡ Whole f n = front_more a b settled ∙ is in
    let within : (0 < n) × (n ≤ length a) = front_len a f n is in
    let left : drop n (a ++ b) ≡ drop n a ++ b = drop-append-le n a b within.1 in
    let after : frames_of (drop n (a ++ b)) ≡ followed (frames_of (drop n a)) b = ap frames_of left ∙ shorter (drop n a) (omega (arith, length-drop n a)) in
    frames_step (a ++ b)
    ∙ ap (λ r. framed_by r (λ n. frames_of (drop n (a ++ b))) (a ++ b)) more
    ∙ ap (behind (f ∷ [])) after
    ∙ behind_followed (frames_of (drop n a)).failed f (frames_of (drop n a)).frames (frames_of (drop n a)).rest b
    ∙ sym (ap (λ f. followed f b) e)

cut_at : (m : ℕ) (a b : List ℕ) → length a < m → frames_of (a ++ b) ≡ followed (frames_of a) b
cut_at zero a b few = absurd (omega arith)
cut_at (suc m) a b few = cut_by m (front a) a b (λ c less. cut_at m c b (omega arith)) refl

-- where a stream is cut changes none of its frames
pub cut_anywhere_lem : CutAnywhere
cut_anywhere_lem a b = cut_at (suc (length a)) a b (omega arith)

-- a run goes on from the frames so far
run_on : (calls : List Call) (old new : Reader) (fs : List Frame) (bytes : List ℕ) → framing fs old.rest old.failed ≡ frames_of bytes → IsRun old calls new →
    framing (fs ++ flat_map given_by calls) new.rest new.failed ≡ frames_of (bytes ++ flat_map taken_by calls)
run_on [] old new fs bytes so_far is =
    rw (is, append-nil fs, append-nil bytes) so_far
run_on ((piece, Ok gs) ∷ calls) old new fs bytes so_far is =
    let next : Reader = is.0 in
    let now : framing (fs ++ gs) next.rest next.failed ≡ frames_of (bytes ++ piece) =
    ap (behind fs) is.1.1 ∙ ap (λ t. cond t (framing fs old.rest t) (behind fs (frames_of (old.rest ++ piece)))) (sym is.1.0) ∙ ap (λ f. followed f piece) so_far ∙ sym (cut_anywhere_lem bytes piece) in
    rw (← append_assoc fs gs (flat_map given_by calls), ← append_assoc bytes piece (flat_map taken_by calls)) (run_on calls next new (fs ++ gs) (bytes ++ piece) now is.2)
run_on ((piece, Err Failed) ∷ calls) old new fs bytes so_far is = run_on calls is.0 new fs bytes (rw is.1.1 so_far) is.2
run_on ((piece, Err NoMemory) ∷ calls) old new fs bytes so_far is = run_on calls is.0 new fs bytes (rw is.1.1 so_far) is.2

frames_nil : framing [] [] false ≡ frames_of []
unfolding frames_of first_frames
frames_nil = refl

-- whatever pieces a new reader was fed, it gave the frames of those it took
pub any_pieces_lem : ReadsAnyPieces
any_pieces_lem calls new is = run_on calls (record { rest = []; failed = false }) new [] [] frames_nil is
