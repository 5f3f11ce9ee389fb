-- The framing of a stream, frame by frame.
use Rattle.std.proofs.Common.{◌≡◌, ℕ, zero, suc, ◌+◌, ◌<◌, ◌≤◌, Bool, true, false, cond, ◌&&◌, eqb, List, [], ◌∷◌, ◌++◌, length, take, drop, refl, sym, ap, ◌∙◌, arith, length-drop, append-nil, append_assoc}
use Rattle.std.proofs.lemmas.List.{nil_from_length}
use Rattle.wire_read.specs.declared.fault.WireFault.{WireFault}
use Rattle.wire_read.specs.declared.frame.Frame.{Frame}
use Rattle.wire_read.specs.declared.frame.Frame.TheVariants as frame
use Rattle.wire_read.specs.Command.{Command}
use Rattle.wire_read.specs.Command.{Alone, Publish, Refused}
use Rattle.wire_read.specs.declared.front.End.TheVariants as ends
use Rattle.wire_read.specs.declared.lines.line.FoundLine.{FoundLine}
use Rattle.wire_read.specs.declared.lines.line.FoundLine.TheVariants.{Open, TooLong, Ended}
use Rattle.wire_read.specs.Front.{Front, Whole, More, Wrong, front, front_at, after_line, published, message, ended_by}
use Rattle.wire_read.specs.lines.Line.{line_of, without_cr}
use Rattle.wire_read.specs.Command.{command}
use Rattle.wire_read.specs.Framing.{Framing, framing, behind, framed_by, first_frames, frames_of}
use Rattle.wire_read.proofs.lines.LineLemmas.{ended_within}

-- a message ends with two bytes behind its payload
pub published_len : (g : Frame) (taken : ℕ) (rest : List ℕ) (f : Frame) (n : ℕ) → published g taken rest ≡ Whole f n → (n ≡ taken) × (2 ≤ length rest)
published_len g taken [] f n e = cc
published_len g taken (b ∷ []) f n e = by_test (eqb b 13) e
  where
    by_test : (t : Bool) → ended_by (cond t ends.Open ends.Wrong) g taken ≡ Whole f n → (n ≡ taken) × (2 ≤ 1)
    by_test true h = cc
    by_test false h = cc
published_len g taken (b ∷ c ∷ cs) f n e = (by_test (eqb b 13 && eqb c 10) e, omega arith)
  where
    by_test : (t : Bool) → ended_by (cond t ends.Whole ends.Wrong) g taken ≡ Whole f n → n ≡ taken
    by_test true h = cc
    by_test false h = cc

after_line_len : (c : Command) (bytes : List ℕ) (end : ℕ) (f : Frame) (n : ℕ) → end < length bytes → after_line c (end + 1) (drop (end + 1) bytes) ≡ Whole f n → (0 < n) × (n ≤ length bytes)
after_line_len (Refused w) bytes end f n within e = cc
after_line_len (Alone g) bytes end f n within e = let is : n ≡ end + 1 = cc in (omega arith, omega arith)
after_line_len (Publish a) bytes end f n within e =
    let rest : List ℕ = drop (end + 1) bytes in
    let ends : (n ≡ end + 1 + a.total + 2) × (2 ≤ length (drop a.total rest)) =
    published_len (message a.subject a.reply a.head (take a.total rest)) (end + 1 + a.total + 2) (drop a.total rest) f n e in
    (omega arith, omega (arith, length-drop a.total (drop (end + 1) bytes), length-drop (end + 1) bytes))

front_at_len : (l : FoundLine) (bytes : List ℕ) (f : Frame) (n : ℕ) → line_of bytes ≡ l → front_at l bytes ≡ Whole f n → (0 < n) × (n ≤ length bytes)
front_at_len Open bytes f n is e = cc
front_at_len TooLong bytes f n is e = cc
front_at_len (Ended end) bytes f n is e = after_line_len (command (without_cr (take end bytes))) bytes end f n (ended_within bytes end is) e

-- a frame takes a byte at least, and no more than there are
pub front_len : (bytes : List ℕ) (f : Frame) (n : ℕ) → front bytes ≡ Whole f n → (0 < n) × (n ≤ length bytes)
unfolding front
front_len bytes f n e = front_at_len (line_of bytes) bytes f n refl e

-- nothing begins with nothing
front_nil : front [] ≡ More
unfolding front line_of
front_nil = refl

same_after : (r : Front) (bytes : List ℕ) (f g : ℕ → Framing) → ((x : Frame) (n : ℕ) → r ≡ Whole x n → f n ≡ g n) → framed_by r f bytes ≡ framed_by r g bytes
same_after More bytes f g h = refl
same_after (Wrong w) bytes f g h = refl
same_after (Whole x n) bytes f g h = ap (behind (x ∷ [])) (h x n refl)

-- one frame more changes nothing where each byte is counted
more_fuel : (m : ℕ) (bytes : List ℕ) → length bytes ≤ m → first_frames (suc m) bytes ≡ first_frames m bytes
unfolding first_frames
more_fuel zero bytes few =
    let nothing = nil_from_length bytes (omega arith) in
    rw nothing (ap (λ r. framed_by r (λ taken. framing [] (drop taken []) false) []) front_nil)
more_fuel (suc m) bytes few =
    same_after (front bytes) bytes _ _ (λ x n is. more_fuel m (drop n bytes) (omega (arith, length-drop n bytes, front_len bytes x n is)))

-- so does any number of them
enough_fuel : (k m : ℕ) (bytes : List ℕ) → length bytes ≤ m → first_frames (m + k) bytes ≡ first_frames m bytes
enough_fuel zero m bytes few = let none : m + 0 ≡ m = omega arith in rw none refl
enough_fuel (suc k) m bytes few =
    let next : m + suc k ≡ suc (m + k) = omega arith in
    rw next (more_fuel (m + k) bytes (omega arith) ∙ enough_fuel k m bytes few)

-- the framing of a stream goes by what it begins with
pub frames_step : (bytes : List ℕ) → frames_of bytes ≡ framed_by (front bytes) (λ taken. frames_of (drop taken bytes)) bytes
unfolding frames_of first_frames
frames_step bytes =
    sym (more_fuel (length bytes) bytes (omega arith))
    ∙ same_after (front bytes) bytes _ _ (λ x n is.
    let left : length (drop n bytes) + n ≡ length bytes = omega (arith, length-drop n bytes, front_len bytes x n is) in
    rw (← left) (enough_fuel n (length (drop n bytes)) (drop n bytes) (omega arith)))

-- the frames of a stream that were read so far, and what is left
pub scan_more : (whole : Framing) (left : List ℕ) (fs : List Frame) → behind fs (frames_of left) ≡ whole → front left ≡ More → framing fs left false ≡ whole
scan_more whole left fs so_far is =
    ap (λ gs. framing gs left false) (sym (append-nil fs)) ∙ sym (ap (behind fs) (frames_step left ∙ ap (λ r. framed_by r (λ taken. frames_of (drop taken left)) left) is)) ∙ so_far

pub scan_wrong : (whole : Framing) (left : List ℕ) (fs gs : List Frame) (w : WireFault) → behind fs (frames_of left) ≡ whole → front left ≡ Wrong w → gs ≡ fs ++ frame.Fault w ∷ [] → framing gs [] true ≡ whole
scan_wrong whole left fs gs w so_far is pushed =
    ap (λ xs. framing xs [] true) pushed ∙ sym (ap (behind fs) (frames_step left ∙ ap (λ r. framed_by r (λ taken. frames_of (drop taken left)) left) is)) ∙ so_far

pub scan_whole : (whole : Framing) (left : List ℕ) (fs gs : List Frame) (f : Frame) (n : ℕ) → behind fs (frames_of left) ≡ whole → front left ≡ Whole f n → gs ≡ fs ++ f ∷ [] → behind gs (frames_of (drop n left)) ≡ whole
scan_whole whole left fs gs f n so_far is pushed =
    ap (λ xs. behind xs (frames_of (drop n left))) pushed
    ∙ ap (λ xs. framing xs (frames_of (drop n left)).rest (frames_of (drop n left)).failed) (append_assoc fs (f ∷ []) (frames_of (drop n left)).frames)
    ∙ sym (ap (behind fs) (frames_step left ∙ ap (λ r. framed_by r (λ taken. frames_of (drop taken left)) left) is))
    ∙ so_far
