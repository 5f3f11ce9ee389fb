-- What less than a frame waits for, as its bytes come.
use Rattle.std.proofs.Common.{◌≡◌, ◌⊎◌, inl, inr, ℕ, ◌+◌, ◌-◌, ◌<◌, ◌≤◌, Bool, true, false, not, cond, ◌&&◌, eqb, List, [], ◌∷◌, ◌++◌, length, get_or, take, drop, None, Result, Ok, Err, IfOk, refl, sym, ap, ◌∙◌, subst, arith, ⊎_elim, length-drop, length-append, append-nil, append_assoc}
use Rattle.std.specs.List.{before_first, position_or_len}
use Rattle.std.proofs.lemmas.Bool.{cases_lt, cond-true, eq-eqb, eqb-true}
use Rattle.std.proofs.lemmas.List.{drop_all, take_all, take-append-le, get_or_append_left, get_or-append_right, get_or-drop}
use Rattle.std.proofs.lemmas.List.Sums.{position_or_len_is, fails_before_first, passes_at_first, prefix_len-le-length}
use Rattle.memchr.specs.Find.{IsFirstByte, is_byte}
use Rattle.wire_read.specs.declared.fault.WireFault.{WireFault}
use Rattle.wire_read.specs.declared.fault.WireFault.TheVariants.{ControlLine}
use Rattle.wire_read.specs.declared.frame.Frame.{Frame}
use Rattle.wire_read.specs.Command.{Announced}
use Rattle.wire_read.specs.Command.{Alone, Publish, Refused}
use Rattle.wire_read.specs.declared.front.End.TheVariants as ends
use Rattle.wire_read.specs.declared.lines.line.FoundLine.{FoundLine}
use Rattle.wire_read.specs.declared.lines.line.FoundLine.TheVariants.{Open, TooLong, Ended}
use Rattle.wire_read.specs.declared.awaited.Awaited.{Awaited}
use Rattle.wire_read.specs.declared.awaited.Awaited.TheVariants.{LineEnd, Block}
use Rattle.wire_read.specs.declared.front.Found.{Found}
use Rattle.wire_read.specs.declared.front.Found.TheVariants as found
use Rattle.wire_read.specs.lines.Line.{is_lf, line_of, without_cr}
use Rattle.wire_read.specs.Command.{command}
use Rattle.wire_read.specs.Front.{Whole, More, Wrong, front, front_at, after_line, after_announced, published, message, ended_by}
use Rattle.wire_read.specs.Framing.{Framing, framing, behind, framed_by, frames_of, followed}
use Rattle.wire_read.specs.Awaited.{IsBegun, IsAwaiting, IsFound, AwaitsBlock, front_of}
use Rattle.wire_read.proofs.lines.LineLemmas.{line_parts, line_open, without_cr-bounds}
use Rattle.wire_read.proofs.FramingLemmas.{frames_step}
use Rattle.wire_read.proofs.CutLemmas.{ended_more, cut_anywhere_lem}

-- what bytes begin with, by their line
front_by : (bytes : List ℕ) (l : FoundLine) → line_of bytes ≡ l → front bytes ≡ front_at l bytes
unfolding front
front_by bytes l is = ap (λ x. front_at x bytes) is

pub open_awaits : (bytes : List ℕ) → Open ≡ line_of bytes → IsAwaiting LineEnd bytes
unfolding IsAwaiting
open_awaits bytes is = (front_by bytes Open (sym is), ((line_parts bytes).1 (sym is)).1)

pub nothing_awaits : IsAwaiting LineEnd []
nothing_awaits = open_awaits [] (line_open [] (omega arith) refl)

pub too_long : (bytes : List ℕ) → TooLong ≡ line_of bytes → front bytes ≡ Wrong ControlLine
too_long bytes is = front_by bytes TooLong (sym is)

pub found_refused : (bytes line : List ℕ) (end : ℕ) (w : WireFault) → line_of bytes ≡ Ended end → line ≡ without_cr (take end bytes) → Refused w ≡ command line → front bytes ≡ Wrong w
found_refused bytes line end w is same says =
    front_by bytes (Ended end) is ∙ ap (λ c. after_line c (end + 1) (drop (end + 1) bytes)) (ap command (sym same) ∙ sym says)

pub found_alone : (bytes line : List ℕ) (end : ℕ) (f : Frame) → line_of bytes ≡ Ended end → line ≡ without_cr (take end bytes) → Alone f ≡ command line → front bytes ≡ Whole f (end + 1)
found_alone bytes line end f is same says =
    front_by bytes (Ended end) is ∙ ap (λ c. after_line c (end + 1) (drop (end + 1) bytes)) (ap command (sym same) ∙ sym says)

front_published : (bytes line : List ℕ) (end : ℕ) (a : Announced) → line_of bytes ≡ Ended end → line ≡ without_cr (take end bytes) → Publish a ≡ command line →
    front bytes ≡ after_announced a (end + 1) (drop (end + 1) bytes)
front_published bytes line end a is same says =
    front_by bytes (Ended end) is ∙ ap (λ c. after_line c (end + 1) (drop (end + 1) bytes)) (ap command (sym same) ∙ sym says)

-- less than a message has one byte at most behind its block
published_open : (f : Frame) (n : ℕ) (rest : List ℕ) → published f n rest ≡ More → length rest ≤ 1
published_open f n [] e = omega arith
published_open f n (b ∷ []) e = omega arith
published_open f n (b ∷ c ∷ cs) e = absurd (settled (eqb b 13 && eqb c 10) e)
  where
    settled : (t : Bool) → ended_by (cond t ends.Whole ends.Wrong) f n ≡ More → ⊥
    settled true h = cc
    settled false h = cc

-- CR alone behind a block
one_cr : (f : Frame) (n : ℕ) (rest : List ℕ) → length rest ≡ 1 → get_or rest 0 0 ≡ 13 → published f n rest ≡ More
one_cr f n [] one cr = refl
one_cr f n (b ∷ []) one cr = ap (λ e. ended_by e f n) (cond-true _ _ _ (eq-eqb b 13 cr))
one_cr f n (b ∷ c ∷ cs) one cr = let no : ⊥ = omega arith in absurd no

begun_open : (f : Frame) (n start total : ℕ) (bytes : List ℕ) → start ≤ length bytes → IsBegun (start + total) bytes → published f n (drop total (drop start bytes)) ≡ More
begun_open f n start total bytes within begun =
    ⊎_elim
    (λ short.
    let none : drop total (drop start bytes) ≡ [] = drop_all total (drop start bytes) (omega (arith, length-drop start bytes)) in
    ap (published f n) none)
    (λ cr.
    let place : start + (total + 0) ≡ start + total = omega arith in
    one_cr f n (drop total (drop start bytes)) (omega (arith, cr.0, length-drop total (drop start bytes), length-drop start bytes))
    (get_or-drop total (drop start bytes) 0 0 ∙ get_or-drop start bytes (total + 0) 0 ∙ ap (λ k. get_or bytes k 0) place ∙ cr.1))
    begun

-- a block that has begun
block_goes_on : (bytes more line : List ℕ) (end : ℕ) (a : Announced) → line_of bytes ≡ Ended end → line ≡ without_cr (take end bytes) → Publish a ≡ command line →
    IsBegun (end + 1 + a.total) (bytes ++ more) → front (bytes ++ more) ≡ More
block_goes_on bytes more line end a is same says begun =
    let parts = (line_parts bytes).2 end is in
    let front_is : take end (bytes ++ more) ≡ take end bytes = take-append-le end bytes more (omega (arith, parts.2)) in
    front_published (bytes ++ more) line end a (ended_more bytes more end is) (same ∙ ap without_cr (sym front_is)) says
    ∙ begun_open (message a.subject a.reply a.head (take a.total (drop (end + 1) (bytes ++ more)))) (end + 1 + a.total + 2) (end + 1) a.total (bytes ++ more)
    (omega (arith, parts.2, length-append bytes more)) begun

pub block_awaits : (bytes line : List ℕ) (end : ℕ) (a : Announced) → line_of bytes ≡ Ended end → line ≡ without_cr (take end bytes) → Publish a ≡ command line →
    after_announced a (end + 1) (drop (end + 1) bytes) ≡ More → IsAwaiting (Block (end + 1 + a.total)) bytes
unfolding IsAwaiting
block_awaits bytes line end a is same says open_end =
    let one = published_open (message a.subject a.reply a.head (take a.total (drop (end + 1) bytes))) (end + 1 + a.total + 2) (drop a.total (drop (end + 1) bytes)) open_end in (
      front_published bytes line end a is same says ∙ open_end,
      (omega (arith, length-drop a.total (drop (end + 1) bytes), length-drop (end + 1) bytes), λ more begun. block_goes_on bytes more line end a is same says begun),
    )

pub found_published : (bytes line : List ℕ) (end : ℕ) (a : Announced) (f : Found) → line_of bytes ≡ Ended end → line ≡ without_cr (take end bytes) → Publish a ≡ command line →
    front_of f ≡ after_announced a (end + 1) (drop (end + 1) bytes) → AwaitsBlock f (end + 1 + a.total) → IsFound f bytes
found_published bytes line end a (found.Whole g n) is same says by block = front_published bytes line end a is same says ∙ sym by
found_published bytes line end a (found.Wrong w) is same says by block = front_published bytes line end a is same says ∙ sym by
found_published bytes line end a (found.More awaited) is same says by block = rw block (block_awaits bytes line end a is same says (sym by))

-- what waits is less than a frame
pub awaits_more : (awaited : Awaited) (bytes : List ℕ) → IsAwaiting awaited bytes → front bytes ≡ More
unfolding IsAwaiting
awaits_more awaited bytes is = is.0

pub block_len : (end : ℕ) (bytes : List ℕ) → IsAwaiting (Block end) bytes → length bytes ≤ end + 1
unfolding IsAwaiting
block_len end bytes is = is.1.0

-- a piece that ends no later than its CR behind a block
last_cr : (piece : List ℕ) → length (without_cr piece) < length piece → get_or piece (length piece - 1) 0 ≡ 13
last_cr piece less = by_cr (eqb (get_or piece (length piece - 1) 0) 13) refl less
  where
    by_cr : (t : Bool) → eqb (get_or piece (length piece - 1) 0) 13 ≡ t → length (cond t (take (length piece - 1) piece) piece) < length piece → get_or piece (length piece - 1) 0 ≡ 13
    by_cr true is shorter = eqb-true _ 13 is
    by_cr false is shorter = let no : ⊥ = omega arith in absurd no

begun_by : (end : ℕ) (bytes piece : List ℕ) → length bytes + length (without_cr piece) ≤ end → IsBegun end (bytes ++ piece)
begun_by end bytes piece few =
    ⊎_elim
    (λ (cr : length (without_cr piece) < length piece).
    ⊎_elim
    (λ (over : end < length (bytes ++ piece)).
    let bounds = without_cr-bounds piece in
    let whole : length (bytes ++ piece) ≡ end + 1 = omega (arith, length-append bytes piece, bounds.1) in
    let place : end - length bytes ≡ length piece - 1 = omega (arith, length-append bytes piece) in
    inr (whole, get_or-append_right bytes piece (length bytes) end 0 refl (omega (arith, length-append bytes piece)) ∙ ap (λ k. get_or piece k 0) place ∙ last_cr piece cr))
    (λ short. inl short)
    (cases_lt end (length (bytes ++ piece))))
    (λ none. inl (omega (arith, length-append bytes piece)))
    (cases_lt (length (without_cr piece)) (length piece))

-- a piece that settles nothing
pub quiet_block : (end : ℕ) (bytes piece : List ℕ) → IsAwaiting (Block end) bytes → length bytes + length (without_cr piece) ≤ end → IsAwaiting (Block end) (bytes ++ piece)
unfolding IsAwaiting
quiet_block end bytes piece is few = (
  is.1.1 piece (begun_by end bytes piece few),
  (
    omega (arith, length-append bytes piece, (without_cr-bounds piece).1),
    λ more begun.
        let same : (bytes ++ piece) ++ more ≡ bytes ++ (piece ++ more) = append_assoc bytes piece more in
        let Q : List ℕ → Type 0 = λ t. IsBegun end t in
        rw same (is.1.1 (piece ++ more) (subst Q same begun)),
  ),
)

no_lf : (a b : List ℕ) → position_or_len is_lf a ≡ length a → position_or_len is_lf b ≡ length b → position_or_len is_lf (a ++ b) ≡ length (a ++ b)
no_lf a b first second =
    position_or_len_is is_lf (a ++ b) (length (a ++ b)) 0 (omega arith)
    (λ k h. ⊎_elim
    (λ low. rw (get_or_append_left a b 0 k low) (fails_before_first is_lf a k 0 (omega arith)))
    (λ (high : length a ≤ k). rw (get_or-append_right a b (length a) k 0 refl high) (fails_before_first is_lf b (k - length a) 0 (omega (arith, length-append a b))))
    (cases_lt k (length a)))
    (λ h. absurd (omega arith))

pub quiet_line : (bytes piece : List ℕ) → IsAwaiting LineEnd bytes → IsFirstByte (is_byte 10) piece None → length bytes + length piece ≤ 4096 → IsAwaiting LineEnd (bytes ++ piece)
unfolding IsAwaiting
quiet_line bytes piece is none few =
    let up : position_or_len is_lf piece ≤ length piece = prefix_len-le-length (λ x. not (is_lf x)) piece in
    let far : position_or_len is_lf piece ≡ length piece =
    ⊎_elim
    (λ before. absurd (none (position_or_len is_lf piece) (omega arith) before (passes_at_first is_lf piece 0 before)))
    (λ behind. omega arith)
    (cases_lt (position_or_len is_lf piece) (length piece)) in
    let all = no_lf bytes piece is.1 far in
    let whole : before_first is_lf (bytes ++ piece) ≡ bytes ++ piece = take_all _ (bytes ++ piece) (omega arith) in
    let l : Open ≡ line_of (bytes ++ piece) =
    line_open (bytes ++ piece) (omega (arith, ap (λ t. length (without_cr t)) whole, (without_cr-bounds (bytes ++ piece)).0, length-append bytes piece)) all in
    (front_by (bytes ++ piece) Open (sym l), all)

-- two facts of a result where it is there
pub if_both : {A E : Type 0} (r : Result A E) (P Q R : A → Type 0) → ((x : A) → P x → Q x → R x) → IfOk r P → IfOk r Q → IfOk r R
if_both (Ok x) P Q R both p q = both x p q
if_both (Err e) P Q R both p q = p

-- what was found, once it is known which
pub found_more : (r : Found) (awaited : Awaited) (bytes : List ℕ) → IsFound r bytes → r ≡ found.More awaited → front bytes ≡ More
found_more r awaited bytes is e = let Q : Found → Type 0 = λ x. IsFound x bytes in awaits_more awaited bytes (subst Q e is)

pub found_wrong : (r : Found) (w : WireFault) (bytes : List ℕ) → IsFound r bytes → r ≡ found.Wrong w → front bytes ≡ Wrong w
found_wrong r w bytes is e = let Q : Found → Type 0 = λ x. IsFound x bytes in subst Q e is

pub found_whole : (r : Found) (f : Frame) (n : ℕ) (bytes : List ℕ) → IsFound r bytes → r ≡ found.Whole f n → front bytes ≡ Whole f n
found_whole r f n bytes is e = let Q : Found → Type 0 = λ x. IsFound x bytes in subst Q e is

-- the same, of what is known to be awaited
pub waits_line : (awaited : Awaited) (bytes piece : List ℕ) → IsAwaiting awaited bytes → awaited ≡ LineEnd → IsFirstByte (is_byte 10) piece None → length bytes + length piece ≤ 4096 → IsAwaiting awaited (bytes ++ piece)
waits_line awaited bytes piece is e none few =
    let Q : Awaited → Type 0 = λ a. IsAwaiting a bytes in
    rw e (quiet_line bytes piece (subst Q e is) none few)

pub waits_block : (awaited : Awaited) (end : ℕ) (bytes piece : List ℕ) → IsAwaiting awaited bytes → awaited ≡ Block end → length bytes + length (without_cr piece) ≤ end → IsAwaiting awaited (bytes ++ piece)
waits_block awaited end bytes piece is e few =
    let Q : Awaited → Type 0 = λ a. IsAwaiting a bytes in
    rw e (quiet_block end bytes piece (subst Q e is) few)

pub waits_len : (awaited : Awaited) (end : ℕ) (bytes : List ℕ) → IsAwaiting awaited bytes → awaited ≡ Block end → length bytes ≤ end + 1
waits_len awaited end bytes is e = let Q : Awaited → Type 0 = λ a. IsAwaiting a bytes in block_len end bytes (subst Q e is)

-- bytes that wait are framed as they are
pub waits_framed : (awaited : Awaited) (bytes : List ℕ) → IsAwaiting awaited bytes → frames_of bytes ≡ framing [] bytes false
waits_framed awaited bytes is = frames_step bytes ∙ ap (λ r. framed_by r (λ n. frames_of (drop n bytes)) bytes) (awaits_more awaited bytes is)

-- frames so far, and less than one more that a piece doesn't complete
pub quiet_followed : (awaited : Awaited) (fs : List Frame) (kept kept' piece : List ℕ) (failed : Bool) → failed ≡ false → kept' ≡ kept ++ piece → IsAwaiting awaited (kept ++ piece) →
    framing fs kept' failed ≡ followed (framing fs kept failed) piece
quiet_followed awaited fs kept kept' piece failed is grown waits =
    rw (is, grown) (sym (ap (behind fs) (waits_framed awaited (kept ++ piece) waits) ∙ ap (λ gs. framing gs (kept ++ piece) false) (append-nil fs)))

-- a framing behind frames goes on as it does
behind_on : (fs : List Frame) (f : Framing) (more : List ℕ) → followed (behind fs f) more ≡ behind fs (followed f more)
behind_on fs f more = by_fault f.failed f.frames f.rest
  where
    by_fault : (t : Bool) (gs : List Frame) (rest : List ℕ) → followed (behind fs (framing gs rest t)) more ≡ behind fs (followed (framing gs rest t) more)
    by_fault true gs rest = refl
    by_fault false gs rest =
        ap (λ xs. framing xs (frames_of (rest ++ more)).rest (frames_of (rest ++ more)).failed) (append_assoc fs gs (frames_of (rest ++ more)).frames)

-- a part of a piece, and what is behind it
pub part_followed : (now : Framing) (fs : List Frame) (kept part more piece : List ℕ) (failed : Bool) → failed ≡ false → part ++ more ≡ piece → now ≡ behind fs (frames_of (kept ++ part)) →
    followed now more ≡ followed (framing fs kept failed) piece
part_followed now fs kept part more piece failed is cut part_is =
    rw (part_is, is, ← cut)
    (behind_on fs (frames_of (kept ++ part)) more
    ∙ ap (behind fs) (sym (cut_anywhere_lem (kept ++ part) more))
    ∙ ap (λ t. behind fs (frames_of t)) (append_assoc kept part more))

-- nothing more follows
pub end_followed : (awaited : Awaited) (fs : List Frame) (kept left : List ℕ) (failed : Bool) → IsAwaiting awaited kept → (failed ≡ true) ⊎ (left ≡ []) → followed (framing fs kept failed) left ≡ framing fs kept failed
end_followed awaited fs kept left true is ended = refl
end_followed awaited fs kept left false is ended =
    ⊎_elim
    (λ fault. let no : false ≡ true = fault in cc)
    (λ none.
    ap (λ t. behind fs (frames_of t)) (ap (λ l. kept ++ l) none ∙ append-nil kept)
    ∙ ap (behind fs) (waits_framed awaited kept is)
    ∙ ap (λ gs. framing gs kept false) (append-nil fs))
    ended
