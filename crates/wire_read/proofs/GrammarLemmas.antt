-- What lines, frames and faults are in the words of the grammar.
use Rattle.std.proofs.Common.{◌≡◌, inl, inr, ℕ, zero, suc, ◌+◌, ◌<◌, ◌≤◌, Bool, true, false, cond, ◌&&◌, eqb, List, [], ◌∷◌, ◌++◌, length, get_or, take, drop, Option, Some, None, refl, sym, ap, ◌∙◌, subst, arith, ⊎_elim, length-drop, length-take, length-append, append_assoc}
use Rattle.std.specs.List.{before_first, position_or_len}
use Rattle.std.proofs.lemmas.List.{get_or_append_left, get_or_at, take_at, drop_at, take_more, take-append-drop, get_or-take}
use Rattle.std.proofs.lemmas.List.Sums.{position_or_len_is, fails_before_first, passes_at_first}
use Rattle.std.proofs.lemmas.Bool.{eqb-true, eqb-false, ne_eqb, cond-false}
use Rattle.wire_message.specs.Texts.{texts}
use Rattle.wire_read.specs.declared.fault.WireFault.{WireFault}
use Rattle.wire_read.specs.declared.fault.WireFault.TheVariants.{ParserError, ControlLine}
use Rattle.wire_read.specs.declared.frame.Frame.{Frame}
use Rattle.wire_read.specs.declared.frame.Frame.TheVariants as frame
use Rattle.wire_read.specs.Command.{Announced}
use Rattle.wire_read.specs.Command.{Command}
use Rattle.wire_read.specs.Command.{Alone, Publish, Refused}
use Rattle.wire_read.specs.declared.front.End.TheVariants as ends
use Rattle.wire_read.specs.declared.lines.line.FoundLine.{FoundLine}
use Rattle.wire_read.specs.declared.lines.line.FoundLine.TheVariants.{Open, TooLong, Ended}
use Rattle.wire_read.specs.Front.{Front, Whole, More, Wrong, front, front_at, after_line, after_announced, published, message, ended_by}
use Rattle.wire_read.specs.lines.Line.{is_lf, line_of, without_cr}
use Rattle.wire_read.specs.Command.{command, announced}
use Rattle.wire_read.specs.Framing.{Framing, framing, behind, framed_by, frames_of}
use Rattle.wire_read.specs.Grammar.{IsLine, Announces, Says, IsMessage, IsSpelling, IsSpelled, IsRead, IsNoEnd, Shows, IsShown, IsFault, IsPartial, IsFramedBy, IsFraming, HasFraming, HasOneFraming}
use Rattle.wire_read.proofs.lines.LineLemmas.{line_long, line_ended, line_parts}
use Rattle.wire_read.proofs.SaysLemmas.{says_command, command_says}
use Rattle.wire_read.proofs.FramingLemmas.{front_len, frames_step}

-- a line that was found, with its end
line_found : (stream : List ℕ) (end : ℕ) → line_of stream ≡ Ended end → IsLine (without_cr (take end stream)) (take (end + 1) stream)
line_found stream end is =
    let parts = (line_parts stream).2 end is in
    let within : end < length stream = parts.2 in
    let lf : is_lf (get_or stream end 0) ≡ true =
    ap (λ k. is_lf (get_or stream k 0)) (sym parts.1) ∙ passes_at_first is_lf stream 0 (omega arith) in
    let same : before_first is_lf stream ≡ take end stream = ap (λ k. take k stream) parts.1 in (
      take end stream,
      take_more stream end 0 within ∙ ap (λ b. take end stream ++ b ∷ []) (eqb-true _ 10 lf),
      λ k d h.
          let low : k < end = omega (arith, length-take end stream) in
          rw (get_or-take end stream k d low) (fails_before_first is_lf stream k d (omega arith)),
      refl,
      omega (arith, parts.0, ap (λ l. length (without_cr l)) same),
    )

-- a line with its end in front is found
front_line : (line head more : List ℕ) → IsLine line head → front (head ++ more) ≡ after_line (command line) (length head) more
unfolding front
front_line line head more is =
    let raw : List ℕ = is.0 in
    let whole : head ++ more ≡ raw ++ (10 ∷ more) = ap (λ t. t ++ more) is.1 ∙ append_assoc raw (10 ∷ []) more in
    let size_is : length head ≡ length raw + 1 = ap length is.1 ∙ length-append raw (10 ∷ []) in
    let longer : length (raw ++ (10 ∷ more)) ≡ length raw + suc (length more) = length-append raw (10 ∷ more) in
    let at : position_or_len is_lf (raw ++ (10 ∷ more)) ≡ length raw =
    position_or_len_is is_lf (raw ++ (10 ∷ more)) (length raw) 0 (omega arith)
    (λ k h. rw (get_or_append_left raw (10 ∷ more) 0 k h) (is.2 k 0 h))
    (λ _. rw (get_or_at raw 10 more 0 (length raw) refl) refl) in
    let front_is : take (length raw) (raw ++ (10 ∷ more)) ≡ raw = take_at raw (10 ∷ more) (length raw) refl in
    let same : before_first is_lf (raw ++ (10 ∷ more)) ≡ raw = ap (λ k. take k (raw ++ (10 ∷ more))) at ∙ front_is in
    let short : length (without_cr (before_first is_lf (raw ++ (10 ∷ more)))) ≤ 4096 =
    omega (arith, is.4, ap length is.3, ap (λ l. length (without_cr l)) same) in
    let ended : line_of (raw ++ (10 ∷ more)) ≡ Ended (length raw) = sym (line_ended (raw ++ (10 ∷ more)) (length raw) short at (omega arith)) in
    let behind_is : drop (length raw + 1) (raw ++ (10 ∷ more)) ≡ more =
    ap (drop (length raw + 1)) (sym (append_assoc raw (10 ∷ []) more)) ∙ drop_at (raw ++ (10 ∷ [])) more (length raw + 1) (length-append raw (10 ∷ [])) in
    ap (λ s. front_at (line_of s) s) whole
    ∙ ap (λ l. front_at l (raw ++ (10 ∷ more))) ended
    ∙ ap (λ l. after_line (command (without_cr l)) (length raw + 1) (drop (length raw + 1) (raw ++ (10 ∷ more)))) front_is
    ∙ ap (λ l. after_line (command l) (length raw + 1) (drop (length raw + 1) (raw ++ (10 ∷ more)))) (sym is.3)
    ∙ ap (after_line (command line) (length raw + 1)) behind_is
    ∙ ap (λ n. after_line (command line) n more) (sym size_is)

-- a message ends with CR LF
published_whole : (g : Frame) (taken : ℕ) (rest : List ℕ) (f : Frame) (n : ℕ) → published g taken rest ≡ Whole f n →
    (f ≡ g) × (n ≡ taken) × ((more : List ℕ) × (rest ≡ 13 ∷ 10 ∷ more))
published_whole g taken [] f n e = cc
published_whole g taken (b ∷ []) f n e = by_test (eqb b 13) e
  where
    by_test : (t : Bool) → ended_by (cond t ends.Open ends.Wrong) g taken ≡ Whole f n → (f ≡ g) × (n ≡ taken) × ((more : List ℕ) × (b ∷ [] ≡ 13 ∷ 10 ∷ more))
    by_test true h = cc
    by_test false h = cc
published_whole g taken (b ∷ c ∷ cs) f n e = by_test (eqb b 13) (eqb c 10) refl refl e
  where
    by_test : (t u : Bool) → eqb b 13 ≡ t → eqb c 10 ≡ u → ended_by (cond (t && u) ends.Whole ends.Wrong) g taken ≡ Whole f n →
        (f ≡ g) × (n ≡ taken) × ((more : List ℕ) × (b ∷ c ∷ cs ≡ 13 ∷ 10 ∷ more))
    by_test true true is_b is_c h =
        let cr : b ≡ 13 = eqb-true b 13 is_b in
        let lf : c ≡ 10 = eqb-true c 10 is_c in
        let what : f ≡ g = cc in
        let count : n ≡ taken = cc in
        (what, count, (cs, rw (cr, lf) refl))
    by_test true false is_b is_c h = cc
    by_test false u is_b is_c h = cc

published_wrong : (g : Frame) (taken : ℕ) (rest : List ℕ) (w : WireFault) → published g taken rest ≡ Wrong w → (w ≡ ParserError) × IsNoEnd rest
published_wrong g taken [] w e = cc
published_wrong g taken (b ∷ []) w e = by_test (eqb b 13) refl e
  where
    by_test : (t : Bool) → eqb b 13 ≡ t → ended_by (cond t ends.Open ends.Wrong) g taken ≡ Wrong w → (w ≡ ParserError) × (b ≡ 13 → ⊥)
    by_test true is h = cc
    by_test false is h = let what : w ≡ ParserError = cc in (what, eqb-false b 13 is)
published_wrong g taken (b ∷ c ∷ cs) w e = by_test (eqb b 13) (eqb c 10) refl refl e
  where
    by_test : (t u : Bool) → eqb b 13 ≡ t → eqb c 10 ≡ u → ended_by (cond (t && u) ends.Whole ends.Wrong) g taken ≡ Wrong w →
        (w ≡ ParserError) × ((b ≡ 13) × (c ≡ 10) → ⊥)
    by_test true true is_b is_c h = cc
    by_test true false is_b is_c h = let what : w ≡ ParserError = cc in (what, λ both. eqb-false c 10 is_c both.1)
    by_test false u is_b is_c h = let what : w ≡ ParserError = cc in (what, λ both. eqb-false b 13 is_b both.0)

no_end : (g : Frame) (taken : ℕ) (rest : List ℕ) → IsNoEnd rest → published g taken rest ≡ Wrong ParserError
no_end g taken [] none = absurd none
no_end g taken (b ∷ []) none = ap (λ e. ended_by e g taken) (cond-false _ _ _ (ne_eqb b 13 none))
no_end g taken (b ∷ c ∷ cs) none = by_test (eqb b 13) (eqb c 10) refl refl
  where
    by_test : (t u : Bool) → eqb b 13 ≡ t → eqb c 10 ≡ u → ended_by (cond (t && u) ends.Whole ends.Wrong) g taken ≡ Wrong ParserError
    by_test true true is_b is_c = absurd (none (eqb-true b 13 is_b, eqb-true c 10 is_c))
    by_test true false is_b is_c = refl
    by_test false u is_b is_c = refl

-- a frame that a line says by itself
spelled_alone : (f : Frame) (line text : List ℕ) → IsLine line text → Says line (Alone f) → IsSpelling f text
spelled_alone (frame.Connect options) line text is says = (line, is, says)
spelled_alone (frame.Pub t) line text is says = absurd says
spelled_alone (frame.Hpub t) line text is says = absurd says
spelled_alone (frame.Sub subject queue sid) line text is says = (line, is, says)
spelled_alone (frame.Unsub sid most) line text is says = (line, is, says)
spelled_alone frame.Ping line text is says = (line, is, says)
spelled_alone frame.Pong line text is says = (line, is, says)
spelled_alone (frame.Fault fault) line text is says = absurd says

-- a message by the bytes that its line announced
spelled_block : (line start s : List ℕ) (reply : Option (List ℕ)) (head : Option ℕ) (block text : List ℕ) → IsLine line start → Announces line s reply head (length block) →
    text ≡ start ++ (block ++ 13 ∷ 10 ∷ []) → IsSpelling (message s reply head block) text
spelled_block line start s reply None block text is says e = (refl, (line, start, is, says, e))
spelled_block line start s reply (Some k) block text is says e =
    let len : length (take k block) ≡ k = omega (arith, length-take k block, says.6) in
    rw (len, take-append-drop k block) (line, start, is, says, e)

-- a message by its line and the bytes behind it
spelled_message : (line head stream : List ℕ) (a : Announced) (k : ℕ) → stream ≡ head ++ drop k stream → length head ≡ k → IsLine line head → Announces line a.subject a.reply a.head a.total →
    (f : Frame) (n : ℕ) → after_announced a k (drop k stream) ≡ Whole f n → (n ≤ length stream) × IsSpelling f (take n stream)
spelled_message line head stream a k cut k_is is says f n e =
    let rest : List ℕ = drop k stream in
    let block : List ℕ = take a.total rest in
    let found : (f ≡ message a.subject a.reply a.head block) × (n ≡ k + a.total + 2) × ((more : List ℕ) × (drop a.total rest ≡ 13 ∷ 10 ∷ more)) =
    published_whole (message a.subject a.reply a.head block) (k + a.total + 2) (drop a.total rest) f n e in
    let more : List ℕ = found.2.0 in
    let room : length (drop a.total rest) ≡ 2 + length more = ap length found.2.1 ∙ omega arith in
    let size_is : length block ≡ a.total = omega (arith, length-take a.total rest, length-drop a.total rest) in
    let text : List ℕ = head ++ (block ++ 13 ∷ 10 ∷ []) in
    let text_len : length text ≡ n = omega (arith, length-append head (block ++ 13 ∷ 10 ∷ []), length-append block (13 ∷ 10 ∷ []), found.1) in
    let rest_is : rest ≡ (block ++ 13 ∷ 10 ∷ []) ++ more =
    sym (take-append-drop a.total rest) ∙ ap (λ t. block ++ t) found.2.1 ∙ sym (append_assoc block (13 ∷ 10 ∷ []) more) in
    let stream_is : stream ≡ text ++ more = cut ∙ ap (λ t. head ++ t) rest_is ∙ sym (append_assoc head (block ++ 13 ∷ 10 ∷ []) more) in
    let taken : take n stream ≡ text = ap (take n) stream_is ∙ take_at text more n text_len in
    let Q : ℕ → Type 0 = λ m. Announces line a.subject a.reply a.head m in (
      omega (arith, ap length stream_is, length-append text more),
      rw (found.0, taken) (spelled_block line head a.subject a.reply a.head block text is (subst Q (sym size_is) says) refl),
    )

spelled_by : (c : Command) (stream : List ℕ) (end : ℕ) (f : Frame) (n : ℕ) → line_of stream ≡ Ended end → Says (without_cr (take end stream)) c →
    after_line c (end + 1) (drop (end + 1) stream) ≡ Whole f n → (n ≤ length stream) × IsSpelling f (take n stream)
spelled_by (Refused w) stream end f n is says e = cc
spelled_by (Alone g) stream end f n is says e =
    let what : f ≡ g = cc in
    let count : n ≡ end + 1 = cc in
    let parts = (line_parts stream).2 end is in
    (omega (arith, parts.2), rw (what, count) (spelled_alone g (without_cr (take end stream)) (take (end + 1) stream) (line_found stream end is) says))
spelled_by (Publish a) stream end f n is says e =
    let parts = (line_parts stream).2 end is in
    spelled_message (without_cr (take end stream)) (take (end + 1) stream) stream a (end + 1)
    (sym (take-append-drop (end + 1) stream)) (omega (arith, length-take (end + 1) stream, parts.2)) (line_found stream end is) says f n e

spelled_at : (l : FoundLine) (stream : List ℕ) (f : Frame) (n : ℕ) → line_of stream ≡ l → front_at l stream ≡ Whole f n → (n ≤ length stream) × IsSpelling f (take n stream)
spelled_at Open stream f n is e = cc
spelled_at TooLong stream f n is e = cc
spelled_at (Ended end) stream f n is e = spelled_by (command (without_cr (take end stream))) stream end f n is (says_command (without_cr (take end stream))) e

-- a frame in front has one of its texts
pub is_spelled : IsSpelled
unfolding front
is_spelled stream f n e = spelled_at (line_of stream) stream f n refl e

read_alone : (f : Frame) (line text more : List ℕ) → IsLine line text → Says line (Alone f) → front (text ++ more) ≡ Whole f (length text)
read_alone f line text more is says = front_line line text more is ∙ ap (λ c. after_line c (length text) more) (command_says line (Alone f) says)

-- a message in front, by the bytes that its line announced
read_message : (s : List ℕ) (reply : Option (List ℕ)) (head : Option ℕ) (block text more : List ℕ) → IsMessage s reply head block text →
    front (text ++ more) ≡ Whole (message s reply head block) (length text)
read_message s reply head block text more is =
    let line : List ℕ = is.0 in
    let start : List ℕ = is.1 in
    let a : Announced = announced s reply head (length block) in
    let whole : text ++ more ≡ start ++ (block ++ (13 ∷ 10 ∷ more)) =
    ap (λ t. t ++ more) is.4 ∙ append_assoc start (block ++ 13 ∷ 10 ∷ []) more ∙ ap (λ t. start ++ t) (append_assoc block (13 ∷ 10 ∷ []) more) in
    let count : length text ≡ length start + length block + 2 =
    omega (arith, ap length is.4, length-append start (block ++ 13 ∷ 10 ∷ []), length-append block (13 ∷ 10 ∷ [])) in
    ap front whole
    ∙ front_line line start (block ++ (13 ∷ 10 ∷ more)) is.2
    ∙ ap (λ c. after_line c (length start) (block ++ (13 ∷ 10 ∷ more))) (command_says line (Publish a) is.3)
    ∙ ap (λ p. published (message s reply head p) (length start + length block + 2) (drop (length block) (block ++ (13 ∷ 10 ∷ more)))) (take_at block (13 ∷ 10 ∷ more) (length block) refl)
    ∙ ap (published (message s reply head block) (length start + length block + 2)) (drop_at block (13 ∷ 10 ∷ more) (length block) refl)
    ∙ ap (Whole (message s reply head block)) (sym count)

-- a text of a frame in front is that frame
pub is_read : IsRead
is_read (frame.Connect options) text more is = read_alone (frame.Connect options) is.0 text more is.1 is.2
is_read (frame.Sub subject queue sid) text more is = read_alone (frame.Sub subject queue sid) is.0 text more is.1 is.2
is_read (frame.Unsub sid most) text more is = read_alone (frame.Unsub sid most) is.0 text more is.1 is.2
is_read frame.Ping text more is = read_alone frame.Ping is.0 text more is.1 is.2
is_read frame.Pong text more is = read_alone frame.Pong is.0 text more is.1 is.2
is_read (frame.Fault fault) text more is = read_alone (frame.Fault fault) is.0 text more is.1 is.2
is_read (frame.Pub t) text more is =
    read_message t.subject t.reply None t.payload text more is.1
    ∙ ap (λ h. Whole (frame.Pub (texts t.subject t.reply h t.payload)) (length text)) (sym is.0)
is_read (frame.Hpub t) text more is =
    read_message t.subject t.reply (Some (length t.head)) (t.head ++ t.payload) text more is
    ∙ ap (λ h. Whole (frame.Hpub (texts t.subject t.reply h (drop (length t.head) (t.head ++ t.payload)))) (length text)) (take_at t.head t.payload (length t.head) refl)
    ∙ ap (λ p. Whole (frame.Hpub (texts t.subject t.reply t.head p)) (length text)) (drop_at t.head t.payload (length t.head) refl)

shown_by : (c : Command) (stream : List ℕ) (end : ℕ) (w : WireFault) → line_of stream ≡ Ended end → Says (without_cr (take end stream)) c →
    after_line c (end + 1) (drop (end + 1) stream) ≡ Wrong w → Shows w stream
shown_by (Refused v) stream end w is says e =
    let what : v ≡ w = cc in
    let Q : WireFault → Type 0 = λ x. Says (without_cr (take end stream)) (Refused x) in
    inr (inl (without_cr (take end stream), take (end + 1) stream, drop (end + 1) stream, sym (take-append-drop (end + 1) stream), line_found stream end is, subst Q what says))
shown_by (Alone g) stream end w is says e = cc
shown_by (Publish a) stream end w is says e =
    let found = published_wrong (message a.subject a.reply a.head (take a.total (drop (end + 1) stream))) (end + 1 + a.total + 2) (drop a.total (drop (end + 1) stream)) w e in
    inr (inr (found.0, (without_cr (take end stream), take (end + 1) stream, drop (end + 1) stream, a, sym (take-append-drop (end + 1) stream), line_found stream end is, says, found.1)))

shown_at : (l : FoundLine) (stream : List ℕ) (w : WireFault) → line_of stream ≡ l → front_at l stream ≡ Wrong w → Shows w stream
shown_at Open stream w is e = cc
shown_at TooLong stream w is e = let what : w ≡ ControlLine = cc in inl (what, (line_parts stream).0 is)
shown_at (Ended end) stream w is e = shown_by (command (without_cr (take end stream))) stream end w is (says_command (without_cr (take end stream))) e

-- a fault in front shows
pub is_shown : IsShown
unfolding front
is_shown stream w e = shown_at (line_of stream) stream w refl e

long_front : (stream : List ℕ) → 4096 < length (without_cr (before_first is_lf stream)) → front stream ≡ Wrong ControlLine
unfolding front
long_front stream long = ap (λ l. front_at l stream) (sym (line_long stream long))

-- a fault that shows is in front
pub is_fault : IsFault
is_fault stream w shows =
    ⊎_elim
    (λ long. long_front stream long.1 ∙ ap Wrong (sym long.0))
    (⊎_elim
    (λ line. ap front line.3 ∙ front_line line.0 line.1 line.2 line.4 ∙ ap (λ c. after_line c (length line.1) line.2) (command_says line.0 (Refused w) line.5))
    (λ wrong.
    let m = wrong.1 in
    let a : Announced = m.3 in
    ap front m.4
    ∙ front_line m.0 m.1 m.2 m.5
    ∙ ap (λ c. after_line c (length m.1) m.2) (command_says m.0 (Publish a) m.6)
    ∙ no_end (message a.subject a.reply a.head (take a.total m.2)) (length m.1 + a.total + 2) (drop a.total m.2) m.7
    ∙ ap Wrong (sym wrong.0)))
    shows

-- bytes are partial exactly where more is needed
partial_more : (bytes : List ℕ) → front bytes ≡ More → IsPartial bytes
partial_more bytes is = (
  λ f text more cut spelled. let e : More ≡ Whole f (length text) = sym is ∙ ap front cut ∙ is_read f text more spelled in cc,
  λ w shows. let e : More ≡ Wrong w = sym is ∙ is_fault bytes w shows in cc,
)

more_by : (r : Front) (bytes : List ℕ) → front bytes ≡ r → IsPartial bytes → r ≡ More
more_by More bytes is partial = refl
more_by (Wrong w) bytes is partial = absurd (partial.1 w (is_shown bytes w is))
more_by (Whole f n) bytes is partial = absurd (partial.0 f (take n bytes) (drop n bytes) (sym (take-append-drop n bytes)) (is_spelled bytes f n is).1)

-- the framing of a stream by what it begins with
step_by : (stream : List ℕ) (r : Front) → front stream ≡ r → frames_of stream ≡ framed_by r (λ n. frames_of (drop n stream)) stream
step_by stream r is = frames_step stream ∙ ap (λ x. framed_by x (λ n. frames_of (drop n stream)) stream) is

only_whole : (f : Frame) (fs : List Frame) (stream text more rest : List ℕ) (failed : Bool) → stream ≡ text ++ more → IsSpelling f text →
    framing fs rest failed ≡ frames_of more → framing (f ∷ fs) rest failed ≡ frames_of stream
only_whole f fs stream text more rest failed cut spelled after =
    let e : front (text ++ more) ≡ Whole f (length text) = is_read f text more spelled in
    ap (behind (f ∷ [])) (after ∙ ap frames_of (sym (drop_at text more (length text) refl))) ∙ sym (step_by (text ++ more) (Whole f (length text)) e) ∙ ap frames_of (sym cut)

only_by : (fs : List Frame) (stream rest : List ℕ) (failed : Bool) → IsFramedBy stream fs rest failed → framing fs rest failed ≡ frames_of stream
only_by [] stream rest failed is =
    let more : front rest ≡ More = more_by (front rest) rest refl is.2 in
    rw (is.0, is.1) (sym (step_by rest More more))
only_by (frame.Fault w ∷ fs) stream rest failed is =
    rw (is.1, is.2, is.3) (sym (step_by stream (Wrong w) (is_fault stream w is.0)))
only_by (frame.Connect o ∷ fs) stream rest failed is = only_whole _ fs stream is.0 is.1 rest failed is.2 is.3 (only_by fs is.1 rest failed is.4)
only_by (frame.Pub t ∷ fs) stream rest failed is = only_whole _ fs stream is.0 is.1 rest failed is.2 is.3 (only_by fs is.1 rest failed is.4)
only_by (frame.Hpub t ∷ fs) stream rest failed is = only_whole _ fs stream is.0 is.1 rest failed is.2 is.3 (only_by fs is.1 rest failed is.4)
only_by (frame.Sub s q i ∷ fs) stream rest failed is = only_whole _ fs stream is.0 is.1 rest failed is.2 is.3 (only_by fs is.1 rest failed is.4)
only_by (frame.Unsub i m ∷ fs) stream rest failed is = only_whole _ fs stream is.0 is.1 rest failed is.2 is.3 (only_by fs is.1 rest failed is.4)
only_by (frame.Pong ∷ fs) stream rest failed is = only_whole _ fs stream is.0 is.1 rest failed is.2 is.3 (only_by fs is.1 rest failed is.4)
only_by (frame.Ping ∷ fs) stream rest failed is = only_whole _ fs stream is.0 is.1 rest failed is.2 is.3 (only_by fs is.1 rest failed is.4)

-- a stream has no other framing
pub has_one_framing : HasOneFraming
has_one_framing stream f is = only_by f.frames stream f.rest f.failed is

found_whole : (f : Frame) (fs : List Frame) (stream text more rest : List ℕ) (failed : Bool) → stream ≡ text ++ more → IsSpelling f text →
    IsFramedBy more fs rest failed → IsFramedBy stream (f ∷ fs) rest failed
found_whole (frame.Fault w) fs stream text more rest failed cut spelled after = absurd spelled.2
found_whole (frame.Connect o) fs stream text more rest failed cut spelled after = (text, more, cut, spelled, after)
found_whole (frame.Pub t) fs stream text more rest failed cut spelled after = (text, more, cut, spelled, after)
found_whole (frame.Hpub t) fs stream text more rest failed cut spelled after = (text, more, cut, spelled, after)
found_whole (frame.Sub s q i) fs stream text more rest failed cut spelled after = (text, more, cut, spelled, after)
found_whole (frame.Unsub i m) fs stream text more rest failed cut spelled after = (text, more, cut, spelled, after)
found_whole frame.Pong fs stream text more rest failed cut spelled after = (text, more, cut, spelled, after)
found_whole frame.Ping fs stream text more rest failed cut spelled after = (text, more, cut, spelled, after)

found_by : (r : Front) (stream : List ℕ) → ((c : List ℕ) → length c < length stream → IsFraming c (frames_of c)) → front stream ≡ r → IsFraming stream (frames_of stream)
found_by More stream shorter is =
    let Q : Framing → Type 0 = λ f. IsFraming stream f in
    subst Q (sym (step_by stream More is)) (refl, refl, partial_more stream is)
found_by (Wrong w) stream shorter is =
    let Q : Framing → Type 0 = λ f. IsFraming stream f in
    subst Q (sym (step_by stream (Wrong w) is)) (is_shown stream w is, refl, refl, refl)
found_by (Whole f n) stream shorter is =
    let Q : Framing → Type 0 = λ x. IsFraming stream x in
    let within : (0 < n) × (n ≤ length stream) = front_len stream f n is in
    let after : Framing = frames_of (drop n stream) in
    subst Q (sym (step_by stream (Whole f n) is))
    (found_whole f after.frames stream (take n stream) (drop n stream) after.rest after.failed (sym (take-append-drop n stream)) (is_spelled stream f n is).1 (shorter (drop n stream) (omega (arith, length-drop n stream))))

found_at : (m : ℕ) (stream : List ℕ) → length stream < m → IsFraming stream (frames_of stream)
found_at zero stream few = absurd (omega arith)
found_at (suc m) stream few = found_by (front stream) stream (λ c less. found_at m c (omega arith)) refl

-- a stream has a framing
pub has_framing : HasFraming
has_framing stream = found_at (suc (length stream)) stream (omega arith)
