-- Looking up a number in the parts of a history, and in the whole.
use Rattle.std.proofs.Common.{◌≡◌, ◌∙◌, ◌+◌, ◌-◌, ◌<◌, ◌≤◌, ◌&&◌, ◌++◌, ◌∷◌, ℕ, suc, zero, Bool, true, false, cond, List, [], Option, Some, None, All, filter, length, get_or, take, drop, ap, sym, refl, subst, arith}
use Rattle.std.specs.Prelude.{nat_lt, nat_le, slice_get, sum}
use Rattle.std.proofs.lemmas.Bool.{lt-ltb, le-leb, lt-leb, ltb-true, leb-true, leb-false}
use Rattle.std.proofs.lemmas.List.{get_or-take, get_or-drop, length-take, length-drop, take_more}
use Rattle.std.proofs.lemmas.List.Elements.{All-head, All-tail, All-cons, All-push}
use Rattle.std.proofs.lemmas.Option.{none-some, slice_get_within, slice_get_read, slice_get_past, get_or_from_slice_get}
use Rattle.events.specs.declared.answer.Entry.{Entry}
use Rattle.world.specs.World.{World}
use Rattle.hub.specs.History.{State, IsLegalRun}
use Rattle.hub.specs.Segments.{HistoryPart, tail_of}
use Rattle.hub.proofs.Parts.{run-number}
use Rattle.hub.specs.joins.Joins.{parts_of, has_number, due, IsRight, AreOneHistory}
use Rattle.shared_waits.specs.receipts.Receipts.{Receipt}
use Rattle.shared_hub.specs.declared.audit.AuditFault.{AuditFault}
use Rattle.shared_hub.specs.declared.audit.AuditFault.TheVariants.{SeatMissing, SegmentGap, ReceiptMismatch, NoMemory}
use Rattle.shared_hub.specs.Audits.{entry_after, AreGenuine, IsJoined, AreEntered, IsWhole, IsFault, IsDue, IsLookUp}

-- ---- in a part

-- what isn't found stands at no place
none-past : (es : List Entry) (k : ℕ) → slice_get es k ≡ None → length es ≤ k
none-past [] k e = omega arith
none-past (x ∷ es) zero e = absurd (none-some x (sym e))
none-past (x ∷ es) (suc k) e = let l = none-past es k e in omega (arith, l)

not-had : (w : World) (es : List Entry) (after : World) (n : ℕ) → IsLegalRun w es after → (b : Bool) → nat_lt w.number n ≡ b → cond b (slice_get es (n - (w.number + 1))) None ≡ None → (nat_lt w.number n && nat_le n after.number) ≡ false
not-had w es after n run false is e = ap (λ (c : Bool). c && nat_le n after.number) is
not-had w es after n run true is e =
    let count = run-number w es after run in
    let low = ltb-true _ _ is in
    let high = none-past es (n - (w.number + 1)) e in
    ap (λ (c : Bool). c && nat_le n after.number) is ∙ lt-leb n after.number (omega (arith, count, low, high))

-- what a look among the entries of a part finds
pub look_up : (w : World) (es : List Entry) (after : World) (n : ℕ) (o : Option Entry) → IsLegalRun w es after → o ≡ entry_after w.number es n → IsLookUp (record { opening = w; entries = es; closing = after }) n o
look_up w es after n None run e = not-had w es after n run (nat_lt w.number n) refl (sym e)
look_up w es after n (Some x) run e = sym e

-- ---- in the whole

-- an entry of a part stands in the whole at the same number
at-number : (history : List Entry) (before : ℕ) (es : List Entry) (n : ℕ) (x : Entry) → take (length es) (drop before history) ≡ es → (b : Bool) → nat_lt before n ≡ b → cond b (slice_get es (n - (before + 1))) None ≡ Some x → entry_after 0 history n ≡ Some x
at-number history before es n x slice false is e = absurd (none-some x e)
at-number history before es n x slice true is e =
    let k = n - (before + 1) in
    let low = ltb-true _ _ is in
    let within : k < length es = slice_get_within es k x e in
    let same : x ≡ get_or history (before + k) x =
    sym (get_or_from_slice_get es k x x e)
    ∙ ap (λ (l : List Entry). get_or l k x) (sym slice)
    ∙ get_or-take (length es) (drop before history) k x within
    ∙ get_or-drop before history k x
    in
    let long = ap (λ (l : List Entry). length l) slice in
    let cut = length-take (length es) (drop before history) in
    let left = length-drop before history in
    let there : slice_get history (before + k) ≡ Some x = slice_get_read history (length history) (before + k) x refl (omega (arith, long, cut, left, within)) same in
    let place : n - (0 + 1) ≡ before + k = omega (arith, low) in
    ap (λ (c : Bool). cond c (slice_get history (n - (0 + 1))) None) (lt-ltb 0 n (omega (arith, low)))
    ∙ ap (slice_get history) place
    ∙ there

pub found : (history : List Entry) (p : HistoryPart) (n : ℕ) (x : Entry) → take (length p.entries) (drop p.opening.number history) ≡ p.entries → entry_after p.opening.number p.entries n ≡ Some x → entry_after 0 history n ≡ Some x
found history p n x slice e = at-number history p.opening.number p.entries n x slice (nat_lt p.opening.number n) refl e

-- where each fails the test, none is kept
kept-none : (t : HistoryPart → Bool) (ps : List HistoryPart) → All (λ (p : HistoryPart). t p ≡ false) ps → filter t ps ≡ []
kept-none t [] none = refl
kept-none t (p ∷ ps) none =
    ap (λ (b : Bool). cond b (p ∷ filter t ps) (filter t ps)) (All-head (λ (q : HistoryPart). t q ≡ false) p ps none)
    ∙ kept-none t ps (All-tail (λ (q : HistoryPart). t q ≡ false) p ps none)

-- as many entries as the last number tells
pub length_of : (segments : List HistoryPart) (s : State) (history : List Entry) → IsJoined segments s history → length history ≡ s.world.number
length_of segments s history j =
    let count = run-number j.first history s.world j.legal in
    let zero = ap (λ (w : World). w.number) j.opens.fresh in
    omega (arith, count, zero)

absent-by : (segments : List HistoryPart) (s : State) (history : List Entry) (n : ℕ) → IsJoined segments s history → All (λ (p : HistoryPart). has_number n p ≡ false) (parts_of segments s) → (a b : Bool) → nat_lt 0 n ≡ a → nat_le n (length history) ≡ b → cond a (slice_get history (n - (0 + 1))) None ≡ None
absent-by segments s history n j none false b low high = refl
absent-by segments s history n j none true false low high =
    let above = leb-false _ _ high in
    slice_get_past history (n - (0 + 1)) (omega (arith, above))
absent-by segments s history n j none true true low high =
    let l = length_of segments s history j in
    let some = ltb-true _ _ low in
    let within = leb-true _ _ high in
    let one = j.once n (omega (arith, some)) (omega (arith, within, l)) in
    let zero = ap (λ (l : List HistoryPart). length l) (kept-none (has_number n) (parts_of segments s) none) in
    absurd (omega (arith, one, zero))

-- what is in no part is not in the whole
pub absent : (segments : List HistoryPart) (s : State) (history : List Entry) (n : ℕ) → IsJoined segments s history → All (λ (p : HistoryPart). has_number n p ≡ false) (parts_of segments s) → entry_after 0 history n ≡ None
absent segments s history n j none = absent-by segments s history n j none (nat_lt 0 n) (nat_le n (length history)) refl refl

-- ---- a look through the parts

-- of the parts the segments, and the tail
of-segments : (P : HistoryPart → Type 0) (ps : List HistoryPart) (q : HistoryPart) → All P (ps ++ q ∷ []) → All P ps
of-segments P [] q all = λ k d lt. absurd (omega (arith, lt))
of-segments P (p ∷ ps) q all = All-cons P p ps (All-head P p (ps ++ q ∷ []) all) (of-segments P ps q (All-tail P p (ps ++ q ∷ []) all))

of-tail : (P : HistoryPart → Type 0) (ps : List HistoryPart) (q : HistoryPart) → All P (ps ++ q ∷ []) → P q
of-tail P [] q all = All-head P q [] all
of-tail P (p ∷ ps) q all = of-tail P ps q (All-tail P p (ps ++ q ∷ []) all)

abbrev Slice : List Entry → HistoryPart → Type 0
Slice history p = take (length p.entries) (drop p.opening.number history) ≡ p.entries

abbrev Lacks : ℕ → HistoryPart → Type 0
Lacks n p = has_number n p ≡ false

-- one more segment that doesn't have the number
pub lacks-more : (n : ℕ) (ps : List HistoryPart) (i : ℕ) (p : HistoryPart) → i < length ps → p ≡ get_or ps i p → has_number n p ≡ false → All (λ (q : HistoryPart). has_number n q ≡ false) (take i ps) → All (λ (q : HistoryPart). has_number n q ≡ false) (take (i + 1) ps)
lacks-more n ps i p lt same lacks before =
    subst (All (Lacks n)) (sym (take_more ps i p lt)) (All-push (Lacks n) (take i ps) (get_or ps i p) before (subst (Lacks n) same lacks))

-- what is found in a segment
pub segment_found : (segments : List HistoryPart) (s : State) (history : List Entry) (n i : ℕ) (p : HistoryPart) (x : Entry) → IsJoined segments s history → i < length segments → p ≡ get_or segments i p → IsLookUp p n (Some x) → Some x ≡ entry_after 0 history n
segment_found segments s history n i p x j lt same look =
    let all = of-segments (Slice history) segments (tail_of s) j.parts in
    sym (found history p n x (subst (Slice history) (sym same) (all i p lt)) look)

-- what is found behind the segments
pub tail_found : (segments : List HistoryPart) (s : State) (history : List Entry) (n : ℕ) (o : Option Entry) → IsJoined segments s history → All (λ (p : HistoryPart). has_number n p ≡ false) segments → IsLookUp (tail_of s) n o → o ≡ entry_after 0 history n
tail_found segments s history n None j none look = sym (absent segments s history n j (All-push (Lacks n) segments (tail_of s) none look))
tail_found segments s history n (Some x) j none look = sym (found history (tail_of s) n x (of-tail (Slice history) segments (tail_of s) j.parts) look)

-- ---- the whole

due-one : (last n : ℕ) → 1 ≤ n → n ≤ last → due last n ≡ 1
due-one last n low high =
    ap (λ (b : Bool). cond (b && nat_le n last) 1 0) (lt-ltb 0 n low) ∙ ap (λ (b : Bool). cond b 1 0) (le-leb n last high)

-- where nothing is wrong at any number, the parts are joined
joined : (segments : List HistoryPart) (s : State) (h : AreOneHistory segments s) → ((n : ℕ) → IsRight segments s n) → IsJoined segments s h.entries
joined segments s h right = record {
  first = h.first;
  opens = h.opens;
  legal = h.legal;
  parts = h.parts;
  once = λ n low high. (right n).once ∙ due-one s.world.number n low high;
}

-- and where each receipt stands, they are entered
pub entered : (segments : List HistoryPart) (s : State) (receipts : List Receipt) → AreOneHistory segments s → ((n : ℕ) → IsRight segments s n) → ((history : List Entry) → IsJoined segments s history → AreGenuine history receipts) → AreEntered segments s receipts
entered segments s receipts h right genuine =
    let j = joined segments s h right in
    record { history = h.entries; joined = j; genuine = genuine h.entries j }

-- an audit with all seats is refused for what is wrong beside them
pub due_beside : (segments : List HistoryPart) (s : State) (seats handed : ℕ) (receipts : List Receipt) (fault : AuditFault) → handed ≡ seats → IsFault segments s receipts fault → IsDue segments s seats handed receipts fault
due_beside segments s seats handed receipts SeatMissing all wrong = absurd wrong
due_beside segments s seats handed receipts (SegmentGap n) all wrong = (all, wrong)
due_beside segments s seats handed receipts (ReceiptMismatch n) all wrong = (all, wrong)
due_beside segments s seats handed receipts NoMemory all wrong = (all, wrong)

-- as many entries as were there, and were counted since
pub whole : (opening : ℕ) (segments : List HistoryPart) (s : State) (receipts : List Receipt) (counts : List ℕ) → AreEntered segments s receipts → s.world.number ≡ opening + sum counts → IsWhole opening segments s receipts counts
whole opening segments s receipts counts e counted = record { entered = e; count = length_of segments s e.history e.joined ∙ counted }
