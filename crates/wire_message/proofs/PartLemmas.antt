-- The texts of a message, at their places in one part of a block.
use Rattle.std.proofs.Common.{◌≡◌, ℕ, ◌+◌, ◌-◌, ◌≤◌, List, [], length, take, drop, slice_range, None, sym, ap, ◌∙◌, arith, length-take, length-drop}
use Rattle.std.proofs.lemmas.List.{drop-drop, take-take}
use Rattle.base.proofs.Parts.{drop-take_less}
use Rattle.wire_message.specs.Texts.{texts, texts_at, head_of, payload_of}
use Rattle.wire_message.specs.Runs.{IsSpot, bytes_at, spot_texts}
use Rattle.wire_message.specs.declared.run.Spot.{Spot}

-- what stands behind the front of a part
pub part_behind : (xs : List ℕ) (s e a : ℕ) → s + a ≤ e → drop a (slice_range xs s e) ≡ slice_range xs (s + a) e
part_behind xs s e a h =
    let left : e - s - a ≡ e - (s + a) = omega arith in
    drop-take_less (drop s xs) a (e - s) (omega arith) ∙ ap (take (e - s - a)) (drop-drop a s xs) ∙ ap (λ n. take n (drop (s + a) xs)) left

-- a part of a part
pub part_of_part : (xs : List ℕ) (s e a b : ℕ) → a ≤ b → s + b ≤ e → slice_range (slice_range xs s e) a b ≡ slice_range xs (s + a) (s + b)
part_of_part xs s e a b p q =
    let same : b - a ≡ s + b - (s + a) = omega arith in
    ap (take (b - a)) (part_behind xs s e a (omega arith))
    ∙ take-take (b - a) (e - (s + a)) (drop (s + a) xs) (omega arith)
    ∙ ap (λ n. take n (drop (s + a) xs)) same

pub part_len : (xs : List ℕ) (s e : ℕ) → s ≤ e → e ≤ length xs → length (slice_range xs s e) ≡ e - s
part_len xs s e p q = omega (arith, length-take (e - s) (drop s xs), length-drop s xs)

-- what stands in front of a part, and at its end
pub front_part : (xs : List ℕ) (s e n : ℕ) → s + n ≤ e → take n (slice_range xs s e) ≡ take n (drop s xs)
front_part xs s e n h = take-take n (e - s) (drop s xs) (omega arith)

pub payload_part : (xs : List ℕ) (s at n : ℕ) → s ≤ at → at + n ≤ length xs → payload_of (slice_range xs s (at + n)) n ≡ take n (drop at xs)
payload_part xs s at n p q =
    let from : length (slice_range xs s (at + n)) - n ≡ at - s = omega (arith, part_len xs s (at + n) (omega arith) q) in
    let place : s + (at - s) ≡ at = omega arith in
    let size : at + n - at ≡ n = omega arith in
    ap (λ k. drop k (slice_range xs s (at + n))) from
    ∙ part_behind xs s (at + n) (at - s) (omega arith)
    ∙ ap (λ k. slice_range xs k (at + n)) place
    ∙ ap (λ k. take k (drop at xs)) size

-- the texts of a message without reply or header block, whose subject stands in front of a part and its payload at its end
pub placed : (xs : List ℕ) (s n at total : ℕ) → s + n ≤ at → at + total ≤ length xs →
    texts_at (slice_range xs s (at + total)) (record { subject = n; reply = None; head = 0; payload = total })
    ≡ texts (take n (drop s xs)) None [] (take total (drop at xs))
placed xs s n at total order all =
    let first : take n (slice_range xs s (at + total)) ≡ take n (drop s xs) = front_part xs s (at + total) n (omega arith) in
    let none : length (slice_range xs s (at + total)) - total - (length (slice_range xs s (at + total)) - total - 0) ≡ 0 = omega arith in
    let block : head_of (slice_range xs s (at + total)) 0 total ≡ [] = ap (λ k. take k (drop (length (slice_range xs s (at + total)) - total - 0) (slice_range xs s (at + total)))) none in
    let rest : payload_of (slice_range xs s (at + total)) total ≡ take total (drop at xs) = payload_part xs s at total (omega arith) all in
    λ i. texts (first i) None (block i) (rest i)

-- the message at a spot, whose own text is a part of the block
pub spot_placed : (block : List ℕ) (s : Spot) → IsSpot block s →
    texts_at (slice_range block s.start s.end) (record { subject = s.subject_len; reply = None; head = 0; payload = s.end - s.payload }) ≡ spot_texts block s
spot_placed block s is =
    let n = s.subject_len in
    let total = s.end - s.payload in
    let end : s.payload + (s.end - s.payload) ≡ s.end = omega (arith, is.payload) in
    let own : s.start + n - s.start ≡ n = omega arith in
    let there : take n (drop s.start block) ≡ bytes_at block s.subject n = ap (λ k. take k (drop s.start block)) (sym own) ∙ is.same in
    ap (λ e. texts_at (slice_range block s.start e) (record { subject = n; reply = None; head = 0; payload = total })) (sym end)
    ∙ placed block s.start n s.payload total (omega (arith, is.order)) (omega (arith, end, is.within))
    ∙ ap (λ t. texts t None [] (take total (drop s.payload block))) there
