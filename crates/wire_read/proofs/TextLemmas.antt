-- The texts of a message, at their places in one part of the bytes.
use Rattle.std.proofs.Common.{◌≡◌, ℕ, ◌+◌, ◌-◌, ◌<◌, ◌≤◌, List, [], ◌++◌, length, take, drop, slice_range, Option, Some, None, refl, sym, ap, ◌∙◌, arith, length-take, length-drop}
use Rattle.std.proofs.lemmas.Bool.{cond-false, ne_eqb}
use Rattle.std.proofs.lemmas.List.{drop-drop, take-take, take-append-drop}
use Rattle.std.proofs.lemmas.List.Folds.{prefix_len-append}
use Rattle.base.proofs.Parts.{drop-take_less}
use Rattle.base.specs.Blanks.{is_blank, blanks_of}
use Rattle.wire_read.specs.declared.lines.field.Place.{Place}
use Rattle.wire_read.specs.lines.Places.{text_at, text_if_at, IsBehind, IsBehindIf}
use Rattle.wire_message.specs.Texts.{texts, texts_at, span_if_at, head_of, payload_of, IsSpanOf}
use Rattle.wire_read.specs.declared.command.AnnouncedAt.{AnnouncedAt}
use Rattle.wire_read.specs.declared.plain.PlainAt.{PlainAt}
use Rattle.wire_read.specs.Front.{block_texts}
use Rattle.wire_read.specs.Places.{announced_at, span_behind, IsFromIf, IsInOrder}

-- what stands behind the front of a part
part_behind : (xs : List ℕ) (s e a : ℕ) → s + a ≤ e → drop a (slice_range xs s e) ≡ slice_range xs (s + a) e
part_behind xs s e a h =
    let left : e - s - a ≡ e - (s + a) = omega arith in
    drop-take_less (drop s xs) a (e - s) (omega arith) ∙ ap (take (e - s - a)) (drop-drop a s xs) ∙ ap (λ n. take n (drop (s + a) xs)) left

-- a part of a part
part_of_part : (xs : List ℕ) (s e a b : ℕ) → a ≤ b → s + b ≤ e → slice_range (slice_range xs s e) a b ≡ slice_range xs (s + a) (s + b)
part_of_part xs s e a b p q =
    let same : b - a ≡ s + b - (s + a) = omega arith in
    ap (take (b - a)) (part_behind xs s e a (omega arith))
    ∙ take-take (b - a) (e - (s + a)) (drop (s + a) xs) (omega arith)
    ∙ ap (λ n. take n (drop (s + a) xs)) same

part_len : (xs : List ℕ) (s e : ℕ) → s ≤ e → e ≤ length xs → length (slice_range xs s e) ≡ e - s
part_len xs s e p q = omega (arith, length-take (e - s) (drop s xs), length-drop s xs)

-- what stands in front of a part, and at its end
pub front_part : (xs : List ℕ) (s e n : ℕ) → s + n ≤ e → take n (slice_range xs s e) ≡ take n (drop s xs)
front_part xs s e n h = take-take n (e - s) (drop s xs) (omega arith)

pub payload_part : (xs : List ℕ) (s at n : ℕ) → s ≤ at → at + n ≤ length xs → payload_of (slice_range xs s (at + n)) n ≡ take n (drop at xs)
payload_part xs s at n p q =
    let from : length (slice_range xs s (at + n)) - n ≡ at - s = omega (arith, part_len xs s (at + n) (omega arith) q) in
    let place : s + (at - s) ≡ at = omega arith in
    let size : at + n - at ≡ n = omega arith in
    ap (λ k. drop k (slice_range xs s (at + n))) from
    ∙ part_behind xs s (at + n) (at - s) (omega arith)
    ∙ ap (λ k. slice_range xs k (at + n)) place
    ∙ ap (λ k. take k (drop at xs)) size

head_part : (xs : List ℕ) (s at h n : ℕ) → s ≤ at → at + h + n ≤ length xs → head_of (slice_range xs s (at + h + n)) h n ≡ take h (drop at xs)
head_part xs s at h n p q =
    let long : length (slice_range xs s (at + h + n)) ≡ at + h + n - s = part_len xs s (at + h + n) (omega arith) q in
    let from : length (slice_range xs s (at + h + n)) - n - h ≡ at - s = omega (arith, long) in
    let upto : length (slice_range xs s (at + h + n)) - n ≡ at - s + h = omega (arith, long) in
    let place : s + (at - s) ≡ at = omega arith in
    let end : s + (at - s + h) ≡ at + h = omega arith in
    let size : at + h - at ≡ h = omega arith in
    ap (λ k. slice_range (slice_range xs s (at + h + n)) k (length (slice_range xs s (at + h + n)) - n)) from
    ∙ ap (λ k. slice_range (slice_range xs s (at + h + n)) (at - s) k) upto
    ∙ part_of_part xs s (at + h + n) (at - s) (at - s + h) (omega arith) (omega arith)
    ∙ ap (λ k. slice_range xs k (s + (at - s + h))) place
    ∙ ap (λ k. slice_range xs at k) end
    ∙ ap (λ k. take k (drop at xs)) size

-- a line of the first bytes has the blanks of all of them, where something follows them
blanks_more : (xs : List ℕ) (m n : ℕ) → m ≤ n → blanks_of (take m xs) < length (take m xs) → blanks_of (take n xs) ≡ blanks_of (take m xs)
blanks_more xs m n longer some =
    let rest : List ℕ = drop m (take n xs) in
    let whole : take n xs ≡ take m xs ++ rest = sym (take-append-drop m (take n xs)) ∙ ap (λ t. t ++ rest) (take-take m n xs longer) in
    ap blanks_of whole ∙ prefix_len-append is_blank (take m xs) rest ∙ cond-false _ _ _ (ne_eqb _ _ (λ (e : blanks_of (take m xs) ≡ length (take m xs)). omega arith))

blanks_behind : (xs : List ℕ) (from m n : ℕ) → from ≤ m → m ≤ n → blanks_of (drop from (take m xs)) < length (drop from (take m xs)) →
    blanks_of (drop from (take n xs)) ≡ blanks_of (drop from (take m xs))
blanks_behind xs from m n front longer some =
    let short : drop from (take m xs) ≡ take (m - from) (drop from xs) = drop-take_less xs from m front in
    let long : drop from (take n xs) ≡ take (n - from) (drop from xs) = drop-take_less xs from n (omega arith) in
    let more : blanks_of (take (m - from) (drop from xs)) < length (take (m - from) (drop from xs)) = omega (arith, ap blanks_of short, ap length short) in
    ap blanks_of long ∙ blanks_more (drop from xs) (m - from) (n - from) (omega arith) more ∙ ap blanks_of (sym short)

-- a field of a line stands behind the same blanks of more bytes
field_blanks : (xs : List ℕ) (from m n : ℕ) (p : Place) → IsBehind from (take m xs) p → m ≤ n → blanks_of (drop from (take n xs)) ≡ blanks_of (drop from (take m xs))
field_blanks xs from m n p is longer =
    blanks_behind xs from m n (omega (arith, is, length-take m xs)) longer (omega (arith, is, length-drop from (take m xs)))

behind_more : (xs : List ℕ) (from m n : ℕ) (p : Place) → IsBehind from (take m xs) p → m ≤ n → IsBehind from (take n xs) p
behind_more xs from m n p is longer = (
  is.0 ∙ ap (λ k. from + k) (sym (field_blanks xs from m n p is longer)),
  is.1,
  omega (arith, is.2, length-take m xs, length-take n xs),
)

-- a text on a line stands at the same place of all bytes
text_is : (xs : List ℕ) (len : ℕ) (p : Place) → p.start ≤ p.end → p.end ≤ length (take len xs) → text_at (take len xs) p ≡ slice_range xs p.start p.end
text_is xs len p order within =
    ap (take (p.end - p.start)) (drop-take_less xs p.start len (omega (arith, length-take len xs)))
    ∙ take-take (p.end - p.start) (len - p.start) (drop p.start xs) (omega (arith, length-take len xs))

text_same : (xs : List ℕ) (m n : ℕ) (p : Place) → p.start ≤ p.end → p.end ≤ length (take m xs) → m ≤ n → text_at (take n xs) p ≡ text_at (take m xs) p
text_same xs m n p order within longer =
    text_is xs n p order (omega (arith, length-take m xs, length-take n xs)) ∙ sym (text_is xs m p order within)

text_if_same : (xs : List ℕ) (from m n : ℕ) (place : Option Place) → IsBehindIf from (take m xs) place → m ≤ n → text_if_at (take n xs) place ≡ text_if_at (take m xs) place
text_if_same xs from m n None is longer = refl
text_if_same xs from m n (Some p) is longer = ap Some (text_same xs m n p (omega (arith, is)) is.2 longer)

-- the texts of a line are those of the line with its end
pub same_texts : (xs : List ℕ) (m n : ℕ) (line : AnnouncedAt) → IsInOrder (take m xs) line → m ≤ n → announced_at (take n xs) line ≡ announced_at (take m xs) line
same_texts xs m n line is longer =
    let s : text_at (take n xs) line.subject ≡ text_at (take m xs) line.subject = text_same xs m n line.subject (omega (arith, is.0)) is.1 longer in
    let r : text_if_at (take n xs) line.reply ≡ text_if_at (take m xs) line.reply = text_if_same xs line.subject.end m n line.reply is.2 longer in
    λ i. record { subject = s i; reply = r i; head = line.head; total = line.total }

in_order_if : (xs : List ℕ) (from m n : ℕ) (place : Option Place) → IsBehindIf from (take m xs) place → m ≤ n → IsBehindIf from (take n xs) place
in_order_if xs from m n None is longer = is
in_order_if xs from m n (Some p) is longer = behind_more xs from m n p is longer

pub in_order : (xs : List ℕ) (m n : ℕ) (line : AnnouncedAt) → IsInOrder (take m xs) line → m ≤ n → IsInOrder (take n xs) line
in_order xs m n line is longer =
    (is.0, omega (arith, is.1, length-take m xs, length-take n xs), in_order_if xs line.subject.end m n line.reply is.2 longer)

from_if : (from s : ℕ) (line : List ℕ) (place : Option Place) → s ≤ from → IsBehindIf from line place → IsFromIf s place
from_if from s line None p is = tt
from_if from s line (Some place) p is = (omega (arith, is.0), omega (arith, is.1))

-- what is answered on stands behind the subject's first byte
pub reply_from : (xs : List ℕ) (line : AnnouncedAt) → IsInOrder xs line → IsFromIf line.subject.start line.reply
reply_from xs line is = from_if line.subject.end line.subject.start xs line.reply (omega (arith, is.0)) is.2

-- a subject to answer on, in the part that begins with the subject
span_is : (xs : List ℕ) (s from start e : ℕ) (place : Option Place) → s ≤ from → from ≤ start → IsBehindIf from (take start xs) place → start ≤ e → e ≤ length xs →
    IsSpanOf (slice_range xs s e) (from - s) (span_behind s place)
span_is xs s from start e None p front is q all = is
span_is xs s from start e (Some place) p front is q all =
    let at : s + (from - s) ≡ from = omega arith in
    let behind : drop (from - s) (slice_range xs s e) ≡ drop from (take e xs) =
    part_behind xs s e (from - s) (omega arith) ∙ ap (λ k. slice_range xs k e) at ∙ sym (drop-take_less xs from e (omega arith)) in
    let blanks : blanks_of (drop (from - s) (slice_range xs s e)) ≡ blanks_of (drop from (take start xs)) =
    ap blanks_of behind ∙ field_blanks xs from start e place is q in (
      omega (arith, is.0, blanks),
      omega (arith, is.0, is.1),
      omega (arith, is.2, length-take start xs, part_len xs s e (omega arith) all),
    )

pub reply_is : (xs : List ℕ) (start e : ℕ) (line : AnnouncedAt) → IsInOrder (take start xs) line → start ≤ e → e ≤ length xs →
    IsSpanOf (slice_range xs line.subject.start e) (line.subject.end - line.subject.start) (span_behind line.subject.start line.reply)
reply_is xs start e line is q all =
    span_is xs line.subject.start line.subject.end start e line.reply (omega (arith, is.0)) (omega (arith, is.1, length-take start xs)) is.2 q all

reply_part : (xs : List ℕ) (s from start e : ℕ) (place : Option Place) → s ≤ from → IsBehindIf from (take start xs) place → start ≤ e →
    span_if_at (slice_range xs s e) (span_behind s place) ≡ text_if_at (take start xs) place
reply_part xs s from start e None p is q = refl
reply_part xs s from start e (Some place) p is q =
    let a : s + (place.start - s) ≡ place.start = omega (arith, is.0) in
    let b : s + (place.end - s) ≡ place.end = omega (arith, is.0, is.1) in
    let within : place.end ≤ start = omega (arith, is.2, length-take start xs) in
    ap Some
    (part_of_part xs s e (place.start - s) (place.end - s) (omega (arith, is.0, is.1)) (omega (arith, is.0, is.1))
    ∙ ap (λ k. slice_range xs k (s + (place.end - s))) a
    ∙ ap (λ k. slice_range xs place.start k) b
    ∙ sym (text_is xs start place (omega (arith, is.1)) is.2))

-- the texts of a message in the part of the bytes from its subject to its payload
pub texts_placed : (xs : List ℕ) (start head : ℕ) (line : AnnouncedAt) → IsInOrder (take start xs) line → head ≤ line.total → start + line.total ≤ length xs →
    texts_at (slice_range xs line.subject.start (start + line.total)) (record { subject = line.subject.end - line.subject.start; reply = span_behind line.subject.start line.reply; head = head; payload = line.total - head })
    ≡ block_texts (text_at (take start xs) line.subject) (text_if_at (take start xs) line.reply) head (take line.total (drop start xs))
texts_placed xs start head line is within all =
    let s : ℕ = line.subject.start in
    let n : ℕ = line.total - head in
    let within_line : line.subject.end ≤ start = omega (arith, is.1, length-take start xs) in
    let end : start + line.total ≡ start + head + n = omega arith in
    let total : line.total ≡ head + n = omega arith in
    let first : take (line.subject.end - s) (slice_range xs s (start + line.total)) ≡ text_at (take start xs) line.subject =
    front_part xs s (start + line.total) (line.subject.end - s) (omega (arith, is.0)) ∙ sym (text_is xs start line.subject (omega (arith, is.0)) is.1) in
    let answer : span_if_at (slice_range xs s (start + line.total)) (span_behind s line.reply) ≡ text_if_at (take start xs) line.reply =
    reply_part xs s line.subject.end start (start + line.total) line.reply (omega (arith, is.0)) is.2 (omega arith) in
    let block : head_of (slice_range xs s (start + line.total)) head n ≡ take head (take line.total (drop start xs)) =
    ap (λ e. head_of (slice_range xs s e) head n) end
    ∙ head_part xs s start head n (omega (arith, is.0)) (omega arith)
    ∙ sym (take-take head line.total (drop start xs) within) in
    let rest : payload_of (slice_range xs s (start + line.total)) n ≡ drop head (take line.total (drop start xs)) =
    ap (λ e. payload_of (slice_range xs s e) n) end
    ∙ payload_part xs s (start + head) n (omega (arith, is.0)) (omega arith)
    ∙ ap (take n) (sym (drop-drop head start xs))
    ∙ sym (drop-take_less (drop start xs) head line.total within) in
    λ i. texts (first i) (answer i) (block i) (rest i)

-- the same of a PUB that is written plainly
pub plain_placed : (at : PlainAt) (xs : List ℕ) → 4 + at.subject ≤ at.start → at.start + at.total ≤ length xs →
    texts_at (slice_range xs 4 (at.start + at.total)) (record { subject = at.subject; reply = None; head = 0; payload = at.total })
    ≡ texts (take at.subject (drop 4 xs)) None [] (take at.total (drop at.start xs))
plain_placed at xs order all =
    let first : take at.subject (slice_range xs 4 (at.start + at.total)) ≡ take at.subject (drop 4 xs) = front_part xs 4 (at.start + at.total) at.subject (omega arith) in
    let place : at.start + 0 + at.total ≡ at.start + at.total = omega arith in
    let block : head_of (slice_range xs 4 (at.start + at.total)) 0 at.total ≡ [] =
    ap (λ e. head_of (slice_range xs 4 e) 0 at.total) (sym place) ∙ head_part xs 4 at.start 0 at.total (omega arith) (omega arith) in
    let rest : payload_of (slice_range xs 4 (at.start + at.total)) at.total ≡ take at.total (drop at.start xs) =
    payload_part xs 4 at.start at.total (omega arith) all in
    λ i. texts (first i) None (block i) (rest i)
