-- The first control line, found in the first bytes alone.
use Rattle.std.proofs.Common.{◌≡◌, ℕ, ◌+◌, ◌-◌, ◌<◌, ◌≤◌, Bool, true, false, not, cond, eqb, List, length, get_or, take, min, Some, None, refl, sym, ap, ◌∙◌, arith, length-take, ⊎_elim}
use Rattle.std.specs.List.{before_first, position_or_len}
use Rattle.std.proofs.lemmas.List.{take-take, get_or-take}
use Rattle.std.proofs.lemmas.List.Sums.{position_or_len_is, passes_at_first, prefix_len-le-length}
use Rattle.std.proofs.lemmas.Bool.{cases_lt, eqb-true, eqb-false, ltb-true, ltb-false, eq-eqb, ne_eqb, lt-ltb, le-ltb, cond-true, cond-false, false_from_ne_true}
use Rattle.memchr.specs.Find.{IsFirstByte, is_byte}
use Rattle.wire_read.specs.declared.lines.line.FoundLine.{FoundLine}
use Rattle.wire_read.specs.declared.lines.line.FoundLine.TheVariants.{Open, TooLong, Ended}
use Rattle.wire_read.specs.lines.Line.{is_lf, without_cr, is_too_long, line_of}

-- a line has one byte more than it has without its CR, at most
pub without_cr-bounds : (line : List ℕ) → (length (without_cr line) ≤ length line) × (length line ≤ length (without_cr line) + 1)
without_cr-bounds line = by_cr (eqb (get_or line (length line - 1) 0) 13)
  where
    by_cr : (t : Bool) → (length (cond t (take (length line - 1) line) line) ≤ length line) × (length line ≤ length (cond t (take (length line - 1) line) line) + 1)
    by_cr true = (omega (arith, length-take (length line - 1) line), omega (arith, length-take (length line - 1) line))
    by_cr false = (omega arith, omega arith)

-- where the first of some bytes have a LF, so has the line
pub found_at : (bytes : List ℕ) (n end : ℕ) → IsFirstByte (is_byte 10) (take n bytes) (Some end) →
    (end < length bytes) × (end < n) × (position_or_len is_lf bytes ≡ end)
found_at bytes n end found =
    let short : length (take n bytes) ≡ min n (length bytes) = length-take n bytes in
    let high : end < length (take n bytes) = found.0.high in
    let low : end < n = omega arith in
    let within : end < length bytes = omega arith in (
      within,
      low,
      position_or_len_is is_lf bytes end 0 (omega arith)
          (λ k h. false_from_ne_true _ (λ is. found.0.before k (omega arith) h (rw (get_or-take n bytes k 0 (omega arith)) is)))
          (λ h. sym (ap is_lf (get_or-take n bytes end 0 low)) ∙ found.1),
    )

-- where they have none, it goes on behind them
pub found_none : (bytes : List ℕ) (n : ℕ) → IsFirstByte (is_byte 10) (take n bytes) None → min n (length bytes) ≤ position_or_len is_lf bytes
found_none bytes n none =
    ⊎_elim
    (λ before.
    let low : position_or_len is_lf bytes < n = omega arith in
    let within : position_or_len is_lf bytes < length bytes = omega arith in
    absurd (none (position_or_len is_lf bytes) (omega arith) (omega (arith, length-take n bytes)) (rw (get_or-take n bytes _ 0 low) (passes_at_first is_lf bytes 0 within))))
    (λ behind. behind)
    (cases_lt (position_or_len is_lf bytes) (min n (length bytes)))

-- what is known of a line by the place of its LF
pub line_long : (bytes : List ℕ) → 4096 < length (without_cr (before_first is_lf bytes)) → TooLong ≡ line_of bytes
unfolding line_of
line_long bytes long = sym (cond-true _ _ _ (lt-ltb 4096 _ long))

pub line_open : (bytes : List ℕ) → length (without_cr (before_first is_lf bytes)) ≤ 4096 → position_or_len is_lf bytes ≡ length bytes → Open ≡ line_of bytes
unfolding line_of
line_open bytes short is = sym (cond-false _ _ _ (le-ltb 4096 _ short) ∙ cond-true _ _ _ (eq-eqb _ _ is))

pub line_ended : (bytes : List ℕ) (end : ℕ) → length (without_cr (before_first is_lf bytes)) ≤ 4096 → position_or_len is_lf bytes ≡ end → end < length bytes → Ended end ≡ line_of bytes
unfolding line_of
line_ended bytes end short is within =
    sym (cond-false _ _ _ (le-ltb 4096 _ short) ∙ cond-false _ _ _ (ne_eqb _ _ (λ (e : position_or_len is_lf bytes ≡ length bytes). omega arith)) ∙ ap Ended is)

-- the line before a LF that was found in the first bytes
before_found : (bytes : List ℕ) (n end : ℕ) → end < n → position_or_len is_lf bytes ≡ end → take end (take n bytes) ≡ before_first is_lf bytes
before_found bytes n end low is = take-take end n bytes (omega arith) ∙ ap (λ k. take k bytes) (sym is)

pub found_long : (bytes : List ℕ) (n end : ℕ) → IsFirstByte (is_byte 10) (take n bytes) (Some end) → 4096 < length (without_cr (take end (take n bytes))) → TooLong ≡ line_of bytes
found_long bytes n end found long =
    let at = found_at bytes n end found in
    line_long bytes (omega (arith, ap (λ l. length (without_cr l)) (before_found bytes n end at.1 at.2)))

pub found_short : (bytes : List ℕ) (n end : ℕ) → IsFirstByte (is_byte 10) (take n bytes) (Some end) → length (without_cr (take end (take n bytes))) ≤ 4096 → Ended end ≡ line_of bytes
found_short bytes n end found short =
    let at = found_at bytes n end found in
    line_ended bytes end (omega (arith, ap (λ l. length (without_cr l)) (before_found bytes n end at.1 at.2))) at.2 at.0

pub none_long : (bytes : List ℕ) (n : ℕ) → n ≡ min (length bytes) 4098 → IsFirstByte (is_byte 10) (take n bytes) None → 4096 < length (without_cr (take n bytes)) → TooLong ≡ line_of bytes
none_long bytes n is none long =
    let far = found_none bytes n none in
    let within = prefix_len-le-length (λ b. not (is_lf b)) bytes in
    ⊎_elim
    (λ cut. line_long bytes (omega (arith, length-take (position_or_len is_lf bytes) bytes, (without_cr-bounds (before_first is_lf bytes)).1)))
    (λ all.
    let same : position_or_len is_lf bytes ≡ n = omega arith in
    line_long bytes (omega (arith, ap (λ k. length (without_cr (take k bytes))) same)))
    (cases_lt 4097 (length bytes))

pub none_short : (bytes : List ℕ) (n : ℕ) → n ≡ min (length bytes) 4098 → IsFirstByte (is_byte 10) (take n bytes) None → length (without_cr (take n bytes)) ≤ 4096 → Open ≡ line_of bytes
none_short bytes n is none short =
    let far = found_none bytes n none in
    let within = prefix_len-le-length (λ b. not (is_lf b)) bytes in
    let all : n ≡ length bytes = omega (arith, length-take n bytes, (without_cr-bounds (take n bytes)).1) in
    let same : position_or_len is_lf bytes ≡ n = omega arith in
    line_open bytes (omega (arith, ap (λ k. length (without_cr (take k bytes))) same)) (omega arith)

-- what is known of the bytes by how far their line has come
abbrev pub Long : List ℕ → FoundLine → Type 0
Long bytes l = l ≡ TooLong → 4096 < length (without_cr (before_first is_lf bytes))

abbrev pub Opened : List ℕ → FoundLine → Type 0
Opened bytes l = l ≡ Open → (length (without_cr (before_first is_lf bytes)) ≤ 4096) × (position_or_len is_lf bytes ≡ length bytes)

abbrev pub EndedAt : List ℕ → FoundLine → Type 0
EndedAt bytes l = (end : ℕ) → l ≡ Ended end → (length (without_cr (before_first is_lf bytes)) ≤ 4096) × (position_or_len is_lf bytes ≡ end) × (end < length bytes)

parts_by : (bytes : List ℕ) (s t : Bool) → is_too_long (before_first is_lf bytes) ≡ s → eqb (position_or_len is_lf bytes) (length bytes) ≡ t →
    let l : FoundLine = cond s TooLong (cond t Open (Ended (position_or_len is_lf bytes))) in Long bytes l × Opened bytes l × EndedAt bytes l
parts_by bytes true t e f = (λ _. ltb-true 4096 _ e, λ h. cc, λ end h. cc)
parts_by bytes false true e f = (λ h. cc, λ _. (ltb-false 4096 _ e, eqb-true _ _ f), λ end h. cc)
parts_by bytes false false e f = (
  λ h. cc,
  λ h. cc,
  λ end h.
      let same : position_or_len is_lf bytes ≡ end = cc in
      (ltb-false 4096 _ e, same, omega (arith, eqb-false _ _ f, prefix_len-le-length (λ b. not (is_lf b)) bytes)),
)

pub line_parts : (bytes : List ℕ) → Long bytes (line_of bytes) × Opened bytes (line_of bytes) × EndedAt bytes (line_of bytes)
unfolding line_of
line_parts bytes = parts_by bytes (is_too_long (before_first is_lf bytes)) (eqb (position_or_len is_lf bytes) (length bytes)) refl refl

-- a LF that ends a line stands among the bytes
pub ended_within : (bytes : List ℕ) (end : ℕ) → line_of bytes ≡ Ended end → end < length bytes
ended_within bytes end is = ((line_parts bytes).2 end is).2
