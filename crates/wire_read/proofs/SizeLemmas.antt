-- The sizes that fields write.
use Rattle.std.proofs.Common.{◌≡◌, ℕ, ◌≤◌, Bool, true, false, not, cond, ltb, List, min, Some, None, Result, Ok, Err, refl, sym, arith, if◌then◌else◌}
use Rattle.std.specs.Str.Parse.{digits_value}
use Rattle.std.proofs.lemmas.Bool.{cond-false, ltb-false, le-ltb}
use Rattle.wire_read.specs.declared.fault.WireFault.{WireFault}
use Rattle.wire_read.specs.declared.fault.WireFault.TheVariants.{ParserError, Payload}
use Rattle.base.specs.Number.{is_number}
use Rattle.wire_read.specs.Size.{size, sizes, head_within}

-- a size that was read is within the limit
small_by : (number large : Bool) (v n : ℕ) → ltb 1048576 v ≡ large → Ok n ≡ cond (not number) (Err ParserError) (cond large (Err Payload) (Ok v)) → n ≤ 1048576
small_by false large v n e is = cc
small_by true true v n e is = cc
small_by true false v n e is = let same : n ≡ v = cc in omega (arith, ltb-false 1048576 v e)

pub size_small : (field : List ℕ) (n : ℕ) → Ok n ≡ size field → n ≤ 1048576
unfolding size
size_small field n is = small_by (is_number field) (ltb 1048576 (digits_value 10 field)) (digits_value 10 field) n refl is

-- the sizes of a header block and of all that follows the line
within_by : (t : Bool) (v h n : ℕ) (total : Result ℕ WireFault) → Some h ≡ cond t (Some (min v 18446744073709551615)) None → Ok n ≡ total → n ≤ 1048576 → h ≤ n →
    Ok (h, n) ≡ cond (not t) (Err ParserError) (head_within v total)
within_by false v h n total is_head is_total few within = cc
within_by true v h n total is_head is_total few within =
    let cut : h ≡ min v 18446744073709551615 = cc in
    let whole : v ≡ h = omega arith in
    rw (← is_total, whole) (sym (cond-false _ _ _ (le-ltb n h within)))

pub sizes_within : (head total : List ℕ) (h n : ℕ) → Some h ≡ (if is_number head then Some (min (digits_value 10 head) 18446744073709551615) else None) → Ok n ≡ size total → h ≤ n →
    Ok (h, n) ≡ sizes head total
unfolding sizes
sizes_within head total h n is_head is_total within =
    within_by (is_number head) (digits_value 10 head) h n (size total) is_head is_total (size_small total n is_total) within
