-- How many lines are let through in a second (docs/OPERATING.md, "What the server tells").
use Rattle.std.specs.Prelude.{ℕ, ◌+◌, Bool, true, false, Option, None, Some, nat_eq, nat_lt}
use Rattle.std.specs.Io.Iter.{u64_saturate}
use Rattle.log_lines.specs.declared.rate.Rate.{Rate}

-- nothing was told
abbrev pub fresh : Rate
fresh = record { second = 0; had = 0; left_out = 0 }

-- a second that begins had no line
abbrev pub entered_if : Bool → ℕ → Rate → Rate
entered_if true second r = r
entered_if false second r = record { second = second; had = 0; left_out = r.left_out }

abbrev pub in_second : ℕ → Rate → Rate
in_second second r = entered_if (nat_eq r.second second) second r

-- a line is let through while the second had fewer than so many, and tells how many were left out before it
abbrev pub let_through_if : Bool → Rate → Option ℕ
let_through_if true r = Some r.left_out
let_through_if false r = None

abbrev pub let_through : ℕ → Rate → Option ℕ
let_through most r = let_through_if (nat_lt r.had most) r

-- it is counted as one that the second had, or as left out
abbrev pub admitted_if : Bool → Rate → Rate
admitted_if true r = record { second = r.second; had = r.had + 1; left_out = 0 }
admitted_if false r = record { second = r.second; had = r.had; left_out = u64_saturate (r.left_out + 1) }

abbrev pub admitted : ℕ → Rate → Rate
admitted most r = admitted_if (nat_lt r.had most) r

-- lines were left out elsewhere
abbrev pub added : ℕ → Rate → Rate
added more r = record { second = r.second; had = r.had; left_out = u64_saturate (r.left_out + more) }
