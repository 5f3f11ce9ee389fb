-- The patience that publishers have with one receiver, in tenths of a millisecond; moments are in milliseconds.
use Rattle.std.specs.Prelude.{ℕ, ◌+◌, ◌-◌, ◌*◌, ◌/◌, ◌==◌, ◌||◌, Bool, false, Option, None, Some, if◌then◌else◌, min, max, nat_le}
use Rattle.shared_waits.specs.declared.patience.Patience.{Patience}

-- what is left at a moment, if no Take tells otherwise: of one who isn't behind more by a tenth a millisecond, up to 100,000;
-- of one who is behind less by ten
abbrev pub left_by : Option ℕ → ℕ → Patience → ℕ
left_by None now p = min (p.left + (now - p.at)) 100000
left_by (Some since) now p = p.left - 10 * (now - p.at)

abbrev pub left_at : ℕ → Patience → ℕ
left_at now p = left_by p.since now p

-- the receiver has been behind for 2,000 milliseconds
abbrev pub is_too_long : ℕ → Option ℕ → Bool
is_too_long now None = false
is_too_long now (Some since) = nat_le 2000 (now - since)

-- it is used up: the receiver has been behind for so long without a Take that made room, or nothing is left
abbrev pub is_out : ℕ → Patience → Bool
is_out now p = is_too_long now p.since || (left_at now p == 0)

-- when that of a receiver that is behind is used up, if no Take tells otherwise
abbrev pub out_by : Option ℕ → Patience → ℕ
out_by None p = 18446744073709551615
out_by (Some since) p = min (min (since + 2000) (p.at + (p.left / 10 + 1))) 18446744073709551615

abbrev pub out_at : Patience → ℕ
out_at p = out_by p.since p

-- the receiver is found behind for the first time
abbrev pub fresh : ℕ → ℕ → Patience
fresh now most = record { left = 100000; at = now; since = Some now; most = most }

-- it is found behind
abbrev pub begun_by : Option ℕ → ℕ → ℕ → Patience → Patience
begun_by None now most p = record { left = left_by None now p; at = max p.at now; since = Some now; most = most }
begun_by (Some since) now most p = p

abbrev pub begun : ℕ → ℕ → Patience → Patience
begun now most p = begun_by p.since now most p

-- its publishers are let on with so many waiting at most
abbrev pub lowered : ℕ → Patience → Patience
lowered most p = record p { most = min p.most most }

-- the milliseconds that a Take charges whose receiver's socket took nothing for so many, if it is behind
abbrev pub charge_by : Option ℕ → ℕ → ℕ → Patience → ℕ
charge_by None refused now p = 0
charge_by (Some since) refused now p = min refused (now - p.at)

-- a Take has left so many waiting: the charge is taken, and with few enough waiting the receiver is behind no more
abbrev pub taken_by : Option ℕ → ℕ → ℕ → ℕ → Patience → Patience
taken_by None waiting refused now p = p
taken_by (Some since) waiting refused now p = record {
  left = p.left - 10 * charge_by (Some since) refused now p;
  at = max p.at now;
  since = if nat_le waiting p.most then None else Some since;
  most = p.most;
}

abbrev pub taken : ℕ → ℕ → ℕ → Patience → Patience
taken waiting refused now p = taken_by p.since waiting refused now p
