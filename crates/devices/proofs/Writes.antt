-- One write after another.
use Rattle.std.proofs.Common.{◌≡◌, ◌+◌, ◌-◌, ℕ, List, Option, Some, None, length, take, drop, append_assoc, rules}
use Rattle.std.proofs.Math.Seq.{take-add}
use Rattle.std.proofs.lemmas.Grind.{common_steps}
use Rattle.std.specs.Io.KnownBytes.{Appends}

rest_whole : (i : ℕ) (bs : List ℕ) → take (length bs - i) (drop i bs) ≡ drop i bs
rest_whole i bs = search (rules, common_steps)

pub appends_more : (old mid new : Option (List ℕ)) (bs : List ℕ) (i n : ℕ) → Appends old mid (take i bs) → Appends mid new (take n (take (length bs - i) (drop i bs))) → Appends old new (take (i + n) bs)
appends_more None mid new bs i n first next = tt
appends_more (Some xs) None new bs i n first next = absurd first
appends_more (Some xs) (Some ys) None bs i n first next = absurd next
appends_more (Some xs) (Some ys) (Some zs) bs i n first next = rw (next, rest_whole i bs, first, take-add i n bs) (append_assoc xs (take i bs) (take n (drop i bs)))
