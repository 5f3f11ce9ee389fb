-- How much is read and taken at a time.
use Rattle.std.specs.Prelude.{ℕ, ◌+◌, ◌-◌, ◌*◌, ◌/◌, Bool, true, false, min, max, nat_eq}
use Rattle.std.specs.Io.Iter.{u64_saturate}
use Rattle.server_socket.specs.declared.pacing.awaited.Awaited.{Awaited}

-- so many more wait
abbrev pub more : Awaited → ℕ → ℕ → Awaited
more a count bytes = record { count = u64_saturate (a.count + count); bytes = u64_saturate (a.bytes + bytes) }

abbrev pub mean_if : Bool → Awaited → ℕ
mean_if true a = 0
mean_if false a = a.bytes / a.count

-- how many bytes a message has, by the mean
abbrev pub mean : Awaited → ℕ
mean a = mean_if (nat_eq a.count 0) a

abbrev pub take_if : Bool → ℕ → ℕ
take_if true each = 256
take_if false each = min (max (65536 / each) 1) 256

-- at most 256, some 64 KiB, and one at least
abbrev pub next_take : Awaited → ℕ
next_take a = take_if (nat_eq (mean a) 0) (mean a)

-- a Take has asked for so many
abbrev pub fewer : Awaited → ℕ → Awaited
fewer a most = record { count = a.count - min a.count most; bytes = a.bytes - u64_saturate (mean a * min a.count most) }

-- what a Take has had, by the mean, where this waited before and after it
abbrev pub had : Awaited → Awaited → Awaited
had before after = record { count = before.count - after.count; bytes = before.bytes - after.bytes }

-- A message takes 11 bytes at least. So with fewer than these, and those of another 4 KiB, half an outbox is free.
abbrev pub many : ℕ → ℕ
many outbox = outbox / 2 - 4096 / 11

-- what publishers of all other workers may have entered untold, together, is not more than many
abbrev pub batch : ℕ → ℕ → ℕ
batch outbox workers = many outbox / max (workers - 1) 1
