-- What the bounds are for (docs/ARCHITECTURE.md, "The server").
use Rattle.std.specs.Prelude.{◌≡◌, ◌+◌, ◌-◌, ◌*◌, ◌≤◌, ℕ, true, max}
use Rattle.server_socket.specs.pacing.Awaited.{batch, many, mean, next_take}
use Rattle.server_socket.specs.pacing.Due.{may_wait, taken}
use Rattle.server_socket.specs.declared.pacing.awaited.Awaited.{Awaited}
use Rattle.server_socket.specs.declared.pacing.due.Due.{Due}

-- Fewer deliveries wait than are many. With one of each message that another 4 KiB have, they fill half of the outbox at most.
abbrev pub LeavesHalf : Type 0
LeavesHalf = (outbox : ℕ) (d : Due) (messages : ℕ) → may_wait d (many outbox) ≡ true → messages * 11 ≤ 4096 → (d.awaited.count + messages) * 2 ≤ outbox

-- With one of each that a whole piece has, they fit into an outbox for 2,231 deliveries or more.
abbrev pub FitsPiece : Type 0
FitsPiece = (outbox : ℕ) (d : Due) (messages : ℕ) → 2231 ≤ outbox → may_wait d (many outbox) ≡ true → messages * 11 ≤ 16384 → d.awaited.count + messages ≤ outbox

-- A Take leaves them fewer than are many.
abbrev pub StaysFewer : Type 0
StaysFewer = (outbox : ℕ) (d : Due) (most : ℕ) → may_wait d (many outbox) ≡ true → may_wait (taken d most) (many outbox) ≡ true

-- What the publishers of all other workers may have entered untold is together no more than many.
abbrev pub AddsUp : Type 0
AddsUp = (outbox workers : ℕ) → (workers - 1) * batch outbox workers ≤ many outbox

-- A Take asks for one delivery at least and 256 at most. By the mean size they have 64 KiB at most, or there is one alone.
abbrev pub IsMeasured : Type 0
IsMeasured = (a : Awaited) → (1 ≤ next_take a) × (next_take a ≤ 256) × (next_take a * mean a ≤ max 65536 (mean a))
