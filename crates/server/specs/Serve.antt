-- What a server can be opened with (docs/OPERATING.md).
use Rattle.std.specs.Prelude.{◌≤◌, ℕ}

-- a server can be opened with so many workers, so long an outbox, so long a history, so many bytes of it, and so many connections
pub record AreServable (w o h b c : ℕ) : Type 0 where
  pub worker : 1 ≤ w
  pub workers : w ≤ 64
  pub outbox : 1 ≤ o
  pub outboxes : o ≤ 65536
  pub history : 2 ≤ h
  pub history_byte : 1048576 ≤ b
  pub connection : 1 ≤ c
