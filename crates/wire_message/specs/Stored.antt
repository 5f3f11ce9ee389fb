-- The sizes of a message's texts, in one number.
use Rattle.std.specs.Prelude.{ℕ, ◌/◌, ◌%◌}

-- the bytes of the subject, of the subject to answer on, of all that stands before the header block, and of that
pub record Stored : Type 0 where
  pub subject : ℕ
  pub reply : ℕ
  pub front : ℕ
  pub head : ℕ

abbrev pub stored : ℕ → ℕ → ℕ → ℕ → Stored
stored s reply front head = record { subject = s; reply = reply; front = front; head = head }

-- 13 bits for each of the first three, and the others for the last
abbrev pub stored_in : ℕ → Stored
stored_in n = stored (n % 8192) (n / 8192 % 8192) (n / 67108864 % 8192) (n / 549755813888)
