-- Which worker has a connection.
use Rattle.std.specs.Prelude.{ℕ, ◌-◌, ◌%◌, Bool, true, false, nat_eq}

-- connections are dealt out round-robin, from the first worker on
abbrev pub owner_in : Bool → ℕ → ℕ → ℕ
owner_in true conn workers = 0
owner_in false conn workers = (conn - 1) % workers

abbrev pub owner : ℕ → ℕ → ℕ
owner conn workers = owner_in (nat_eq workers 0) conn workers
