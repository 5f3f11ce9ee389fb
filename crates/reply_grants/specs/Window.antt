-- How the table keeps the grants: behind some that were dropped, in a map with room for twice as many as may stand.
use Rattle.std.specs.Prelude.{◌≤◌, ◌+◌, ◌-◌, ◌++◌, ℕ, Bool, List, map, filter, drop, take}
use Rattle.subjects.specs.Subject.{Token}
use Rattle.reply_grants.specs.declared.grant_table.Granted.{Granted}
use Rattle.reply_grants.specs.Grants.{Grant}

abbrev pub Entry : Type 0
Entry = List Token × Granted

abbrev pub grant_of : Entry → Grant
grant_of e = record { subject = e.0; noted = e.1.noted; count = e.1.count }

-- what stands behind the first so many
abbrev pub window : ℕ → List Entry → List Grant
window gone es = map grant_of (drop gone es)

-- those that stand up to a place, and those from there on that pass a test
abbrev pub so_far : (Grant → Bool) → ℕ → ℕ → List Entry → List Grant
so_far test gone place es = map grant_of (take (place - gone) (drop gone es)) ++ filter test (window place es)

-- so many of the entries were dropped, at most so many stand, and with the places that are free there are 2,048
pub record IsKept (most gone held free : ℕ) : Type 0 where
  pub dropped : gone ≤ held
  pub few : held ≤ gone + most
  pub room : 2048 ≤ held + free
