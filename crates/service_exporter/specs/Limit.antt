-- How many routes an exporter may have (docs/GUARANTEE.md, "Response routes").
use Rattle.std.specs.Prelude.{◌≡◌, ◌+◌, ℕ, Bool, true, false, ◌||◌, Option, Some, None, Result, Ok, Err, length, nat_lt, codes, List}
use Rattle.service_exporter.specs.Routes.{Exporter, living}
use Rattle.service_exporter.specs.declared.error.RouteError.{RouteError}
use Rattle.service_exporter.specs.declared.error.RouteError.TheVariants.{RouteFull, NoMemory}

-- so many routes more would be over 65,536 that live, or one would have a number above 2^64 - 1
abbrev pub is_full : ℕ → ℕ → Exporter → Bool
is_full count now e = nat_lt 65536 (length (living now e.routes) + count) || nat_lt 18446744073709551615 (e.last + count)

-- no number exactly where there is no place; else the next
abbrev pub IsNext : Bool → ℕ → Option ℕ → Type 0
IsNext full last None = full ≡ true
IsNext full last (Some number) = (full ≡ false) × (number ≡ last + 1)

-- RouteFull exactly where there is no place; else the next number, or no memory
abbrev pub IsReserved : Bool → ℕ → Result ℕ RouteError → Type 0
IsReserved full last (Ok number) = (full ≡ false) × (number ≡ last + 1)
IsReserved full last (Err RouteFull) = full ≡ true
IsReserved full last (Err NoMemory) = full ≡ false

-- what is said of an error
abbrev pub error_text : RouteError → List ℕ
error_text RouteFull = codes "the exporter has all its response routes"
error_text NoMemory = codes "no memory"
