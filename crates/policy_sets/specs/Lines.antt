-- Sets as they are printed (docs/POLICY.md, "Tenants that exchange nothing").
use Rattle.std.specs.Prelude.{◌++◌, ℕ, List, codes, flat_map}
use Rattle.std.specs.List.{join_with_byte}
use Rattle.policy_doc.specs.Accounts.{Name}

-- the names of the accounts, with a space between each two
abbrev pub set_line : List Name → List ℕ
set_line set = join_with_byte 32 set ++ codes "\n"

abbrev pub lines_of : List (List Name) → List ℕ
lines_of sets = flat_map set_line sets
