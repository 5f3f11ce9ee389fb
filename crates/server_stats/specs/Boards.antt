-- The accounts of a board, with what the workers have added, and when that is told.
use Rattle.std.specs.Io.Iter.{u64_saturate}
use Rattle.std.specs.Prelude.{◌+◌, ◌*◌, ◌/◌, max, ℕ, List, [], ◌∷◌, Option, position, zero, suc}
use Rattle.std.specs.Str.{bytes_eq}
use Rattle.server_stats.specs.declared.counts.Account.{Account}
use Rattle.server_stats.specs.declared.counts.AccountCounts.{AccountCounts}
use Rattle.server_stats.specs.Counts.{no_counts, plus}

-- the place of an account of this name, the first if there were several
abbrev pub place_of : List ℕ → List Account → Option ℕ
place_of name all = position (λ (a : Account). bytes_eq a.name name) all

-- so much is added to the account in a place, if there is one
unfoldable pub more_at : ℕ → AccountCounts → List Account → List Account
more_at place n [] = []
more_at zero n (a ∷ all) = record a { counts = plus a.counts n } ∷ all
more_at (suc place) n (a ∷ all) = a ∷ more_at place n all

-- each number is added to the account in its place
unfoldable pub added_to : List Account → List AccountCounts → List Account
added_to [] more = []
added_to (a ∷ all) [] = a ∷ all
added_to (a ∷ all) (n ∷ ns) = record a { counts = plus a.counts n } ∷ added_to all ns

-- nothing is counted of an account
abbrev pub cleared : Account → Account
cleared a = record a { counts = no_counts }

-- the first multiple of a period behind a moment, or the greatest number
abbrev pub multiple_after : ℕ → ℕ → ℕ
multiple_after period now = u64_saturate (u64_saturate (now / max period 1 + 1) * max period 1)
