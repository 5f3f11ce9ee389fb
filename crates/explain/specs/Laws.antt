-- What the allow entries lack that are shown for a subscription.
use Rattle.std.specs.Prelude.{◌≡◌, ℕ, true, List, Some, None}
use Rattle.subjects.specs.Subject.{Token, Covers, IsPattern}
use Rattle.subjects.specs.Outside.{IsOutside}
use Rattle.permissions.specs.Lists.{Entry, Queue}
use Rattle.explain.specs.Reason.{is_looked_at, lacks_pattern}

-- the subject beside an entry is one of the pattern's and none of the entry's
abbrev pub ShowsOutside : Type 0
ShowsOutside = (pattern : List Token) (queue : Queue) (e : Entry) (text : List ℕ) → IsPattern pattern → lacks_pattern pattern queue e ≡ Some text → IsOutside e.subject pattern text

-- an entry that was looked at, and isn't shown, has all subjects of the pattern
abbrev pub ShowsEach : Type 0
ShowsEach = (pattern : List Token) (queue : Queue) (e : Entry) → IsPattern pattern → is_looked_at queue e ≡ true → lacks_pattern pattern queue e ≡ None → Covers e.subject pattern
