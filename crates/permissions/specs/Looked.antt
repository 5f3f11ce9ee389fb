-- Which entries one search looks at.
use Rattle.std.specs.Prelude.{◌&&◌, Bool, List, true}
use Rattle.subjects.specs.Subject.{Token}
use Rattle.permissions.specs.Lists.{Entry, Queue, is_plain, is_queued, names, is_for}
use Rattle.permissions.specs.declared.decision.Among.{Among}
use Rattle.permissions.specs.declared.decision.Among.TheVariants.{All, Plain, Queued, Named, PlainAndNamed}

abbrev pub is_looked_at : Among → Queue → Entry → Bool
is_looked_at All queue e = true
is_looked_at Plain queue e = is_plain e
is_looked_at Queued queue e = is_queued e
is_looked_at Named queue e = names queue e
is_looked_at PlainAndNamed queue e = is_for queue e

-- an entry that is looked at has the whole of what is asked, by a test of patterns
abbrev pub has_whole : {X : Type 0} → (List Token → X → Bool) → Among → Queue → X → Entry → Bool
has_whole is_within among queue asked e = is_looked_at among queue e && is_within e.subject asked
