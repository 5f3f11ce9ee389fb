-- What cached ids say.
use Rattle.std.specs.Prelude.{◌≡◌, ℕ, List, Some}
use Rattle.std.specs.Global.{Vec}
use Rattle.subjects.specs.Subject.{tokens_of}
use Rattle.world_rows.specs.ids.Entries.{Entries, IsTold}
use Rattle.world_rows.specs.declared.ids.cached_ids.CachedIds.{CachedIds}

-- these ids were found for the account and the text of a subject
pub record Says (account text : List ℕ) (ids : Vec ℕ) (cached : CachedIds) : Type 0 where
  pub account_is : cached.account.items ≡ account
  pub text_is : cached.subject.items ≡ text
  pub ids_are : cached.ids ≡ Some ids

-- they are the ids that the entries have for its account and subject, unless they are too many
abbrev pub IsSaid : CachedIds → Entries → Type 0
IsSaid cached entries = (ids : Vec ℕ) → cached.ids ≡ Some ids → IsTold cached.account.items (tokens_of cached.subject.items) ids.items entries
