-- The messages of a publisher on a subject.
use Rattle.std.specs.Prelude.{◌≡◌, ℕ, List}
use Rattle.receivers.specs.declared.cache.key.CacheKey.{CacheKey}

-- they are those of this connection on the subject with this text
abbrev pub IsOf : CacheKey → ℕ → List ℕ → Type 0
IsOf key conn text = (key.conn ≡ conn) × (key.subject.items ≡ text)
