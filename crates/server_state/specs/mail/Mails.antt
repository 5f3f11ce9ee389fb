-- What the mail of a server's workers tells of connections.
use Rattle.std.specs.Prelude.{ℕ, ◌≡◌, ◌<◌, ◌||◌, ◌&&◌, Bool, true, false, List, [], All, length, nat_eq, nat_lt}
use Rattle.std.specs.List.{list_any}
use Rattle.events.specs.declared.answer.Item.{Item}
use Rattle.events.specs.declared.answer.Item.TheVariants.{Entered, Full, RouteFull, MapTooLong, Unmapped, MappedTooLong}
use Rattle.events.specs.declared.answer.Outcome.{Outcome}
use Rattle.events.specs.declared.answer.Outcome.TheVariants.{Published, Reloaded}
use Rattle.server_state.specs.declared.mail.pending.Pending.{Pending}
use Rattle.server_state.specs.declared.mail.mailbox.Mail.{Mail}

-- whether an entry says that deliveries have entered for a connection
abbrev pub is_awaited : ℕ → Pending → Bool
is_awaited conn p = nat_eq p.conn conn && nat_lt 0 p.entered

-- whether it says that the connection is to be drained whatever waits
abbrev pub is_drained : ℕ → Pending → Bool
is_drained conn p = nat_eq p.conn conn && p.drain

-- Whether mail tells of a connection: that deliveries have entered for it, that it is to be drained, that it is let on as a
-- publisher. Where an entry was lost, it tells all of these of each connection.
abbrev pub awaits : ℕ → Mail → Bool
awaits conn mail = mail.all || list_any (is_awaited conn) mail.pending.items

abbrev pub drains : ℕ → Mail → Bool
drains conn mail = mail.all || list_any (is_drained conn) mail.pending.items

abbrev pub frees : ℕ → Mail → Bool
frees conn mail = mail.all || list_any (nat_eq conn) mail.freed.items

-- there is nothing to do
pub record TellsNothing (mail : Mail) : Type 0 where
  pub pending : mail.pending.items ≡ []
  pub freed : mail.freed.items ≡ []
  pub all : mail.all ≡ false

-- some worker's mail tells it of a connection
abbrev pub is_told : (ℕ → Mail → Bool) → List Mail → ℕ → Bool
is_told tells mails conn = list_any (tells conn) mails

-- what is told of a connection by one stays told by the other
abbrev pub StaysTold : {M : Type 0} → (ℕ → M → Bool) → M → M → Type 0
StaysTold tells before after = (conn : ℕ) → tells conn before ≡ true → tells conn after ≡ true

-- mail still tells what it told
pub record IsMore (before after : Mail) : Type 0 where
  pub awaits : StaysTold awaits before after
  pub drains : StaysTold drains before after
  pub frees : StaysTold frees before after

-- the mails of as many workers still tell what they told
pub record AreMore (before after : List Mail) : Type 0 where
  pub workers : length after ≡ length before
  pub awaits : StaysTold (λ conn mails. is_told awaits mails conn) before after
  pub drains : StaysTold (λ conn mails. is_told drains mails conn) before after
  pub frees : StaysTold (λ conn mails. is_told frees mails conn) before after

-- what an entry says of its connection is told: by mail, or by that of some worker
pub record IsSaid (p : Pending) (mail : Mail) : Type 0 where
  pub awaits : (conn : ℕ) → is_awaited conn p ≡ true → awaits conn mail ≡ true
  pub drains : (conn : ℕ) → is_drained conn p ≡ true → drains conn mail ≡ true

pub record IsSaidBySome (p : Pending) (mails : List Mail) : Type 0 where
  pub awaits : (conn : ℕ) → is_awaited conn p ≡ true → is_told awaits mails conn ≡ true
  pub drains : (conn : ℕ) → is_drained conn p ≡ true → is_told drains mails conn ≡ true

-- ---- what an answer makes pending

-- whoever has a message in its outbox has deliveries waiting; whoever missed one is to be drained whatever waits
abbrev pub IsItemTold : List Mail → Item → Type 0
IsItemTold mails (Entered conn sid) = is_told awaits mails conn ≡ true
IsItemTold mails (Full conn sid) = is_told drains mails conn ≡ true
IsItemTold mails (RouteFull row) = Unit {0}
IsItemTold mails (MapTooLong row) = Unit {0}
IsItemTold mails Unmapped = Unit {0}
IsItemTold mails (MappedTooLong index) = Unit {0}

-- and so is whoever's session a reload has ended
abbrev pub IsOutcomeTold : List Mail → Outcome → Type 0
IsOutcomeTold mails (Published by met) = All (IsItemTold mails) met
IsOutcomeTold mails (Reloaded gone removed) = All (λ conn. is_told drains mails conn ≡ true) gone
IsOutcomeTold mails _ = Unit {0}

-- What an answer makes pending is told, if there is a worker; and so is all that was told before.
pub record IsNoted (o : Outcome) (before after : List Mail) : Type 0 where
  pub more : AreMore before after
  pub told : 0 < length before → IsOutcomeTold after o
