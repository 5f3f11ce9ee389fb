-- How the subscriptions that may be sent a message are grouped, as far as it tells whom the message is for.
use Rattle.std.specs.Prelude.{◌≡◌, ℕ, List, [], ◌∷◌, Option, Some, None}
use Rattle.world_subscriptions.specs.queue_choice.Choices.{chosen}
use Rattle.world_rows.specs.declared.subscription.Subscription.{Subscription}
use Rattle.world_subscriptions.specs.groups.Served.{served}
use Rattle.world_subscriptions.specs.declared.groups.grouping.Grouping.{Grouping}
use Rattle.world_subscriptions.specs.declared.groups.grouping.Grouping.TheVariants.{Plain, OneGroup, Various}

-- the one that there is, if there is one
abbrev pub if_any : {X : Type 0} → Option X → List X
if_any None = []
if_any (Some x) = x ∷ []

-- where none is of a queue group all are served; where all are of one, the one that the word chooses
abbrev pub AreGrouped : Grouping → List Subscription → Type 0
AreGrouped Plain subs = (word : ℕ) → served word subs ≡ subs
AreGrouped OneGroup subs = (word : ℕ) → served word subs ≡ if_any (chosen word subs)
AreGrouped Various subs = Unit {0}
