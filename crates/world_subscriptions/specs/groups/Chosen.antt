-- What the choice of one member of each queue group is made of.
use Rattle.std.specs.Prelude.{◌==◌, ◌<◌, ℕ, List, Bool, true, false, not, Option, Some, None, AllPairs, is_some, nat_eq}
use Rattle.std.specs.List.{list_any}
use Rattle.std.specs.Option.{option_map}
use Rattle.subjects.specs.Subject.{Token, text_of}
use Rattle.world_subscriptions.specs.queue_choice.Choices.{name_of, same_name}
use Rattle.world_subscriptions.specs.declared.queue_choice.choice.Member.{Member}
use Rattle.world_rows.specs.declared.subscription.Subscription.{Subscription}

-- the ids rise
abbrev pub Rising : List Subscription → Type 0
Rising subs = AllPairs (λ (s t : Subscription). s.id < t.id) subs

-- a queue name and the id of who has it
abbrev pub Named : Type 0
Named = List ℕ × ℕ

abbrev pub named_by : Option (List Token) → ℕ → Option Named
named_by queue id = option_map (λ (q : List Token). (text_of q, id)) queue

abbrev pub named : Subscription → Option Named
named s = named_by s.queue s.id

abbrev pub named_member : Member → Named
named_member m = (name_of m, m.id)

-- whether a subscription is a member of a queue group
abbrev pub is_queued : Subscription → Bool
is_queued s = is_some s.queue

-- whether there is another queue name than this one
abbrev pub is_other : List Token → Option (List Token) → Bool
is_other queue None = false
is_other queue (Some other) = not (same_name (text_of queue) (text_of other))

-- whether a subscription with this queue name, or with none, is outside a queue
abbrev pub is_outside : List Token → Option (List Token) → Bool
is_outside queue None = true
is_outside queue (Some other) = not (same_name (text_of queue) (text_of other))

-- a plain subscription is kept, and of the members the one of this id
abbrev pub is_kept_alone : Option ℕ → ℕ → Option (List Token) → Bool
is_kept_alone chosen id None = true
is_kept_alone None id (Some queue) = false
is_kept_alone (Some chosen) id (Some queue) = chosen == id

-- a plain subscription is kept, and a member whose id is among these
abbrev pub is_kept_by : List ℕ → ℕ → Option (List Token) → Bool
is_kept_by ids id None = true
is_kept_by ids id (Some queue) = list_any (nat_eq id) ids

abbrev pub is_kept : List ℕ → Subscription → Bool
is_kept ids s = is_kept_by ids s.id s.queue

-- whether an id is that of a choice
abbrev pub is_choice : List Member → ℕ → Bool
is_choice choices id = list_any (λ (c : Member). c.id == id) choices
