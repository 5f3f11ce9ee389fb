-- A user's permission lists (NATS documentation, "Authorization"; docs/POLICY.md, "Permissions").
use Rattle.std.specs.Prelude.{◌||◌, Bool, false, not, List, [], Option, Some, None, is_some}
use Rattle.std.specs.Option.{option_map, option_or}
use Rattle.subjects.specs.Subject.{Token, in_set}
use Rattle.policy_doc.specs.declared.permission_doc.document.Terms.{Terms}
use Rattle.policy_doc.specs.declared.document.UserDoc.{UserDoc}
use Rattle.policy_doc.specs.declared.permission_doc.document.PermDoc.{PermDoc}
use Rattle.policy_doc.specs.declared.permission_doc.document.Direction.{Direction}
use Rattle.policy_doc.specs.declared.permission_doc.document.PermEntry.{PermEntry}

-- an entry: a pattern, and the pattern of the queue names that it is for, if it has a queue part
abbrev pub Entry : Type 0
Entry = PermEntry

-- the lists of one direction: no allow list allows all that isn't denied
abbrev pub Rules : Type 0
Rules = Direction

-- the lists of a user
abbrev pub Lists : Type 0
Lists = PermDoc

-- the queue that a subscription names, if it names one
abbrev pub Queue : Type 0
Queue = Option (List Token)

-- nothing is denied, and no allow list is given
abbrev pub open_rules : Rules
open_rules = record { allow = None; deny = [] }

-- without permissions everything is allowed
abbrev pub lists_of_permissions : Option PermDoc → Lists
lists_of_permissions None = record { publish = open_rules; subscribe = open_rules; allow_responses = None }
lists_of_permissions (Some p) = p

-- whoever has terms to answer on has a publish allow list: the one that is given, or the empty one
abbrev pub allow_with : Option Terms → Option (List Entry) → Option (List Entry)
allow_with None allow = allow
allow_with (Some terms) None = Some []
allow_with (Some terms) (Some entries) = Some entries

abbrev pub with_allow_list : PermDoc → PermDoc
with_allow_list p = record p { publish = record p.publish { allow = allow_with p.allow_responses p.publish.allow } }

-- the lists of permissions, with the publish allow list that their terms bring
abbrev pub lists_with : Option PermDoc → Lists
lists_with permissions = lists_of_permissions (option_map with_allow_list permissions)

-- the lists of a user: those of its permissions, or of the default ones where it has none of its own
abbrev pub lists_of : UserDoc → Option PermDoc → Lists
lists_of user default = lists_with (option_or user.permissions default)

-- ---- entries by their queue parts

abbrev pub is_queued : Entry → Bool
is_queued e = is_some e.queue

abbrev pub is_plain : Entry → Bool
is_plain e = not (is_queued e)

-- whether a queue part has the queue; neither is there of itself
abbrev pub has_queue : Option (List Token) → Queue → Bool
has_queue (Some part) (Some queue) = in_set part queue
has_queue (Some part) None = false
has_queue None queue = false

-- an entry with a queue part that has the queue
abbrev pub names : Queue → Entry → Bool
names queue e = has_queue e.queue queue

-- an entry for a subscription with the queue, or without one: it is plain, or its queue part has the queue
abbrev pub is_for : Queue → Entry → Bool
is_for queue e = is_plain e || names queue e
