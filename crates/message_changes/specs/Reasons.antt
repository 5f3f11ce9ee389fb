-- The reasons by which lists allow questions of a kind and refuse them (docs/GUARANTEE.md, "Comparing sets of subjects").
use Rattle.std.specs.Prelude.{◌≡◌, ◌++◌, ◌∷◌, ◌&&◌, [], ℕ, Bool, true, false, not, List, length, map, Option, Some, None, is_some, if◌then◌else◌}
use Rattle.std.specs.List.{filter, list_any}
use Rattle.std.specs.Option.{option_copied}
use Rattle.subjects.specs.Subject.{Token, covers, is_literal}
use Rattle.permissions.specs.Lists.{Entry, Lists, Rules, is_plain, is_queued, open_rules}
use Rattle.pattern_sets.specs.Laws.{has_token}
use Rattle.pattern_sets.specs.Longest.{most_tokens}
use Rattle.pattern_sets.specs.declared.search.Allowing.{Allowing}
use Rattle.pattern_sets.specs.declared.search.Reason.{Reason}
use Rattle.pattern_sets.specs.declared.search.Search.{Search}
use Rattle.message_changes.specs.declared.form.Form.{Form}
use Rattle.message_changes.specs.declared.form.Form.TheVariants.{Whole, Subjects, Queued, QueuedSubjects}
use Rattle.message_changes.specs.declared.kind.MessageKind.{MessageKind}
use Rattle.message_changes.specs.declared.reasons.TwoRules.{TwoRules}
use Rattle.message_changes.specs.declared.refusing.Refusing.{Refusing}
use Rattle.message_changes.specs.declared.kind.MessageKind.TheVariants.{Publish, Subscribe, QueueSubscribe, Delivery, QueueDelivery}

-- ---- kinds

abbrev pub has_queue : MessageKind → Bool
has_queue Publish = false
has_queue Subscribe = false
has_queue QueueSubscribe = true
has_queue Delivery = false
has_queue QueueDelivery = true

abbrev pub has_tails : MessageKind → Bool
has_tails Publish = false
has_tails Subscribe = true
has_tails QueueSubscribe = true
has_tails Delivery = false
has_tails QueueDelivery = false

abbrev pub has_allow : MessageKind → Bool
has_allow Publish = true
has_allow Subscribe = true
has_allow QueueSubscribe = true
has_allow Delivery = false
has_allow QueueDelivery = false

-- whether an entry is looked at
abbrev pub looks_at : MessageKind → Entry → Bool
looks_at Publish e = true
looks_at Subscribe e = is_plain e
looks_at QueueSubscribe e = true
looks_at Delivery e = is_plain e
looks_at QueueDelivery e = true

-- the lists of a direction that decide; without permissions all is allowed
abbrev pub rules_of : MessageKind → Lists → Rules
rules_of Publish lists = lists.publish
rules_of Subscribe lists = lists.subscribe
rules_of QueueSubscribe lists = lists.subscribe
rules_of Delivery lists = lists.subscribe
rules_of QueueDelivery lists = lists.subscribe

abbrev pub rules_by : Option Rules → Rules
rules_by None = open_rules
rules_by (Some rules) = rules

abbrev pub entries_of : Option (List Entry) → List Entry
entries_of None = []
entries_of (Some entries) = entries

-- whether allow entries decide, and which
abbrev pub has_list : MessageKind → Rules → Bool
has_list kind rules = has_allow kind && is_some rules.allow

abbrev pub listed : MessageKind → Rules → List Entry
listed kind rules = if has_list kind rules then entries_of rules.allow else []

-- ---- reasons: the patterns of subjects and of queues

abbrev pub View : Type 0
View = List Token × List Token

abbrev pub reason_view : Reason → View
reason_view r = (r.subject.now, r.queue.now)

abbrev pub part_or : List Token → Option (List Token) → List Token
part_or any None = any
part_or any (Some part) = part

abbrev pub takes : Form → Entry → Bool
takes (Whole kind) e = looks_at kind e
takes (Subjects kind) e = looks_at kind e
takes Queued e = is_queued e
takes QueuedSubjects e = is_queued e

abbrev pub queue_in : Form → List Token → Entry → List Token
queue_in (Whole kind) any e = if has_queue kind then part_or any e.queue else any
queue_in (Subjects kind) any e = any
queue_in Queued any e = part_or any e.queue
queue_in QueuedSubjects any e = any

abbrev pub view_in : Form → List Token → Entry → View
view_in form any e = (e.subject, queue_in form any e)

abbrev pub views : Form → List Token → List Entry → List View
views form any entries = map (view_in form any) (filter (takes form) entries)

-- whatever is of one reason is of another, and of one of some
abbrev pub is_inside : View → View → Bool
is_inside narrow wide = covers wide.0 narrow.0 && covers wide.1 narrow.1

abbrev pub is_had : List View → View → Bool
is_had all v = list_any (λ (w : View). is_inside v w) all

-- whether one has it, or that none has
abbrev pub is_parted : Bool → List View → View → Bool
is_parted true all v = is_had all v
is_parted false all v = not (is_had all v)

-- ---- what is searched

-- the first lists' denials, and the second's that these don't have
abbrev pub own : MessageKind → List Token → Rules → List View
own kind any one = views (Whole kind) any one.deny

abbrev pub denials : MessageKind → List Token → Rules → Rules → List View
denials kind any one other = filter (is_parted false (own kind any one)) (views (Whole kind) any other.deny)

-- the patterns of the allow entries for queues, where a queue is asked about
abbrev pub queued_of : MessageKind → List Token → Rules → List View
queued_of kind any rules = if has_queue kind then views QueuedSubjects any (listed kind rules) else []

-- the second lists' denials, and its allow entries for queues that none of the first's is around
abbrev pub fresh : MessageKind → List Token → Rules → Rules → List View
fresh kind any one other = denials kind any one other ++ filter (is_parted false (queued_of kind any one)) (queued_of kind any other)

-- behind some, where allow entries decide, that none has a question
abbrev pub with_any : MessageKind → List Token → Rules → List View → List View
with_any kind any other some = if has_list kind other then some ++ ((any, any) ∷ []) else some

-- the allow entries for queues that one of the first's is around
abbrev pub late : MessageKind → List Token → Rules → Rules → List View
late kind any one other = filter (is_parted true (queued_of kind any one)) (queued_of kind any other)

abbrev pub refusals : MessageKind → List Token → Rules → Rules → List View
refusals kind any one other = with_any kind any other (fresh kind any one other) ++ late kind any one other

-- how many of them a plain reason to allow reaches that no allow entry of the second lists is around
abbrev pub plain_reach : MessageKind → List Token → Rules → Rules → ℕ
plain_reach kind any one other = length (with_any kind any other (fresh kind any one other))

-- how many of them a reason to allow reaches
abbrev pub reach_of : MessageKind → List Token → Rules → Rules → View → Bool → ℕ
reach_of kind any one other v true =
    if is_had (views Queued any (listed kind other)) v then length (denials kind any one other) else length (refusals kind any one other)
reach_of kind any one other v false =
    if is_had (views (Subjects kind) any (listed kind other)) v then length (fresh kind any one other) else plain_reach kind any one other

-- whether an entry is a reason to allow: it is looked at, and no denial of its lists has it
abbrev pub is_reason : MessageKind → List Token → Rules → Entry → Bool
is_reason kind any one e = looks_at kind e && not (is_had (own kind any one) (view_in (Whole kind) any e))

abbrev pub is_for_queues : MessageKind → Entry → Bool
is_for_queues kind e = has_queue kind && is_queued e

abbrev pub allowing_view : Allowing → View × ℕ
allowing_view a = (reason_view a.reason, a.reach)

-- an allow entry as a reason, with its reach
abbrev pub reason_of : MessageKind → List Token → Rules → Rules → Entry → View × ℕ
reason_of kind any one other e = (view_in (Whole kind) any e, reach_of kind any one other (view_in (Whole kind) any e) (is_for_queues kind e))

-- the reasons to allow: the allow entries, or without them each question
abbrev pub reasons_by_entries : MessageKind → List Token → Rules → Rules → List Entry → List (View × ℕ)
reasons_by_entries kind any one other entries = map (reason_of kind any one other) (filter (is_reason kind any one) entries)

abbrev pub reasons_without : MessageKind → List Token → Rules → Rules → List (View × ℕ)
reasons_without kind any one other = if is_had (own kind any one) (any, any) then [] else ((any, any), reach_of kind any one other (any, any) false) ∷ []

abbrev pub reasons : MessageKind → List Token → Rules → Rules → List (View × ℕ)
reasons kind any one other =
    if has_list kind one then reasons_by_entries kind any one other (entries_of one.allow) else reasons_without kind any one other

-- ---- what is kept of them

abbrev pub first_of : TwoRules → Rules
first_of rules = rules_by (option_copied rules.one)

abbrev pub second_of : TwoRules → Rules
second_of rules = rules_by (option_copied rules.other)

pub record IsRefusing (kind : MessageKind) (any : List Token) (one other : Rules) (refusing : Refusing) : Type 0 where
  pub reasons : map reason_view refusing.reasons.items ≡ refusals kind any one other
  pub denials : refusing.denials ≡ length (denials kind any one other)
  pub fresh : refusing.fresh ≡ length (fresh kind any one other)
  pub plain : refusing.plain ≡ plain_reach kind any one other
  pub own : map reason_view refusing.own ≡ own kind any one
  pub allowed : map reason_view refusing.allowed ≡ views (Subjects kind) any (listed kind other)
  pub queued : map reason_view refusing.queued ≡ views Queued any (listed kind other)

-- ---- the search

abbrev pub entries_in : Rules → List Entry
entries_in rules = entries_of rules.allow ++ rules.deny

abbrev pub all_entries : Rules → Rules → List Entry
all_entries one other = entries_in one ++ entries_in other

abbrev pub subject_of : Entry → List Token
subject_of e = e.subject

abbrev pub with_part : Option (List Token) → List (List Token) → List (List Token)
with_part None parts = parts
with_part (Some part) parts = part ∷ parts

-- the queue parts of entries
abbrev pub parts_of : List Entry → List (List Token)
parts_of [] = []
parts_of (e ∷ es) = with_part e.queue (parts_of es)

-- how many tokens of a queue are enough, where a queue is asked about
abbrev pub most_in_queues : MessageKind → Rules → Rules → Option ℕ
most_in_queues kind one other = if has_queue kind then Some (most_tokens (parts_of (all_entries one other))) else None

-- Each reason to allow is asked with those to refuse that it reaches, with a token that no entry has, up to as many tokens as are enough.
pub record IsSearch (kind : MessageKind) (any : List Token) (one other : Rules) (search : Search) : Type 0 where
  pub allowing : map allowing_view search.allowing.items ≡ reasons kind any one other
  pub refusing : map reason_view search.refusing.items ≡ refusals kind any one other
  pub literal : is_literal search.token.now ≡ true
  pub free : list_any (has_token search.token.now) (map subject_of (all_entries one other) ++ parts_of (all_entries one other)) ≡ false
  pub most : search.most ≡ most_tokens (map subject_of (all_entries one other))
  pub most_of_queues : search.most_of_queues ≡ most_in_queues kind one other
