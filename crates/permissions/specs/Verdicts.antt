-- What permission lists decide, and when a verdict is justified (docs/POLICY.md, "Permissions").
use Rattle.std.specs.Prelude.{◌≡◌, ◌<◌, ◌&&◌, ◌⊎◌, ℕ, Bool, IsTrue, true, false, List, length, Option, Some, None, All, position, IsSomeAnd}
use Rattle.std.specs.List.{HoldsAt, slice_index_or}
use Rattle.subjects.specs.Subject.{Token, in_set, covers, Covers, Lacks}
use Rattle.permissions.specs.Lists.{Entry, Rules, Lists, Queue, is_plain, is_queued, names, is_for}
use Rattle.permissions.specs.declared.verdict.By.TheVariants.{All as AllowsAll, Index, Grant}
use Rattle.permissions.specs.declared.verdict.Verdict.{Verdict}
use Rattle.permissions.specs.declared.verdict.Verdict.TheVariants.{Allowed, DeniedBy, NoAllow, NoQueueAllow}

-- a deny entry wins
abbrev pub unless_denied : Option ℕ → Verdict → Verdict
unless_denied (Some i) otherwise = DeniedBy i
unless_denied None otherwise = otherwise

abbrev pub by_entry : Option ℕ → Verdict
by_entry (Some i) = Allowed (Index i)
by_entry None = NoAllow

-- an allow list that is given decides; without one all is allowed
abbrev pub by_allow_list : (List Entry → Verdict) → Option (List Entry) → Verdict
by_allow_list verdict None = Allowed AllowsAll
by_allow_list verdict (Some entries) = verdict entries

-- ---- publish

-- the least deny entry that has the subject; else all without an allow list; else the least allow entry that has it
abbrev pub by_entry_with : List Token → List Entry → Verdict
by_entry_with subject entries = by_entry (position (λ (e : Entry). in_set e.subject subject) entries)

abbrev pub publish_by : Rules → List Token → Verdict
publish_by rules subject =
    unless_denied (position (λ (e : Entry). in_set e.subject subject) rules.deny) (by_allow_list (by_entry_with subject) rules.allow)

abbrev pub publish_verdict : Lists → List Token → Verdict
publish_verdict lists subject = publish_by lists.publish subject

-- ---- subscribe

-- the least entry that is looked at and covers the whole of the pattern
abbrev pub least_cover : (Entry → Bool) → List Token → List Entry → Option ℕ
least_cover looked pattern entries = position (λ (e : Entry). looked e && covers e.subject pattern) entries

-- a plain subscription is allowed by plain entries alone
abbrev pub by_plain_entry : List Token → List Entry → Verdict
by_plain_entry pattern entries = by_entry (least_cover is_plain pattern entries)

-- where an entry with a queue part covers the pattern, one whose queue part has the queue is needed
abbrev pub by_queue_entry : ℕ → Option ℕ → Verdict
by_queue_entry least (Some i) = Allowed (Index i)
by_queue_entry least None = NoQueueAllow least

-- the entries with queue parts that cover the pattern decide, where there are any; else the plain ones
abbrev pub by_queue_entries : Option ℕ → Option ℕ → Verdict → Verdict
by_queue_entries (Some least) named plain = by_queue_entry least named
by_queue_entries None named plain = plain

abbrev pub allow_verdict : List Token → Queue → List Entry → Verdict
allow_verdict pattern None entries = by_plain_entry pattern entries
allow_verdict pattern (Some queue) entries =
    by_queue_entries (least_cover is_queued pattern entries) (least_cover (names (Some queue)) pattern entries)
    (by_plain_entry pattern entries)

-- a subscription to a pattern, with a queue or without one, is judged by the entries that cover the whole of the pattern
abbrev pub subscribe_by : Rules → List Token → Queue → Verdict
subscribe_by rules pattern queue =
    unless_denied (least_cover (is_for queue) pattern rules.deny) (by_allow_list (allow_verdict pattern queue) rules.allow)

abbrev pub subscribe_verdict : Lists → List Token → Queue → Verdict
subscribe_verdict lists pattern queue = subscribe_by lists.subscribe pattern queue

-- ---- delivery

-- a delivery is judged by the subscribe deny entries for its subscription that have its subject, and by nothing else
abbrev pub delivery_verdict : Lists → List Token → Queue → Verdict
delivery_verdict lists subject queue =
    unless_denied (position (λ (e : Entry). is_for queue e && in_set e.subject subject) lists.subscribe.deny) (Allowed AllowsAll)

abbrev pub is_allowed : Verdict → Bool
is_allowed (Allowed by) = true
is_allowed (DeniedBy i) = false
is_allowed NoAllow = false
is_allowed (NoQueueAllow i) = false

-- ---- the reason of a verdict

-- each entry lacks what was asked
abbrev pub EachLacks : (Entry → Type 0) → List Entry → Type 0
EachLacks Lacks entries = All Lacks entries

-- this entry has what was asked, and each before it lacks it
abbrev pub IsLeast : (Entry → Type 0) → (Entry → Type 0) → List Entry → ℕ → Type 0
IsLeast Has Lacks entries i =
    (i < length entries) × HoldsAt Has entries i × ((k : ℕ) (d : Entry) → k < i → Lacks (slice_index_or entries k d))

-- the least entry that has what was asked, or none where each lacks it
abbrev pub IsFirst : (Entry → Type 0) → (Entry → Type 0) → List Entry → Option ℕ → Type 0
IsFirst Has Lacks entries None = EachLacks Lacks entries
IsFirst Has Lacks entries (Some i) = IsLeast Has Lacks entries i

-- A verdict has its reason. What is denied by an entry: it is the least deny entry that has what was asked. Else each
-- deny entry lacks it, and what is allowed as all is so because no allow list is given; any other verdict has its reason
-- in the allow list that is given. No list allows by a grant.
abbrev pub IsJustified : (Entry → Type 0) → (Entry → Type 0) → (List Entry → Verdict → Type 0) → Rules → Verdict → Type 0
IsJustified Has Lacks Allows rules (DeniedBy i) = IsLeast Has Lacks rules.deny i
IsJustified Has Lacks Allows rules (Allowed AllowsAll) = EachLacks Lacks rules.deny × (rules.allow ≡ None)
IsJustified Has Lacks Allows rules (Allowed (Index i)) =
    EachLacks Lacks rules.deny × IsSomeAnd rules.allow (λ entries. Allows entries (Allowed (Index i)))
IsJustified Has Lacks Allows rules (Allowed Grant) = ⊥
IsJustified Has Lacks Allows rules NoAllow = EachLacks Lacks rules.deny × IsSomeAnd rules.allow (λ entries. Allows entries NoAllow)
IsJustified Has Lacks Allows rules (NoQueueAllow i) =
    EachLacks Lacks rules.deny × IsSomeAnd rules.allow (λ entries. Allows entries (NoQueueAllow i))

-- an allow list's least entry that has what was asked, or no allow where each lacks it
abbrev pub IsByEntry : (Entry → Type 0) → (Entry → Type 0) → List Entry → Verdict → Type 0
IsByEntry Has Lacks entries (Allowed (Index i)) = IsLeast Has Lacks entries i
IsByEntry Has Lacks entries NoAllow = EachLacks Lacks entries
IsByEntry Has Lacks entries _ = ⊥

-- a publish: an entry has the subject or lacks it
abbrev pub IsJustifiedPublish : List Token → Rules → Verdict → Type 0
IsJustifiedPublish subject rules verdict =
    IsJustified (λ e. IsTrue (in_set e.subject subject)) (λ e. in_set e.subject subject ≡ false)
    (IsByEntry (λ e. IsTrue (in_set e.subject subject)) (λ e. in_set e.subject subject ≡ false)) rules verdict

-- an entry that is looked at has all subjects of the pattern
abbrev pub HasWhole : List Token → (Entry → Bool) → Entry → Type 0
HasWhole pattern looked e = IsTrue (looked e) × Covers e.subject pattern

-- an entry isn't looked at, or lacks a subject of the pattern
abbrev pub LacksSome : List Token → (Entry → Bool) → Entry → Type 0
LacksSome pattern looked e = (looked e ≡ false) ⊎ Lacks e.subject pattern

-- of the entries that are looked at, this is the least that has all subjects of the pattern
abbrev pub IsLeastCover : List Token → (Entry → Bool) → List Entry → ℕ → Type 0
IsLeastCover pattern looked entries i = IsLeast (HasWhole pattern looked) (LacksSome pattern looked) entries i

-- of the entries that are looked at, each lacks a subject of the pattern
abbrev pub NoneCovers : List Token → (Entry → Bool) → List Entry → Type 0
NoneCovers pattern looked entries = EachLacks (LacksSome pattern looked) entries

-- What an allow list says of a subscription with a queue. Allowed by an entry: it is the least of those whose queue part
-- has the queue; or it is the least plain one, and no entry with a queue part covers the pattern. No allow: no entry
-- covers it, plain or with a queue part. No queue allow: the entry named is the least with a queue part that covers
-- it, and none whose queue part has the queue does.
abbrev pub IsByQueue : List Token → List Token → List Entry → Verdict → Type 0
IsByQueue pattern queue entries (Allowed (Index i)) =
    IsLeastCover pattern (names (Some queue)) entries i
    ⊎ (NoneCovers pattern is_queued entries × IsLeastCover pattern is_plain entries i)
IsByQueue pattern queue entries NoAllow = EachLacks (λ e. Lacks e.subject pattern) entries
IsByQueue pattern queue entries (NoQueueAllow i) =
    IsLeastCover pattern is_queued entries i × NoneCovers pattern (names (Some queue)) entries
IsByQueue pattern queue entries _ = ⊥

-- what an allow list says of a subscription: without a queue, its plain entries alone
abbrev pub IsByPlain : List Token → List Entry → Verdict → Type 0
IsByPlain pattern entries verdict = IsByEntry (HasWhole pattern is_plain) (LacksSome pattern is_plain) entries verdict

abbrev pub IsByAllow : List Token → Queue → List Entry → Verdict → Type 0
IsByAllow pattern None entries verdict = IsByPlain pattern entries verdict
IsByAllow pattern (Some queue) entries verdict = IsByQueue pattern queue entries verdict

-- A subscription: the deny entries for it are looked at, which are the plain ones and those whose queue part has its
-- queue; then the allow entries.
abbrev pub IsJustifiedSubscribe : List Token → Queue → Rules → Verdict → Type 0
IsJustifiedSubscribe pattern queue rules verdict =
    IsJustified (HasWhole pattern (is_for queue)) (LacksSome pattern (is_for queue)) (IsByAllow pattern queue) rules verdict

-- an entry for the subscription has the subject
abbrev pub HasFor : List Token → Queue → Entry → Type 0
HasFor subject queue e = IsTrue (is_for queue e) × IsTrue (in_set e.subject subject)

-- an entry isn't for the subscription, or lacks the subject
abbrev pub LacksFor : List Token → Queue → Entry → Type 0
LacksFor subject queue e = (is_for queue e ≡ false) ⊎ (in_set e.subject subject ≡ false)

-- A delivery: the deny entry that is named is the least for the subscription that has the subject, or each lacks it.
-- Allow lists aren't looked at.
abbrev pub IsJustifiedDelivery : List Token → Queue → Rules → Verdict → Type 0
IsJustifiedDelivery subject queue rules verdict =
    IsJustified (HasFor subject queue) (LacksFor subject queue) (λ entries v. ⊥) record { allow = None; deny = rules.deny } verdict

-- ---- one verdict

-- no entry has what it lacks
abbrev pub AreApart : (Entry → Type 0) → (Entry → Type 0) → Type 0
AreApart Has Lacks = (e : Entry) → Has e → Lacks e → ⊥

-- At most one verdict on a publish has its reason, and one on a subscription: what is allowed can't be denied too.
abbrev pub HasOnePublishVerdict : Type 0
HasOnePublishVerdict = (subject : List Token) (rules : Rules) (v w : Verdict) → IsJustifiedPublish subject rules v → IsJustifiedPublish subject rules w → v ≡ w

abbrev pub HasOneSubscribeVerdict : Type 0
HasOneSubscribeVerdict = (pattern : List Token) (queue : Queue) (rules : Rules) (v w : Verdict) →
    IsJustifiedSubscribe pattern queue rules v → IsJustifiedSubscribe pattern queue rules w → v ≡ w

abbrev pub HasOneDeliveryVerdict : Type 0
HasOneDeliveryVerdict = (subject : List Token) (queue : Queue) (rules : Rules) (v w : Verdict) →
    IsJustifiedDelivery subject queue rules v → IsJustifiedDelivery subject queue rules w → v ≡ w

-- ---- a reason for each

-- The verdict on a subscription to the pattern has its reason, whatever the lists are.
abbrev pub HasSubscribeReason : List Token → Type 0
HasSubscribeReason pattern = (queue : Queue) (rules : Rules) → IsJustifiedSubscribe pattern queue rules (subscribe_by rules pattern queue)
