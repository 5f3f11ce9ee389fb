-- At most one verdict has its reason.
use Rattle.std.proofs.Common.{◌≡◌, ◌<◌, ◌⊎◌, inl, inr, ℕ, Bool, true, false, IsTrue, List, [], Option, Some, None, ap, refl, arith}
use Rattle.std.specs.Prelude.{IsSomeAnd, is_some}
use Rattle.std.specs.List.{slice_index_or}
use Rattle.subjects.specs.Subject.{Token, in_set, Covers, Lacks}
use Rattle.policy_doc.specs.permission_doc.Entries.{entry_of}
use Rattle.permissions.specs.Lists.{Entry, Rules, Queue, is_plain, is_queued, has_queue, names, is_for}
use Rattle.permissions.specs.declared.verdict.By.TheVariants.{All as AllowsAll, Index, Grant}
use Rattle.permissions.specs.declared.verdict.Verdict.{Verdict}
use Rattle.permissions.specs.declared.verdict.Verdict.TheVariants.{Allowed, DeniedBy, NoAllow, NoQueueAllow}
use Rattle.permissions.specs.Verdicts.{EachLacks, IsLeast, IsJustified, IsByEntry, IsByQueue, IsByAllow, HasWhole, LacksSome, IsLeastCover, NoneCovers, HasFor, LacksFor, AreApart, HasOnePublishVerdict, HasOneSubscribeVerdict, HasOneDeliveryVerdict}

-- an entry that is at a place
abbrev at : List Entry → ℕ → Entry
at entries i = slice_index_or entries i (entry_of [])

-- no entry is the least where each lacks what was asked
none_least : (Has Miss : Entry → Type 0) → AreApart Has Miss → (entries : List Entry) (i : ℕ) → EachLacks Miss entries → IsLeast Has Miss entries i → ⊥
none_least Has Miss apart entries i each least =
    apart (at entries i) (least.1 (entry_of [])) (each i (entry_of []) least.0)

-- a lesser one isn't
no_lesser : (Has Miss : Entry → Type 0) → AreApart Has Miss → (entries : List Entry) (i j : ℕ) → IsLeast Has Miss entries i → IsLeast Has Miss entries j → i < j → ⊥
no_lesser Has Miss apart entries i j least other below =
    apart (at entries i) (least.1 (entry_of [])) (other.2 i (entry_of []) below)

same_least : (i j : ℕ) → ((i < j) → ⊥) → ((j < i) → ⊥) → i ≡ j
same_least i j not_below not_above = grind (arith)

one_least : (Has Miss : Entry → Type 0) → AreApart Has Miss → (entries : List Entry) (i j : ℕ) → IsLeast Has Miss entries i → IsLeast Has Miss entries j → i ≡ j
one_least Has Miss apart entries i j least other =
    same_least i j (no_lesser Has Miss apart entries i j least other) (no_lesser Has Miss apart entries j i other least)

-- nor is one the least by another reading that has what each lacks
no_least : (Has Lacking Miss : Entry → Type 0) → ((e : Entry) → Has e → Miss e → ⊥) → (entries : List Entry) (i : ℕ) → EachLacks Miss entries → IsLeast Has Lacking entries i → ⊥
no_least Has Lacking Miss apart entries i each least = apart (at entries i) (least.1 (entry_of [])) (each i (entry_of []) least.0)

-- ---- what an allow list says

-- two verdicts that an allow list gives a reason are one
abbrev pub AllowsOne : (List Entry → Verdict → Type 0) → Type 0
AllowsOne Allows = (entries : List Entry) (v w : Verdict) → Allows entries v → Allows entries w → v ≡ w

by_entry_one : (Has Miss : Entry → Type 0) → AreApart Has Miss → AllowsOne (IsByEntry Has Miss)
by_entry_one Has Miss apart entries (Allowed AllowsAll) w h k = absurd h
by_entry_one Has Miss apart entries (Allowed Grant) w h k = absurd h
by_entry_one Has Miss apart entries (DeniedBy i) w h k = absurd h
by_entry_one Has Miss apart entries (NoQueueAllow i) w h k = absurd h
by_entry_one Has Miss apart entries (Allowed (Index i)) (Allowed AllowsAll) h k = absurd k
by_entry_one Has Miss apart entries (Allowed (Index i)) (Allowed Grant) h k = absurd k
by_entry_one Has Miss apart entries (Allowed (Index i)) (Allowed (Index j)) h k = ap (λ n. Allowed (Index n)) (one_least Has Miss apart entries i j h k)
by_entry_one Has Miss apart entries (Allowed (Index i)) (DeniedBy j) h k = absurd k
by_entry_one Has Miss apart entries (Allowed (Index i)) NoAllow h k = absurd (none_least Has Miss apart entries i k h)
by_entry_one Has Miss apart entries (Allowed (Index i)) (NoQueueAllow j) h k = absurd k
by_entry_one Has Miss apart entries NoAllow (Allowed AllowsAll) h k = absurd k
by_entry_one Has Miss apart entries NoAllow (Allowed Grant) h k = absurd k
by_entry_one Has Miss apart entries NoAllow (Allowed (Index j)) h k = absurd (none_least Has Miss apart entries j h k)
by_entry_one Has Miss apart entries NoAllow (DeniedBy j) h k = absurd k
by_entry_one Has Miss apart entries NoAllow NoAllow h k = refl
by_entry_one Has Miss apart entries NoAllow (NoQueueAllow j) h k = absurd k

-- ---- with a queue

true_false : (b : Bool) → IsTrue b → b ≡ false → ⊥
true_false true h e = cc
true_false false h e = cc

-- no entry covers a pattern of which it lacks a subject
covers_lacks : (pattern entry : List Token) → Covers entry pattern → Lacks entry pattern → ⊥
covers_lacks pattern entry all some = true_false (in_set entry some.0) (all some.0 some.1 some.2) some.3

whole_apart : (pattern : List Token) (looked : Entry → Bool) → AreApart (HasWhole pattern looked) (LacksSome pattern looked)
whole_apart pattern looked e has (inl not_looked) = true_false (looked e) has.0 not_looked
whole_apart pattern looked e has (inr lacks) = covers_lacks pattern e.subject has.1 lacks

-- what names the queue has a queue part
part_named : (part : Option (List Token)) (queue : List Token) → IsTrue (has_queue part (Some queue)) → is_some part ≡ false → ⊥
part_named None queue h e = cc
part_named (Some part) queue h e = cc

named_queued : (pattern queue : List Token) (e : Entry) → HasWhole pattern (names (Some queue)) e → LacksSome pattern is_queued e → ⊥
named_queued pattern queue e has (inl not_queued) = part_named e.queue queue has.0 not_queued
named_queued pattern queue e has (inr lacks) = covers_lacks pattern e.subject has.1 lacks

-- an entry that covers the pattern, looked at for any cause, isn't one of a list each of which lacks a subject of it
whole_lacks : (pattern : List Token) (looked : Entry → Bool) (e : Entry) → HasWhole pattern looked e → Lacks e.subject pattern → ⊥
whole_lacks pattern looked e has lacks = covers_lacks pattern e.subject has.1 lacks

none_whole : (pattern : List Token) (looked : Entry → Bool) (entries : List Entry) (i : ℕ) → EachLacks (λ e. Lacks e.subject pattern) entries → IsLeastCover pattern looked entries i → ⊥
none_whole pattern looked entries i each least =
    no_least (HasWhole pattern looked) (LacksSome pattern looked) (λ e. Lacks e.subject pattern) (whole_lacks pattern looked) entries i each least

none_named : (pattern queue : List Token) (entries : List Entry) (i : ℕ) → NoneCovers pattern is_queued entries → IsLeastCover pattern (names (Some queue)) entries i → ⊥
none_named pattern queue entries i each least =
    no_least (HasWhole pattern (names (Some queue))) (LacksSome pattern (names (Some queue))) (LacksSome pattern is_queued) (named_queued pattern queue) entries i each least

one_index : (pattern queue : List Token) (entries : List Entry) (i j : ℕ) → IsByQueue pattern queue entries (Allowed (Index i)) → IsByQueue pattern queue entries (Allowed (Index j)) → i ≡ j
one_index pattern queue entries i j (inl h) (inl k) = one_least _ _ (whole_apart pattern (names (Some queue))) entries i j h k
one_index pattern queue entries i j (inl h) (inr k) = absurd (none_named pattern queue entries i k.0 h)
one_index pattern queue entries i j (inr h) (inl k) = absurd (none_named pattern queue entries j h.0 k)
one_index pattern queue entries i j (inr h) (inr k) = one_least _ _ (whole_apart pattern is_plain) entries i j h.1 k.1

index_no_allow : (pattern queue : List Token) (entries : List Entry) (i : ℕ) → IsByQueue pattern queue entries (Allowed (Index i)) → IsByQueue pattern queue entries NoAllow → ⊥
index_no_allow pattern queue entries i (inl h) k = none_whole pattern (names (Some queue)) entries i k h
index_no_allow pattern queue entries i (inr h) k = none_whole pattern is_plain entries i k h.1

index_no_queue : (pattern queue : List Token) (entries : List Entry) (i j : ℕ) → IsByQueue pattern queue entries (Allowed (Index i)) → IsByQueue pattern queue entries (NoQueueAllow j) → ⊥
index_no_queue pattern queue entries i j (inl h) k = none_least _ _ (whole_apart pattern (names (Some queue))) entries i k.1 h
index_no_queue pattern queue entries i j (inr h) k = none_least _ _ (whole_apart pattern is_queued) entries j h.0 k.0

by_queue_one : (pattern queue : List Token) → AllowsOne (IsByQueue pattern queue)
by_queue_one pattern queue entries (Allowed AllowsAll) w h k = absurd h
by_queue_one pattern queue entries (Allowed Grant) w h k = absurd h
by_queue_one pattern queue entries (DeniedBy i) w h k = absurd h
by_queue_one pattern queue entries (Allowed (Index i)) (Allowed AllowsAll) h k = absurd k
by_queue_one pattern queue entries (Allowed (Index i)) (Allowed Grant) h k = absurd k
by_queue_one pattern queue entries (Allowed (Index i)) (Allowed (Index j)) h k = ap (λ n. Allowed (Index n)) (one_index pattern queue entries i j h k)
by_queue_one pattern queue entries (Allowed (Index i)) (DeniedBy j) h k = absurd k
by_queue_one pattern queue entries (Allowed (Index i)) NoAllow h k = absurd (index_no_allow pattern queue entries i h k)
by_queue_one pattern queue entries (Allowed (Index i)) (NoQueueAllow j) h k = absurd (index_no_queue pattern queue entries i j h k)
by_queue_one pattern queue entries NoAllow (Allowed AllowsAll) h k = absurd k
by_queue_one pattern queue entries NoAllow (Allowed Grant) h k = absurd k
by_queue_one pattern queue entries NoAllow (Allowed (Index j)) h k = absurd (index_no_allow pattern queue entries j k h)
by_queue_one pattern queue entries NoAllow (DeniedBy j) h k = absurd k
by_queue_one pattern queue entries NoAllow NoAllow h k = refl
by_queue_one pattern queue entries NoAllow (NoQueueAllow j) h k = absurd (none_whole pattern is_queued entries j h k.0)
by_queue_one pattern queue entries (NoQueueAllow i) (Allowed AllowsAll) h k = absurd k
by_queue_one pattern queue entries (NoQueueAllow i) (Allowed Grant) h k = absurd k
by_queue_one pattern queue entries (NoQueueAllow i) (Allowed (Index j)) h k = absurd (index_no_queue pattern queue entries j i k h)
by_queue_one pattern queue entries (NoQueueAllow i) (DeniedBy j) h k = absurd k
by_queue_one pattern queue entries (NoQueueAllow i) NoAllow h k = absurd (none_whole pattern is_queued entries i k h.0)
by_queue_one pattern queue entries (NoQueueAllow i) (NoQueueAllow j) h k = ap NoQueueAllow (one_least _ _ (whole_apart pattern is_queued) entries i j h.0 k.0)

by_allow_one : (pattern : List Token) (queue : Queue) → AllowsOne (IsByAllow pattern queue)
by_allow_one pattern None = by_entry_one _ _ (whole_apart pattern is_plain)
by_allow_one pattern (Some queue) = by_queue_one pattern queue

-- ---- of both lists

not_given : (P : List Entry → Type 0) (o : Option (List Entry)) → o ≡ None → IsSomeAnd o P → ⊥
not_given P None e h = h
not_given P (Some entries) e h = cc

-- by one list that is given
one_given : (Allows : List Entry → Verdict → Type 0) → AllowsOne Allows → (o : Option (List Entry)) (v w : Verdict) →
    IsSomeAnd o (λ entries. Allows entries v) → IsSomeAnd o (λ entries. Allows entries w) → v ≡ w
one_given Allows one None v w h k = absurd h
one_given Allows one (Some entries) v w h k = one entries v w h k

-- what no deny entry decides: all is allowed without an allow list, or a list that is given says it
abbrev IsUndenied : (List Entry → Verdict → Type 0) → Rules → Verdict → Type 0
IsUndenied Allows rules v = ((rules.allow ≡ None) × (v ≡ Allowed AllowsAll)) ⊎ IsSomeAnd rules.allow (λ entries. Allows entries v)

one_undenied : (Allows : List Entry → Verdict → Type 0) → AllowsOne Allows → (rules : Rules) (v w : Verdict) → IsUndenied Allows rules v → IsUndenied Allows rules w → v ≡ w
one_undenied Allows one rules v w (inl h) (inl k) = cc
one_undenied Allows one rules v w (inl h) (inr k) = absurd (not_given _ rules.allow h.0 k)
one_undenied Allows one rules v w (inr h) (inl k) = absurd (not_given _ rules.allow k.0 h)
one_undenied Allows one rules v w (inr h) (inr k) = one_given Allows one rules.allow v w h k

-- a verdict's reason: a deny entry, or none of them and what the allow list says
abbrev Reason : (Entry → Type 0) → (Entry → Type 0) → (List Entry → Verdict → Type 0) → Rules → Verdict → Type 0
Reason Has Miss Allows rules v =
    ((i : ℕ) × (v ≡ DeniedBy i) × IsLeast Has Miss rules.deny i) ⊎ (EachLacks Miss rules.deny × IsUndenied Allows rules v)

reason_of : (Has Miss : Entry → Type 0) (Allows : List Entry → Verdict → Type 0) (rules : Rules) (v : Verdict) → IsJustified Has Miss Allows rules v → Reason Has Miss Allows rules v
reason_of Has Miss Allows rules (DeniedBy i) h = inl (i, refl, h)
reason_of Has Miss Allows rules (Allowed AllowsAll) h = inr (h.0, inl (h.1, refl))
reason_of Has Miss Allows rules (Allowed (Index i)) h = inr (h.0, inr h.1)
reason_of Has Miss Allows rules (Allowed Grant) h = absurd h
reason_of Has Miss Allows rules NoAllow h = inr (h.0, inr h.1)
reason_of Has Miss Allows rules (NoQueueAllow i) h = inr (h.0, inr h.1)

one_reason : (Has Miss : Entry → Type 0) → AreApart Has Miss → (Allows : List Entry → Verdict → Type 0) → AllowsOne Allows → (rules : Rules) (v w : Verdict) →
    Reason Has Miss Allows rules v → Reason Has Miss Allows rules w → v ≡ w
one_reason Has Miss apart Allows one rules v w (inl h) (inl k) =
    let same : h.0 ≡ k.0 = one_least Has Miss apart rules.deny h.0 k.0 h.2 k.2 in cc
one_reason Has Miss apart Allows one rules v w (inl h) (inr k) = absurd (none_least Has Miss apart rules.deny h.0 k.0 h.2)
one_reason Has Miss apart Allows one rules v w (inr h) (inl k) = absurd (none_least Has Miss apart rules.deny k.0 h.0 k.2)
one_reason Has Miss apart Allows one rules v w (inr h) (inr k) = one_undenied Allows one rules v w h.1 k.1

one_justified : (Has Miss : Entry → Type 0) → AreApart Has Miss → (Allows : List Entry → Verdict → Type 0) → AllowsOne Allows → (rules : Rules) (v w : Verdict) →
    IsJustified Has Miss Allows rules v → IsJustified Has Miss Allows rules w → v ≡ w
one_justified Has Miss apart Allows one rules v w h k =
    one_reason Has Miss apart Allows one rules v w (reason_of Has Miss Allows rules v h) (reason_of Has Miss Allows rules w k)

-- an entry doesn't have a subject that it lacks
has_lacks : (subject : List Token) → AreApart (λ e. IsTrue (in_set e.subject subject)) (λ e. in_set e.subject subject ≡ false)
has_lacks subject e h k = true_false (in_set e.subject subject) h k

for_apart : (subject : List Token) (queue : Queue) → AreApart (HasFor subject queue) (LacksFor subject queue)
for_apart subject queue e h (inl not_for) = true_false (is_for queue e) h.0 not_for
for_apart subject queue e h (inr lacks) = true_false (in_set e.subject subject) h.1 lacks

pub one_publish_verdict : HasOnePublishVerdict
one_publish_verdict subject rules v w h k = one_justified _ _ (has_lacks subject) _ (by_entry_one _ _ (has_lacks subject)) rules v w h k

pub one_subscribe_verdict : HasOneSubscribeVerdict
one_subscribe_verdict pattern queue rules v w h k = one_justified _ _ (whole_apart pattern (is_for queue)) _ (by_allow_one pattern queue) rules v w h k

pub one_delivery_verdict : HasOneDeliveryVerdict
one_delivery_verdict subject queue rules v w h k =
    one_justified _ _ (for_apart subject queue) (λ entries x. ⊥) (λ entries x y impossible l. absurd impossible) record { allow = None; deny = rules.deny } v w h k
