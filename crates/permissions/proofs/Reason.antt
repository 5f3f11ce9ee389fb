-- Each verdict has its reason.
use Rattle.std.proofs.Common.{◌≡◌, ◌<◌, ◌≤◌, ◌&&◌, inl, inr, ℕ, Bool, IsTrue, true, false, not, List, [], length, Option, Some, None, position, refl, sym, subst, arith}
use Rattle.std.specs.List.{slice_index_or, position_or_len}
use Rattle.std.proofs.lemmas.Bool.{and_parts, and_cases, not-true}
use Rattle.std.proofs.lemmas.Grind.{common_steps}
use Rattle.std.proofs.lemmas.List.Sums.{prefix_len_passes}
use Rattle.std.proofs.lemmas.List.Quantifiers.{position-Some}
use Rattle.subjects.specs.Subject.{Token, IsPattern, in_set, covers}
use Rattle.subjects.proofs.Inclusion.{covers-Covers, covers_lacks}
use Rattle.policy_doc.specs.permission_doc.Entries.{entry_of}
use Rattle.permissions.specs.Lists.{Entry, Rules, Lists, Queue, is_plain, is_queued, names, is_for}
use Rattle.permissions.specs.declared.verdict.By.TheVariants.{All as AllowsAll, Index, Grant}
use Rattle.permissions.specs.declared.verdict.Verdict.{Verdict}
use Rattle.permissions.specs.declared.verdict.Verdict.TheVariants.{Allowed, DeniedBy, NoAllow, NoQueueAllow}
use Rattle.permissions.specs.Verdicts.{unless_denied, by_entry, by_allow_list, by_queue_entries, least_cover, allow_verdict, IsFirst, IsByPlain, IsByQueue, IsByAllow, HasWhole, LacksSome, NoneCovers, IsJustifiedSubscribe, IsJustifiedPublish, IsJustifiedDelivery, HasFor, LacksFor, EachLacks, publish_by, publish_verdict, by_entry_with, subscribe_verdict, delivery_verdict, HasSubscribeReason}
use Rattle.permissions.proofs.Least.{each_lacks}

none_passes : (test : Entry → Bool) (entries : List Entry) → position test entries ≡ None → (k : ℕ) (d : Entry) → k < length entries → test (slice_index_or entries k d) ≡ false
none_passes test entries none k d below =
    let end : length entries ≤ position_or_len test entries = grind (arith, common_steps) in
    let here : k < position_or_len test entries = omega (arith, end, below) in
    not-true (test (slice_index_or entries k d)) (prefix_len_passes (λ (e : Entry). not (test e)) entries k d here)

-- the first entry that passes is the least that has what passing means
first_of : (Has Misses : Entry → Type 0) (test : Entry → Bool) → ((e : Entry) → test e ≡ true → Has e) → ((e : Entry) → test e ≡ false → Misses e) →
    (entries : List Entry) (o : Option ℕ) → position test entries ≡ o → IsFirst Has Misses entries o
first_of Has Misses test has misses entries None e = λ k d below. misses (slice_index_or entries k d) (none_passes test entries e k d below)
first_of Has Misses test has misses entries (Some i) e =
    let at : (d : Entry) → _ = λ d. position-Some test entries i d e in (
      (at (entry_of [])).0,
      (λ d. has (slice_index_or entries i d) (at d).1),
      (λ k d below. misses (slice_index_or entries k d) ((at d).2 k below)),
    )

-- an entry that is looked at and covers the pattern has the whole of it, and any other lacks some
has_whole : (pattern : List Token) → IsPattern pattern → (looked : Entry → Bool) (e : Entry) → (looked e && covers e.subject pattern) ≡ true → HasWhole pattern looked e
has_whole pattern is looked e h =
    let parts = and_parts (looked e) (covers e.subject pattern) h in (parts.0, (covers-Covers e.subject pattern is).0 parts.1)

lacks_some : (pattern : List Token) → IsPattern pattern → (looked : Entry → Bool) (e : Entry) → (looked e && covers e.subject pattern) ≡ false → LacksSome pattern looked e
lacks_some pattern is looked e h =
    elim (and_cases (looked e) (covers e.subject pattern) h) [
      | inl not_looked ↦ inl not_looked
      | inr not_covered ↦ inr (covers_lacks e.subject pattern not_covered is)
    ]

-- so the first that covers it is the least that has the whole of it
module _ (pattern : List Token) (is : IsPattern pattern) where
  abbrev AreFirst : (Entry → Bool) → List Entry → Option ℕ → Type 0
  AreFirst looked entries o = IsFirst (HasWhole pattern looked) (LacksSome pattern looked) entries o

  first_is : (looked : Entry → Bool) (entries : List Entry) (o : Option ℕ) → least_cover looked pattern entries ≡ o → AreFirst looked entries o
  first_is looked entries o e =
      first_of (HasWhole pattern looked) (LacksSome pattern looked) (λ (e : Entry). looked e && covers e.subject pattern) (has_whole pattern is looked) (lacks_some pattern is looked) entries o e

  -- an allow list says what its first entries are
  by_plain : (entries : List Entry) (o : Option ℕ) → AreFirst is_plain entries o → IsByPlain pattern entries (by_entry o)
  by_plain entries None h = h
  by_plain entries (Some i) h = h

  by_queue : (queue : List Token) (entries : List Entry) (least named plain : Option ℕ) → AreFirst is_queued entries least → AreFirst (names (Some queue)) entries named → AreFirst is_plain entries plain →
      IsByQueue pattern queue entries (by_queue_entries least named (by_entry plain))
  by_queue queue entries (Some least) (Some i) plain covered has rest = inl has
  by_queue queue entries (Some least) None plain covered none rest = (covered, none)
  by_queue queue entries None named (Some i) none has rest = inr (none, rest)
  by_queue queue entries None named None none has rest = each_lacks pattern entries none rest

  by_allow : (queue : Queue) (entries : List Entry) → IsByAllow pattern queue entries (allow_verdict pattern queue entries)
  by_allow None entries = by_plain entries (least_cover is_plain pattern entries) (first_is is_plain entries _ refl)
  by_allow (Some queue) entries =
      by_queue queue entries (least_cover is_queued pattern entries) (least_cover (names (Some queue)) pattern entries) (least_cover is_plain pattern entries)
      (first_is is_queued entries _ refl) (first_is (names (Some queue)) entries _ refl) (first_is is_plain entries _ refl)

  -- where no deny entry decides, that is the reason
  undenied : (queue : Queue) (deny entries : List Entry) (v : Verdict) → NoneCovers pattern (is_for queue) deny → IsByAllow pattern queue entries v → IsJustifiedSubscribe pattern queue (record { allow = Some entries; deny = deny }) v
  undenied None deny entries (Allowed AllowsAll) none h = absurd h
  undenied (Some queue) deny entries (Allowed AllowsAll) none h = absurd h
  undenied queue deny entries (Allowed (Index i)) none h = (none, h)
  undenied None deny entries (Allowed Grant) none h = h
  undenied (Some queue) deny entries (Allowed Grant) none h = h
  undenied None deny entries (DeniedBy i) none h = absurd h
  undenied (Some queue) deny entries (DeniedBy i) none h = absurd h
  undenied queue deny entries NoAllow none h = (none, h)
  undenied queue deny entries (NoQueueAllow i) none h = (none, h)

  allowed : (queue : Queue) (deny : List Entry) (allow : Option (List Entry)) → NoneCovers pattern (is_for queue) deny → IsJustifiedSubscribe pattern queue (record { allow = allow; deny = deny }) (by_allow_list (allow_verdict pattern queue) allow)
  allowed queue deny None none = (none, refl)
  allowed queue deny (Some entries) none = undenied queue deny entries (allow_verdict pattern queue entries) none (by_allow queue entries)

  judged : (queue : Queue) (rules : Rules) (o : Option ℕ) → AreFirst (is_for queue) rules.deny o → IsJustifiedSubscribe pattern queue rules (unless_denied o (by_allow_list (allow_verdict pattern queue) rules.allow))
  judged queue rules (Some i) h = h
  judged queue rules None h = allowed queue rules.deny rules.allow h

pub each_has_reason : (pattern : List Token) → IsPattern pattern → HasSubscribeReason pattern
each_has_reason pattern is queue rules = judged pattern is queue rules (least_cover (is_for queue) pattern rules.deny) (first_is pattern is (is_for queue) rules.deny _ refl)

-- ---- on a publish, and on a delivery

module _ (subject : List Token) where
  abbrev Has : Entry → Type 0
  Has e = IsTrue (in_set e.subject subject)

  abbrev Lacking : Entry → Type 0
  Lacking e = in_set e.subject subject ≡ false

  first_with : (entries : List Entry) (o : Option ℕ) → position (λ (e : Entry). in_set e.subject subject) entries ≡ o → IsFirst Has Lacking entries o
  first_with entries o e = first_of Has Lacking (λ (e : Entry). in_set e.subject subject) (λ e h. h) (λ e h. h) entries o e

  by_list : (deny entries : List Entry) (o : Option ℕ) → EachLacks Lacking deny → IsFirst Has Lacking entries o → IsJustifiedPublish subject (record { allow = Some entries; deny = deny }) (by_entry o)
  by_list deny entries None none h = (none, h)
  by_list deny entries (Some i) none h = (none, h)

  by_lists : (deny : List Entry) (allow : Option (List Entry)) → EachLacks Lacking deny → IsJustifiedPublish subject (record { allow = allow; deny = deny }) (by_allow_list (by_entry_with subject) allow)
  by_lists deny None none = (none, refl)
  by_lists deny (Some entries) none = by_list deny entries (position (λ (e : Entry). in_set e.subject subject) entries) none (first_with entries _ refl)

  publish_judged : (rules : Rules) (o : Option ℕ) → IsFirst Has Lacking rules.deny o → IsJustifiedPublish subject rules (unless_denied o (by_allow_list (by_entry_with subject) rules.allow))
  publish_judged rules (Some i) h = h
  publish_judged rules None h = by_lists rules.deny rules.allow h

  pub publish_reason : (rules : Rules) → IsJustifiedPublish subject rules (publish_by rules subject)
  publish_reason rules = publish_judged rules (position (λ (e : Entry). in_set e.subject subject) rules.deny) (first_with rules.deny _ refl)

delivery_judged : (subject : List Token) (queue : Queue) (rules : Rules) (o : Option ℕ) → IsFirst (HasFor subject queue) (LacksFor subject queue) rules.deny o →
    IsJustifiedDelivery subject queue rules (unless_denied o (Allowed AllowsAll))
delivery_judged subject queue rules (Some i) h = h
delivery_judged subject queue rules None h = (h, refl)

pub delivery_reason : (subject : List Token) (queue : Queue) (lists : Lists) → IsJustifiedDelivery subject queue lists.subscribe (delivery_verdict lists subject queue)
delivery_reason subject queue lists =
    delivery_judged subject queue lists.subscribe (position (λ (e : Entry). is_for queue e && in_set e.subject subject) lists.subscribe.deny)
    (first_of (HasFor subject queue) (LacksFor subject queue) (λ (e : Entry). is_for queue e && in_set e.subject subject)
    (λ e h. and_parts (is_for queue e) (in_set e.subject subject) h) (λ e h. and_cases (is_for queue e) (in_set e.subject subject) h)
    lists.subscribe.deny _ refl)

pub publish_justified : (subject : List Token) (lists : Lists) (v : Verdict) → v ≡ publish_verdict lists subject → IsJustifiedPublish subject lists.publish v
publish_justified subject lists v is = subst (λ w. IsJustifiedPublish subject lists.publish w) (sym is) (publish_reason subject lists.publish)

pub subscribe_justified : (pattern : List Token) → IsPattern pattern → (queue : Queue) (lists : Lists) (v : Verdict) → v ≡ subscribe_verdict lists pattern queue → IsJustifiedSubscribe pattern queue lists.subscribe v
subscribe_justified pattern tokens queue lists v is =
    subst (λ w. IsJustifiedSubscribe pattern queue lists.subscribe w) (sym is) (each_has_reason pattern tokens queue lists.subscribe)

pub delivery_justified : (subject : List Token) (queue : Queue) (lists : Lists) (v : Verdict) → v ≡ delivery_verdict lists subject queue → IsJustifiedDelivery subject queue lists.subscribe v
delivery_justified subject queue lists v is =
    subst (λ w. IsJustifiedDelivery subject queue lists.subscribe w) (sym is) (delivery_reason subject queue lists)
