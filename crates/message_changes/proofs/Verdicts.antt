-- What lists allow, by their reasons.
use Rattle.std.proofs.Common.{◌≡◌, ◌∙◌, ◌<◌, ◌&&◌, ◌||◌, ℕ, Bool, true, false, not, if◌then◌else◌, List, [], ◌∷◌, length, Option, Some, None, position, ap, refl, sym, subst, arith}
use Rattle.std.specs.Prelude.{is_some}
use Rattle.std.specs.List.{list_any}
use Rattle.std.specs.Option.{option_map}
use Rattle.subjects.specs.Subject.{Token, covers, in_set, IsSubject}
use Rattle.permissions.specs.Lists.{Entry, Lists, Queue, Rules, has_queue as has_part, is_for, is_plain, is_queued, names}
use Rattle.permissions.specs.Verdicts.{allow_verdict, by_allow_list, by_entry, by_entry_with, by_plain_entry, by_queue_entries, is_allowed, least_cover, unless_denied}
use Rattle.permissions.specs.declared.verdict.Verdict.{Verdict}
use Rattle.pattern_sets.proofs.Exact.{concrete, covers_as}
use Rattle.pattern_sets.specs.Samples.{tail}
use Rattle.message_changes.proofs.Members.{and_true, any_kept, any_same, position_any}
use Rattle.message_changes.specs.Exact.{IsAskedWith}
use Rattle.message_changes.specs.Judging.{differs, if_so, is_allowed_if, is_question, is_refused_if, verdict}
use Rattle.message_changes.specs.Reasons.{entries_of, has_list, has_queue, looks_at, own, part_or, rules_of, takes, view_in, views, View}
use Rattle.message_changes.specs.declared.form.Form.TheVariants.{Whole, Queued, QueuedSubjects}
use Rattle.message_changes.specs.declared.kind.MessageKind.{MessageKind}
use Rattle.message_changes.specs.declared.kind.MessageKind.TheVariants.{Publish, Subscribe, QueueSubscribe, Delivery, QueueDelivery}

-- ---- what reasons have

-- the pattern of everything
abbrev pub any : List Token
any = tail ∷ []

abbrev pub queue_has : List Token → Queue → Bool
queue_has p None = true
queue_has p (Some q) = covers p q

abbrev pub has : List Token → Queue → View → Bool
has u queue v = covers v.0 u && queue_has v.1 queue

abbrev pub has_subject : List Token → View → Bool
has_subject u v = covers v.0 u

abbrev pub plain_covers : List Token → Entry → Bool
plain_covers u e = is_plain e && covers e.subject u

abbrev pub by_whole : MessageKind → List Entry → List Token → Queue → Bool
by_whole kind es u queue = list_any (has u queue) (views (Whole kind) any es)

-- with a queue the entries for queues decide, where one has the subjects
abbrev pub by_queue : List Entry → List Token → Queue → Bool
by_queue es u queue =
    if list_any (has_subject u) (views QueuedSubjects any es) then list_any (has u queue) (views Queued any es) else list_any (plain_covers u) es

abbrev pub by_list : MessageKind → List Entry → List Token → Queue → Bool
by_list Publish es u queue = by_whole Publish es u queue
by_list Subscribe es u queue = by_whole Subscribe es u queue
by_list QueueSubscribe es u queue = by_queue es u queue
by_list Delivery es u queue = by_whole Delivery es u queue
by_list QueueDelivery es u queue = by_whole QueueDelivery es u queue

abbrev pub denied : MessageKind → Rules → List Token → Queue → Bool
denied kind rules u queue = list_any (has u queue) (own kind any rules)

abbrev pub permitted : MessageKind → Rules → List Token → Queue → Bool
permitted kind rules u queue = if has_list kind rules then by_list kind (entries_of rules.allow) u queue else true

abbrev pub allows : MessageKind → Rules → List Token → Queue → Bool
allows kind rules u queue = not (denied kind rules u queue) && permitted kind rules u queue

-- ---- tests

joined : {a b c d : Bool} → a ≡ b → c ≡ d → (not a && c) ≡ (not b && d)
joined e f = cc

if_same : {a b c d e f : Bool} → a ≡ b → c ≡ d → e ≡ f → (if a then c else e) ≡ (if b then d else f)
if_same g h i = cc

swap : (x y c : Bool) → x ≡ y → (x && c) ≡ (c && y)
swap true true true e = refl
swap true true false e = refl
swap true false c e = absurd (cc)
swap false true c e = absurd (cc)
swap false false true e = refl
swap false false false e = refl

pub any_covers : (s : List Token) → 0 < length s → covers any s ≡ true
any_covers [] less = absurd (omega (arith, less))
any_covers (s ∷ ss) less = refl

plain_test : (o : Option (List Token)) (c : Bool) → ((not (is_some o) || has_part o None) && c) ≡ (not (is_some o) && (c && true))
plain_test None c = sym (and_true c)
plain_test (Some part) c = refl

queue_test : (o : Option (List Token)) (q : List Token) → IsSubject q → (c : Bool) → ((not (is_some o) || has_part o (Some q)) && c) ≡ (c && covers (part_or any o) q)
queue_test None q h c = sym (ap (λ (b : Bool). c && b) (any_covers q (concrete q h).some) ∙ and_true c)
queue_test (Some part) q h c = swap (in_set part q) (covers part q) c (sym (covers_as part q (concrete q h).each))

names_test : (o : Option (List Token)) (q : List Token) → IsSubject q → (c : Bool) → (has_part o (Some q) && c) ≡ (is_some o && (c && covers (part_or any o) q))
names_test None q h c = refl
names_test (Some part) q h c = swap (in_set part q) (covers part q) c (sym (covers_as part q (concrete q h).each))

-- ---- verdicts

allowed_unless : (o : Option ℕ) (v : Verdict) → is_allowed (unless_denied o v) ≡ (not (is_some o) && is_allowed v)
allowed_unless None v = refl
allowed_unless (Some i) v = refl

entry_allowed : (o : Option ℕ) → is_allowed (by_entry o) ≡ is_some o
entry_allowed None = refl
entry_allowed (Some i) = refl

queue_allowed : (first named : Option ℕ) (plain : Verdict) → is_allowed (by_queue_entries first named plain) ≡ (if is_some first then is_some named else is_allowed plain)
queue_allowed None named plain = refl
queue_allowed (Some i) None plain = refl
queue_allowed (Some i) (Some j) plain = refl

-- entries that are tested one by one, as reasons
whole_is : (kind : MessageKind) (u : List Token) (queue : Queue) (t : Entry → Bool) (es : List Entry) → ((e : Entry) → t e ≡ (looks_at kind e && has u queue (view_in (Whole kind) any e))) →
    is_some (position t es) ≡ by_whole kind es u queue
whole_is kind u queue t es h =
    position_any t es ∙ any_same t (λ (e : Entry). looks_at kind e && has u queue (view_in (Whole kind) any e)) es h ∙ sym (any_kept (view_in (Whole kind) any) (has u queue) (takes (Whole kind)) es)

literal_same : (e : Entry) (u : List Token) → IsSubject u → in_set e.subject u ≡ (covers e.subject u && true)
literal_same e u h = sym (and_true (covers e.subject u) ∙ covers_as e.subject u (concrete u h).each)

publish_allowed : (allow : Option (List Entry)) (u : List Token) → IsSubject u → is_allowed (by_allow_list (by_entry_with u) allow) ≡ (if is_some allow then by_whole Publish (entries_of allow) u None else true)
publish_allowed None u h = refl
publish_allowed (Some es) u h = entry_allowed (position (λ (e : Entry). in_set e.subject u) es) ∙ whole_is Publish u None (λ (e : Entry). in_set e.subject u) es (λ e. literal_same e u h)

plain_allowed : (allow : Option (List Entry)) (u : List Token) → is_allowed (by_allow_list (allow_verdict u None) allow) ≡ (if is_some allow then by_whole Subscribe (entries_of allow) u None else true)
plain_allowed None u = refl
plain_allowed (Some es) u =
    entry_allowed (least_cover is_plain u es)
    ∙ whole_is Subscribe u None (λ (e : Entry). is_plain e && covers e.subject u) es (λ e. ap (λ (b : Bool). is_plain e && b) (sym (and_true (covers e.subject u))))

named_is : (u q : List Token) → IsSubject q → (es : List Entry) → is_some (least_cover (names (Some q)) u es) ≡ list_any (has u (Some q)) (views Queued any es)
named_is u q h es =
    position_any (λ (e : Entry). names (Some q) e && covers e.subject u) es
    ∙ any_same (λ (e : Entry). names (Some q) e && covers e.subject u) (λ (e : Entry). is_queued e && has u (Some q) (view_in Queued any e)) es (λ e. names_test e.queue q h (covers e.subject u))
    ∙ sym (any_kept (view_in Queued any) (has u (Some q)) (takes Queued) es)

around_is : (u : List Token) (es : List Entry) → is_some (least_cover is_queued u es) ≡ list_any (has_subject u) (views QueuedSubjects any es)
around_is u es = position_any (λ (e : Entry). is_queued e && covers e.subject u) es ∙ sym (any_kept (view_in QueuedSubjects any) (has_subject u) (takes QueuedSubjects) es)

queued_allowed : (allow : Option (List Entry)) (u q : List Token) → IsSubject q → is_allowed (by_allow_list (allow_verdict u (Some q)) allow) ≡ (if is_some allow then by_queue (entries_of allow) u (Some q) else true)
queued_allowed None u q h = refl
queued_allowed (Some es) u q h =
    queue_allowed (least_cover is_queued u es) (least_cover (names (Some q)) u es) (by_plain_entry u es)
    ∙ if_same (around_is u es) (named_is u q h es) (entry_allowed (least_cover is_plain u es) ∙ position_any (plain_covers u) es)

pub no_queue : (q : List Token) → None ≡ Some q → ⊥
no_queue q e = cc

pub subject_same : (p q : List Token) → Some p ≡ Some q → IsSubject q → IsSubject p
subject_same p q e h = let same : q ≡ p = cc in subst IsSubject same h

pub judged : (kind : MessageKind) (lists : Lists) (u : List Token) (queue : Queue) → is_question kind u ≡ true → IsAskedWith (has_queue kind) queue →
    is_allowed (verdict kind lists u queue) ≡ allows kind (rules_of kind lists) u queue
judged Publish lists u (Some q) h k = absurd (cc)
judged Publish lists u None h k =
    allowed_unless (position (λ (e : Entry). in_set e.subject u) lists.publish.deny) (by_allow_list (by_entry_with u) lists.publish.allow)
    ∙ joined (whole_is Publish u None (λ (e : Entry). in_set e.subject u) lists.publish.deny (λ e. literal_same e u h)) (publish_allowed lists.publish.allow u h)
judged Subscribe lists u (Some q) h k = absurd (cc)
judged Subscribe lists u None h k =
    allowed_unless (least_cover (is_for None) u lists.subscribe.deny) (by_allow_list (allow_verdict u None) lists.subscribe.allow)
    ∙ joined (whole_is Subscribe u None (λ (e : Entry). is_for None e && covers e.subject u) lists.subscribe.deny (λ e. plain_test e.queue (covers e.subject u))) (plain_allowed lists.subscribe.allow u)
judged QueueSubscribe lists u None h k = absurd (no_queue k.0 k.1)
judged QueueSubscribe lists u (Some p) h k =
    let known : IsSubject p = subject_same p k.0 k.1 k.2 in
    allowed_unless (least_cover (is_for (Some p)) u lists.subscribe.deny) (by_allow_list (allow_verdict u (Some p)) lists.subscribe.allow)
    ∙ joined (whole_is QueueSubscribe u (Some p) (λ (e : Entry). is_for (Some p) e && covers e.subject u) lists.subscribe.deny (λ e. queue_test e.queue p known (covers e.subject u)))
    (queued_allowed lists.subscribe.allow u p known)
judged Delivery lists u (Some q) h k = absurd (cc)
judged Delivery lists u None h k =
    allowed_unless (position (λ (e : Entry). is_for None e && in_set e.subject u) lists.subscribe.deny) _
    ∙ joined (whole_is Delivery u None (λ (e : Entry). is_for None e && in_set e.subject u) lists.subscribe.deny
    (λ e. ap (λ (b : Bool). is_for None e && b) (sym (covers_as e.subject u (concrete u h).each)) ∙ plain_test e.queue (covers e.subject u))) refl
judged QueueDelivery lists u None h k = absurd (no_queue k.0 k.1)
judged QueueDelivery lists u (Some p) h k =
    let known : IsSubject p = subject_same p k.0 k.1 k.2 in
    allowed_unless (position (λ (e : Entry). is_for (Some p) e && in_set e.subject u) lists.subscribe.deny) _
    ∙ joined (whole_is QueueDelivery u (Some p) (λ (e : Entry). is_for (Some p) e && in_set e.subject u) lists.subscribe.deny
    (λ e. ap (λ (b : Bool). is_for (Some p) e && b) (sym (covers_as e.subject u (concrete u h).each)) ∙ queue_test e.queue p known (covers e.subject u))) refl

-- two lists judge a question otherwise where the one allows it and the other doesn't
pub differs_is : (kind : MessageKind) (one other : Lists) (u : List Token) (queue : Queue) → is_question kind u ≡ true → IsAskedWith (has_queue kind) queue →
    differs kind one other u queue ≡ (allows kind (rules_of kind one) u queue && not (allows kind (rules_of kind other) u queue))
differs_is kind one other u queue h k =
    ap (λ (b : Bool). is_allowed_if (option_map (λ question. verdict kind one question queue) (if_so b u)) && is_refused_if (option_map (λ question. verdict kind other question queue) (if_so b u))) h
    ∙ ap (λ (b : Bool). b && not (is_allowed (verdict kind other u queue))) (judged kind one u queue h k)
    ∙ ap (λ (b : Bool). allows kind (rules_of kind one) u queue && not b) (judged kind other u queue h k)
