-- Where no sample is judged otherwise, no question of the kind is.
use Rattle.std.proofs.Common.{◌≡◌, ◌∙◌, ◌<◌, ◌≤◌, ◌+◌, ◌++◌, ◌⊎◌, inl, inr, ◌&&◌, ◌||◌, ℕ, zero, suc, Bool, true, false, not, if◌then◌else◌, List, [], ◌∷◌, length, map, get_or, Option, Some, None, ap, refl, sym, subst, arith, length-append}
use Rattle.std.specs.Prelude.{is_some}
use Rattle.std.specs.List.{filter, list_any, slice_index_or}
use Rattle.std.proofs.lemmas.Bool.{and_parts}
use Rattle.std.proofs.lemmas.List.{get_or-map, get_or_at, length-map}
use Rattle.subjects.specs.Subject.{Token, covers, is_literal, same_token, IsPattern, IsSubject}
use Rattle.subjects.proofs.Grammar.{pattern_from_subject}
use Rattle.subjects.proofs.Same.{equal_from_same}
use Rattle.subjects.proofs.Text.{pattern_again}
use Rattle.permissions.specs.Lists.{Entry, Lists, Queue, Rules, is_plain, is_queued}
use Rattle.pattern_sets.proofs.Exact.{concrete}
use Rattle.pattern_sets.proofs.Searching.{item_of}
use Rattle.pattern_sets.specs.Asking.{common, AllAlike, IsAlikeIf, IsExact, Judging}
use Rattle.pattern_sets.specs.Laws.{has_token}
use Rattle.pattern_sets.specs.Longest.{longest}
use Rattle.pattern_sets.specs.declared.search.Asked.{Asked}
use Rattle.pattern_sets.specs.declared.search.Search.{Search}
use Rattle.message_changes.proofs.Members.{any_in, both, by_not, found_in, from_kept, from_map, in_kept, in_left, in_map, in_right, longest_in, none_in, none_more, two, IsIn}
use Rattle.message_changes.proofs.Sampled.{covers_through, queue_sample, subject_sample, IsKnown}
use Rattle.message_changes.proofs.Verdicts.{allows, any, any_covers, by_list, by_queue, by_whole, denied, differs_is, has, has_subject, no_queue, permitted, plain_covers, queue_has, subject_same}
use Rattle.message_changes.specs.Exact.{AreAllAlike, IsAskedWith}
use Rattle.message_changes.specs.Judging.{differs, is_question}
use Rattle.message_changes.specs.Reasons.{all_entries, allowing_view, denials, entries_of, fresh, has_allow, has_list, has_queue, has_tails, is_for_queues, is_had, is_inside, is_parted, is_reason, late, listed, looks_at, own, part_or, parts_of, queue_in, queued_of, reach_of, reason_of, reason_view, reasons, reasons_by_entries, reasons_without, refusals, rules_of, subject_of, takes, view_in, views, with_any, with_part, IsSearch, View}
use Rattle.message_changes.specs.declared.form.Form.{Form}
use Rattle.message_changes.specs.declared.form.Form.TheVariants.{Whole, Subjects, Queued, QueuedSubjects}
use Rattle.message_changes.specs.declared.kind.MessageKind.{MessageKind}
use Rattle.message_changes.specs.declared.kind.MessageKind.TheVariants.{Publish, Subscribe, QueueSubscribe, Delivery, QueueDelivery}

-- ---- reasons

inside_has : (v w : View) (u : List Token) (queue : Queue) → is_inside v w ≡ true → has u queue v ≡ true → has u queue w ≡ true
inside_has v w u queue e f =
    let wide = and_parts (covers w.0 v.0) (covers w.1 v.1) e in
    let here = and_parts (covers v.0 u) (queue_has v.1 queue) f in
    two (covers w.0 u) (queue_has w.1 queue) (covers_through w.0 v.0 u wide.0 here.0) (by_queue_of queue here.1)
  where
    by_queue_of : (q : Queue) → queue_has v.1 q ≡ true → queue_has w.1 q ≡ true
    by_queue_of None g = refl
    by_queue_of (Some q) g = covers_through w.1 v.1 q (and_parts (covers w.0 v.0) (covers w.1 v.1) e).1 g

-- whatever is had is of one that has what it has
had_has : (all : List View) (v : View) (u : List Token) (queue : Queue) → is_had all v ≡ true → has u queue v ≡ true → list_any (has u queue) all ≡ true
had_has all v u queue e f =
    let one = found_in (λ (w : View). is_inside v w) all e in any_in (has u queue) one.0 all one.1 (inside_has v one.0 u queue one.2 f)

-- and its subject of one that has that
had_subject : (all : List View) (v : View) (u : List Token) → is_had all v ≡ true → covers v.0 u ≡ true → list_any (has_subject u) all ≡ true
had_subject all v u e f =
    let one = found_in (λ (w : View). is_inside v w) all e in
    any_in (has_subject u) one.0 all one.1 (covers_through one.0.0 v.0 u (and_parts (covers one.0.0 v.0) (covers one.0.1 v.1) one.2).0 f)

and_with_false : (a b : Bool) → b ≡ false → (a && b) ≡ false
and_with_false true b e = e
and_with_false false b e = refl

not_false : (b : Bool) → not b ≡ false → b ≡ true
not_false true e = refl
not_false false e = absurd (cc)

from_not : (b : Bool) → not b ≡ true → b ≡ false
from_not true e = absurd (cc)
from_not false e = refl

to_not : (b : Bool) → b ≡ false → not b ≡ true
to_not b e = ap not e

is_or_not : (b : Bool) → (b ≡ true) ⊎ (b ≡ false)
is_or_not true = inl refl
is_or_not false = inr refl

and_false : (a b : Bool) → (a && b) ≡ false → (a ≡ false) ⊎ (b ≡ false)
and_false true b e = inr e
and_false false b e = inl refl

-- an entry that is taken, as a reason
in_views : (form : Form) (e : Entry) (es : List Entry) → IsIn e es → takes form e ≡ true → IsIn (view_in form any e) (views form any es)
in_views form e es h t = in_map (view_in form any) e (filter (takes form) es) (in_kept (takes form) e es h t)

-- a reason's entry
record IsOf (form : Form) (v : View) (es : List Entry) : Type 0 where
  entry : Entry
  inside : IsIn entry es
  taken : takes form entry ≡ true
  is : view_in form any entry ≡ v

of_views : (form : Form) (v : View) (es : List Entry) → IsIn v (views form any es) → IsOf form v es
of_views form v es h =
    let one = from_map (view_in form any) v (filter (takes form) es) h in
    let kept = from_kept (takes form) one.0 es one.1 in
    record { entry = one.0; inside = kept.0; taken = kept.1; is = one.2 }

-- ---- what is known of a kind

fresh_tail : (x : Token) → is_literal x ≡ true → has_token x any ≡ false
fresh_tail x h = by_not (has_token x any) (λ e. by_same (or_false (same_token (62 ∷ []) x) e))
  where
    or_false : (b : Bool) → (b || false) ≡ true → b ≡ true
    or_false true e = refl
    or_false false e = absurd (cc)

    by_same : same_token (62 ∷ []) x ≡ true → ⊥
    by_same e = let same : (62 ∷ []) ≡ x = equal_from_same (62 ∷ []) x e in let bad : is_literal (62 ∷ []) ≡ true = subst (λ (t : Token). is_literal t ≡ true) (sym same) h in absurd (cc)

part_in : (e : Entry) (part : List Token) (es : List Entry) → IsIn e es → e.queue ≡ Some part → IsIn part (parts_of es)
part_in e part es h q = at_place es h.place h.inside h.is
  where
    onto : (o : Option (List Token)) (ps : List (List Token)) → IsIn part ps → IsIn part (with_part o ps)
    onto None ps k = k
    onto (Some p) ps k = in_right part (p ∷ []) ps k

    at_place : (fs : List Entry) (i : ℕ) → i < length fs → ((d : Entry) → get_or fs i d ≡ e) → IsIn part (parts_of fs)
    at_place [] i less is = absurd (omega (arith, less))
    at_place (f ∷ fs) zero less is =
        subst (λ (o : Option (List Token)). IsIn part (with_part o (parts_of fs))) (sym (ap (λ (g : Entry). g.queue) (is e) ∙ q)) (in_left part (part ∷ []) (parts_of fs) record { place = 0; inside = omega arith; is = λ d. refl })
    at_place (f ∷ fs) (suc i) less is = onto f.queue (parts_of fs) (at_place fs i (omega (arith, less)) is)

question_kept : (kind : MessageKind) (u w : List Token) → is_question kind u ≡ true → IsPattern w → (IsSubject u → IsSubject w) → is_question kind w ≡ true
question_kept Publish u w h is more = more h
question_kept Subscribe u w h is more = is
question_kept QueueSubscribe u w h is more = is
question_kept Delivery u w h is more = more h
question_kept QueueDelivery u w h is more = more h

tails_asked : (kind : MessageKind) (u : List Token) (t : Bool) → is_question kind u ≡ true → (IsSubject u → t ≡ false) → t ≡ true → has_tails kind ≡ true
tails_asked Publish u t h none e = absurd (both t e (none h))
tails_asked Subscribe u t h none e = refl
tails_asked QueueSubscribe u t h none e = refl
tails_asked Delivery u t h none e = absurd (both t e (none h))
tails_asked QueueDelivery u t h none e = absurd (both t e (none h))

subject_pattern : (u : List Token) → IsSubject u → IsPattern u
subject_pattern u h = (pattern_from_subject u (concrete u h).some h).0

question_pattern : (kind : MessageKind) (u : List Token) → is_question kind u ≡ true → IsPattern u
question_pattern Publish u h = subject_pattern u h
question_pattern Subscribe u h = h
question_pattern QueueSubscribe u h = h
question_pattern Delivery u h = subject_pattern u h
question_pattern QueueDelivery u h = subject_pattern u h

some_tokens : (u : List Token) → IsPattern u → 0 < length u
some_tokens [] h = absurd (cc)
some_tokens (t ∷ ts) h = omega arith

looks_all : (kind : MessageKind) (e : Entry) → has_queue kind ≡ true → looks_at kind e ≡ true
looks_all Publish e h = refl
looks_all Subscribe e h = absurd (cc)
looks_all QueueSubscribe e h = refl
looks_all Delivery e h = absurd (cc)
looks_all QueueDelivery e h = refl

any_queue : (b : Bool) (queue : Queue) → IsAskedWith b queue → queue_has any queue ≡ true
any_queue false (Some q) k = absurd (no_queue q (sym k))
any_queue false None k = refl
any_queue true None k = absurd (no_queue k.0 k.1)
any_queue true (Some q) k = any_covers q (concrete q (subject_same q k.0 k.1 k.2)).some

-- among two lists, or the first alone
in_first_of : (b : Bool) (w : View) (some rest : List View) (h : IsIn w some) → (k : IsIn w (if b then some ++ rest else some)) × (k.place ≡ h.place)
in_first_of true w some rest h = (in_left w some rest h, refl)
in_first_of false w some rest h = (h, refl)

in_if : (b : Bool) (e : Entry) (es : List Entry) → IsIn e (if b then es else []) → IsIn e es
in_if true e es h = h
in_if false e es h = let less = h.inside in absurd (omega (arith, less))

listed_true : (b : Bool) (es : List Entry) (e : Entry) → IsIn e (if b then es else []) → b ≡ true
listed_true true es e h = refl
listed_true false es e h = let less = h.inside in absurd (omega (arith, less))

queued_entry : (b : Bool) (w : View) (es : List Entry) → IsIn w (if b then views QueuedSubjects any es else []) → IsOf QueuedSubjects w es
queued_entry true w es h = of_views QueuedSubjects w es h
queued_entry false w es h = let less = h.inside in absurd (omega (arith, less))

part_plain : (o : Option (List Token)) → not (is_some o) ≡ true → part_or any o ≡ any
part_plain None e = refl
part_plain (Some part) e = absurd (cc)

whole_plain : (b : Bool) (o : Option (List Token)) → not (is_some o) ≡ true → (if b then part_or any o else any) ≡ any
whole_plain true o e = part_plain o e
whole_plain false o e = refl

plain_unqueued : (a b : Bool) → not b ≡ true → (a && b) ≡ false
plain_unqueued true true e = absurd (cc)
plain_unqueued true false e = refl
plain_unqueued false b e = refl

-- without an allow list no entry is for queues
queued_without : (b c : Bool) (es : List Entry) → c ≡ false → (if b then views QueuedSubjects any (if c then es else []) else []) ≡ []
queued_without true true es e = absurd (cc)
queued_without false true es e = refl
queued_without true false es e = refl
queued_without false false es e = refl

if_true : (a b c : Bool) → a ≡ true → b ≡ true → (if a then b else c) ≡ true
if_true a b c e f = rw (e, f) refl

if_false : (a b c : Bool) → a ≡ false → c ≡ true → (if a then b else c) ≡ true
if_false a b c e f = rw (e, f) refl

if_true_false : (a b c : Bool) → a ≡ true → b ≡ false → (if a then b else c) ≡ false
if_true_false a b c e f = rw (e, f) refl

if_false_false : (a b c : Bool) → a ≡ false → c ≡ false → (if a then b else c) ≡ false
if_false_false a b c e f = rw (e, f) refl

-- of the kinds with allow entries one asks about queues
record IsSimple (kind : MessageKind) : Type 0 where
  same : (es : List Entry) (u : List Token) (queue : Queue) → by_list kind es u queue ≡ by_whole kind es u queue
  unqueued : has_allow kind ≡ true → has_queue kind ≡ false

record IsWithQueues (kind : MessageKind) : Type 0 where
  same : (es : List Entry) (u : List Token) (queue : Queue) → by_list kind es u queue ≡ by_queue es u queue
  queues : has_queue kind ≡ true

kinds : (kind : MessageKind) → IsSimple kind ⊎ IsWithQueues kind
kinds Publish = inl record { same = λ es u queue. refl; unqueued = λ h. refl }
kinds Subscribe = inl record { same = λ es u queue. refl; unqueued = λ h. refl }
kinds QueueSubscribe = inr record { same = λ es u queue. refl; queues = refl }
kinds Delivery = inl record { same = λ es u queue. refl; unqueued = λ h. refl }
kinds QueueDelivery = inl record { same = λ es u queue. refl; unqueued = λ h. absurd (both false h refl) }

permitted_false : (b p : Bool) → (if b then p else true) ≡ false → (b ≡ true) × (p ≡ false)
permitted_false true p e = (refl, e)
permitted_false false p e = absurd (cc)

-- ---- the two users' lists

module _ (kind : MessageKind) (one other : Rules) where
  in_allow : (e : Entry) → IsIn e (entries_of one.allow) → IsIn e (all_entries one other)
  in_allow e h = in_left e (entries_of one.allow ++ one.deny) (entries_of other.allow ++ other.deny) (in_left e (entries_of one.allow) one.deny h)

  in_deny : (e : Entry) → IsIn e one.deny → IsIn e (all_entries one other)
  in_deny e h = in_left e (entries_of one.allow ++ one.deny) (entries_of other.allow ++ other.deny) (in_right e (entries_of one.allow) one.deny h)

  in_other_allow : (e : Entry) → IsIn e (entries_of other.allow) → IsIn e (all_entries one other)
  in_other_allow e h = in_right e (entries_of one.allow ++ one.deny) (entries_of other.allow ++ other.deny) (in_left e (entries_of other.allow) other.deny h)

  in_other_deny : (e : Entry) → IsIn e other.deny → IsIn e (all_entries one other)
  in_other_deny e h = in_right e (entries_of one.allow ++ one.deny) (entries_of other.allow ++ other.deny) (in_right e (entries_of other.allow) other.deny h)

  -- how long patterns are at most
  abbrev longest_subject : ℕ
  longest_subject = longest (map subject_of (all_entries one other))

  abbrev longest_queue : ℕ
  longest_queue = longest (parts_of (all_entries one other))

  abbrev IsKnownView : View → Type 0
  IsKnownView v = IsKnown longest_subject v.0 × IsKnown longest_queue v.1

  known_part : (e : Entry) → IsIn e (all_entries one other) → (o : Option (List Token)) → e.queue ≡ o → IsKnown longest_queue (part_or any o)
  known_part e h None q = inr refl
  known_part e h (Some part) q = inl (longest_in part (parts_of (all_entries one other)) (part_in e part (all_entries one other) h q))

  known_whole : (b : Bool) (e : Entry) → IsIn e (all_entries one other) → IsKnown longest_queue (if b then part_or any e.queue else any)
  known_whole true e h = known_part e h e.queue refl
  known_whole false e h = inr refl

  known_queue : (form : Form) (e : Entry) → IsIn e (all_entries one other) → IsKnown longest_queue (queue_in form any e)
  known_queue (Whole k) e h = known_whole (has_queue k) e h
  known_queue (Subjects k) e h = inr refl
  known_queue Queued e h = known_part e h e.queue refl
  known_queue QueuedSubjects e h = inr refl

  known_view : (form : Form) (e : Entry) → IsIn e (all_entries one other) → IsKnownView (view_in form any e)
  known_view form e h = (inl (longest_in e.subject (map subject_of (all_entries one other)) (in_map subject_of e (all_entries one other) h)), known_queue form e h)

  known_any : IsKnownView (any, any)
  known_any = (inr refl, inr refl)

  -- ---- places of reasons to refuse

  fresh_long : length (denials kind any one other) ≤ length (fresh kind any one other)
  fresh_long =
      let long = length-append (denials kind any one other) (filter (is_parted false (queued_of kind any one)) (queued_of kind any other)) in omega (arith, long)

  some_long : (b : Bool) → length (fresh kind any one other) ≤ length (if b then fresh kind any one other ++ ((any, any) ∷ []) else fresh kind any one other)
  some_long true = let long = length-append (fresh kind any one other) ((any, any) ∷ []) in omega (arith, long)
  some_long false = omega arith

  any_long : length (fresh kind any one other) ≤ length (with_any kind any other (fresh kind any one other))
  any_long = some_long (has_list kind other)

  refusals_long : length (with_any kind any other (fresh kind any one other)) ≤ length (refusals kind any one other)
  refusals_long = let long = length-append (with_any kind any other (fresh kind any one other)) (late kind any one other) in omega (arith, long)

  last_at : (b : Bool) → b ≡ true → (j : IsIn (any, any) (if b then fresh kind any one other ++ ((any, any) ∷ []) else fresh kind any one other)) × (j.place ≡ length (fresh kind any one other))
  last_at false f = absurd (both false f refl)
  last_at true f =
      let long = length-append (fresh kind any one other) ((any, any) ∷ []) in (
        record {
          place = length (fresh kind any one other);
          inside = omega (arith, long);
          is = λ d. get_or_at (fresh kind any one other) (any, any) [] d (length (fresh kind any one other)) refl;
        },
        refl,
      )

  last_in : has_list kind other ≡ true →
      (j : IsIn (any, any) (refusals kind any one other)) × (j.place ≡ length (fresh kind any one other)) × (length (fresh kind any one other) < length (with_any kind any other (fresh kind any one other)))
  last_in e =
      let k = last_at (has_list kind other) e in
      let same = k.1 in
      let less = k.0.inside in
      (in_left (any, any) (with_any kind any other (fresh kind any one other)) (late kind any one other) k.0, same, omega (arith, same, less))

  first_place : (w : View) (h : IsIn w (fresh kind any one other)) → (j : IsIn w (refusals kind any one other)) × (j.place ≡ h.place)
  first_place w h =
      let k = in_first_of (has_list kind other) w (fresh kind any one other) ((any, any) ∷ []) h in
      (in_left w (with_any kind any other (fresh kind any one other)) (late kind any one other) k.0, k.1)

  -- what is among the first lists' and the entries for queues that they have none around is among the first
  denial_place : (w : View) → IsIn w (denials kind any one other) → (j : IsIn w (refusals kind any one other)) × (j.place < length (denials kind any one other))
  denial_place w h =
      let here = in_left w (denials kind any one other) (filter (is_parted false (queued_of kind any one)) (queued_of kind any other)) h in
      let there = first_place w here in
      let same = there.1 in
      let less = h.inside in
      (there.0, omega (arith, same, less))

  fresh_place : (w : View) → IsIn w (queued_of kind any other) → is_had (queued_of kind any one) w ≡ false → (j : IsIn w (refusals kind any one other)) × (j.place < length (fresh kind any one other))
  fresh_place w h none =
      let kept = in_kept (is_parted false (queued_of kind any one)) w (queued_of kind any other) h (to_not (is_had (queued_of kind any one) w) none) in
      let here = in_right w (denials kind any one other) (filter (is_parted false (queued_of kind any one)) (queued_of kind any other)) kept in
      let there = first_place w here in
      let same = there.1 in
      let less = here.inside in
      (there.0, omega (arith, same, less))

  queued_place : (w : View) → IsIn w (queued_of kind any other) → IsIn w (refusals kind any one other)
  queued_place w h = by_had (is_had (queued_of kind any one) w) refl
    where
      by_had : (b : Bool) → is_had (queued_of kind any one) w ≡ b → IsIn w (refusals kind any one other)
      by_had true e =
          in_right w (with_any kind any other (fresh kind any one other)) (late kind any one other) (in_kept (is_parted true (queued_of kind any one)) w (queued_of kind any other) h e)
      by_had false e = (fresh_place w h e).0

  -- ---- how far a reason reaches

  queued_least : (c : Bool) → length (denials kind any one other) ≤ (if c then length (denials kind any one other) else length (refusals kind any one other))
  queued_least true = omega arith
  queued_least false = let more = fresh_long in let some = any_long in let most = refusals_long in omega (arith, more, some, most)

  plain_over : (c : Bool) → length (fresh kind any one other) ≤ (if c then length (fresh kind any one other) else length (with_any kind any other (fresh kind any one other)))
  plain_over true = omega arith
  plain_over false = any_long

  plain_least : (v : View) → length (fresh kind any one other) ≤ reach_of kind any one other v false
  plain_least v = plain_over (is_had (views (Subjects kind) any (listed kind other)) v)

  reach_least : (v : View) (b : Bool) → length (denials kind any one other) ≤ reach_of kind any one other v b
  reach_least v true = queued_least (is_had (views Queued any (listed kind other)) v)
  reach_least v false = let more = fresh_long in let some = plain_least v in omega (arith, more, some)

  plain_last : (v : View) → is_had (views (Subjects kind) any (listed kind other)) v ≡ false → reach_of kind any one other v false ≡ length (with_any kind any other (fresh kind any one other))
  plain_last v none = ap (λ (c : Bool). if c then length (fresh kind any one other) else length (with_any kind any other (fresh kind any one other))) none

  queued_all : (v : View) → is_had (views Queued any (listed kind other)) v ≡ false → reach_of kind any one other v true ≡ length (refusals kind any one other)
  queued_all v none = ap (λ (c : Bool). if c then length (denials kind any one other) else length (refusals kind any one other)) none

  -- ---- the search for what the one lists allow and the others refuse

  module _ (search : Search) (is : IsSearch kind any one other search) where
    -- a sample of a question that two reasons have
    record IsPairSample (u : List Token) (queue : Queue) (v w : View) (t : List Token) (asked : Queue) : Type 0 where
      question : is_question kind t ≡ true
      asked_with : IsAskedWith (has_queue kind) asked
      first : has t asked v ≡ true
      second : has t asked w ≡ true
      subjects : (p : List Token) → has_token search.token.now p ≡ false → length p ≤ longest_subject → covers p t ≡ true → covers p u ≡ true
      queues : (p : List Token) → has_token search.token.now p ≡ false → IsKnown longest_queue p → queue_has p asked ≡ true → queue_has p queue ≡ true

    free_subject : (e : Entry) → IsIn e (all_entries one other) → has_token search.token.now e.subject ≡ false
    free_subject e h =
        none_in (has_token search.token.now) e.subject (map subject_of (all_entries one other) ++ parts_of (all_entries one other))
        (in_left e.subject (map subject_of (all_entries one other)) (parts_of (all_entries one other)) (in_map subject_of e (all_entries one other) h)) is.free

    free_part : (e : Entry) → IsIn e (all_entries one other) → (o : Option (List Token)) → e.queue ≡ o → has_token search.token.now (part_or any o) ≡ false
    free_part e h None q = fresh_tail search.token.now is.literal
    free_part e h (Some part) q =
        none_in (has_token search.token.now) part (map subject_of (all_entries one other) ++ parts_of (all_entries one other))
        (in_right part (map subject_of (all_entries one other)) (parts_of (all_entries one other)) (part_in e part (all_entries one other) h q)) is.free

    free_whole : (b : Bool) (e : Entry) → IsIn e (all_entries one other) → has_token search.token.now (if b then part_or any e.queue else any) ≡ false
    free_whole true e h = free_part e h e.queue refl
    free_whole false e h = fresh_tail search.token.now is.literal

    free_queue : (form : Form) (e : Entry) → IsIn e (all_entries one other) → has_token search.token.now (queue_in form any e) ≡ false
    free_queue (Whole k) e h = free_whole (has_queue k) e h
    free_queue (Subjects k) e h = fresh_tail search.token.now is.literal
    free_queue Queued e h = free_part e h e.queue refl
    free_queue QueuedSubjects e h = fresh_tail search.token.now is.literal

    -- what none has of a question none has of its sample
    module _ (u : List Token) (queue : Queue) (v w : View) (t : List Token) (asked : Queue) (sample : IsPairSample u queue v w t asked) where
      subject_back : (e : Entry) → IsIn e (all_entries one other) → covers e.subject t ≡ true → covers e.subject u ≡ true
      subject_back e h c = sample.subjects e.subject (free_subject e h) (longest_in e.subject (map subject_of (all_entries one other)) (in_map subject_of e (all_entries one other) h)) c

      entry_back : (form : Form) (e : Entry) → IsIn e (all_entries one other) → has t asked (view_in form any e) ≡ true → has u queue (view_in form any e) ≡ true
      entry_back form e h c =
          let parts = and_parts (covers e.subject t) (queue_has (queue_in form any e) asked) c in
          two (covers e.subject u) (queue_has (queue_in form any e) queue) (subject_back e h parts.0) (sample.queues (queue_in form any e) (free_queue form e h) (known_queue form e h) parts.1)

      views_back : (form : Form) (es : List Entry) → ((e : Entry) → IsIn e es → IsIn e (all_entries one other)) → list_any (has u queue) (views form any es) ≡ false → list_any (has t asked) (views form any es) ≡ false
      views_back form es known none =
          none_more (has t asked) (has u queue) (views form any es)
          (λ x h c.
          let o = of_views form x es h in
          subst (λ (y : View). has u queue y ≡ true) o.is (entry_back form o.entry (known o.entry o.inside) (subst (λ (y : View). has t asked y ≡ true) (sym o.is) c)))
          none

      subjects_back : (es : List Entry) → ((e : Entry) → IsIn e es → IsIn e (all_entries one other)) → list_any (has_subject u) (views QueuedSubjects any es) ≡ false →
          list_any (has_subject t) (views QueuedSubjects any es) ≡ false
      subjects_back es known none =
          none_more (has_subject t) (has_subject u) (views QueuedSubjects any es)
          (λ x h c.
          let o = of_views QueuedSubjects x es h in
          subst (λ (y : View). covers y.0 u ≡ true) o.is (subject_back o.entry (known o.entry o.inside) (subst (λ (y : View). covers y.0 t ≡ true) (sym o.is) c)))
          none

      plain_back : (es : List Entry) → ((e : Entry) → IsIn e es → IsIn e (all_entries one other)) → list_any (plain_covers u) es ≡ false → list_any (plain_covers t) es ≡ false
      plain_back es known none =
          none_more (plain_covers t) (plain_covers u) es
          (λ e h c. let parts = and_parts (is_plain e) (covers e.subject t) c in two (is_plain e) (covers e.subject u) parts.0 (subject_back e (known e h) parts.1)) none

    -- ---- a reason by which the one lists allow a question

    record IsAllowedBy (u : List Token) (queue : Queue) : Type 0 where
      reason : View
      reach : ℕ
      member : IsIn (reason, reach) (reasons kind any one other)
      known : IsKnownView reason
      had : has u queue reason ≡ true
      least : length (denials kind any one other) ≤ reach
      -- it reaches that no entry has it, where none has its subjects
      last : has_list kind other ≡ true → ((e : Entry) → IsIn e (listed kind other) → looks_at kind e ≡ true → covers e.subject u ≡ true → ⊥) → length (fresh kind any one other) < reach
      -- and an entry for queues around it, where none has its queue
      queued : (w : View) → IsIn w (queued_of kind any other) → covers w.0 u ≡ true → list_any (has u queue) (views Queued any (listed kind other)) ≡ false →
          (j : IsIn w (refusals kind any one other)) × (j.place < reach)
      lasting : (w : View) (t : List Token) (asked : Queue) → IsPairSample u queue reason w t asked → allows kind one t asked ≡ true

    module _ (u : List Token) (queue : Queue) (question : is_question kind u ≡ true) (with_queue : IsAskedWith (has_queue kind) queue) (undenied : denied kind one u queue ≡ false) where
      not_own : (v : View) → has u queue v ≡ true → is_had (own kind any one) v ≡ false
      not_own v h = by_not (is_had (own kind any one) v) (λ e. both (denied kind one u queue) (had_has (own kind any one) v u queue e h) undenied)

      still_undenied : (v w : View) (t : List Token) (asked : Queue) → IsPairSample u queue v w t asked → denied kind one t asked ≡ false
      still_undenied v w t asked sample = views_back u queue v w t asked sample (Whole kind) one.deny in_deny undenied

      -- a reason to allow, with its reach
      made : (v : View) (is_queued_one : Bool) → IsIn (v, reach_of kind any one other v is_queued_one) (reasons kind any one other) → IsKnownView v → has u queue v ≡ true →
          (is_queued_one ≡ false → list_any (has_subject u) (queued_of kind any one) ≡ false) → (is_queued_one ≡ true → has_queue kind ≡ true) →
          ((w : View) (t : List Token) (asked : Queue) → IsPairSample u queue v w t asked → permitted kind one t asked ≡ true) → IsAllowedBy u queue
      made v b member known had none_queued queues lasting = record {
        reason = v;
        reach = reach_of kind any one other v b;
        member = member;
        known = known;
        had = had;
        least = reach_least v b;
        last = last_by b queues;
        queued = queued_by b none_queued;
        lasting = λ w t asked sample. two (not (denied kind one t asked)) (permitted kind one t asked) (to_not (denied kind one t asked) (still_undenied v w t asked sample)) (lasting w t asked sample);
      }
        where
          covered : covers v.0 u ≡ true
          covered = (and_parts (covers v.0 u) (queue_has v.1 queue) had).0

          last_by : (c : Bool) → (c ≡ true → has_queue kind ≡ true) → has_list kind other ≡ true → ((e : Entry) → IsIn e (listed kind other) → looks_at kind e ≡ true → covers e.subject u ≡ true → ⊥) →
              length (fresh kind any one other) < reach_of kind any one other v c
          last_by true all_queues e none =
              let whole = last_in e in
              let less = whole.2 in
              let not_had : is_had (views Queued any (listed kind other)) v ≡ false = by_not (is_had (views Queued any (listed kind other)) v) (λ h.
              let one_of = found_in (has_subject u) (views Queued any (listed kind other)) (had_subject (views Queued any (listed kind other)) v u h covered) in
              let o = of_views Queued one_of.0 (listed kind other) one_of.1 in
              none o.entry o.inside (looks_all kind o.entry (all_queues refl)) (subst (λ (y : View). covers y.0 u ≡ true) (sym o.is) one_of.2)) in
              let all = queued_all v not_had in
              let most = refusals_long in
              omega (arith, all, less, most)
          last_by false all_queues e none =
              let whole = last_in e in
              let less = whole.2 in
              let all = plain_last v (by_not (is_had (views (Subjects kind) any (listed kind other)) v) (λ h.
              let one_of = found_in (has_subject u) (views (Subjects kind) any (listed kind other)) (had_subject (views (Subjects kind) any (listed kind other)) v u h covered) in
              let o = of_views (Subjects kind) one_of.0 (listed kind other) one_of.1 in
              none o.entry o.inside o.taken (subst (λ (y : View). covers y.0 u ≡ true) (sym o.is) one_of.2))) in
              omega (arith, all, less)

          queued_by : (c : Bool) → (c ≡ false → list_any (has_subject u) (queued_of kind any one) ≡ false) → (w : View) → IsIn w (queued_of kind any other) → covers w.0 u ≡ true →
              list_any (has u queue) (views Queued any (listed kind other)) ≡ false → (j : IsIn w (refusals kind any one other)) × (j.place < reach_of kind any one other v c)
          queued_by true none w h over unnamed =
              let not_had : is_had (views Queued any (listed kind other)) v ≡ false = by_not (is_had (views Queued any (listed kind other)) v) (λ k.
              both (list_any (has u queue) (views Queued any (listed kind other))) (had_has (views Queued any (listed kind other)) v u queue k had) unnamed) in
              let all = queued_all v not_had in
              let there = queued_place w h in
              let less = there.inside in
              (there, omega (arith, all, less))
          queued_by false none w h over unnamed =
              let there = fresh_place w h (by_not (is_had (queued_of kind any one) w) (λ k. both (list_any (has_subject u) (queued_of kind any one)) (had_subject (queued_of kind any one) w u k over) (none refl))) in
              let less = there.1 in
              let most = plain_least v in
              (there.0, omega (arith, less, most))

      entry_member : (e : Entry) → has_list kind one ≡ true → IsIn e (entries_of one.allow) → looks_at kind e ≡ true → has u queue (view_in (Whole kind) any e) ≡ true →
          IsIn (reason_of kind any one other e) (reasons kind any one other)
      entry_member e h inside looks had =
          subst (λ (c : Bool). IsIn (reason_of kind any one other e) (if c then reasons_by_entries kind any one other (entries_of one.allow) else reasons_without kind any one other)) (sym h)
          (in_map (reason_of kind any one other) e (filter (is_reason kind any one) (entries_of one.allow))
          (in_kept (is_reason kind any one) e (entries_of one.allow) inside
          (two (looks_at kind e) (not (is_had (own kind any one) (view_in (Whole kind) any e))) looks (to_not (is_had (own kind any one) (view_in (Whole kind) any e)) (not_own (view_in (Whole kind) any e) had)))))

      had_any : has u queue (any, any) ≡ true
      had_any = two (covers any u) (queue_has any queue) (any_covers u (some_tokens u (question_pattern kind u question))) (any_queue (has_queue kind) queue with_queue)

      any_member : has_list kind one ≡ false → IsIn ((any, any), reach_of kind any one other (any, any) false) (reasons kind any one other)
      any_member h =
          subst (λ (c : Bool). IsIn {A = View × ℕ} ((any, any), reach_of kind any one other (any, any) false) (if c then reasons_by_entries kind any one other (entries_of one.allow) else reasons_without kind any one other)) (sym h)
          (subst (λ (c : Bool). IsIn {A = View × ℕ} ((any, any), reach_of kind any one other (any, any) false) (if c then [] else ((any, any), reach_of kind any one other (any, any) false) ∷ [])) (sym (not_own (any, any) had_any))
          record { place = 0; inside = omega arith; is = λ d. refl })

      allowed_without : has_list kind one ≡ false → IsAllowedBy u queue
      allowed_without h =
          made (any, any) false (any_member h) known_any had_any
          (λ f. ap (list_any (has_subject u)) (queued_without (has_queue kind) (has_list kind one) (entries_of one.allow) h))
          (λ f. absurd (both false f refl))
          (λ w t asked sample. ap (λ (c : Bool). if c then by_list kind (entries_of one.allow) t asked else true) h)

      allowed_simple : IsSimple kind → has_list kind one ≡ true → by_whole kind (entries_of one.allow) u queue ≡ true → IsAllowedBy u queue
      allowed_simple simple h holds =
          let found = found_in (has u queue) (views (Whole kind) any (entries_of one.allow)) holds in
          let o = of_views (Whole kind) found.0 (entries_of one.allow) found.1 in
          let had : has u queue (view_in (Whole kind) any o.entry) ≡ true = subst (λ (y : View). has u queue y ≡ true) (sym o.is) found.2 in
          let plain = simple.unqueued (and_parts (has_allow kind) (is_some one.allow) h).0 in
          made (view_in (Whole kind) any o.entry) (is_for_queues kind o.entry) (entry_member o.entry h o.inside o.taken had) (known_view (Whole kind) o.entry (in_allow o.entry o.inside)) had
          (λ f. ap (λ (c : Bool). list_any (has_subject u) (if c then views QueuedSubjects any (listed kind one) else [])) plain)
          (λ f. (and_parts (has_queue kind) (is_queued o.entry) f).0)
          (λ w t asked sample.
          ap (λ (c : Bool). if c then by_list kind (entries_of one.allow) t asked else true) h
          ∙ simple.same (entries_of one.allow) t asked
          ∙ any_in (has t asked) (view_in (Whole kind) any o.entry) (views (Whole kind) any (entries_of one.allow)) (in_views (Whole kind) o.entry (entries_of one.allow) o.inside o.taken) sample.first)

      -- by an entry for queues
      allowed_named : IsWithQueues kind → has_list kind one ≡ true → list_any (has u queue) (views Queued any (entries_of one.allow)) ≡ true → IsAllowedBy u queue
      allowed_named q h holds =
          let found = found_in (has u queue) (views Queued any (entries_of one.allow)) holds in
          let o = of_views Queued found.0 (entries_of one.allow) found.1 in
          let same : view_in (Whole kind) any o.entry ≡ view_in Queued any o.entry = ap (λ (c : Bool). (o.entry.subject, if c then part_or any o.entry.queue else any)) q.queues in
          let had : has u queue (view_in (Whole kind) any o.entry) ≡ true = subst (λ (y : View). has u queue y ≡ true) (sym (same ∙ o.is)) found.2 in
          let for_queues : is_for_queues kind o.entry ≡ true = two (has_queue kind) (is_queued o.entry) q.queues o.taken in
          made (view_in (Whole kind) any o.entry) (is_for_queues kind o.entry) (entry_member o.entry h o.inside (looks_all kind o.entry q.queues) had) (known_view (Whole kind) o.entry (in_allow o.entry o.inside)) had
          (λ f. absurd (both (is_for_queues kind o.entry) for_queues f))
          (λ f. q.queues)
          (λ w t asked sample.
          ap (λ (c : Bool). if c then by_list kind (entries_of one.allow) t asked else true) h
          ∙ q.same (entries_of one.allow) t asked
          ∙ if_true (list_any (has_subject t) (views QueuedSubjects any (entries_of one.allow))) (list_any (has t asked) (views Queued any (entries_of one.allow))) (list_any (plain_covers t) (entries_of one.allow))
          (any_in (has_subject t) (view_in QueuedSubjects any o.entry) (views QueuedSubjects any (entries_of one.allow)) (in_views QueuedSubjects o.entry (entries_of one.allow) o.inside o.taken)
          (and_parts (covers o.entry.subject t) (queue_has (queue_in (Whole kind) any o.entry) asked) sample.first).0)
          (any_in (has t asked) (view_in Queued any o.entry) (views Queued any (entries_of one.allow)) (in_views Queued o.entry (entries_of one.allow) o.inside o.taken)
          (subst (λ (y : View). has t asked y ≡ true) same sample.first)))

      -- by a plain entry, where none for queues has its subjects
      allowed_plain : IsWithQueues kind → has_list kind one ≡ true → list_any (has_subject u) (views QueuedSubjects any (entries_of one.allow)) ≡ false → list_any (plain_covers u) (entries_of one.allow) ≡ true → IsAllowedBy u queue
      allowed_plain q h none holds =
          let found = found_in (plain_covers u) (entries_of one.allow) holds in
          let parts = and_parts (is_plain found.0) (covers found.0.subject u) found.2 in
          let every : queue_in (Whole kind) any found.0 ≡ any = whole_plain (has_queue kind) found.0.queue parts.0 in
          let had : has u queue (view_in (Whole kind) any found.0) ≡ true =
          two (covers found.0.subject u) (queue_has (queue_in (Whole kind) any found.0) queue) parts.1 (subst (λ (p : List Token). queue_has p queue ≡ true) (sym every) (any_queue (has_queue kind) queue with_queue)) in
          let plain : is_for_queues kind found.0 ≡ false = plain_unqueued (has_queue kind) (is_queued found.0) parts.0 in
          made (view_in (Whole kind) any found.0) (is_for_queues kind found.0) (entry_member found.0 h found.1 (looks_all kind found.0 q.queues) had) (known_view (Whole kind) found.0 (in_allow found.0 found.1)) had
          (λ f.
          ap (λ (c : Bool). list_any (has_subject u) (if c then views QueuedSubjects any (listed kind one) else [])) q.queues
          ∙ ap (λ (c : Bool). list_any (has_subject u) (views QueuedSubjects any (if c then entries_of one.allow else []))) h ∙ none)
          (λ f. absurd (both (is_for_queues kind found.0) f plain))
          (λ w t asked sample.
          ap (λ (c : Bool). if c then by_list kind (entries_of one.allow) t asked else true) h
          ∙ q.same (entries_of one.allow) t asked
          ∙ if_false (list_any (has_subject t) (views QueuedSubjects any (entries_of one.allow))) (list_any (has t asked) (views Queued any (entries_of one.allow))) (list_any (plain_covers t) (entries_of one.allow))
          (subjects_back u queue (view_in (Whole kind) any found.0) w t asked sample (entries_of one.allow) in_allow none)
          (any_in (plain_covers t) found.0 (entries_of one.allow) found.1
          (two (is_plain found.0) (covers found.0.subject t) parts.0 (and_parts (covers found.0.subject t) (queue_has (queue_in (Whole kind) any found.0) asked) sample.first).0)))

      allowed_queues : IsWithQueues kind → has_list kind one ≡ true → by_queue (entries_of one.allow) u queue ≡ true → IsAllowedBy u queue
      allowed_queues q h holds = by_around (list_any (has_subject u) (views QueuedSubjects any (entries_of one.allow))) refl holds
        where
          by_around : (c : Bool) → list_any (has_subject u) (views QueuedSubjects any (entries_of one.allow)) ≡ c →
              (if c then list_any (has u queue) (views Queued any (entries_of one.allow)) else list_any (plain_covers u) (entries_of one.allow)) ≡ true → IsAllowedBy u queue
          by_around true e f = allowed_named q h f
          by_around false e f = allowed_plain q h e f

      allowed : permitted kind one u queue ≡ true → IsAllowedBy u queue
      allowed holds = by_listed (has_list kind one) refl holds
        where
          by_kinds : IsSimple kind ⊎ IsWithQueues kind → has_list kind one ≡ true → by_list kind (entries_of one.allow) u queue ≡ true → IsAllowedBy u queue
          by_kinds (inl simple) h f = allowed_simple simple h (sym (simple.same (entries_of one.allow) u queue) ∙ f)
          by_kinds (inr q) h f = allowed_queues q h (sym (q.same (entries_of one.allow) u queue) ∙ f)

          by_listed : (c : Bool) → has_list kind one ≡ c → (if c then by_list kind (entries_of one.allow) u queue else true) ≡ true → IsAllowedBy u queue
          by_listed true h f = by_kinds (kinds kind) h f
          by_listed false h f = allowed_without h

    -- ---- where all samples are judged alike

    module _ (judge : Judging)
        (judges : (t : List Token) (asked : Queue) → is_question kind t ≡ true → IsAskedWith (has_queue kind) asked → judge t asked ≡ (allows kind one t asked && not (allows kind other t asked)))
        (alike : (b : Bool) → (b ≡ true → has_tails kind ≡ true) → (n : ℕ) → n < search.most → AllAlike judge search b (n + 1)) where
      -- two reasons that both have a question, of which the first reaches the second: their sample was judged alike
      pair : (u : List Token) (queue : Queue) → is_question kind u ≡ true → IsAskedWith (has_queue kind) queue → (v w : View) (r : ℕ) (i : IsIn (v, r) (reasons kind any one other)) (j : IsIn w (refusals kind any one other)) →
          j.place < r → IsKnownView v → IsKnownView w → has u queue v ≡ true → has u queue w ≡ true →
          (t : List Token) × (asked : Queue) × IsPairSample u queue v w t asked × (judge t asked ≡ false)
      pair u queue question with_queue v w r i j less kv kw hv hw =
          let one_has = and_parts (covers v.0 u) (queue_has v.1 queue) hv in
          let other_has = and_parts (covers w.0 u) (queue_has w.1 queue) hw in
          let subject = subject_sample search.token.now longest_subject v.0 w.0 u is.literal (question_pattern kind u question) kv.0 kw.0 one_has.0 other_has.0 in
          let named = queue_sample search.token.now (has_queue kind) longest_queue search.most_of_queues v.1 w.1 queue is.literal is.most_of_queues with_queue kv.1 kw.1 one_has.1 other_has.1 in
          let t = subject.0 in
          let s = subject.1 in
          let asked = named.0 in
          let q = named.1 in
          let all = ap length is.allowing in
          let each = ap length is.refusing in
          let iless = i.inside in
          let jless = j.inside in
          let ia : i.place < length search.allowing.items = omega (arith, all, iless, length-map search.allowing.items allowing_view) in
          let jr : j.place < length search.refusing.items = omega (arith, each, jless, length-map search.refusing.items reason_view) in
          let a = item_of search.allowing.items i.place ia in
          let x = item_of search.refusing.items j.place jr in
          let viewed_i : allowing_view (slice_index_or search.allowing.items i.place a) ≡ (v, r) =
          sym (get_or-map allowing_view search.allowing.items i.place a (v, r) ia) ∙ ap (λ (l : List (View × ℕ)). get_or l i.place (v, r)) is.allowing ∙ i.is (v, r) in
          let viewed_j : reason_view (slice_index_or search.refusing.items j.place x) ≡ w =
          sym (get_or-map reason_view search.refusing.items j.place x w jr) ∙ ap (λ (l : List View). get_or l j.place w) is.refusing ∙ j.is w in
          let reached : j.place < (slice_index_or search.allowing.items i.place a).reach = subst (λ (k : ℕ). j.place < k) (sym (ap (λ (p : View × ℕ). p.1) viewed_i)) less in
          let few : s.before < search.most = subst (λ (k : ℕ). s.before < k) (sym is.most) s.few in
          let told = (alike s.tailed (tails_asked kind u s.tailed question s.tails) s.before few i.place a ia).each j.place x jr reached in
          let by_views = λ (y z : View). IsAlikeIf judge search.token.now search.most_of_queues y.1 z.1 (common search.token.now s.tailed (s.before + 1) y.0 z.0) in
          let first_moved = subst (λ (y : View). by_views y (reason_view (slice_index_or search.refusing.items j.place x))) (ap (λ (p : View × ℕ). p.0) viewed_i) told in
          let moved = subst (λ (z : View). by_views v z) viewed_j first_moved in
          let at_text = subst (IsAlikeIf judge search.token.now search.most_of_queues v.1 w.1) s.is moved asked q.is in (
            t,
            asked,
            record {
              question = question_kept kind u t question s.pattern s.subject;
              asked_with = q.asked;
              first = two (covers v.0 t) (queue_has v.1 asked) s.first q.first;
              second = two (covers w.0 t) (queue_has w.1 asked) s.second q.second;
              subjects = s.back;
              queues = q.back;
            },
            subst (λ (l : List Token). judge l asked ≡ false) (pattern_again t s.pattern) at_text,
          )

      module _ (u : List Token) (queue : Queue) (question : is_question kind u ≡ true) (with_queue : IsAskedWith (has_queue kind) queue) (undenied : denied kind one u queue ≡ false) (a : IsAllowedBy u queue) where
        -- a reason to refuse that is reached, and that the other lists refuse the sample by
        by_pair : (w : View) (j : IsIn w (refusals kind any one other)) → j.place < a.reach → IsKnownView w → has u queue w ≡ true →
            ((t : List Token) (asked : Queue) → IsPairSample u queue a.reason w t asked → allows kind other t asked ≡ false) → ⊥
        by_pair w j less known had refuse =
            let p = pair u queue question with_queue a.reason w a.reach a.member j less a.known known a.had had in
            let t = p.0 in
            let asked = p.1 in
            let sample = p.2 in
            both (allows kind one t asked && not (allows kind other t asked))
            (two (allows kind one t asked) (not (allows kind other t asked)) (a.lasting w t asked sample) (to_not (allows kind other t asked) (refuse t asked sample)))
            (sym (judges t asked sample.question sample.asked_with) ∙ p.3)

        by_denial : denied kind other u queue ≡ true → ⊥
        by_denial holds =
            let found = found_in (has u queue) (own kind any other) holds in
            let o = of_views (Whole kind) found.0 other.deny found.1 in
            let kept = in_kept (is_parted false (own kind any one)) found.0 (own kind any other) found.1 (to_not (is_had (own kind any one) found.0) (not_own u queue question with_queue undenied found.0 found.2)) in
            let there = denial_place found.0 kept in
            let less = there.1 in
            let least = a.least in
            by_pair found.0 there.0 (omega (arith, less, least)) (subst IsKnownView o.is (known_view (Whole kind) o.entry (in_other_deny o.entry o.inside))) found.2
            (λ t asked sample.
            ap (λ (b : Bool). not b && permitted kind other t asked) (any_in (has t asked) found.0 (own kind any other) found.1 sample.second))

        by_last : has_list kind other ≡ true → ((e : Entry) → IsIn e (listed kind other) → looks_at kind e ≡ true → covers e.subject u ≡ true → ⊥) →
            ((t : List Token) (asked : Queue) → IsPairSample u queue a.reason (any, any) t asked → by_list kind (entries_of other.allow) t asked ≡ false) → ⊥
        by_last h none refuse =
            let there = last_in h in
            let same = there.1 in
            let reached = a.last h none in
            by_pair (any, any) there.0 (omega (arith, same, reached)) known_any (had_any u queue question with_queue undenied)
            (λ t asked sample. refused_by t asked (ap (λ (c : Bool). if c then by_list kind (entries_of other.allow) t asked else true) h ∙ refuse t asked sample))
          where
            refused_by : (t : List Token) (asked : Queue) → permitted kind other t asked ≡ false → allows kind other t asked ≡ false
            refused_by t asked e = and_with_false (not (denied kind other t asked)) (permitted kind other t asked) e

        in_listed : (e : Entry) → IsIn e (listed kind other) → IsIn e (entries_of other.allow)
        in_listed e h = in_if (has_list kind other) e (entries_of other.allow) h

        by_simple : IsSimple kind → has_list kind other ≡ true → by_whole kind (entries_of other.allow) u queue ≡ false → ⊥
        by_simple simple h none =
            by_last h
            (λ e inside looks covered.
            both (list_any (has u queue) (views (Whole kind) any (entries_of other.allow)))
            (any_in (has u queue) (view_in (Whole kind) any e) (views (Whole kind) any (entries_of other.allow)) (in_views (Whole kind) e (entries_of other.allow) (in_listed e inside) looks)
            (two (covers e.subject u) (queue_has (queue_in (Whole kind) any e) queue) covered (of_every e (simple.unqueued (and_parts (has_allow kind) (is_some other.allow) h).0))))
            none)
            (λ t asked sample. simple.same (entries_of other.allow) t asked ∙ views_back u queue a.reason (any, any) t asked sample (Whole kind) (entries_of other.allow) in_other_allow none)
          where
            of_every : (e : Entry) → has_queue kind ≡ false → queue_has (queue_in (Whole kind) any e) queue ≡ true
            of_every e plain =
                subst (λ (p : List Token). queue_has p queue ≡ true) (sym (ap (λ (c : Bool). if c then part_or any e.queue else any) plain)) (any_queue (has_queue kind) queue with_queue)

        -- an entry for queues has the subjects, and none of those has the queue
        by_unnamed : IsWithQueues kind → has_list kind other ≡ true → list_any (has_subject u) (views QueuedSubjects any (entries_of other.allow)) ≡ true → list_any (has u queue) (views Queued any (entries_of other.allow)) ≡ false → ⊥
        by_unnamed q h around none =
            let found = found_in (has_subject u) (views QueuedSubjects any (entries_of other.allow)) around in
            let o = of_views QueuedSubjects found.0 (entries_of other.allow) found.1 in
            let w = view_in QueuedSubjects any o.entry in
            let covered : covers o.entry.subject u ≡ true = subst (λ (y : View). covers y.0 u ≡ true) (sym o.is) found.2 in
            let listed_in : IsIn o.entry (listed kind other) = subst (λ (c : Bool). IsIn o.entry (if c then entries_of other.allow else [])) (sym h) o.inside in
            let member : IsIn (view_in QueuedSubjects any o.entry) (queued_of kind any other) =
            subst (λ (c : Bool). IsIn (view_in QueuedSubjects any o.entry) (if c then views QueuedSubjects any (listed kind other) else [])) (sym q.queues) (in_views QueuedSubjects o.entry (listed kind other) listed_in o.taken) in
            let unnamed : list_any (has u queue) (views Queued any (listed kind other)) ≡ false =
            ap (λ (c : Bool). list_any (has u queue) (views Queued any (if c then entries_of other.allow else []))) h ∙ none in
            let there = a.queued (view_in QueuedSubjects any o.entry) member covered unnamed in
            by_pair (view_in QueuedSubjects any o.entry) there.0 there.1 (known_view QueuedSubjects o.entry (in_other_allow o.entry o.inside))
            (two (covers o.entry.subject u) (queue_has any queue) covered (any_queue (has_queue kind) queue with_queue))
            (λ t asked sample.
            and_with_false (not (denied kind other t asked)) (permitted kind other t asked)
            (ap (λ (c : Bool). if c then by_list kind (entries_of other.allow) t asked else true) h ∙ q.same (entries_of other.allow) t asked
            ∙ if_true_false (list_any (has_subject t) (views QueuedSubjects any (entries_of other.allow))) (list_any (has t asked) (views Queued any (entries_of other.allow))) (list_any (plain_covers t) (entries_of other.allow))
            (any_in (has_subject t) (view_in QueuedSubjects any o.entry) (views QueuedSubjects any (entries_of other.allow)) (in_views QueuedSubjects o.entry (entries_of other.allow) o.inside o.taken)
            (and_parts (covers o.entry.subject t) (queue_has any asked) sample.second).0)
            (views_back u queue a.reason (view_in QueuedSubjects any o.entry) t asked sample Queued (entries_of other.allow) in_other_allow none)))

        -- none has the subjects, of either kind
        by_none : IsWithQueues kind → has_list kind other ≡ true → list_any (has_subject u) (views QueuedSubjects any (entries_of other.allow)) ≡ false → list_any (plain_covers u) (entries_of other.allow) ≡ false → ⊥
        by_none q h none plain =
            by_last h (λ e inside looks covered. by_part e (in_listed e inside) covered (is_or_not (is_queued e)))
            (λ t asked sample.
            q.same (entries_of other.allow) t asked
            ∙ if_false_false (list_any (has_subject t) (views QueuedSubjects any (entries_of other.allow))) (list_any (has t asked) (views Queued any (entries_of other.allow))) (list_any (plain_covers t) (entries_of other.allow))
            (subjects_back u queue a.reason (any, any) t asked sample (entries_of other.allow) in_other_allow none)
            (plain_back u queue a.reason (any, any) t asked sample (entries_of other.allow) in_other_allow plain))
          where
            by_part : (e : Entry) → IsIn e (entries_of other.allow) → covers e.subject u ≡ true → (is_queued e ≡ true) ⊎ (is_queued e ≡ false) → ⊥
            by_part e inside covered (inl queued) =
                both (list_any (has_subject u) (views QueuedSubjects any (entries_of other.allow)))
                (any_in (has_subject u) (view_in QueuedSubjects any e) (views QueuedSubjects any (entries_of other.allow)) (in_views QueuedSubjects e (entries_of other.allow) inside queued) covered) none
            by_part e inside covered (inr unqueued) =
                both (list_any (plain_covers u) (entries_of other.allow))
                (any_in (plain_covers u) e (entries_of other.allow) inside (two (is_plain e) (covers e.subject u) (to_not (is_queued e) unqueued) covered)) plain

        by_queues : IsWithQueues kind → has_list kind other ≡ true → by_queue (entries_of other.allow) u queue ≡ false → ⊥
        by_queues q h none = by_around (list_any (has_subject u) (views QueuedSubjects any (entries_of other.allow))) refl none
          where
            by_around : (c : Bool) → list_any (has_subject u) (views QueuedSubjects any (entries_of other.allow)) ≡ c →
                (if c then list_any (has u queue) (views Queued any (entries_of other.allow)) else list_any (plain_covers u) (entries_of other.allow)) ≡ false → ⊥
            by_around true e f = by_unnamed q h e f
            by_around false e f = by_none q h e f

        by_lack : permitted kind other u queue ≡ false → ⊥
        by_lack none =
            let parts = permitted_false (has_list kind other) (by_list kind (entries_of other.allow) u queue) none in by_kinds (kinds kind) parts.0 parts.1
          where
            by_kinds : IsSimple kind ⊎ IsWithQueues kind → has_list kind other ≡ true → by_list kind (entries_of other.allow) u queue ≡ false → ⊥
            by_kinds (inl simple) h f = by_simple simple h (sym (simple.same (entries_of other.allow) u queue) ∙ f)
            by_kinds (inr q) h f = by_queues q h (sym (q.same (entries_of other.allow) u queue) ∙ f)

        refused : allows kind other u queue ≡ false → ⊥
        refused none = by_parts (and_false (not (denied kind other u queue)) (permitted kind other u queue) none)
          where
            by_parts : (not (denied kind other u queue) ≡ false) ⊎ (permitted kind other u queue ≡ false) → ⊥
            by_parts (inl e) = by_denial (not_false (denied kind other u queue) e)
            by_parts (inr e) = by_lack e

      -- no question is allowed by the one lists and refused by the other
      pub exact : (u : List Token) (queue : Queue) → is_question kind u ≡ true → IsAskedWith (has_queue kind) queue → (allows kind one u queue && not (allows kind other u queue)) ≡ false
      exact u queue question with_queue = by_not (allows kind one u queue && not (allows kind other u queue)) (λ holds.
          let parts = and_parts (allows kind one u queue) (not (allows kind other u queue)) holds in
          let allowing = and_parts (not (denied kind one u queue)) (permitted kind one u queue) parts.0 in
          let undenied = from_not (denied kind one u queue) allowing.0 in
          refused u queue question with_queue undenied (allowed u queue question with_queue undenied allowing.1) (from_not (allows kind other u queue) parts.1))

-- what a search for nothing found says
exact_none : (judge : Judging) (search : Search) (b : Bool) (found : Option Asked) → is_some found ≡ false → IsExact judge search b found → (n : ℕ) → n < search.most → AllAlike judge search b (n + 1)
exact_none judge search b None e h = h
exact_none judge search b (Some asked) e h = absurd (both false (sym e) refl)

-- a kind without tails needs no search for them
pub all_alike : (kind : MessageKind) (one other : Lists) (search : Search) → IsSearch kind any (rules_of kind one) (rules_of kind other) search →
    (first second : Option Asked) → is_some first ≡ false → IsExact (differs kind one other) search false first → (has_tails kind ≡ true → (is_some second ≡ false) × IsExact (differs kind one other) search true second) →
    AreAllAlike kind one other
all_alike kind one other search is first second none alike tailed u queue question with_queue =
    differs_is kind one other u queue question with_queue
    ∙ exact kind (rules_of kind one) (rules_of kind other) search is (differs kind one other) (λ t asked q k. differs_is kind one other t asked q k) by_tail u queue question with_queue
  where
    by_tail : (b : Bool) → (b ≡ true → has_tails kind ≡ true) → (n : ℕ) → n < search.most → AllAlike (differs kind one other) search b (n + 1)
    by_tail false h = exact_none (differs kind one other) search false first none alike
    by_tail true h = let more = tailed (h refl) in exact_none (differs kind one other) search true second more.0 more.1

-- the same lists judge alike
pub same_alike : (kind : MessageKind) (one other : Lists) → rules_of kind one ≡ rules_of kind other → AreAllAlike kind one other
same_alike kind one other same u queue question with_queue =
    differs_is kind one other u queue question with_queue
    ∙ ap (λ (r : Rules). allows kind r u queue && not (allows kind (rules_of kind other) u queue)) same
    ∙ never (allows kind (rules_of kind other) u queue)
  where
    never : (b : Bool) → (b && not b) ≡ false
    never true = refl
    never false = refl

-- the same search, of what it was made of
pub is_search : (kind k : MessageKind) (a : List Token) (one other r s : Rules) (search : Search) → k ≡ kind → a ≡ any → r ≡ one → s ≡ other → IsSearch k a r s search → IsSearch kind any one other search
is_search kind k a one other r s search e f g h is =
    subst (λ (x : Rules). IsSearch kind any one x search) h
    (subst (λ (x : Rules). IsSearch kind any x s search) g (subst (λ (x : List Token). IsSearch kind x r s search) f (subst (λ (x : MessageKind). IsSearch x a r s search) e is)))
