-- What the lines say of what has none.
use Rattle.std.proofs.Common.{◌≡◌, ◌∙◌, ◌<◌, ◌++◌, ◌&&◌, ◌||◌, Bool, true, false, not, if◌then◌else◌, List, [], ◌∷◌, length, Option, Some, None, ap, refl, sym, append_assoc, append-nil}
use Rattle.std.specs.Prelude.{is_some}
use Rattle.std.specs.List.{list_any}
use Rattle.std.specs.Option.{option_map}
use Rattle.std.proofs.lemmas.Bool.{and_parts, or_parts}
use Rattle.std.proofs.lemmas.List.Folds.{list_any-append}
use Rattle.subjects.specs.Subject.{Token, covers, IsSubject}
use Rattle.permissions.specs.Lists.{Entry, Lists, Queue, Rules, is_plain, is_queued}
use Rattle.pattern_sets.proofs.Exact.{concrete}
use Rattle.message_changes.proofs.Members.{and_true, any_kept, any_same, both, by_not, found_in, in_first, in_more, none_in, none_more, two, IsIn}
use Rattle.message_changes.proofs.Verdicts.{allows, any, any_covers, by_queue, by_whole, differs_is, has, has_subject, no_queue, plain_covers, subject_same}
use Rattle.message_changes.specs.Exact.{has_part, has_parts, is_kind, is_of, is_same, is_wide, AreAllAlike, AreJudgedAlike, AreTold, HasNone, HasNoWide, IsAskedWith, IsFront, NoneChanges}
use Rattle.permissions.specs.Verdicts.{is_allowed}
use Rattle.message_changes.specs.Judging.{differs, if_so, is_allowed_if, is_question, is_refused_if, verdict}
use Rattle.message_changes.specs.Reasons.{entries_of, has_queue, has_tails, part_or, takes, view_in, views}
use Rattle.message_changes.specs.declared.changes.MessageChange.{MessageChange}
use Rattle.message_changes.specs.declared.form.Form.TheVariants.{Whole, Queued, QueuedSubjects}
use Rattle.message_changes.specs.declared.kind.MessageKind.{MessageKind}
use Rattle.message_changes.specs.declared.kind.MessageKind.TheVariants.{Publish, Subscribe, QueueSubscribe, Delivery, QueueDelivery}

-- ---- lists without queue parts

any_same_in : {A : Type 0} (p q : A → Bool) (xs : List A) → ((x : A) → IsIn x xs → p x ≡ q x) → list_any p xs ≡ list_any q xs
any_same_in p q [] h = refl
any_same_in p q (x ∷ xs) h =
    ap (λ (b : Bool). b || list_any p xs) (h x (in_first x xs)) ∙ ap (λ (b : Bool). q x || b) (any_same_in p q xs (λ y k. h y (in_more y x xs k)))

plain_part : (o : Option (List Token)) (c : Bool) (q : List Token) → 0 < length q → is_some o ≡ false → (c && covers (part_or any o) q) ≡ (not (is_some o) && (c && true))
plain_part None c q less e = ap (λ (b : Bool). c && b) (any_covers q less)
plain_part (Some part) c q less e = absurd (both true refl e)

module _ (es : List Entry) (plain : list_any has_part es ≡ false) (u q : List Token) (h : IsSubject q) where
  no_part : (e : Entry) → IsIn e es → is_some e.queue ≡ false
  no_part e k = none_in has_part e es k plain

  subscribe_same : by_whole QueueSubscribe es u (Some q) ≡ by_whole Subscribe es u None
  subscribe_same =
      any_kept (view_in (Whole QueueSubscribe) any) (has u (Some q)) (takes (Whole QueueSubscribe)) es
      ∙ any_same_in (λ (e : Entry). covers e.subject u && covers (part_or any e.queue) q) (λ (e : Entry). is_plain e && (covers e.subject u && true)) es
      (λ e k. plain_part e.queue (covers e.subject u) q (concrete q h).some (no_part e k))
      ∙ sym (any_kept (view_in (Whole Subscribe) any) (has u None) (takes (Whole Subscribe)) es)

  delivery_same : by_whole QueueDelivery es u (Some q) ≡ by_whole Delivery es u None
  delivery_same =
      any_kept (view_in (Whole QueueDelivery) any) (has u (Some q)) (takes (Whole QueueDelivery)) es
      ∙ any_same_in (λ (e : Entry). covers e.subject u && covers (part_or any e.queue) q) (λ (e : Entry). is_plain e && (covers e.subject u && true)) es
      (λ e k. plain_part e.queue (covers e.subject u) q (concrete q h).some (no_part e k))
      ∙ sym (any_kept (view_in (Whole Delivery) any) (has u None) (takes (Whole Delivery)) es)

  none_around : list_any (has_subject u) (views QueuedSubjects any es) ≡ false
  none_around =
      any_kept (view_in QueuedSubjects any) (has_subject u) (takes QueuedSubjects) es
      ∙ by_not (list_any (λ (e : Entry). is_queued e && covers e.subject u) es) (λ holds.
      let found = found_in (λ (e : Entry). is_queued e && covers e.subject u) es holds in
      both (is_queued found.0) (and_parts (is_queued found.0) (covers found.0.subject u) found.2).0 (no_part found.0 found.1))

  queue_same : by_queue es u (Some q) ≡ by_whole Subscribe es u None
  queue_same =
      ap (λ (b : Bool). if b then list_any (has u (Some q)) (views Queued any es) else list_any (plain_covers u) es) none_around
      ∙ any_same (plain_covers u) (λ (e : Entry). is_plain e && (covers e.subject u && true)) es (λ e. ap (λ (b : Bool). is_plain e && b) (sym (and_true (covers e.subject u))))
      ∙ sym (any_kept (view_in (Whole Subscribe) any) (has u None) (takes (Whole Subscribe)) es)

allow_same : (allow : Option (List Entry)) → list_any has_part (entries_of allow) ≡ false → (u q : List Token) → IsSubject q →
    (if is_some allow then by_queue (entries_of allow) u (Some q) else true) ≡ (if is_some allow then by_whole Subscribe (entries_of allow) u None else true)
allow_same None plain u q h = refl
allow_same (Some es) plain u q h = queue_same es plain u q h

joined : {a b c d : Bool} → a ≡ b → c ≡ d → (not a && c) ≡ (not b && d)
joined e f = cc

parts_apart : (rules : Rules) → has_parts rules ≡ false → (list_any has_part (entries_of rules.allow) ≡ false) × (list_any has_part rules.deny ≡ false)
parts_apart rules none = or_parts (list_any has_part (entries_of rules.allow)) (list_any has_part rules.deny) (sym (list_any-append has_part (entries_of rules.allow) rules.deny) ∙ none)

subscriptions_same : (rules : Rules) → has_parts rules ≡ false → (u q : List Token) → IsSubject q → allows QueueSubscribe rules u (Some q) ≡ allows Subscribe rules u None
subscriptions_same rules none u q h =
    let parts = parts_apart rules none in joined (subscribe_same rules.deny parts.1 u q h) (allow_same rules.allow parts.0 u q h)

deliveries_same : (rules : Rules) → has_parts rules ≡ false → (u q : List Token) → IsSubject q → allows QueueDelivery rules u (Some q) ≡ allows Delivery rules u None
deliveries_same rules none u q h = joined (delivery_same rules.deny (parts_apart rules none).1 u q h) refl

differing : {a b c d : Bool} → a ≡ b → c ≡ d → (a && not c) ≡ (b && not d)
differing e f = cc

pub subscriptions_alike : (one other : Lists) → has_parts one.subscribe ≡ false → has_parts other.subscribe ≡ false → AreAllAlike Subscribe one other → AreAllAlike QueueSubscribe one other
subscriptions_alike one other f g alike u None question k = absurd (no_queue k.0 k.1)
subscriptions_alike one other f g alike u (Some q) question k =
    let h = subject_same q k.0 k.1 k.2 in
    differs_is QueueSubscribe one other u (Some q) question k
    ∙ differing (subscriptions_same one.subscribe f u q h) (subscriptions_same other.subscribe g u q h)
    ∙ sym (differs_is Subscribe one other u None question refl) ∙ alike u None question refl

pub deliveries_alike : (one other : Lists) → has_parts one.subscribe ≡ false → has_parts other.subscribe ≡ false → AreAllAlike Delivery one other → AreAllAlike QueueDelivery one other
deliveries_alike one other f g alike u None question k = absurd (no_queue k.0 k.1)
deliveries_alike one other f g alike u (Some q) question k =
    let h = subject_same q k.0 k.1 k.2 in
    differs_is QueueDelivery one other u (Some q) question k
    ∙ differing (deliveries_same one.subscribe f u q h) (deliveries_same other.subscribe g u q h)
    ∙ sym (differs_is Delivery one other u None question refl) ∙ alike u None question refl

pub unqueued_subscriptions : (old new : Lists) → has_parts old.subscribe ≡ false → has_parts new.subscribe ≡ false → (is_gain : Bool) → NoneChanges old new is_gain Subscribe → NoneChanges old new is_gain QueueSubscribe
unqueued_subscriptions old new f g true alike = subscriptions_alike new old g f alike
unqueued_subscriptions old new f g false alike = subscriptions_alike old new f g alike

pub unqueued_deliveries : (old new : Lists) → has_parts old.subscribe ≡ false → has_parts new.subscribe ≡ false → (is_gain : Bool) → NoneChanges old new is_gain Delivery → NoneChanges old new is_gain QueueDelivery
unqueued_deliveries old new f g true alike = deliveries_alike new old g f alike
unqueued_deliveries old new f g false alike = deliveries_alike old new f g alike

-- ---- lines

pub front_same : (xs : List MessageChange) → IsFront xs xs
front_same xs = ([], sym (append-nil xs))

pub front_after : (xs ys zs : List MessageChange) → IsFront xs ys → IsFront ys zs → IsFront xs zs
front_after xs ys zs a b = (a.0 ++ b.0, b.1 ∙ ap (λ (l : List MessageChange). l ++ b.0) a.1 ∙ append_assoc xs a.0 b.0)

pub none_before : (p : MessageChange → Bool) (xs ys : List MessageChange) → IsFront xs ys → list_any p ys ≡ false → list_any p xs ≡ false
none_before p xs ys a none = (or_parts (list_any p xs) (list_any p a.0) (sym (list_any-append p xs a.0) ∙ sym (ap (list_any p) a.1) ∙ none)).0

same_kind : (kind : MessageKind) → is_kind kind kind ≡ true
same_kind Publish = refl
same_kind Subscribe = refl
same_kind QueueSubscribe = refl
same_kind Delivery = refl
same_kind QueueDelivery = refl

same_gain : (b : Bool) → is_same b b ≡ true
same_gain true = refl
same_gain false = refl

-- a line that came is there
pub line_told : (kind : MessageKind) (is_gain : Bool) (change : MessageChange) (xs ys : List MessageChange) → ys ≡ xs ++ (change ∷ []) → change.kind ≡ kind → change.is_gain ≡ is_gain → HasNone kind is_gain ys → ⊥
line_told kind is_gain change xs ys more e f none =
    let parts = or_parts (list_any (is_of kind is_gain) xs) (list_any (is_of kind is_gain) (change ∷ [])) (sym (list_any-append (is_of kind is_gain) xs (change ∷ [])) ∙ sym (ap (list_any (is_of kind is_gain)) more) ∙ none) in
    let here = or_parts (is_of kind is_gain change) false parts.1 in
    both (is_of kind is_gain change) (two (is_kind kind change.kind) (is_same is_gain change.is_gain) (ap (is_kind kind) e ∙ same_kind kind) (ap (is_same is_gain) f ∙ same_gain is_gain)) here.0

-- ---- all lines

kind_wide : (kind : MessageKind) (change : MessageChange) → has_tails kind ≡ true → is_kind kind change.kind ≡ true → has_tails change.kind ≡ true
kind_wide kind change t e = by_kind kind change.kind t e
  where
    by_kind : (k l : MessageKind) → has_tails k ≡ true → is_kind k l ≡ true → has_tails l ≡ true
    by_kind Publish l h f = absurd (both false h refl)
    by_kind Subscribe Publish h f = absurd (both false f refl)
    by_kind Subscribe Subscribe h f = refl
    by_kind Subscribe QueueSubscribe h f = refl
    by_kind Subscribe Delivery h f = absurd (both false f refl)
    by_kind Subscribe QueueDelivery h f = absurd (both false f refl)
    by_kind QueueSubscribe Publish h f = absurd (both false f refl)
    by_kind QueueSubscribe Subscribe h f = refl
    by_kind QueueSubscribe QueueSubscribe h f = refl
    by_kind QueueSubscribe Delivery h f = absurd (both false f refl)
    by_kind QueueSubscribe QueueDelivery h f = absurd (both false f refl)
    by_kind Delivery l h f = absurd (both false h refl)
    by_kind QueueDelivery l h f = absurd (both false h refl)

-- no line of a subscription, so none of its kinds
none_wide : (kind : MessageKind) (is_gain : Bool) (xs : List MessageChange) → has_tails kind ≡ true → HasNoWide is_gain xs → HasNone kind is_gain xs
none_wide kind is_gain xs t none = none_more (is_of kind is_gain) (is_wide is_gain) xs
    (λ x k e.
    let parts = and_parts (is_kind kind x.kind) (is_same is_gain x.is_gain) e in
    two (has_tails x.kind) (is_same is_gain x.is_gain) (kind_wide kind x t parts.0) parts.1)
    none

module _ (old new : Lists) (a b c d e : List MessageChange) (ab : IsFront a b) (bc : IsFront b c) (cd : IsFront c d) (de : IsFront d e)
    (publish : (is_gain : Bool) → HasNone Publish is_gain a → NoneChanges old new is_gain Publish)
    (subscribe : (is_gain : Bool) → HasNone Subscribe is_gain b → NoneChanges old new is_gain Subscribe)
    (queued : (is_gain : Bool) → NoneChanges old new is_gain Subscribe → HasNone QueueSubscribe is_gain c → NoneChanges old new is_gain QueueSubscribe)
    (gained : HasNoWide true d → HasNone Delivery true d → NoneChanges old new true Delivery)
    (queue_gained : HasNoWide true d → HasNone Delivery true d → HasNone QueueDelivery true d → NoneChanges old new true QueueDelivery)
    (lost : HasNoWide false e → HasNone Delivery false e → NoneChanges old new false Delivery)
    (queue_lost : HasNoWide false e → HasNone Delivery false e → HasNone QueueDelivery false e → NoneChanges old new false QueueDelivery) where
  ce : IsFront c e
  ce = front_after c d e cd de

  be : IsFront b e
  be = front_after b c e bc ce

  ae : IsFront a e
  ae = front_after a b e ab be

  no_subscription : (is_gain : Bool) → HasNone Subscribe is_gain e → NoneChanges old new is_gain Subscribe
  no_subscription is_gain none = subscribe is_gain (none_before (is_of Subscribe is_gain) b e be none)

  no_delivery : (is_gain : Bool) → HasNoWide is_gain e → HasNone Delivery is_gain e → NoneChanges old new is_gain Delivery
  no_delivery true wide none = gained (none_before (is_wide true) d e de wide) (none_before (is_of Delivery true) d e de none)
  no_delivery false wide none = lost wide none

  no_queue_delivery : (is_gain : Bool) → HasNoWide is_gain e → HasNone Delivery is_gain e → HasNone QueueDelivery is_gain e → NoneChanges old new is_gain QueueDelivery
  no_queue_delivery true wide none last = queue_gained (none_before (is_wide true) d e de wide) (none_before (is_of Delivery true) d e de none) (none_before (is_of QueueDelivery true) d e de last)
  no_queue_delivery false wide none last = queue_lost wide none last

  pub all_told : (is_gain : Bool) → AreTold old new is_gain e
  all_told is_gain = record {
    publish = λ none. publish is_gain (none_before (is_of Publish is_gain) a e ae none);
    subscribe = no_subscription is_gain;
    queue_subscribe =
        λ wide.
        queued is_gain (no_subscription is_gain (none_wide Subscribe is_gain e refl wide)) (none_before (is_of QueueSubscribe is_gain) c e ce (none_wide QueueSubscribe is_gain e refl wide));
    delivery = λ wide none last. no_delivery is_gain wide none;
    queue_delivery = λ wide none last. no_queue_delivery is_gain wide none last;
  }

-- ---- no lines

same_allowed : (a b : Bool) → (a && not b) ≡ false → (b && not a) ≡ false → a ≡ b
same_allowed true true e f = refl
same_allowed true false e f = absurd (both true refl e)
same_allowed false true e f = absurd (both true refl f)
same_allowed false false e f = refl

verdicts_differ : (kind : MessageKind) (one other : Lists) (u : List Token) (queue : Queue) → is_question kind u ≡ true →
    differs kind one other u queue ≡ (is_allowed (verdict kind one u queue) && not (is_allowed (verdict kind other u queue)))
verdicts_differ kind one other u queue h =
    ap (λ (b : Bool). is_allowed_if (option_map (λ question. verdict kind one question queue) (if_so b u)) && is_refused_if (option_map (λ question. verdict kind other question queue) (if_so b u))) h

alike_both : (kind : MessageKind) (old new : Lists) → NoneChanges old new true kind → NoneChanges old new false kind → (u : List Token) (queue : Queue) → is_question kind u ≡ true → IsAskedWith (has_queue kind) queue →
    is_allowed (verdict kind old u queue) ≡ is_allowed (verdict kind new u queue)
alike_both kind old new gained lost u queue question k =
    same_allowed (is_allowed (verdict kind old u queue)) (is_allowed (verdict kind new u queue)) (sym (verdicts_differ kind old new u queue question) ∙ lost u queue question k)
    (sym (verdicts_differ kind new old u queue question) ∙ gained u queue question k)

pub judged_alike : (old new : Lists) (changes : List MessageChange) → ((is_gain : Bool) → AreTold old new is_gain changes) → changes ≡ [] → AreJudgedAlike old new
judged_alike old new changes told none =
    let gained = told true in
    let lost = told false in
    record {
      publish = λ s h. alike_both Publish old new (gained.publish (empty (is_of Publish true))) (lost.publish (empty (is_of Publish false))) s None h refl;
      subscribe = λ p h. alike_both Subscribe old new (gained.subscribe (empty (is_of Subscribe true))) (lost.subscribe (empty (is_of Subscribe false))) p None h refl;
      queue_subscribe = λ p q h k. alike_both QueueSubscribe old new (gained.queue_subscribe (empty (is_wide true))) (lost.queue_subscribe (empty (is_wide false))) p (Some q) h (q, refl, k);
      delivery =
          λ s h.
          alike_both Delivery old new (gained.delivery (empty (is_wide true)) (empty (is_of Delivery true)) (empty (is_of QueueDelivery true)))
          (lost.delivery (empty (is_wide false)) (empty (is_of Delivery false)) (empty (is_of QueueDelivery false))) s None h refl;
      queue_delivery =
          λ s q h k.
          alike_both QueueDelivery old new (gained.queue_delivery (empty (is_wide true)) (empty (is_of Delivery true)) (empty (is_of QueueDelivery true)))
          (lost.queue_delivery (empty (is_wide false)) (empty (is_of Delivery false)) (empty (is_of QueueDelivery false))) s (Some q) h (q, refl, k);
    }
  where
    empty : (p : MessageChange → Bool) → list_any p changes ≡ false
    empty p = ap (list_any p) none
