-- Where no question is judged otherwise, and what the lines say of it.
use Rattle.std.specs.Prelude.{◌≡◌, ◌++◌, ◌&&◌, Bool, true, false, not, List, Some, None, is_some}
use Rattle.std.specs.List.{list_any}
use Rattle.subjects.specs.Subject.{Token, IsPattern, IsSubject}
use Rattle.permissions.specs.Lists.{Entry, Lists, Queue, Rules}
use Rattle.permissions.specs.Verdicts.{delivery_verdict, is_allowed, publish_verdict, subscribe_verdict}
use Rattle.message_changes.specs.Judging.{changes_by, differs, is_question}
use Rattle.message_changes.specs.Reasons.{entries_in, has_queue, has_tails}
use Rattle.message_changes.specs.declared.changes.MessageChange.{MessageChange}
use Rattle.message_changes.specs.declared.kind.MessageKind.{MessageKind}
use Rattle.message_changes.specs.declared.kind.MessageKind.TheVariants.{Publish, Subscribe, QueueSubscribe, Delivery, QueueDelivery}

-- a kind asks with a queue, or without one
abbrev pub IsAskedWith : Bool → Queue → Type 0
IsAskedWith false queue = queue ≡ None
IsAskedWith true queue = (q : List Token) × (queue ≡ Some q) × IsSubject q

-- no question of a kind is allowed by the one lists and refused by the other
abbrev pub AreAllAlike : MessageKind → Lists → Lists → Type 0
AreAllAlike kind one other = (asked : List Token) (queue : Queue) → is_question kind asked ≡ true → IsAskedWith (has_queue kind) queue → differs kind one other asked queue ≡ false

-- none is gained, or none is lost
abbrev pub NoneChanges : Lists → Lists → Bool → MessageKind → Type 0
NoneChanges old new is_gain kind = (asked : List Token) (queue : Queue) → is_question kind asked ≡ true → IsAskedWith (has_queue kind) queue → changes_by is_gain kind old new asked queue ≡ false

-- ---- lines

abbrev pub is_kind : MessageKind → MessageKind → Bool
is_kind Publish Publish = true
is_kind Subscribe Subscribe = true
is_kind QueueSubscribe QueueSubscribe = true
is_kind Delivery Delivery = true
is_kind QueueDelivery QueueDelivery = true
is_kind _ _ = false

abbrev pub is_same : Bool → Bool → Bool
is_same true b = b
is_same false b = not b

abbrev pub is_of : MessageKind → Bool → MessageChange → Bool
is_of kind is_gain change = is_kind kind change.kind && is_same is_gain change.is_gain

-- of subscriptions, with a queue or without one
abbrev pub is_wide : Bool → MessageChange → Bool
is_wide is_gain change = has_tails change.kind && is_same is_gain change.is_gain

-- there is no line of a kind
abbrev pub HasNone : MessageKind → Bool → List MessageChange → Type 0
HasNone kind is_gain changes = list_any (is_of kind is_gain) changes ≡ false

abbrev pub HasNoWide : Bool → List MessageChange → Type 0
HasNoWide is_gain changes = list_any (is_wide is_gain) changes ≡ false

-- lines to which more may have come
abbrev pub IsFront : List MessageChange → List MessageChange → Type 0
IsFront before after = (more : List MessageChange) × (after ≡ before ++ more)

-- Where no line says that something is gained, nothing is, and where none that it is lost, nothing is. A subscription with a queue may be
-- told as one without, and what is delivered as what is subscribed to.
pub record AreTold (old new : Lists) (is_gain : Bool) (changes : List MessageChange) : Type 0 where
  pub publish : HasNone Publish is_gain changes → NoneChanges old new is_gain Publish
  pub subscribe : HasNone Subscribe is_gain changes → NoneChanges old new is_gain Subscribe
  pub queue_subscribe : HasNoWide is_gain changes → NoneChanges old new is_gain QueueSubscribe
  pub delivery : HasNoWide is_gain changes → HasNone Delivery is_gain changes → HasNone QueueDelivery is_gain changes → NoneChanges old new is_gain Delivery
  pub queue_delivery : HasNoWide is_gain changes → HasNone Delivery is_gain changes → HasNone QueueDelivery is_gain changes → NoneChanges old new is_gain QueueDelivery

-- Both lists allow the same publishes, subscriptions and deliveries, with a queue or without one.
pub record AreJudgedAlike (old new : Lists) : Type 0 where
  pub publish : (subject : List Token) → IsSubject subject → is_allowed (publish_verdict old subject) ≡ is_allowed (publish_verdict new subject)
  pub subscribe : (pattern : List Token) → IsPattern pattern → is_allowed (subscribe_verdict old pattern None) ≡ is_allowed (subscribe_verdict new pattern None)
  pub queue_subscribe : (pattern queue : List Token) → IsPattern pattern → IsSubject queue → is_allowed (subscribe_verdict old pattern (Some queue)) ≡ is_allowed (subscribe_verdict new pattern (Some queue))
  pub delivery : (subject : List Token) → IsSubject subject → is_allowed (delivery_verdict old subject None) ≡ is_allowed (delivery_verdict new subject None)
  pub queue_delivery : (subject queue : List Token) → IsSubject subject → IsSubject queue → is_allowed (delivery_verdict old subject (Some queue)) ≡ is_allowed (delivery_verdict new subject (Some queue))

-- ---- lists without queue parts

abbrev pub has_part : Entry → Bool
has_part e = is_some e.queue

abbrev pub has_parts : Rules → Bool
has_parts rules = list_any has_part (entries_in rules)
