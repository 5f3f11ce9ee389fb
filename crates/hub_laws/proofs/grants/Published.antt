-- The requests of a history are those that its entries tell, where in every view a message has the reply that it was published
-- with.
use Rattle.std.proofs.Common.{◌≡◌, ◌∙◌, ◌==◌, ◌&&◌, ◌||◌, ℕ, ◌+◌, suc, zero, Bool, true, false, not, cond, List, [], ◌∷◌, map, length, take, Option, Some, None, Result, Ok, Err, ap, sym, refl, subst, arith, max, nat_lt}
use Rattle.std.specs.Prelude.{All, IfSome, is_some}
use Rattle.std.specs.List.{list_any}
use Rattle.std.proofs.Math.Bool.{and-false}
use Rattle.std.proofs.lemmas.Bool.{lt-ltb, le-ltb}
use Rattle.std.proofs.lemmas.List.Elements.{All-map, All-filter, All-take, All-head, All-tail}
use Rattle.subjects.specs.Subject.{Token}
use Rattle.permissions.specs.declared.verdict.By.{By}
use Rattle.permissions.specs.declared.verdict.Verdict.{Verdict}
use Rattle.permissions.specs.declared.verdict.Verdict.TheVariants.{Allowed, DeniedBy, NoAllow, NoQueueAllow}
use Rattle.events.specs.Messages.{Message}
use Rattle.events.specs.declared.event.Command.{Command}
use Rattle.events.specs.declared.event.Command.TheVariants.{Connect, Sub, Unsub, Pub, Take, Close, Reload}
use Rattle.events.specs.declared.answer.Entry.{Entry}
use Rattle.events.specs.declared.answer.Delivery.{Delivery}
use Rattle.events.specs.declared.answer.Item.{Item}
use Rattle.events.specs.declared.answer.Item.TheVariants.{Entered, Full, RouteFull, MapTooLong, Unmapped as UnmappedItem, MappedTooLong}
use Rattle.events.specs.declared.answer.Outcome.{Outcome}
use Rattle.events.specs.declared.refusal.HubRefusal.{HubRefusal}
use Rattle.policy_ready.specs.declared.imports.view.ViewItem.{ViewItem}
use Rattle.policy_ready.specs.declared.imports.view.ViewItem.TheVariants.{At, TooLong as Uncrossed}
use Rattle.policy_ready.specs.declared.imports.view.Way.TheVariants.{Own, Stream, Service, Response}
use Rattle.world_sessions.specs.deliveries.Sessions.{session_of}
use Rattle.world_sessions.specs.declared.deliveries.session.Session.{Session}
use Rattle.world_subscriptions.specs.Subscription.{Subscription}
use Rattle.world.specs.World.{World, opening_world, advanced}
use Rattle.world.specs.Changes.{items_in}
use Rattle.world.specs.Granting.{verdict_on, counted_on}
use Rattle.account_mappings.specs.Drawing.{mapped_by}
use Rattle.account_mappings.specs.declared.drawing.Mapped.{Mapped}
use Rattle.account_mappings.specs.declared.drawing.Mapped.TheVariants.{Same, To, Unmapped, TooLong}
use Rattle.world.specs.Routing.{under_subject}
use Rattle.world.specs.Transition.{published, sent_on, in_session, moved, numbered}
use Rattle.world.specs.Routing.{of_deliveries}
use Rattle.hub.specs.History.{IsEntry}
use Rattle.hub.specs.Guarantee.{Sending, sent_to, delivery_of, receiver, room_in, items_of, items_with_room, found_full}
use Rattle.hub.proofs.Views.{items-of}
use Rattle.hub.proofs.Deliveries.{items_after, receives_of, with_room}
use Rattle.hub_laws.specs.grants.Noted.{Step, step_of, is_reply, asks_on, entered_between, is_request, is_publish, publishes_with, is_entered_at, tells_request, has_own_reply, HasOwnReplies, RequestsAreTold}
use Rattle.hub_laws.proofs.grants.Sends.{Start, IsOf, IsOfRequest, views_of, publishes, AreOf}
use Rattle.hub_laws.proofs.grants.History.{quiet-same, none-entered, entered-is, Told, Keeps, step-told, run-each, told-opening}

-- ---- what items tell of deliveries

-- where one has entered for the connection
abbrev is_entering : Item → Bool
is_entering (Entered c sid) = true
is_entering (Full c sid) = false
is_entering (RouteFull row) = false
is_entering (MapTooLong row) = false
is_entering UnmappedItem = false
is_entering (MappedTooLong index) = false

any-own : (conn : ℕ) (items : List Item) → list_any (is_entered_at conn) items ≡ list_any is_entering (items_of conn items)
any-own conn [] = refl
any-own conn (Entered c sid ∷ items) = here (c == conn) (any-own conn items)
  where
    here : (b : Bool) → list_any (is_entered_at conn) items ≡ list_any is_entering (items_of conn items) →
        (b || list_any (is_entered_at conn) items) ≡ list_any is_entering (cond b (Entered c sid ∷ items_of conn items) (items_of conn items))
    here true rest = refl
    here false rest = rest
any-own conn (Full c sid ∷ items) = here (c == conn) (any-own conn items)
  where
    here : (b : Bool) → list_any (is_entered_at conn) items ≡ list_any is_entering (items_of conn items) →
        list_any (is_entered_at conn) items ≡ list_any is_entering (cond b (Full c sid ∷ items_of conn items) (items_of conn items))
    here true rest = rest
    here false rest = rest
any-own conn (RouteFull row ∷ items) = any-own conn items
any-own conn (MapTooLong row ∷ items) = any-own conn items
any-own conn (UnmappedItem ∷ items) = any-own conn items
any-own conn (MappedTooLong index ∷ items) = any-own conn items

none-full : (subs : List Subscription) → list_any is_entering (map found_full subs) ≡ false
none-full [] = refl
none-full (sub ∷ subs) = none-full subs

any-room : (n : ℕ) (ss : List Sending) → list_any is_entering (items_with_room n (map receiver ss)) ≡ nat_lt 0 (length (take n (map delivery_of ss)))
any-room zero ss = none-full (map receiver ss)
any-room (suc n) [] = refl
any-room (suc n) (s ∷ ss) = sym (lt-ltb 0 (suc (length (take n (map delivery_of ss)))) (omega arith))

-- ---- the reply of what is sent

abbrev HasReply : Option (List Token) → Delivery → Type 0
HasReply reply d = d.message.reply ≡ reply

asks-all : (s : List Token) (reply : Option (List Token)) (ds : List Delivery) → All (HasReply reply) ds → list_any (asks_on s) ds ≡ (is_reply s reply && nat_lt 0 (length ds))
asks-all s reply [] all = sym (ap (λ c. is_reply s reply && c) (le-ltb 0 0 (omega arith)) ∙ and-false (is_reply s reply))
asks-all s reply (d ∷ ds) all =
    ap (λ o. is_reply s o || list_any (asks_on s) ds) (All-head (HasReply reply) d ds all)
    ∙ here (is_reply s reply) (asks-all s reply ds (All-tail (HasReply reply) d ds all))
  where
    here : (b : Bool) → list_any (asks_on s) ds ≡ (b && nat_lt 0 (length ds)) → (b || list_any (asks_on s) ds) ≡ (b && nat_lt 0 (length (d ∷ ds)))
    here true rest = sym (lt-ltb 0 (length (d ∷ ds)) (omega arith))
    here false rest = rest

abbrev AsksOn : Option (List Token) → Sending → Type 0
AsksOn reply s = s.message.reply ≡ reply

-- what has no reply is as it was published
no-reply : (reply : Option (List Token)) → not (is_some reply) ≡ true → None ≡ reply
no-reply None is = refl
no-reply (Some r) is = absurd (cc)

-- the views of a message that has its own reply in them
module _ (b : Start) (publisher : Session) (m : Message) (word : ℕ) where
  own_request : (account : List ℕ) (subject : List Token) (reply : Option (List Token)) → not (is_some reply) ≡ true → IsOfRequest b publisher m word (AsksOn m.reply) account subject reply
  own_request account subject None is = λ s. refl
  own_request account subject (Some reply) is = absurd (cc)

  own_replies : (v : ViewItem) → has_own_reply m.reply v ≡ true → IsOf b publisher m word (AsksOn m.reply) v
  own_replies (At account subject Own) is = λ s. refl
  own_replies (At account subject (Stream row)) is = λ s. refl
  own_replies (At account subject (Service row)) is = own_request account subject m.reply is
  own_replies (At account subject (Response row)) is = λ s. no-reply m.reply is
  own_replies (Uncrossed row) is = tt

-- ---- a step

abbrev IsAsTold : Step → Type 0
IsAsTold step = HasOwnReplies step.before (max step.before.moment step.entry.event.now) step.entry.event.what → (conn : ℕ) (s : List Token) → is_request conn s step ≡ tells_request conn s step.entry

module _ (steps : List Step) (w : World) (now : ℕ) (t : Told steps w.moment w.sessions) where
  abbrev Tells : Command → Result (Outcome × World) HubRefusal → Type 0
  Tells c (Err refusal) = Unit {0}
  Tells c (Ok r) = HasOwnReplies w (max w.moment now) c → (conn : ℕ) (s : List Token) → list_any (asks_on s) (entered_between conn w.sessions r.1.sessions) ≡ (publishes_with s c && list_any (is_entered_at conn) (items_in r.0))

  -- only a publish is a request
  others : (c : Command) → is_publish c ≡ false → ((s : List Token) → publishes_with s c ≡ false) → Tells c (numbered (w.number + 1) (moved (advanced w now) c))
  others c other none = here (numbered (w.number + 1) (moved (advanced w now) c)) (step-told steps w now t c)
    where
      here : (r : Result (Outcome × World) HubRefusal) → Keeps steps w now t c r → Tells c r
      here (Err refusal) keeps = tt
      here (Ok r) keeps = λ own conn s.
          none-entered w.sessions r.1.sessions (keeps.1 other) conn s ∙ sym (ap (λ b. b && list_any (is_entered_at conn) (items_in r.0)) (none s))

  publish : (conn : ℕ) (m : Message) (word : ℕ) → Tells (Pub conn m word) (numbered (w.number + 1) (moved (advanced w now) (Pub conn m word)))
  publish conn m word = by_session (session_of w.sessions conn) refl
    where
      c : Command
      c = Pub conn m word

      M : ℕ
      M = max w.moment now

      begin : By → Session → Start
      begin by z = record { before = w.sessions; begun = counted_on by z.conn m.subject w.sessions; world = advanced w now }

      -- the deliveries that enter for a connection are told
      entered-told : (to : ℕ) (ss : List Sending) (items : List Item) → of_deliveries items ≡ items_after w.sessions M ss w.sessions →
          list_any (is_entered_at to) items ≡ nat_lt 0 (length (take (room_in (session_of w.sessions to)) (map delivery_of (sent_to to ss))))
      entered-told to ss items met_is =
          any-own to items
          ∙ ap (list_any is_entering) (items-of to items ∙ ap (items_of to) met_is ∙ with_room w.sessions M ss w.sessions to)
          ∙ any-room (room_in (session_of w.sessions to)) (sent_to to ss)

      sent : (by : By) (sender : ℕ) (ss : List Sending) (items : List Item) (to : ℕ) (s : List Token) → of_deliveries items ≡ items_after w.sessions M ss w.sessions → All (AsksOn m.reply) ss →
          list_any (asks_on s) (entered_between to w.sessions (map (receives_of M by sender m.subject ss) w.sessions)) ≡ (is_reply s m.reply && list_any (is_entered_at to) items)
      sent by sender ss items to s met_is asks =
          ap (list_any (asks_on s)) (entered-is M by sender m.subject ss w.sessions to)
          ∙ asks-all s m.reply (take (room_in (session_of w.sessions to)) (map delivery_of (sent_to to ss)))
          (All-take (HasReply m.reply) (room_in (session_of w.sessions to)) (map delivery_of (sent_to to ss))
          (All-map (HasReply m.reply) delivery_of (sent_to to ss) (All-filter (λ (x : Sending). x.to.conn == to) (AsksOn m.reply) ss asks)))
          ∙ ap (λ b. is_reply s m.reply && b) (sym (entered-told to ss items met_is))

      denied : HasOwnReplies w M c → (to : ℕ) (s : List Token) → list_any (asks_on s) (entered_between to w.sessions w.sessions) ≡ (is_reply s m.reply && false)
      denied own to s = none-entered w.sessions w.sessions (quiet-same w.sessions t.apart) to s ∙ sym (and-false (is_reply s m.reply))

      OwnOf : Session → Type 0
      OwnOf z = IfSome (sent_on (mapped_by z.user.mappings m.subject word) m) (λ (as_sent : Message). All (λ v. has_own_reply m.reply v ≡ true) (views_of (advanced w now) z as_sent))

      asks-own : (by : By) (z : Session) (mapped : Mapped) → IfSome (sent_on mapped m) (λ (as_sent : Message). All (λ v. has_own_reply m.reply v ≡ true) (views_of (advanced w now) z as_sent)) →
          IfSome (sent_on mapped m) (AreOf (AsksOn m.reply) w now z m.subject word by)
      asks-own by z Same all = λ k d h. own_replies (begin by z) z m word _ (all k d h)
      asks-own by z (To s) all = λ k d h. own_replies (begin by z) z (under_subject s m) word _ (all k d h)
      asks-own by z Unmapped all = tt
      asks-own by z (TooLong index) all = tt

      by_verdict : (z : Session) (v : Verdict) → session_of w.sessions conn ≡ Some z → Tells c (numbered (w.number + 1) (Ok (published (advanced w now) z m word v)))
      by_verdict z (Allowed by) at = λ own.
          let all : OwnOf z = subst (λ o. IfSome o OwnOf) at own in
          let p = publishes (AsksOn m.reply) w now z m word by t.apart (asks-own by z (mapped_by z.user.mappings m.subject word) all) in
          subst (λ (r : Outcome × World). (to : ℕ) (s : List Token) → list_any (asks_on s) (entered_between to w.sessions r.1.sessions) ≡ (is_reply s m.reply && list_any (is_entered_at to) (items_in r.0))) (sym p.is)
          (λ to s. sent by z.conn p.ss p.items to s p.met p.each)
      by_verdict z (DeniedBy i) at = denied
      by_verdict z NoAllow at = denied
      by_verdict z (NoQueueAllow i) at = denied

      by_session : (o : Option Session) → session_of w.sessions conn ≡ o → Tells c (numbered (w.number + 1) (in_session o (λ z. published (advanced w now) z m word (verdict_on M z m.subject))))
      by_session None at = tt
      by_session (Some z) at = by_verdict z (verdict_on M z m.subject) at

  step-tells : (c : Command) → Tells c (numbered (w.number + 1) (moved (advanced w now) c))
  step-tells (Connect conn name password echo) = others (Connect conn name password echo) refl (λ s. refl)
  step-tells (Sub conn p queue sid) = others (Sub conn p queue sid) refl (λ s. refl)
  step-tells (Unsub conn sid most) = others (Unsub conn sid most) refl (λ s. refl)
  step-tells (Pub conn m word) = publish conn m word
  step-tells (Take conn most) = others (Take conn most) refl (λ s. refl)
  step-tells (Close conn) = others (Close conn) refl (λ s. refl)
  step-tells (Reload doc) = others (Reload doc) refl (λ s. refl)

-- ---- a run

told-step : (steps : List Step) (w : World) (t : Told steps w.moment w.sessions) (a : Entry) (next : World) → IsEntry w a next → IsAsTold (step_of w a next)
told-step steps w t a next is = subst (Tells steps w a.event.now t a.event.what) is.outcome (step-tells steps w a.event.now t a.event.what)

pub are_told : RequestsAreTold
are_told policy capacity es w run = run-each IsAsTold told-step [] es (opening_world policy capacity) w (told-opening policy capacity) run
