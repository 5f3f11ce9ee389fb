-- In every legal run each subscription that stands has received what has entered for it since its SUB.
use Rattle.std.proofs.Common.{◌≡◌, ◌∙◌, ◌==◌, ◌+◌, ◌-◌, ◌^◌, ℕ, Bool, true, false, not, cond, List, [], ◌∷◌, ◌++◌, map, filter, length, Option, Some, None, Result, Ok, Err, ap, sym, refl, subst, arith, max, nat_le, take}
use Rattle.std.specs.Prelude.{All, AllPairs, min}
use Rattle.std.specs.List.{flat_map}
use Rattle.std.proofs.Math.Nat.{min-le_left, min-zero}
use Rattle.std.proofs.lemmas.Grind.{flat_map-append}
use Rattle.std.proofs.lemmas.List.{append_assoc, append-nil, length-append}
use Rattle.std.proofs.lemmas.List.Elements.{All-nil, All-push, All-map, All-filter, All-weaker, filter_passes, filter_agree, filter-append}
use Rattle.std.proofs.lemmas.List.Kept.{AllPairs-filter}
use Rattle.std.proofs.lemmas.List.Quantifiers.{all_pairs_push}
use Rattle.subjects.specs.Subject.{Token}
use Rattle.permissions.specs.declared.verdict.By.{By}
use Rattle.permissions.specs.declared.verdict.Verdict.{Verdict}
use Rattle.permissions.specs.declared.verdict.Verdict.TheVariants.{Allowed, DeniedBy, NoAllow, NoQueueAllow}
use Rattle.policy_doc.specs.declared.document.PolicyDoc.{PolicyDoc}
use Rattle.permissions.specs.Verdicts.{subscribe_verdict}
use Rattle.policy_ready.specs.Users.{user_with_password}
use Rattle.policy_ready.specs.declared.ready.User.{User}
use Rattle.events.specs.Messages.{Message}
use Rattle.events.specs.declared.event.Command.{Command}
use Rattle.events.specs.declared.event.Command.TheVariants.{Connect, Sub, Unsub, Pub, Take, Close, Reload}
use Rattle.events.specs.declared.answer.Item.{Item}
use Rattle.events.specs.declared.answer.Item.TheVariants.{Entered, Full, RouteFull, MapTooLong, Unmapped as UnmappedItem, MappedTooLong}
use Rattle.events.specs.declared.answer.Entry.{Entry}
use Rattle.events.specs.declared.answer.Outcome.{Outcome}
use Rattle.events.specs.declared.answer.Outcome.TheVariants.{Connected, AuthViolation, Subscribed, SameSid, SubLimit, Denied, Published, Taken}
use Rattle.events.specs.declared.refusal.HubRefusal.{HubRefusal}
use Rattle.events.specs.declared.refusal.HubRefusal.TheVariants.{SessionLimit}
use Rattle.world_sessions.specs.deliveries.Sessions.{session_of}
use Rattle.world_sessions.specs.declared.deliveries.session.Session.{Session}
use Rattle.world_subscriptions.specs.Subscriptions.{is_under, stands, has_all, subscription_of}
use Rattle.world_subscriptions.specs.Limit.{is_entry_for, limit_of, limited}
use Rattle.world_rows.specs.declared.subscription.Subscription.{Subscription}
use Rattle.world.specs.World.{World, opening_world, advanced}
use Rattle.service_routes.specs.Routes.{spent}
use Rattle.world.specs.Granting.{verdict_on, ended_on}
use Rattle.world.specs.Routing.{view_of, is_admitted, under_subject}
use Rattle.world.specs.Reload.{stands_on}
use Rattle.world.specs.Changes.{items_in}
use Rattle.policy_ready.specs.Drawing.{mapped_by}
use Rattle.policy_ready.specs.Mapped.{Mapped}
use Rattle.policy_ready.specs.Mapped.TheVariants.{Same, To, Unmapped, TooLong}
use Rattle.world.specs.Transition.{connected, subscribed, unsubscribed, mapped_to, published, seen_nowhere, seen_as, taken, closed, in_session, in_new_session, moved, numbered}
use Rattle.hub.specs.Sound.{has_same_sid, is_to_receive}
use Rattle.hub.specs.History.{IsEntry, IsLegalRun}
use Rattle.hub.specs.Guarantee.{times_entered, received_more}
use Rattle.hub.specs.Counts.{is_entered_for, items_told, entered_for, IsCounted}
use Rattle.hub.proofs.Finds.{any-none, AllPairs-map}
use Rattle.hub.proofs.Soundness.{KeepsSubscription, HasCount, IsStillToReceive, either, apart-again, unended-same}
use Rattle.hub.proofs.Entering.{received-keeps}
use Rattle.hub.proofs.Guaranteed.{limited-keeps}
use Rattle.hub.proofs.Views.{Setting, standing, last_stage, told_of, standing-first, seen-is}

-- ---- one entry

-- how many messages an entry tells to have entered
abbrev told : ℕ → List ℕ → Entry → ℕ
told conn sid a = length (filter (is_entered_for conn sid) (items_told a))

entered-more : (conn : ℕ) (sid : List ℕ) (es : List Entry) (a : Entry) → entered_for conn sid (es ++ a ∷ []) ≡ entered_for conn sid es + told conn sid a
entered-more conn sid es a =
    ap (λ l. length (filter (is_entered_for conn sid) l)) (flat_map-append items_told es (a ∷ []) ∙ ap (λ l. flat_map items_told es ++ l) (append-nil (items_told a)))
    ∙ ap (λ (l : List Item). length l) (filter-append (is_entered_for conn sid) (flat_map items_told es) (items_told a))
    ∙ length-append (filter (is_entered_for conn sid) (flat_map items_told es)) (filter (is_entered_for conn sid) (items_told a))

-- A subscription that has counted what the entry tells.
record Counts (a : Entry) (s t : Subscription) : Type 0 where
  pub id : t.id ≡ s.id
  pub conn : t.conn ≡ s.conn
  pub subject : t.subject ≡ s.subject
  pub queue : t.queue ≡ s.queue
  pub sid : t.sid ≡ s.sid
  pub received : (n : ℕ) → s.received ≡ min 18446744073709551615 n → t.received ≡ min 18446744073709551615 (n + told s.conn s.sid a)

counts-more : (es : List Entry) (a : Entry) (s t : Subscription) → Counts a s t → IsCounted es s → IsCounted (es ++ a ∷ []) t
counts-more es a s t counts is = record {
  before = is.before;
  made = is.made;
  since = is.since ++ a ∷ [];
  entries = ap (λ l. l ++ a ∷ []) is.entries ∙ append_assoc is.before (is.made ∷ is.since) (a ∷ []);
  number = is.number ∙ sym counts.id;
  command = is.command
      ∙ ap (λ n. Sub n s.subject s.queue s.sid) (sym counts.conn)
      ∙ ap (λ p. Sub t.conn p s.queue s.sid) (sym counts.subject)
      ∙ ap (λ queue. Sub t.conn t.subject queue s.sid) (sym counts.queue)
      ∙ ap (λ b. Sub t.conn t.subject t.queue b) (sym counts.sid);
  outcome = is.outcome;
  received = counts.received (entered_for s.conn s.sid is.since) is.received
      ∙ ap (min 18446744073709551615) (sym (
      ap (λ n. entered_for n t.sid (is.since ++ a ∷ [])) counts.conn
      ∙ ap (λ b. entered_for s.conn b (is.since ++ a ∷ [])) counts.sid
      ∙ entered-more s.conn s.sid is.since a));
}

-- the two readings of an item
same-item : (s : Subscription) (item : Item) → is_entered_for s.conn s.sid item ≡ is_entry_for s item
same-item s (Entered conn sid) = refl
same-item s (Full conn sid) = refl
same-item s (RouteFull row) = refl
same-item s (MapTooLong row) = refl
same-item s (MappedTooLong index) = refl
same-item s UnmappedItem = refl

told-times : (a : Entry) (s : Subscription) → told s.conn s.sid a ≡ times_entered (items_told a) s
told-times a s = ap (λ (l : List Item). length l) (filter_agree (is_entered_for s.conn s.sid) (is_entry_for s) (same-item s) (items_told a))

-- an entry without items tells of nobody
nothing-told : (a : Entry) (conn : ℕ) (sid : List ℕ) → items_told a ≡ [] → told conn sid a ≡ 0
nothing-told a conn sid none = ap (λ l. length (filter (is_entered_for conn sid) l)) none

-- then the count stays
same-count : (bound r n m : ℕ) → m ≡ 0 → r ≡ min bound n → r ≡ min bound (n + m)
same-count bound r n m none is = is ∙ ap (min bound) (let e : n ≡ n + m = omega (arith, none) in e)

-- ---- the subscriptions after an entry

-- each is counted and still to receive, and no two have the same connection and sid
abbrev Told : List Entry → List Subscription → Type 0
Told es subs = All (IsCounted es) subs × AllPairs (λ (s t : Subscription). has_same_sid s t ≡ false) subs × All IsStillToReceive subs

-- the entry tells of nobody
abbrev TellsNobody : Entry → Type 0
TellsNobody a = (conn : ℕ) (sid : List ℕ) → told conn sid a ≡ 0

counts-same : (a : Entry) (s : Subscription) → TellsNobody a → Counts a s s
counts-same a s nobody =
    record { id = refl; conn = refl; subject = refl; queue = refl; sid = refl; received = λ n is. same-count _ _ n _ (nobody s.conn s.sid) is }

all-kept : (es : List Entry) (a : Entry) (subs : List Subscription) → TellsNobody a → Told es subs → Told (es ++ a ∷ []) subs
all-kept es a subs nobody t =
    (All-weaker (IsCounted es) (IsCounted (es ++ a ∷ [])) (λ s is. counts-more es a s s (counts-same a s nobody) is) subs t.0, t.1, t.2)

kept : (es : List Entry) (a : Entry) (subs : List Subscription) → items_told a ≡ [] → Told es subs → Told (es ++ a ∷ []) subs
kept es a subs none = all-kept es a subs (λ conn sid. nothing-told a conn sid none)

-- some have gone
left : (es : List Entry) (p : Subscription → Bool) (subs : List Subscription) → Told es subs → Told es (filter p subs)
left es p subs t = (All-filter p (IsCounted es) subs t.0, AllPairs-filter (λ (x y : Subscription). has_same_sid x y ≡ false) p subs t.1, All-filter p IsStillToReceive subs t.2)

-- each has counted the entry, and those that have ended are gone
changed : (es : List Entry) (a : Entry) (f : Subscription → Subscription) (subs : List Subscription) → KeepsSubscription f → ((s : Subscription) → Counts a s (f s)) → Told es subs → Told (es ++ a ∷ []) (filter is_to_receive (map f subs))
changed es a f subs keeps counts t = (
  All-filter is_to_receive (IsCounted (es ++ a ∷ [])) (map f subs)
      (All-map (IsCounted (es ++ a ∷ [])) f subs (All-weaker (IsCounted es) (λ s. IsCounted (es ++ a ∷ []) (f s)) (λ s is. counts-more es a s (f s) (counts s) is) subs t.0)),
  AllPairs-filter (λ (x y : Subscription). has_same_sid x y ≡ false) is_to_receive (map f subs) (AllPairs-map (λ (x y : Subscription). has_same_sid x y ≡ false) f subs (apart-again f keeps) t.1),
  filter_passes is_to_receive (map f subs),
)

-- one has come
added : (es : List Entry) (a : Entry) (conn : ℕ) (account : List ℕ) (p : List Token) (queue : Option (List Token)) (sid : List ℕ) (subs : List Subscription) → a.event.what ≡ Sub conn p queue sid → a.outcome ≡ Subscribed → stands subs conn sid ≡ false →
    Told es subs → Told (es ++ a ∷ []) (subs ++ subscription_of a.number conn account p queue sid ∷ [])
added es a conn account p queue sid subs command outcome free t = (
  All-push (IsCounted (es ++ a ∷ [])) subs new (kept es a subs (ap items_in outcome) t).0
      (record { before = es; made = a; since = []; entries = refl; number = refl; command = command; outcome = outcome; received = sym (min-zero (2 ^ 64 - 1)) }),
  all_pairs_push (λ (x y : Subscription). has_same_sid x y ≡ false) subs new t.1 (any-none (λ (s : Subscription). has_same_sid s new) subs free),
  All-push IsStillToReceive subs new t.2 refl,
)
  where
    new : Subscription
    new = subscription_of a.number conn account p queue sid

-- a message was published
counts-published : (a : Entry) (items : List Item) (s : Subscription) → items_told a ≡ items → Counts a s (received_more items s)
counts-published a items s tells = record {
  id = refl;
  conn = refl;
  subject = refl;
  queue = refl;
  sid = refl;
  received = λ n is.
      ap (λ r. min 18446744073709551615 (r + times_entered items s)) is
      ∙ (let e = told-times a s ∙ ap (λ l. times_entered l s) tells in omega (arith, e));
}

-- a limit was set
counts-limited : (a : Entry) (conn : ℕ) (sid : List ℕ) (most : Option ℕ) (s : Subscription) → items_told a ≡ [] → Counts a s (limited conn sid most s)
counts-limited a conn sid most s none = record {
  id = keeps.id s;
  conn = keeps.conn s;
  subject = keeps.subject s;
  queue = keeps.queue s;
  sid = keeps.sid s;
  received = λ n is. either (λ (t : Subscription). t.received) (is_under conn sid s) (record s { most = Some (limit_of most) }) s refl
      ∙ same-count _ _ n _ (nothing-told a s.conn s.sid none) is;
}
  where
    keeps : KeepsSubscription (limited conn sid most)
    keeps = limited-keeps conn sid most

-- ---- a step

-- the subscriptions that a step leaves are counted, with its entry
abbrev Leaves : List Entry → World → Command → Outcome → List Subscription → Type 0
Leaves es w c o subs = (a : Entry) → a.event.what ≡ c → a.outcome ≡ o → a.number ≡ w.number + 1 → Told es w.subscriptions → Told (es ++ a ∷ []) subs

abbrev Keeps : List Entry → World → Command → Result (Outcome × World) HubRefusal → Type 0
Keeps es w c (Err refusal) = Unit {0}
Keeps es w c (Ok r) = Leaves es w c r.0 r.1.subscriptions

silent : (es : List Entry) (w : World) (c : Command) (o : Outcome) → items_in o ≡ [] → Leaves es w c o w.subscriptions
silent es w c o none a command outcome number t = kept es a w.subscriptions (ap items_in outcome ∙ none) t

connect-told : (es : List Entry) (w : World) (now conn : ℕ) (name : Option (List ℕ)) (password : List ℕ) (echo : Bool) →
    Keeps es w (Connect conn name password echo) (numbered (w.number + 1) (moved (advanced w now) (Connect conn name password echo)))
connect-told es w now conn name password echo = by_session (session_of w.sessions conn)
  where
    c : Command
    c = Connect conn name password echo

    by_user : (uo : Option User) → Keeps es w c (numbered (w.number + 1) (Ok (connected (advanced w now) conn echo uo)))
    by_user None = silent es w c AuthViolation refl
    by_user (Some user) = silent es w c Connected refl

    by_limit : (l : Bool) → Keeps es w c (numbered (w.number + 1) (cond l (Err SessionLimit) (Ok (connected (advanced w now) conn echo (user_with_password w.policy name password)))))
    by_limit true = tt
    by_limit false = by_user (user_with_password w.policy name password)

    by_session : (o : Option Session) → Keeps es w c (numbered (w.number + 1) (in_new_session (advanced w now) o (connected (advanced w now) conn echo (user_with_password w.policy name password))))
    by_session (Some z) = tt
    by_session None = by_limit (nat_le 4096 (length w.sessions))

sub-told : (es : List Entry) (w : World) (now conn : ℕ) (p : List Token) (queue : Option (List Token)) (sid : List ℕ) →
    Keeps es w (Sub conn p queue sid) (numbered (w.number + 1) (moved (advanced w now) (Sub conn p queue sid)))
sub-told es w now conn p queue sid = by_session (session_of w.sessions conn)
  where
    c : Command
    c = Sub conn p queue sid

    new : Session → Subscription
    new z = subscription_of (w.number + 1) conn z.user.account p queue sid

    by_limit : (l : Bool) (z : Session) → stands w.subscriptions conn sid ≡ false →
        Keeps es w c (numbered (w.number + 1) (Ok (cond l (SubLimit, advanced w now) (Subscribed, record (advanced w now) { subscriptions = w.subscriptions ++ new z ∷ [] }))))
    by_limit true z free = silent es w c SubLimit refl
    by_limit false z free = λ a command outcome number t.
        subst (λ n. Told (es ++ a ∷ []) (w.subscriptions ++ subscription_of n conn z.user.account p queue sid ∷ [])) number
        (added es a conn z.user.account p queue sid w.subscriptions command outcome free t)

    by_sid : (b : Bool) (z : Session) → stands w.subscriptions conn sid ≡ b →
        Keeps es w c (numbered (w.number + 1) (Ok (cond b (SameSid, advanced w now) (cond (has_all w.subscriptions conn) (SubLimit, advanced w now) (Subscribed, record (advanced w now) { subscriptions = w.subscriptions ++ new z ∷ [] })))))
    by_sid true z there = silent es w c SameSid refl
    by_sid false z free = by_limit (has_all w.subscriptions conn) z free

    by_verdict : (v : Verdict) (z : Session) → Keeps es w c (numbered (w.number + 1) (Ok (subscribed (advanced w now) conn z.user.account p queue sid v)))
    by_verdict (Allowed by) z = by_sid (stands w.subscriptions conn sid) z refl
    by_verdict (DeniedBy i) z = silent es w c (Denied (DeniedBy i)) refl
    by_verdict NoAllow z = silent es w c (Denied NoAllow) refl
    by_verdict (NoQueueAllow i) z = silent es w c (Denied (NoQueueAllow i)) refl

    by_session : (o : Option Session) → Keeps es w c (numbered (w.number + 1) (in_session o (λ z. subscribed (advanced w now) conn z.user.account p queue sid (subscribe_verdict z.user.rules p queue))))
    by_session None = tt
    by_session (Some z) = by_verdict (subscribe_verdict z.user.rules p queue) z

unsub-told : (es : List Entry) (w : World) (now conn : ℕ) (sid : List ℕ) (most : Option ℕ) →
    Keeps es w (Unsub conn sid most) (numbered (w.number + 1) (moved (advanced w now) (Unsub conn sid most)))
unsub-told es w now conn sid most = by_session (session_of w.sessions conn)
  where
    by_session : (o : Option Session) → Keeps es w (Unsub conn sid most) (numbered (w.number + 1) (in_session o (λ z. unsubscribed (advanced w now) conn sid most)))
    by_session None = tt
    by_session (Some z) = λ a command outcome number t.
        subst (Told (es ++ a ∷ [])) (sym (unended-same (map (limited conn sid most) w.subscriptions)))
        (changed es a (limited conn sid most) w.subscriptions (limited-keeps conn sid most) (λ s. counts-limited a conn sid most s (ap items_in outcome)) t)

pub-told : (es : List Entry) (w : World) (now conn : ℕ) (m : Message) (word : ℕ) →
    Keeps es w (Pub conn m word) (numbered (w.number + 1) (moved (advanced w now) (Pub conn m word)))
pub-told es w now conn m word = by_session (session_of w.sessions conn)
  where
    c : Command
    c = Pub conn m word

    setting : Session → Message → Setting
    setting z sent = record { world = advanced w now; publisher = z; asked = m.subject; message = sent; word = word; may = λ account subject sub. is_admitted w.sessions z (view_of account subject sent) sub }

    few : (s : Subscription) → IsCounted es s → HasCount s
    few s is = let e = is.received in let l = min-le_left 18446744073709551615 (entered_for s.conn s.sid is.since) in omega (arith, e, l)

    after : By → Session → Message → World
    after by z sent = record (advanced w now) {
      sessions = ended_on by z.conn m.subject (last_stage (setting z sent) by).sessions;
      subscriptions = standing (setting z sent) (told_of (setting z sent) by);
      routes = spent z.user.account sent.subject (last_stage (setting z sent) by).routes;
    }

    sent-is : (by : By) (z : Session) (sent : Message) → Told es w.subscriptions → seen_as (advanced w now) z by m.subject sent word ≡ (Published by (told_of (setting z sent) by), after by z sent)
    sent-is by z sent t =
        seen-is (setting z sent) (record { admits = λ account subject k d h. refl; apart = t.1 }) (standing-first (setting z sent) (All-weaker (IsCounted es) HasCount few w.subscriptions t.0) t.2) by

    sent_on : (by : By) (z : Session) (sent : Message) → Keeps es w c (numbered (w.number + 1) (Ok (seen_as (advanced w now) z by m.subject sent word)))
    sent_on by z sent = λ a command outcome number t.
        let told : List Item = told_of (setting z sent) by in
        subst (λ (r : Outcome × World). a.outcome ≡ r.0 → Told (es ++ a ∷ []) r.1.subscriptions) (sym (sent-is by z sent t))
        (λ tells. changed es a (received_more told) w.subscriptions (received-keeps told) (λ s. counts-published a told s (ap items_in tells)) t)
        outcome

    -- what is told of a message that is seen nowhere counts for no subscription
    nowhere : (by : By) (z : Session) (item : Item) → ((conn : ℕ) (sid : List ℕ) → is_entered_for conn sid item ≡ false) →
        Keeps es w c (numbered (w.number + 1) (Ok (seen_nowhere (advanced w now) z by m.subject item)))
    nowhere by z item other = λ a command outcome number t.
        all-kept es a w.subscriptions
        (λ conn sid. ap (λ (o : Outcome). length (filter (is_entered_for conn sid) (items_in o))) outcome ∙ ap (λ (b : Bool). length (cond b (item ∷ []) [])) (other conn sid)) t

    by_mapping : (by : By) (z : Session) (mapped : Mapped) → Keeps es w c (numbered (w.number + 1) (Ok (mapped_to (advanced w now) z by m word mapped)))
    by_mapping by z Same = sent_on by z m
    by_mapping by z (To s) = sent_on by z (under_subject s m)
    by_mapping by z Unmapped = nowhere by z UnmappedItem (λ conn sid. refl)
    by_mapping by z (TooLong index) = nowhere by z (MappedTooLong index) (λ conn sid. refl)

    by_verdict : (v : Verdict) (z : Session) → Keeps es w c (numbered (w.number + 1) (Ok (published (advanced w now) z m word v)))
    by_verdict (Allowed by) z = by_mapping by z (mapped_by z.user.mappings m.subject word)
    by_verdict (DeniedBy i) z = silent es w c (Denied (DeniedBy i)) refl
    by_verdict NoAllow z = silent es w c (Denied NoAllow) refl
    by_verdict (NoQueueAllow i) z = silent es w c (Denied (NoQueueAllow i)) refl

    by_session : (o : Option Session) → Keeps es w c (numbered (w.number + 1) (in_session o (λ z. published (advanced w now) z m word (verdict_on (max w.moment now) z m.subject))))
    by_session None = tt
    by_session (Some z) = by_verdict (verdict_on (max w.moment now) z m.subject) z

take-told : (es : List Entry) (w : World) (now conn most : ℕ) → Keeps es w (Take conn most) (numbered (w.number + 1) (moved (advanced w now) (Take conn most)))
take-told es w now conn most = by_session (session_of w.sessions conn)
  where
    by_session : (o : Option Session) → Keeps es w (Take conn most) (numbered (w.number + 1) (in_session o (taken (advanced w now) conn most)))
    by_session None = tt
    by_session (Some z) = silent es w (Take conn most) (Taken (take most z.outbox.waiting) z.missed) refl

close-told : (es : List Entry) (w : World) (now conn : ℕ) → Keeps es w (Close conn) (numbered (w.number + 1) (moved (advanced w now) (Close conn)))
close-told es w now conn = by_session (session_of w.sessions conn)
  where
    by_session : (o : Option Session) → Keeps es w (Close conn) (numbered (w.number + 1) (in_session o (λ z. closed (advanced w now) conn)))
    by_session None = tt
    by_session (Some z) = λ a command outcome number t.
        left (es ++ a ∷ []) (λ (s : Subscription). not (s.conn == conn)) w.subscriptions (kept es a w.subscriptions (ap items_in outcome) t)

step-told : (es : List Entry) (w : World) (now : ℕ) (c : Command) → Keeps es w c (numbered (w.number + 1) (moved (advanced w now) c))
step-told es w now (Connect conn name password echo) = connect-told es w now conn name password echo
step-told es w now (Sub conn p queue sid) = sub-told es w now conn p queue sid
step-told es w now (Unsub conn sid most) = unsub-told es w now conn sid most
step-told es w now (Pub conn m word) = pub-told es w now conn m word
step-told es w now (Take conn most) = take-told es w now conn most
step-told es w now (Close conn) = close-told es w now conn
step-told es w now (Reload doc) = λ a command outcome number t.
    left (es ++ a ∷ []) (stands_on doc w.sessions) w.subscriptions (kept es a w.subscriptions (ap items_in outcome) t)

-- ---- a run

run-told : (done es : List Entry) (w after : World) → Told done w.subscriptions → IsLegalRun w es after → Told (done ++ es) after.subscriptions
unfolding IsLegalRun
run-told done [] w after t run =
    subst (λ l. Told l after.subscriptions) (sym (append-nil done)) (subst (λ (v : World). Told done v.subscriptions) (sym run) t)
run-told done (a ∷ es) w after t run =
    let is : IsEntry w a run.0 = run.1 in
    let moves : Keeps done w a.event.what (Ok (a.outcome, run.0)) = subst (Keeps done w a.event.what) is.outcome (step-told done w a.event.now a.event.what) in
    subst (λ l. Told l after.subscriptions) (append_assoc done (a ∷ []) es)
    (run-told (done ++ a ∷ []) es run.0 after (moves a refl refl is.number t) run.2)

-- from an opening on
pub counted-run : (policy : PolicyDoc) (capacity : ℕ) (es : List Entry) (w : World) → IsLegalRun (opening_world policy capacity) es w → All (IsCounted es) w.subscriptions
counted-run policy capacity es w run =
    (run-told [] es (opening_world policy capacity) w (All-nil (IsCounted []), (λ i j d below within. absurd (omega (arith, within))), All-nil IsStillToReceive) run).0
