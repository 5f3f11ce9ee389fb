-- Each command does the same, whether what is dead was dropped before it or not.
use Rattle.std.proofs.Common.{◌≡◌, ◌∙◌, ◌==◌, ◌&&◌, ℕ, ◌+◌, ◌≤◌, Bool, true, false, not, cond, List, [], ◌∷◌, ◌++◌, map, filter, length, take, get_or, Option, Some, None, Ok, Err, ap, sym, refl, subst, arith, max}
use Rattle.std.specs.Prelude.{All, AllPairs, is_some, nat_le}
use Rattle.std.specs.List.{filter_map}
use Rattle.std.specs.Option.{option_map}
use Rattle.std.proofs.lemmas.List.{length-map, map-append}
use Rattle.subjects.specs.Subject.{Token}
use Rattle.policy_doc.specs.declared.document.PolicyDoc.{PolicyDoc}
use Rattle.policy_doc.specs.declared.permission_doc.document.Terms.{Terms}
use Rattle.permissions.specs.Verdicts.{publish_verdict, subscribe_verdict}
use Rattle.permissions.specs.declared.verdict.By.{By}
use Rattle.permissions.specs.declared.verdict.Verdict.{Verdict}
use Rattle.permissions.specs.declared.verdict.Verdict.TheVariants.{Allowed, DeniedBy, NoAllow, NoQueueAllow}
use Rattle.reply_grants.specs.Replies.{Table}
use Rattle.reply_grants.specs.declared.replies.Note.{Note}
use Rattle.policy_ready.specs.Users.{user_with_password}
use Rattle.policy_ready.specs.declared.ready.User.{User}
use Rattle.events.specs.Messages.{Message}
use Rattle.events.specs.declared.event.Event.{Event}
use Rattle.events.specs.declared.event.Command.{Command}
use Rattle.events.specs.declared.event.Command.TheVariants.{Connect, Sub, Unsub, Pub, Take, Close, Reload}
use Rattle.events.specs.declared.answer.Addressed.{Addressed}
use Rattle.events.specs.declared.answer.Item.{Item}
use Rattle.events.specs.declared.answer.Item.TheVariants.{Unmapped as UnmappedItem, MappedTooLong}
use Rattle.events.specs.declared.answer.Outcome.{Outcome}
use Rattle.events.specs.declared.answer.Outcome.TheVariants.{Connected, AuthViolation, Subscribed, SameSid, SubLimit, Denied, Unsubscribed, Published, Taken, Closed, Reloaded}
use Rattle.events.specs.declared.refusal.HubRefusal.TheVariants.{SessionLimit}
use Rattle.world_sessions.specs.deliveries.Sessions.{session_of, with_session, new_session, drained}
use Rattle.world_sessions.specs.deliveries.Delivered.{delivered, room_in}
use Rattle.world_sessions.specs.deliveries.Planned.{planned}
use Rattle.world_sessions.specs.deliveries.Replying.{terms_of, note_for}
use Rattle.world_sessions.specs.Renewal.{user_again_of, stays, goes, with_user, renewed, remaining, connection_of, closed_conns, ascending}
use Rattle.world_sessions.specs.declared.deliveries.session.Session.{Session}
use Rattle.world_sessions.proofs.deliveries.Plans.{planned-delivered}
use Rattle.world_subscriptions.specs.Subscriptions.{has_subject, stands, has_all, subscription_of}
use Rattle.world_subscriptions.specs.Addressing.{addressed_to}
use Rattle.world_subscriptions.specs.Limit.{unended, limited}
use Rattle.world_subscriptions.specs.Subscription.{Subscription}
use Rattle.world.specs.World.{World, advanced}
use Rattle.world.specs.Granting.{or_granted, verdict_on, counted_on, ended_on}
use Rattle.service_routes.specs.Routes.{kept, pruned, spent}
use Rattle.service_routes.specs.service_rows.Rows.{renewed as renewed_row}
use Rattle.world.specs.Routing.{may_hear, lets_through, under_subject}
use Rattle.world.specs.Reload.{user_after, verdict_for, may_stand, stands_on, removal, removal_after}
use Rattle.account_mappings.specs.Drawing.{mapped_by}
use Rattle.account_mappings.specs.declared.drawing.Mapped.{Mapped}
use Rattle.account_mappings.specs.declared.drawing.Mapped.TheVariants.{Same, To, Unmapped, TooLong}
use Rattle.world.specs.Transition.{connected, subscribed, published, in_session, in_new_session, moved, numbered, transition, mapped_to, seen_as, seen_nowhere}
use Rattle.hub.specs.Replies.{is_response}
use Rattle.hub.specs.Guarantee.{Sending, sent_to, delivery_of}
use Rattle.world.proofs.Handed.{same_met}
use Rattle.hub.proofs.Finds.{find-map, AllPairs-map}
use Rattle.hub.proofs.Soundness.{IsApart, HasTable, tables-next}
use Rattle.hub.proofs.Deliveries.{receives_of, outboxes, map-twice, map_same_on}
use Rattle.hub_laws.specs.grants.Dropping.{with_live, settled, dropping, AreAlike, MakesNoDifference}
use Rattle.hub_laws.proofs.grants.Sends.{Start, Behind, AreAs, views_of, sessions_behind, world_behind, from, sent-as, send-alike}
use Rattle.hub_laws.proofs.grants.Tables.{live_in, live_later, filter-map, after_same, judged_same, granted_same}

-- ---- what is live later

table_later : (now before : ℕ) (terms : Option Terms) (table : Table) → before ≤ now → live_in now terms (live_in before terms table) ≡ live_in now terms table
table_later now before terms None le = refl
table_later now before terms (Some gs) le = ap (λ xs. Some xs) (live_later now before terms gs le)

later : (now before : ℕ) (zs : List Session) → before ≤ now → map (with_live now) (map (with_live before) zs) ≡ map (with_live now) zs
later now before zs le =
    map-twice (with_live before) (with_live now) (with_live now) zs (λ z. ap (λ (t : Table). record z { replies = t }) (table_later now before (terms_of z) z.replies le))

advance_settled : (w : World) (now : ℕ) → settled (advanced w now) ≡ settled (advanced (settled w) now)
advance_settled w now = ap (λ (zs : List Session). record (advanced w now) { sessions = zs }) (sym (later (max w.moment now) w.moment w.sessions (omega arith)))

-- where the same is live, the same is dropped to
dropping_same : (w v : World) (e : Event) → settled v ≡ settled w → dropping v e ≡ dropping w e
dropping_same w v e same =
    ap (λ (x : World). numbered (v.number + 1) (moved x e.what))
    (advance_settled v e.now ∙ ap (λ (x : World). settled (advanced x e.now)) same ∙ sym (advance_settled w e.now))
    ∙ ap (λ (n : ℕ). numbered (n + 1) (moved (settled (advanced w e.now)) e.what)) (ap (λ (x : World). x.number) same)

-- ---- one command

module _ (now : ℕ) where
  live : Session → Session
  live z = with_live now z

  -- dropped twice is dropped once, whatever else has changed
  twice : (zs : List Session) → map (with_live now) (map (with_live now) zs) ≡ map (with_live now) zs
  twice zs = later now now zs (omega arith)

  at : (conn : ℕ) (zs : List Session) → session_of (map (with_live now) zs) conn ≡ option_map (with_live now) (session_of zs conn)
  at conn zs = find-map (λ (z : Session). z.conn == conn) (with_live now) zs (λ z. refl)

  -- worlds that differ in their sessions, where the same is live
  alike : (w : World) (n : ℕ) (o : Outcome) (xs ys : List Session) (subs : List Subscription) → w.moment ≡ now → map (with_live now) ys ≡ map (with_live now) xs →
      AreAlike (Ok (o, record w { sessions = xs; subscriptions = subs; number = n })) (Ok (o, record w { sessions = ys; subscriptions = subs; number = n }))
  alike w n o xs ys subs is same = (
    refl,
    ap (λ (m : ℕ). record w { sessions = map (with_live m) ys; subscriptions = subs; number = n }) is
        ∙ ap (λ (zs : List Session). record w { sessions = zs; subscriptions = subs; number = n }) same
        ∙ sym (ap (λ (m : ℕ). record w { sessions = map (with_live m) xs; subscriptions = subs; number = n }) is),
  )

  taken_same : (most conn : ℕ) (zs : List Session) → map (with_live now) (with_session (drained most) conn (map (with_live now) zs)) ≡ map (with_live now) (with_session (drained most) conn zs)
  taken_same most conn [] = refl
  taken_same most conn (z ∷ zs) = here (z.conn == conn) (taken_same most conn zs)
    where
      drained-same : with_live now (drained most (with_live now z)) ≡ with_live now (drained most z)
      drained-same = ap (λ (t : Table). record (drained most z) { replies = t }) (table_later now now (terms_of z) z.replies (omega arith))

      itself : with_live now (with_live now z) ≡ with_live now z
      itself = ap (λ (t : Table). record z { replies = t }) (table_later now now (terms_of z) z.replies (omega arith))

      here : (b : Bool) → map (with_live now) (with_session (drained most) conn (map (with_live now) zs)) ≡ map (with_live now) (with_session (drained most) conn zs) →
          map (with_live now) (cond b (drained most (with_live now z) ∷ map (with_live now) zs) (with_live now z ∷ with_session (drained most) conn (map (with_live now) zs)))
          ≡ map (with_live now) (cond b (drained most z ∷ zs) (z ∷ with_session (drained most) conn zs))
      here true rest = ap (λ y. y ∷ map (with_live now) (map (with_live now) zs)) drained-same ∙ ap (λ ys. with_live now (drained most z) ∷ ys) (twice zs)
      here false rest = ap (λ y. y ∷ map (with_live now) (with_session (drained most) conn (map (with_live now) zs))) itself ∙ ap (λ ys. with_live now z ∷ ys) rest

  -- ---- who may be sent a message

  through_same : (s : List Token) (queue : Option (List Token)) (o : Option Session) → lets_through s queue (option_map (with_live now) o) ≡ lets_through s queue o
  through_same s queue None = refl
  through_same s queue (Some z) = refl

  room_same : (o : Option Session) → room_in (option_map (with_live now) o) ≡ room_in o
  room_same None = refl
  room_same (Some z) = refl

  there : (z : Session) → is_some (with_live now z).replies ≡ is_some z.replies
  there z = here z.replies
    where
      here : (t : Table) → is_some (live_in now (terms_of z) t) ≡ is_some t
      here None = refl
      here (Some gs) = refl

  note_same : (reply : Option (List Token)) (o : Option Session) → note_for reply (option_map (with_live now) o) ≡ note_for reply o
  note_same None o = refl
  note_same (Some s) None = refl
  note_same (Some s) (Some z) = ap (λ (b : Bool). option_map (λ (t : Terms). let note : Note = record { subject = s; table = cond b None (Some []) } in note) (terms_of z)) (there z)

-- a message among sessions of which the dead grants were dropped
as_before : (now : ℕ) (by : By) (conn : ℕ) (s : List Token) (w : World) (z : Session) →
    AreAs (record { before = w.sessions; begun = counted_on by conn s w.sessions; world = w }) z (map (with_live now) w.sessions) (counted_on by conn s (map (with_live now) w.sessions)) (with_live now z)
as_before now by conn s w z = record {
  admits = λ v sub.
      ap (λ o. has_subject v.account v.message.subject sub && (may_hear z sub.conn && lets_through v.message.subject sub.queue o)) (at now sub.conn zs)
      ∙ ap (λ b. has_subject v.account v.message.subject sub && (may_hear z sub.conn && b)) (through_same now v.message.subject sub.queue (session_of zs sub.conn));
  sends = λ x.
      ap (λ (note : Option Note). record (addressed_to x.message x.to) { noted = note })
      (ap (note_for x.message.reply) (at now x.to.conn zs) ∙ note_same now x.message.reply (session_of zs x.to.conn));
  meets = λ all.
      same_met by conn s w.moment all ts
      ∙ sym (planned-delivered w.moment all ts)
      ∙ ap (planned all) (λ i c. (ap room_in (at now c zs) ∙ room_same now (session_of zs c)) i)
      ∙ planned-delivered w.moment all zs
      ∙ sym (same_met by conn s w.moment all zs);
}
  where
    zs : List Session
    zs = w.sessions

    ts : List Session
    ts = map (with_live now) w.sessions

-- what the sessions have then
received_same : (now : ℕ) (by : By) (conn : ℕ) (s : List Token) (ss : List Sending) (zs : List Session) → All (HasTable now) zs →
    map (with_live now) (map (receives_of now by conn s ss) (map (with_live now) zs)) ≡ map (with_live now) (map (receives_of now by conn s ss) zs)
received_same now by conn s ss zs kept =
    ap (map (with_live now)) (map-twice (with_live now) get (λ z. get (with_live now z)) zs (λ z. refl))
    ∙ map-twice (λ z. get (with_live now z)) (with_live now) (λ z. with_live now (get (with_live now z))) zs (λ z. refl)
    ∙ map_same_on (λ z. with_live now (get (with_live now z))) (λ z. with_live now (get z)) zs (λ k d h. one (get_or zs k d) (kept k d h))
    ∙ sym (map-twice get (with_live now) (λ z. with_live now (get z)) zs (λ z. refl))
  where
    get : Session → Session
    get = receives_of now by conn s ss

    one : (z : Session) → HasTable now z → with_live now (get (with_live now z)) ≡ with_live now (get z)
    one z is =
        ap (λ (t : Table). record (receives_of now by conn s ss z) { replies = t })
        (sym (after_same now (is_response by conn z) s (take (room_in (Some z)) (map delivery_of (sent_to z.conn ss))) (terms_of z) z.replies is))

-- ---- each command

-- the world once the clock has gone on, and the same with what is live alone
module _ (w : World) (moment : ℕ) where
  abbrev whole : World
  whole = advanced w moment

  abbrev left : World
  left = settled whole

  abbrev zs : List Session
  zs = w.sessions

  abbrev ts : List Session
  ts = map (with_live (max w.moment moment)) w.sessions

  abbrev n : ℕ
  n = w.number + 1

  still : map (with_live (max w.moment moment)) ts ≡ map (with_live (max w.moment moment)) zs
  still = twice (max w.moment moment) zs

  -- nothing but what is told, and subscriptions
  told : (o : Outcome) (subs : List Subscription) → AreAlike (Ok (o, record whole { subscriptions = subs; number = n })) (Ok (o, record left { subscriptions = subs; number = n }))
  told o subs = alike (max w.moment moment) whole n o zs ts subs refl still

  connect : (conn : ℕ) (user : Option (List ℕ)) (password : List ℕ) (echo : Bool) →
      AreAlike (numbered n (moved whole (Connect conn user password echo))) (numbered n (moved left (Connect conn user password echo)))
  connect conn user password echo =
      subst (λ o. AreAlike (numbered n (in_new_session whole (session_of zs conn) (connected whole conn echo uo))) (numbered n (in_new_session left o (connected left conn echo uo)))) (sym (at (max w.moment moment) conn zs))
      (by_session (session_of zs conn))
    where
      uo : Option User
      uo = user_with_password w.policy user password

      by_user : (u : Option User) → AreAlike (numbered n (Ok (connected whole conn echo u))) (numbered n (Ok (connected left conn echo u)))
      by_user None = told AuthViolation w.subscriptions
      by_user (Some u) =
          alike (max w.moment moment) whole n Connected (zs ++ new_session conn u echo w.capacity ∷ []) (ts ++ new_session conn u echo w.capacity ∷ []) w.subscriptions refl
          (map-append (with_live (max w.moment moment)) ts (new_session conn u echo w.capacity ∷ [])
          ∙ ap (λ ys. ys ++ new_session conn u echo w.capacity ∷ []) still
          ∙ sym (map-append (with_live (max w.moment moment)) zs (new_session conn u echo w.capacity ∷ [])))

      by_limit : (b : Bool) → AreAlike (numbered n (cond b (Err SessionLimit) (Ok (connected whole conn echo uo)))) (numbered n (cond b (Err SessionLimit) (Ok (connected left conn echo uo))))
      by_limit true = refl
      by_limit false = by_user uo

      by_session : (o : Option Session) → AreAlike (numbered n (in_new_session whole o (connected whole conn echo uo))) (numbered n (in_new_session left (option_map (with_live (max w.moment moment)) o) (connected left conn echo uo)))
      by_session (Some z) = refl
      by_session None =
          subst (λ (k : ℕ). AreAlike (numbered n (in_new_session whole None (connected whole conn echo uo))) (numbered n (cond (nat_le 4096 k) (Err SessionLimit) (Ok (connected left conn echo uo)))))
          (sym (length-map zs (with_live (max w.moment moment)))) (by_limit (nat_le 4096 (length zs)))

  -- a command of a connection with a session
  in_session-same : (conn : ℕ) (f g : Session → Outcome × World) → ((z : Session) → session_of zs conn ≡ Some z → AreAlike (numbered n (Ok (f z))) (numbered n (Ok (g (with_live (max w.moment moment) z))))) →
      AreAlike (numbered n (in_session (session_of zs conn) f)) (numbered n (in_session (session_of ts conn) g))
  in_session-same conn f g each =
      subst (λ o. AreAlike (numbered n (in_session (session_of zs conn) f)) (numbered n (in_session o g))) (sym (at (max w.moment moment) conn zs)) (by_session (session_of zs conn) refl)
    where
      by_session : (o : Option Session) → session_of zs conn ≡ o → AreAlike (numbered n (in_session o f)) (numbered n (in_session (option_map (with_live (max w.moment moment)) o) g))
      by_session None e = refl
      by_session (Some z) e = each z e

  sub : (conn : ℕ) (p : List Token) (queue : Option (List Token)) (sid : List ℕ) →
      AreAlike (numbered n (moved whole (Sub conn p queue sid))) (numbered n (moved left (Sub conn p queue sid)))
  sub conn p queue sid = in_session-same conn _ _ (λ z e. by_verdict z.user.account (subscribe_verdict z.user.rules p queue))
    where
      by_limit : (account : List ℕ) (b : Bool) →
          AreAlike (numbered n (Ok (cond b (SubLimit, whole) (Subscribed, record whole { subscriptions = w.subscriptions ++ subscription_of (w.number + 1) conn account p queue sid ∷ [] }))))
          (numbered n (Ok (cond b (SubLimit, left) (Subscribed, record left { subscriptions = w.subscriptions ++ subscription_of (w.number + 1) conn account p queue sid ∷ [] }))))
      by_limit account true = told SubLimit w.subscriptions
      by_limit account false = told Subscribed (w.subscriptions ++ subscription_of (w.number + 1) conn account p queue sid ∷ [])

      by_sid : (account : List ℕ) (a b : Bool) →
          AreAlike (numbered n (Ok (cond a (SameSid, whole) (cond b (SubLimit, whole) (Subscribed, record whole { subscriptions = w.subscriptions ++ subscription_of (w.number + 1) conn account p queue sid ∷ [] })))))
          (numbered n (Ok (cond a (SameSid, left) (cond b (SubLimit, left) (Subscribed, record left { subscriptions = w.subscriptions ++ subscription_of (w.number + 1) conn account p queue sid ∷ [] })))))
      by_sid account true b = told SameSid w.subscriptions
      by_sid account false b = by_limit account b

      by_verdict : (account : List ℕ) (v : Verdict) → AreAlike (numbered n (Ok (subscribed whole conn account p queue sid v))) (numbered n (Ok (subscribed left conn account p queue sid v)))
      by_verdict account (Allowed by) = by_sid account (stands w.subscriptions conn sid) (has_all w.subscriptions conn)
      by_verdict account (DeniedBy i) = told (Denied (DeniedBy i)) w.subscriptions
      by_verdict account NoAllow = told (Denied NoAllow) w.subscriptions
      by_verdict account (NoQueueAllow i) = told (Denied (NoQueueAllow i)) w.subscriptions

  unsub : (conn : ℕ) (sid : List ℕ) (most : Option ℕ) → AreAlike (numbered n (moved whole (Unsub conn sid most))) (numbered n (moved left (Unsub conn sid most)))
  unsub conn sid most = in_session-same conn _ _ (λ z e. told Unsubscribed (unended (map (limited conn sid most) w.subscriptions)))

  take-same : (conn most : ℕ) → AreAlike (numbered n (moved whole (Take conn most))) (numbered n (moved left (Take conn most)))
  take-same conn most =
      in_session-same conn _ _ (λ z e. alike (max w.moment moment) whole n (Taken (take most z.outbox.waiting) z.missed)
      (with_session (drained most) conn zs) (with_session (drained most) conn ts) w.subscriptions refl (taken_same (max w.moment moment) most conn zs))

  close : (conn : ℕ) → AreAlike (numbered n (moved whole (Close conn))) (numbered n (moved left (Close conn)))
  close conn =
      in_session-same conn _ _ (λ z e. alike (max w.moment moment) whole n Closed (filter other zs) (filter other ts) (filter (λ (s : Subscription). not (s.conn == conn)) w.subscriptions) refl
      (ap (map (with_live (max w.moment moment))) (filter-map other (with_live (max w.moment moment)) zs (λ z. refl)) ∙ twice (max w.moment moment) (filter other zs)))
    where
      other : Session → Bool
      other z = not (z.conn == conn)

  publish : (conn : ℕ) (m : Message) (word : ℕ) → AllPairs IsApart zs → All (HasTable (max w.moment moment)) zs → AreAlike (numbered n (moved whole (Pub conn m word))) (numbered n (moved left (Pub conn m word)))
  publish conn m word connections tables =
      in_session-same conn _ _ (λ z e.
      subst (λ (b : Bool). AreAlike (numbered n (Ok (published whole z m word (verdict_on (max w.moment moment) z m.subject)))) (numbered n (Ok (published left (with_live (max w.moment moment) z) m word (or_granted b (publish_verdict z.user.rules m.subject))))))
      (sym (granted_same m.subject (max w.moment moment) (terms_of z) z.replies))
      (by_verdict z (verdict_on (max w.moment moment) z m.subject)))
    where
      apart : AllPairs IsApart ts
      apart = AllPairs-map IsApart (with_live (max w.moment moment)) zs (λ y z ne e. ne e) connections

      sends : (z : Session) (by : By) (sent : Message) →
          AreAlike (numbered n (Ok (seen_as whole z by m.subject sent word))) (numbered n (Ok (seen_as left (with_live (max w.moment moment) z) by m.subject sent word)))
      sends z by sent =
          let M : ℕ = max w.moment moment in
          let begin : Start = record { before = zs; begun = counted_on by z.conn m.subject zs; world = whole } in
          let us : List Session = counted_on by z.conn m.subject ts in
          let same = as_before M by z.conn m.subject whole z in
          let first : Behind = record { done = []; subs = w.subscriptions; routes = whole.routes } in
          let of = send-alike begin z ts us (with_live M z) same sent word first (views_of whole z sent) in
          let items : List Item = of.items in
          let ss : List Sending = of.last.done in
          let xs : List Session = ended_on by z.conn m.subject (sessions_behind begin ss) in
          let ys : List Session = ended_on by z.conn m.subject (sessions_behind (from begin us) ss) in
          let finished : List Item × World → Outcome × World = λ r. (Published by r.0, record r.1 { sessions = ended_on by z.conn m.subject r.1.sessions; routes = spent z.user.account sent.subject r.1.routes }) in
          let xs_is : xs ≡ map (receives_of M by z.conn m.subject ss) zs = outboxes M z.conn m.subject ss zs by connections in
          let ys_is : ys ≡ map (receives_of M by z.conn m.subject ss) ts =
          ap (λ (all : List Addressed). ended_on by z.conn m.subject (delivered M all us).0) (sym (sent-as begin z ts us (with_live M z) same ss))
          ∙ outboxes M z.conn m.subject ss ts by apart in
          let same_sessions : map (with_live M) ys ≡ map (with_live M) xs =
          ap (map (with_live M)) ys_is ∙ received_same M by z.conn m.subject ss zs tables ∙ sym (ap (map (with_live M)) xs_is) in
          subst (λ (r : Outcome × World). AreAlike (numbered n (Ok r)) (numbered n (Ok (seen_as left (with_live M z) by m.subject sent word)))) (sym (ap finished of.is))
          (subst (λ (r : Outcome × World). AreAlike (numbered n (Ok (finished (items, world_behind begin of.last)))) (numbered n (Ok r))) (sym (ap finished of.also))
          (alike M (record whole { routes = spent z.user.account sent.subject of.last.routes }) n (Published by items) xs ys of.last.subs refl same_sessions))

      nowhere : (z : Session) (by : By) (item : Item) →
          AreAlike (numbered n (Ok (seen_nowhere whole z by m.subject item))) (numbered n (Ok (seen_nowhere left (with_live (max w.moment moment) z) by m.subject item)))
      nowhere z by item =
          let M : ℕ = max w.moment moment in
          let xs : List Session = ended_on by z.conn m.subject (counted_on by z.conn m.subject zs) in
          let ys : List Session = ended_on by z.conn m.subject (counted_on by z.conn m.subject ts) in
          let xs_is : xs ≡ map (receives_of M by z.conn m.subject []) zs = outboxes M z.conn m.subject [] zs by connections in
          let ys_is : ys ≡ map (receives_of M by z.conn m.subject []) ts = outboxes M z.conn m.subject [] ts by apart in
          let same_sessions : map (with_live M) ys ≡ map (with_live M) xs =
          ap (map (with_live M)) ys_is ∙ received_same M by z.conn m.subject [] zs tables ∙ sym (ap (map (with_live M)) xs_is) in
          alike M whole n (Published by (item ∷ [])) xs ys w.subscriptions refl same_sessions

      by_mapping : (z : Session) (by : By) (mapped : Mapped) →
          AreAlike (numbered n (Ok (mapped_to whole z by m word mapped))) (numbered n (Ok (mapped_to left (with_live (max w.moment moment) z) by m word mapped)))
      by_mapping z by Same = sends z by m
      by_mapping z by (To s) = sends z by (under_subject s m)
      by_mapping z by Unmapped = nowhere z by UnmappedItem
      by_mapping z by (TooLong index) = nowhere z by (MappedTooLong index)

      by_verdict : (z : Session) (v : Verdict) → AreAlike (numbered n (Ok (published whole z m word v))) (numbered n (Ok (published left (with_live (max w.moment moment) z) m word v)))
      by_verdict z (Allowed by) = by_mapping z by (mapped_by z.user.mappings m.subject word)
      by_verdict z (DeniedBy i) = told (Denied (DeniedBy i)) w.subscriptions
      by_verdict z NoAllow = told (Denied NoAllow) w.subscriptions
      by_verdict z (NoQueueAllow i) = told (Denied (NoQueueAllow i)) w.subscriptions

  -- ---- a reload

  after_same-user : (doc : PolicyDoc) (o : Option Session) → user_after doc (option_map (with_live (max w.moment moment)) o) ≡ user_after doc o
  after_same-user doc None = refl
  after_same-user doc (Some z) = refl

  user-same : (doc : PolicyDoc) (sub : Subscription) → user_after doc (session_of ts sub.conn) ≡ user_after doc (session_of zs sub.conn)
  user-same doc sub = ap (user_after doc) (at (max w.moment moment) sub.conn zs) ∙ after_same-user doc (session_of zs sub.conn)

  renewed-same : (doc : PolicyDoc) (z : Session) →
      with_live (max w.moment moment) (renewed (max w.moment moment) doc (with_live (max w.moment moment) z)) ≡ with_live (max w.moment moment) (renewed (max w.moment moment) doc z)
  renewed-same doc z = here (user_again_of doc z)
    where
      here : (o : Option User) → with_live (max w.moment moment) (with_user (max w.moment moment) (with_live (max w.moment moment) z) o) ≡ with_live (max w.moment moment) (with_user (max w.moment moment) z o)
      here None = ap (λ (t : Table). record z { replies = t }) (table_later (max w.moment moment) (max w.moment moment) (terms_of z) z.replies (omega arith))
      here (Some u) =
          ap (λ (t : Table). record z { user = u; replies = live_in (max w.moment moment) u.rules.allow_responses t }) (judged_same (max w.moment moment) (terms_of z) u.rules.allow_responses z.replies)

  reload : (doc : PolicyDoc) → AreAlike (numbered n (moved whole (Reload doc))) (numbered n (moved left (Reload doc)))
  reload doc =
      let M : ℕ = max w.moment moment in
      let gone : closed_conns doc ts ≡ closed_conns doc zs =
      ap (λ ys. ascending (map connection_of ys)) (filter-map (goes doc) (with_live M) zs (λ z. refl))
      ∙ ap ascending (map-twice (with_live M) connection_of connection_of (filter (goes doc) zs) (λ z. refl)) in
      let lost : filter_map (removal_after doc ts) w.subscriptions ≡ filter_map (removal_after doc zs) w.subscriptions =
      ap (λ h. filter_map h w.subscriptions) (λ i sub. removal sub (verdict_for (user-same doc sub i) sub)) in
      let stand : filter (stands_on doc ts) w.subscriptions ≡ filter (stands_on doc zs) w.subscriptions =
      ap (λ h. filter h w.subscriptions) (λ i sub. may_stand (verdict_for (user-same doc sub i) sub)) in
      let stay : map (with_live M) (remaining M doc ts) ≡ map (with_live M) (remaining M doc zs) =
      ap (λ ys. map (with_live M) (map (renewed M doc) ys)) (filter-map (stays doc) (with_live M) zs (λ z. refl))
      ∙ ap (map (with_live M)) (map-twice (with_live M) (renewed M doc) (λ z. renewed M doc (with_live M z)) (filter (stays doc) zs) (λ z. refl))
      ∙ map-twice (λ z. renewed M doc (with_live M z)) (with_live M) (λ z. with_live M (renewed M doc z)) (filter (stays doc) zs) (renewed-same doc)
      ∙ sym (map-twice (renewed M doc) (with_live M) (λ z. with_live M (renewed M doc z)) (filter (stays doc) zs) (λ z. refl)) in (
        sym (λ i. Reloaded (gone i) (lost i)),
        (λ i. record whole { policy = doc; epoch = w.epoch + 1; sessions = stay i; subscriptions = stand i; routes = pruned M (kept (renewed_row w.policy doc) whole.routes); number = n }),
      )

  each : (c : Command) → AllPairs IsApart zs → All (HasTable (max w.moment moment)) zs → AreAlike (numbered n (moved whole c)) (numbered n (moved left c))
  each (Connect conn user password echo) connections tables = connect conn user password echo
  each (Sub conn p queue sid) connections tables = sub conn p queue sid
  each (Unsub conn sid most) connections tables = unsub conn sid most
  each (Pub conn m word) connections tables = publish conn m word connections tables
  each (Take conn most) connections tables = take-same conn most
  each (Close conn) connections tables = close conn
  each (Reload doc) connections tables = reload doc

-- wherever each connection has one session, and grants are as they always are
pub alike_at : (w v : World) (e : Event) → AllPairs IsApart w.sessions → All (HasTable (max w.moment e.now)) w.sessions → settled v ≡ settled w → AreAlike (transition w e) (dropping v e)
alike_at w v e connections tables same = subst (AreAlike (transition w e)) (sym (dropping_same w v e same)) (each w e.now e.what connections tables)

pub no_difference : MakesNoDifference
no_difference w v e sound same = alike_at w v e sound.connections (tables-next w e.now sound) same
