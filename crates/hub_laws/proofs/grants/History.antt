-- In every legal run from an opening each grant was noted at the last request on its subject, whatever is sent in the views of
-- a message.
use Rattle.std.proofs.Common.{◌≡◌, ◌∙◌, ◌==◌, ◌&&◌, ◌||◌, ℕ, ◌+◌, ◌≤◌, suc, zero, Bool, true, false, true≢false, not, cond, List, [], ◌∷◌, ◌++◌, map, filter, length, take, drop, get_or, Option, Some, None, Result, Ok, Err, ap, sym, refl, subst, arith, max}
use Rattle.std.specs.Prelude.{All, AllPairs, IfSome, nat_le}
use Rattle.std.specs.List.{list_any, filter_map}
use Rattle.std.specs.Option.{option_map}
use Rattle.std.proofs.lemmas.Bool.{eqb-true, eqb-false, ne_eqb}
use Rattle.std.proofs.lemmas.List.{append_assoc, append-nil, length-drop}
use Rattle.std.proofs.lemmas.List.Elements.{All-nil, All-cons, All-push, All-map, All-filter, All-head, All-tail, filter_passes}
use Rattle.std.proofs.lemmas.List.Kept.{AllPairs-filter}
use Rattle.std.proofs.lemmas.List.Quantifiers.{all_pairs_push}
use Rattle.subjects.specs.Subject.{Token}
use Rattle.subjects.specs.Equal.{same_subject}
use Rattle.policy_doc.specs.declared.document.PolicyDoc.{PolicyDoc}
use Rattle.policy_doc.specs.declared.permission_doc.document.Terms.{Terms}
use Rattle.permissions.specs.Verdicts.{subscribe_verdict}
use Rattle.permissions.specs.declared.verdict.By.{By}
use Rattle.permissions.specs.declared.verdict.Verdict.{Verdict}
use Rattle.permissions.specs.declared.verdict.Verdict.TheVariants.{Allowed, DeniedBy, NoAllow, NoQueueAllow}
use Rattle.reply_grants.specs.Replies.{Table, grants_of}
use Rattle.policy_ready.specs.Users.{user_with_password}
use Rattle.policy_ready.specs.declared.ready.User.{User}
use Rattle.events.specs.Messages.{Message}
use Rattle.events.specs.declared.event.Command.{Command}
use Rattle.events.specs.declared.event.Command.TheVariants.{Connect, Sub, Unsub, Pub, Take, Close, Reload}
use Rattle.events.specs.declared.answer.Entry.{Entry}
use Rattle.events.specs.declared.answer.Item.{Item}
use Rattle.events.specs.declared.answer.Delivery.{Delivery}
use Rattle.events.specs.declared.answer.Outcome.{Outcome}
use Rattle.events.specs.declared.answer.Outcome.TheVariants.{Connected, AuthViolation, Subscribed, SameSid, SubLimit, Denied, Unsubscribed, Published, Taken, Closed, Reloaded}
use Rattle.events.specs.declared.refusal.HubRefusal.{HubRefusal}
use Rattle.events.specs.declared.refusal.HubRefusal.TheVariants.{SessionLimit}
use Rattle.policy_ready.specs.declared.imports.view.ViewItem.{ViewItem}
use Rattle.policy_ready.specs.declared.imports.view.ViewItem.TheVariants.{At, TooLong}
use Rattle.policy_ready.specs.declared.imports.view.Way.TheVariants.{Own, Stream, Service, Response}
use Rattle.service_exporter.specs.Routes.{Exporter}
use Rattle.service_routes.specs.Routes.{Name, kept, pruned}
use Rattle.service_routes.specs.service_rows.Rows.{renewed as renewed_row}
use Rattle.world_sessions.specs.deliveries.Sessions.{session_of, new_session, drained}
use Rattle.world_sessions.specs.Renewal.{user_again_of, stays, goes, with_user, renewed, remaining, connection_of, closed_conns}
use Rattle.world_sessions.specs.declared.deliveries.session.Session.{Session}
use Rattle.world_sessions.proofs.Ascending.{among-ascending}
use Rattle.world_sessions.proofs.deliveries.Changes.{only, apart-map, with_session-map}
use Rattle.world_subscriptions.specs.Subscriptions.{stands, has_all, subscription_of}
use Rattle.world_subscriptions.specs.Limit.{unended, limited}
use Rattle.world_subscriptions.specs.Subscription.{Subscription}
use Rattle.world.specs.World.{World, opening_world, advanced}
use Rattle.world.specs.Granting.{verdict_on, counted_on}
use Rattle.world.specs.Reload.{removal_after, stands_on}
use Rattle.account_mappings.specs.Drawing.{mapped_by}
use Rattle.world.specs.Transition.{transition, sent_on, connected, subscribed, unsubscribed, published, taken, closed, in_session, in_new_session, moved, numbered, entry_with}
use Rattle.hub.specs.History.{IsEntry, IsLegalRun}
use Rattle.hub.specs.Guarantee.{Sending, sent_to, delivery_of, room_in}
use Rattle.hub.specs.Kept.{IsKeptTable}
use Rattle.hub.specs.Replies.{is_by_grant, is_response as is_counted}
use Rattle.hub.proofs.Finds.{find-passes, find-none, find-map, find-All, AllPairs-head, AllPairs-tail}
use Rattle.hub.proofs.Grants.{not-false, kept_none, kept_later, kept_after, kept_judged}
use Rattle.hub.proofs.Soundness.{next, next_with, IsApart, HasTable}
use Rattle.hub.proofs.Deliveries.{found, receives_of}
use Rattle.hub_laws.specs.grants.Dropping.{world_after}
use Rattle.hub_laws.specs.grants.Noted.{Step, step_of, steps_of, asks_on, waiting_in, entered_between, is_request, is_publish, responds_by, ends_for, latest, IsNoted, AreNoted, RequestsArePublished}
use Rattle.hub_laws.proofs.grants.Noted.{latest-more, after-publish, after-other, after-judged}
use Rattle.hub_laws.proofs.grants.Sends.{Start, IsOf, IsOfRequest, publishes, AreOf}

-- ---- what a step brings into outboxes

drop-all : {X : Type 0} (n : ℕ) (xs : List X) → length xs ≤ n → drop n xs ≡ []
drop-all zero [] all = refl
drop-all (suc n) [] all = refl
drop-all zero (x ∷ xs) all = absurd (omega (arith, all))
drop-all (suc n) (x ∷ xs) all = drop-all n xs (omega (arith, all))

drop-front : {X : Type 0} (xs ys : List X) → drop (length xs) (xs ++ ys) ≡ ys
drop-front [] [] = refl
drop-front [] (y ∷ ys) = refl
drop-front (x ∷ xs) ys = drop-front xs ys

take-zero : {X : Type 0} (xs : List X) → [] ≡ take 0 xs
take-zero [] = refl
take-zero (x ∷ xs) = refl

-- no more waits for a session than waited before for its connection
abbrev pub IsQuiet : List Session → Session → Type 0
IsQuiet before z = length z.outbox.waiting ≤ length (waiting_in (session_of before z.conn))

pub quiet-same : (zs : List Session) → AllPairs IsApart zs → All (IsQuiet zs) zs
quiet-same zs apart k d h =
    let z : Session = get_or zs k d in
    subst (λ o. length z.outbox.waiting ≤ length (waiting_in o)) (sym (found zs apart k d h)) (omega arith)

-- then nothing has entered
pub none-entered : (before after : List Session) → All (IsQuiet before) after → (conn : ℕ) (s : List Token) → list_any (asks_on s) (entered_between conn before after) ≡ false
none-entered before after quiet conn s = here (session_of after conn) refl
  where
    here : (o : Option Session) → session_of after conn ≡ o → list_any (asks_on s) (drop (length (waiting_in (session_of before conn))) (waiting_in o)) ≡ false
    here None e = ap (list_any (asks_on s)) (drop-all (length (waiting_in (session_of before conn))) [] (omega arith))
    here (Some z) e =
        ap (list_any (asks_on s)) (drop-all (length (waiting_in (session_of before conn))) z.outbox.waiting
        (subst (λ n. length z.outbox.waiting ≤ length (waiting_in (session_of before n))) (eqb-true z.conn conn (find-passes (λ (y : Session). y.conn == conn) after z e))
        (find-All (IsQuiet before) (λ (y : Session). y.conn == conn) after z quiet e)))

-- of a message those deliveries have entered for a connection for which there was room
pub entered-is : (now : ℕ) (by : By) (sender : ℕ) (s : List Token) (ss : List Sending) (zs : List Session) (to : ℕ) →
    entered_between to zs (map (receives_of now by sender s ss) zs) ≡ take (room_in (session_of zs to)) (map delivery_of (sent_to to ss))
entered-is now by sender s ss zs to =
    ap (λ o. drop (length (waiting_in (session_of zs to))) (waiting_in o)) (find-map (λ (y : Session). y.conn == to) get zs (λ z. refl))
    ∙ here (session_of zs to) refl
  where
    get : Session → Session
    get = receives_of now by sender s ss

    here : (o : Option Session) → session_of zs to ≡ o → drop (length (waiting_in o)) (waiting_in (option_map get o)) ≡ take (room_in o) (map delivery_of (sent_to to ss))
    here None e = take-zero (map delivery_of (sent_to to ss))
    here (Some z) e =
        drop-front z.outbox.waiting (take (room_in (Some z)) (map delivery_of (sent_to z.conn ss)))
        ∙ ap (λ n. take (room_in (Some z)) (map delivery_of (sent_to n ss))) (eqb-true z.conn to (find-passes (λ (y : Session). y.conn == to) zs z e))

-- ---- the connections that a reload reports gone

none-among : (y : Session) (p : Session → Bool) (zs : List Session) → All (IsApart y) zs → list_any (λ (n : ℕ). n == y.conn) (map connection_of (filter p zs)) ≡ false
none-among y p [] apart = refl
none-among y p (z ∷ zs) apart =
    here (p z) (All-head (IsApart y) z zs apart) (none-among y p zs (All-tail (IsApart y) z zs apart))
  where
    here : (b : Bool) → IsApart y z → list_any (λ (n : ℕ). n == y.conn) (map connection_of (filter p zs)) ≡ false →
        list_any (λ (n : ℕ). n == y.conn) (map connection_of (cond b (z ∷ filter p zs) (filter p zs))) ≡ false
    here true other rest = ap (λ b. b || list_any (λ (n : ℕ). n == y.conn) (map connection_of (filter p zs))) (ne_eqb z.conn y.conn (λ e. other (sym e))) ∙ rest
    here false other rest = rest

-- none that fails the test is among those that pass it
abbrev IsNoneOf : (Session → Bool) → List Session → Session → Type 0
IsNoneOf p zs z = p z ≡ false → list_any (λ (n : ℕ). n == z.conn) (map connection_of (filter p zs)) ≡ false

not-gone : (p : Session → Bool) (zs : List Session) → AllPairs IsApart zs → All (IsNoneOf p zs) zs
not-gone p [] apart = All-nil (IsNoneOf p [])
not-gone p (y ∷ zs) apart =
    All-cons (IsNoneOf p (y ∷ zs)) y zs first
    (λ k d h. rest (get_or zs k d) (p y) (AllPairs-head IsApart y zs apart k d h) (not-gone p zs (AllPairs-tail IsApart y zs apart) k d h))
  where
    first : IsNoneOf p (y ∷ zs) y
    first fails = ap (λ b. list_any (λ (n : ℕ). n == y.conn) (map connection_of (cond b (y ∷ filter p zs) (filter p zs)))) fails ∙ none-among y p zs (AllPairs-head IsApart y zs apart)

    rest : (z : Session) (b : Bool) → IsApart y z → IsNoneOf p zs z → p z ≡ false → list_any (λ (n : ℕ). n == z.conn) (map connection_of (cond b (y ∷ filter p zs) (filter p zs))) ≡ false
    rest z true other later fails = ap (λ b. b || list_any (λ (n : ℕ). n == z.conn) (map connection_of (filter p zs))) (ne_eqb y.conn z.conn other) ∙ later fails
    rest z false other later fails = later fails

-- ---- the sessions after a step

abbrev pub HasNoted : List Step → Session → Type 0
HasNoted steps z = All (IsNoted steps z.conn) (grants_of z.replies)

-- What steps tell of the sessions and the clock, and what always holds of them.
pub record Told (steps : List Step) (moment : ℕ) (zs : List Session) : Type 0 where
  pub clock : moment ≡ latest steps
  pub apart : AllPairs IsApart zs
  pub tables : All (HasTable moment) zs
  pub noted : All (HasNoted steps) zs

-- the entry of an event
abbrev pub told : ℕ → ℕ → ℕ → Command → Outcome → Entry
told number epoch now c o = entry_with number epoch o (record { now = now; what = c })

-- a step that is nothing to the grants of a session
record IsSilent (c : Command) (o : Outcome) (before : List Session) (z : Session) : Type 0 where
  pub lasts : ends_for z.conn c o ≡ false
  pub answer : (s : List Token) → responds_by z.conn s c o ≡ false
  pub quiet : IsQuiet before z

-- without terms there is no table
bare : (now : ℕ) (terms : Option Terms) (table : Table) → IsKeptTable now terms table → terms ≡ None → table ≡ None
bare now None table is none = is
bare now (Some terms) table is none = absurd (cc)

module _ (steps : List Step) (w : World) (now : ℕ) (t : Told steps w.moment w.sessions) where
  -- the steps with that of an answered event, which leaves this world
  abbrev with_step : ℕ → ℕ → Command → Outcome → World → List Step
  with_step number epoch c o v = steps ++ step_of w (told number epoch now c o) v ∷ []

  -- the world that an answered event leaves is told, with its step; and only a publish brings deliveries
  abbrev Leaves : Command → Outcome → World → Type 0
  Leaves c o v = ((number epoch : ℕ) → Told (with_step number epoch c o v) v.moment v.sessions) × (is_publish c ≡ false → All (IsQuiet w.sessions) v.sessions)

  abbrev pub Keeps : Command → Result (Outcome × World) HubRefusal → Type 0
  Keeps c (Err refusal) = Unit {0}
  Keeps c (Ok r) = Leaves c r.0 r.1

  pub clock_is : (a : Step) → a.entry.event.now ≡ now → max w.moment now ≡ latest (steps ++ a ∷ [])
  clock_is a is = omega (arith, is, t.clock, latest-more steps a)

  pub tables_are : All (HasTable (max w.moment now)) w.sessions
  tables_are k d h =
      let z = get_or w.sessions k d in
      kept_later w.moment (max w.moment now) z.user.rules.allow_responses z.replies (omega arith) (t.tables k d h)

  leaves : (c : Command) (o : Outcome) (v : World) → v.moment ≡ max w.moment now → AllPairs IsApart v.sessions → All (HasTable (max w.moment now)) v.sessions → All (HasNoted steps) v.sessions → All (IsSilent c o w.sessions) v.sessions → Leaves c o v
  leaves c o v clock apart tables noted silent = (
    (λ number epoch. let a : Step = step_of w (told number epoch now c o) v in record {
      clock = clock ∙ clock_is a refl;
      apart = apart;
      tables = subst (λ n. All (HasTable n) v.sessions) (sym clock) tables;
      noted = λ k d h.
          let is = silent k d h in
          after-other steps a (get_or v.sessions k d).conn is.lasts (get_or v.sessions k d).replies is.answer (none-entered w.sessions v.sessions quiet (get_or v.sessions k d).conn) (noted k d h);
    }),
    (λ _. quiet),
  )
    where
      quiet : All (IsQuiet w.sessions) v.sessions
      quiet k d h = (silent k d h).quiet

  -- the sessions stay
  same : (c : Command) (o : Outcome) (subs : List Subscription) → ((conn : ℕ) → ends_for conn c o ≡ false) → ((conn : ℕ) (s : List Token) → responds_by conn s c o ≡ false) → Leaves c o (next w now w.sessions subs)
  same c o subs lasts answer =
      leaves c o (next w now w.sessions subs) refl t.apart tables_are t.noted (λ k d h.
      let z : Session = get_or w.sessions k d in
      record { lasts = lasts z.conn; answer = answer z.conn; quiet = quiet-same w.sessions t.apart k d h })

  connect : (conn : ℕ) (name : Option (List ℕ)) (password : List ℕ) (echo : Bool) →
      Keeps (Connect conn name password echo) (numbered (w.number + 1) (moved (advanced w now) (Connect conn name password echo)))
  connect conn name password echo = by_session (session_of w.sessions conn) refl
    where
      c : Command
      c = Connect conn name password echo

      opens : (user : User) → session_of w.sessions conn ≡ None → Leaves c Connected (next w now (w.sessions ++ new_session conn user echo w.capacity ∷ []) w.subscriptions)
      opens user none =
          let new : Session = new_session conn user echo w.capacity in
          let others = find-none (λ (z : Session). z.conn == conn) w.sessions none in
          leaves c Connected (next w now (w.sessions ++ new ∷ []) w.subscriptions) refl
          (all_pairs_push IsApart w.sessions new t.apart (λ k d h. eqb-false (get_or w.sessions k d).conn conn (others k d h)))
          (All-push (HasTable (max w.moment now)) w.sessions new tables_are (kept_none (max w.moment now) user.rules.allow_responses))
          (All-push (HasNoted steps) w.sessions new t.noted (All-nil (IsNoted steps conn)))
          (All-push (IsSilent c Connected w.sessions) w.sessions new
          (λ k d h. record { lasts = refl; answer = λ s. refl; quiet = quiet-same w.sessions t.apart k d h })
          (record { lasts = refl; answer = λ s. refl; quiet = omega arith }))

      by_user : (uo : Option User) → session_of w.sessions conn ≡ None → Keeps c (numbered (w.number + 1) (Ok (connected (advanced w now) conn echo uo)))
      by_user None none = same c AuthViolation w.subscriptions (λ n. refl) (λ n s. refl)
      by_user (Some user) none = opens user none

      by_limit : (l : Bool) → session_of w.sessions conn ≡ None → Keeps c (numbered (w.number + 1) (cond l (Err SessionLimit) (Ok (connected (advanced w now) conn echo (user_with_password w.policy name password)))))
      by_limit true none = tt
      by_limit false none = by_user (user_with_password w.policy name password) none

      by_session : (o : Option Session) → session_of w.sessions conn ≡ o → Keeps c (numbered (w.number + 1) (in_new_session (advanced w now) o (connected (advanced w now) conn echo (user_with_password w.policy name password))))
      by_session (Some z) none = tt
      by_session None none = by_limit (nat_le 4096 (length w.sessions)) none

  sub : (conn : ℕ) (p : List Token) (queue : Option (List Token)) (sid : List ℕ) →
      Keeps (Sub conn p queue sid) (numbered (w.number + 1) (moved (advanced w now) (Sub conn p queue sid)))
  sub conn p queue sid = by_session (session_of w.sessions conn)
    where
      c : Command
      c = Sub conn p queue sid

      silent : (o : Outcome) (subs : List Subscription) → Leaves c o (next w now w.sessions subs)
      silent o subs = same c o subs (λ n. refl) (λ n s. refl)

      by_limit : (b : Bool) (account : List ℕ) →
          Keeps c (numbered (w.number + 1) (Ok (cond b (SubLimit, advanced w now) (Subscribed, record (advanced w now) { subscriptions = w.subscriptions ++ subscription_of (w.number + 1) conn account p queue sid ∷ [] }))))
      by_limit true account = silent SubLimit w.subscriptions
      by_limit false account = silent Subscribed (w.subscriptions ++ subscription_of (w.number + 1) conn account p queue sid ∷ [])

      by_sid : (b : Bool) (account : List ℕ) →
          Keeps c (numbered (w.number + 1) (Ok (cond b (SameSid, advanced w now) (cond (has_all w.subscriptions conn) (SubLimit, advanced w now) (Subscribed, record (advanced w now) { subscriptions = w.subscriptions ++ subscription_of (w.number + 1) conn account p queue sid ∷ [] })))))
      by_sid true account = silent SameSid w.subscriptions
      by_sid false account = by_limit (has_all w.subscriptions conn) account

      by_verdict : (v : Verdict) (z : Session) → Keeps c (numbered (w.number + 1) (Ok (subscribed (advanced w now) conn z.user.account p queue sid v)))
      by_verdict (Allowed by) z = by_sid (stands w.subscriptions conn sid) z.user.account
      by_verdict (DeniedBy i) z = silent (Denied (DeniedBy i)) w.subscriptions
      by_verdict NoAllow z = silent (Denied NoAllow) w.subscriptions
      by_verdict (NoQueueAllow i) z = silent (Denied (NoQueueAllow i)) w.subscriptions

      by_session : (o : Option Session) → Keeps c (numbered (w.number + 1) (in_session o (λ z. subscribed (advanced w now) conn z.user.account p queue sid (subscribe_verdict z.user.rules p queue))))
      by_session None = tt
      by_session (Some z) = by_verdict (subscribe_verdict z.user.rules p queue) z

  unsub : (conn : ℕ) (sid : List ℕ) (most : Option ℕ) → Keeps (Unsub conn sid most) (numbered (w.number + 1) (moved (advanced w now) (Unsub conn sid most)))
  unsub conn sid most = by_session (session_of w.sessions conn)
    where
      by_session : (o : Option Session) → Keeps (Unsub conn sid most) (numbered (w.number + 1) (in_session o (λ z. unsubscribed (advanced w now) conn sid most)))
      by_session None = tt
      by_session (Some z) = same (Unsub conn sid most) Unsubscribed (unended (map (limited conn sid most) w.subscriptions)) (λ n. refl) (λ n s. refl)

  take-one : (conn most : ℕ) → Keeps (Take conn most) (numbered (w.number + 1) (moved (advanced w now) (Take conn most)))
  take-one conn most = by_session (session_of w.sessions conn)
    where
      c : Command
      c = Take conn most

      f : Session → Session
      f = only (drained most) conn

      -- it has the same connection, user and grants
      as_before : (P : Session → Type 0) → ((z : Session) → P z → P (drained most z)) → All P w.sessions → All P (map f w.sessions)
      as_before P kept all = All-map P f w.sessions (λ k d h. here (get_or w.sessions k d) ((get_or w.sessions k d).conn == conn) (all k d h))
        where
          here : (z : Session) (b : Bool) → P z → P (cond b (drained most z) z)
          here z true is = kept z is
          here z false is = is

      conn-is : (z : Session) → (f z).conn ≡ z.conn
      conn-is z = here (z.conn == conn)
        where
          here : (b : Bool) → (cond b (drained most z) z).conn ≡ z.conn
          here true = refl
          here false = refl

      less : (z : Session) → IsQuiet w.sessions z → IsQuiet w.sessions (drained most z)
      less z is = omega (arith, is, length-drop most z.outbox.waiting)

      drains : (o : Outcome) → Leaves c o (next w now (map f w.sessions) w.subscriptions)
      drains o = leaves c o (next w now (map f w.sessions) w.subscriptions) refl
          (apart-map f w.sessions conn-is t.apart)
          (as_before (HasTable (max w.moment now)) (λ z is. is) tables_are)
          (as_before (HasNoted steps) (λ z is. is) t.noted)
          (λ k d h. record { lasts = refl; answer = λ s. refl; quiet = as_before (IsQuiet w.sessions) less (quiet-same w.sessions t.apart) k d h })

      by_session : (o : Option Session) → Keeps c (numbered (w.number + 1) (in_session o (taken (advanced w now) conn most)))
      by_session None = tt
      by_session (Some z) =
          let o : Outcome = Taken (take most z.outbox.waiting) z.missed in
          subst (λ (zs : List Session). Leaves c o (next w now zs w.subscriptions)) (sym (with_session-map (drained most) conn w.sessions t.apart)) (drains o)

  close : (conn : ℕ) → Keeps (Close conn) (numbered (w.number + 1) (moved (advanced w now) (Close conn)))
  close conn = by_session (session_of w.sessions conn)
    where
      other : Session → Bool
      other z = not (z.conn == conn)

      by_session : (o : Option Session) → Keeps (Close conn) (numbered (w.number + 1) (in_session o (λ z. closed (advanced w now) conn)))
      by_session None = tt
      by_session (Some z) = leaves (Close conn) Closed (next w now (filter other w.sessions) (filter (λ (sub : Subscription). not (sub.conn == conn)) w.subscriptions)) refl
          (AllPairs-filter IsApart other w.sessions t.apart)
          (All-filter other (HasTable (max w.moment now)) w.sessions tables_are)
          (All-filter other (HasNoted steps) w.sessions t.noted)
          (λ k d h. record {
            lasts = not-false _ (filter_passes other w.sessions k d h);
            answer = λ s. refl;
            quiet = All-filter other (IsQuiet w.sessions) w.sessions (quiet-same w.sessions t.apart) k d h;
          })

  reload : (doc : PolicyDoc) → Keeps (Reload doc) (numbered (w.number + 1) (moved (advanced w now) (Reload doc)))
  reload doc = leaves (Reload doc) told-gone (record (advanced w now) {
    policy = doc;
    epoch = w.epoch + 1;
    sessions = remaining M doc w.sessions;
    subscriptions = filter (stands_on doc w.sessions) w.subscriptions;
    routes = pruned M (kept (renewed_row w.policy doc) (pruned M w.routes));
    number = w.number + 1;
  }) refl
      (apart-map (renewed M doc) left (λ z. conn-is z (user_again_of doc z)) (AllPairs-filter IsApart (stays doc) w.sessions t.apart))
      (All-map (HasTable M) (renewed M doc) left (λ k d h. table (get_or left k d) (user_again_of doc (get_or left k d)) (All-filter (stays doc) (HasTable M) w.sessions tables_are k d h)))
      (All-map (HasNoted steps) (renewed M doc) left (λ k d h. grants (get_or left k d) (user_again_of doc (get_or left k d)) (All-filter (stays doc) (HasNoted steps) w.sessions t.noted k d h)))
      (All-map (IsSilent (Reload doc) told-gone w.sessions) (renewed M doc) left (λ k d h. record {
        lasts = ap (λ (n : ℕ). list_any (λ (m : ℕ). m == n) (closed_conns doc w.sessions)) (conn-is (get_or left k d) (user_again_of doc (get_or left k d)))
            ∙ among-ascending (get_or left k d).conn (map connection_of (filter (goes doc) w.sessions))
            ∙ All-filter (stays doc) (IsNoneOf (goes doc) w.sessions) w.sessions (not-gone (goes doc) w.sessions t.apart) k d h (ap not (filter_passes (stays doc) w.sessions k d h));
        answer = λ s. refl;
        quiet = quiet (get_or left k d) (user_again_of doc (get_or left k d)) (All-filter (stays doc) (IsQuiet w.sessions) w.sessions (quiet-same w.sessions t.apart) k d h);
      }))
    where
      M : ℕ
      M = max w.moment now

      told-gone : Outcome
      told-gone = Reloaded (closed_conns doc w.sessions) (filter_map (removal_after doc w.sessions) w.subscriptions)

      left : List Session
      left = filter (stays doc) w.sessions

      conn-is : (z : Session) (o : Option User) → (with_user M z o).conn ≡ z.conn
      conn-is z None = refl
      conn-is z (Some u) = refl

      table : (z : Session) (o : Option User) → HasTable M z → HasTable M (with_user M z o)
      table z None is = is
      table z (Some u) is = kept_judged M z.user.rules.allow_responses u.rules.allow_responses z.replies is

      quiet : (z : Session) (o : Option User) → IsQuiet w.sessions z → IsQuiet w.sessions (with_user M z o)
      quiet z None is = is
      quiet z (Some u) is = is

      grants : (z : Session) (o : Option User) → HasNoted steps z → HasNoted steps (with_user M z o)
      grants z None is = is
      grants z (Some u) is = after-judged (IsNoted steps z.conn) M z.user.rules.allow_responses u.rules.allow_responses z.replies is

  publish : (conn : ℕ) (m : Message) (word : ℕ) → Keeps (Pub conn m word) (numbered (w.number + 1) (moved (advanced w now) (Pub conn m word)))
  publish conn m word = by_session (session_of w.sessions conn) refl
    where
      c : Command
      c = Pub conn m word

      M : ℕ
      M = max w.moment now

      denied : (v : Verdict) → Leaves c (Denied v) (next w now w.sessions w.subscriptions)
      denied v = same c (Denied v) w.subscriptions (λ n. refl) (λ n s. refl)

      -- of what is sent nothing is assumed
      start : By → Session → Start
      start by z = record { before = w.sessions; begun = counted_on by z.conn m.subject w.sessions; world = advanced w now }

      asked : (by : By) (z : Session) (as_sent : Message) (account : List ℕ) (subject : List Token) (reply : Option (List Token)) → IsOfRequest (start by z) z as_sent word (λ s. Unit {0}) account subject reply
      asked by z as_sent account subject None = λ s. tt
      asked by z as_sent account subject (Some reply) = λ route s. tt

      whatever : (by : By) (z : Session) (as_sent : Message) (v : ViewItem) → IsOf (start by z) z as_sent word (λ s. Unit {0}) v
      whatever by z as_sent (At account subject Own) = λ s. tt
      whatever by z as_sent (At account subject (Stream row)) = λ s. tt
      whatever by z as_sent (At account subject (Service row)) = asked by z as_sent account subject as_sent.reply
      whatever by z as_sent (At account subject (Response row)) = λ s. tt
      whatever by z as_sent (TooLong row) = tt

      if_sent : (by : By) (z : Session) (o : Option Message) → IfSome o (AreOf (λ s. Unit {0}) w now z m.subject word by)
      if_sent by z None = tt
      if_sent by z (Some as_sent) = λ k d h. whatever by z as_sent _

      sent : (by : By) (ss : List Sending) (items : List Item) (left : List Subscription) (routes : List (Name × Exporter)) (sender : ℕ) → sender ≡ conn →
          Leaves c (Published by items) (next_with w now (map (receives_of M by sender m.subject ss) w.sessions) left routes)
      sent by ss items left routes sender sender_is = (
        (λ number epoch.
            let a : Step = step_of w (told number epoch now c (Published by items)) (next_with w now (map get w.sessions) left routes) in record {
              clock = clock_is a refl;
              apart = apart-map get w.sessions (λ z. refl) t.apart;
              tables = All-map (HasTable M) get w.sessions (λ k d h.
                  let z = get_or w.sessions k d in
                  kept_after M (is_counted by sender z) m.subject (in_room z) z.user.rules.allow_responses z.replies (tables_are k d h));
              noted = All-map (HasNoted (steps ++ a ∷ [])) get w.sessions (λ k d h.
                  let z = get_or w.sessions k d in
                  after-publish steps a z.conn refl M (is_counted by sender z) m.subject (in_room z) z.user.rules.allow_responses z.replies
                  (λ s. ap (λ n. (is_by_grant by && (z.conn == n)) && same_subject m.subject s) (sym sender_is))
                  (λ s. ap (list_any (asks_on s)) (entered-is M by sender m.subject ss w.sessions z.conn ∙ ap (λ o. take (room_in o) (map delivery_of (sent_to z.conn ss))) (found w.sessions t.apart k d h)))
                  (bare M z.user.rules.allow_responses z.replies (tables_are k d h))
                  (clock_is a refl)
                  (t.noted k d h));
            }),
        (λ other. absurd (true≢false other)),
      )
        where
          get : Session → Session
          get = receives_of M by sender m.subject ss

          in_room : Session → List Delivery
          in_room z = take (room_in (Some z)) (map delivery_of (sent_to z.conn ss))

      by_verdict : (z : Session) (v : Verdict) → z.conn ≡ conn → Keeps c (numbered (w.number + 1) (Ok (published (advanced w now) z m word v)))
      by_verdict z (Allowed by) sender_is =
          let p = publishes (λ s. Unit {0}) w now z m word by t.apart (if_sent by z (sent_on (mapped_by z.user.mappings m.subject word) m)) in
          subst (λ (r : Outcome × World). Keeps c (numbered (w.number + 1) (Ok r))) (sym p.is) (sent by p.ss p.items p.left p.routes z.conn sender_is)
      by_verdict z (DeniedBy i) from = denied (DeniedBy i)
      by_verdict z NoAllow from = denied NoAllow
      by_verdict z (NoQueueAllow i) from = denied (NoQueueAllow i)

      by_session : (o : Option Session) → session_of w.sessions conn ≡ o → Keeps c (numbered (w.number + 1) (in_session o (λ z. published (advanced w now) z m word (verdict_on M z m.subject))))
      by_session None e = tt
      by_session (Some z) e = by_verdict z (verdict_on M z m.subject) (eqb-true z.conn conn (find-passes (λ (y : Session). y.conn == conn) w.sessions z e))

  pub step-told : (c : Command) → Keeps c (numbered (w.number + 1) (moved (advanced w now) c))
  step-told (Connect conn name password echo) = connect conn name password echo
  step-told (Sub conn p queue sid) = sub conn p queue sid
  step-told (Unsub conn sid most) = unsub conn sid most
  step-told (Pub conn m word) = publish conn m word
  step-told (Take conn most) = take-one conn most
  step-told (Close conn) = close conn
  step-told (Reload doc) = reload doc

-- ---- a run

-- an entry of a legal run is a step
pub step-is : (w : World) (a : Entry) (next : World) → IsEntry w a next → world_after w (transition w a.event) ≡ next
step-is w a next is = ap (world_after w) is.outcome

pub step-keeps : (steps : List Step) (w : World) (t : Told steps w.moment w.sessions) (a : Entry) (next : World) → IsEntry w a next → Keeps steps w a.event.now t a.event.what (Ok (a.outcome, next))
step-keeps steps w t a next is = subst (Keeps steps w a.event.now t a.event.what) is.outcome (step-told steps w a.event.now t a.event.what)

pub run-told : (done : List Step) (es : List Entry) (w after : World) → Told done w.moment w.sessions → IsLegalRun w es after → Told (done ++ steps_of w es) after.moment after.sessions
unfolding IsLegalRun
run-told done [] w after t run =
    subst (λ l. Told l after.moment after.sessions) (sym (append-nil done)) (subst (λ (v : World). Told done v.moment v.sessions) (sym run) t)
run-told done (a ∷ es) w after t run =
    let moves = step-keeps done w t a run.0 run.1 in
    subst (λ (v : World). Told (done ++ step_of w a v ∷ steps_of v es) after.moment after.sessions) (sym (step-is w a run.0 run.1))
    (subst (λ l. Told l after.moment after.sessions) (append_assoc done (step_of w a run.0 ∷ []) (steps_of run.0 es))
    (run-told (done ++ step_of w a run.0 ∷ []) es run.0 after (moves.0 a.number a.epoch) run.2))

-- what holds of each step
pub run-each : (P : Step → Type 0) → ((steps : List Step) (w : World) (t : Told steps w.moment w.sessions) (a : Entry) (next : World) → IsEntry w a next → P (step_of w a next)) →
    (done : List Step) (es : List Entry) (w after : World) → Told done w.moment w.sessions → IsLegalRun w es after → All P (steps_of w es)
unfolding IsLegalRun
run-each P each done [] w after t run = All-nil P
run-each P each done (a ∷ es) w after t run =
    subst (λ (v : World). All P (step_of w a v ∷ steps_of v es)) (sym (step-is w a run.0 run.1))
    (All-cons P (step_of w a run.0) (steps_of run.0 es) (each done w t a run.0 run.1)
    (run-each P each (done ++ step_of w a run.0 ∷ []) es run.0 after ((step-keeps done w t a run.0 run.1).0 a.number a.epoch) run.2))

pub told-opening : (policy : PolicyDoc) (capacity : ℕ) → Told [] (opening_world policy capacity).moment (opening_world policy capacity).sessions
told-opening policy capacity = record {
  clock = refl;
  apart = λ i j d below within. absurd (omega (arith, within));
  tables = All-nil (HasTable 0);
  noted = All-nil (HasNoted []);
}

pub are_noted : AreNoted
are_noted policy capacity es w run = (run-told [] es (opening_world policy capacity) w (told-opening policy capacity) run).noted

-- a step in which a delivery enters is a publish
published-step : (steps : List Step) (w : World) (t : Told steps w.moment w.sessions) (a : Entry) (after : World) → IsEntry w a after → (conn : ℕ) (s : List Token) → is_request conn s (step_of w a after) ≡ true → is_publish a.event.what ≡ true
published-step steps w t a after is conn s asks = here (is_publish a.event.what) refl (step-keeps steps w t a after is)
  where
    here : (b : Bool) → is_publish a.event.what ≡ b → Keeps steps w a.event.now t a.event.what (Ok (a.outcome, after)) → is_publish a.event.what ≡ true
    here true e keeps = e
    here false e keeps = absurd (true≢false (sym asks ∙ none-entered w.sessions after.sessions (keeps.1 e) conn s))

pub are_published : RequestsArePublished
are_published policy capacity es w run = run-each (λ step. (conn : ℕ) (s : List Token) → is_request conn s step ≡ true → is_publish step.entry.event.what ≡ true) published-step [] es (opening_world policy capacity) w (told-opening policy capacity) run
