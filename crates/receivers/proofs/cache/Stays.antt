-- What is cached stays current while messages are delivered, counted and taken: who may be sent a message, and whom it is for,
-- goes neither by what waits for a session nor by what a subscription has received.
use Rattle.std.proofs.Common.{◌≡◌, ◌∙◌, ◌==◌, ◌&&◌, ◌||◌, ◌≤◌, ◌+◌, ℕ, Bool, true, false, cond, not, List, [], ◌∷◌, length, nat_lt, Option, Some, None, map, filter, ap, sym, refl, subst, inl, inr, arith}
use Rattle.std.specs.Prelude.{is_some}
use Rattle.std.specs.Global.{Vec}
use Rattle.std.specs.List.{list_any}
use Rattle.std.specs.Option.{option_map}
use Rattle.std.proofs.lemmas.Bool.{cases_Bool}
use Rattle.std.proofs.lemmas.List.{length-map}
use Rattle.std.proofs.lemmas.Option.{none-some}
use Rattle.subjects.specs.Subject.{Token, tokens_of, text_of}
use Rattle.policy_ready.specs.declared.imports.rows.ImportRow.{ImportRow}
use Rattle.policy_ready.specs.declared.imports.view.ViewItem.{ViewItem}
use Rattle.policy_ready.specs.declared.imports.view.ViewItem.TheVariants.{At, TooLong}
use Rattle.policy_ready.specs.declared.imports.view.Way.TheVariants.{Own, Stream, Service, Response}
use Rattle.account_mappings.specs.Drawing.{mapped_by}
use Rattle.policy_ready.specs.declared.ready.User.{User}
use Rattle.permissions.specs.declared.verdict.By.{By}
use Rattle.permissions.specs.Verdicts.{delivery_verdict, is_allowed}
use Rattle.events.specs.declared.answer.Addressed.{Addressed}
use Rattle.world_subscriptions.specs.queue_choice.Choices.{chosen}
use Rattle.world_subscriptions.specs.groups.Served.{is_member, members, is_the, is_served_by, is_served, served}
use Rattle.world_subscriptions.proofs.groups.Chosen.{filter-map, same_tests, chosen-map}
use Rattle.world_sessions.specs.deliveries.Sessions.{session_of, with_session}
use Rattle.world_sessions.specs.deliveries.Delivered.{delivered, offered, after_offer, has_room}
use Rattle.world_sessions.specs.declared.deliveries.session.Session.{Session}
use Rattle.world_subscriptions.specs.Subscriptions.{has_subject}
use Rattle.world_subscriptions.specs.Changes.{only, bumped}
use Rattle.world_subscriptions.specs.Counting.{in_turn}
use Rattle.world_subscriptions.specs.Limit.{unended, has_ended}
use Rattle.world_rows.specs.declared.subscription.Subscription.{Subscription}
use Rattle.receivers.specs.views.Open.{lets_through, may_hear, is_open, open_among}
use Rattle.receivers.specs.views.Receivers.{receiver_of}
use Rattle.receivers.specs.views.CachedViews.{IsWhom, IsSeen, AreSeen, has_limit, others_in}
use Rattle.receivers.specs.cache.Drawn.{subject_of, IsDrawn, KnowsDrawn}
use Rattle.receivers.specs.cache.Cached.{IsAlone, IsAloneFor, IsWhomFor, KnowsOthersFor, IsSo, IsCurrent}
use Rattle.receivers.specs.declared.cache.cache.ReceiverCache.{ReceiverCache}
use Rattle.receivers.specs.declared.cache.cached.CachedReceivers.{CachedReceivers}
use Rattle.receivers.specs.declared.cache.drawn.Drawn.{Drawn}
use Rattle.receivers.specs.declared.views.cached_view.CachedView.{CachedView}
use Rattle.receivers.specs.declared.views.whom.Whom.{Whom}

-- ---- sessions

-- what of a session says whom it may be sent messages of, and on what
abbrev pub Seat : Type 0
Seat = ℕ × (User × Bool)

abbrev pub seat : Session → Seat
seat z = (z.conn, (z.user, z.echo))

-- each connection's is as it was
abbrev pub AreSeated : List Session → List Session → Type 0
AreSeated zs after = (conn : ℕ) → option_map seat (session_of after conn) ≡ option_map seat (session_of zs conn)

pub seats_with : (f : Session → Session) (conn : ℕ) → ((z : Session) → seat (f z) ≡ seat z) → (zs : List Session) → AreSeated zs (with_session f conn zs)
seats_with f conn same [] other = refl
seats_with f conn same (z ∷ zs) other = here (z.conn == conn) (seats_with f conn same zs other)
  where
    seated : (b : Bool) (z y : Session) (rest later : Option Session) → seat y ≡ seat z → option_map seat later ≡ option_map seat rest →
        option_map seat (cond b (Some y) later) ≡ option_map seat (cond b (Some z) rest)
    seated true z y rest later own others = ap Some own
    seated false z y rest later own others = others

    here : (b : Bool) → option_map seat (session_of (with_session f conn zs) other) ≡ option_map seat (session_of zs other) →
        option_map seat (session_of (cond b (f z ∷ zs) (z ∷ with_session f conn zs)) other) ≡ option_map seat (session_of (z ∷ zs) other)
    here true others =
        ap (λ (n : ℕ). option_map seat (cond (n == other) (Some (f z)) (session_of zs other))) (ap (λ (s : Seat). s.0) (same z))
        ∙ seated (z.conn == other) z (f z) (session_of zs other) (session_of zs other) (same z) refl
    here false others = seated (z.conn == other) z z (session_of zs other) (session_of (with_session f conn zs) other) refl others

pub seats_after : (zs ys xs : List Session) → AreSeated zs ys → AreSeated ys xs → AreSeated zs xs
seats_after zs ys xs first then conn = then conn ∙ first conn

pub seats_delivered : (now : ℕ) (all : List Addressed) (zs : List Session) → AreSeated zs (delivered now all zs).0
seats_delivered now [] zs = λ conn. refl
seats_delivered now (a ∷ all) zs =
    seats_after zs (after_offer now a zs) (delivered now all (after_offer now a zs)).0
    (seats_with (offered a.delivery a.noted now) a.conn offered-seat zs)
    (seats_delivered now all (after_offer now a zs))
  where
    either : (b : Bool) (z x y : Session) → seat x ≡ seat z → seat y ≡ seat z → seat (cond b x y) ≡ seat z
    either true z x y first second = first
    either false z x y first second = second

    offered-seat : (z : Session) → seat (offered a.delivery a.noted now z) ≡ seat z
    offered-seat z = either (has_room (Some z)) z _ _ refl refl

-- who may be sent a message goes by the seats alone
module _ (zs after : List Session) (seated : AreSeated zs after) (z y : Session) (own : seat y ≡ seat z) (s : List Token) where
  open_same : (sub : Subscription) → is_open after y s sub ≡ is_open zs z s sub
  open_same sub =
      ap (λ (q : Seat). (q.1.1 || not (sub.conn == q.0)) && lets_through s sub.queue (session_of after sub.conn)) own
      ∙ ap (λ b. may_hear z sub.conn && b) (by_seat (session_of after sub.conn) ∙ ap lets (seated sub.conn) ∙ sym (by_seat (session_of zs sub.conn)))
    where
      lets : Option Seat → Bool
      lets None = false
      lets (Some q) = is_allowed (delivery_verdict q.1.0.rules s sub.queue)

      by_seat : (o : Option Session) → lets_through s sub.queue o ≡ lets (option_map seat o)
      by_seat None = refl
      by_seat (Some x) = refl

-- ---- subscriptions

-- what of a subscription stays as its SUB made it
abbrev pub made : Subscription → Subscription
made s = record s { received = 0; most = None }

module _ (f : Subscription → Subscription) (same : (s : Subscription) → made (f s) ≡ made s) where
  members-map : (name : List ℕ) (xs : List Subscription) → members name (map f xs) ≡ map f (members name xs)
  members-map name xs =
      filter-map (is_member name) f xs
      ∙ ap (map f) (same_tests (λ x. is_member name (f x)) (is_member name) xs (λ x. ap (λ (m : Subscription). is_member name m) (same x)))

  pub served-map : (word : ℕ) (xs : List Subscription) → served word (map f xs) ≡ map f (served word xs)
  served-map word xs =
      filter-map (is_served word (map f xs)) f xs
      ∙ ap (map f) (same_tests (λ x. is_served word (map f xs) (f x)) (is_served word xs) xs (λ x. ap (λ (m : Subscription). is_served_by word (map f xs) (f x) m.queue) (same x) ∙ by x x.queue))
    where
      the : (o : Option Subscription) (x : Subscription) → is_the (option_map f o) (f x) ≡ is_the o x
      the None x = refl
      the (Some c) x = ap (λ (m : Subscription). m.id == (f x).id) (same c) ∙ ap (λ (m : Subscription). c.id == m.id) (same x)

      by : (x : Subscription) (o : Option (List Token)) → is_served_by word (map f xs) (f x) o ≡ is_served_by word xs x o
      by x None = refl
      by x (Some q) =
          ap (λ (ms : List Subscription). is_the (chosen word ms) (f x)) (members-map (text_of q) xs)
          ∙ ap (λ (o : Option Subscription). is_the o (f x)) (sym (chosen-map f word (members (text_of q) xs)))
          ∙ the (chosen word (members (text_of q) xs)) x

  receivers-map : (xs : List Subscription) → map receiver_of (map f xs) ≡ map receiver_of xs
  receivers-map [] = refl
  receivers-map (x ∷ xs) = (λ i. receiver_of (same x i) ∷ receivers-map xs i)

  whom-map : (whom : Whom) (xs : List Subscription) → IsWhom whom xs → IsWhom whom (map f xs)
  whom-map whom xs is = λ says word. ap (map receiver_of) (served-map word xs) ∙ receivers-map (served word xs) ∙ is says word

  module _ (zs after : List Session) (seated : AreSeated zs after) (subs : List Subscription) where
    open-map : (z y : Session) → seat y ≡ seat z → (account : List ℕ) (s : List Token) → open_among after (map f subs) y account s ≡ map f (open_among zs subs z account s)
    open-map z y own account s =
        filter-map (λ sub. has_subject account s sub && is_open after y s sub) f subs
        ∙ ap (map f) (same_tests (λ x. has_subject account s (f x) && is_open after y s (f x)) (λ sub. has_subject account s sub && is_open zs z s sub) subs
        (λ x. ap (λ (m : Subscription). has_subject account s m && is_open after y s m) (same x)
        ∙ ap (λ b. has_subject account s x && b) (open_same zs after seated z y own s x)))

    -- who has a session's seat now had it before
    before_it : (conn : ℕ) (P : Session → Type 0) → ((z y : Session) → session_of zs conn ≡ Some z → seat y ≡ seat z → P y) → (y : Session) → session_of after conn ≡ Some y → P y
    before_it conn P shown y there = was (session_of zs conn) refl (sym (seated conn) ∙ ap (option_map seat) there)
      where
        or_else : Option Seat → Seat → Seat
        or_else None d = d
        or_else (Some q) d = q

        was : (o : Option Session) → session_of zs conn ≡ o → option_map seat (session_of zs conn) ≡ Some (seat y) → P y
        was None e own = absurd (none-some (seat y) (sym (ap (option_map seat) e) ∙ own))
        was (Some z) e own = shown z y e (ap (λ (q : Option Seat). or_else q (seat z)) (sym own ∙ ap (option_map seat) e))

    whom-stays : (whom : Whom) (conn : ℕ) (text : List ℕ) → IsWhomFor whom conn text zs subs → IsWhomFor whom conn text after (map f subs)
    whom-stays whom conn text is = before_it conn (λ y. IsWhom whom (open_among after (map f subs) y y.user.account (tokens_of text)))
        (λ z y there own. subst (IsWhom whom)
        (sym (open-map z y own y.user.account (tokens_of text)
        ∙ ap (λ (account : List ℕ). map f (open_among zs subs z account (tokens_of text))) (ap (λ (q : Seat). q.1.0.account) own)))
        (whom-map whom (open_among zs subs z z.user.account (tokens_of text)) (is z there)))

    module _ (most_same : (s : Subscription) → (f s).most ≡ s.most) where
      unlimited-map : (xs : List Subscription) → list_any has_limit (map f xs) ≡ list_any has_limit xs
      unlimited-map [] = refl
      unlimited-map (x ∷ xs) = ap (λ (o : Option ℕ). is_some o || list_any has_limit (map f xs)) (most_same x) ∙ ap (λ b. has_limit x || b) (unlimited-map xs)

      view-stays : (z y : Session) → seat y ≡ seat z → (known : CachedView) (account : List ℕ) (s : List Token) → IsSeen zs subs z known account s → IsSeen after (map f subs) y known account s
      view-stays z y own known account s is = record {
        names = is.names;
        unlimited = ap (list_any has_limit) (open-map z y own account s) ∙ unlimited-map (open_among zs subs z account s) ∙ is.unlimited;
        says = is.says;
        whom = subst (IsWhom known.whom) (sym (open-map z y own account s)) (whom-map known.whom (open_among zs subs z account s) is.whom);
      }

      views-stay : (z y : Session) → seat y ≡ seat z → (known : List CachedView) (vs : List ViewItem) → AreSeen zs subs z known vs → AreSeen after (map f subs) y known vs
      views-stay z y own [] [] is = tt
      views-stay z y own [] (v ∷ vs) is = absurd is
      views-stay z y own (k ∷ known) [] is = absurd is
      views-stay z y own (k ∷ known) (TooLong row ∷ vs) is = absurd is
      views-stay z y own (k ∷ known) (At account s Own ∷ vs) is = absurd is
      views-stay z y own (k ∷ known) (At account s (Service row) ∷ vs) is = absurd is
      views-stay z y own (k ∷ known) (At account s (Response row) ∷ vs) is = absurd is
      views-stay z y own (k ∷ known) (At account s (Stream row) ∷ vs) is = (view-stays z y own k account s is.0, views-stay z y own known vs is.1)

      others-stay : (o : Option (Vec CachedView)) (rows : List ImportRow) (conn : ℕ) (text : List ℕ) → KnowsOthersFor o rows conn text zs subs → KnowsOthersFor o rows conn text after (map f subs)
      others-stay None rows conn text is = tt
      others-stay (Some known) rows conn text is = before_it conn (λ y. AreSeen after (map f subs) y known.items (others_in rows y.user.account (tokens_of text)))
          (λ z y there own. views-stay z y own known.items (others_in rows y.user.account (tokens_of text))
          (subst (λ (q : Seat). AreSeen zs subs z known.items (others_in rows q.1.0.account (tokens_of text))) (sym own) (is z there)))

      drawn-stay : (by_draw : List (Option Drawn)) (rows : List ImportRow) (conn : ℕ) (text : List ℕ) → KnowsDrawn by_draw rows conn text zs subs → KnowsDrawn by_draw rows conn text after (map f subs)
      drawn-stay by_draw rows conn text is = record {
        each = λ draw drawn cached. before_it conn (λ y. IsDrawn rows after (map f subs) y text draw drawn) (λ z y there own.
            let was : IsDrawn rows zs subs z text draw drawn = is.each draw drawn cached z there in
            let user : z.user ≡ y.user = ap (λ (q : Seat). q.1.0) (sym own) in
            let s : List Token = subject_of drawn in
            record {
              mapped = λ word same. ap (λ (u : User). mapped_by u.mappings (tokens_of text) word) (sym user) ∙ was.mapped word same;
              sent = record {
                unrouted = was.sent.unrouted;
                own = subst (λ (u : User). IsSeen after (map f subs) y drawn.own u.account s) user (view-stays z y own drawn.own z.user.account s was.sent.own);
                others = subst (λ (u : User). AreSeen after (map f subs) y drawn.others.items (others_in rows u.account s)) user
                    (views-stay z y own drawn.others.items (others_in rows z.user.account s) was.sent.others);
              };
            });
      }

-- what is seen in its publisher's account alone goes by its user
alone-stays : (zs after : List Session) → AreSeated zs after → (alone : Option By) (rows : List ImportRow) (conn : ℕ) (text : List ℕ) → IsAloneFor alone rows conn text zs → IsAloneFor alone rows conn text after
alone-stays zs after seated None rows conn text is = tt
alone-stays zs after seated (Some by) rows conn text is = here (session_of after conn) refl (sym (seated conn ∙ ap (option_map seat) is.seated))
  where
    user_in : Option Seat → User
    user_in None = is.publisher.user
    user_in (Some q) = q.1.0

    here : (o : Option Session) → session_of after conn ≡ o → Some (seat is.publisher) ≡ option_map seat o → IsAloneFor (Some by) rows conn text after
    here None e same = absurd (none-some (seat is.publisher) (sym same))
    here (Some y) e same = record {
      publisher = y;
      seated = e;
      alone = subst (λ (u : User). IsAlone rows u (tokens_of text) by) (ap user_in same) is.alone;
    }

-- ---- what is cached

module _ (f : Subscription → Subscription) (same : (s : Subscription) → made (f s) ≡ made s) (most_same : (s : Subscription) → (f s).most ≡ s.most)
    (zs after : List Session) (seated : AreSeated zs after) (subs : List Subscription) (rows : List ImportRow) where
  so-stays : (cached : CachedReceivers) → IsSo rows zs subs cached → IsSo rows after (map f subs) cached
  so-stays cached so = (
    whom-stays f same zs after seated subs cached.whom cached.key.conn cached.key.subject.items so.0,
    others-stay f same zs after seated subs most_same cached.others rows cached.key.conn cached.key.subject.items so.1,
    alone-stays zs after seated cached.alone rows cached.key.conn cached.key.subject.items so.2,
  )

  current-stays : (cache : ReceiverCache) → IsCurrent rows zs subs cache → IsCurrent rows after (map f subs) cache
  current-stays cache current = record {
    each = λ cached has. so-stays cached (current.each cached has);
    drawn = drawn-stay f same zs after seated subs most_same cache.drawn.by_draw.items rows cache.drawn.key.conn cache.drawn.key.subject.items current.drawn;
  }

pub current_taken : (cache : ReceiverCache) (rows : List ImportRow) (zs after : List Session) (subs : List Subscription) → AreSeated zs after → IsCurrent rows zs subs cache → IsCurrent rows after subs cache
current_taken cache rows zs after subs seated current =
    subst (λ (ss : List Subscription). IsCurrent rows after ss cache) (map-same subs) (current-stays (λ s. s) (λ s. refl) (λ s. refl) zs after seated subs rows cache current)
  where
    map-same : (xs : List Subscription) → map (λ s. s) xs ≡ xs
    map-same [] = refl
    map-same (x ∷ xs) = ap (λ rest. x ∷ rest) (map-same xs)

-- and what was counted changes no limit
pub bumped-most : (s : Subscription) → (bumped s).most ≡ s.most
bumped-most s = here (nat_lt s.received 18446744073709551615)
  where
    here : (b : Bool) → (cond b (record s { received = s.received + 1 }) s).most ≡ s.most
    here true = refl
    here false = refl

only-most : (id : ℕ) (s : Subscription) → (only bumped id s).most ≡ s.most
only-most id s = here (s.id == id)
  where
    here : (b : Bool) → (cond b (bumped s) s).most ≡ s.most
    here true = bumped-most s
    here false = refl

pub bumped-made : (id : ℕ) (s : Subscription) → made (only bumped id s) ≡ made s
bumped-made id s = either (s.id == id) _ _ (either (nat_lt s.received 18446744073709551615) _ _ refl refl) refl
  where
    either : (b : Bool) (x y : Subscription) → made x ≡ made s → made y ≡ made s → made (cond b x y) ≡ made s
    either true x y first second = first
    either false x y first second = second

fewer : {X : Type 0} (p : X → Bool) (xs : List X) → length (filter p xs) ≤ length xs
fewer p [] = omega arith
fewer p (x ∷ xs) = elim (cases_Bool (p x)) [
  | inl y ↦ rw y (let h = fewer p xs in omega (arith, h))
  | inr e ↦ rw e (let h = fewer p xs in omega (arith, h))
]

all_stay : {X : Type 0} (p : X → Bool) (xs : List X) → length xs ≤ length (filter p xs) → filter p xs ≡ xs
all_stay p [] h = refl
all_stay p (x ∷ xs) h = elim (cases_Bool (p x)) [
  | inl y ↦ rw y (ap (λ ys. x ∷ ys) (all_stay p xs (let k = rw y at h in omega (arith, k))))
  | inr e ↦ absurd (let k = rw e at h in let l = fewer p xs in omega (arith, k, l))
]

-- those of which one has counted a message, where none has ended by it
abbrev once : ℕ → List Subscription → List Subscription
once id subs = unended (map (only bumped id) subs)

fewer_once : (id : ℕ) (subs : List Subscription) → length (once id subs) ≤ length subs
fewer_once id subs = let h = fewer (λ (s : Subscription). not (has_ended s)) (map (only bumped id) subs) in omega (arith, h, length-map subs (only bumped id))

fewer_turns : (ids : List ℕ) (subs : List Subscription) → length (in_turn ids subs) ≤ length subs
fewer_turns [] subs = omega arith
fewer_turns (id ∷ ids) subs = let h = fewer_turns ids (once id subs) in let k = fewer_once id subs in omega (arith, h, k)

-- where none of those that have counted a message in turn has ended
pub current_in_turn : (cache : ReceiverCache) (rows : List ImportRow) (zs after : List Session) (ids : List ℕ) (subs : List Subscription) →
    AreSeated zs after → length subs ≤ length (in_turn ids subs) → IsCurrent rows zs subs cache → IsCurrent rows after (in_turn ids subs) cache
current_in_turn cache rows zs after [] subs seated as_many current = current_taken cache rows zs after subs seated current
current_in_turn cache rows zs after (id ∷ ids) subs seated as_many current =
    let more = fewer_turns ids (once id subs) in
    let fewer = fewer_once id subs in
    let all : once id subs ≡ map (only bumped id) subs = all_stay (λ (s : Subscription). not (has_ended s)) (map (only bumped id) subs) (omega (arith, as_many, more, length-map subs (only bumped id))) in
    current_in_turn cache rows zs after ids (once id subs) seated (omega (arith, as_many, fewer))
    (subst (λ (ss : List Subscription). IsCurrent rows zs ss cache) (sym all)
    (current-stays (only bumped id) (bumped-made id) (only-most id) zs zs (λ conn. refl) subs rows cache current))
