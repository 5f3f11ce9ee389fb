-- Subscriptions keep their marks while messages are delivered, counted and taken, while others end or go, and while sessions open.
use Rattle.std.proofs.Common.{◌≡◌, ◌==◌, ◌++◌, ℕ, Bool, true, false, cond, not, List, [], ◌∷◌, Option, Some, None, map, filter, get_or, sym, refl, subst, All}
use Rattle.std.specs.Prelude.{AllPairs, is_some}
use Rattle.std.specs.Option.{option_map}
use Rattle.std.proofs.lemmas.List.Elements.{All-map, All-filter, All-weaker}
use Rattle.permissions.specs.deny_marks.Table.{IsMarked}
use Rattle.permissions.specs.declared.deny_marks.marks.Marks.{Marks}
use Rattle.world_sessions.specs.deliveries.Sessions.{session_of, IsApart}
use Rattle.world_sessions.specs.declared.deliveries.session.Session.{Session}
use Rattle.world_rows.specs.declared.subscription.Subscription.{Subscription}
use Rattle.world_subscriptions.specs.Subscriptions.{is_under}
use Rattle.world_subscriptions.specs.Changes.{only, bumped}
use Rattle.world_subscriptions.specs.Counting.{in_turn}
use Rattle.world_subscriptions.specs.Limit.{unended, limited, limit_of, has_ended}
use Rattle.receivers.specs.views.Marked.{AreMarked, IsMarkedBy}
use Rattle.receivers.proofs.cache.Stays.{Seat, seat, AreSeated, made, bumped-made}
use Rattle.world_routing.proofs.marks.Staying.{passing, session_of-filter}

module _ (table : List (ℕ × Marks)) where
  -- whether a subscription is marked goes by its session's user
  abbrev by_seat : Subscription → Option Seat → Type 0
  by_seat sub None = Unit {0}
  by_seat sub (Some q) = IsMarked table sub.id q.1.0.rules sub.subject sub.queue

  to_seat : (sub : Subscription) (o : Option Session) → IsMarkedBy table sub o → by_seat sub (option_map seat o)
  to_seat sub None is = tt
  to_seat sub (Some z) is = is

  from_seat : (sub : Subscription) (o : Option Session) → by_seat sub (option_map seat o) → IsMarkedBy table sub o
  from_seat sub None is = tt
  from_seat sub (Some z) is = is

  pub marked_seated : (zs after : List Session) (subs : List Subscription) → AreSeated zs after → AreMarked zs subs table → AreMarked after subs table
  marked_seated zs after subs seated are k d h =
      let sub : Subscription = get_or subs k d in
      from_seat sub (session_of after sub.conn) (subst (by_seat sub) (sym (seated sub.conn)) (to_seat sub (session_of zs sub.conn) (are k d h)))

  module _ (zs : List Session) where
    abbrev IsMarkedHere : Subscription → Type 0
    IsMarkedHere sub = IsMarkedBy table sub (session_of zs sub.conn)

    pub marked_filter : (p : Subscription → Bool) (subs : List Subscription) → AreMarked zs subs table → AreMarked zs (filter p subs) table
    marked_filter p subs are = All-filter p IsMarkedHere subs are

    -- and by what its SUB made it
    marked_map : (f : Subscription → Subscription) → ((s : Subscription) → made (f s) ≡ made s) → (subs : List Subscription) → AreMarked zs subs table → AreMarked zs (map f subs) table
    marked_map f same subs are = All-map IsMarkedHere f subs (All-weaker IsMarkedHere (λ s. IsMarkedHere (f s)) (λ s is. subst IsMarkedHere (sym (same s)) is) subs are)

    pub marked_in_turn : (ids : List ℕ) (subs : List Subscription) → AreMarked zs subs table → AreMarked zs (in_turn ids subs) table
    marked_in_turn [] subs are = are
    marked_in_turn (id ∷ ids) subs are =
        marked_in_turn ids (unended (map (only bumped id) subs))
        (marked_filter (λ (s : Subscription). not (has_ended s)) (map (only bumped id) subs) (marked_map (only bumped id) (bumped-made id) subs are))

    limited_made : (most : Option ℕ) (s : Subscription) (b : Bool) → made (cond b (record s { most = Some (limit_of most) }) s) ≡ made s
    limited_made most s true = refl
    limited_made most s false = refl

    pub marked_limited : (conn : ℕ) (sid : List ℕ) (most : Option ℕ) (subs : List Subscription) → AreMarked zs subs table → AreMarked zs (unended (map (limited conn sid most) subs)) table
    marked_limited conn sid most subs are =
        marked_filter (λ (s : Subscription). not (has_ended s)) (map (limited conn sid most) subs) (marked_map (limited conn sid most) (λ s. limited_made most s (is_under conn sid s)) subs are)

    -- ---- others go, or open

    pub marked_left : (conn : ℕ) (subs : List Subscription) → AllPairs IsApart zs → AreMarked zs subs table →
        AreMarked (filter (λ (z : Session). not (z.conn == conn)) zs) (filter (λ (s : Subscription). not (s.conn == conn)) subs) table
    marked_left conn subs apart are k d h =
        let left : List Subscription = filter (λ (s : Subscription). not (s.conn == conn)) subs in
        let sub : Subscription = get_or left k d in
        subst (IsMarkedBy table sub) (sym (session_of-filter (λ (z : Session). not (z.conn == conn)) sub.conn zs apart))
        (by_session sub (session_of zs sub.conn) (marked_filter (λ (s : Subscription). not (s.conn == conn)) subs are k d h))
      where
        by_test : (sub : Subscription) (z : Session) (b : Bool) → IsMarkedBy table sub (Some z) → IsMarkedBy table sub (cond b (Some z) None)
        by_test sub z true is = is
        by_test sub z false is = tt

        by_session : (sub : Subscription) → (o : Option Session) → IsMarkedBy table sub o → IsMarkedBy table sub (passing (λ (z : Session). not (z.conn == conn)) o)
        by_session sub None is = tt
        by_session sub (Some z) is = by_test sub z (not (z.conn == conn)) is

    session_pushed : (z : Session) (ys : List Session) (conn : ℕ) → is_some (session_of ys conn) ≡ true → session_of (ys ++ z ∷ []) conn ≡ session_of ys conn
    session_pushed z [] conn is = absurd (cc)
    session_pushed z (y ∷ ys) conn is = here (y.conn == conn) is (session_pushed z ys conn)
      where
        here : (b : Bool) → is_some (let o : Option Session = cond b (Some y) (session_of ys conn) in o) ≡ true → (is_some (session_of ys conn) ≡ true → session_of (ys ++ z ∷ []) conn ≡ session_of ys conn) →
            cond b (Some y) (session_of (ys ++ z ∷ []) conn) ≡ cond b (Some y) (session_of ys conn)
        here true is later = refl
        here false is later = later is

    -- where each has a session
    pub marked_opened : (z : Session) (subs : List Subscription) → All (λ (s : Subscription). is_some (session_of zs s.conn) ≡ true) subs → AreMarked zs subs table → AreMarked (zs ++ z ∷ []) subs table
    marked_opened z subs each are k d h =
        let sub : Subscription = get_or subs k d in subst (IsMarkedBy table sub) (sym (session_pushed z zs sub.conn (each k d h))) (are k d h)
