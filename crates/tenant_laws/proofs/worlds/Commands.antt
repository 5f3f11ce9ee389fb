-- What a command of tenants makes of a world and of their part of it, and what one of others makes of it.
use Rattle.std.proofs.Common.{◌≡◌, ◌∙◌, ◌==◌, ◌≤◌, ◌&&◌, ◌||◌, ◌+◌, ◌++◌, ℕ, Bool, true, false, not, cond, List, [], ◌∷◌, filter, map, length, get_or, Option, Some, None, Result, Ok, Err, ap, sym, refl, subst, arith}
use Rattle.std.specs.Prelude.{All, IfSome, find, nat_eq, nat_le}
use Rattle.std.specs.Cmp.Lexicographic.{pointwise}
use Rattle.std.specs.List.{list_any}
use Rattle.std.proofs.lemmas.Bool.{eqb-true, eq-eqb, ne_eqb, leb-false, lt-leb}
use Rattle.std.proofs.lemmas.List.{append-nil, length-map, map-append}
use Rattle.std.proofs.lemmas.List.Elements.{All-nil, All-cons, All-head, All-tail, All-append, All-weaker, filter-append}
use Rattle.std.proofs.lemmas.List.Filters.{length-filter_both}
use Rattle.subjects.specs.Subject.{Token}
use Rattle.permissions.specs.declared.verdict.Verdict.{Verdict}
use Rattle.permissions.specs.declared.verdict.Verdict.TheVariants.{Allowed, DeniedBy, NoAllow, NoQueueAllow}
use Rattle.policy_ready.specs.Users.{user_with_password}
use Rattle.policy_ready.specs.declared.ready.User.{User}
use Rattle.events.specs.declared.answer.Outcome.{Outcome}
use Rattle.events.specs.declared.answer.Outcome.TheVariants.{AuthViolation, Denied, Subscribed, SameSid, SubLimit}
use Rattle.events.specs.declared.refusal.HubRefusal.{HubRefusal}
use Rattle.events.specs.declared.refusal.HubRefusal.TheVariants.{SessionLimit}
use Rattle.world_sessions.specs.deliveries.Sessions.{session_of, with_session, new_session, drained}
use Rattle.world_sessions.specs.declared.deliveries.session.Session.{Session}
use Rattle.world_subscriptions.specs.Subscriptions.{stands, has_all, is_under, subscription_of}
use Rattle.world_subscriptions.specs.Limit.{has_ended, limit_of, limited, unended}
use Rattle.world_subscriptions.specs.Subscription.{Subscription}
use Rattle.world_routing.specs.World.{World}
use Rattle.world_routing.specs.Routing.{is_nil}
use Rattle.world_routing.specs.Publishing.{in_session}
use Rattle.world.specs.Transition.{closed, connected, in_new_session, numbered, subscribed, taken, unsubscribed}
use Rattle.tenant_laws.proofs.parts.Policy.{logins_in_part}
use Rattle.tenant_laws.specs.worlds.Tenants.{Tenants, has_session, has_subscription, sessions_of, subscriptions_of, unnumbered}
use Rattle.tenant_laws.specs.worlds.Laws.{AreMovedAlike, HasLeft}
use Rattle.tenant_laws.specs.worlds.Alike.{AreApart, ArePaired, HaveOneId, IsOwnSession, IsPartOf, IsSame, Pair, first_of, second_of}
use Rattle.tenant_laws.proofs.worlds.Sessions.{changed_kept, others_kept, session_kept}
use Rattle.tenant_laws.proofs.worlds.Pairs.{changed_subscriptions, kept_before, pairs_changed, test_kept, unchanged_subscriptions}
use Rattle.tenant_laws.proofs.worlds.Views.{nil_paired}

-- ---- lists

-- tests may be asked in either order
pub either_order : {X : Type 0} (p q : X → Bool) (xs : List X) → filter p (filter q xs) ≡ filter q (filter p xs)
either_order p q [] = refl
either_order {X} p q (x ∷ xs) = by (p x) (q x) refl refl (either_order p q xs)
  where
    by : (a b : Bool) → p x ≡ a → q x ≡ b → filter p (filter q xs) ≡ filter q (filter p xs) → filter p (cond b (x ∷ filter q xs) (filter q xs)) ≡ filter q (cond a (x ∷ filter p xs) (filter p xs))
    by true true e f later = rw (e, f) (ap (λ l. x ∷ l) later)
    by true false e f later = rw f later
    by false true e f later = rw e later
    by false false e f later = later

any_is : {X : Type 0} (q : X → Bool) (xs : List X) → list_any q xs ≡ not (is_nil (filter q xs))
any_is q [] = refl
any_is {X} q (x ∷ xs) = by (q x) (any_is q xs)
  where
    by : (b : Bool) → list_any q xs ≡ not (is_nil (filter q xs)) → (b || list_any q xs) ≡ not (is_nil (cond b (x ∷ filter q xs) (filter q xs)))
    by true later = refl
    by false later = later

-- what is found passes, and is as all are
pub found_all : {X : Type 0} (P : X → Type 0) (p : X → Bool) (xs : List X) → All P xs → IfSome (find p xs) (λ x. P x × (p x ≡ true))
found_all P p [] all = tt
found_all {X} P p (x ∷ xs) all = by (p x) refl (found_all P p xs (All-tail P x xs all))
  where
    by : (b : Bool) → p x ≡ b → IfSome (find p xs) (λ y. P y × (p y ≡ true)) → IfSome (cond b (Some x) (find p xs)) (λ y. P y × (p y ≡ true))
    by true e later = (All-head P x xs all, e)
    by false e later = later

-- ---- numbers

module _ (t : Tenants) where
  -- greater last numbers
  abbrev pub later_pairs : (m n j k : ℕ) (xs ys : List Subscription) → m ≤ j → n ≤ k → ArePaired t m n xs ys → ArePaired t j k xs ys
  later_pairs m n j k xs ys le le' P = record {
    pairs = P.pairs;
    first = P.first;
    second = P.second;
    same = P.same;
    ids = P.ids;
    within = P.within;
    given = All-weaker (λ (a : Pair). (a.0.id ≤ m) × (a.1.id ≤ n)) (λ (a : Pair). (a.0.id ≤ j) × (a.1.id ≤ k))
        (λ a is. (let h = is.0 in omega (arith, h, le), let h = is.1 in omega (arith, h, le'))) P.pairs P.given;
  }

  pub numbered_later : (w p : World) (j k : ℕ) → w.number ≤ j → p.number ≤ k → IsPartOf t w p → IsPartOf t (record w { number = j }) (record p { number = k })
  numbered_later w p j k le le' part = record {
    capacity = part.capacity;
    policy = part.policy;
    moment = part.moment;
    sessions = part.sessions;
    subscriptions = later_pairs w.number p.number j k (subscriptions_of t w.subscriptions) p.subscriptions le le' part.subscriptions;
    routes = part.routes;
  }

  module _ (w p : World) (part : IsPartOf t w p) (apart : AreApart t w) where
    same_session : (conn : ℕ) → t.connections conn ≡ true → session_of p.sessions conn ≡ session_of w.sessions conn
    same_session conn is = ap (λ zs. session_of zs conn) part.sessions ∙ session_kept t conn w.sessions is

    session_is : (conn : ℕ) → IfSome (session_of w.sessions conn) (λ z. IsOwnSession t z × ((z.conn == conn) ≡ true))
    session_is conn = found_all (IsOwnSession t) (λ (z : Session). z.conn == conn) w.sessions apart.sessions

    -- a command in a session of the tenants'
    pub in_own_session : (conn : ℕ) (f g : Session → Outcome × World) → t.connections conn ≡ true →
        ((z : Session) → t.connections z.conn ≡ true → t.accounts z.user.account ≡ true → AreMovedAlike t (numbered (w.number + 1) (Ok (f z))) (numbered (p.number + 1) (Ok (g z)))) →
        AreMovedAlike t (numbered (w.number + 1) (in_session (session_of w.sessions conn) f)) (numbered (p.number + 1) (in_session (session_of p.sessions conn) g))
    in_own_session conn f g is each =
        subst (λ o. AreMovedAlike t (numbered (w.number + 1) (in_session (session_of w.sessions conn) f)) (numbered (p.number + 1) (in_session o g))) (sym (same_session conn is))
        (by (session_of w.sessions conn) (session_is conn))
      where
        by : (o : Option Session) → IfSome o (λ z. IsOwnSession t z × ((z.conn == conn) ≡ true)) → AreMovedAlike t (numbered (w.number + 1) (in_session o f)) (numbered (p.number + 1) (in_session o g))
        by None of = refl
        by (Some z) of = let at : t.connections z.conn ≡ true = ap t.connections (eqb-true z.conn conn of.1) ∙ is in each z at (sym of.0 ∙ at)

    pub in_other_session : (conn : ℕ) (f : Session → Outcome × World) → t.connections conn ≡ false →
        ((z : Session) → t.connections z.conn ≡ false → t.accounts z.user.account ≡ false → HasLeft t p (numbered (w.number + 1) (Ok (f z)))) →
        HasLeft t p (numbered (w.number + 1) (in_session (session_of w.sessions conn) f))
    in_other_session conn f out each = by (session_of w.sessions conn) (session_is conn)
      where
        by : (o : Option Session) → IfSome o (λ z. IsOwnSession t z × ((z.conn == conn) ≡ true)) → HasLeft t p (numbered (w.number + 1) (in_session o f))
        by None of = tt
        by (Some z) of = let at : t.connections z.conn ≡ false = ap t.connections (eqb-true z.conn conn of.1) ∙ out in each z at (sym of.0 ∙ at)

    -- a world with other sessions and subscriptions
    pub part_with : (zs ys : List Session) (subs us : List Subscription) → ys ≡ sessions_of t zs → ArePaired t (w.number + 1) (p.number + 1) (subscriptions_of t subs) us →
        IsPartOf t (record w { sessions = zs; subscriptions = subs; number = w.number + 1 }) (record p { sessions = ys; subscriptions = us; number = p.number + 1 })
    part_with zs ys subs us sessions pairs = record {
      capacity = part.capacity;
      policy = part.policy;
      moment = part.moment;
      sessions = sessions;
      subscriptions = pairs;
      routes = part.routes;
    }

    pub left_with : (zs : List Session) (subs : List Subscription) → sessions_of t zs ≡ sessions_of t w.sessions → subscriptions_of t subs ≡ subscriptions_of t w.subscriptions →
        IsPartOf t (record w { sessions = zs; subscriptions = subs; number = w.number + 1 }) p
    left_with zs subs sessions pairs = record {
      capacity = part.capacity;
      policy = part.policy;
      moment = part.moment;
      sessions = part.sessions ∙ sym sessions;
      subscriptions = subst (λ xs. ArePaired t (w.number + 1) p.number xs p.subscriptions) (sym pairs)
          (later_pairs w.number p.number (w.number + 1) p.number (subscriptions_of t w.subscriptions) p.subscriptions (omega arith) (omega arith) part.subscriptions);
      routes = part.routes;
    }

    abbrev pairs_later : ArePaired t (w.number + 1) (p.number + 1) (subscriptions_of t w.subscriptions) p.subscriptions
    pairs_later = later_pairs w.number p.number (w.number + 1) (p.number + 1) (subscriptions_of t w.subscriptions) p.subscriptions (omega arith) (omega arith) part.subscriptions

    pub unmoved : (o : Outcome) → AreMovedAlike t (numbered (w.number + 1) (Ok (o, w))) (numbered (p.number + 1) (Ok (o, p)))
    unmoved o = (refl, part_with w.sessions p.sessions w.subscriptions p.subscriptions part.sessions pairs_later)

    pub left_unmoved : (o : Outcome) → HasLeft t p (numbered (w.number + 1) (Ok (o, w)))
    left_unmoved o = left_with w.sessions w.subscriptions refl refl

    -- ---- subscriptions

    is_theirs : (conn : ℕ) (sid : List ℕ) → t.connections conn ≡ true → (s : Subscription) → t.connections s.conn ≡ false → is_under conn sid s ≡ false
    is_theirs conn sid is s out = by (s.conn == conn) refl
      where
        by : (b : Bool) → (s.conn == conn) ≡ b → (b && pointwise nat_eq s.sid sid) ≡ false
        by true e = let no : false ≡ true = sym out ∙ ap t.connections (eqb-true s.conn conn e) ∙ is in absurd (cc)
        by false e = refl

    same_stands : (conn : ℕ) (sid : List ℕ) → t.connections conn ≡ true → stands p.subscriptions conn sid ≡ stands w.subscriptions conn sid
    same_stands conn sid is =
        any_is (is_under conn sid) p.subscriptions
        ∙ ap not (nil_paired t w.number p.number (filter (is_under conn sid) (subscriptions_of t w.subscriptions)) (filter (is_under conn sid) p.subscriptions)
        (test_kept t w.number p.number (is_under conn sid) (λ s. refl) (subscriptions_of t w.subscriptions) p.subscriptions part.subscriptions))
        ∙ ap (λ xs. not (is_nil xs)) (kept_before (is_under conn sid) (has_subscription t) w.subscriptions (λ k d h out. is_theirs conn sid is (get_or w.subscriptions k d) out))
        ∙ sym (any_is (is_under conn sid) w.subscriptions)

    same_length : (m n : ℕ) (xs ys : List Subscription) → ArePaired t m n xs ys → length ys ≡ length xs
    same_length m n xs ys P = ap length (sym P.second) ∙ length-map P.pairs second_of ∙ sym (length-map P.pairs first_of) ∙ ap length P.first

    same_quota : (conn : ℕ) → t.connections conn ≡ true → has_all p.subscriptions conn ≡ has_all w.subscriptions conn
    same_quota conn is =
        let q : Subscription → Bool = λ s. s.conn == conn in
        ap (nat_le 4096)
        (same_length w.number p.number (filter q (subscriptions_of t w.subscriptions)) (filter q p.subscriptions) (test_kept t w.number p.number q (λ s. refl) (subscriptions_of t w.subscriptions) p.subscriptions part.subscriptions)
        ∙ ap length (kept_before q (has_subscription t) w.subscriptions (λ k d h out. of (get_or w.subscriptions k d) out)))
      where
        of : (s : Subscription) → t.connections s.conn ≡ false → (s.conn == conn) ≡ false
        of s out = by (s.conn == conn) refl
          where
            by : (b : Bool) → (s.conn == conn) ≡ b → b ≡ false
            by true e = let no : false ≡ true = sym out ∙ ap t.connections (eqb-true s.conn conn e) ∙ is in absurd (cc)
            by false e = refl

    -- one subscription more on each side, under the next numbers
    one_more : (s u : Subscription) → s.id ≡ w.number + 1 → u.id ≡ p.number + 1 → unnumbered s ≡ unnumbered u → t.connections s.conn ≡ true →
        ArePaired t (w.number + 1) (p.number + 1) (subscriptions_of t (w.subscriptions ++ s ∷ [])) (p.subscriptions ++ u ∷ [])
    one_more s u sid uid same is =
        let P : ArePaired t w.number p.number (subscriptions_of t w.subscriptions) p.subscriptions = part.subscriptions in
        let L : ArePaired t (w.number + 1) (p.number + 1) (subscriptions_of t w.subscriptions) p.subscriptions = pairs_later in
        let both : Pair = (s, u) in
        let Given : Pair → Type 0 = λ a. (a.0.id ≤ w.number + 1) × (a.1.id ≤ p.number + 1) in
        let Within : Pair → Type 0 = λ a. t.connections a.0.conn ≡ true in
        let before : All (λ a. HaveOneId a both) P.pairs = λ k d h. let a : Pair = get_or P.pairs k d in let given = P.given k d h in
        ne_eqb a.0.id s.id (λ e. let l = given.0 in absurd (omega (arith, l, e, sid))) ∙ sym (ne_eqb a.1.id u.id (λ e. let l = given.1 in absurd (omega (arith, l, e, uid)))) in
        let behind : All (HaveOneId both) P.pairs = λ k d h. let a : Pair = get_or P.pairs k d in let given = P.given k d h in
        ne_eqb s.id a.0.id (λ e. let l = given.0 in absurd (omega (arith, l, e, sid))) ∙ sym (ne_eqb u.id a.1.id (λ e. let l = given.1 in absurd (omega (arith, l, e, uid)))) in
        let itself : HaveOneId both both = eq-eqb s.id s.id refl ∙ sym (eq-eqb u.id u.id refl) in
        record {
          pairs = P.pairs ++ both ∷ [];
          first = map-append first_of P.pairs (both ∷ []) ∙ ap (λ l. l ++ s ∷ []) P.first
              ∙ sym (filter-append (has_subscription t) w.subscriptions (s ∷ []) ∙ ap (λ b. subscriptions_of t w.subscriptions ++ cond b (s ∷ []) []) is);
          second = map-append second_of P.pairs (both ∷ []) ∙ ap (λ l. l ++ u ∷ []) P.second;
          same = All-append IsSame P.pairs (both ∷ []) P.same (All-cons IsSame both [] same (All-nil IsSame));
          ids = All-append (λ a. All (HaveOneId a) (P.pairs ++ both ∷ [])) P.pairs (both ∷ [])
              (λ k d h. All-append (HaveOneId (get_or P.pairs k d)) P.pairs (both ∷ []) (P.ids k d h) (All-cons (HaveOneId (get_or P.pairs k d)) both [] (before k d h) (All-nil (HaveOneId (get_or P.pairs k d)))))
              (All-cons (λ a. All (HaveOneId a) (P.pairs ++ both ∷ [])) both [] (All-append (HaveOneId both) P.pairs (both ∷ []) behind (All-cons (HaveOneId both) both [] itself (All-nil (HaveOneId both))))
              (All-nil (λ a. All (HaveOneId a) (P.pairs ++ both ∷ []))));
          within = All-append Within P.pairs (both ∷ []) P.within (All-cons Within both [] is (All-nil Within));
          given = All-append Given P.pairs (both ∷ []) L.given (All-cons Given both [] (omega (arith, sid), omega (arith, uid)) (All-nil Given));
        }

    pub subscribed_own : (conn : ℕ) (account : List ℕ) (q : List Token) (queue : Option (List Token)) (sid : List ℕ) (v : Verdict) → t.connections conn ≡ true →
        AreMovedAlike t (numbered (w.number + 1) (Ok (subscribed w conn account q queue sid v))) (numbered (p.number + 1) (Ok (subscribed p conn account q queue sid v)))
    subscribed_own conn account q queue sid (DeniedBy i) is = unmoved (Denied (DeniedBy i))
    subscribed_own conn account q queue sid NoAllow is = unmoved (Denied NoAllow)
    subscribed_own conn account q queue sid (NoQueueAllow i) is = unmoved (Denied (NoQueueAllow i))
    subscribed_own conn account q queue sid (Allowed by) is =
        let after : Bool → Bool → Outcome × World = λ a b.
        cond a (SameSid, p) (cond b (SubLimit, p) (Subscribed, record p { subscriptions = p.subscriptions ++ subscription_of (p.number + 1) conn account q queue sid ∷ [] })) in
        let P : Outcome × World → Type 0 = λ r. AreMovedAlike t (numbered (w.number + 1) (Ok (subscribed w conn account q queue sid (Allowed by)))) (numbered (p.number + 1) (Ok r)) in
        subst (λ b. P (after b (has_all p.subscriptions conn))) (sym (same_stands conn sid is))
        (subst (λ b. P (after (stands w.subscriptions conn sid) b)) (sym (same_quota conn is))
        (cases (stands w.subscriptions conn sid) (has_all w.subscriptions conn)))
      where
        cases : (a b : Bool) → AreMovedAlike t (numbered (w.number + 1) (Ok (cond a (SameSid, w) (cond b (SubLimit, w) (Subscribed, record w { subscriptions = w.subscriptions ++ subscription_of (w.number + 1) conn account q queue sid ∷ [] })))))
            (numbered (p.number + 1) (Ok (cond a (SameSid, p) (cond b (SubLimit, p) (Subscribed, record p { subscriptions = p.subscriptions ++ subscription_of (p.number + 1) conn account q queue sid ∷ [] })))))
        cases true b = unmoved SameSid
        cases false true = unmoved SubLimit
        cases false false = (
          refl,
          part_with w.sessions p.sessions (w.subscriptions ++ subscription_of (w.number + 1) conn account q queue sid ∷ []) (p.subscriptions ++ subscription_of (p.number + 1) conn account q queue sid ∷ []) part.sessions
              (one_more (subscription_of (w.number + 1) conn account q queue sid) (subscription_of (p.number + 1) conn account q queue sid) refl refl refl is),
        )

    pub subscribed_others : (conn : ℕ) (account : List ℕ) (q : List Token) (queue : Option (List Token)) (sid : List ℕ) (v : Verdict) → t.connections conn ≡ false →
        HasLeft t p (numbered (w.number + 1) (Ok (subscribed w conn account q queue sid v)))
    subscribed_others conn account q queue sid (DeniedBy i) out = left_unmoved (Denied (DeniedBy i))
    subscribed_others conn account q queue sid NoAllow out = left_unmoved (Denied NoAllow)
    subscribed_others conn account q queue sid (NoQueueAllow i) out = left_unmoved (Denied (NoQueueAllow i))
    subscribed_others conn account q queue sid (Allowed by) out = cases (stands w.subscriptions conn sid) (has_all w.subscriptions conn)
      where
        cases : (a b : Bool) → HasLeft t p (numbered (w.number + 1) (Ok (cond a (SameSid, w) (cond b (SubLimit, w) (Subscribed, record w { subscriptions = w.subscriptions ++ subscription_of (w.number + 1) conn account q queue sid ∷ [] })))))
        cases true b = left_unmoved SameSid
        cases false true = left_unmoved SubLimit
        cases false false =
            let s : Subscription = subscription_of (w.number + 1) conn account q queue sid in
            left_with w.sessions (w.subscriptions ++ s ∷ []) refl
            (filter-append (has_subscription t) w.subscriptions (s ∷ []) ∙ ap (λ b. subscriptions_of t w.subscriptions ++ cond b (s ∷ []) []) out ∙ append-nil (subscriptions_of t w.subscriptions))

    -- ---- limits

    limited_id : (conn : ℕ) (sid : List ℕ) (most : Option ℕ) (s : Subscription) → (limited conn sid most s).id ≡ s.id
    limited_id conn sid most s = by (is_under conn sid s)
      where
        by : (b : Bool) → (cond b (record s { most = Some (limit_of most) }) s).id ≡ s.id
        by true = refl
        by false = refl

    limited_conn : (conn : ℕ) (sid : List ℕ) (most : Option ℕ) (s : Subscription) → (limited conn sid most s).conn ≡ s.conn
    limited_conn conn sid most s = by (is_under conn sid s)
      where
        by : (b : Bool) → (cond b (record s { most = Some (limit_of most) }) s).conn ≡ s.conn
        by true = refl
        by false = refl

    limited_blind : (conn : ℕ) (sid : List ℕ) (most : Option ℕ) (s : Subscription) → unnumbered (limited conn sid most s) ≡ unnumbered (limited conn sid most (unnumbered s))
    limited_blind conn sid most s = by (is_under conn sid s)
      where
        by : (b : Bool) → unnumbered (cond b (record s { most = Some (limit_of most) }) s) ≡ unnumbered (cond b (record (unnumbered s) { most = Some (limit_of most) }) (unnumbered s))
        by true = refl
        by false = refl

    pub unsubscribed_own : (conn : ℕ) (sid : List ℕ) (most : Option ℕ) →
        AreMovedAlike t (numbered (w.number + 1) (Ok (unsubscribed w conn sid most))) (numbered (p.number + 1) (Ok (unsubscribed p conn sid most)))
    unsubscribed_own conn sid most =
        let f : Subscription → Subscription = limited conn sid most in
        let j : ℕ = w.number + 1 in
        let k : ℕ = p.number + 1 in (
          refl,
          part_with w.sessions p.sessions (unended (map f w.subscriptions)) (unended (map f p.subscriptions)) part.sessions
              (subst (λ xs. ArePaired t j k xs (unended (map f p.subscriptions))) (sym (changed_subscriptions t f (limited_conn conn sid most) w.subscriptions))
              (test_kept t j k (λ s. not (has_ended s)) (λ s. refl) (map f (subscriptions_of t w.subscriptions)) (map f p.subscriptions)
              (pairs_changed t j k f (limited_id conn sid most) (limited_conn conn sid most) (limited_blind conn sid most) (subscriptions_of t w.subscriptions) p.subscriptions pairs_later))),
        )

    pub unsubscribed_others : (conn : ℕ) (sid : List ℕ) (most : Option ℕ) → t.connections conn ≡ false → HasLeft t p (numbered (w.number + 1) (Ok (unsubscribed w conn sid most)))
    unsubscribed_others conn sid most out =
        let f : Subscription → Subscription = limited conn sid most in
        left_with w.sessions (unended (map f w.subscriptions)) refl
        (unchanged_subscriptions t f (limited_conn conn sid most) w.subscriptions apart.standing
        (λ s is. ap (λ b. cond b (record s { most = Some (limit_of most) }) s) (elsewhere s is)))
      where
        elsewhere : (s : Subscription) → t.connections s.conn ≡ true → is_under conn sid s ≡ false
        elsewhere s is = by (s.conn == conn) refl
          where
            by : (b : Bool) → (s.conn == conn) ≡ b → (b && pointwise nat_eq s.sid sid) ≡ false
            by true e = let no : false ≡ true = sym out ∙ ap t.connections (sym (eqb-true s.conn conn e)) ∙ is in absurd (cc)
            by false e = refl

    -- ---- deliveries that are taken, and the end of a session

    pub taken_own : (conn most : ℕ) (z : Session) → t.connections conn ≡ true →
        AreMovedAlike t (numbered (w.number + 1) (Ok (taken w conn most z))) (numbered (p.number + 1) (Ok (taken p conn most z)))
    taken_own conn most z is = (
      refl,
      part_with (with_session (drained most) conn w.sessions) (with_session (drained most) conn p.sessions) w.subscriptions p.subscriptions
          (ap (with_session (drained most) conn) part.sessions ∙ sym (changed_kept t (drained most) (λ z. refl) conn w.sessions is)) pairs_later,
    )

    pub taken_others : (conn most : ℕ) (z : Session) → t.connections conn ≡ false → HasLeft t p (numbered (w.number + 1) (Ok (taken w conn most z)))
    taken_others conn most z out = left_with (with_session (drained most) conn w.sessions) w.subscriptions (others_kept t (drained most) (λ z. refl) conn w.sessions out) refl

    pub closed_own : (conn : ℕ) → AreMovedAlike t (numbered (w.number + 1) (Ok (closed w conn))) (numbered (p.number + 1) (Ok (closed p conn)))
    closed_own conn =
        let q : Session → Bool = λ z. not (z.conn == conn) in
        let r : Subscription → Bool = λ s. not (s.conn == conn) in (
          refl,
          part_with (filter q w.sessions) (filter q p.sessions) (filter r w.subscriptions) (filter r p.subscriptions)
              (ap (filter q) part.sessions ∙ either_order q (has_session t) w.sessions)
              (subst (λ xs. ArePaired t (w.number + 1) (p.number + 1) xs (filter r p.subscriptions)) (either_order r (has_subscription t) w.subscriptions)
              (test_kept t (w.number + 1) (p.number + 1) r (λ s. refl) (subscriptions_of t w.subscriptions) p.subscriptions pairs_later)),
        )

    pub closed_others : (conn : ℕ) → t.connections conn ≡ false → HasLeft t p (numbered (w.number + 1) (Ok (closed w conn)))
    closed_others conn out =
        let q : Session → Bool = λ z. not (z.conn == conn) in
        let r : Subscription → Bool = λ s. not (s.conn == conn) in
        left_with (filter q w.sessions) (filter r w.subscriptions)
        (still (has_session t) q (λ z is. ap not (elsewhere z.conn is)) w.sessions)
        (still (has_subscription t) r (λ s is. ap not (elsewhere s.conn is)) w.subscriptions)
      where
        elsewhere : (c : ℕ) → t.connections c ≡ true → (c == conn) ≡ false
        elsewhere c is = ne_eqb c conn (λ e. let no : false ≡ true = sym out ∙ ap t.connections (sym e) ∙ is in absurd (cc))

        still : {X : Type 0} (k q : X → Bool) → ((x : X) → k x ≡ true → q x ≡ true) → (xs : List X) → filter k (filter q xs) ≡ filter k xs
        still k q leads [] = refl
        still {X} k q leads (x ∷ xs) = by (k x) refl (q x) refl (still k q leads xs)
          where
            by : (a : Bool) → k x ≡ a → (b : Bool) → q x ≡ b → filter k (filter q xs) ≡ filter k xs → filter k (cond b (x ∷ filter q xs) (filter q xs)) ≡ cond a (x ∷ filter k xs) (filter k xs)
            by true e true f later = rw e (ap (λ l. x ∷ l) later)
            by true e false f later = let no : false ≡ true = sym f ∙ leads x e in absurd (cc)
            by false e true f later = rw e later
            by false e false f later = later

    -- ---- a session more

    connected_with : (conn : ℕ) (echo : Bool) → t.connections conn ≡ true → (u : Option User) →
        AreMovedAlike t (numbered (w.number + 1) (Ok (connected w conn echo u))) (numbered (p.number + 1) (Ok (connected p conn echo u)))
    connected_with conn echo is None = unmoved AuthViolation
    connected_with conn echo is (Some u) =
        let z : ℕ → Session = λ capacity. new_session conn u echo capacity in (
          refl,
          part_with (w.sessions ++ z w.capacity ∷ []) (p.sessions ++ z p.capacity ∷ []) w.subscriptions p.subscriptions
              (ap (λ zs. zs ++ z p.capacity ∷ []) part.sessions ∙ ap (λ c. sessions_of t w.sessions ++ z c ∷ []) part.capacity
              ∙ sym (filter-append (has_session t) w.sessions (z w.capacity ∷ []) ∙ ap (λ b. sessions_of t w.sessions ++ cond b (z w.capacity ∷ []) []) is)) pairs_later,
        )

    -- a Connect of the tenants that isn't refused for want of room
    pub connected_own : (conn : ℕ) (name : Option (List ℕ)) (password : List ℕ) (echo : Bool) → t.connections conn ≡ true →
        IfSome (user_with_password w.policy name password) (λ (u : User). t.accounts u.account ≡ true) → (session_of w.sessions conn ≡ None → nat_le 4096 (length w.sessions) ≡ false) →
        AreMovedAlike t (numbered (w.number + 1) (in_new_session w (session_of w.sessions conn) (connected w conn echo (user_with_password w.policy name password))))
        (numbered (p.number + 1) (in_new_session p (session_of p.sessions conn) (connected p conn echo (user_with_password p.policy name password))))
    connected_own conn name password echo is theirs room =
        let P : Result (Outcome × World) HubRefusal → Type 0 = λ r.
        AreMovedAlike t (numbered (w.number + 1) (in_new_session w (session_of w.sessions conn) (connected w conn echo (user_with_password w.policy name password)))) (numbered (p.number + 1) r) in
        subst (λ o. P (in_new_session p o (connected p conn echo (user_with_password p.policy name password)))) (sym (same_session conn is))
        (subst (λ u. P (in_new_session p (session_of w.sessions conn) (connected p conn echo u))) (sym user) (by (session_of w.sessions conn) refl))
      where
        user : user_with_password p.policy name password ≡ user_with_password w.policy name password
        user = ap (λ doc. user_with_password doc name password) part.policy ∙ logins_in_part t.accounts w.policy name password theirs

        fewer : nat_le 4096 (length w.sessions) ≡ false → nat_le 4096 (length p.sessions) ≡ false
        fewer some =
            let both : length (sessions_of t w.sessions) + length (filter (λ (z : Session). not (has_session t z)) w.sessions) ≡ length w.sessions = length-filter_both (has_session t) (λ (z : Session). not (has_session t z)) (λ z. refl) w.sessions in
            let below = leb-false 4096 (length w.sessions) some in
            lt-leb 4096 (length p.sessions) (let e : length p.sessions ≡ length (sessions_of t w.sessions) = ap length part.sessions in omega (arith, both, below, e))

        by : (o : Option Session) → session_of w.sessions conn ≡ o → AreMovedAlike t (numbered (w.number + 1) (in_new_session w o (connected w conn echo (user_with_password w.policy name password))))
            (numbered (p.number + 1) (in_new_session p o (connected p conn echo (user_with_password w.policy name password))))
        by (Some z) at = refl
        by None at =
            subst (λ b. AreMovedAlike t (numbered (w.number + 1) (cond b (Err SessionLimit) (Ok (connected w conn echo (user_with_password w.policy name password)))))
            (numbered (p.number + 1) (cond (nat_le 4096 (length p.sessions)) (Err SessionLimit) (Ok (connected p conn echo (user_with_password w.policy name password)))))) (sym (room at))
            (subst (λ b. AreMovedAlike t (numbered (w.number + 1) (Ok (connected w conn echo (user_with_password w.policy name password))))
            (numbered (p.number + 1) (cond b (Err SessionLimit) (Ok (connected p conn echo (user_with_password w.policy name password)))))) (sym (fewer (room at)))
            (connected_with conn echo is (user_with_password w.policy name password)))

    pub connected_others : (conn : ℕ) (name : Option (List ℕ)) (password : List ℕ) (echo : Bool) → t.connections conn ≡ false →
        HasLeft t p (numbered (w.number + 1) (in_new_session w (session_of w.sessions conn) (connected w conn echo (user_with_password w.policy name password))))
    connected_others conn name password echo out = each (session_of w.sessions conn)
      where
        by : (b : Bool) (u : Option User) → HasLeft t p (numbered (w.number + 1) (cond b (Err SessionLimit) (Ok (connected w conn echo u))))
        by true u = tt
        by false None = left_unmoved AuthViolation
        by false (Some u) =
            let z : Session = new_session conn u echo w.capacity in
            left_with (w.sessions ++ z ∷ []) w.subscriptions
            (filter-append (has_session t) w.sessions (z ∷ []) ∙ ap (λ c. sessions_of t w.sessions ++ cond c (z ∷ []) []) out ∙ append-nil (sessions_of t w.sessions)) refl

        each : (o : Option Session) → HasLeft t p (numbered (w.number + 1) (in_new_session w o (connected w conn echo (user_with_password w.policy name password))))
        each (Some z) = tt
        each None = by (nat_le 4096 (length w.sessions)) (user_with_password w.policy name password)
