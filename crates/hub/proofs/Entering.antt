-- What items of a message tell of one subscription, and how often it is counted.
use Rattle.std.proofs.Common.{◌≡◌, ◌∙◌, ◌==◌, ◌+◌, ◌<◌, ◌≤◌, ◌&&◌, ◌||◌, ℕ, Bool, true, false, cond, List, [], ◌∷◌, ◌++◌, map, filter, length, Option, Some, None, ap, sym, refl, arith, nat_lt, nat_le}
use Rattle.std.specs.Prelude.{All, AllPairs, min, nat_eq}
use Rattle.std.specs.Cmp.Lexicographic.{pointwise}
use Rattle.std.proofs.Math.Nat.{min-eq_left, min-eq_right, min-le_left, min-le_right}
use Rattle.std.proofs.lemmas.Bool.{eqb-true, ltb-true, ltb-false, leb-true, leb-false, le-ltb}
use Rattle.std.proofs.lemmas.List.{length-append}
use Rattle.std.proofs.lemmas.List.Elements.{All-head, All-tail, filter-append}
use Rattle.std.proofs.lemmas.Slice.Eq.{bytes_eq-Decides}
use Rattle.events.specs.declared.answer.Item.{Item}
use Rattle.events.specs.declared.answer.Item.TheVariants.{Entered, Full, RouteFull, MapTooLong, Unmapped, MappedTooLong}
use Rattle.world_subscriptions.specs.Limit.{is_entry_for, has_entered, counted}
use Rattle.world_rows.specs.declared.subscription.Subscription.{Subscription}
use Rattle.hub.specs.Sound.{has_same_sid, is_below, is_to_receive}
use Rattle.hub.specs.Guarantee.{item_names, names_of, times_entered, received_more}
use Rattle.hub.proofs.Finds.{AllPairs-head, AllPairs-tail}
use Rattle.hub.proofs.Soundness.{KeepsSubscription}

-- ---- the count

-- one message more, where one has entered
pub count-one : (bound r n : ℕ) (h : Bool) → r ≡ min bound n → cond (h && nat_lt r bound) (r + 1) r ≡ min bound (n + cond h 1 0)
count-one bound r n false is = is ∙ ap (min bound) (let e : n ≡ n + 0 = omega arith in e)
count-one bound r n true is = here (nat_lt r bound) refl
  where
    below : r < bound → r + 1 ≡ min bound (n + 1)
    below less = by_room (nat_le bound n) refl
      where
        by_room : (b : Bool) → nat_le bound n ≡ b → r + 1 ≡ min bound (n + 1)
        by_room true h = absurd (let e : r ≡ bound = is ∙ min-eq_left (leb-true bound n h) in omega (arith, e, less))
        by_room false h =
            let l : n < bound = leb-false bound n h in
            let e : r ≡ n = is ∙ min-eq_right (omega (arith, l)) in
            ap (λ k. k + 1) e ∙ sym (min-eq_right (omega (arith, l)))

    here : (b : Bool) → nat_lt r bound ≡ b → cond b (r + 1) r ≡ min bound (n + 1)
    here true h = below (ltb-true r bound h)
    here false h =
        let l : bound ≤ r = ltb-false r bound h in
        let m : min bound n ≤ n = min-le_right bound n in
        let k : bound ≤ n = omega (arith, l, m, is) in
        is ∙ min-eq_left k ∙ sym (min-eq_left (omega (arith, k)))

-- ---- whose an item is

-- an item of another subscription isn't its own
none-of : (s : Subscription) (conn : ℕ) (sid : List ℕ) (item : Item) (t : Subscription) → s.conn ≡ conn → s.sid ≡ sid → (item_names item ≡ Some (names_of t)) → ((conn == t.conn) && pointwise nat_eq sid t.sid) ≡ false → is_entry_for s item ≡ false
none-of s conn sid (Entered c b) t same_conn same_sid names apart =
    let same : (c, b) ≡ names_of t = cc in
    ap (λ n. (n == c) && pointwise nat_eq s.sid b) same_conn
    ∙ ap (λ x. (conn == c) && pointwise nat_eq x b) same_sid
    ∙ ap (λ (n : ℕ × List ℕ). (conn == n.0) && pointwise nat_eq sid n.1) same
    ∙ apart
none-of s conn sid (Full c b) t same_conn same_sid names apart = refl
none-of s conn sid (RouteFull row) t same_conn same_sid names apart = refl
none-of s conn sid (MapTooLong row) t same_conn same_sid names apart = refl
none-of s conn sid Unmapped t same_conn same_sid names apart = refl
none-of s conn sid (MappedTooLong index) t same_conn same_sid names apart = refl

and-both : (a b : Bool) → (a && b) ≡ true → (a ≡ true) × (b ≡ true)
and-both true b h = (refl, h)
and-both false b h = absurd (cc)

-- whose an item is
is-of : (s : Subscription) (item : Item) (t : Subscription) → item_names item ≡ Some (names_of t) → is_entry_for s item ≡ true → (s.conn ≡ t.conn) × (s.sid ≡ t.sid)
is-of s (Entered c b) t names is =
    let same : (c, b) ≡ names_of t = cc in
    let both = and-both (s.conn == c) (pointwise nat_eq s.sid b) is in (
      eqb-true s.conn c both.0 ∙ ap (λ (n : ℕ × List ℕ). n.0) same,
      (bytes_eq-Decides s.sid b).0 both.1 ∙ ap (λ (n : ℕ × List ℕ). n.1) same,
    )
is-of s (Full c b) t names is = absurd (cc)
is-of s (RouteFull row) t names is = absurd (cc)
is-of s (MapTooLong row) t names is = absurd (cc)
is-of s Unmapped t names is = absurd (cc)
is-of s (MappedTooLong index) t names is = absurd (cc)

-- the subscriptions that items name
abbrev pub named : Subscription → Option (ℕ × List ℕ)
named sub = Some (names_of sub)

-- where one is its own, the others aren't
others : (s x : Subscription) (subs : List Subscription) (items : List Item) → map item_names items ≡ map named subs → s.conn ≡ x.conn → s.sid ≡ x.sid → All (λ t. has_same_sid x t ≡ false) subs → has_entered items s ≡ false
others s x subs [] names same_conn same_sid apart = refl
others s x [] (i ∷ items) names same_conn same_sid apart = absurd (cc)
others s x (t ∷ subs) (i ∷ items) names same_conn same_sid apart =
    let first : item_names i ≡ named t = cc in
    let rest : map item_names items ≡ map named subs = cc in
    ap (λ b. b || has_entered items s) (none-of s x.conn x.sid i t same_conn same_sid first (All-head (λ y. has_same_sid x y ≡ false) t subs apart))
    ∙ others s x subs items rest same_conn same_sid (All-tail (λ y. has_same_sid x y ≡ false) t subs apart)

-- of the items of one view one at most is its own
pub once : (s : Subscription) (subs : List Subscription) (items : List Item) → map item_names items ≡ map named subs → AllPairs (λ x t. has_same_sid x t ≡ false) subs →
    times_entered items s ≡ cond (has_entered items s) 1 0
once s subs [] names apart = refl
once s [] (i ∷ items) names apart = absurd (cc)
once s (x ∷ subs) (i ∷ items) names apart =
    let first : item_names i ≡ named x = cc in
    let rest : map item_names items ≡ map named subs = cc in
    here (is_entry_for s i) first rest refl (once s subs items rest (AllPairs-tail (λ y t. has_same_sid y t ≡ false) x subs apart))
  where
    found : List Item
    found = filter (is_entry_for s) items

    here : (b : Bool) → item_names i ≡ named x → map item_names items ≡ map named subs → is_entry_for s i ≡ b → length found ≡ cond (has_entered items s) 1 0 →
        length (cond b (i ∷ found) found) ≡ cond (b || has_entered items s) 1 0
    here false first rest is later = later
    here true first rest is later =
        let own = is-of s i x first is in
        let none : has_entered items s ≡ false = others s x subs items rest own.0 own.1 (AllPairs-head (λ y t. has_same_sid y t ≡ false) x subs apart) in
        let nothing : length found ≡ 0 = later ∙ ap (λ b. cond b 1 0) none in
        omega (arith, nothing)

-- ---- counting more

-- items that were told before, and then these
pub times-append : (told items : List Item) (s : Subscription) → times_entered (told ++ items) s ≡ times_entered told s + times_entered items s
times-append told items s =
    ap (λ (l : List Item). length l) (filter-append (is_entry_for s) told items) ∙ length-append (filter (is_entry_for s) told) (filter (is_entry_for s) items)

-- counting changes nothing but the count
pub received-keeps : (items : List Item) → KeepsSubscription (received_more items)
received-keeps items = record { id = λ s. refl; conn = λ s. refl; account = λ s. refl; subject = λ s. refl; queue = λ s. refl; sid = λ s. refl; received = λ s few. min-le_left 18446744073709551615 (s.received + times_entered items s) }

pub received-none : (s : Subscription) → s.received ≤ 18446744073709551615 → received_more [] s ≡ s
received-none s few = ap (λ n. record s { received = n }) (min-eq_right (omega (arith, few)) ∙ (let e : s.received + 0 ≡ s.received = omega arith in e))

-- the two readings of an item, before and after the count
entry-again : (told : List Item) (s : Subscription) (item : Item) → is_entry_for (received_more told s) item ≡ is_entry_for s item
entry-again told s (Entered conn sid) = refl
entry-again told s (Full conn sid) = refl
entry-again told s (RouteFull row) = refl
entry-again told s (MapTooLong row) = refl
entry-again told s Unmapped = refl
entry-again told s (MappedTooLong index) = refl

entered-again : (told items : List Item) (s : Subscription) → has_entered items (received_more told s) ≡ has_entered items s
entered-again told [] s = refl
entered-again told (i ∷ items) s =
    ap (λ b. b || has_entered items (received_more told s)) (entry-again told s i) ∙ ap (λ b. is_entry_for s i || b) (entered-again told items s)

-- a subscription that one of these items at most tells of counts that one more
pub counted-more : (told items : List Item) (s : Subscription) → times_entered items s ≡ cond (has_entered items s) 1 0 → counted items (received_more told s) ≡ received_more (told ++ items) s
counted-more told items s one =
    ap (λ h. with_one (h && nat_lt now 18446744073709551615)) (entered-again told items s)
    ∙ as_number (has_entered items s && nat_lt now 18446744073709551615)
    ∙ ap (λ n. record s { received = n }) (count-one 18446744073709551615 now (s.received + times_entered told s) (has_entered items s) refl ∙ ap (min 18446744073709551615) more)
  where
    now : ℕ
    now = min 18446744073709551615 (s.received + times_entered told s)

    with_one : Bool → Subscription
    with_one b = cond b (record s { received = now + 1 }) (record s { received = now })

    as_number : (b : Bool) → with_one b ≡ record s { received = cond b (now + 1) now }
    as_number true = refl
    as_number false = refl

    more : (s.received + times_entered told s) + cond (has_entered items s) 1 0 ≡ s.received + times_entered (told ++ items) s
    more = let e = times-append told items s in omega (arith, e, one)

-- what has ended stays so
pub ended-more : (told items : List Item) (s : Subscription) → is_to_receive (received_more told s) ≡ false → is_to_receive (received_more (told ++ items) s) ≡ false
ended-more told items s = here s.most
  where
    before : ℕ
    before = min 18446744073709551615 (s.received + times_entered told s)

    after : ℕ
    after = min 18446744073709551615 (s.received + times_entered (told ++ items) s)

    rises : before ≤ after
    rises = let e = times-append told items s in omega (arith, e)

    here : (most : Option ℕ) → is_below most before ≡ false → is_below most after ≡ false
    here None is = absurd (cc)
    here (Some most) is = le-ltb after most (let l : most ≤ before = ltb-false before most is in omega (arith, l, rises))
