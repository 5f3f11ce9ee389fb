-- What deliveries leave of subscriptions: those that still stand behind them, each with what it has counted.
use Rattle.std.proofs.Common.{◌≡◌, ◌∙◌, ◌==◌, ◌&&◌, ◌+◌, ◌-◌, ◌≤◌, ℕ, suc, zero, Bool, true, false, cond, not, List, [], ◌∷◌, ◌++◌, Option, Some, None, nat_lt, nat_le, map, filter, ap, sym, refl, arith}
use Rattle.std.proofs.lemmas.Bool.{eqb-true, eq-eqb, ltb-true, ltb-false}
use Rattle.std.proofs.lemmas.Bool.Decides.{nat_tests}
use Rattle.std.proofs.lemmas.List.{map-id}
use Rattle.subjects.specs.Subject.{Token}
use Rattle.events.specs.Messages.{Message}
use Rattle.events.specs.declared.answer.Addressed.{Addressed}
use Rattle.events.specs.declared.answer.Item.{Item}
use Rattle.events.specs.declared.answer.Item.TheVariants.{Entered, Full}
use Rattle.world_sessions.specs.deliveries.Delivered.{delivered}
use Rattle.world_sessions.specs.deliveries.Planned.{rooms_of, with_room, planned}
use Rattle.world_sessions.specs.declared.deliveries.session.Session.{Session}
use Rattle.world_sessions.proofs.deliveries.Plans.{planned-delivered}
use Rattle.world_subscriptions.specs.Addressing.{addressed_to}
use Rattle.world_subscriptions.specs.Changes.{only, bumped}
use Rattle.world_subscriptions.specs.Counting.{in_turn, entered_ids}
use Rattle.world_subscriptions.specs.Kept.{Apart}
use Rattle.world_subscriptions.specs.Limit.{is_reached, has_ended, unended}
use Rattle.world_subscriptions.specs.Subscriptions.{has_subject}
use Rattle.world_subscriptions.proofs.Apart.{all_names}
use Rattle.world_subscriptions.proofs.Counting.{NamesOnly, AllNameOnly, bumped-ended}
use Rattle.world_subscriptions.proofs.Ends.{bumped-id}
use Rattle.world_rows.specs.declared.subscription.Subscription.{Subscription}
use Rattle.world_subscriptions.specs.groups.Served.{served}
use Rattle.receivers.specs.views.Open.{is_open}
use Rattle.receivers.specs.views.Receivers.{addressed_among}
use Rattle.world_views.specs.addressing.Standing.{is_nil, times_entering, counted_more, stands_behind, standing_among, addressed_behind_in}
use Rattle.receivers.proofs.cache.Stays.{made, bumped-made, bumped-most, served-map}

-- ---- counted in turn

-- how often an id is among others
abbrev pub times : ℕ → List ℕ → ℕ
times id [] = 0
times id (other ∷ ids) = cond (id == other) (suc (times id ids)) (times id ids)

-- a subscription that has counted a message for each of these ids that is its own
abbrev pub bumps : List ℕ → Subscription → Subscription
bumps [] s = s
bumps (id ∷ ids) s = bumps ids (only bumped id s)

bumps_are : (ids : List ℕ) (s : Subscription) → bumps ids s ≡ counted_more (times s.id ids) s
bumps_are [] s = refl
bumps_are (id ∷ ids) s = here (s.id == id) (bumps_are ids s) (bumps_are ids (bumped s))
  where
    here : (b : Bool) → bumps ids s ≡ counted_more (times s.id ids) s → bumps ids (bumped s) ≡ counted_more (times (bumped s).id ids) (bumped s) →
        bumps ids (cond b (bumped s) s) ≡ counted_more (cond b (suc (times s.id ids)) (times s.id ids)) s
    here true stays more = more ∙ ap (λ n. counted_more (times n ids) (bumped s)) (bumped-id s)
    here false stays more = stays

only-ended : (id : ℕ) (s : Subscription) → has_ended s ≡ true → has_ended (only bumped id s) ≡ true
only-ended id s h = here (s.id == id)
  where
    here : (b : Bool) → has_ended (cond b (bumped s) s) ≡ true
    here true = bumped-ended s h
    here false = h

bumps-ended : (ids : List ℕ) (s : Subscription) → has_ended s ≡ true → has_ended (bumps ids s) ≡ true
bumps-ended [] s h = h
bumps-ended (id ∷ ids) s h = bumps-ended ids (only bumped id s) (only-ended id s h)

pub bumps-made : (ids : List ℕ) (s : Subscription) → made (bumps ids s) ≡ made s
bumps-made [] s = refl
bumps-made (id ∷ ids) s = bumps-made ids (only bumped id s) ∙ bumped-made id s

-- what has ended in between has ended in the end
through : (f : Subscription → Subscription) → ((s : Subscription) → has_ended s ≡ true → has_ended (f s) ≡ true) → (xs : List Subscription) →
    unended (map f (unended xs)) ≡ unended (map f xs)
through f ended [] = refl
through f ended (x ∷ xs) = here (has_ended x) refl (through f ended xs)
  where
    here : (b : Bool) → has_ended x ≡ b → unended (map f (unended xs)) ≡ unended (map f xs) →
        unended (map f (cond (not b) (x ∷ unended xs) (unended xs))) ≡ cond (not (has_ended (f x))) (f x ∷ unended (map f xs)) (unended (map f xs))
    here true is later = later ∙ sym (ap (λ b. cond (not b) (f x ∷ unended (map f xs)) (unended (map f xs))) (ended x is))
    here false is later = ap (λ more. cond (not (has_ended (f x))) (f x ∷ more) more) later

unended_twice : (xs : List Subscription) → unended (unended xs) ≡ unended xs
unended_twice [] = refl
unended_twice (x ∷ xs) = here (has_ended x) refl (unended_twice xs)
  where
    here : (b : Bool) → has_ended x ≡ b → unended (unended xs) ≡ unended xs →
        unended (cond (not b) (x ∷ unended xs) (unended xs)) ≡ cond (not b) (x ∷ unended xs) (unended xs)
    here true is later = later
    here false is later = ap (λ b. cond (not b) (x ∷ unended (unended xs)) (unended (unended xs))) is ∙ ap (λ more. x ∷ more) later

map_twice : (f g : Subscription → Subscription) (xs : List Subscription) → map f (map g xs) ≡ map (λ x. f (g x)) xs
map_twice f g [] = refl
map_twice f g (x ∷ xs) = ap (λ more. f (g x) ∷ more) (map_twice f g xs)

-- counted in turn, those are left that haven't ended in the end
pub in_turn_is : (ids : List ℕ) (subs : List Subscription) → unended subs ≡ subs → in_turn ids subs ≡ unended (map (bumps ids) subs)
in_turn_is [] subs going = sym (ap unended (map-id subs) ∙ going)
in_turn_is (id ∷ ids) subs going =
    in_turn_is ids (unended (map (only bumped id) subs)) (unended_twice (map (only bumped id) subs))
    ∙ through (bumps ids) (bumps-ended ids) (map (only bumped id) subs)
    ∙ ap unended (map_twice (bumps ids) (only bumped id) subs)

-- of these, those that pass a test that doesn't go by what was counted
pub left_passing : (f : Subscription → Subscription) (p : Subscription → Bool) → ((s : Subscription) → p (f s) ≡ p s) → (subs : List Subscription) →
    filter p (unended (map f subs)) ≡ map f (filter (λ s. p s && not (has_ended (f s))) subs)
left_passing f p same [] = refl
left_passing f p same (s ∷ subs) = here (has_ended (f s)) (p s) (same s) (left_passing f p same subs)
  where
    rest : List Subscription
    rest = map f (filter (λ s. p s && not (has_ended (f s))) subs)

    here : (b c : Bool) → p (f s) ≡ c → filter p (unended (map f subs)) ≡ rest →
        filter p (cond (not b) (f s ∷ unended (map f subs)) (unended (map f subs))) ≡ map f (cond (c && not b) (s ∷ filter (λ s. p s && not (has_ended (f s))) subs) (filter (λ s. p s && not (has_ended (f s))) subs))
    here true true is later = later
    here true false is later = later
    here false true is later = ap (λ b. cond b (f s ∷ filter p (unended (map f subs))) (filter p (unended (map f subs)))) is ∙ ap (λ more. f s ∷ more) later
    here false false is later = ap (λ b. cond b (f s ∷ filter p (unended (map f subs))) (filter p (unended (map f subs)))) is ∙ later

-- whom a message is for, and its deliveries, don't go by what was counted
pub addressed_counted : (ids : List ℕ) (m : Message) (word : ℕ) (xs : List Subscription) →
    map (addressed_to m) (served word (map (bumps ids) xs)) ≡ map (addressed_to m) (served word xs)
addressed_counted ids m word xs = ap (map (addressed_to m)) (served-map (bumps ids) (bumps-made ids) word xs) ∙ same (served word xs)
  where
    same : (ys : List Subscription) → map (addressed_to m) (map (bumps ids) ys) ≡ map (addressed_to m) ys
    same [] = refl
    same (y ∷ ys) = (λ i. addressed_to m (bumps-made ids y i) ∷ same ys i)

-- ---- limits

-- without a limit a subscription never ends
pub never_ends : (n : ℕ) (s : Subscription) → s.most ≡ None → has_ended (counted_more n s) ≡ false
never_ends zero s none = ap (λ (o : Option ℕ). is_reached o s.received) none
never_ends (suc n) s none = never_ends n (bumped s) (bumped-most s ∙ none)

by_bump : (most r n : ℕ) (s : Subscription) →
    (nat_lt s.received 18446744073709551615 ≡ true → nat_le most r ≡ has_ended (counted_more n (record s { received = s.received + 1 }))) →
    (nat_lt s.received 18446744073709551615 ≡ false → nat_le most r ≡ has_ended (counted_more n s)) →
    nat_le most r ≡ has_ended (counted_more n (bumped s))
by_bump most r n s more same = here (nat_lt s.received 18446744073709551615) refl
  where
    here : (b : Bool) → nat_lt s.received 18446744073709551615 ≡ b → nat_le most r ≡ has_ended (counted_more n (cond b (record s { received = s.received + 1 }) s))
    here true is = more is
    here false is = same is

-- with one it has where so many messages more reach it; the count stays at 2^64 - 1
pub ended_more : (most r n : ℕ) (s : Subscription) → s.most ≡ Some most → s.received ≤ 18446744073709551615 →
    (s.received + n ≤ 18446744073709551615 → r ≡ s.received + n) → (18446744073709551615 ≤ s.received + n → r ≡ 18446744073709551615) →
    nat_le most r ≡ has_ended (counted_more n s)
ended_more most r zero s is small below above =
    ap (nat_le most) (let e = below (omega (arith, small)) in omega (arith, e)) ∙ sym (ap (λ (o : Option ℕ). is_reached o s.received) is)
ended_more most r (suc n) s is small below above =
    by_bump most r n s
    (λ lt. let h = ltb-true s.received 18446744073709551615 lt in
    ended_more most r n (record s { received = s.received + 1 }) is (omega (arith, h))
    (λ k. let e = below (omega (arith, k)) in omega (arith, e)) (λ k. above (omega (arith, k))))
    (λ ge. let h = ltb-false s.received 18446744073709551615 ge in let e = above (omega (arith, h)) in
    ended_more most r n s is small (λ k. omega (arith, k, h, e)) (λ k. e))

-- ---- what has entered

-- a delivery for the id of a subscription is for its connection
abbrev pub Agree : Subscription → List Addressed → Type 0
Agree s [] = Unit {0}
Agree s (a ∷ all) = ((s.id == a.id) ≡ true → a.conn ≡ s.conn) × Agree s all

abbrev pub AllAgree : List Subscription → List Addressed → Type 0
AllAgree [] all = Unit {0}
AllAgree (s ∷ subs) all = Agree s all × AllAgree subs all

agree_append : (s : Subscription) (all more : List Addressed) → Agree s all → Agree s more → Agree s (all ++ more)
agree_append s [] more first then = then
agree_append s (a ∷ all) more first then = (first.0, agree_append s all more first.1 then)

pub all_agree_append : (subs : List Subscription) (all more : List Addressed) → AllAgree subs all → AllAgree subs more → AllAgree subs (all ++ more)
all_agree_append [] all more first then = tt
all_agree_append (s ∷ subs) all more first then = (agree_append s all more first.0 then.0, all_agree_append subs all more first.1 then.1)

pub none_disagree : (subs : List Subscription) → AllAgree subs []
none_disagree [] = tt
none_disagree (s ∷ subs) = (tt, none_disagree subs)

and_left : (b c : Bool) → (b && c) ≡ true → b ≡ true
and_left true c e = refl
and_left false c e = e

names_agree : (m : Message) (s : Subscription) (rs : List Subscription) → NamesOnly s rs → Agree s (map (addressed_to m) rs)
names_agree m s [] names = tt
names_agree m s (r ∷ rs) names = ((λ is. sym (eqb-true s.conn r.conn (and_left _ _ (names.0 ∙ is)))), names_agree m s rs names.1)

all_names_agree : (m : Message) (subs rs : List Subscription) → AllNameOnly subs rs → AllAgree subs (map (addressed_to m) rs)
all_names_agree m [] rs names = tt
all_names_agree m (s ∷ subs) rs names = (names_agree m s rs names.0, all_names_agree m subs rs names.1)

-- so it is with the deliveries of a message to some of the subscriptions
pub addressed_agree : (m : Message) (p : Subscription → Bool) (subs : List Subscription) → Apart subs → AllAgree subs (map (addressed_to m) (filter p subs))
addressed_agree m p subs apart = all_names_agree m subs (filter p subs) (all_names p subs apart)

-- one delivery first
planned_step : (s : Subscription) (a : Addressed) (all : List Addressed) (rooms : ℕ → ℕ) → ((s.id == a.id) ≡ true → a.conn ≡ s.conn) →
    times s.id (entered_ids all (planned all (with_room a.conn (rooms a.conn - 1) rooms))) ≡ times_entering s.conn s.id (with_room a.conn (rooms a.conn - 1) rooms s.conn) all →
    times s.id (entered_ids (a ∷ all) (planned (a ∷ all) rooms)) ≡ times_entering s.conn s.id (rooms s.conn) (a ∷ all)
planned_step s a all rooms agree later = by_conn (a.conn == s.conn) refl
  where
    after : ℕ → ℕ
    after = with_room a.conn (rooms a.conn - 1) rooms

    own : ℕ → ℕ
    own n = times_entering s.conn s.id n all

    -- one that is for another id counts nothing
    other_id : (b : Bool) (n k : ℕ) → (s.id == a.id) ≡ b → b ≡ false → n ≡ k → cond b (suc n) n ≡ k
    other_id true n k e differs is = absurd (cc)
    other_id false n k e differs is = is

    comm : (m n : ℕ) → (m == n) ≡ (n == m)
    comm m n = grind (arith, nat_tests)

    none : (n : ℕ) → nat_lt 0 n ≡ false → n - 1 ≡ n
    none n e = let h = ltb-false 0 n e in omega (arith, h)

    told : Bool → Item
    told b = cond b (Entered a.conn a.delivery.sid) (Full a.conn a.delivery.sid)

    mine : (a.conn == s.conn) ≡ true → (b : Bool) → nat_lt 0 (rooms a.conn) ≡ b →
        times s.id (entered_ids (a ∷ all) (told b ∷ planned all after)) ≡ cond (nat_lt 0 (rooms s.conn)) (cond (a.id == s.id) (suc (own (rooms s.conn - 1))) (own (rooms s.conn - 1))) (own (rooms s.conn))
    mine is true has =
        let conn : a.conn ≡ s.conn = eqb-true a.conn s.conn is in
        let left : times s.id (entered_ids all (planned all after)) ≡ own (rooms s.conn - 1) =
        later ∙ ap own (ap (λ b. cond b (rooms a.conn - 1) (rooms s.conn)) (eq-eqb s.conn a.conn (sym conn)) ∙ ap (λ n. rooms n - 1) conn) in
        ap (λ b. cond b (suc (times s.id (entered_ids all (planned all after)))) (times s.id (entered_ids all (planned all after)))) (comm s.id a.id)
        ∙ ap (λ n. cond (a.id == s.id) (suc n) n) left
        ∙ sym (ap (λ b. cond b (cond (a.id == s.id) (suc (own (rooms s.conn - 1))) (own (rooms s.conn - 1))) (own (rooms s.conn))) (ap (λ n. nat_lt 0 (rooms n)) (sym conn) ∙ has))
    mine is false has =
        let conn : a.conn ≡ s.conn = eqb-true a.conn s.conn is in
        let full : nat_lt 0 (rooms s.conn) ≡ false = ap (λ n. nat_lt 0 (rooms n)) (sym conn) ∙ has in
        later
        ∙ ap own (ap (λ b. cond b (rooms a.conn - 1) (rooms s.conn)) (eq-eqb s.conn a.conn (sym conn)) ∙ ap (λ n. rooms n - 1) conn ∙ none (rooms s.conn) full)
        ∙ sym (ap (λ b. cond b (cond (a.id == s.id) (suc (own (rooms s.conn - 1))) (own (rooms s.conn - 1))) (own (rooms s.conn))) full)

    kept : (a.conn == s.conn) ≡ false → times s.id (entered_ids all (planned all after)) ≡ own (rooms s.conn)
    kept differs = later ∙ ap own (ap (λ b. cond b (rooms a.conn - 1) (rooms s.conn)) (comm s.conn a.conn ∙ differs))

    others : (a.conn == s.conn) ≡ false → (b : Bool) → times s.id (entered_ids (a ∷ all) (told b ∷ planned all after)) ≡ own (rooms s.conn)
    others differs true = other_id (s.id == a.id) _ _ refl (differ (s.id == a.id) refl) (kept differs)
      where
        differ : (b : Bool) → (s.id == a.id) ≡ b → b ≡ false
        differ true e = absurd (let it = agree e in let eq = eq-eqb a.conn s.conn it in cc)
        differ false e = refl
    others differs false = kept differs

    by_conn : (c : Bool) → (a.conn == s.conn) ≡ c → times s.id (entered_ids (a ∷ all) (told (nat_lt 0 (rooms a.conn)) ∷ planned all after)) ≡
        cond (c && nat_lt 0 (rooms s.conn)) (cond (a.id == s.id) (suc (own (rooms s.conn - 1))) (own (rooms s.conn - 1))) (own (rooms s.conn))
    by_conn true is = mine is (nat_lt 0 (rooms a.conn)) refl
    by_conn false differs = others differs (nat_lt 0 (rooms a.conn))

-- of the deliveries for a subscription so many enter
planned_times : (s : Subscription) (all : List Addressed) (rooms : ℕ → ℕ) → Agree s all → times s.id (entered_ids all (planned all rooms)) ≡ times_entering s.conn s.id (rooms s.conn) all
planned_times s [] rooms agree = refl
planned_times s (a ∷ all) rooms agree = planned_step s a all rooms agree.0 (planned_times s all (with_room a.conn (rooms a.conn - 1) rooms) agree.1)

-- so a subscription has ended behind deliveries where it is counted as ended
pub stands_is : (now : ℕ) (zs : List Session) (all : List Addressed) (s : Subscription) → Agree s all →
    not (has_ended (bumps (entered_ids all (delivered now all zs).1) s)) ≡ stands_behind zs all s
stands_is now zs all s agree =
    ap (λ (x : Subscription). not (has_ended x)) (bumps_are (entered_ids all (delivered now all zs).1) s)
    ∙ ap (λ n. not (has_ended (counted_more n s)))
    (ap (λ (items : List Item). times s.id (entered_ids all items)) (sym (planned-delivered now all zs))
    ∙ planned_times s all (rooms_of zs) agree)

same_passing : (p : Subscription → Bool) (now : ℕ) (zs : List Session) (all : List Addressed) (subs : List Subscription) → AllAgree subs all →
    filter (λ s. p s && not (has_ended (bumps (entered_ids all (delivered now all zs).1) s))) subs ≡ filter (λ s. p s && stands_behind zs all s) subs
same_passing p now zs all [] agree = refl
same_passing p now zs all (s ∷ subs) agree =
    ap (λ b. cond (p s && b) (s ∷ filter (λ s. p s && not (has_ended (bumps (entered_ids all (delivered now all zs).1) s))) subs) (filter (λ s. p s && not (has_ended (bumps (entered_ids all (delivered now all zs).1) s))) subs)) (stands_is now zs all s agree.0)
    ∙ ap (λ more. cond (p s && stands_behind zs all s) (s ∷ more) more) (same_passing p now zs all subs agree.1)

-- Those of the subscriptions that deliveries leave are the ones that still stand, each with what it has counted.
pub passing_left : (now : ℕ) (zs : List Session) (all : List Addressed) (subs : List Subscription) (p : Subscription → Bool) →
    ((s t : Subscription) → made s ≡ made t → p s ≡ p t) → unended subs ≡ subs → AllAgree subs all →
    filter p (in_turn (entered_ids all (delivered now all zs).1) subs) ≡ map (bumps (entered_ids all (delivered now all zs).1)) (filter (λ s. p s && stands_behind zs all s) subs)
passing_left now zs all subs p same going agree =
    let ids : List ℕ = entered_ids all (delivered now all zs).1 in
    ap (filter p) (in_turn_is ids subs going)
    ∙ left_passing (bumps ids) p (λ s. same (bumps ids s) s (bumps-made ids s)) subs
    ∙ ap (map (bumps ids)) (same_passing p now zs all subs agree)

-- The deliveries of a message to those are those to the ones that still stand.
pub addressed_left : (now : ℕ) (zs : List Session) (all : List Addressed) (subs : List Subscription) (p : Subscription → Bool) →
    ((s t : Subscription) → made s ≡ made t → p s ≡ p t) → unended subs ≡ subs → AllAgree subs all → (m : Message) (word : ℕ) →
    map (addressed_to m) (served word (filter p (in_turn (entered_ids all (delivered now all zs).1) subs))) ≡ map (addressed_to m) (served word (filter (λ s. p s && stands_behind zs all s) subs))
addressed_left now zs all subs p same going agree m word =
    let ids : List ℕ = entered_ids all (delivered now all zs).1 in
    ap (λ (left : List Subscription). map (addressed_to m) (served word left)) (passing_left now zs all subs p same going agree)
    ∙ addressed_counted ids m word (filter (λ s. p s && stands_behind zs all s) subs)

-- whether a subscription is admitted goes by nothing that is counted
pub admitted_made : (zs : List Session) (publisher : Session) (account : List ℕ) (t : List Token) (x y : Subscription) → made x ≡ made y →
    (has_subject account t x && is_open zs publisher t x) ≡ (has_subject account t y && is_open zs publisher t y)
admitted_made zs publisher account t x y same = ap (λ (s : Subscription). has_subject account t s && is_open zs publisher t s) same

and_assoc : (a b c : Bool) → ((a && b) && c) ≡ (a && (b && c))
and_assoc true b c = refl
and_assoc false b c = refl

pub standing_same : (zs : List Session) (publisher : Session) (account : List ℕ) (t : List Token) (before : List Addressed) (subs : List Subscription) →
    filter (λ s. (has_subject account t s && is_open zs publisher t s) && stands_behind zs before s) subs ≡ standing_among zs subs before publisher account t
standing_same zs publisher account t before [] = refl
standing_same zs publisher account t before (s ∷ subs) =
    ap (λ b. cond b (s ∷ filter (λ s. (has_subject account t s && is_open zs publisher t s) && stands_behind zs before s) subs) (filter (λ s. (has_subject account t s && is_open zs publisher t s) && stands_behind zs before s) subs))
    (and_assoc (has_subject account t s) (is_open zs publisher t s) (stands_behind zs before s))
    ∙ ap (λ more. cond (has_subject account t s && (is_open zs publisher t s && stands_behind zs before s)) (s ∷ more) more) (standing_same zs publisher account t before subs)

-- the own view is the first
pub own_first : (zs : List Session) (subs : List Subscription) (publisher : Session) (m : Message) (word : ℕ) → unended subs ≡ subs →
    addressed_among zs subs publisher m word ≡ addressed_behind_in zs subs [] publisher m word publisher.user.account
own_first zs subs publisher m word going =
    let account : List ℕ = publisher.user.account in
    addressed_left 0 zs [] subs (λ s. has_subject account m.subject s && is_open zs publisher m.subject s) (admitted_made zs publisher account m.subject) going (none_disagree subs) m word
    ∙ ap (λ (ss : List Subscription). map (addressed_to m) (served word ss)) (standing_same zs publisher account m.subject [] subs)

-- there is none of those that are changed where there is none
pub nil_map : {X Y : Type 0} (f : X → Y) (xs : List X) → is_nil (map f xs) ≡ is_nil xs
nil_map f [] = refl
nil_map f (x ∷ xs) = refl
