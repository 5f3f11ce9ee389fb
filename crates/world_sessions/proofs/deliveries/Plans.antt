-- What is planned is what will be met.
use Rattle.std.proofs.Common.{◌≡◌, ◌∙◌, ◌==◌, ◌⊎◌, inl, inr, ℕ, ◌-◌, ◌<◌, ◌≤◌, suc, zero, Bool, true, false, cond, List, [], ◌∷◌, ◌++◌, length, get_or, map, set, position, All, Option, Some, None, ap, sym, subst, refl, arith, nat_lt, is_some, true≢false}
use Rattle.std.specs.Option.{option_map}
use Rattle.std.proofs.lemmas.List.{length-append, append_assoc}
use Rattle.std.proofs.lemmas.List.Quantifiers.{position-Some}
use Rattle.std.proofs.lemmas.Bool.{eqb-true, eq-eqb, ne_eqb, ltb-true, ltb-false, lt-ltb, le-ltb, cases_eq}
use Rattle.world_sessions.specs.deliveries.Sessions.{session_of}
use Rattle.world_sessions.specs.deliveries.Delivered.{noting, offered, after_offer, item_of, delivered, has_room, room_in}
use Rattle.world_sessions.specs.deliveries.Replying.{note_for, noted_for}
use Rattle.world_sessions.specs.declared.deliveries.session.Session.{Session}
use Rattle.reply_grants.specs.declared.replies.Note.{Note}
use Rattle.events.specs.declared.answer.Addressed.{Addressed}
use Rattle.events.specs.declared.answer.Delivery.{Delivery}
use Rattle.events.specs.declared.answer.Item.{Item}
use Rattle.events.specs.declared.answer.Item.TheVariants.{Entered, Full}
use Rattle.world_sessions.specs.deliveries.Planned.{room_at, rooms_of, with_room, planned, entered, AreRoomy}
use Rattle.world_sessions.proofs.deliveries.Changes.{offered-conn, session_of-changed, session_of-other}
use Rattle.world_sessions.proofs.deliveries.Places.{is_of, IsNowhere-from, IsPlace-from}

-- ---- rooms beside the sessions

room_at-first : (conn : ℕ) (zs : List Session) (rooms : List ℕ) (i : ℕ) (d : Session) → i < length zs → length zs ≤ length rooms →
    is_of conn (get_or zs i d) ≡ true → ((k : ℕ) → k < i → is_of conn (get_or zs k d) ≡ false) → room_at zs rooms conn ≡ get_or rooms i 0
room_at-first conn [] rooms i d h l here before = absurd (omega arith)
room_at-first conn (z ∷ zs) [] i d h l here before = absurd (omega arith)
room_at-first conn (z ∷ zs) (r ∷ rooms) zero d h l here before = ap (λ b. cond b r (room_at zs rooms conn)) here
room_at-first conn (z ∷ zs) (r ∷ rooms) (suc i) d h l here before =
    ap (λ b. cond b r (room_at zs rooms conn)) (before 0 (omega arith))
    ∙ room_at-first conn zs rooms i d (omega arith) (omega arith) here (λ k m. before (suc k) (omega arith))

room_at-set : (conn n other : ℕ) (zs : List Session) (rooms : List ℕ) (i : ℕ) (d : Session) → i < length zs → length zs ≤ length rooms →
    is_of conn (get_or zs i d) ≡ true → ((k : ℕ) → k < i → is_of conn (get_or zs k d) ≡ false) →
    room_at zs (set rooms i n) other ≡ with_room conn n (room_at zs rooms) other
room_at-set conn n other [] rooms i d h l here before = absurd (omega arith)
room_at-set conn n other (z ∷ zs) [] i d h l here before = absurd (omega arith)
room_at-set conn n other (z ∷ zs) (r ∷ rooms) zero d h l here before = by (cases_eq other conn)
  where
    by : (other ≡ conn) ⊎ (other ≡ conn → ⊥) → cond (z.conn == other) n (room_at zs rooms other) ≡ cond (other == conn) n (cond (z.conn == other) r (room_at zs rooms other))
    by (inl e) =
        ap (λ b. cond b n (room_at zs rooms other)) (eq-eqb z.conn other (eqb-true z.conn conn here ∙ sym e))
        ∙ sym (ap (λ b. cond b n (cond (z.conn == other) r (room_at zs rooms other))) (eq-eqb other conn e))
    by (inr ne) =
        let no : (z.conn == other) ≡ false = ne_eqb z.conn other (λ e. ne (sym e ∙ eqb-true z.conn conn here)) in
        ap (λ b. cond b n (room_at zs rooms other)) no
        ∙ sym (ap (λ b. cond b n (cond (z.conn == other) r (room_at zs rooms other))) (ne_eqb other conn ne)
        ∙ ap (λ b. cond b r (room_at zs rooms other)) no)
room_at-set conn n other (z ∷ zs) (r ∷ rooms) (suc i) d h l here before =
    ap (λ m. cond (z.conn == other) r m) (room_at-set conn n other zs rooms i d (omega arith) (omega arith) here (λ k m. before (suc k) (omega arith)))
    ∙ by (cases_eq other conn)
  where
    by : (other ≡ conn) ⊎ (other ≡ conn → ⊥) → cond (z.conn == other) r (cond (other == conn) n (room_at zs rooms other)) ≡ cond (other == conn) n (cond (z.conn == other) r (room_at zs rooms other))
    by (inl e) =
        let no : (z.conn == other) ≡ false = ap (λ m. z.conn == m) e ∙ before 0 (omega arith) in
        ap (λ b. cond b r (cond (other == conn) n (room_at zs rooms other))) no
        ∙ ap (λ b. cond b n (room_at zs rooms other)) (eq-eqb other conn e)
        ∙ sym (ap (λ b. cond b n (cond (z.conn == other) r (room_at zs rooms other))) (eq-eqb other conn e))
    by (inr ne) =
        ap (λ b. cond (z.conn == other) r (cond b n (room_at zs rooms other))) (ne_eqb other conn ne)
        ∙ sym (ap (λ b. cond b n (cond (z.conn == other) r (room_at zs rooms other))) (ne_eqb other conn ne))

room_at-nowhere : (conn : ℕ) (zs : List Session) (rooms : List ℕ) → session_of zs conn ≡ None → room_at zs rooms conn ≡ 0
room_at-nowhere conn [] rooms none = refl
room_at-nowhere conn (z ∷ zs) [] none = refl
room_at-nowhere conn (z ∷ zs) (r ∷ rooms) none = here (z.conn == conn) (room_at-nowhere conn zs rooms) none
  where
    here : (b : Bool) → (session_of zs conn ≡ None → room_at zs rooms conn ≡ 0) → cond b (Some z) (session_of zs conn) ≡ None → cond b r (room_at zs rooms conn) ≡ 0
    here true later e = cc
    here false later e = later e

-- what is noted at the place of a connection
pub room_here : (conn : ℕ) (zs : List Session) (rooms : List ℕ) (i : ℕ) → length zs ≤ length rooms → position (is_of conn) zs ≡ Some i → room_at zs rooms conn ≡ get_or rooms i 0
room_here conn [] rooms i l e = absurd (cc)
room_here conn (z ∷ zs) rooms i l e = let at = position-Some (is_of conn) (z ∷ zs) i z e in room_at-first conn (z ∷ zs) rooms i z at.0 l at.1 at.2

-- and a write there
pub room_written : (conn n : ℕ) (zs : List Session) (rooms : List ℕ) (i : ℕ) → length zs ≤ length rooms → position (is_of conn) zs ≡ Some i →
    (other : ℕ) → room_at zs (set rooms i n) other ≡ with_room conn n (room_at zs rooms) other
room_written conn n [] rooms i l e other = absurd (cc)
room_written conn n (z ∷ zs) rooms i l e other = let at = position-Some (is_of conn) (z ∷ zs) i z e in room_at-set conn n other (z ∷ zs) rooms i z at.0 l at.1 at.2

-- a connection without a session has no room, and stays without
pub room_nowhere : (conn : ℕ) (zs : List Session) (rooms : List ℕ) → position (is_of conn) zs ≡ None →
    (room_at zs rooms conn ≡ 0) × (session_of zs conn ≡ None)
room_nowhere conn zs rooms e = let none = IsNowhere-from conn zs e in (room_at-nowhere conn zs rooms none.none, none.none)

pub same_room : (conn n : ℕ) (rooms : ℕ → ℕ) → rooms conn ≡ n → (other : ℕ) → rooms other ≡ with_room conn n rooms other
same_room conn n rooms is other = by (cases_eq other conn)
  where
    by : (other ≡ conn) ⊎ (other ≡ conn → ⊥) → rooms other ≡ cond (other == conn) n (rooms other)
    by (inl e) = ap rooms e ∙ is ∙ sym (ap (λ b. cond b n (rooms other)) (eq-eqb other conn e))
    by (inr ne) = sym (ap (λ b. cond b n (rooms other)) (ne_eqb other conn ne))

-- ---- the plan

-- rooms that agree on whom it is for plan the same
planned-same : (all : List Addressed) (r s : ℕ → ℕ) → ((k : ℕ) (d : Addressed) → k < length all → r (get_or all k d).conn ≡ s (get_or all k d).conn) → planned all r ≡ planned all s
planned-same [] r s same = refl
planned-same (a ∷ rest) r s same =
    ap (λ n. cond (nat_lt 0 n) (Entered a.conn a.delivery.sid) (Full a.conn a.delivery.sid) ∷ planned rest (with_room a.conn (r a.conn - 1) r)) (same 0 a (omega arith))
    ∙ ap (λ more. cond (nat_lt 0 (s a.conn)) (Entered a.conn a.delivery.sid) (Full a.conn a.delivery.sid) ∷ more)
    (planned-same rest (with_room a.conn (r a.conn - 1) r) (with_room a.conn (s a.conn - 1) s) (λ k d h. here (get_or rest k d).conn ((get_or rest k d).conn == a.conn) (same (suc k) d (omega arith))))
  where
    here : (c : ℕ) (b : Bool) → r c ≡ s c → cond b (r a.conn - 1) (r c) ≡ cond b (s a.conn - 1) (s c)
    here c true e = ap (λ n. n - 1) (same 0 a (omega arith))
    here c false e = e

pub has_room_is : (o : Option Session) → nat_lt 0 (room_in o) ≡ has_room o
has_room_is None = refl
has_room_is (Some z) = here (nat_lt (length z.outbox.waiting) z.outbox.capacity) refl
  where
    here : (b : Bool) → nat_lt (length z.outbox.waiting) z.outbox.capacity ≡ b → nat_lt 0 (z.outbox.capacity - length z.outbox.waiting) ≡ b
    here true is = let h = ltb-true (length z.outbox.waiting) z.outbox.capacity is in lt-ltb _ _ (omega arith)
    here false is = let h = ltb-false (length z.outbox.waiting) z.outbox.capacity is in le-ltb _ _ (omega arith)

room-offered : (d : Delivery) (what : Option Note) (now : ℕ) (o : Option Session) → room_in (option_map (offered d what now) o) ≡ room_in o - 1
room-offered d what now None = refl
room-offered d what now (Some z) = here (nat_lt (length z.outbox.waiting) z.outbox.capacity) refl
  where
    here : (b : Bool) → nat_lt (length z.outbox.waiting) z.outbox.capacity ≡ b →
        room_in (Some (cond b (record z { outbox = record z.outbox { waiting = z.outbox.waiting ++ d ∷ [] }; replies = noting what now z.replies }) (record z { missed = true }))) ≡ room_in (Some z) - 1
    here true is = let h = ltb-true (length z.outbox.waiting) z.outbox.capacity is in omega (arith, length-append z.outbox.waiting (d ∷ []))
    here false is = let h = ltb-false (length z.outbox.waiting) z.outbox.capacity is in omega arith

-- one offer takes one from the room of its connection
after_one : (now : ℕ) (a : Addressed) (zs : List Session) (other : ℕ) → with_room a.conn (rooms_of zs a.conn - 1) (rooms_of zs) other ≡ rooms_of (after_offer now a zs) other
after_one now a zs other = by (cases_eq other a.conn)
  where
    by : (other ≡ a.conn) ⊎ (other ≡ a.conn → ⊥) → cond (other == a.conn) (rooms_of zs a.conn - 1) (rooms_of zs other) ≡ rooms_of (after_offer now a zs) other
    by (inl e) =
        ap (λ b. cond b (rooms_of zs a.conn - 1) (rooms_of zs other)) (eq-eqb other a.conn e)
        ∙ sym (room-offered a.delivery a.noted now (session_of zs a.conn))
        ∙ ap room_in (sym (session_of-changed (offered a.delivery a.noted now) a.conn zs (offered-conn a.delivery a.noted now)))
        ∙ ap (rooms_of (after_offer now a zs)) (sym e)
    by (inr ne) =
        ap (λ b. cond b (rooms_of zs a.conn - 1) (rooms_of zs other)) (ne_eqb other a.conn ne)
        ∙ ap room_in (sym (session_of-other (offered a.delivery a.noted now) a.conn other zs (offered-conn a.delivery a.noted now) (λ e. ne (sym e))))

-- what is planned by the rooms of the sessions is what the deliveries meet
pub planned-delivered : (now : ℕ) (all : List Addressed) (zs : List Session) → planned all (rooms_of zs) ≡ (delivered now all zs).1
planned-delivered now [] zs = refl
planned-delivered now (a ∷ rest) zs =
    ap (λ b. cond b (Entered a.conn a.delivery.sid) (Full a.conn a.delivery.sid) ∷ planned rest (with_room a.conn (rooms_of zs a.conn - 1) (rooms_of zs))) (has_room_is (session_of zs a.conn))
    ∙ ap (λ more. item_of a zs ∷ more)
    (ap (planned rest) (λ i other. after_one now a zs other i) ∙ planned-delivered now rest (after_offer now a zs))

-- what is to be noted changes no plan
planned_noted : (zs : List Session) (all : List Addressed) (rooms : ℕ → ℕ) → planned (map (noted_for zs) all) rooms ≡ planned all rooms
planned_noted zs [] rooms = refl
planned_noted zs (a ∷ rest) rooms =
    ap (λ more. cond (nat_lt 0 (rooms a.conn)) (Entered a.conn a.delivery.sid) (Full a.conn a.delivery.sid) ∷ more) (planned_noted zs rest (with_room a.conn (rooms a.conn - 1) rooms))

pub plan_noted : (now : ℕ) (all : List Addressed) (zs : List Session) (rooms : List ℕ) →
    ((k : ℕ) (d : Addressed) → k < length all → room_at zs rooms (get_or all k d).conn ≡ rooms_of zs (get_or all k d).conn) →
    planned (map (noted_for zs) all) (room_at zs rooms) ≡ (delivered now (map (noted_for zs) all) zs).1
plan_noted now all zs rooms noted =
    planned_noted zs all (room_at zs rooms)
    ∙ planned-same all (room_at zs rooms) (rooms_of zs) noted
    ∙ sym (planned_noted zs all (rooms_of zs))
    ∙ planned-delivered now (map (noted_for zs) all) zs

-- one more is planned
pub planned-more : (items : List Item) (a : Addressed) (rest : List Addressed) (zs : List Session) (rooms after : List ℕ) →
    ((other : ℕ) → room_at zs after other ≡ with_room a.conn (room_at zs rooms a.conn - 1) (room_at zs rooms) other) →
    (items ++ cond (nat_lt 0 (room_at zs rooms a.conn)) (Entered a.conn a.delivery.sid) (Full a.conn a.delivery.sid) ∷ []) ++ planned rest (room_at zs after) ≡ items ++ planned (a ∷ rest) (room_at zs rooms)
planned-more items a rest zs rooms after e =
    ap (λ r. (items ++ cond (nat_lt 0 (room_at zs rooms a.conn)) (Entered a.conn a.delivery.sid) (Full a.conn a.delivery.sid) ∷ []) ++ planned rest r) (λ i other. e other i)
    ∙ append_assoc items _ _

-- ---- where all have room

-- the room that is left after so many others, by the place of the connection
pub roomy_here : (before conn room i : ℕ) (zs : List Session) (z : Session) → position (is_of conn) zs ≡ Some i → z ≡ get_or zs i z → room ≡ room_in (Some z) → nat_lt before room ≡ true → before < rooms_of zs conn
roomy_here before conn room i zs z place stands is more =
    let at = IsPlace-from conn zs i place in
    let same : room ≡ rooms_of zs conn = is ∙ ap (λ (y : Session). room_in (Some y)) stands ∙ sym (ap room_in (at.here z)) in
    subst (λ n. before < n) same (ltb-true before room more)

pub none_from : {X : Type 0} (o : Option X) → is_some o ≡ false → o ≡ None
none_from None e = refl
none_from (Some x) e = absurd (true≢false e)

-- all enter
roomy-planned : (all : List Addressed) (rooms : ℕ → ℕ) → ((k : ℕ) (d : Addressed) → k < length all → k < rooms (get_or all k d).conn) → map entered all ≡ planned all rooms
roomy-planned [] rooms roomy = refl
roomy-planned (a ∷ rest) rooms roomy =
    ap (λ more. entered a ∷ more) (roomy-planned rest (with_room a.conn (rooms a.conn - 1) rooms) (λ k d h. here k (get_or rest k d).conn (roomy (suc k) d (omega arith)) (cases_eq (get_or rest k d).conn a.conn)))
    ∙ sym (ap (λ b. cond b (entered a) (Full a.conn a.delivery.sid) ∷ planned rest (with_room a.conn (rooms a.conn - 1) rooms)) (lt-ltb 0 (rooms a.conn) (roomy 0 a (omega arith))))
  where
    here : (k c : ℕ) → suc k < rooms c → (c ≡ a.conn) ⊎ (c ≡ a.conn → ⊥) → k < cond (c == a.conn) (rooms a.conn - 1) (rooms c)
    here k c more (inl e) =
        let same : rooms c ≡ rooms a.conn = ap rooms e in
        subst (λ n. k < n) (sym (ap (λ b. cond b (rooms a.conn - 1) (rooms c)) (eq-eqb c a.conn e))) (omega (arith, same, more))
    here k c more (inr ne) = subst (λ n. k < n) (sym (ap (λ b. cond b (rooms a.conn - 1) (rooms c)) (ne_eqb c a.conn ne))) (omega (arith, more))

pub roomy-delivered : (now : ℕ) (all : List Addressed) (zs : List Session) → AreRoomy all (rooms_of zs) → map entered all ≡ (delivered now all zs).1
roomy-delivered now all zs roomy = roomy-planned all (rooms_of zs) (λ k d h. (roomy k d h).1) ∙ planned-delivered now all zs

-- and nothing is to be noted where none has a reply
unnoted : (a : Addressed) (z : Option Session) → a.delivery.message.reply ≡ None → record a { noted = None } ≡ record a { noted = note_for a.delivery.message.reply z }
unnoted a z none = ap (λ (n : Option Note). record a { noted = n }) (sym (ap (λ reply. note_for reply z) none))

pub roomy-noted : (all : List Addressed) (zs : List Session) → ((k : ℕ) (d : Addressed) → k < length all → (get_or all k d).noted ≡ None) →
    All (λ (a : Addressed). a.delivery.message.reply ≡ None) all → all ≡ map (noted_for zs) all
roomy-noted [] zs none unsaid = refl
roomy-noted (a ∷ rest) zs none unsaid =
    ap (λ (n : Option Note). record a { noted = n } ∷ rest) (none 0 a (omega arith))
    ∙ ap (λ b. b ∷ rest) (unnoted a (session_of zs a.conn) (unsaid 0 a (omega arith)))
    ∙ ap (λ more. noted_for zs a ∷ more) (roomy-noted rest zs (λ k d h. none (suc k) d (omega arith)) (λ k d h. unsaid (suc k) d (omega arith)))
