-- Deliveries offered in turn, told for each session by itself.
use Rattle.std.proofs.Common.{◌≡◌, ◌∙◌, ◌==◌, ◌||◌, ◌⊎◌, inl, inr, ℕ, ◌+◌, ◌-◌, ◌<◌, ◌≤◌, suc, zero, Bool, true, false, cond, List, [], ◌∷◌, ◌++◌, map, length, take, get_or, Option, Some, None, ap, sym, refl, subst, arith, nat_lt}
use Rattle.std.specs.Prelude.{All, AllPairs, is_some}
use Rattle.std.specs.Option.{option_map}
use Rattle.std.proofs.lemmas.List.{append_assoc, append-nil, length-append}
use Rattle.std.proofs.lemmas.List.Elements.{All-nil, All-cons, All-head, All-tail, filter_passes}
use Rattle.std.proofs.Math.Bool.{or-true, or-false}
use Rattle.std.proofs.lemmas.List.Folds.{map_fixed}
use Rattle.std.proofs.lemmas.Bool.{eq-eqb, eqb-true, ne_eqb, ltb-true, ltb-false, lt-ltb, le-ltb, cases_eq}
use Rattle.subjects.specs.Subject.{Token}
use Rattle.policy_doc.specs.declared.permission_doc.document.Terms.{Terms}
use Rattle.permissions.specs.declared.verdict.By.{By}
use Rattle.permissions.specs.declared.verdict.By.TheVariants.{All as AllowsAll, Index, Grant}
use Rattle.reply_grants.specs.Replies.{Table, noted, responded_in, ended_in}
use Rattle.reply_grants.specs.declared.replies.Note.{Note}
use Rattle.events.specs.declared.answer.Addressed.{Addressed}
use Rattle.events.specs.declared.answer.Delivery.{Delivery}
use Rattle.events.specs.declared.answer.Item.{Item}
use Rattle.events.specs.declared.answer.Item.TheVariants.{Entered, Full}
use Rattle.world_sessions.specs.deliveries.Sessions.{session_of, with_session}
use Rattle.world_sessions.specs.deliveries.Delivered.{noting, offered, after_offer, item_of, delivered, has_room}
use Rattle.world_sessions.specs.deliveries.Replying.{terms_of, note_of, note_for, noted_for, responding, ending}
use Rattle.world_sessions.specs.declared.deliveries.session.Session.{Session}
use Rattle.world_rows.specs.declared.subscription.Subscription.{Subscription}
use Rattle.world_subscriptions.specs.Addressing.{addressed_to}
use Rattle.world_sessions.proofs.deliveries.Changes.{only, with_session-map, session_of-changed, session_of-other, offered-conn}
use Rattle.world.specs.Granting.{counted_on, ended_on}
use Rattle.hub.specs.Replies.{noted_at, noted_each}
use Rattle.hub.specs.Items.{DeliveryItem, tells_of}
use Rattle.hub.specs.Guarantee.{Sending, sent_to, delivery_of, receiver, receives, room_in, items_of, items_with_room, item_names, names_of}
use Rattle.hub.proofs.Finds.{AllPairs-map, AllPairs-head, AllPairs-tail}
use Rattle.hub.proofs.Soundness.{IsApart, either}

-- ---- the outboxes

-- a session with this in its outbox, this told of missed deliveries, and these grants
abbrev holding : Session → List Delivery → Bool → Table → Session
holding z waiting missed replies = record z { outbox = record z.outbox { waiting = waiting }; missed = missed; replies = replies }

same_holding : (z : Session) (v w : List Delivery) (m n : Bool) (s t : Table) → v ≡ w → m ≡ n → s ≡ t → holding z v m s ≡ holding z w n t
same_holding z v w m n s t e f g = ap (λ x. holding z x m s) e ∙ ap (λ b. holding z w b s) f ∙ ap (λ x. holding z w n x) g

less-suc : (m n : ℕ) → nat_lt m n ≡ nat_lt (suc m) (suc n)
less-suc m n = here (nat_lt m n) refl
  where
    here : (b : Bool) → nat_lt m n ≡ b → b ≡ nat_lt (suc m) (suc n)
    here true is = sym (lt-ltb (suc m) (suc n) (let h = ltb-true m n is in omega arith))
    here false is = sym (le-ltb (suc m) (suc n) (let h = ltb-false m n is in omega arith))

-- a delivery for which there is room, then the others
waiting-more : (ws ds : List Delivery) (d : Delivery) (capacity : ℕ) → length ws < capacity →
    (ws ++ d ∷ []) ++ take (capacity - length (ws ++ d ∷ [])) ds ≡ ws ++ take (capacity - length ws) (d ∷ ds)
waiting-more ws ds d capacity h =
    let m : ℕ = capacity - (length ws + 1) in
    let less : capacity - length (ws ++ d ∷ []) ≡ m = omega (arith, length-append ws (d ∷ [])) in
    let more : capacity - length ws ≡ suc m = omega arith in
    ap (λ n. (ws ++ d ∷ []) ++ take n ds) less
    ∙ append_assoc ws (d ∷ []) (take m ds)
    ∙ sym (ap (λ n. ws ++ take n (d ∷ ds)) more)

missed-more : (ws ds : List Delivery) (d : Delivery) (capacity : ℕ) → length ws < capacity →
    nat_lt (capacity - length (ws ++ d ∷ [])) (length ds) ≡ nat_lt (capacity - length ws) (length (d ∷ ds))
missed-more ws ds d capacity h =
    let m : ℕ = capacity - (length ws + 1) in
    let less : capacity - length (ws ++ d ∷ []) ≡ m = omega (arith, length-append ws (d ∷ [])) in
    let more : capacity - length ws ≡ suc m = omega arith in
    ap (λ n. nat_lt n (length ds)) less
    ∙ less-suc m (length ds)
    ∙ sym (ap (λ n. nat_lt n (length (d ∷ ds))) more)

-- one for which there is none
waiting-full : (ws ds : List Delivery) (d : Delivery) (capacity : ℕ) → capacity ≤ length ws →
    ws ++ take (capacity - length ws) ds ≡ ws ++ take (capacity - length ws) (d ∷ ds)
waiting-full ws ds d capacity h =
    let none : capacity - length ws ≡ 0 = omega arith in
    ap (λ n. ws ++ take n ds) none ∙ sym (ap (λ n. ws ++ take n (d ∷ ds)) none)

missed-full : (missed : Bool) (ws ds : List Delivery) (d : Delivery) (capacity : ℕ) → capacity ≤ length ws →
    true ≡ (missed || nat_lt (capacity - length ws) (length (d ∷ ds)))
missed-full missed ws ds d capacity h =
    sym (ap (λ b. missed || b) (lt-ltb (capacity - length ws) (length (d ∷ ds)) (omega arith)) ∙ or-true missed)

-- ---- what is sent

-- what the session of a sending is to note where it enters, by the sessions before the message
abbrev pub note_in : List Session → Sending → Option Note
note_in zs s = note_for s.message.reply (session_of zs s.to.conn)

-- a sending as it is addressed
abbrev pub sent : List Session → Sending → Addressed
sent zs s = noted_for zs (addressed_to s.message s.to)

-- what a session has noted after these have entered
abbrev noting_each : List Session → ℕ → List Sending → Table → Table
noting_each zs now [] table = table
noting_each zs now (s ∷ ss) table = noting_each zs now ss (noting (note_in zs s) now table)

-- a session after these were offered to it
abbrev pub takes : List Session → ℕ → List Sending → Session → Session
takes zs now ss z =
    holding z (z.outbox.waiting ++ take (room_in (Some z)) (map delivery_of ss)) (z.missed || nat_lt (room_in (Some z)) (length (map delivery_of ss))) (noting_each zs now (take (room_in (Some z)) ss) z.replies)

-- one, then the others
takes-more : (zs : List Session) (now : ℕ) (s : Sending) (ss : List Sending) (z : Session) → takes zs now ss (offered (delivery_of s) (note_in zs s) now z) ≡ takes zs now (s ∷ ss) z
takes-more zs now s ss z = here (nat_lt (length z.outbox.waiting) z.outbox.capacity) refl
  where
    d : Delivery
    d = delivery_of s

    ds : List Delivery
    ds = map delivery_of ss

    here : (b : Bool) → nat_lt (length z.outbox.waiting) z.outbox.capacity ≡ b →
        takes zs now ss (cond b (record z { outbox = record z.outbox { waiting = z.outbox.waiting ++ delivery_of s ∷ [] }; replies = noting (note_in zs s) now z.replies }) (record z { missed = true })) ≡ takes zs now (s ∷ ss) z
    here true is =
        let h = ltb-true (length z.outbox.waiting) z.outbox.capacity is in
        let m : ℕ = z.outbox.capacity - (length z.outbox.waiting + 1) in
        let less : z.outbox.capacity - length (z.outbox.waiting ++ d ∷ []) ≡ m = omega (arith, length-append z.outbox.waiting (d ∷ [])) in
        let more : z.outbox.capacity - length z.outbox.waiting ≡ suc m = omega arith in
        same_holding z _ _ _ _ _ _ (waiting-more z.outbox.waiting ds d z.outbox.capacity h) (ap (λ b. z.missed || b) (missed-more z.outbox.waiting ds d z.outbox.capacity h))
        (ap (λ n. noting_each zs now (take n ss) (noting (note_in zs s) now z.replies)) less
        ∙ sym (ap (λ n. noting_each zs now (take n (s ∷ ss)) z.replies) more))
    here false is =
        let h = ltb-false (length z.outbox.waiting) z.outbox.capacity is in
        let none : z.outbox.capacity - length z.outbox.waiting ≡ 0 = omega arith in
        same_holding z _ _ _ _ _ _ (waiting-full z.outbox.waiting ds d z.outbox.capacity h) (missed-full z.missed z.outbox.waiting ds d z.outbox.capacity h)
        (ap (λ n. noting_each zs now (take n ss) z.replies) none ∙ sym (ap (λ n. noting_each zs now (take n (s ∷ ss)) z.replies) none))

take-none : {X : Type 0} (n : ℕ) → take n (let none : List X = [] in none) ≡ []
take-none zero = refl
take-none (suc n) = refl

takes-none : (zs : List Session) (now : ℕ) (z : Session) → takes zs now [] z ≡ z
takes-none zs now z =
    let n : ℕ = z.outbox.capacity - length z.outbox.waiting in
    same_holding z _ _ _ _ _ _ (ap (λ (ds : List Delivery). z.outbox.waiting ++ ds) (take-none n) ∙ append-nil z.outbox.waiting)
    (ap (λ b. z.missed || b) (le-ltb n 0 (omega arith)) ∙ or-false z.missed)
    (ap (λ (ss : List Sending). noting_each zs now ss z.replies) (take-none n))

pub map-twice : {X Y Z : Type 0} (f : X → Y) (g : Y → Z) (h : X → Z) (xs : List X) → ((x : X) → g (f x) ≡ h x) → map g (map f xs) ≡ map h xs
map-twice f g h [] same = refl
map-twice f g h (x ∷ xs) same = ap (λ y. y ∷ map g (map f xs)) (same x) ∙ ap (λ ys. h x ∷ ys) (map-twice f g h xs same)

-- what a session gets of a message
abbrev pub gets : List Session → ℕ → List Sending → Session → Session
gets zs now ss z = takes zs now (sent_to z.conn ss) z

only-conn : (f : Session → Session) (conn : ℕ) (z : Session) → (f z).conn ≡ z.conn → (only f conn z).conn ≡ z.conn
only-conn f conn z same = either (λ (y : Session). y.conn) (z.conn == conn) (f z) z same

gets-more : (zs : List Session) (now : ℕ) (s : Sending) (ss : List Sending) (z : Session) →
    gets zs now ss (only (offered (delivery_of s) (note_in zs s) now) s.to.conn z) ≡ gets zs now (s ∷ ss) z
gets-more zs now s ss z = here (cases_eq z.conn s.to.conn)
  where
    here : (z.conn ≡ s.to.conn) ⊎ (z.conn ≡ s.to.conn → ⊥) → gets zs now ss (only (offered (delivery_of s) (note_in zs s) now) s.to.conn z) ≡ gets zs now (s ∷ ss) z
    here (inl e) =
        ap (λ b. gets zs now ss (cond b (offered (delivery_of s) (note_in zs s) now z) z)) (eq-eqb z.conn s.to.conn e)
        ∙ ap (λ n. takes zs now (sent_to n ss) (offered (delivery_of s) (note_in zs s) now z)) (offered-conn (delivery_of s) (note_in zs s) now z)
        ∙ takes-more zs now s (sent_to z.conn ss) z
        ∙ sym (ap (λ b. takes zs now (cond b (s ∷ sent_to z.conn ss) (sent_to z.conn ss)) z) (eq-eqb s.to.conn z.conn (sym e)))
    here (inr ne) =
        ap (λ b. gets zs now ss (cond b (offered (delivery_of s) (note_in zs s) now z) z)) (ne_eqb z.conn s.to.conn ne)
        ∙ sym (ap (λ b. takes zs now (cond b (s ∷ sent_to z.conn ss) (sent_to z.conn ss)) z) (ne_eqb s.to.conn z.conn (λ e. ne (sym e))))

handed : (zs : List Session) (now : ℕ) (ss : List Sending) (ys : List Session) → AllPairs IsApart ys →
    (delivered now (map (sent zs) ss) ys).0 ≡ map (gets zs now ss) ys
handed zs now [] ys apart = sym (map_fixed (gets zs now []) ys (λ k d h. takes-none zs now _))
handed zs now (s ∷ ss) ys apart =
    let f : Session → Session = offered (delivery_of s) (note_in zs s) now in
    let changed = with_session-map f s.to.conn ys apart in
    let same : (z : Session) → (only f s.to.conn z).conn ≡ z.conn = λ z. only-conn f s.to.conn z (offered-conn (delivery_of s) (note_in zs s) now z) in
    let still : AllPairs IsApart (map (only f s.to.conn) ys) =
    AllPairs-map IsApart (only f s.to.conn) ys (λ y z ne e. ne (sym (same y) ∙ e ∙ same z)) apart in
    handed zs now ss (after_offer now (sent zs s) ys) (subst (AllPairs IsApart) (sym changed) still)
    ∙ ap (map (gets zs now ss)) changed
    ∙ map-twice (only f s.to.conn) (gets zs now ss) (gets zs now (s ∷ ss)) ys (gets-more zs now s ss)

-- ---- answers

pub map_same_on : {X Y : Type 0} (f g : X → Y) (xs : List X) → All (λ x. f x ≡ g x) xs → map f xs ≡ map g xs
map_same_on f g [] same = refl
map_same_on f g (x ∷ xs) same =
    ap (λ y. y ∷ map f xs) (All-head (λ x. f x ≡ g x) x xs same) ∙ ap (λ ys. g x ∷ ys) (map_same_on f g xs (All-tail (λ x. f x ≡ g x) x xs same))

-- each session is its connection's
abbrev pub IsFound : List Session → Session → Type 0
IsFound zs z = session_of zs z.conn ≡ Some z

pub found : (zs : List Session) → AllPairs IsApart zs → All (IsFound zs) zs
found [] apart = All-nil (IsFound [])
found (y ∷ zs) apart =
    All-cons (IsFound (y ∷ zs)) y zs
    (ap (λ b. cond b (Some y) (session_of zs y.conn)) (eq-eqb y.conn y.conn refl))
    (λ k d h. ap (λ b. cond b (Some y) (session_of zs (get_or zs k d).conn)) (ne_eqb y.conn (get_or zs k d).conn (AllPairs-head IsApart y zs apart k d h)) ∙ found zs (AllPairs-tail IsApart y zs apart) k d h)

-- a table is there, or there was none before
abbrev IsThere : Table → Table → Type 0
IsThere None before = is_some before ≡ false
IsThere (Some gs) before = Unit {0}

there-itself : (table : Table) → IsThere table table
there-itself None = refl
there-itself (Some gs) = tt

there-answered : (s : List Token) (table : Table) → IsThere (responded_in s table) table
there-answered s None = refl
there-answered s (Some gs) = tt

there-noted : (now : ℕ) (terms : Option Terms) (reply : Option (List Token)) (table before : Table) → IsThere table before → IsThere (noted_at now terms reply table) before
there-noted now terms None table before there = there
there-noted now None (Some s) table before there = there
there-noted now (Some terms) (Some s) None before there = tt
there-noted now (Some terms) (Some s) (Some gs) before there = tt

-- what is noted by the sessions before is what the guarantee says
noted-is : (now : ℕ) (reply : Option (List Token)) (z : Session) (table : Table) → IsThere table z.replies →
    noting (note_for reply (Some z)) now table ≡ noted_at now (terms_of z) reply table
noted-is now None z table there = refl
noted-is now (Some s) z table there = here (terms_of z) table there
  where
    here : (o : Option Terms) (t : Table) → IsThere t z.replies → noting (option_map (λ (x : Terms). note_of s z.replies) o) now t ≡ noted_at now o (Some s) t
    here None t there = refl
    here (Some terms) (Some gs) there = refl
    here (Some terms) None there = ap (λ b. noted record { subject = s; table = cond b None (Some []) } now None) there

abbrev IsTo : List Session → Session → Sending → Type 0
IsTo zs z s = session_of zs s.to.conn ≡ Some z

each-is : (zs : List Session) (now n : ℕ) (z : Session) (ss : List Sending) (table : Table) → All (IsTo zs z) ss → IsThere table z.replies →
    noting_each zs now (take n ss) table ≡ noted_each now (terms_of z) (take n (map delivery_of ss)) table
each-is zs now zero z [] table all there = refl
each-is zs now zero z (s ∷ ss) table all there = refl
each-is zs now (suc n) z [] table all there = refl
each-is zs now (suc n) z (s ∷ ss) table all there =
    ap (λ t. noting_each zs now (take n ss) t) (ap (λ o. noting (note_for s.message.reply o) now table) (All-head (IsTo zs z) s ss all) ∙ noted-is now s.message.reply z table there)
    ∙ each-is zs now n z ss (noted_at now (terms_of z) s.message.reply table) (All-tail (IsTo zs z) s ss all) (there-noted now (terms_of z) s.message.reply table z.replies there)

-- what a session gets of a message that its publisher may publish on a subject
abbrev pub receives_of : ℕ → By → ℕ → List Token → List Sending → Session → Session
receives_of now by conn s ss z = receives now by conn s (map delivery_of (sent_to z.conn ss)) z

module _ (now conn : ℕ) (s : List Token) (ss : List Sending) (zs : List Session) where
  abbrev ds : Session → List Delivery
  ds z = map delivery_of (sent_to z.conn ss)

  abbrev waiting : Session → List Delivery
  waiting z = z.outbox.waiting ++ take (room_in (Some z)) (ds z)

  abbrev missed : Session → Bool
  missed z = z.missed || nat_lt (room_in (Some z)) (length (ds z))

  abbrev noted_by : Session → Table → Table
  noted_by z table = noted_each now (terms_of z) (take (room_in (Some z)) (ds z)) table

  own-is : (z : Session) → IsFound zs z → All (IsTo zs z) (sent_to z.conn ss)
  own-is z at k d h = ap (session_of zs) (eqb-true (get_or (sent_to z.conn ss) k d).to.conn z.conn (filter_passes (λ (x : Sending). x.to.conn == z.conn) ss k d h)) ∙ at

  -- no answer
  plain-is : (z : Session) → IsFound zs z → gets zs now ss z ≡ holding z (waiting z) (missed z) (noted_by z z.replies)
  plain-is z at =
      ap (λ t. holding z (waiting z) (missed z) t) (each-is zs now (room_in (Some z)) z (sent_to z.conn ss) z.replies (own-is z at) (there-itself z.replies))

  -- an answer
  answer-is : (z : Session) → IsFound zs z →
      ending s (gets zs now ss (responding s z)) ≡ holding z (waiting z) (missed z) (ended_in s (terms_of z) (noted_by z (responded_in s z.replies)))
  answer-is z at =
      ap (λ t. holding z (waiting z) (missed z) (ended_in s (terms_of z) t))
      (each-is zs now (room_in (Some z)) z (sent_to z.conn ss) (responded_in s z.replies) (own-is z at) (there-answered s z.replies))

  by_grant : (z : Session) → IsFound zs z →
      only (ending s) conn (gets zs now ss (only (responding s) conn z)) ≡ receives_of now Grant conn s ss z
  by_grant z at = here (z.conn == conn) refl
    where
      plain : Table
      plain = noted_by z z.replies

      answer : Table
      answer = ended_in s (terms_of z) (noted_by z (responded_in s z.replies))

      here : (b : Bool) → (z.conn == conn) ≡ b → only (ending s) conn (gets zs now ss (only (responding s) conn z)) ≡ receives_of now Grant conn s ss z
      here true is =
          ap (λ c. only (ending s) conn (gets zs now ss (cond c (responding s z) z))) is
          ∙ ap (λ c. cond c (ending s (gets zs now ss (responding s z))) (gets zs now ss (responding s z))) is
          ∙ answer-is z at
          ∙ sym (ap (λ c. holding z (waiting z) (missed z) (cond c answer plain)) is)
      here false is =
          ap (λ c. only (ending s) conn (gets zs now ss (cond c (responding s z) z))) is
          ∙ ap (λ c. cond c (ending s (gets zs now ss z)) (gets zs now ss z)) is
          ∙ plain-is z at
          ∙ sym (ap (λ c. holding z (waiting z) (missed z) (cond c answer plain)) is)

  all_plain : AllPairs IsApart zs → (delivered now (map (sent zs) ss) zs).0 ≡ map (λ z. holding z (waiting z) (missed z) (noted_by z z.replies)) zs
  all_plain apart =
      handed zs now ss zs apart
      ∙ map_same_on (gets zs now ss) _ zs (λ k d h. plain-is (get_or zs k d) (found zs apart k d h))

  -- what is handed over of a message that was published
  pub outboxes : (by : By) → AllPairs IsApart zs →
      ended_on by conn s (delivered now (map (sent zs) ss) (counted_on by conn s zs)).0 ≡ map (receives_of now by conn s ss) zs
  outboxes AllowsAll apart = all_plain apart
  outboxes (Index i) apart = all_plain apart
  outboxes Grant apart =
      let count : Session → Session = responding s in
      let end : Session → Session = ending s in
      let get : Session → Session = gets zs now ss in
      let counted = with_session-map count conn zs apart in
      let same : (z : Session) → (only count conn z).conn ≡ z.conn = λ z. only-conn count conn z refl in
      let still : AllPairs IsApart (map (only count conn) zs) = AllPairs-map IsApart (only count conn) zs (λ y z ne e. ne (sym (same y) ∙ e ∙ same z)) apart in
      let later : AllPairs IsApart (map get (map (only count conn) zs)) = AllPairs-map IsApart get (map (only count conn) zs) (λ y z ne e. ne e) still in
      ap (λ ys. with_session end conn (delivered now (map (sent zs) ss) ys).0) counted
      ∙ ap (with_session end conn) (handed zs now ss (map (only count conn) zs) still)
      ∙ with_session-map end conn (map get (map (only count conn) zs)) later
      ∙ ap (map (only end conn)) (map-twice (only count conn) get (λ z. get (only count conn z)) zs (λ z. refl))
      ∙ map-twice (λ z. get (only count conn z)) (only end conn) (λ z. only end conn (get (only count conn z))) zs (λ z. refl)
      ∙ map_same_on (λ z. only end conn (get (only count conn z))) (receives_of now Grant conn s ss) zs (λ k d h. by_grant (get_or zs k d) (found zs apart k d h))

-- ---- the items

abbrev pub items_after : List Session → ℕ → List Sending → List Session → List Item
items_after zs now ss ys = (delivered now (map (sent zs) ss) ys).1

pub one_each : (zs : List Session) (now : ℕ) (ss : List Sending) (ys : List Session) → map item_names (items_after zs now ss ys) ≡ map (λ (s : Sending). Some (names_of s.to)) ss
one_each zs now [] ys = refl
one_each zs now (s ∷ ss) ys =
    ap (λ n. n ∷ map item_names (items_after zs now ss (after_offer now (sent zs s) ys))) (here (has_room (session_of ys s.to.conn)))
    ∙ ap (λ rest. Some (names_of s.to) ∷ rest) (one_each zs now ss (after_offer now (sent zs s) ys))
  where
    here : (b : Bool) → item_names (cond b (Entered s.to.conn s.to.sid) (Full s.to.conn s.to.sid)) ≡ Some (names_of s.to)
    here true = refl
    here false = refl

-- the item of one delivery to the connection, before the items of the others
with_room-more : (now : ℕ) (what : Option Note) (o : Option Session) (d : Delivery) (sub : Subscription) (own : List Subscription) →
    cond (has_room o) (Entered sub.conn sub.sid) (Full sub.conn sub.sid) ∷ items_with_room (room_in (option_map (offered d what now) o)) own ≡ items_with_room (room_in o) (sub ∷ own)
with_room-more now what None d sub own = refl
with_room-more now what (Some z) d sub own = here (nat_lt (length z.outbox.waiting) z.outbox.capacity) refl
  where
    here : (b : Bool) → nat_lt (length z.outbox.waiting) z.outbox.capacity ≡ b →
        cond b (Entered sub.conn sub.sid) (Full sub.conn sub.sid) ∷ items_with_room (room_in (Some (cond b (record z { outbox = record z.outbox { waiting = z.outbox.waiting ++ d ∷ [] }; replies = noting what now z.replies }) (record z { missed = true })))) own
        ≡ items_with_room (room_in (Some z)) (sub ∷ own)
    here true is =
        let h = ltb-true (length z.outbox.waiting) z.outbox.capacity is in
        let m : ℕ = z.outbox.capacity - (length z.outbox.waiting + 1) in
        let less : z.outbox.capacity - length (z.outbox.waiting ++ d ∷ []) ≡ m = omega (arith, length-append z.outbox.waiting (d ∷ [])) in
        let more : z.outbox.capacity - length z.outbox.waiting ≡ suc m = omega arith in
        ap (λ n. Entered sub.conn sub.sid ∷ items_with_room n own) less ∙ sym (ap (λ n. items_with_room n (sub ∷ own)) more)
    here false is =
        let h = ltb-false (length z.outbox.waiting) z.outbox.capacity is in
        let none : z.outbox.capacity - length z.outbox.waiting ≡ 0 = omega arith in
        ap (λ n. Full sub.conn sub.sid ∷ items_with_room n own) none ∙ sym (ap (λ n. items_with_room n (sub ∷ own)) none)

item-at : (o : Option Session) (sub : Subscription) (conn : ℕ) → tells_of (λ (d : DeliveryItem). d.conn == conn) (cond (has_room o) (Entered sub.conn sub.sid) (Full sub.conn sub.sid)) ≡ (sub.conn == conn)
item-at o sub conn = here (has_room o)
  where
    here : (b : Bool) → tells_of (λ (d : DeliveryItem). d.conn == conn) (cond b (Entered sub.conn sub.sid) (Full sub.conn sub.sid)) ≡ (sub.conn == conn)
    here true = refl
    here false = refl

pub with_room : (zs : List Session) (now : ℕ) (ss : List Sending) (ys : List Session) (conn : ℕ) →
    items_of conn (items_after zs now ss ys) ≡ items_with_room (room_in (session_of ys conn)) (map receiver (sent_to conn ss))
with_room zs now [] ys conn = none (room_in (session_of ys conn))
  where
    none : (n : ℕ) → [] ≡ items_with_room n []
    none zero = refl
    none (suc n) = refl
with_room zs now (s ∷ ss) ys conn = here (cases_eq s.to.conn conn) (with_room zs now ss (after_offer now (sent zs s) ys) conn)
  where
    offer : Session → Session
    offer = offered (delivery_of s) (note_in zs s) now

    same : (z : Session) → (offer z).conn ≡ z.conn
    same = offered-conn (delivery_of s) (note_in zs s) now

    own : List Subscription
    own = map receiver (sent_to conn ss)

    rest : List Item
    rest = items_after zs now ss (after_offer now (sent zs s) ys)

    item : Item
    item = item_of (sent zs s) ys

    here : (s.to.conn ≡ conn) ⊎ (s.to.conn ≡ conn → ⊥) →
        items_of conn rest ≡ items_with_room (room_in (session_of (after_offer now (sent zs s) ys) conn)) own →
        items_of conn (item ∷ rest) ≡ items_with_room (room_in (session_of ys conn)) (map receiver (sent_to conn (s ∷ ss)))
    here (inl e) later =
        let changed : session_of (after_offer now (sent zs s) ys) conn ≡ option_map offer (session_of ys conn) =
        subst (λ n. session_of (with_session offer s.to.conn ys) n ≡ option_map offer (session_of ys n)) e (session_of-changed offer s.to.conn ys same) in
        ap (λ b. cond b (item ∷ items_of conn rest) (items_of conn rest)) (item-at (session_of ys s.to.conn) s.to conn ∙ eq-eqb s.to.conn conn e)
        ∙ ap (λ n. cond (has_room (session_of ys n)) (Entered s.to.conn s.to.sid) (Full s.to.conn s.to.sid) ∷ items_of conn rest) e
        ∙ ap (λ left. cond (has_room (session_of ys conn)) (Entered s.to.conn s.to.sid) (Full s.to.conn s.to.sid) ∷ left) (later ∙ ap (λ o. items_with_room (room_in o) own) changed)
        ∙ with_room-more now (note_in zs s) (session_of ys conn) (delivery_of s) s.to own
        ∙ sym (ap (λ b. items_with_room (room_in (session_of ys conn)) (map receiver (cond b (s ∷ sent_to conn ss) (sent_to conn ss)))) (eq-eqb s.to.conn conn e))
    here (inr ne) later =
        ap (λ b. cond b (item ∷ items_of conn rest) (items_of conn rest)) (item-at (session_of ys s.to.conn) s.to conn ∙ ne_eqb s.to.conn conn ne)
        ∙ later
        ∙ ap (λ o. items_with_room (room_in o) own) (session_of-other offer s.to.conn conn ys same ne)
        ∙ sym (ap (λ b. items_with_room (room_in (session_of ys conn)) (map receiver (cond b (s ∷ sent_to conn ss) (sent_to conn ss)))) (ne_eqb s.to.conn conn ne))
