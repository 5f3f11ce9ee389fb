-- Sessions of tenants among all sessions, and deliveries to them.
use Rattle.std.proofs.Common.{◌≡◌, ◌∙◌, ◌==◌, ◌&&◌, ◌||◌, ◌+◌, ℕ, Bool, true, false, cond, List, [], ◌∷◌, ◌++◌, Option, ap, sym, refl, length, nat_lt}
use Rattle.std.specs.Prelude.{All, nat_eq}
use Rattle.std.specs.Cmp.Lexicographic.{pointwise}
use Rattle.std.proofs.lemmas.Bool.{eqb-true}
use Rattle.std.proofs.lemmas.List.Elements.{All-nil, All-cons, All-head, All-tail}
use Rattle.world_sessions.specs.Note.{Note}
use Rattle.events.specs.declared.answer.Addressed.{Addressed}
use Rattle.events.specs.declared.answer.Delivery.{Delivery}
use Rattle.events.specs.declared.answer.Item.{Item}
use Rattle.events.specs.declared.answer.Item.TheVariants.{Entered, Full, RouteFull, MapTooLong, Unmapped, MappedTooLong}
use Rattle.world_sessions.specs.deliveries.Sessions.{session_of, with_session}
use Rattle.world_sessions.specs.deliveries.Delivered.{after_offer, delivered, has_room, item_of, noting, offered}
use Rattle.world_sessions.specs.declared.deliveries.session.Session.{Session}
use Rattle.world_subscriptions.specs.Limit.{counted, has_entered, is_entry_for}
use Rattle.world_subscriptions.specs.Subscription.{Subscription}
use Rattle.world.proofs.Handed.{find-filter}
use Rattle.tenant_laws.specs.worlds.Tenants.{Tenants, has_session, sessions_of}

-- a delivery is for a connection of theirs, or for none of theirs
abbrev pub IsTo : Tenants → Bool → Addressed → Type 0
IsTo t b a = t.connections a.conn ≡ b

-- an item tells of no connection of theirs
abbrev pub IsElsewhere : Tenants → Item → Type 0
IsElsewhere t (Entered conn sid) = t.connections conn ≡ false
IsElsewhere t (Full conn sid) = Unit {0}
IsElsewhere t (RouteFull row) = Unit {0}
IsElsewhere t (MapTooLong row) = Unit {0}
IsElsewhere t Unmapped = Unit {0}
IsElsewhere t (MappedTooLong index) = Unit {0}

pub offered_conn : (d : Delivery) (what : Option Note) (now : ℕ) (z : Session) → (offered d what now z).conn ≡ z.conn
offered_conn d what now z = by (nat_lt (length z.outbox.waiting) z.outbox.capacity)
  where
    by : (b : Bool) → (cond b (record z { outbox = record z.outbox { waiting = z.outbox.waiting ++ d ∷ [] }; replies = noting what now z.replies }) (record z { missed = true })).conn ≡ z.conn
    by true = refl
    by false = refl

module _ (t : Tenants) where
  pub session_kept : (conn : ℕ) (zs : List Session) → t.connections conn ≡ true → session_of (sessions_of t zs) conn ≡ session_of zs conn
  session_kept conn zs is = find-filter (λ (z : Session). z.conn == conn) (has_session t) zs (λ z at. ap t.connections (eqb-true z.conn conn at) ∙ is)

  pub changed_kept : (f : Session → Session) → ((z : Session) → (f z).conn ≡ z.conn) → (conn : ℕ) (zs : List Session) → t.connections conn ≡ true →
      sessions_of t (with_session f conn zs) ≡ with_session f conn (sessions_of t zs)
  changed_kept f keeps conn [] is = refl
  changed_kept f keeps conn (z ∷ zs) is = by (z.conn == conn) refl (t.connections z.conn) refl (changed_kept f keeps conn zs is)
    where
      by : (b : Bool) → (z.conn == conn) ≡ b → (c : Bool) → t.connections z.conn ≡ c → sessions_of t (with_session f conn zs) ≡ with_session f conn (sessions_of t zs) →
          sessions_of t (cond b (f z ∷ zs) (z ∷ with_session f conn zs)) ≡ with_session f conn (cond c (z ∷ sessions_of t zs) (sessions_of t zs))
      by true e true g later = rw (keeps z, g, e) refl
      by true e false g later = let no : false ≡ true = sym g ∙ ap t.connections (eqb-true z.conn conn e) ∙ is in absurd (cc)
      by false e true g later = rw (g, e) (ap (λ l. z ∷ l) later)
      by false e false g later = rw g later

  pub others_kept : (f : Session → Session) → ((z : Session) → (f z).conn ≡ z.conn) → (conn : ℕ) (zs : List Session) → t.connections conn ≡ false →
      sessions_of t (with_session f conn zs) ≡ sessions_of t zs
  others_kept f keeps conn [] is = refl
  others_kept f keeps conn (z ∷ zs) is = by (z.conn == conn) refl (t.connections z.conn) refl (others_kept f keeps conn zs is)
    where
      by : (b : Bool) → (z.conn == conn) ≡ b → (c : Bool) → t.connections z.conn ≡ c → sessions_of t (with_session f conn zs) ≡ sessions_of t zs →
          sessions_of t (cond b (f z ∷ zs) (z ∷ with_session f conn zs)) ≡ cond c (z ∷ sessions_of t zs) (sessions_of t zs)
      by true e true g later = let no : false ≡ true = sym is ∙ ap t.connections (sym (eqb-true z.conn conn e)) ∙ g in absurd (cc)
      by true e false g later = rw (keeps z, g) refl
      by false e true g later = rw g (ap (λ l. z ∷ l) later)
      by false e false g later = rw g later

  -- ---- deliveries

  pub delivered_own : (now : ℕ) (all : List Addressed) (zs : List Session) → All (IsTo t true) all →
      ◌≡◌ {A = List Session × List Item} (delivered now all (sessions_of t zs)) (sessions_of t (delivered now all zs).0, (delivered now all zs).1)
  delivered_own now [] zs to = refl
  delivered_own now (a ∷ rest) zs to =
      let is : t.connections a.conn ≡ true = All-head (IsTo t true) a rest to in
      let offer : sessions_of t (after_offer now a zs) ≡ after_offer now a (sessions_of t zs) =
      changed_kept (offered a.delivery a.noted now) (offered_conn a.delivery a.noted now) a.conn zs is in
      let item : item_of a (sessions_of t zs) ≡ item_of a zs =
      ap (λ (o : Option Session). cond (has_room o) (Entered a.conn a.delivery.sid) (Full a.conn a.delivery.sid)) (session_kept a.conn zs is) in
      let both : Item → List Session × List Item → List Session × List Item = λ i after. (after.0, i ∷ after.1) in
      ap (λ (ys : List Session). both (item_of a (sessions_of t zs)) (delivered now rest ys)) (sym offer)
      ∙ ap (both (item_of a (sessions_of t zs))) (delivered_own now rest (after_offer now a zs) (All-tail (IsTo t true) a rest to))
      ∙ ap (λ i. both i (sessions_of t (delivered now rest (after_offer now a zs)).0, (delivered now rest (after_offer now a zs)).1)) item

  pub delivered_others : (now : ℕ) (all : List Addressed) (zs : List Session) → All (IsTo t false) all → sessions_of t (delivered now all zs).0 ≡ sessions_of t zs
  delivered_others now [] zs to = refl
  delivered_others now (a ∷ rest) zs to =
      delivered_others now rest (after_offer now a zs) (All-tail (IsTo t false) a rest to)
      ∙ others_kept (offered a.delivery a.noted now) (offered_conn a.delivery a.noted now) a.conn zs (All-head (IsTo t false) a rest to)

  pub items_elsewhere : (now : ℕ) (all : List Addressed) (zs : List Session) → All (IsTo t false) all → All (IsElsewhere t) (delivered now all zs).1
  items_elsewhere now [] zs to = All-nil (IsElsewhere t)
  items_elsewhere now (a ∷ rest) zs to =
      All-cons (IsElsewhere t) (item_of a zs) (delivered now rest (after_offer now a zs)).1 (by (has_room (session_of zs a.conn)))
      (items_elsewhere now rest (after_offer now a zs) (All-tail (IsTo t false) a rest to))
    where
      by : (b : Bool) → IsElsewhere t (cond b (Entered a.conn a.delivery.sid) (Full a.conn a.delivery.sid))
      by true = All-head (IsTo t false) a rest to
      by false = tt

  -- ---- what is counted

  not_entered : (items : List Item) (s : Subscription) → t.connections s.conn ≡ true → All (IsElsewhere t) items → has_entered items s ≡ false
  not_entered [] s is all = refl
  not_entered (i ∷ items) s is all =
      ap (λ b. b || has_entered items s) (by i (All-head (IsElsewhere t) i items all)) ∙ not_entered items s is (All-tail (IsElsewhere t) i items all)
    where
      apart : (conn : ℕ) (sid : List ℕ) → t.connections conn ≡ false → (b : Bool) → (s.conn == conn) ≡ b → (b && pointwise nat_eq s.sid sid) ≡ false
      apart conn sid out false e = refl
      apart conn sid out true e = let no : false ≡ true = sym out ∙ ap t.connections (sym (eqb-true s.conn conn e)) ∙ is in absurd (cc)

      by : (item : Item) → IsElsewhere t item → is_entry_for s item ≡ false
      by (Entered conn sid) out = apart conn sid out (s.conn == conn) refl
      by (Full conn sid) out = refl
      by (RouteFull row) out = refl
      by (MapTooLong row) out = refl
      by Unmapped out = refl
      by (MappedTooLong index) out = refl

  pub not_counted : (items : List Item) (s : Subscription) → t.connections s.conn ≡ true → All (IsElsewhere t) items → counted items s ≡ s
  not_counted items s is all = ap (λ b. cond (b && nat_lt s.received 18446744073709551615) (record s { received = s.received + 1 }) s) (not_entered items s is all)
