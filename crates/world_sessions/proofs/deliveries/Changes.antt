-- A change of one session among all.
use Rattle.std.proofs.Common.{◌≡◌, ◌∙◌, ◌==◌, ℕ, ◌<◌, suc, Bool, true, false, cond, List, [], ◌∷◌, ◌++◌, map, length, get_or, Option, Some, ap, sym, refl, arith, nat_lt}
use Rattle.std.specs.Prelude.{All, AllPairs, ◌≢◌}
use Rattle.std.specs.Option.{option_map}
use Rattle.std.proofs.lemmas.Bool.{eqb-true, ne_eqb}
use Rattle.std.proofs.lemmas.List.{length-map, get_or-map}
use Rattle.std.proofs.lemmas.List.Elements.{All-head, All-tail}
use Rattle.reply_grants.specs.declared.replies.Note.{Note}
use Rattle.events.specs.declared.answer.Delivery.{Delivery}
use Rattle.world_sessions.specs.deliveries.Sessions.{session_of, with_session, IsApart}
use Rattle.world_sessions.specs.deliveries.Delivered.{noting, offered}
use Rattle.world_sessions.specs.declared.deliveries.session.Session.{Session}

-- a change of the sessions of one connection
abbrev pub only : (Session → Session) → ℕ → Session → Session
only f conn z = cond (z.conn == conn) (f z) z

only-none : (f : Session → Session) (conn : ℕ) (zs : List Session) → All (λ (z : Session). (z.conn == conn) ≡ false) zs → map (only f conn) zs ≡ zs
only-none f conn [] none = refl
only-none f conn (z ∷ zs) none =
    ap (λ b. cond b (f z) z ∷ map (only f conn) zs) (All-head (λ (y : Session). (y.conn == conn) ≡ false) z zs none)
    ∙ ap (λ rest. z ∷ rest) (only-none f conn zs (All-tail (λ (y : Session). (y.conn == conn) ≡ false) z zs none))

apart-first : (z : Session) (zs : List Session) → AllPairs IsApart (z ∷ zs) → All (IsApart z) zs
apart-first z zs apart k d h = apart 0 (suc k) d (omega arith) (omega arith)

apart-rest : (z : Session) (zs : List Session) → AllPairs IsApart (z ∷ zs) → AllPairs IsApart zs
apart-rest z zs apart i j d h k = apart (suc i) (suc j) d (omega arith) (omega arith)

-- a change that keeps the connections keeps them apart
pub apart-map : (f : Session → Session) (zs : List Session) → ((z : Session) → (f z).conn ≡ z.conn) → AllPairs IsApart zs → AllPairs IsApart (map f zs)
apart-map f zs same apart i j d h k =
    let lj : j < length zs = omega (arith, length-map zs f) in
    rw (get_or-map f zs i d d (omega arith), get_or-map f zs j d d lj) (λ e. apart i j d h lj (sym (same (get_or zs i d)) ∙ e ∙ same (get_or zs j d)))

-- where each connection has one session, a change of the first is a change of all
pub with_session-map : (f : Session → Session) (conn : ℕ) (zs : List Session) → AllPairs IsApart zs → with_session f conn zs ≡ map (only f conn) zs
with_session-map f conn [] apart = refl
with_session-map f conn (z ∷ zs) apart = here (z.conn == conn) refl (with_session-map f conn zs (apart-rest z zs apart))
  where
    others : (z.conn == conn) ≡ true → All (λ (y : Session). (y.conn == conn) ≡ false) zs
    others is k d h = ne_eqb _ _ (λ same. apart-first z zs apart k d h (eqb-true z.conn conn is ∙ sym same))

    here : (b : Bool) → (z.conn == conn) ≡ b → with_session f conn zs ≡ map (only f conn) zs → cond b (f z ∷ zs) (z ∷ with_session f conn zs) ≡ cond b (f z) z ∷ map (only f conn) zs
    here true is later = ap (λ rest. f z ∷ rest) (sym (only-none f conn zs (others is)))
    here false is later = ap (λ rest. z ∷ rest) later

-- the changed session is found in its place
pub session_of-changed : (f : Session → Session) (conn : ℕ) (zs : List Session) → ((z : Session) → (f z).conn ≡ z.conn) → session_of (with_session f conn zs) conn ≡ option_map f (session_of zs conn)
session_of-changed f conn [] same = refl
session_of-changed f conn (z ∷ zs) same = here (z.conn == conn) refl (session_of-changed f conn zs same)
  where
    here : (b : Bool) → (z.conn == conn) ≡ b → session_of (with_session f conn zs) conn ≡ option_map f (session_of zs conn) →
        session_of (cond b (f z ∷ zs) (z ∷ with_session f conn zs)) conn ≡ option_map f (cond b (Some z) (session_of zs conn))
    here true is later = ap (λ n. cond (n == conn) (Some (f z)) (session_of zs conn)) (same z) ∙ ap (λ b. cond b (Some (f z)) (session_of zs conn)) is
    here false is later = ap (λ b. cond b (Some z) (session_of (with_session f conn zs) conn)) is ∙ later

-- and each other one as before
pub session_of-other : (f : Session → Session) (conn other : ℕ) (zs : List Session) → ((z : Session) → (f z).conn ≡ z.conn) → conn ≢ other → session_of (with_session f conn zs) other ≡ session_of zs other
session_of-other f conn other [] same apart = refl
session_of-other f conn other (z ∷ zs) same apart = here (z.conn == conn) refl (session_of-other f conn other zs same apart)
  where
    here : (b : Bool) → (z.conn == conn) ≡ b → session_of (with_session f conn zs) other ≡ session_of zs other →
        session_of (cond b (f z ∷ zs) (z ∷ with_session f conn zs)) other ≡ cond (z.conn == other) (Some z) (session_of zs other)
    here true is later =
        let no : (z.conn == other) ≡ false = ne_eqb _ _ (λ e. apart (sym (eqb-true z.conn conn is) ∙ e)) in
        ap (λ n. cond (n == other) (Some (f z)) (session_of zs other)) (same z)
        ∙ ap (λ b. cond b (Some (f z)) (session_of zs other)) no
        ∙ sym (ap (λ b. cond b (Some z) (session_of zs other)) no)
    here false is later = ap (λ o. cond (z.conn == other) (Some z) o) later

-- a delivery that is offered leaves the connection
pub offered-conn : (d : Delivery) (what : Option Note) (now : ℕ) (z : Session) → (offered d what now z).conn ≡ z.conn
offered-conn d what now z = here (nat_lt (length z.outbox.waiting) z.outbox.capacity)
  where
    here : (b : Bool) → (cond b (record z { outbox = record z.outbox { waiting = z.outbox.waiting ++ d ∷ [] }; replies = noting what now z.replies }) (record z { missed = true })).conn ≡ z.conn
    here true = refl
    here false = refl
