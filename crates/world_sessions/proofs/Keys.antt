-- The connections beside their sessions, through a change of both.
use Rattle.std.proofs.Common.{get_or, set, zero, suc, length, ◌≡◌, ◌∙◌, ◌==◌, ◌<◌, ◌≤◌, ℕ, Bool, true, false, cond, List, [], ◌∷◌, map, filter, Some, None, ap, refl, sym, subst, arith, ◌||◌}
use Rattle.std.specs.Prelude.{AllPairs, nat_eq, ◌≢◌}
use Rattle.std.specs.List.{list_any, IsDistinct}
use Rattle.std.proofs.lemmas.List.{length-map, length-set, get_or-map}
use Rattle.std.proofs.lemmas.Bool.Decides.{Decides-eqb}
use Rattle.std.proofs.lemmas.Map.Made.{AllPairs-from_IsDistinct}
use Rattle.world_sessions.specs.deliveries.Sessions.{session_of, with_session, IsApart, IsPlace}
use Rattle.world_sessions.specs.Renewal.{connection_of}
use Rattle.world_sessions.specs.declared.deliveries.session.Session.{Session}
use Rattle.world_sessions.proofs.deliveries.Places.{eqb_comm}

pub filter_keys : (p : ℕ → Bool) (zs : List Session) → filter p (map connection_of zs) ≡ map connection_of (filter (λ (z : Session). p z.conn) zs)
filter_keys p [] = refl
filter_keys p (z ∷ zs) = here (p z.conn) (filter_keys p zs)
  where
    here : (b : Bool) → filter p (map connection_of zs) ≡ map connection_of (filter (λ (y : Session). p y.conn) zs) →
        cond b (z.conn ∷ filter p (map connection_of zs)) (filter p (map connection_of zs)) ≡ map connection_of (cond b (z ∷ filter (λ (y : Session). p y.conn) zs) (filter (λ (y : Session). p y.conn) zs))
    here true later = ap (λ rest. z.conn ∷ rest) later
    here false later = later

-- a connection without a session is no key
pub no_key : (conn : ℕ) (zs : List Session) → session_of zs conn ≡ None → list_any (λ k. conn == k) (map connection_of zs) ≡ false
no_key conn [] none = refl
no_key conn (z ∷ zs) none = here (z.conn == conn) refl (no_key conn zs) none
  where
    here : (b : Bool) → (z.conn == conn) ≡ b → (session_of zs conn ≡ None → list_any (λ k. conn == k) (map connection_of zs) ≡ false) → cond b (Some z) (session_of zs conn) ≡ None →
        ((conn == z.conn) || list_any (λ k. conn == k) (map connection_of zs)) ≡ false
    here true is later e = cc
    here false is later e = ap (λ b. b || list_any (λ k. conn == k) (map connection_of zs)) (eqb_comm conn z.conn ∙ is) ∙ later e

-- a write that keeps the connection keeps the keys, and the length
pub keys_written : (zs : List Session) (i : ℕ) (z w : Session) → z ≡ get_or zs i z → w.conn ≡ z.conn → map connection_of (set zs i w) ≡ map connection_of zs
keys_written [] i z w is same = refl
keys_written (y ∷ zs) zero z w is same = ap (λ n. n ∷ map connection_of zs) (same ∙ ap connection_of is)
keys_written (y ∷ zs) (suc i) z w is same = ap (λ ns. y.conn ∷ ns) (keys_written zs i z w is same)

-- ---- different connections

-- sessions are of different connections where the keys differ
pub apart_by_keys : (ks : List ℕ) (zs : List Session) → IsDistinct nat_eq ks → ks ≡ map connection_of zs → AllPairs IsApart zs
apart_by_keys ks zs apart same i j d h l e =
    let all : AllPairs (λ (x y : ℕ). x ≢ y) (map connection_of zs) = subst (AllPairs (λ (x y : ℕ). x ≢ y)) same (AllPairs-from_IsDistinct Decides-eqb ks apart) in
    let lj : j < length (map connection_of zs) = omega (arith, length-map zs connection_of) in
    all i j d.conn h lj (get_or-map connection_of zs i d d.conn (omega arith) ∙ e ∙ sym (get_or-map connection_of zs j d d.conn l))

-- ---- one session changed at its place

-- the keys stay, and there is room beside each session
pub written_keys : (ks rooms : List ℕ) (zs : List Session) (i : ℕ) (z w : Session) → ks ≡ map connection_of zs → length zs ≤ length rooms → z ≡ get_or zs i z → w.conn ≡ z.conn →
    (ks ≡ map connection_of (set zs i w)) × (length (set zs i w) ≤ length rooms)
written_keys ks rooms zs i z w keys fits is same = (keys ∙ sym (keys_written zs i z w is same), omega (arith, fits, length-set zs i w))

-- what stands there then is the change of the connection's session
pub written_there : (f : Session → Session) (conn : ℕ) (zs old : List Session) (i : ℕ) (z w : Session) → zs ≡ old → IsPlace conn old i → z ≡ get_or zs i z → w ≡ f z → set zs i w ≡ with_session f conn old
written_there f conn zs old i z w same place is change =
    ap (set zs i) (change ∙ ap f is)
    ∙ ap (λ (ys : List Session). set ys i (f (get_or ys i z))) same
    ∙ sym (place.write f z)
