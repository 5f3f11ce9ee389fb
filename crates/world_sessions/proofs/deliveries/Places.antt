-- The session of a connection, and its place among all.
use Rattle.std.proofs.Common.{◌≡◌, ◌==◌, ℕ, ◌+◌, ◌<◌, ◌≤◌, Bool, true, false, cond, List, [], ◌∷◌, length, get_or, Option, Some, None, arith, refl, position, suc, zero, ap, ◌∙◌, set, nat_lt, sym, MatchOption, map, not, unwrap_or, AllPairs, ◌≢◌, slice_get}
use Rattle.std.proofs.lemmas.List.{length-map}
use Rattle.std.proofs.lemmas.List.Quantifiers.{position-Some}
use Rattle.std.proofs.lemmas.List.Sums.{fails_before_first, position_or_len_is}
use Rattle.std.proofs.lemmas.Option.{slice_get_within, unwrap_or-slice_get, slice_get-map}
use Rattle.std.specs.Option.{option_map}
use Rattle.world_sessions.specs.deliveries.Sessions.{connection_of}
use Rattle.std.proofs.lemmas.Bool.{ne_eqb}
use Rattle.std.proofs.lemmas.Bool.Decides.{nat_tests}
use Rattle.std.specs.List.{position_or_len}
use Rattle.world_sessions.specs.deliveries.Sessions.{session_of, with_session, IsNowhere, IsPlace}
use Rattle.world_sessions.specs.declared.deliveries.session.Session.{Session}

-- the test of a session by its connection
abbrev pub is_of : ℕ → Session → Bool
is_of conn z = z.conn == conn

-- where there is no place, no session passes
nowhere : {X : Type 0} (p : X → Bool) (zs : List X) → position p zs ≡ None → length zs ≤ position_or_len p zs
nowhere p zs none = beyond (position_or_len p zs) (length zs) none
  where
    beyond : (a b : ℕ) → cond (nat_lt a b) (Some a) None ≡ None → b ≤ a
    beyond a b e = grind (arith, nat_tests)

pub session_of-none : (conn : ℕ) (zs : List Session) → ((k : ℕ) (d : Session) → k < length zs → is_of conn (get_or zs k d) ≡ false) → session_of zs conn ≡ None
session_of-none conn [] none = refl
session_of-none conn (z ∷ zs) none =
    ap (λ b. cond b (Some z) (session_of zs conn)) (none 0 z (omega arith))
    ∙ session_of-none conn zs (λ k d h. none (suc k) d (omega arith))

pub with_session-none : (f : Session → Session) (conn : ℕ) (zs : List Session) → ((k : ℕ) (d : Session) → k < length zs → is_of conn (get_or zs k d) ≡ false) → with_session f conn zs ≡ zs
with_session-none f conn [] none = refl
with_session-none f conn (z ∷ zs) none =
    ap (λ b. cond b (f z ∷ zs) (z ∷ with_session f conn zs)) (none 0 z (omega arith))
    ∙ ap (λ rest. z ∷ rest) (with_session-none f conn zs (λ k d h. none (suc k) d (omega arith)))

-- the first that passes is the connection's
pub session_of-first : (conn : ℕ) (zs : List Session) (i : ℕ) (d : Session) → i < length zs →
    is_of conn (get_or zs i d) ≡ true → ((k : ℕ) → k < i → is_of conn (get_or zs k d) ≡ false) →
    session_of zs conn ≡ Some (get_or zs i d)
session_of-first conn [] i d h here before = absurd (omega arith)
session_of-first conn (z ∷ zs) zero d h here before = ap (λ b. cond b (Some z) (session_of zs conn)) here
session_of-first conn (z ∷ zs) (suc i) d h here before =
    ap (λ b. cond b (Some z) (session_of zs conn)) (before 0 (omega arith))
    ∙ session_of-first conn zs i d (omega arith) here (λ k l. before (suc k) (omega arith))

-- it is changed, and it alone
pub with_session-first : (f : Session → Session) (conn : ℕ) (zs : List Session) (i : ℕ) (d : Session) → i < length zs →
    is_of conn (get_or zs i d) ≡ true → ((k : ℕ) → k < i → is_of conn (get_or zs k d) ≡ false) →
    with_session f conn zs ≡ set zs i (f (get_or zs i d))
with_session-first f conn [] i d h here before = absurd (omega arith)
with_session-first f conn (z ∷ zs) zero d h here before = ap (λ b. cond b (f z ∷ zs) (z ∷ with_session f conn zs)) here
with_session-first f conn (z ∷ zs) (suc i) d h here before =
    ap (λ b. cond b (f z ∷ zs) (z ∷ with_session f conn zs)) (before 0 (omega arith))
    ∙ ap (λ rest. z ∷ rest) (with_session-first f conn zs i d (omega arith) here (λ k l. before (suc k) (omega arith)))

pub IsNowhere-from : (conn : ℕ) (zs : List Session) → position (is_of conn) zs ≡ None → IsNowhere conn zs
IsNowhere-from conn zs e =
    let far = nowhere (is_of conn) zs e in
    let none : (k : ℕ) (d : Session) → k < length zs → is_of conn (get_or zs k d) ≡ false = λ k d h. fails_before_first (is_of conn) zs k d (omega arith) in
    record { none = session_of-none conn zs none; same = λ f. with_session-none f conn zs none }

-- a place is within the list
within : (conn : ℕ) (zs : List Session) (i : ℕ) → position (is_of conn) zs ≡ Some i → i < length zs
within conn [] i e = absurd (cc)
within conn (z ∷ zs) i e = (position-Some (is_of conn) (z ∷ zs) i z e).0

pub IsPlace-from : (conn : ℕ) (zs : List Session) (i : ℕ) → position (is_of conn) zs ≡ Some i → IsPlace conn zs i
IsPlace-from conn zs i e = record {
  within = within conn zs i e;
  here = λ d. let at = position-Some (is_of conn) zs i d e in session_of-first conn zs i d at.0 at.1 at.2;
  write = λ f d. let at = position-Some (is_of conn) zs i d e in with_session-first f conn zs i d at.0 at.1 at.2;
}

-- what `position` answers, in these words
pub place_from : (conn : ℕ) (zs : List Session) (o : Option ℕ) → o ≡ position (is_of conn) zs → MatchOption o (IsNowhere conn zs) (IsPlace conn zs)
place_from conn zs None e = IsNowhere-from conn zs (sym e)
place_from conn zs (Some i) e = IsPlace-from conn zs i (sym e)

position_cong : {X Y : Type 0} (p : X → Bool) (q : Y → Bool) (xs : List X) (ys : List Y) → length xs ≡ length ys → position_or_len p xs ≡ position_or_len q ys → position p xs ≡ position q ys
position_cong p q xs ys same e =
    ap (λ n. cond (nat_lt n (length xs)) (Some n) None) e ∙ ap (λ m. cond (nat_lt (position_or_len q ys) m) (Some (position_or_len q ys)) None) same

pub eqb_comm : (m n : ℕ) → (m == n) ≡ (n == m)
eqb_comm m n = grind (arith, nat_tests)

first_by_key : (conn : ℕ) (zs : List Session) → position_or_len (λ k. conn == k) (map (λ (z : Session). z.conn) zs) ≡ position_or_len (is_of conn) zs
first_by_key conn [] = refl
first_by_key conn (z ∷ zs) =
    ap (λ b. cond (not b) (1 + position_or_len (λ k. conn == k) (map (λ (y : Session). y.conn) zs)) 0) (eqb_comm conn z.conn)
    ∙ ap (λ n. cond (not (z.conn == conn)) (1 + n) 0) (first_by_key conn zs)

-- the place among the connections is the place among the sessions
pub position_by_key : (conn : ℕ) (zs : List Session) → position (λ k. conn == k) (map (λ (z : Session). z.conn) zs) ≡ position (λ (z : Session). z.conn == conn) zs
position_by_key conn zs = position_cong (λ k. conn == k) (is_of conn) (map (λ (z : Session). z.conn) zs) zs (length-map zs (λ (z : Session). z.conn)) (first_by_key conn zs)

-- where no connection stands twice, the place of one is where it stands
pub place_where : (ks : List ℕ) (conn i : ℕ) → AllPairs (λ (x y : ℕ). x ≢ y) ks → slice_get ks i ≡ Some conn → Some i ≡ position (λ k. conn == k) ks
place_where ks conn i apart stands =
    let within : i < length ks = slice_get_within ks i conn stands in
    let here : get_or ks i conn ≡ conn = sym (unwrap_or-slice_get ks i conn) ∙ ap (λ (o : Option ℕ). unwrap_or o conn) stands in
    let before : (k : ℕ) → k < i → (conn == get_or ks k conn) ≡ false = λ k l. ne_eqb conn (get_or ks k conn) (λ e. apart k i conn l within (sym e ∙ sym here)) in
    let first = position_or_len_is (λ k. conn == k) ks i conn (omega arith) before (λ h. is_same conn (get_or ks i conn) here) in
    sym (ap (λ n. cond (nat_lt n (length ks)) (Some n) None) first ∙ is_within i (length ks) within)
  where
    is_same : (m n : ℕ) → n ≡ m → (m == n) ≡ true
    is_same m n e = grind (arith, nat_tests)

    is_within : (n m : ℕ) → n < m → cond (nat_lt n m) (Some n) None ≡ Some n
    is_within n m h = grind (arith, nat_tests)

-- so where a session of the connection stands is the connection's place
pub place_hinted : (ks : List ℕ) (conn i : ℕ) (zs : List Session) (z : Session) → AllPairs (λ (x y : ℕ). x ≢ y) ks → ks ≡ map connection_of zs → slice_get zs i ≡ Some z → z.conn ≡ conn → Some i ≡ position (is_of conn) zs
place_hinted ks conn i zs z apart same stands is =
    place_where ks conn i apart (ap (λ (ys : List ℕ). slice_get ys i) same ∙ slice_get-map connection_of zs i ∙ ap (option_map connection_of) stands ∙ ap Some is)
    ∙ ap (λ (ys : List ℕ). position (λ k. conn == k) ys) same
    ∙ position_by_key conn zs
