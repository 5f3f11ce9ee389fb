-- Of subscriptions that are apart, what a message counts is counted by ids in turn.
use Rattle.std.proofs.Common.{◌≡◌, ◌∙◌, ◌==◌, ◌<◌, ◌&&◌, ◌||◌, ℕ, Bool, true, false, cond, List, [], ◌∷◌, map, filter, ap, sym, refl, subst, arith, nat_eq}
use Rattle.std.specs.List.{list_any}
use Rattle.std.specs.Cmp.Lexicographic.{pointwise}
use Rattle.std.proofs.lemmas.Bool.{eqb-true, eq-eqb, ne_eqb}
use Rattle.std.proofs.lemmas.Bool.Decides.{nat_tests}
use Rattle.std.proofs.lemmas.Cmp.{nat_list_eq_equiv}
use Rattle.world_subscriptions.specs.Limit.{unended, counted, limited, limit_of}
use Rattle.world_rows.specs.declared.subscription.Subscription.{Subscription}
use Rattle.events.specs.Messages.{Message}
use Rattle.events.specs.declared.answer.Addressed.{Addressed}
use Rattle.world_subscriptions.specs.Addressing.{addressed_to}
use Rattle.events.specs.declared.answer.Item.{Item}
use Rattle.events.specs.declared.answer.Item.TheVariants.{Entered, Full, RouteFull, MapTooLong, Unmapped, MappedTooLong}
use Rattle.world_subscriptions.specs.Counting.{in_turn, entered_ids, TellEach}
use Rattle.world_subscriptions.specs.Kept.{NoneLike, Apart}
use Rattle.world_subscriptions.specs.Changes.{only, bumped, capped}
use Rattle.world_subscriptions.specs.Subscriptions.{is_under, stands}
use Rattle.std.specs.Prelude.{All, find}
use Rattle.std.specs.Option.{option_map}
use Rattle.std.proofs.lemmas.List.Elements.{All-head, All-tail}
use Rattle.std.proofs.Common.{◌++◌, ◌+◌, nat_lt, Option, Some, None}
use Rattle.world_subscriptions.proofs.Counting.{NamesOnly, AllNameOnly, AreApart, counted_in_turn}

eqb_comm : (m n : ℕ) → (m == n) ≡ (n == m)
eqb_comm m n = grind (arith, nat_tests)

under_self : (s : Subscription) → is_under s.conn s.sid s ≡ true
under_self s = ap (λ b. b && pointwise nat_eq s.sid s.sid) (eq-eqb s.conn s.conn refl) ∙ nat_list_eq_equiv.refl s.sid

under_sym : (r s : Subscription) → is_under r.conn r.sid s ≡ is_under s.conn s.sid r
under_sym r s = ap (λ b. b && pointwise nat_eq s.sid r.sid) (eqb_comm s.conn r.conn) ∙ ap (λ b. (r.conn == s.conn) && b) (nat_list_eq_equiv.symm s.sid r.sid)

and_left : (b c : Bool) → (b && c) ≡ true → b ≡ true
and_left true c e = refl
and_left false c e = e

and_right : (b c : Bool) → (b && c) ≡ true → c ≡ true
and_right true c e = e
and_right false c e = cc

pub same_bytes : (xs ys : List ℕ) → pointwise nat_eq xs ys ≡ true → xs ≡ ys
same_bytes [] [] e = refl
same_bytes [] (y ∷ ys) e = cc
same_bytes (x ∷ xs) [] e = cc
same_bytes (x ∷ xs) (y ∷ ys) e =
    ap (λ n. n ∷ xs) (eqb-true x y (and_left (nat_eq x y) (pointwise nat_eq xs ys) e)) ∙ ap (λ more. y ∷ more) (same_bytes xs ys (and_right (nat_eq x y) (pointwise nat_eq xs ys) e))

none_filter : (p : Subscription → Bool) (s : Subscription) (subs : List Subscription) → NoneLike s subs → NamesOnly s (filter p subs)
none_filter p s [] none = tt
none_filter p s (r ∷ subs) none = here (p r) (none_filter p s subs none.2)
  where
    here : (b : Bool) → NamesOnly s (filter p subs) → NamesOnly s (cond b (r ∷ filter p subs) (filter p subs))
    here true later = (none.1 ∙ sym (ne_eqb s.id r.id (λ e. let h = none.0 in absurd (omega arith))), later)
    here false later = later

add_head : (s : Subscription) (subs rs : List Subscription) → NoneLike s subs → AllNameOnly subs rs → AllNameOnly subs (s ∷ rs)
add_head s [] rs none all = tt
add_head s (t ∷ subs) rs none all =
    ((under_sym s t ∙ none.1 ∙ sym (ne_eqb t.id s.id (λ e. let h = none.0 in absurd (omega arith))), all.0), add_head s subs rs none.2 all.1)

pub all_names : (p : Subscription → Bool) (subs : List Subscription) → Apart subs → AllNameOnly subs (filter p subs)
unfolding Apart
all_names p [] apart = tt
all_names p (s ∷ subs) apart = here (p s) (all_names p subs apart.1)
  where
    here : (b : Bool) → AllNameOnly subs (filter p subs) → AllNameOnly (s ∷ subs) (cond b (s ∷ filter p subs) (filter p subs))
    here true later = ((under_self s ∙ sym (eq-eqb s.id s.id refl), none_filter p s subs apart.0), add_head s subs (filter p subs) apart.0 later)
    here false later = (none_filter p s subs apart.0, later)

-- a filter keeps them apart
pub none_kept : (p : Subscription → Bool) (s : Subscription) (subs : List Subscription) → NoneLike s subs → NoneLike s (filter p subs)
none_kept p s [] none = tt
none_kept p s (r ∷ subs) none = here (p r) (none_kept p s subs none.2)
  where
    here : (b : Bool) → NoneLike s (filter p subs) → NoneLike s (cond b (r ∷ filter p subs) (filter p subs))
    here true later = (none.0, none.1, later)
    here false later = later

pub apart_kept : (p : Subscription → Bool) (subs : List Subscription) → Apart subs → Apart (filter p subs)
unfolding Apart
apart_kept p [] apart = tt
apart_kept p (s ∷ subs) apart = here (p s) (apart_kept p subs apart.1)
  where
    here : (b : Bool) → Apart (filter p subs) → Apart (cond b (s ∷ filter p subs) (filter p subs))
    here true later = (none_kept p s subs apart.0, later)
    here false later = later

no_id : (m : Message) (s : Subscription) (rs : List Subscription) (items : List Item) → NoneLike s rs → list_any (λ other. s.id == other) (entered_ids (map (addressed_to m) rs) items) ≡ false
no_id m s [] items none = refl
no_id m s (r ∷ rs) [] none = refl
no_id m s (r ∷ rs) (Entered conn sid ∷ items) none =
    ap (λ b. b || list_any (λ other. s.id == other) (entered_ids (map (addressed_to m) rs) items)) (ne_eqb s.id r.id (λ e. let h = none.0 in absurd (omega arith))) ∙ no_id m s rs items none.2
no_id m s (r ∷ rs) (Full conn sid ∷ items) none = no_id m s rs items none.2
no_id m s (r ∷ rs) (RouteFull row ∷ items) none = no_id m s (r ∷ rs) items none
no_id m s (r ∷ rs) (MapTooLong row ∷ items) none = no_id m s (r ∷ rs) items none
no_id m s (r ∷ rs) (Unmapped ∷ items) none = no_id m s (r ∷ rs) items none
no_id m s (r ∷ rs) (MappedTooLong index ∷ items) none = no_id m s (r ∷ rs) items none

pub ids_apart : (m : Message) (rs : List Subscription) (items : List Item) → Apart rs → AreApart (entered_ids (map (addressed_to m) rs) items)
unfolding Apart
ids_apart m [] items apart = tt
ids_apart m (r ∷ rs) [] apart = tt
ids_apart m (r ∷ rs) (Entered conn sid ∷ items) apart = (no_id m r rs items apart.0, ids_apart m rs items apart.1)
ids_apart m (r ∷ rs) (Full conn sid ∷ items) apart = ids_apart m rs items apart.1
ids_apart m (r ∷ rs) (RouteFull row ∷ items) apart = ids_apart m (r ∷ rs) items apart
ids_apart m (r ∷ rs) (MapTooLong row ∷ items) apart = ids_apart m (r ∷ rs) items apart
ids_apart m (r ∷ rs) (Unmapped ∷ items) apart = ids_apart m (r ∷ rs) items apart
ids_apart m (r ∷ rs) (MappedTooLong index ∷ items) apart = ids_apart m (r ∷ rs) items apart

-- What items count is counted by the ids of those that they tell have entered, one after the other.
pub counted_for : (m : Message) (p : Subscription → Bool) (all : List Addressed) (items : List Item) (subs : List Subscription) → Apart subs → unended subs ≡ subs →
    all ≡ map (addressed_to m) (filter p subs) → TellEach all items → in_turn (entered_ids all items) subs ≡ unended (map (counted items) subs)
counted_for m p all items subs apart kept is tell =
    let rs : List Subscription = filter p subs in
    ap (λ cs. in_turn (entered_ids cs items) subs) is
    ∙ counted_in_turn m rs items subs (subst (λ cs. TellEach cs items) is tell) (all_names p subs apart) (ids_apart m rs items (apart_kept p subs apart)) kept

-- ---- what keeps them apart

-- a change that leaves the id, the connection and the sid
pub record Leaves (f : Subscription → Subscription) : Type 0 where
  pub id : (s : Subscription) → (f s).id ≡ s.id
  pub conn : (s : Subscription) → (f s).conn ≡ s.conn
  pub sid : (s : Subscription) → (f s).sid ≡ s.sid

pub only-leaves : (f : Subscription → Subscription) (n : ℕ) → Leaves f → Leaves (only f n)
only-leaves f n same = record {
  id = λ s. here (λ (x : Subscription). x.id) s (s.id == n) (same.id s);
  conn = λ s. here (λ (x : Subscription). x.conn) s (s.id == n) (same.conn s);
  sid = λ s. here (λ (x : Subscription). x.sid) s (s.id == n) (same.sid s);
}
  where
    here : {X : Type 0} (part : Subscription → X) (s : Subscription) (b : Bool) → part (f s) ≡ part s → part (cond b (f s) s) ≡ part s
    here part s true e = e
    here part s false e = refl

none_mapped : (f : Subscription → Subscription) (s : Subscription) (subs : List Subscription) → Leaves f → NoneLike s subs → NoneLike (f s) (map f subs)
none_mapped f s [] same none = tt
none_mapped f s (r ∷ subs) same none = (
  omega (arith, same.id s, same.id r, none.0),
  ap (λ n. is_under n (f r).sid (f s)) (same.conn r) ∙ ap (λ bs. is_under r.conn bs (f s)) (same.sid r)
      ∙ ap (λ n. (n == r.conn) && pointwise nat_eq (f s).sid r.sid) (same.conn s) ∙ ap (λ bs. (s.conn == r.conn) && pointwise nat_eq bs r.sid) (same.sid s) ∙ none.1,
  none_mapped f s subs same none.2,
)

pub apart_mapped : (f : Subscription → Subscription) (subs : List Subscription) → Leaves f → Apart subs → Apart (map f subs)
unfolding Apart
apart_mapped f [] same apart = tt
apart_mapped f (s ∷ subs) same apart = (none_mapped f s subs same apart.0, apart_mapped f subs same apart.1)

pub apart_changed : (f : Subscription → Subscription) (n : ℕ) (subs : List Subscription) → Leaves f → Apart subs → Apart (unended (map (only f n) subs))
apart_changed f n subs same apart = apart_kept _ (map (only f n) subs) (apart_mapped (only f n) subs (only-leaves f n same) apart)

none_added : (t s : Subscription) (rs : List Subscription) → NoneLike t rs → t.id < s.id → is_under s.conn s.sid t ≡ false → NoneLike t (rs ++ s ∷ [])
none_added t s [] none h e = (h, e, tt)
none_added t s (r ∷ rs) none h e = (none.0, none.1, none_added t s rs none.2 h e)

pub or_left : (b c : Bool) → (b || c) ≡ false → b ≡ false
or_left true c e = e
or_left false c e = refl

pub or_right : (b c : Bool) → (b || c) ≡ false → c ≡ false
or_right true c e = cc
or_right false c e = e

pub apart_added : (subs : List Subscription) (s : Subscription) → Apart subs → All (λ (x : Subscription). x.id < s.id) subs → stands subs s.conn s.sid ≡ false → Apart (subs ++ s ∷ [])
unfolding Apart
apart_added [] s apart below free = (tt, tt)
apart_added (t ∷ subs) s apart below free = (
  none_added t s subs apart.0 (All-head (λ (x : Subscription). x.id < s.id) t subs below) (or_left _ _ free),
  apart_added subs s apart.1 (All-tail (λ (x : Subscription). x.id < s.id) t subs below) (or_right (is_under s.conn s.sid t) _ free),
)

pub bumped-leaves : Leaves bumped
bumped-leaves = record {
  id = λ s. here (λ (x : Subscription). x.id) s (nat_lt s.received 18446744073709551615) refl;
  conn = λ s. here (λ (x : Subscription). x.conn) s (nat_lt s.received 18446744073709551615) refl;
  sid = λ s. here (λ (x : Subscription). x.sid) s (nat_lt s.received 18446744073709551615) refl;
}
  where
    here : {X : Type 0} (part : Subscription → X) (s : Subscription) (b : Bool) → part (record s { received = s.received + 1 }) ≡ part s → part (cond b (record s { received = s.received + 1 }) s) ≡ part s
    here part s true e = e
    here part s false e = refl

pub capped-leaves : (most : Option ℕ) → Leaves (capped most)
capped-leaves most = record { id = λ s. refl; conn = λ s. refl; sid = λ s. refl }

-- ---- a limit by connection and sid is one by id

found_behind : (t : Subscription → Bool) (s : Subscription) (subs : List Subscription) (n : ℕ) → NoneLike s subs → option_map (λ (x : Subscription). x.id) (find t subs) ≡ Some n → s.id < n
found_behind t s [] n none e = absurd (cc)
found_behind t s (r ∷ subs) n none e = here (t r) e (found_behind t s subs n none.2)
  where
    here : (b : Bool) → option_map (λ (x : Subscription). x.id) (cond b (Some r) (find t subs)) ≡ Some n → (option_map (λ (x : Subscription). x.id) (find t subs) ≡ Some n → s.id < n) → s.id < n
    here true e later = let it : r.id ≡ n = cc in let h = none.0 in omega arith
    here false e later = later e

-- what holds of the connection and the sid of a subscription holds of those that it is under
pub under : (P : ℕ → List ℕ → Type 0) (conn : ℕ) (sid : List ℕ) (s : Subscription) → is_under conn sid s ≡ true → P s.conn s.sid → P conn sid
under P conn sid s is h =
    let c : s.conn ≡ conn = eqb-true s.conn conn (and_left (s.conn == conn) (pointwise nat_eq s.sid sid) is) in
    let n : s.sid ≡ sid = same_bytes s.sid sid (and_right (s.conn == conn) (pointwise nat_eq s.sid sid) is) in
    subst (λ k. P k sid) c (subst (λ bs. P s.conn bs) n h)

-- what has the name of the first is the first's, so no other has it
pub under_other : (conn : ℕ) (sid : List ℕ) (s r : Subscription) → is_under conn sid s ≡ true → is_under r.conn r.sid s ≡ false → is_under conn sid r ≡ false
under_other conn sid s r is apart = under (λ k bs. is_under k bs r ≡ false) conn sid s is (under_sym s r ∙ apart)

-- nothing behind a subscription has its name or its id
none_limited : (conn : ℕ) (sid : List ℕ) (most : Option ℕ) (s : Subscription) (subs : List Subscription) → is_under conn sid s ≡ true → NoneLike s subs →
    map (limited conn sid most) subs ≡ map (only (capped most) s.id) subs
none_limited conn sid most s [] is none = refl
none_limited conn sid most s (r ∷ subs) is none =
    let other : is_under conn sid r ≡ false = under_other conn sid s r is none.1 in
    let no : (r.id == s.id) ≡ false = ne_eqb r.id s.id (λ e. let h = none.0 in absurd (omega arith)) in
    ap (λ b. cond b (record r { most = Some (limit_of most) }) r ∷ map (limited conn sid most) subs) other
    ∙ ap (λ rest. r ∷ rest) (none_limited conn sid most s subs is none.2)
    ∙ sym (ap (λ b. cond b (capped most r) r ∷ map (only (capped most) s.id) subs) no)

pub limited-is : (conn : ℕ) (sid : List ℕ) (most : Option ℕ) (n : ℕ) (subs : List Subscription) → Apart subs → option_map (λ (x : Subscription). x.id) (find (is_under conn sid) subs) ≡ Some n →
    map (limited conn sid most) subs ≡ map (only (capped most) n) subs
unfolding Apart
limited-is conn sid most n [] apart e = refl
limited-is conn sid most n (s ∷ subs) apart e = here (is_under conn sid s) refl e (limited-is conn sid most n subs apart.1)
  where
    here : (b : Bool) → is_under conn sid s ≡ b → option_map (λ (x : Subscription). x.id) (cond b (Some s) (find (is_under conn sid) subs)) ≡ Some n →
        (option_map (λ (x : Subscription). x.id) (find (is_under conn sid) subs) ≡ Some n → map (limited conn sid most) subs ≡ map (only (capped most) n) subs) →
        map (limited conn sid most) (s ∷ subs) ≡ map (only (capped most) n) (s ∷ subs)
    here true is e later =
        let it : s.id ≡ n = cc in
        ap (λ b. cond b (capped most s) s ∷ map (limited conn sid most) subs) is
        ∙ ap (λ rest. capped most s ∷ rest) (none_limited conn sid most s subs is apart.0 ∙ ap (λ k. map (only (capped most) k) subs) it)
        ∙ sym (ap (λ b. cond b (capped most s) s ∷ map (only (capped most) n) subs) (eq-eqb s.id n it))
    here false is e later =
        let h : s.id < n = found_behind (is_under conn sid) s subs n apart.0 e in
        ap (λ b. cond b (capped most s) s ∷ map (limited conn sid most) subs) is
        ∙ ap (λ rest. s ∷ rest) (later e)
        ∙ sym (ap (λ b. cond b (capped most s) s ∷ map (only (capped most) n) subs) (ne_eqb s.id n (λ eq. absurd (omega arith))))

pub limited-none : (conn : ℕ) (sid : List ℕ) (most : Option ℕ) (subs : List Subscription) → option_map (λ (x : Subscription). x.id) (find (is_under conn sid) subs) ≡ None → map (limited conn sid most) subs ≡ subs
limited-none conn sid most [] e = refl
limited-none conn sid most (s ∷ subs) e = here (is_under conn sid s) e (limited-none conn sid most subs)
  where
    here : (b : Bool) → option_map (λ (x : Subscription). x.id) (cond b (Some s) (find (is_under conn sid) subs)) ≡ None →
        (option_map (λ (x : Subscription). x.id) (find (is_under conn sid) subs) ≡ None → map (limited conn sid most) subs ≡ subs) →
        cond b (capped most s) s ∷ map (limited conn sid most) subs ≡ s ∷ subs
    here true e later = absurd (cc)
    here false e later = ap (λ rest. s ∷ rest) (later e)
