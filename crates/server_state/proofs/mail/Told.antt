-- What stays told where mail changes in one place.
use Rattle.std.proofs.Common.{◌≡◌, ◌∙◌, ◌<◌, ◌||◌, ◌&&◌, ◌∷◌, [], ℕ, zero, suc, Bool, true, false, List, length, get_or, set, nat_eq, nat_lt, min, ◌+◌, All, ap, refl, sym, subst, arith}
use Rattle.std.proofs.lemmas.List.{length-set, get_or-set_same}
use Rattle.std.proofs.lemmas.List.Folds.{list_any_at}
use Rattle.std.proofs.lemmas.Bool.{ltb-true, lt-ltb}
use Rattle.std.proofs.lemmas.Bool.Decides.{nat_tests}
use Rattle.std.specs.List.{list_any}
use Rattle.server_state.specs.declared.mail.pending.Pending.{Pending}
use Rattle.server_state.specs.declared.mail.mailbox.Mail.{Mail}
use Rattle.server_state.specs.mail.Mails.{is_awaited, is_drained, awaits, drains, frees, is_told, StaysTold, IsMore, AreMore, IsSaid, IsSaidBySome, IsItemTold}
use Rattle.events.specs.declared.answer.Item.{Item}
use Rattle.events.specs.declared.answer.Item.TheVariants.{Entered, Full, RouteFull, MapTooLong, Unmapped, MappedTooLong}

or-true : (b : Bool) → (b || true) ≡ true
or-true true = refl
or-true false = refl

or_first : (a b c : Bool) → (a ≡ true → b ≡ true) → (a || c) ≡ true → (b || c) ≡ true
or_first true b c h e = ap (λ x. x || c) (h refl)
or_first false b c h e = ap (λ x. b || x) e ∙ or-true b

or_second : (a c d : Bool) → (c ≡ true → d ≡ true) → (a || c) ≡ true → (a || d) ≡ true
or_second true c d h e = refl
or_second false c d h e = h e

and_second : (a c d : Bool) → (c ≡ true → d ≡ true) → (a && c) ≡ true → (a && d) ≡ true
and_second true c d h e = h e
and_second false c d h e = e

-- one element passes a test where the one in its place did
any_set : {X : Type 0} (p : X → Bool) (xs : List X) (i : ℕ) (y d : X) → (p (get_or xs i d) ≡ true → p y ≡ true) → list_any p xs ≡ true → list_any p (set xs i y) ≡ true
any_set p [] i y d h e = e
any_set p (x ∷ xs) zero y d h e = or_first (p x) (p y) (list_any p xs) h e
any_set p (x ∷ xs) (suc i) y d h e = or_second (p x) (list_any p xs) (list_any p (set xs i y)) (any_set p xs i y d h) e

-- more has entered than none
pub some_left : (a b c : ℕ) → c ≡ min (a + b) 18446744073709551615 → nat_lt 0 a ≡ true → nat_lt 0 c ≡ true
some_left a b c is h = let some = ltb-true 0 a h in lt-ltb 0 c (omega (arith, some, is))

pub some_right : (a b c : ℕ) → c ≡ min (a + b) 18446744073709551615 → nat_lt 0 b ≡ true → nat_lt 0 c ≡ true
some_right a b c is h = let some = ltb-true 0 b h in lt-ltb 0 c (omega (arith, some, is))

-- an entry says more
pub awaited_more : (conn : ℕ) (p q : Pending) → q.conn ≡ p.conn → (nat_lt 0 p.entered ≡ true → nat_lt 0 q.entered ≡ true) → is_awaited conn p ≡ true → is_awaited conn q ≡ true
awaited_more conn p q same more e =
    ap (λ n. nat_eq n conn && nat_lt 0 q.entered) same ∙ and_second (nat_eq p.conn conn) (nat_lt 0 p.entered) (nat_lt 0 q.entered) more e

pub drained_more : (conn : ℕ) (p q : Pending) → q.conn ≡ p.conn → (p.drain ≡ true → q.drain ≡ true) → is_drained conn p ≡ true → is_drained conn q ≡ true
drained_more conn p q same more e = ap (λ n. nat_eq n conn && q.drain) same ∙ and_second (nat_eq p.conn conn) p.drain q.drain more e

-- mail with another entry in one place, which says more
pub more_at : (mail : Mail) (i : ℕ) (p q : Pending) (after : Mail) → p ≡ get_or mail.pending.items i p → q.conn ≡ p.conn
    → (nat_lt 0 p.entered ≡ true → nat_lt 0 q.entered ≡ true) → (p.drain ≡ true → q.drain ≡ true)
    → after.pending.items ≡ set mail.pending.items i q → after.freed ≡ mail.freed → after.all ≡ mail.all → IsMore mail after
more_at mail i p q after is same entered drain items freed all = record {
  awaits = λ conn e. ap (λ b. b || list_any (is_awaited conn) after.pending.items) all ∙ ap (λ l. mail.all || list_any (is_awaited conn) l) items
      ∙ or_second mail.all (list_any (is_awaited conn) mail.pending.items) (list_any (is_awaited conn) (set mail.pending.items i q))
      (any_set (is_awaited conn) mail.pending.items i q p (λ h. awaited_more conn p q same entered (ap (is_awaited conn) is ∙ h))) e;
  drains = λ conn e. ap (λ b. b || list_any (is_drained conn) after.pending.items) all ∙ ap (λ l. mail.all || list_any (is_drained conn) l) items
      ∙ or_second mail.all (list_any (is_drained conn) mail.pending.items) (list_any (is_drained conn) (set mail.pending.items i q))
      (any_set (is_drained conn) mail.pending.items i q p (λ h. drained_more conn p q same drain (ap (is_drained conn) is ∙ h))) e;
  frees = λ conn e. ap (λ b. b || list_any (nat_eq conn) after.freed.items) all ∙ ap (λ f. mail.all || list_any (nat_eq conn) f.items) freed ∙ e;
}

-- and says what another entry does
pub said_at : (mail : Mail) (i : ℕ) (p q : Pending) (after : Mail) → i < length mail.pending.items → q.conn ≡ p.conn
    → (nat_lt 0 p.entered ≡ true → nat_lt 0 q.entered ≡ true) → (p.drain ≡ true → q.drain ≡ true)
    → after.pending.items ≡ set mail.pending.items i q → IsSaid p after
said_at mail i p q after within same entered drain items = record {
  awaits = λ conn e. ap (λ l. after.all || list_any (is_awaited conn) l) items
      ∙ ap (λ b. after.all || b) (in_place (is_awaited conn) (awaited_more conn p q same entered e)) ∙ or-true after.all;
  drains = λ conn e. ap (λ l. after.all || list_any (is_drained conn) l) items
      ∙ ap (λ b. after.all || b) (in_place (is_drained conn) (drained_more conn p q same drain e)) ∙ or-true after.all;
}
  where
    in_place : (f : Pending → Bool) → f q ≡ true → list_any f (set mail.pending.items i q) ≡ true
    in_place f h = list_any_at f (set mail.pending.items i q) i q (subst (λ n. i < n) (sym (length-set mail.pending.items i q)) within)
        (ap f (get_or-set_same mail.pending.items i q q within) ∙ h)

told_set : (tells : ℕ → Mail → Bool) (mails : List Mail) (i : ℕ) (m after : Mail) → m ≡ get_or mails i m → StaysTold tells m after
    → StaysTold (λ conn all. is_told tells all conn) mails (set mails i after)
told_set tells mails i m after is stays conn e = any_set (tells conn) mails i after m (λ h. stays conn (ap (tells conn) is ∙ h)) e

-- one worker's mail tells more
pub more_set : (mails : List Mail) (i : ℕ) (m after : Mail) → m ≡ get_or mails i m → IsMore m after → AreMore mails (set mails i after)
more_set mails i m after is more = record {
  workers = length-set mails i after;
  awaits = told_set awaits mails i m after is more.awaits;
  drains = told_set drains mails i m after is more.drains;
  frees = told_set frees mails i m after is more.frees;
}

-- and what it tells, some worker's does
pub told_at : (tells : ℕ → Mail → Bool) (conn : ℕ) (mails : List Mail) (i : ℕ) (after : Mail) → i < length mails → tells conn after ≡ true
    → is_told tells (set mails i after) conn ≡ true
told_at tells conn mails i after within h =
    list_any_at (tells conn) (set mails i after) i after (subst (λ n. i < n) (sym (length-set mails i after)) within)
    (ap (tells conn) (get_or-set_same mails i after after within) ∙ h)

pub said_set : (p : Pending) (mails : List Mail) (i : ℕ) (after : Mail) → i < length mails → IsSaid p after → IsSaidBySome p (set mails i after)
said_set p mails i after within said = record {
  awaits = λ conn e. told_at awaits conn mails i after within (said.awaits conn e);
  drains = λ conn e. told_at drains conn mails i after within (said.drains conn e);
}

pub same_more : (mails : List Mail) → AreMore mails mails
same_more mails = record { workers = refl; awaits = λ conn e. e; drains = λ conn e. e; frees = λ conn e. e }

pub then_more : (a b c : List Mail) → AreMore a b → AreMore b c → AreMore a c
then_more a b c one other = record {
  workers = other.workers ∙ one.workers;
  awaits = λ conn e. other.awaits conn (one.awaits conn e);
  drains = λ conn e. other.drains conn (one.drains conn e);
  frees = λ conn e. other.frees conn (one.frees conn e);
}

nat_eq_same : (n : ℕ) → nat_eq n n ≡ true
nat_eq_same n = grind (arith, nat_tests)

-- an entry of one delivery, and one that has its connection drained, say so
pub entered_told : (conn bytes : ℕ) (mails : List Mail) → IsSaidBySome (record { conn = conn; entered = 1; bytes = bytes; drain = false }) mails → is_told awaits mails conn ≡ true
entered_told conn bytes mails said = said.awaits conn (ap (λ b. b && true) (nat_eq_same conn))

pub drain_told : (conn : ℕ) (mails : List Mail) → IsSaidBySome (record { conn = conn; entered = 0; bytes = 0; drain = true }) mails → is_told drains mails conn ≡ true
drain_told conn mails said = said.drains conn (ap (λ b. b && true) (nat_eq_same conn))

-- what an item makes pending stays told
pub item_more : (before after : List Mail) → AreMore before after → (item : Item) → IsItemTold before item → IsItemTold after item
item_more before after more (Entered conn sid) e = more.awaits conn e
item_more before after more (Full conn sid) e = more.drains conn e
item_more before after more (RouteFull row) e = e
item_more before after more (MapTooLong row) e = e
item_more before after more Unmapped e = e
item_more before after more (MappedTooLong index) e = e

pub items_more : (before after : List Mail) → AreMore before after → (items : List Item) → All (IsItemTold before) items → All (IsItemTold after) items
items_more before after more items all = λ k d l. item_more before after more (get_or items k d) (all k d l)

pub gone_more : (before after : List Mail) → AreMore before after → (gone : List ℕ) → All (λ conn. is_told drains before conn ≡ true) gone → All (λ conn. is_told drains after conn ≡ true) gone
gone_more before after more gone all = λ k d l. more.drains (get_or gone k d) (all k d l)
