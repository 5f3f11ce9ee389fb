-- What items count at once is counted by ids in turn.
use Rattle.std.proofs.Common.{◌≡◌, ◌∙◌, ◌==◌, ◌+◌, ◌&&◌, ◌||◌, ℕ, Bool, true, false, cond, not, List, [], ◌∷◌, map, Option, Some, None, ap, sym, refl, arith, nat_lt, nat_le}
use Rattle.std.specs.List.{list_any}
use Rattle.std.proofs.lemmas.Bool.{eqb-true}
use Rattle.std.proofs.lemmas.Bool.Decides.{nat_tests}
use Rattle.world_subscriptions.specs.Limit.{has_ended, is_reached, unended, has_entered, counted}
use Rattle.world_subscriptions.specs.Subscriptions.{is_under}
use Rattle.world_rows.specs.declared.subscription.Subscription.{Subscription}
use Rattle.events.specs.Messages.{Message}
use Rattle.events.specs.declared.answer.Addressed.{Addressed}
use Rattle.world_subscriptions.specs.Addressing.{addressed_to}
use Rattle.events.specs.declared.answer.Item.{Item}
use Rattle.events.specs.declared.answer.Item.TheVariants.{Entered, Full, RouteFull, MapTooLong, Unmapped, MappedTooLong}
use Rattle.world_subscriptions.specs.Changes.{only, bumped}
use Rattle.world_subscriptions.specs.Counting.{in_turn, entered_ids, TellEach, is_one_of, counted_by}
use Rattle.std.proofs.lemmas.List.{map-id}
use Rattle.world_subscriptions.proofs.Ends.{bumped-id}

-- ---- ids

reached-more : (most : Option ℕ) (n : ℕ) → is_reached most n ≡ true → is_reached most (n + 1) ≡ true
reached-more None n h = h
reached-more (Some m) n h = more m n h
  where
    more : (m n : ℕ) → nat_le m n ≡ true → nat_le m (n + 1) ≡ true
    more m n h = grind (arith, nat_tests)

pub bumped-ended : (s : Subscription) → has_ended s ≡ true → has_ended (bumped s) ≡ true
bumped-ended s h = here (nat_lt s.received 18446744073709551615)
  where
    here : (b : Bool) → has_ended (cond b (record s { received = s.received + 1 }) s) ≡ true
    here true = reached-more s.most s.received h
    here false = h

counted_by-ended : (ids : List ℕ) (s : Subscription) → has_ended s ≡ true → has_ended (counted_by ids s) ≡ true
counted_by-ended ids s h = here (is_one_of ids s)
  where
    here : (b : Bool) → has_ended (cond b (bumped s) s) ≡ true
    here true = bumped-ended s h
    here false = h

-- what is left of one subscription, before the others
abbrev kept_of : Subscription → List Subscription → List Subscription
kept_of x rest = cond (not (has_ended x)) (x ∷ rest) rest

-- one subscription through both counts
through : (ids : List ℕ) (x : Subscription) (one rest : List Subscription) → unended (map (counted_by ids) one) ≡ rest →
    unended (map (counted_by ids) (kept_of x one)) ≡ kept_of (counted_by ids x) rest
through ids x one rest later = here (has_ended x) refl
  where
    here : (b : Bool) → has_ended x ≡ b → unended (map (counted_by ids) (cond (not b) (x ∷ one) one)) ≡ kept_of (counted_by ids x) rest
    here true is = later ∙ sym (ap (λ b. cond (not b) (counted_by ids x ∷ rest) rest) (counted_by-ended ids x is))
    here false is = ap (λ more. cond (not (has_ended (counted_by ids x))) (counted_by ids x ∷ more) more) later

-- one of them first, then the others, where it is none of the others
pub one_first : (id : ℕ) (ids : List ℕ) (subs : List Subscription) → list_any (λ other. id == other) ids ≡ false →
    unended (map (counted_by ids) (unended (map (only bumped id) subs))) ≡ unended (map (counted_by (id ∷ ids)) subs)
one_first id ids [] apart = refl
one_first id ids (s ∷ subs) apart =
    through ids (only bumped id s) (unended (map (only bumped id) subs)) (unended (map (counted_by (id ∷ ids)) subs)) (one_first id ids subs apart)
    ∙ ap (λ (x : Subscription). kept_of x (unended (map (counted_by (id ∷ ids)) subs))) (same (s.id == id) refl)
  where
    same : (b : Bool) → (s.id == id) ≡ b → counted_by ids (only bumped id s) ≡ counted_by (id ∷ ids) s
    same true is =
        let it : s.id ≡ id = eqb-true s.id id is in
        let none : is_one_of ids (bumped s) ≡ false = ap (λ n. list_any (λ other. n == other) ids) (bumped-id s ∙ it) ∙ apart in
        ap (λ b. counted_by ids (cond b (bumped s) s)) is
        ∙ ap (λ b. cond b (bumped (bumped s)) (bumped s)) none
        ∙ sym (ap (λ b. cond (b || is_one_of ids s) (bumped s) s) is)
    same false is =
        ap (λ b. counted_by ids (cond b (bumped s) s)) is
        ∙ sym (ap (λ b. cond (b || is_one_of ids s) (bumped s) s) is)

-- no number comes twice
abbrev pub AreApart : List ℕ → Type 0
AreApart [] = Unit {0}
AreApart (id ∷ ids) = (list_any (λ other. id == other) ids ≡ false) × AreApart ids

pub in_turn-is : (ids : List ℕ) (subs : List Subscription) → AreApart ids → unended subs ≡ subs → in_turn ids subs ≡ unended (map (counted_by ids) subs)
in_turn-is [] subs apart kept = sym (ap unended (map-id subs) ∙ kept)
in_turn-is (id ∷ ids) subs apart kept =
    in_turn-is ids (unended (map (only bumped id) subs)) apart.1 (filter-filter (map (only bumped id) subs))
    ∙ one_first id ids subs apart.0
  where
    filter-filter : (xs : List Subscription) → unended (unended xs) ≡ unended xs
    filter-filter [] = refl
    filter-filter (x ∷ xs) = twice (has_ended x) refl (filter-filter xs)
      where
        twice : (b : Bool) → has_ended x ≡ b → unended (unended xs) ≡ unended xs → unended (cond (not b) (x ∷ unended xs) (unended xs)) ≡ cond (not b) (x ∷ unended xs) (unended xs)
        twice true is later = later
        twice false is later = ap (λ b. cond (not b) (x ∷ unended (unended xs)) (unended (unended xs))) is ∙ ap (λ more. x ∷ more) later

-- ---- items

-- the connection and the sid of each are those of no subscription but it
abbrev pub NamesOnly : Subscription → List Subscription → Type 0
NamesOnly s [] = Unit {0}
NamesOnly s (r ∷ rs) = (is_under r.conn r.sid s ≡ (s.id == r.id)) × NamesOnly s rs

entered-is : (m : Message) (s : Subscription) (rs : List Subscription) (items : List Item) → TellEach (map (addressed_to m) rs) items → NamesOnly s rs → has_entered items s ≡ is_one_of (entered_ids (map (addressed_to m) rs) items) s
entered-is m s [] [] tell names = refl
entered-is m s [] (i ∷ items) tell names = absurd tell
entered-is m s (r ∷ rs) [] tell names = absurd tell
entered-is m s (r ∷ rs) (Entered conn sid ∷ items) tell names =
    ap (λ n. is_under n sid s || has_entered items s) tell.0.0
    ∙ ap (λ bs. is_under r.conn bs s || has_entered items s) tell.0.1
    ∙ ap (λ b. b || has_entered items s) names.0
    ∙ ap (λ b. (s.id == r.id) || b) (entered-is m s rs items tell.1 names.1)
entered-is m s (r ∷ rs) (Full conn sid ∷ items) tell names = entered-is m s rs items tell.1 names.1
entered-is m s (r ∷ rs) (RouteFull row ∷ items) tell names = absurd tell.0
entered-is m s (r ∷ rs) (MapTooLong row ∷ items) tell names = absurd tell.0
entered-is m s (r ∷ rs) (Unmapped ∷ items) tell names = absurd tell.0
entered-is m s (r ∷ rs) (MappedTooLong index ∷ items) tell names = absurd tell.0

counted-is : (items : List Item) (ids : List ℕ) (s : Subscription) → has_entered items s ≡ is_one_of ids s → counted items s ≡ counted_by ids s
counted-is items ids s e = ap (λ b. cond (b && nat_lt s.received 18446744073709551615) (record s { received = s.received + 1 }) s) e ∙ here (is_one_of ids s)
  where
    here : (b : Bool) → cond (b && nat_lt s.received 18446744073709551615) (record s { received = s.received + 1 }) s ≡ cond b (bumped s) s
    here true = refl
    here false = refl

abbrev pub AllNameOnly : List Subscription → List Subscription → Type 0
AllNameOnly [] rs = Unit {0}
AllNameOnly (s ∷ subs) rs = NamesOnly s rs × AllNameOnly subs rs

map-counted : (m : Message) (rs : List Subscription) (items : List Item) (subs : List Subscription) → TellEach (map (addressed_to m) rs) items → AllNameOnly subs rs → map (counted items) subs ≡ map (counted_by (entered_ids (map (addressed_to m) rs) items)) subs
map-counted m rs items [] tell names = refl
map-counted m rs items (s ∷ subs) tell names =
    ap (λ (x : Subscription). x ∷ map (counted items) subs) (counted-is items (entered_ids (map (addressed_to m) rs) items) s (entered-is m s rs items tell names.0))
    ∙ ap (λ (xs : List Subscription). counted_by (entered_ids (map (addressed_to m) rs) items) s ∷ xs) (map-counted m rs items subs tell names.1)

-- What the items of the recipients count is counted by the ids of those that they have entered for, one after the other.
pub counted_in_turn : (m : Message) (rs : List Subscription) (items : List Item) (subs : List Subscription) → TellEach (map (addressed_to m) rs) items → AllNameOnly subs rs → AreApart (entered_ids (map (addressed_to m) rs) items) → unended subs ≡ subs →
    in_turn (entered_ids (map (addressed_to m) rs) items) subs ≡ unended (map (counted items) subs)
counted_in_turn m rs items subs tell names apart kept =
    in_turn-is (entered_ids (map (addressed_to m) rs) items) subs apart kept ∙ ap unended (sym (map-counted m rs items subs tell names))

-- where no delivery or no item is left, none has entered
pub none_left : (items : List Item) → entered_ids [] items ≡ []
none_left items = refl

pub none_told : (all : List Addressed) → entered_ids all [] ≡ []
none_told [] = refl
none_told (a ∷ all) = refl
