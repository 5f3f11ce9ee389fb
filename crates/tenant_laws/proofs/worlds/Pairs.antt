-- Subscriptions of tenants beside each other, numbers aside.
use Rattle.std.proofs.Common.{◌≡◌, ◌∙◌, ◌==◌, ◌≤◌, ◌&&◌, ◌||◌, ◌+◌, ℕ, Bool, true, false, not, cond, List, [], ◌∷◌, filter, map, ap, sym, refl, subst, nat_lt}
use Rattle.std.specs.Prelude.{All}
use Rattle.std.proofs.lemmas.List.Elements.{All-head, All-tail, All-filter, All-map, All-weaker}
use Rattle.events.specs.declared.answer.Item.{Item}
use Rattle.events.specs.declared.answer.Item.TheVariants.{Entered, Full, RouteFull, MapTooLong, Unmapped, MappedTooLong}
use Rattle.world_subscriptions.specs.Limit.{counted, has_ended, has_entered, is_entry_for, unended}
use Rattle.world_subscriptions.specs.Subscription.{Subscription}
use Rattle.tenant_laws.specs.worlds.Tenants.{Tenants, subscriptions_of, unnumbered}
use Rattle.tenant_laws.specs.worlds.Alike.{ArePaired, HaveOneId, IsSame, Pair, first_of, second_of}

-- ---- lists

pub filter_map_is : {X Y : Type 0} (p : Y → Bool) (f : X → Y) (xs : List X) → map f (filter (λ x. p (f x)) xs) ≡ filter p (map f xs)
filter_map_is p f [] = refl
filter_map_is {X} {Y} p f (x ∷ xs) = by (p (f x)) (filter_map_is p f xs)
  where
    by : (b : Bool) → map f (filter (λ y. p (f y)) xs) ≡ filter p (map f xs) → map f (cond b (x ∷ filter (λ y. p (f y)) xs) (filter (λ y. p (f y)) xs)) ≡ cond b (f x ∷ filter p (map f xs)) (filter p (map f xs))
    by true later = ap (λ l. f x ∷ l) later
    by false later = later

-- tests that agree at each keep the same
pub same_kept : {X : Type 0} (p q : X → Bool) (xs : List X) → All (λ x. p x ≡ q x) xs → filter p xs ≡ filter q xs
same_kept p q [] agree = refl
same_kept p q (x ∷ xs) agree =
    ap (λ b. cond b (x ∷ filter p xs) (filter p xs)) (All-head (λ y. p y ≡ q y) x xs agree)
    ∙ ap (λ l. cond (q x) (x ∷ l) l) (same_kept p q xs (All-tail (λ y. p y ≡ q y) x xs agree))

-- what a test doesn't pass may be left out before it
pub kept_before : {X : Type 0} (p k : X → Bool) (xs : List X) → All (λ x. k x ≡ false → p x ≡ false) xs → filter p (filter k xs) ≡ filter p xs
kept_before p k [] out = refl
kept_before {X} p k (x ∷ xs) out = by (k x) (All-head (λ y. k y ≡ false → p y ≡ false) x xs out) (kept_before p k xs (All-tail (λ y. k y ≡ false → p y ≡ false) x xs out))
  where
    by : (b : Bool) → (b ≡ false → p x ≡ false) → filter p (filter k xs) ≡ filter p xs → filter p (cond b (x ∷ filter k xs) (filter k xs)) ≡ cond (p x) (x ∷ filter p xs) (filter p xs)
    by true none later = ap (λ l. cond (p x) (x ∷ l) l) later
    by false none later = later ∙ ap (λ b. cond b (x ∷ filter p xs) (filter p xs)) (sym (none refl))

-- a map of each by maps that agree
pub same_mapped : {X Y : Type 0} (f g : X → Y) (xs : List X) → All (λ x. f x ≡ g x) xs → map f xs ≡ map g xs
same_mapped f g [] agree = refl
same_mapped f g (x ∷ xs) agree =
    ap (λ y. y ∷ map f xs) (All-head (λ z. f z ≡ g z) x xs agree) ∙ ap (λ l. g x ∷ l) (same_mapped f g xs (All-tail (λ z. f z ≡ g z) x xs agree))

pub mapped_twice : {X Y Z : Type 0} (f : X → Y) (g : Y → Z) (xs : List X) → map g (map f xs) ≡ map (λ x. g (f x)) xs
mapped_twice f g [] = refl
mapped_twice f g (x ∷ xs) = ap (λ l. g (f x) ∷ l) (mapped_twice f g xs)

-- ---- tenants' subscriptions among all

-- a change that leaves connections, and the end of some, are the same before and after the others are left out
pub changed_subscriptions : (t : Tenants) (f : Subscription → Subscription) → ((s : Subscription) → (f s).conn ≡ s.conn) → (subs : List Subscription) →
    subscriptions_of t (unended (map f subs)) ≡ unended (map f (subscriptions_of t subs))
changed_subscriptions t f keeps [] = refl
changed_subscriptions t f keeps (s ∷ subs) = by (t.connections s.conn) refl (has_ended (f s)) refl (changed_subscriptions t f keeps subs)
  where
    by : (c : Bool) → t.connections s.conn ≡ c → (b : Bool) → has_ended (f s) ≡ b → subscriptions_of t (unended (map f subs)) ≡ unended (map f (subscriptions_of t subs)) →
        subscriptions_of t (cond (not b) (f s ∷ unended (map f subs)) (unended (map f subs))) ≡ unended (map f (cond c (s ∷ subscriptions_of t subs) (subscriptions_of t subs)))
    by true g true h later = rw h later
    by true g false h later =
        ap (λ c. cond c (f s ∷ subscriptions_of t (unended (map f subs))) (subscriptions_of t (unended (map f subs)))) (ap t.connections (keeps s) ∙ g)
        ∙ ap (λ l. f s ∷ l) later
        ∙ sym (ap (λ b. cond (not b) (f s ∷ unended (map f (subscriptions_of t subs))) (unended (map f (subscriptions_of t subs)))) h)
    by false g true h later = later
    by false g false h later =
        ap (λ c. cond c (f s ∷ subscriptions_of t (unended (map f subs))) (subscriptions_of t (unended (map f subs)))) (ap t.connections (keeps s) ∙ g) ∙ later

-- where none of theirs changes or has ended, theirs stay
pub unchanged_subscriptions : (t : Tenants) (f : Subscription → Subscription) → ((s : Subscription) → (f s).conn ≡ s.conn) → (subs : List Subscription) → All (λ s. has_ended s ≡ false) subs →
    ((s : Subscription) → t.connections s.conn ≡ true → f s ≡ s) → subscriptions_of t (unended (map f subs)) ≡ subscriptions_of t subs
unchanged_subscriptions t f keeps [] standing stays = refl
unchanged_subscriptions t f keeps (s ∷ subs) standing stays =
    by (t.connections s.conn) refl (has_ended (f s)) refl (All-head (λ u. has_ended u ≡ false) s subs standing)
    (unchanged_subscriptions t f keeps subs (All-tail (λ u. has_ended u ≡ false) s subs standing) stays)
  where
    by : (c : Bool) → t.connections s.conn ≡ c → (b : Bool) → has_ended (f s) ≡ b → has_ended s ≡ false → subscriptions_of t (unended (map f subs)) ≡ subscriptions_of t subs →
        subscriptions_of t (cond (not b) (f s ∷ unended (map f subs)) (unended (map f subs))) ≡ cond c (s ∷ subscriptions_of t subs) (subscriptions_of t subs)
    by true g true h stands later = let no : false ≡ true = sym stands ∙ ap has_ended (sym (stays s g)) ∙ h in absurd (cc)
    by true g false h stands later =
        ap (λ c. cond c (f s ∷ subscriptions_of t (unended (map f subs))) (subscriptions_of t (unended (map f subs)))) (ap t.connections (keeps s) ∙ g)
        ∙ ap (λ x. x ∷ subscriptions_of t (unended (map f subs))) (stays s g) ∙ ap (λ l. s ∷ l) later
    by false g true h stands later = later
    by false g false h stands later =
        ap (λ c. cond c (f s ∷ subscriptions_of t (unended (map f subs))) (subscriptions_of t (unended (map f subs)))) (ap t.connections (keeps s) ∙ g) ∙ later

-- ---- pairs

module _ (t : Tenants) (m n : ℕ) where
  abbrev IsGiven : Pair → Type 0
  IsGiven a = (a.0.id ≤ m) × (a.1.id ≤ n)

  abbrev IsWithin : Pair → Type 0
  IsWithin a = t.connections a.0.conn ≡ true

  -- tests that agree on each pair keep pairs
  abbrev pub pairs_kept : (p q : Subscription → Bool) (xs ys : List Subscription) (P : ArePaired t m n xs ys) → All (λ (a : Pair). p a.0 ≡ q a.1) P.pairs → ArePaired t m n (filter p xs) (filter q ys)
  pairs_kept p q xs ys P agree =
      let test : Pair → Bool = λ a. p a.0 in
      record {
        pairs = filter test P.pairs;
        first = filter_map_is p first_of P.pairs ∙ ap (filter p) P.first;
        second = ap (map second_of) (same_kept test (λ (a : Pair). q a.1) P.pairs agree) ∙ filter_map_is q second_of P.pairs ∙ ap (filter q) P.second;
        same = All-filter test IsSame P.pairs P.same;
        ids = All-weaker (λ a. All (HaveOneId a) P.pairs) (λ a. All (HaveOneId a) (filter test P.pairs)) (λ a each. All-filter test (HaveOneId a) P.pairs each) (filter test P.pairs)
            (All-filter test (λ a. All (HaveOneId a) P.pairs) P.pairs P.ids);
        within = All-filter test IsWithin P.pairs P.within;
        given = All-filter test IsGiven P.pairs P.given;
      }

  -- a test that doesn't look at the number keeps pairs
  abbrev pub test_kept : (p : Subscription → Bool) → ((s : Subscription) → p s ≡ p (unnumbered s)) → (xs ys : List Subscription) → ArePaired t m n xs ys → ArePaired t m n (filter p xs) (filter p ys)
  test_kept p blind xs ys P = pairs_kept p p xs ys P (All-weaker IsSame (λ (a : Pair). p a.0 ≡ p a.1) (λ a is. blind a.0 ∙ ap p is ∙ sym (blind a.1)) P.pairs P.same)

  -- a change that leaves numbers and connections, and doesn't look at the number, leaves pairs
  pub pairs_changed : (f : Subscription → Subscription) → ((s : Subscription) → (f s).id ≡ s.id) → ((s : Subscription) → (f s).conn ≡ s.conn) → ((s : Subscription) → unnumbered (f s) ≡ unnumbered (f (unnumbered s))) →
      (xs ys : List Subscription) → ArePaired t m n xs ys → ArePaired t m n (map f xs) (map f ys)
  pairs_changed f ids conns blind xs ys P =
      let both : Pair → Pair = λ a. (f a.0, f a.1) in
      record {
        pairs = map both P.pairs;
        first = mapped_twice both first_of P.pairs ∙ sym (mapped_twice first_of f P.pairs) ∙ ap (map f) P.first;
        second = mapped_twice both second_of P.pairs ∙ sym (mapped_twice second_of f P.pairs) ∙ ap (map f) P.second;
        same = All-map IsSame both P.pairs (All-weaker IsSame (λ a. IsSame (both a)) (λ a is. blind a.0 ∙ ap (λ s. unnumbered (f s)) is ∙ sym (blind a.1)) P.pairs P.same);
        ids = All-map (λ a. All (HaveOneId a) (map both P.pairs)) both P.pairs
            (All-weaker (λ a. All (HaveOneId a) P.pairs) (λ a. All (HaveOneId (both a)) (map both P.pairs))
            (λ a each. All-map (HaveOneId (both a)) both P.pairs
            (All-weaker (HaveOneId a) (λ b. HaveOneId (both a) (both b))
            (λ b is. ap (λ i. i == (f b.0).id) (ids a.0) ∙ ap (λ i. a.0.id == i) (ids b.0) ∙ is ∙ ap (λ i. a.1.id == i) (sym (ids b.1)) ∙ ap (λ i. i == (f b.1).id) (sym (ids a.1))) P.pairs each)) P.pairs P.ids);
        within = All-map IsWithin both P.pairs (All-weaker IsWithin (λ a. IsWithin (both a)) (λ a is. ap t.connections (conns a.0) ∙ is) P.pairs P.within);
        given = All-map IsGiven both P.pairs
            (All-weaker IsGiven (λ a. IsGiven (both a)) (λ a is. (subst (λ i. i ≤ m) (sym (ids a.0)) is.0, subst (λ i. i ≤ n) (sym (ids a.1)) is.1)) P.pairs P.given);
      }

  -- what maps make of each pair is the same where they agree on it
  pub pairs_mapped : {X : Type 0} (f g : Subscription → X) (xs ys : List Subscription) (P : ArePaired t m n xs ys) → All (λ (a : Pair). f a.0 ≡ g a.1) P.pairs → map f xs ≡ map g ys
  pairs_mapped f g xs ys P agree =
      ap (map f) (sym P.first) ∙ mapped_twice first_of f P.pairs
      ∙ same_mapped (λ (a : Pair). f a.0) (λ (a : Pair). g a.1) P.pairs agree
      ∙ sym (mapped_twice second_of g P.pairs) ∙ ap (map g) P.second

  -- ---- messages that are counted

  counted_id : (items : List Item) (s : Subscription) → (counted items s).id ≡ s.id
  counted_id items s = by (has_entered items s && nat_lt s.received 18446744073709551615)
    where
      by : (b : Bool) → (cond b (record s { received = s.received + 1 }) s).id ≡ s.id
      by true = refl
      by false = refl

  counted_blind : (items : List Item) (s : Subscription) → unnumbered (counted items s) ≡ unnumbered (counted items (unnumbered s))
  counted_blind items s = by (has_entered items s) (entered items) (nat_lt s.received 18446744073709551615)
    where
      entry : (i : Item) → is_entry_for s i ≡ is_entry_for (unnumbered s) i
      entry (Entered conn sid) = refl
      entry (Full conn sid) = refl
      entry (RouteFull row) = refl
      entry (MapTooLong row) = refl
      entry Unmapped = refl
      entry (MappedTooLong index) = refl

      entered : (is : List Item) → has_entered is (unnumbered s) ≡ has_entered is s
      entered [] = refl
      entered (i ∷ is) = ap (λ b. b || has_entered is (unnumbered s)) (sym (entry i)) ∙ ap (λ b. is_entry_for s i || b) (entered is)

      by : (b : Bool) → has_entered items (unnumbered s) ≡ b → (c : Bool) →
          unnumbered (cond (b && c) (record s { received = s.received + 1 }) s) ≡ unnumbered (cond (has_entered items (unnumbered s) && c) (record (unnumbered s) { received = s.received + 1 }) (unnumbered s))
      by true e true = rw e refl
      by true e false = rw e refl
      by false e c = rw e refl

  pub counted_conn : (items : List Item) (s : Subscription) → (counted items s).conn ≡ s.conn
  counted_conn items s = by (has_entered items s && nat_lt s.received 18446744073709551615)
    where
      by : (b : Bool) → (cond b (record s { received = s.received + 1 }) s).conn ≡ s.conn
      by true = refl
      by false = refl

  pub pairs_counted : (items : List Item) (xs ys : List Subscription) → ArePaired t m n xs ys → ArePaired t m n (unended (map (counted items) xs)) (unended (map (counted items) ys))
  pairs_counted items xs ys P =
      test_kept (λ s. not (has_ended s)) (λ s. refl) (map (counted items) xs) (map (counted items) ys)
      (pairs_changed (counted items) (counted_id items) (counted_conn items) (counted_blind items) xs ys P)
