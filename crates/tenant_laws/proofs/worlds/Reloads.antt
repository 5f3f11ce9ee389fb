-- What another policy makes of tenants' sessions, subscriptions and routes goes by their part of it.
use Rattle.std.proofs.Common.{◌≡◌, ◌∙◌, ◌==◌, ◌≤◌, ◌+◌, ℕ, Bool, true, false, not, cond, List, [], ◌∷◌, filter, map, get_or, Option, Some, None, Ok, ap, sym, refl, subst, arith}
use Rattle.std.specs.Prelude.{All, IfSome, is_some, nat_le}
use Rattle.std.specs.List.{cons_option, filter_map}
use Rattle.std.specs.Option.{option_map}
use Rattle.std.proofs.lemmas.Bool.{eqb-true, leb-true, leb-false, le-leb}
use Rattle.std.proofs.lemmas.List.Elements.{All-nil, All-cons, All-head, All-tail, All-filter, All-map, All-weaker}
use Rattle.policy_doc.specs.declared.exports.document.Row.{Row}
use Rattle.policy_doc.specs.declared.document.PolicyDoc.{PolicyDoc}
use Rattle.policy_sets.specs.Sets.{IsClosed}
use Rattle.permissions.specs.Verdicts.{is_allowed}
use Rattle.permissions.specs.declared.verdict.Verdict.{Verdict}
use Rattle.policy_ready.specs.declared.ready.User.{User}
use Rattle.events.specs.declared.answer.Removed.{Removed}
use Rattle.events.specs.declared.answer.Outcome.TheVariants.{Reloaded}
use Rattle.service_exporter.specs.Routes.{Exporter, Numbered, kept_of, kept_route, lives, on_row, pruned_of}
use Rattle.service_exporter.specs.declared.route.NewRow.{NewRow}
use Rattle.service_routes.specs.Routes.{Name, kept, pruned}
use Rattle.service_routes.specs.service_rows.Rows.{renewed as renewed_row}
use Rattle.world_sessions.specs.deliveries.Sessions.{session_of}
use Rattle.world_sessions.specs.Renewal.{ascending, closed_conns, connection_of, goes, remaining, renewed, stays, user_again_of, with_number, with_user}
use Rattle.world_sessions.specs.declared.deliveries.session.Session.{Session}
use Rattle.world_subscriptions.specs.Subscription.{Subscription}
use Rattle.world_routing.specs.World.{World}
use Rattle.world.specs.Reload.{may_stand, reloaded, removal, removal_after, removed_by, stands_on, user_after, verdict_after, verdict_for}
use Rattle.world.specs.Transition.{numbered}
use Rattle.tenant_laws.specs.parts.Least.{exporter_on_least, exporters_on_least, on_least}
use Rattle.tenant_laws.specs.parts.Part.{exporters_of, part_of}
use Rattle.tenant_laws.proofs.parts.Routes.{keeps, prunes}
use Rattle.tenant_laws.proofs.parts.Policy.{again_in_part, users_in_part}
use Rattle.tenant_laws.proofs.parts.Least.{least_in_part}
use Rattle.tenant_laws.proofs.parts.OnLeast.{kept_least, least_twice}
use Rattle.tenant_laws.specs.worlds.Tenants.{Tenants, has_session, has_subscription, sessions_of, subscriptions_of, unnumbered}
use Rattle.tenant_laws.specs.worlds.Answers.{unnumbered_removal}
use Rattle.tenant_laws.specs.worlds.Alike.{AreApart, ArePaired, IsOwnExporter, IsOwnSession, IsPartOf, IsSame, IsUpheld, Pair, first_of, second_of}
use Rattle.tenant_laws.proofs.worlds.Sessions.{session_kept}
use Rattle.tenant_laws.proofs.worlds.Pairs.{filter_map_is, kept_before, pairs_kept, same_kept, same_mapped}
use Rattle.tenant_laws.proofs.worlds.Views.{passing_all}
use Rattle.tenant_laws.specs.worlds.Laws.{AreMovedAlike, HasLeft}
use Rattle.tenant_laws.proofs.worlds.Commands.{either_order, found_all, later_pairs}

-- ---- lists

kept_mapped : {X : Type 0} (k : X → Bool) (f : X → X) (xs : List X) → ((x : X) → k (f x) ≡ k x) → filter k (map f xs) ≡ map f (filter k xs)
kept_mapped k f [] same = refl
kept_mapped {X} k f (x ∷ xs) same = ap (λ b. cond b (f x ∷ filter k (map f xs)) (filter k (map f xs))) (same x) ∙ by (k x) (kept_mapped k f xs same)
  where
    by : (b : Bool) → filter k (map f xs) ≡ map f (filter k xs) → cond b (f x ∷ filter k (map f xs)) (filter k (map f xs)) ≡ map f (cond b (x ∷ filter k xs) (filter k xs))
    by true later = ap (λ l. f x ∷ l) later
    by false later = later

same_given : {X Y : Type 0} (f g : X → Option Y) (xs : List X) → All (λ x. f x ≡ g x) xs → filter_map f xs ≡ filter_map g xs
same_given f g [] agree = refl
same_given f g (x ∷ xs) agree =
    ap (λ o. cons_option o (filter_map f xs)) (All-head (λ y. f y ≡ g y) x xs agree) ∙ ap (cons_option (g x)) (same_given f g xs (All-tail (λ y. f y ≡ g y) x xs agree))

-- what is given of those that pass is what passes of what is given, where each gives what passes as it does
given_filtered : {X Y : Type 0} (k : Y → Bool) (j : X → Bool) (h : X → Option Y) (xs : List X) → ((x : X) → IfSome (h x) (λ y. k y ≡ j x)) → filter k (filter_map h xs) ≡ filter_map h (filter j xs)
given_filtered k j h [] as_it = refl
given_filtered {X} {Y} k j h (x ∷ xs) as_it = by (h x) refl (as_it x) (j x) refl (given_filtered k j h xs as_it)
  where
    by : (o : Option Y) → h x ≡ o → IfSome o (λ y. k y ≡ j x) → (b : Bool) → j x ≡ b → filter k (filter_map h xs) ≡ filter_map h (filter j xs) →
        filter k (cons_option o (filter_map h xs)) ≡ filter_map h (cond b (x ∷ filter j xs) (filter j xs))
    by None e is true f later = later ∙ ap (λ o. cons_option o (filter_map h (filter j xs))) (sym e)
    by None e is false f later = later
    by (Some y) e is true f later =
        ap (λ b. cond b (y ∷ filter k (filter_map h xs)) (filter k (filter_map h xs))) (is ∙ f) ∙ ap (λ l. y ∷ l) later ∙ ap (λ o. cons_option o (filter_map h (filter j xs))) (sym e)
    by (Some y) e is false f later = ap (λ b. cond b (y ∷ filter k (filter_map h xs)) (filter k (filter_map h xs))) (is ∙ f) ∙ later

mapped_cons : {X Y : Type 0} (u : X → Y) (o : Option X) (xs : List X) → map u (cons_option o xs) ≡ cons_option (option_map u o) (map u xs)
mapped_cons u None xs = refl
mapped_cons u (Some x) xs = refl

-- ---- numbers in order

abbrev IsAscending : List ℕ → Type 0
IsAscending [] = Unit {0}
IsAscending (n ∷ ns) = All (λ m. n ≤ m) ns × IsAscending ns

with_all : (P : ℕ → Type 0) (n : ℕ) (ms : List ℕ) → P n → All P ms → All P (with_number n ms)
with_all P n [] is all = All-cons P n [] is all
with_all P n (m ∷ ms) is all = by (nat_le n m) (with_all P n ms is (All-tail P m ms all))
  where
    by : (b : Bool) → All P (with_number n ms) → All P (cond b (n ∷ m ∷ ms) (m ∷ with_number n ms))
    by true later = All-cons P n (m ∷ ms) is all
    by false later = All-cons P m (with_number n ms) (All-head P m ms all) later

with_ascending : (n : ℕ) (ms : List ℕ) → IsAscending ms → IsAscending (with_number n ms)
with_ascending n [] asc = (All-nil (λ m. n ≤ m), tt)
with_ascending n (m ∷ ms) asc = by (nat_le n m) refl (with_ascending n ms asc.1)
  where
    by : (b : Bool) → nat_le n m ≡ b → IsAscending (with_number n ms) → IsAscending (cond b (n ∷ m ∷ ms) (m ∷ with_number n ms))
    by true e later =
        let le = leb-true n m e in
        (All-cons (λ x. n ≤ x) m ms le (All-weaker (λ x. m ≤ x) (λ x. n ≤ x) (λ x below. omega (arith, le, below)) ms asc.0), asc)
    by false e later = let over = leb-false n m e in (with_all (λ x. m ≤ x) n ms (omega (arith, over)) asc.0, later)

is_ascending : (ns : List ℕ) → IsAscending (ascending ns)
is_ascending [] = tt
is_ascending (n ∷ ns) = with_ascending n (ascending ns) (is_ascending ns)

in_front : (n : ℕ) (ms : List ℕ) → All (λ m. n ≤ m) ms → with_number n ms ≡ n ∷ ms
in_front n [] all = refl
in_front n (m ∷ ms) all = ap (λ b. cond b (n ∷ m ∷ ms) (m ∷ with_number n ms)) (le-leb n m (All-head (λ x. n ≤ x) m ms all))

number_kept : (k : ℕ → Bool) (n : ℕ) (ms : List ℕ) → IsAscending ms → filter k (with_number n ms) ≡ cond (k n) (with_number n (filter k ms)) (filter k ms)
number_kept k n [] asc = refl
number_kept k n (m ∷ ms) asc = by (nat_le n m) refl (k n) refl (k m) refl (number_kept k n ms asc.1)
  where
    by : (a : Bool) → nat_le n m ≡ a → (b : Bool) → k n ≡ b → (c : Bool) → k m ≡ c → filter k (with_number n ms) ≡ cond (k n) (with_number n (filter k ms)) (filter k ms) →
        filter k (cond a (n ∷ m ∷ ms) (m ∷ with_number n ms)) ≡ cond b (with_number n (cond c (m ∷ filter k ms) (filter k ms))) (cond c (m ∷ filter k ms) (filter k ms))
    by true e true f true g later =
        rw (f, g) (sym (in_front n (m ∷ filter k ms) (All-cons (λ x. n ≤ x) m (filter k ms) (leb-true n m e) (All-filter k (λ x. n ≤ x) ms (behind e)))))
      where
        behind : nat_le n m ≡ true → All (λ x. n ≤ x) ms
        behind e' = let le = leb-true n m e' in All-weaker (λ x. m ≤ x) (λ x. n ≤ x) (λ x below. omega (arith, le, below)) ms asc.0
    by true e true f false g later =
        rw (f, g) (sym (in_front n (filter k ms) (All-filter k (λ x. n ≤ x) ms (let le = leb-true n m e in All-weaker (λ x. m ≤ x) (λ x. n ≤ x) (λ x below. omega (arith, le, below)) ms asc.0))))
    by true e false f true g later = rw (f, g) refl
    by true e false f false g later = rw (f, g) refl
    by false e true f true g later = rw (g, e) (ap (λ l. m ∷ l) (later ∙ ap (λ b. cond b (with_number n (filter k ms)) (filter k ms)) f))
    by false e true f false g later = rw g (later ∙ ap (λ b. cond b (with_number n (filter k ms)) (filter k ms)) f)
    by false e false f true g later = rw g (ap (λ l. m ∷ l) (later ∙ ap (λ b. cond b (with_number n (filter k ms)) (filter k ms)) f))
    by false e false f false g later = rw g (later ∙ ap (λ b. cond b (with_number n (filter k ms)) (filter k ms)) f)

ascending_kept : (k : ℕ → Bool) (ns : List ℕ) → filter k (ascending ns) ≡ ascending (filter k ns)
ascending_kept k [] = refl
ascending_kept k (n ∷ ns) =
    number_kept k n (ascending ns) (is_ascending ns) ∙ ap (λ l. cond (k n) (with_number n l) l) (ascending_kept k ns) ∙ by (k n)
  where
    by : (b : Bool) → cond b (with_number n (ascending (filter k ns))) (ascending (filter k ns)) ≡ ascending (cond b (n ∷ filter k ns) (filter k ns))
    by true = refl
    by false = refl

module _ (t : Tenants) (doc : PolicyDoc) where
  abbrev part : PolicyDoc
  part = part_of t.accounts doc

  -- ---- sessions

  abbrev IsTheirs : Session → Type 0
  IsTheirs z = t.accounts z.user.account ≡ true

  theirs : (zs : List Session) → All (IsOwnSession t) zs → All IsTheirs (sessions_of t zs)
  theirs zs own = passing_all (has_session t) (IsOwnSession t) IsTheirs (λ z of is. sym of ∙ is) zs own

  again_same : (z : Session) → IsTheirs z → user_again_of doc z ≡ user_again_of part z
  again_same z is = sym (users_in_part t.accounts doc z.user is)

  renewed_conn : (now : ℕ) (z : Session) → (renewed now doc z).conn ≡ z.conn
  renewed_conn now z = by (user_again_of doc z)
    where
      by : (o : Option User) → (with_user now z o).conn ≡ z.conn
      by None = refl
      by (Some u) = refl

  pub remaining_own : (now : ℕ) (zs : List Session) → All (IsOwnSession t) zs → sessions_of t (remaining now doc zs) ≡ remaining now part (sessions_of t zs)
  remaining_own now zs own =
      kept_mapped (has_session t) (renewed now doc) (filter (stays doc) zs) (λ z. ap t.connections (renewed_conn now z))
      ∙ ap (map (renewed now doc)) (either_order (has_session t) (stays doc) zs)
      ∙ ap (map (renewed now doc))
      (same_kept (stays doc) (stays part) (sessions_of t zs) (All-weaker IsTheirs (λ z. stays doc z ≡ stays part z) (λ z is. ap is_some (again_same z is)) (sessions_of t zs) (theirs zs own)))
      ∙ same_mapped (renewed now doc) (renewed now part) (filter (stays part) (sessions_of t zs))
      (All-filter (stays part) (λ z. renewed now doc z ≡ renewed now part z) (sessions_of t zs)
      (All-weaker IsTheirs (λ z. renewed now doc z ≡ renewed now part z) (λ z is. ap (with_user now z) (again_same z is)) (sessions_of t zs) (theirs zs own)))

  closed_theirs : (d : PolicyDoc) (zs : List Session) → filter t.connections (closed_conns d zs) ≡ closed_conns d (sessions_of t zs)
  closed_theirs d zs =
      ascending_kept t.connections (map connection_of (filter (goes d) zs))
      ∙ ap ascending (sym (filter_map_is t.connections connection_of (filter (goes d) zs)))
      ∙ ap (λ ys. ascending (map connection_of ys)) (either_order (has_session t) (goes d) zs)

  theirs_twice : (zs : List Session) → sessions_of t (sessions_of t zs) ≡ sessions_of t zs
  theirs_twice zs = kept_before (has_session t) (has_session t) zs (λ k d h out. out)

  pub closed_own_conns : (zs : List Session) → All (IsOwnSession t) zs → filter t.connections (closed_conns part (sessions_of t zs)) ≡ filter t.connections (closed_conns doc zs)
  closed_own_conns zs own =
      closed_theirs part (sessions_of t zs)
      ∙ ap (closed_conns part) (theirs_twice zs)
      ∙ ap (λ ys. ascending (map connection_of ys))
      (same_kept (goes part) (goes doc) (sessions_of t zs) (All-weaker IsTheirs (λ z. goes part z ≡ goes doc z) (λ z is. ap (λ o. not (is_some o)) (sym (again_same z is))) (sessions_of t zs) (theirs zs own)))
      ∙ sym (closed_theirs doc zs)

  -- ---- subscriptions

  user_same : (zs : List Session) → All (IsOwnSession t) zs → (conn : ℕ) → t.connections conn ≡ true → user_after doc (session_of zs conn) ≡ user_after part (session_of (sessions_of t zs) conn)
  user_same zs own conn is =
      by (session_of zs conn) (found_all (IsOwnSession t) (λ (z : Session). z.conn == conn) zs own) ∙ ap (user_after part) (sym (session_kept t conn zs is))
    where
      by : (o : Option Session) → IfSome o (λ z. IsOwnSession t z × ((z.conn == conn) ≡ true)) → user_after doc o ≡ user_after part o
      by None of = refl
      by (Some z) of = again_same z (sym of.0 ∙ ap t.connections (eqb-true z.conn conn of.1) ∙ is)

  verdict_same : (zs : List Session) → All (IsOwnSession t) zs → (s : Subscription) → t.connections s.conn ≡ true → verdict_after doc zs s ≡ verdict_after part (sessions_of t zs) s
  verdict_same zs own s is = ap (λ o. verdict_for o s) (user_same zs own s.conn is)

  verdict_blind : (o : Option User) (s : Subscription) → verdict_for o s ≡ verdict_for o (unnumbered s)
  verdict_blind None s = refl
  verdict_blind (Some u) s = refl

  -- of a pair the verdict is one
  verdict_paired : (zs : List Session) → All (IsOwnSession t) zs → (a : Pair) → t.connections a.0.conn ≡ true → IsSame a → verdict_after doc zs a.0 ≡ verdict_after part (sessions_of t zs) a.1
  verdict_paired zs own a is same =
      let o : ℕ → Option User = λ conn. user_after part (session_of (sessions_of t zs) conn) in
      verdict_same zs own a.0 is
      ∙ verdict_blind (o a.0.conn) a.0
      ∙ ap (λ (s : Subscription). verdict_for (o s.conn) s) same
      ∙ sym (verdict_blind (o a.1.conn) a.1)

  pub stand_own : (zs : List Session) → All (IsOwnSession t) zs → (subs : List Subscription) → subscriptions_of t (filter (stands_on doc zs) subs) ≡ filter (stands_on part (sessions_of t zs)) (subscriptions_of t subs)
  stand_own zs own subs =
      either_order (has_subscription t) (stands_on doc zs) subs
      ∙ same_kept (stands_on doc zs) (stands_on part (sessions_of t zs)) (subscriptions_of t subs)
      (passing_all (has_subscription t) (λ s. Unit {0}) (λ s. stands_on doc zs s ≡ stands_on part (sessions_of t zs) s) (λ s of is. ap may_stand (verdict_same zs own s is)) subs (λ k d h. tt))

  removal_conn : (s : Subscription) (v : Option Verdict) → IfSome (removal s v) (λ (r : Removed). t.connections r.conn ≡ t.connections s.conn)
  removal_conn s None = tt
  removal_conn s (Some v) = by (is_allowed v)
    where
      by : (b : Bool) → IfSome (cond b None (Some (removed_by s v))) (λ (r : Removed). t.connections r.conn ≡ t.connections s.conn)
      by true = tt
      by false = refl

  removal_blind : (s : Subscription) (v : Option Verdict) → option_map unnumbered_removal (removal s v) ≡ option_map unnumbered_removal (removal (unnumbered s) v)
  removal_blind s None = refl
  removal_blind s (Some v) = by (is_allowed v)
    where
      by : (b : Bool) → option_map unnumbered_removal (cond b None (Some (removed_by s v))) ≡ option_map unnumbered_removal (cond b None (Some (removed_by (unnumbered s) v)))
      by true = refl
      by false = refl

  removals : (f g : Subscription → Option Removed) (ps : List Pair) → All (λ (a : Pair). option_map unnumbered_removal (f a.0) ≡ option_map unnumbered_removal (g a.1)) ps →
      map unnumbered_removal (filter_map f (map first_of ps)) ≡ map unnumbered_removal (filter_map g (map second_of ps))
  removals f g [] agree = refl
  removals f g (a ∷ ps) agree =
      let P : Pair → Type 0 = λ b. option_map unnumbered_removal (f b.0) ≡ option_map unnumbered_removal (g b.1) in
      mapped_cons unnumbered_removal (f a.0) (filter_map f (map first_of ps))
      ∙ ap (λ o. cons_option o (map unnumbered_removal (filter_map f (map first_of ps)))) (All-head P a ps agree)
      ∙ ap (cons_option (option_map unnumbered_removal (g a.1))) (removals f g ps (All-tail P a ps agree))
      ∙ sym (mapped_cons unnumbered_removal (g a.1) (filter_map g (map second_of ps)))

  abbrev of_theirs : Removed → Bool
  of_theirs r = t.connections r.conn

  removed_theirs : (d : PolicyDoc) (zs : List Session) (subs : List Subscription) → filter of_theirs (filter_map (removal_after d zs) subs) ≡ filter_map (removal_after d zs) (subscriptions_of t subs)
  removed_theirs d zs subs = given_filtered of_theirs (has_subscription t) (removal_after d zs) subs (λ s. removal_conn s (verdict_after d zs s))

  pub removed_own : (m n : ℕ) (zs : List Session) → All (IsOwnSession t) zs → (subs us : List Subscription) → ArePaired t m n (subscriptions_of t subs) us →
      map unnumbered_removal (filter of_theirs (filter_map (removal_after part (sessions_of t zs)) us)) ≡ map unnumbered_removal (filter of_theirs (filter_map (removal_after doc zs) subs))
  removed_own m n zs own subs us P =
      let f : Subscription → Option Removed = removal_after doc zs in
      let g : Subscription → Option Removed = removal_after part (sessions_of t zs) in
      ap (map unnumbered_removal) (removed_theirs part (sessions_of t zs) us ∙ ap (filter_map g) (all_theirs ∙ sym P.second))
      ∙ sym (removals f g P.pairs (λ k d h. let a : Pair = get_or P.pairs k d in
      removal_blind a.0 (verdict_after doc zs a.0)
      ∙ ap (λ v. option_map unnumbered_removal (removal (unnumbered a.0) v)) (verdict_paired zs own a (P.within k d h) (P.same k d h))
      ∙ ap (λ s. option_map unnumbered_removal (removal s (verdict_after part (sessions_of t zs) a.1))) (P.same k d h)
      ∙ sym (removal_blind a.1 (verdict_after part (sessions_of t zs) a.1))))
      ∙ ap (λ xs. map unnumbered_removal (filter_map f xs)) P.first
      ∙ ap (map unnumbered_removal) (sym (removed_theirs doc zs subs))
    where
      in_us : (ps : List Pair) → All (λ (a : Pair). t.connections a.0.conn ≡ true) ps → All IsSame ps → subscriptions_of t (map second_of ps) ≡ map second_of ps
      in_us [] within same = refl
      in_us (a ∷ ps) within same =
          let is : t.connections a.1.conn ≡ true = ap (λ (s : Subscription). t.connections s.conn) (sym (All-head IsSame a ps same)) ∙ All-head (λ (b : Pair). t.connections b.0.conn ≡ true) a ps within in
          ap (λ b. cond b (a.1 ∷ subscriptions_of t (map second_of ps)) (subscriptions_of t (map second_of ps))) is
          ∙ ap (λ l. a.1 ∷ l) (in_us ps (All-tail (λ (b : Pair). t.connections b.0.conn ≡ true) a ps within) (All-tail IsSame a ps same))

      all_theirs : subscriptions_of t us ≡ us
      all_theirs = ap (subscriptions_of t) (sym P.second) ∙ in_us P.pairs P.within P.same ∙ P.second

  -- ---- routes

  abbrev IsRowOfTheirs : Numbered → Type 0
  IsRowOfTheirs r = t.accounts r.1.row.importer ≡ true

  abbrev Each : Name × Exporter → Type 0
  Each e = All IsRowOfTheirs e.1.routes

  abbrev at_each : PolicyDoc → Name × Exporter → Name × Exporter
  at_each old e = (e.0, kept_of (renewed_row old doc) e.1)

  abbrev at_part : PolicyDoc → Name × Exporter → Name × Exporter
  at_part old e = (e.0, kept_of (renewed_row (part_of t.accounts old) part) e.1)

  pub routes_own : (now : ℕ) (old : PolicyDoc) → IsClosed doc t.accounts → (all : List (Name × Exporter)) → All (IsOwnExporter t) all →
      exporters_of t.accounts (pruned now (kept (renewed_row old doc) all)) ≡ pruned now (kept (renewed_row (part_of t.accounts old) part) (exporters_of t.accounts all))
  routes_own now old closed all own =
      prunes t.accounts now (kept (renewed_row old doc) all)
      ∙ ap (pruned now) (keeps t.accounts (renewed_row old doc) all ∙ same_mapped (at_each old) (at_part old) (exporters_of t.accounts all) (All-weaker Each (λ e. at_each old e ≡ at_part old e) same_each (exporters_of t.accounts all) theirs'))
    where
      theirs' : All Each (exporters_of t.accounts all)
      theirs' = passing_all (λ (e : Name × Exporter). t.accounts e.0) (IsOwnExporter t) Each
          (λ e of is. All-weaker (λ (r : Numbered). t.accounts r.1.row.importer ≡ t.accounts e.0) IsRowOfTheirs (λ r from. from ∙ is) e.1.routes of) all own

      same_each : (e : Name × Exporter) → Each e → at_each old e ≡ at_part old e
      same_each e each =
          ap (λ rs. (e.0, record { last = e.1.last; routes = rs }))
          (same_given (kept_route (renewed_row old doc)) (kept_route (renewed_row (part_of t.accounts old) part)) e.1.routes
          (All-weaker IsRowOfTheirs (λ r. kept_route (renewed_row old doc) r ≡ kept_route (renewed_row (part_of t.accounts old) part) r)
          (λ r is. ap (option_map (λ (new : NewRow). (r.0, on_row r.1 new))) (sym (again_in_part t.accounts old doc closed r.1.row is))) e.1.routes each))

-- routes that are kept, and those on the least rows, are for whom they were
kept_own : (t : Tenants) (now : ℕ) (row_again : Row → Option NewRow) (all : List (Name × Exporter)) → All (IsOwnExporter t) all → All (IsOwnExporter t) (pruned now (kept row_again all))
kept_own t now row_again [] own = All-nil (IsOwnExporter t)
kept_own t now row_again (e ∷ all) own =
    All-cons (IsOwnExporter t) (e.0, pruned_of now (kept_of row_again e.1)) (pruned now (kept row_again all))
    (All-filter (λ (r : Numbered). lives now r.1) (λ (x : Numbered). t.accounts x.1.row.importer ≡ t.accounts e.0) (filter_map (kept_route row_again) e.1.routes) (each e.1.routes (All-head (IsOwnExporter t) e all own)))
    (kept_own t now row_again all (All-tail (IsOwnExporter t) e all own))
  where
    each : (rs : List Numbered) → All (λ (x : Numbered). t.accounts x.1.row.importer ≡ t.accounts e.0) rs → All (λ (x : Numbered). t.accounts x.1.row.importer ≡ t.accounts e.0) (filter_map (kept_route row_again) rs)
    each [] of = All-nil (λ (x : Numbered). t.accounts x.1.row.importer ≡ t.accounts e.0)
    each (r ∷ rs) of = by (row_again r.1.row) (each rs (All-tail (λ (x : Numbered). t.accounts x.1.row.importer ≡ t.accounts e.0) r rs of))
      where
        by : (o : Option NewRow) → All (λ (x : Numbered). t.accounts x.1.row.importer ≡ t.accounts e.0) (filter_map (kept_route row_again) rs) → All (λ (x : Numbered). t.accounts x.1.row.importer ≡ t.accounts e.0) (cons_option (option_map (λ (new : NewRow). (r.0, on_row r.1 new)) o) (filter_map (kept_route row_again) rs))
        by None later = later
        by (Some new) later = All-cons (λ (x : Numbered). t.accounts x.1.row.importer ≡ t.accounts e.0) (r.0, on_row r.1 new) (filter_map (kept_route row_again) rs) (All-head (λ (x : Numbered). t.accounts x.1.row.importer ≡ t.accounts e.0) r rs of) later

least_own : (t : Tenants) (doc : PolicyDoc) (all : List (Name × Exporter)) → All (IsOwnExporter t) all → All (IsOwnExporter t) (exporters_on_least doc all)
least_own t doc all own =
    All-map (IsOwnExporter t) (λ (e : Name × Exporter). (e.0, exporter_on_least doc e.1)) all
    (All-weaker (IsOwnExporter t) (λ (e : Name × Exporter). IsOwnExporter t (e.0, exporter_on_least doc e.1))
    (λ e of. All-map (λ (r : Numbered). t.accounts r.1.row.importer ≡ t.accounts e.0) (λ (r : Numbered). (r.0, on_least doc r.1)) e.1.routes of) all own)

-- ---- a reload

module _ (t : Tenants) (w p : World) (is_part : IsPartOf t w p) (apart : AreApart t w) (doc : PolicyDoc) (closed : IsClosed doc t.accounts) where
  abbrev part' : PolicyDoc
  part' = part_of t.accounts doc

  abbrev later_given : ArePaired t (w.number + 1) (p.number + 1) (subscriptions_of t w.subscriptions) p.subscriptions
  later_given = later_pairs t w.number p.number (w.number + 1) (p.number + 1) (subscriptions_of t w.subscriptions) p.subscriptions (omega arith) (omega arith) is_part.subscriptions

  pub reloaded_own : AreMovedAlike t (numbered (w.number + 1) (Ok (reloaded w doc))) (numbered (p.number + 1) (Ok (reloaded p part')))
  reloaded_own =
      let zs : List Session = sessions_of t w.sessions in
      let after : List (Name × Exporter) = pruned w.moment (kept (renewed_row w.policy doc) w.routes) in
      let routes_same : pruned p.moment (kept (renewed_row p.policy part') p.routes) ≡ exporters_of t.accounts after =
      ap (λ (now : ℕ). pruned now (kept (renewed_row p.policy part') p.routes)) is_part.moment
      ∙ ap (pruned w.moment) (sym (kept_least p.policy part' p.routes))
      ∙ ap (λ rs. pruned w.moment (kept (renewed_row p.policy part') rs)) is_part.routes
      ∙ ap (λ (old : PolicyDoc). pruned w.moment (kept (renewed_row old part') (exporters_of t.accounts (exporters_on_least w.policy w.routes)))) is_part.policy
      ∙ sym (routes_own t doc w.moment w.policy closed (exporters_on_least w.policy w.routes) (least_own t w.policy w.routes apart.routes))
      ∙ ap (λ rs. exporters_of t.accounts (pruned w.moment rs)) (kept_least w.policy doc w.routes) in
      let closed_same : filter t.connections (closed_conns part' p.sessions) ≡ filter t.connections (closed_conns doc w.sessions) =
      ap (λ ys. filter t.connections (closed_conns part' ys)) is_part.sessions ∙ closed_own_conns t doc w.sessions apart.sessions in
      let removed_same : map unnumbered_removal (filter (λ (r : Removed). t.connections r.conn) (filter_map (removal_after part' p.sessions) p.subscriptions))
      ≡ map unnumbered_removal (filter (λ (r : Removed). t.connections r.conn) (filter_map (removal_after doc w.sessions) w.subscriptions)) =
      ap (λ ys. map unnumbered_removal (filter (λ (r : Removed). t.connections r.conn) (filter_map (removal_after part' ys) p.subscriptions))) is_part.sessions
      ∙ removed_own t doc w.number p.number w.sessions apart.sessions w.subscriptions p.subscriptions is_part.subscriptions in (
        ap (λ l. Reloaded l (map unnumbered_removal (filter (λ (r : Removed). t.connections r.conn) (filter_map (removal_after part' p.sessions) p.subscriptions)))) closed_same
            ∙ ap (Reloaded (filter t.connections (closed_conns doc w.sessions))) removed_same,
        record {
          capacity = is_part.capacity;
          policy = refl;
          moment = is_part.moment;
          sessions = ap (λ (now : ℕ). remaining now part' p.sessions) is_part.moment ∙ ap (remaining w.moment part') is_part.sessions ∙ sym (remaining_own t doc w.moment w.sessions apart.sessions);
          subscriptions = subst (λ xs. ArePaired t (w.number + 1) (p.number + 1) xs (filter (stands_on part' p.sessions) p.subscriptions)) (sym (stand_own t doc w.sessions apart.sessions w.subscriptions))
              (subst (λ ys. ArePaired t (w.number + 1) (p.number + 1) (filter (stands_on part' zs) (subscriptions_of t w.subscriptions)) (filter (stands_on part' ys) p.subscriptions)) (sym is_part.sessions)
              (pairs_kept t (w.number + 1) (p.number + 1) (stands_on part' zs) (stands_on part' zs) (subscriptions_of t w.subscriptions) p.subscriptions later_given
              (λ k d h. let P = is_part.subscriptions in let a : Pair = get_or P.pairs k d in
              ap may_stand (sym (verdict_same t doc w.sessions apart.sessions a.0 (P.within k d h)) ∙ verdict_paired t doc w.sessions apart.sessions a (P.within k d h) (P.same k d h)))));
          routes = ap (exporters_on_least part') routes_same ∙ sym (least_in_part t.accounts doc after (kept_own t w.moment (renewed_row w.policy doc) w.routes apart.routes));
        },
      )

  -- where their part of the policy stays, nothing of theirs changes
  pub reloaded_others : part_of t.accounts doc ≡ part_of t.accounts w.policy → IsUpheld w → HasLeft t p (numbered (w.number + 1) (Ok (reloaded w doc)))
  reloaded_others same upheld =
      let zs : List Session = sessions_of t w.sessions in
      let after : List (Name × Exporter) = pruned w.moment (kept (renewed_row w.policy doc) w.routes) in
      let theirs : List (Name × Exporter) = exporters_of t.accounts (exporters_on_least w.policy w.routes) in
      let stayed : exporters_of t.accounts after ≡ theirs =
      routes_own t doc w.moment w.policy closed w.routes apart.routes
      ∙ ap (λ d. pruned w.moment (kept (renewed_row (part_of t.accounts w.policy) d) (exporters_of t.accounts w.routes))) same
      ∙ sym (routes_own t w.policy w.moment w.policy apart.closed w.routes apart.routes)
      ∙ ap (exporters_of t.accounts) upheld.routes in
      let sessions : sessions_of t (remaining w.moment doc w.sessions) ≡ sessions_of t w.sessions =
      remaining_own t doc w.moment w.sessions apart.sessions
      ∙ ap (λ d. remaining w.moment d zs) same
      ∙ sym (remaining_own t w.policy w.moment w.sessions apart.sessions)
      ∙ ap (sessions_of t) upheld.sessions in
      let subs : subscriptions_of t (filter (stands_on doc w.sessions) w.subscriptions) ≡ subscriptions_of t w.subscriptions =
      stand_own t doc w.sessions apart.sessions w.subscriptions
      ∙ ap (λ d. filter (stands_on d zs) (subscriptions_of t w.subscriptions)) same
      ∙ sym (stand_own t w.policy w.sessions apart.sessions w.subscriptions)
      ∙ ap (subscriptions_of t) upheld.subscriptions in
      record {
        capacity = is_part.capacity;
        policy = is_part.policy ∙ sym same;
        moment = is_part.moment;
        sessions = is_part.sessions ∙ sym sessions;
        subscriptions = subst (λ xs. ArePaired t (w.number + 1) p.number xs p.subscriptions) (sym subs)
            (later_pairs t w.number p.number (w.number + 1) p.number (subscriptions_of t w.subscriptions) p.subscriptions (omega arith) (omega arith) is_part.subscriptions);
        routes =
            is_part.routes
            ∙ sym (least_in_part t.accounts doc after (kept_own t w.moment (renewed_row w.policy doc) w.routes apart.routes)
            ∙ ap (exporters_on_least part') stayed
            ∙ ap (λ d. exporters_on_least d theirs) same
            ∙ sym (least_in_part t.accounts w.policy (exporters_on_least w.policy w.routes) (least_own t w.policy w.routes apart.routes))
            ∙ ap (exporters_of t.accounts) (least_twice w.policy w.routes));
      }
