-- The marks of what stands while others are dropped, and of what stands under another policy.
use Rattle.std.proofs.Common.{◌≡◌, ◌∙◌, ◌==◌, ◌++◌, ◌<◌, ℕ, zero, suc, Bool, true, false, cond, List, [], ◌∷◌, length, get_or, Option, Some, None, ap, sym, refl, subst, arith, All, Decides, nat_eq, nat_le, ◌||◌}
use Rattle.std.specs.Prelude.{AllPairs, IsSomeAnd, find, is_some}
use Rattle.std.specs.Option.{option_map}
use Rattle.std.proofs.lemmas.Bool.{eq-eqb}
use Rattle.std.proofs.lemmas.Bool.Decides.{nat_tests}
use Rattle.std.proofs.lemmas.List.Elements.{All-push, All-weaker}
use Rattle.policy_doc.specs.declared.document.PolicyDoc.{PolicyDoc}
use Rattle.policy_ready.specs.declared.ready.User.{User}
use Rattle.permissions.specs.deny_marks.Table.{marks_at, IsMarked, is_among}
use Rattle.permissions.specs.declared.deny_marks.marks.Marks.{Marks}
use Rattle.world_sessions.specs.deliveries.Sessions.{session_of, IsApart}
use Rattle.world_sessions.specs.declared.deliveries.session.Session.{Session}
use Rattle.world_sessions.specs.Renewal.{user_again_of, stays, with_user, renewed, remaining, HasSameLists}
use Rattle.world_rows.specs.declared.subscription.Subscription.{Subscription}
use Rattle.receivers.specs.views.Marked.{AreMarked, IsMarkedBy}
use Rattle.world_routing.specs.marks.Standing.{ids_of}
use Rattle.permissions.specs.deny_marks.Marks.{kept, is_marked, marks_in}
use Rattle.permissions.specs.declared.deny_marks.marks.Marks.TheVariants.{Unmarked}
use Rattle.world_routing.specs.marks.Again.{user_after, AreMarksAgain, IsMarkedFor, IsMarkedAgain}
use Rattle.base.proofs.list_laws.Finds.{AllPairs-next}
use Rattle.world_routing.proofs.marks.Staying.{passing, session_of-remaining}

-- where the marks of a subscription are what they were
kept_by : (before after : List (ℕ × Marks)) (sub : Subscription) (o : Option Session) → marks_at after sub.id ≡ marks_at before sub.id → IsMarkedBy before sub o → IsMarkedBy after sub o
kept_by before after sub None same is = tt
kept_by before after sub (Some z) same is = same ∙ is

-- one of an id is found just where the id is among theirs
pub found_among : (id : ℕ) (subs : List Subscription) → is_some (find (λ (s : Subscription). s.id == id) subs) ≡ is_among (ids_of subs) id
found_among id [] = refl
found_among id (s ∷ subs) =
    let flipped : (s.id == id) ≡ nat_eq id s.id = grind (arith, nat_tests) in
    ap (λ b. is_some (let o : Option Subscription = cond b (Some s) (find (λ (x : Subscription). x.id == id) subs) in o)) flipped ∙ by (nat_eq id s.id) (found_among id subs)
  where
    by : (b : Bool) → is_some (find (λ (x : Subscription). x.id == id) subs) ≡ is_among (ids_of subs) id
        → is_some (let o : Option Subscription = cond b (Some s) (find (λ (x : Subscription). x.id == id) subs) in o) ≡ (b || is_among (ids_of subs) id)
    by true later = refl
    by false later = later

-- and that of one that stands is
own_among : (subs : List Subscription) (k : ℕ) (d : Subscription) → k < length subs → is_among (ids_of subs) (get_or subs k d).id ≡ true
own_among [] k d h = absurd (omega (arith, h))
own_among (s ∷ subs) zero d h = ap (λ b. b || is_among (ids_of subs) s.id) (eq-eqb s.id s.id refl)
own_among (s ∷ subs) (suc k) d h = by (nat_eq (get_or subs k d).id s.id) (own_among subs k d (omega (arith, h)))
  where
    by : (b : Bool) → is_among (ids_of subs) (get_or subs k d).id ≡ true → (b || is_among (ids_of subs) (get_or subs k d).id) ≡ true
    by true later = refl
    by false later = later

pub marked_trimmed : (zs : List Session) (subs : List Subscription) (before after : List (ℕ × Marks)) → ((id : ℕ) → is_among (ids_of subs) id ≡ true → marks_at after id ≡ marks_at before id) →
    AreMarked zs subs before → AreMarked zs subs after
marked_trimmed zs subs before after same are k d h =
    let sub : Subscription = get_or subs k d in kept_by before after sub (session_of zs sub.conn) (same sub.id (own_among subs k d h)) (are k d h)

-- ---- another policy

-- the marks of now are those by the same lists
same_marks : (table : List (ℕ × Marks)) (sub : Subscription) (z : Session) (o : Option User) → IsSomeAnd o (λ (u : User). u.rules.subscribe ≡ z.user.rules.subscribe) → IsMarkedBy table sub (Some z) → AreMarksAgain (marks_at table sub.id) sub o
same_marks table sub z None same is = absurd same
same_marks table sub z (Some u) same is = is ∙ ap (λ lists. cond (nat_le (length lists.deny) 8) (kept (marks_in (is_marked sub.subject sub.queue) lists.deny)) Unmarked) (sym same)

pub still_marked : (table : List (ℕ × Marks)) (doc : PolicyDoc) (sub : Subscription) (o : Option Session) (b : Bool) → Decides b (IsSomeAnd o (HasSameLists doc)) → b ≡ true → IsMarkedBy table sub o →
    AreMarksAgain (marks_at table sub.id) sub (user_after doc o)
still_marked table doc sub None b same holds is = tt
still_marked table doc sub (Some z) b same holds is = same_marks table sub z (user_again_of doc z) (same.0 holds) is

-- a session that stays acts for that user
marked_remaining : (now : ℕ) (doc : PolicyDoc) (zs : List Session) → AllPairs IsApart zs → (table : List (ℕ × Marks)) (sub : Subscription) →
    IsMarkedAgain doc zs table sub → IsMarkedBy table sub (session_of (remaining now doc zs) sub.conn)
marked_remaining now doc zs apart table sub is =
    subst (IsMarkedBy table sub) (sym (session_of-remaining now doc sub.conn zs apart)) (by_session (session_of zs sub.conn) is)
  where
    by_user : (z : Session) (o : Option User) → user_again_of doc z ≡ o → IsMarkedFor table sub o → IsMarkedBy table sub (option_map (renewed now doc) (cond (is_some o) (Some z) None))
    by_user z None e of = tt
    by_user z (Some u) e of = subst (λ (x : Option User). IsMarked table sub.id (with_user now z x).user.rules sub.subject sub.queue) (sym e) of

    by_session : (o : Option Session) → IsMarkedFor table sub (user_after doc o) → IsMarkedBy table sub (option_map (renewed now doc) (passing (stays doc) o))
    by_session None of = tt
    by_session (Some z) of = by_user z (user_again_of doc z) refl of

pub all_remaining : (doc : PolicyDoc) (zs : List Session) (subs : List Subscription) (table : List (ℕ × Marks)) → AllPairs IsApart zs → All (IsMarkedAgain doc zs table) subs →
    (now : ℕ) → AreMarked (remaining now doc zs) subs table
all_remaining doc zs subs table apart are now =
    All-weaker (IsMarkedAgain doc zs table) (λ (sub : Subscription). IsMarkedBy table sub (session_of (remaining now doc zs) sub.conn)) (marked_remaining now doc zs apart table) subs are

-- one more is marked, and the others keep their marks
pub marked_more : (doc : PolicyDoc) (zs : List Session) (before after : List (ℕ × Marks)) (subs : List Subscription) (sub : Subscription) (rest : List Subscription) →
    AllPairs (λ (s t : Subscription). s.id < t.id) (subs ++ sub ∷ rest) → ((id : ℕ) → (sub.id ≡ id → ⊥) → marks_at after id ≡ marks_at before id) → IsMarkedAgain doc zs after sub →
    All (IsMarkedAgain doc zs before) subs → All (IsMarkedAgain doc zs after) (subs ++ sub ∷ [])
marked_more doc zs before after subs sub rest rise same own are =
    All-push (IsMarkedAgain doc zs after) subs sub (λ k d h.
    let s : Subscription = get_or subs k d in
    let low : s.id < sub.id = AllPairs-next (λ (s t : Subscription). s.id < t.id) subs sub rest rise k d h in
    again s (user_after doc (session_of zs s.conn)) (same s.id (λ is. omega (arith, low, is))) (are k d h)) own
  where
    again : (s : Subscription) (o : Option User) → marks_at after s.id ≡ marks_at before s.id → IsMarkedFor before s o → IsMarkedFor after s o
    again s None e is = tt
    again s (Some u) e is = e ∙ is
