-- What the guarantee tells of a verdict is a user's of the policy in force after the step.
use Rattle.std.proofs.Common.{◌≡◌, ◌∙◌, ◌&&◌, not, is_some, max, ℕ, Bool, true, false, cond, List, [], ◌∷◌, Option, Some, None, find, ap, sym, refl, subst, rules, arith}
use Rattle.std.specs.Prelude.{nat_eq, IsSomeAnd}
use Rattle.std.proofs.lemmas.Bool.Decides.{nat_tests}
use Rattle.std.specs.List.{list_any}
use Rattle.std.specs.Cmp.Lexicographic.{pointwise}
use Rattle.subjects.specs.Subject.{Token}
use Rattle.policy_doc.specs.declared.document.PolicyDoc.{PolicyDoc}
use Rattle.policy_doc.specs.declared.permission_doc.document.Terms.{Terms}
use Rattle.permissions.specs.Verdicts.{publish_verdict, subscribe_verdict, is_allowed}
use Rattle.permissions.specs.declared.verdict.By.{By}
use Rattle.permissions.specs.declared.verdict.By.TheVariants.{All as AllowsAll, Index, Grant as ByGrant}
use Rattle.permissions.specs.declared.verdict.Verdict.{Verdict}
use Rattle.permissions.specs.declared.verdict.Verdict.TheVariants.{Allowed, DeniedBy, NoAllow, NoQueueAllow}
use Rattle.policy_ready.specs.Users.{users_of}
use Rattle.policy_ready.specs.declared.ready.User.{User}
use Rattle.reply_grants.specs.Grants.{Grant}
use Rattle.events.specs.Messages.{Message}
use Rattle.events.specs.declared.event.Event.{Event}
use Rattle.events.specs.declared.event.Command.{Command}
use Rattle.events.specs.declared.event.Command.TheVariants.{Connect, Sub, Unsub, Pub, Take, Close, Reload}
use Rattle.events.specs.declared.answer.Outcome.{Outcome}
use Rattle.events.specs.declared.answer.Outcome.TheVariants.{Connected, AuthViolation, Subscribed, SameSid, SubLimit, Denied, Unsubscribed, Published, Taken, Closed, Reloaded}
use Rattle.events.specs.declared.answer.Entry.{Entry}
use Rattle.world_sessions.specs.deliveries.Sessions.{session_of}
use Rattle.world_sessions.specs.declared.deliveries.session.Session.{Session}
use Rattle.world.specs.World.{World}
use Rattle.hub.specs.Sound.{user_behind, user_at, may_subscribe}
use Rattle.hub.specs.History.{State}
use Rattle.hub.specs.InForce.{policy_after}
use Rattle.hub.specs.Replies.{terms_in, grants_at, has_grant}
use Rattle.hub.specs.Guarantee.{IsAllowance, IsRouted, IsEffect, HasReason, accepts, allows}
use Rattle.shared_waits.specs.receipts.Receipts.{same_by, same_verdict, has_verdict, may_respond, may_have, some_allows, is_of_policy}

-- a verdict is the same as itself
same_by-refl : (b : By) → same_by b b ≡ true
same_by-refl AllowsAll = refl
same_by-refl (Index i) = grind (arith, nat_tests)
same_by-refl ByGrant = refl

same-refl : (v : Verdict) → same_verdict v v ≡ true
same-refl (Allowed by) = same_by-refl by
same-refl (DeniedBy i) = grind (arith, nat_tests)
same-refl NoAllow = refl
same-refl (NoQueueAllow i) = grind (arith, nat_tests)

-- who is found is one of the list
found-any : (named test : User → Bool) (us : List User) (u : User) → find named us ≡ Some u → test u ≡ true → list_any test us ≡ true
found-any named test [] u found passes = absurd (cc)
found-any named test (x ∷ us) u found passes = here (named x) found (found-any named test us u)
  where
    here : (b : Bool) → cond b (Some x) (find named us) ≡ Some u → (find named us ≡ Some u → test u ≡ true → list_any test us ≡ true) → list_any test (x ∷ us) ≡ true
    here true e later = search rules
    here false e later = search rules

-- the user behind a connection is one of the policy's
behind-any : (doc : PolicyDoc) (test : User → Bool) (z : Option Session) (u : User) → user_behind doc z ≡ Some u → test u ≡ true → list_any test (users_of doc) ≡ true
behind-any doc test None u e passes = absurd (cc)
behind-any doc test (Some z) u e passes = found-any (λ (v : User). pointwise nat_eq v.user z.user.user) test (users_of doc) u e passes

-- the same of a fact that the user has
some-any : (doc : PolicyDoc) (z : Option Session) (test : User → Bool) (P : User → Type 0) (o : Option User) → user_behind doc z ≡ o → IsSomeAnd o P → ((u : User) → P u → test u ≡ true) → list_any test (users_of doc) ≡ true
some-any doc z test P None e h passes = absurd h
some-any doc z test P (Some u) e h passes = behind-any doc test z u e (passes u h)

may-any : (doc : PolicyDoc) (z : Option Session) (conn : ℕ) (p : List Token) (queue : Option (List Token)) (sid : List ℕ) (o : Option User) → user_behind doc z ≡ o → may_subscribe o p queue ≡ true → list_any (may_have (Sub conn p queue sid)) (users_of doc) ≡ true
may-any doc z conn p queue sid None e may = absurd (cc)
may-any doc z conn p queue sid (Some u) e may = behind-any doc (may_have (Sub conn p queue sid)) z u e may

-- a verdict that is the user's
told-verdict : (v d : Verdict) → d ≡ v → same_verdict v d ≡ true
told-verdict v d e = subst (λ (x : Verdict). same_verdict v x ≡ true) (sym e) (same-refl v)

-- who may answer has terms
has_terms : (now : ℕ) (s : List Token) (terms : Option Terms) (gs : List Grant) → has_grant now s terms gs ≡ true → is_some terms ≡ true
has_terms now s None gs h = absurd (cc)
has_terms now s (Some terms) gs h = refl

answer-any : (w : World) (now conn : ℕ) (m : Message) (word : ℕ) (o : Option User) → user_at w conn ≡ o → IsSomeAnd o (λ (u : User). IsAllowance w now conn m.subject u ByGrant) →
    list_any (may_respond (Pub conn m word)) (users_of w.policy) ≡ true
answer-any w now conn m word None e h = absurd h
answer-any w now conn m word (Some u) e h =
    let gs = grants_at (session_of w.sessions conn) in
    let terms : is_some u.rules.allow_responses ≡ true =
    has_terms now m.subject u.rules.allow_responses gs (sym (ap (λ (x : Option User). has_grant now m.subject (terms_in x) gs) e) ∙ h.2) in
    behind-any w.policy (may_respond (Pub conn m word)) (session_of w.sessions conn) u e (ap (λ b. b && not (is_allowed (publish_verdict u.rules m.subject))) terms ∙ ap not h.0)

told-by : (w : World) (now conn : ℕ) (m : Message) (word : ℕ) (by : By) → IsSomeAnd (user_at w conn) (λ (u : User). IsAllowance w now conn m.subject u by) → some_allows w.policy (Pub conn m word) by ≡ true
told-by w now conn m word AllowsAll h =
    some-any w.policy (session_of w.sessions conn) (has_verdict (Pub conn m word) (Allowed AllowsAll)) _ (user_at w conn) refl h (λ u is. told-verdict (publish_verdict u.rules m.subject) (Allowed AllowsAll) (sym is.0))
told-by w now conn m word (Index i) h =
    some-any w.policy (session_of w.sessions conn) (has_verdict (Pub conn m word) (Allowed (Index i))) _ (user_at w conn) refl h (λ u is. told-verdict (publish_verdict u.rules m.subject) (Allowed (Index i)) (sym is.0))
told-by w now conn m word ByGrant h = answer-any w now conn m word (user_at w conn) refl h

told : (w : World) (now : ℕ) (c : Command) (o : Outcome) (after : World) → accepts o ≡ allows w now c → HasReason w now c o → IsEffect w now c o after → is_of_policy (policy_after w c) c o ≡ true
told w now c Connected after may reason effect = refl
told w now c AuthViolation after may reason effect = refl
told w now c SameSid after may reason effect = refl
told w now c SubLimit after may reason effect = refl
told w now c (Taken deliveries missed) after may reason effect = refl
told w now c Unsubscribed after may reason effect = refl
told w now c Closed after may reason effect = refl
told w now c (Reloaded gone removed) after may reason effect = refl
told w now (Connect conn name password echo) Subscribed after may reason effect = absurd effect
told w now (Sub conn p queue sid) Subscribed after may reason effect = may-any w.policy (session_of w.sessions conn) conn p queue sid (user_at w conn) refl (sym may)
told w now (Unsub conn sid most) Subscribed after may reason effect = absurd effect
told w now (Pub conn m word) Subscribed after may reason effect = absurd effect
told w now (Take conn most) Subscribed after may reason effect = absurd effect
told w now (Close conn) Subscribed after may reason effect = absurd effect
told w now (Reload doc) Subscribed after may reason effect = absurd effect
told w now (Connect conn name password echo) (Denied v) after may reason effect = absurd effect
told w now (Sub conn p queue sid) (Denied v) after may reason effect =
    some-any w.policy (session_of w.sessions conn) (has_verdict (Sub conn p queue sid) v) _ (user_at w conn) refl reason (λ u h. told-verdict (subscribe_verdict u.rules p queue) v h.0)
told w now (Unsub conn sid most) (Denied v) after may reason effect = absurd effect
told w now (Pub conn m word) (Denied v) after may reason effect =
    some-any w.policy (session_of w.sessions conn) (has_verdict (Pub conn m word) v) _ (user_at w conn) refl reason (λ u h. told-verdict (publish_verdict u.rules m.subject) v h.0)
told w now (Take conn most) (Denied v) after may reason effect = absurd effect
told w now (Close conn) (Denied v) after may reason effect = absurd effect
told w now (Reload doc) (Denied v) after may reason effect = absurd effect
told w now (Connect conn name password echo) (Published by items) after may reason effect = absurd effect
told w now (Sub conn p queue sid) (Published by items) after may reason effect = absurd effect
told w now (Unsub conn sid most) (Published by items) after may reason effect = absurd effect
told w now (Pub conn m word) (Published by items) after may reason effect =
    told-by w now conn m word by reason
told w now (Take conn most) (Published by items) after may reason effect = absurd effect
told w now (Close conn) (Published by items) after may reason effect = absurd effect
told w now (Reload doc) (Published by items) after may reason effect = absurd effect

-- what a step answers is of the policy that is in force after it
pub genuine : (s : State) (e : Event) (a : Entry) (after : State) → IsRouted s e a after → is_of_policy (policy_after s.world e.what) a.event.what a.outcome ≡ true
genuine s e a after is =
    subst (λ (x : Event). is_of_policy (policy_after s.world e.what) x.what a.outcome ≡ true) (sym is.event) (told s.world (max s.world.moment e.now) e.what a.outcome after.world is.accepted is.reason is.effect)

-- and that policy stands in the tables
pub in_force : (s : State) (e : Event) (a : Entry) (after : State) → IsRouted s e a after → after.world.policy ≡ policy_after s.world e.what
in_force s e a after is = ap (λ (w : World). w.policy) is.others
