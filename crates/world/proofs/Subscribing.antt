-- A subscription that is asked for.
use Rattle.std.proofs.Common.{◌≡◌, ◌∙◌, ◌+◌, ◌∷◌, ◌++◌, ℕ, true, false, cond, List, [], Option, Some, Result, Ok, ap, sym, subst}
use Rattle.subjects.specs.Subject.{Token}
use Rattle.permissions.specs.Verdicts.{subscribe_verdict}
use Rattle.permissions.specs.declared.verdict.By.{By}
use Rattle.permissions.specs.declared.verdict.Verdict.{Verdict}
use Rattle.permissions.specs.declared.verdict.Verdict.TheVariants.{Allowed}
use Rattle.policy_ready.specs.declared.ready.User.{User}
use Rattle.events.specs.declared.answer.Outcome.{Outcome}
use Rattle.events.specs.declared.answer.Outcome.TheVariants.{Subscribed, SameSid, SubLimit}
use Rattle.events.specs.declared.refusal.HubRefusal.{HubRefusal}
use Rattle.world_sessions.specs.declared.deliveries.session.Session.{Session}
use Rattle.world_subscriptions.specs.Subscriptions.{stands, has_all, subscription_of}
use Rattle.world_rows.specs.declared.subscription.Subscription.{Subscription}
use Rattle.world_routing.specs.World.{World}
use Rattle.world.specs.Reload.{verdict_for}
use Rattle.world.specs.Transition.{in_session, subscribed}
use Rattle.world.specs.Changes.{done, IsFit, IsDecided}
use Rattle.world.specs.declared.change.Change.{Change}
use Rattle.world.specs.declared.change.Decided.{Decided}

-- what is decided, by its parts
pub decided_by : (w : World) (t : Result (Outcome × World) HubRefusal) (d : Decided) (o : Outcome) (change : Change) → d.outcome ≡ o → d.change ≡ change → t ≡ Ok (o, done w change o) → IsFit w change o → IsDecided w t (Ok d)
decided_by w t d o change eo ec is fit =
    let P : Outcome → Type 0 = λ x. (t ≡ Ok (x, done w change x)) × IsFit w change x in
    let Q : Change → Type 0 = λ x. (t ≡ Ok (d.outcome, done w x d.outcome)) × IsFit w x d.outcome in
    subst Q (sym ec) (subst P (sym eo) (is, fit))

-- the session that is found, and its user's verdict
pub asked : (w : World) (conn : ℕ) (o : Option Session) (z : Session) (p p' : List Token) (queue : Option (List Token)) (sid : List ℕ) (v : Verdict) →
    Some z ≡ o → p ≡ p' → v ≡ subscribe_verdict z.user.rules p queue →
    in_session o (λ z. subscribed w conn z.user.account p' queue sid (subscribe_verdict z.user.rules p' queue)) ≡ Ok (subscribed w conn z.user.account p' queue sid v)
asked w conn o z p p' queue sid v is same which =
    ap (λ (x : Option Session). in_session x (λ z. subscribed w conn z.user.account p' queue sid (subscribe_verdict z.user.rules p' queue))) (sym is)
    ∙ ap (λ (x : Verdict). Ok (subscribed w conn z.user.account p' queue sid x)) (sym (which ∙ ap (λ (t : List Token). subscribe_verdict z.user.rules t queue) same))

module _ (w : World) (conn : ℕ) (account : List ℕ) (p : List Token) (queue : Option (List Token)) (sid : List ℕ) (by : By) where
  abbrev added : World
  added = record w { subscriptions = w.subscriptions ++ subscription_of (w.number + 1) conn account p queue sid ∷ [] }

  pub same_sid : stands w.subscriptions conn sid ≡ true → subscribed w conn account p queue sid (Allowed by) ≡ (SameSid, w)
  same_sid is = ap (λ b. cond b (SameSid, w) (cond (has_all w.subscriptions conn) (SubLimit, w) (Subscribed, added))) is

  pub sub_limit : stands w.subscriptions conn sid ≡ false → has_all w.subscriptions conn ≡ true → subscribed w conn account p queue sid (Allowed by) ≡ (SubLimit, w)
  sub_limit free is =
      ap (λ b. cond b (SameSid, w) (cond (has_all w.subscriptions conn) (SubLimit, w) (Subscribed, added))) free
      ∙ ap (λ b. cond b (SubLimit, w) (Subscribed, added)) is

  pub stood : stands w.subscriptions conn sid ≡ false → has_all w.subscriptions conn ≡ false → subscribed w conn account p queue sid (Allowed by) ≡ (Subscribed, added)
  stood free room =
      ap (λ b. cond b (SameSid, w) (cond (has_all w.subscriptions conn) (SubLimit, w) (Subscribed, added))) free
      ∙ ap (λ b. cond b (SubLimit, w) (Subscribed, added)) room

-- the verdict on a standing subscription
pub verdict_is : (o : Option User) (u : User) (sub : Subscription) (p : List Token) (v : Verdict) → Some u ≡ o → p ≡ sub.subject → v ≡ subscribe_verdict u.rules p sub.queue → Some v ≡ verdict_for o sub
verdict_is o u sub p v is same which =
    ap (λ (x : Verdict). Some x) (which ∙ ap (λ (t : List Token). subscribe_verdict u.rules t sub.queue) same) ∙ ap (λ (x : Option User). verdict_for x sub) is
