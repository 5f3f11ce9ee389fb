-- The verdicts of the policy in force on a user's questions are those of the user's lists.
use Rattle.std.proofs.Common.{◌≡◌, ◌∙◌, ◌==◌, ◌∷◌, [], ℕ, List, Bool, true, false, not, ◌&&◌, cond, Some, ap, sym, refl, subst}
use Rattle.std.specs.Prelude.{find, All}
use Rattle.std.proofs.Math.Bool.{and-false}
use Rattle.std.proofs.lemmas.List.Elements.{All-head, All-tail}
use Rattle.world_sessions.specs.deliveries.Sessions.{session_of}
use Rattle.world_sessions.specs.declared.deliveries.session.Session.{Session}
use Rattle.subjects.proofs.Text.{again}
use Rattle.permissions.specs.Verdicts.{publish_verdict, is_allowed}
use Rattle.permissions.specs.declared.verdict.By.TheVariants.{Grant}
use Rattle.permissions.specs.declared.verdict.Verdict.{Verdict}
use Rattle.permissions.specs.declared.verdict.Verdict.TheVariants.{Allowed}
use Rattle.policy_doc.specs.declared.document.PolicyDoc.{PolicyDoc}
use Rattle.policy_ready.specs.Users.{user_named}
use Rattle.policy_ready.specs.declared.ready.User.{User}
use Rattle.permissions.specs.verdict_cache.Verdicts.{Judges, publish_question}
use Rattle.world_routing.specs.Granting.{or_granted}
use Rattle.world_routing.specs.Remembered.{by_user, judged_by, AreOfPolicy}

pub judges : (doc : PolicyDoc) (u : User) → user_named doc u.user ≡ Some u → Judges (judged_by doc) u.user u.rules
judges doc u named = record {
  publish = λ s is. ap (λ o. by_user o (publish_question u.user s)) named ∙ ap (publish_verdict u.rules) (again s is);
}

-- a verdict that lists refuse, or allow, and what a grant makes of it
pub granted_is : (granted : Bool) (v x : Verdict) → x ≡ v → is_allowed x ≡ false → granted ≡ true → Allowed Grant ≡ or_granted granted v
granted_is granted v x same refused is = let d : is_allowed v ≡ false = ap is_allowed (sym same) ∙ refused in rw (d, is) refl

pub denied_is : (granted : Bool) (v x : Verdict) → x ≡ v → granted ≡ false → x ≡ or_granted granted v
denied_is granted v x same isnt = let d : not (is_allowed v) && granted ≡ false = ap (λ b. not (is_allowed v) && b) isnt ∙ and-false (not (is_allowed v)) in rw (d) same

pub allowed_is : (granted : Bool) (v x : Verdict) → x ≡ v → is_allowed x ≡ true → x ≡ or_granted granted v
allowed_is granted v x same is = let d : is_allowed v ≡ true = ap is_allowed (sym same) ∙ is in rw (d) same

pub find-All : {X : Type 0} (P : X → Type 0) (t : X → Bool) (xs : List X) (y : X) → All P xs → find t xs ≡ Some y → P y
find-All P t [] y all e = absurd (cc)
find-All {X} P t (x ∷ xs) y all e = here (t x) e (find-All P t xs y (All-tail P x xs all))
  where
    here : (b : Bool) → cond b (Some x) (find t xs) ≡ Some y → (find t xs ≡ Some y → P y) → P y
    here true e' later = let same : x ≡ y = cc in subst P same (All-head P x xs all)
    here false e' later = later e'

-- so the user of a connection's session is whom the policy has under its name
pub named : (doc : PolicyDoc) (zs : List Session) (conn : ℕ) (z : Session) → AreOfPolicy doc zs → session_of zs conn ≡ Some z → user_named doc z.user.user ≡ Some z.user
named doc zs conn z all is = find-All (λ (y : Session). user_named doc y.user.user ≡ Some y.user) (λ y. y.conn == conn) zs z all is
