-- A verdict of a user has its reason, by whatever name its pattern goes.
use Rattle.std.proofs.Common.{◌≡◌, List, Option, Some, None, subst}
use Rattle.std.specs.Prelude.{IfSome}
use Rattle.subjects.specs.Subject.{Token}
use Rattle.permissions.specs.Verdicts.{subscribe_verdict, IsJustifiedSubscribe, HasSubscribeReason}
use Rattle.permissions.specs.declared.verdict.Verdict.{Verdict}
use Rattle.policy_ready.specs.declared.ready.User.{User}
use Rattle.world_sessions.specs.declared.deliveries.session.Session.{Session}

pub subscribe_reason : (o : Option Session) (z : Session) (p p' : List Token) (q : Option (List Token)) (v : Verdict) → Some z ≡ o → p ≡ p' → v ≡ subscribe_verdict z.user.rules p q →
    IsJustifiedSubscribe p q z.user.rules.subscribe v → IfSome o (λ (z : Session). IsJustifiedSubscribe p' q z.user.rules.subscribe (subscribe_verdict z.user.rules p' q))
subscribe_reason o z p p' q v is same-p which h =
    let P : Option Session → Type 0 = λ o. IfSome o (λ (z : Session). IsJustifiedSubscribe p' q z.user.rules.subscribe (subscribe_verdict z.user.rules p' q)) in
    let Q : List Token → Type 0 = λ t. IsJustifiedSubscribe t q z.user.rules.subscribe (subscribe_verdict z.user.rules t q) in
    let R : Verdict → Type 0 = λ x. IsJustifiedSubscribe p q z.user.rules.subscribe x in
    subst P is (subst Q same-p (subst R which h))

pub any_reason : (p p' : List Token) (q : Option (List Token)) (o : Option User) → p ≡ p' → HasSubscribeReason p →
    IfSome o (λ (u : User). IsJustifiedSubscribe p' q u.rules.subscribe (subscribe_verdict u.rules p' q))
any_reason p p' q None same has = tt
any_reason p p' q (Some u) same has = subst (λ t. IsJustifiedSubscribe t q u.rules.subscribe (subscribe_verdict u.rules t q)) same (has q u.rules.subscribe)
