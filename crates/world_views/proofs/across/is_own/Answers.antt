-- subjects are compared by their tokens
use Rattle.std.proofs.Common.{◌≡◌, ◌∙◌, ◌&&◌, Bool, true, false, List, ap, sym, refl}
use Rattle.std.specs.Str.{bytes_eq}
use Rattle.std.specs.Cmp.Lexicographic.{bytes_decides, pointwise_decides}
use Rattle.subjects.specs.Subject.{Token}
use Rattle.subjects.specs.Equal.{same_subject}
use Rattle.world_views.proofs.across.is_own.Goals as goal

-- two tests of one thing are equal
one_test : {P : Type 0} (b c : Bool) → (b ≡ true → P) → (P → b ≡ true) → (c ≡ true → P) → (P → c ≡ true) → b ≡ c
one_test true true from to from2 to2 = refl
one_test true false from to from2 to2 = sym (to2 (from refl))
one_test false true from to from2 to2 = to (from2 refl)
one_test false false from to from2 to2 = refl

pub returns-then-eq : goal.returns-then-eq
returns-then-eq c =
    let s : List Token = c.args.subject.now in
    let t : List Token = c.args.route.now.reply in
    let same : bytes_eq c.args.account.now c.args.route.now.row.importer ≡ true =
    sym (c.eq.ensures ∙ ap (λ importer. bytes_eq c.args.account.now importer) c.requester.ensures) ∙ c.if-eq.true in
    let like = c.is_like.ensures in
    let to : c.lend.result ≡ t = c.lend.ensures ∙ c.reply.ensures in
    one_test c.is_like.result (same_subject s t) (λ is. like.0 is ∙ to) (λ is. like.1 (is ∙ sym to))
    (pointwise_decides bytes_decides s t).0 (pointwise_decides bytes_decides s t).1
    ∙ ap (λ b. b && same_subject s t) (sym same)
