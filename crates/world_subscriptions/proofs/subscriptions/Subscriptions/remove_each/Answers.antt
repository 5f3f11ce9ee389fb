-- one more is taken out; where none is left, nothing is to be taken out
use Rattle.std.proofs.Common.{◌∙◌, ◌+◌, ap, sym, List, ℕ, drop, get_or}
use Rattle.std.proofs.lemmas.List.{drop_more, drop_all}
use Rattle.world_rows.specs.declared.subscription.Subscription.{Subscription}
use Rattle.world_subscriptions.proofs.BySid.{one_out, none_out, without}
use Rattle.world_subscriptions.proofs.subscriptions.Subscriptions.remove_each.Goals as goal

pub loop-id-preserved : goal.loop-id-preserved
loop-id-preserved c =
    let ids = c.args.ids.now in
    let i = c.loop-id.id-index in
    ap (λ (ss : List Subscription). without (drop (i + 1) ids) ss) c.remove_one.ensures
    ∙ one_out (get_or ids i 0) (drop (i + 1) ids) c.loop-id.self
    ∙ ap (λ (is : List ℕ). without is c.loop-id.self) (sym (drop_more ids i 0 c.loop-id-test.true))
    ∙ c.loop-id.invariant

pub returns : goal.returns
returns c =
    sym (none_out c.loop-id.self)
    ∙ ap (λ (is : List ℕ). without is c.loop-id.self) (sym (drop_all c.loop-id.id-index c.args.ids.now c.loop-id-test.false))
    ∙ c.loop-id.invariant
