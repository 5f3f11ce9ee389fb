-- one view more, and in the end all
use Rattle.std.proofs.Common.{◌≡◌, ◌+◌, ◌∙◌, ◌++◌, ◌∷◌, [], List, take, ap, sym, subst, refl, arith}
use Rattle.std.specs.List.{sum_by}
use Rattle.std.proofs.lemmas.List.{take_all, take_more}
use Rattle.std.proofs.lemmas.List.Sums.{sum_by_push}
use Rattle.receivers.specs.cache.Small.{count_with}
use Rattle.receivers.specs.declared.views.cached_view.CachedView.{CachedView}
use Rattle.receivers.proofs.cache.cached.left_behind.Goals as goal

nothing : sum_by count_with [] ≡ 0
nothing = refl

pub loop-view-init : goal.loop-view-init
loop-view-init c = omega (arith, nothing)

pub loop-view-preserved : goal.loop-view-preserved
loop-view-preserved c =
    let views : List CachedView = c.args.views.now in
    let i = c.loop-view.view-index in
    let k : CachedView = c.view-item.result in
    let more : take (i + 1) views ≡ take i views ++ k ∷ [] = take_more views i k c.loop-view-test.true ∙ ap (λ (u : CachedView). take i views ++ u ∷ []) (sym c.view-item.is) in
    let counted : sum_by count_with (take (i + 1) views) ≡ sum_by count_with (take i views) + count_with k = ap (sum_by count_with) more ∙ sum_by_push count_with (take i views) k in
    let first = c.in_ok-checked_sub.ensures in
    let second = c.in_ok-left.ensures in
    omega (arith, counted, first.0, first.1, second.0, second.1, c.len.ensures, c.loop-view.invariant)

pub returns : goal.returns
returns c = subst (λ (views : List CachedView). c.loop-view.left + sum_by count_with views ≡ c.args.most) (take_all _ _ c.loop-view-test.false) c.loop-view.invariant
