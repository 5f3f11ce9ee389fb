-- one view more is known, and in the end all are
use Rattle.std.proofs.Common.{◌≡◌, ◌+◌, ◌∙◌, ◌++◌, ◌∷◌, [], List, Option, take, ap, sym, subst}
use Rattle.std.specs.Prelude.{IfSome}
use Rattle.std.proofs.lemmas.List.{take_all, take_more}
use Rattle.policy_ready.specs.declared.imports.view.ViewItem.{ViewItem}
use Rattle.receivers.specs.views.CachedViews.{AreSeen}
use Rattle.receivers.specs.declared.views.cached_view.CachedView.{CachedView}
use Rattle.receivers.proofs.views.Seen.{seen_more}
use Rattle.receivers.proofs.views.cached_view.cached_views.Goals as goal

pub loop-view-preserved : goal.loop-view-preserved
loop-view-preserved c =
    let zs = c.args.search.sessions.now in
    let subs = c.args.search.subscriptions.now in
    let z = c.args.search.publisher.now in
    let views : List ViewItem = c.args.views.now in
    let i = c.loop-view.view-index in
    let all : List CachedView = c.loop-view.all.items in
    let k : CachedView = c.in-Some.known in
    let v : ViewItem = c.view-item.result in
    let more : take (i + 1) views ≡ take i views ++ v ∷ [] = take_more views i v c.loop-view-test.true ∙ ap (λ (u : ViewItem). take i views ++ u ∷ []) (sym c.view-item.is) in
    subst (λ (vs : List ViewItem). AreSeen zs subs z c.push.new.self.items vs) (sym more)
    (subst (λ (ks : List CachedView). AreSeen zs subs z ks (take i views ++ v ∷ [])) (sym c.in_ok-push-in-Some.ensures.items)
    (seen_more zs subs z all (take i views) k v c.loop-view.invariant
    (subst (λ (o : Option CachedView). IfSome o (λ known. AreSeen zs subs z (known ∷ []) (v ∷ []))) c.in-Some.is c.in_ok-cached_view.ensures)))

pub returns : goal.returns
returns c =
    subst (λ (vs : List ViewItem). AreSeen c.args.search.sessions.now c.args.search.subscriptions.now c.args.search.publisher.now c.loop-view.all.items vs) (take_all _ _ c.loop-view-test.false) c.loop-view.invariant
