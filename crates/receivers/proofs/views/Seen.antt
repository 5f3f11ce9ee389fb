-- Views that are known, one by one.
use Rattle.std.proofs.Common.{◌≡◌, ◌++◌, List, [], ◌∷◌, Option, Some, None, ap, subst}
use Rattle.std.specs.Prelude.{IfSome}
use Rattle.std.specs.Global.{Vec}
use Rattle.subjects.specs.Subject.{Token}
use Rattle.policy_ready.specs.declared.imports.rows.ImportRow.{ImportRow}
use Rattle.policy_ready.specs.declared.imports.view.ViewItem.{ViewItem}
use Rattle.policy_ready.specs.declared.imports.view.ViewItem.TheVariants.{At, TooLong}
use Rattle.policy_ready.specs.declared.imports.view.Way.TheVariants.{Own, Stream, Service, Response}
use Rattle.world_sessions.specs.declared.deliveries.session.Session.{Session}
use Rattle.world_rows.specs.declared.subscription.Subscription.{Subscription}
use Rattle.receivers.specs.views.CachedViews.{AreSeen, others_in, KnowsOthers}
use Rattle.receivers.specs.declared.views.cached_view.CachedView.{CachedView}

-- one known view more
pub seen_more : (zs : List Session) (subs : List Subscription) (z : Session) (known : List CachedView) (vs : List ViewItem) (k : CachedView) (v : ViewItem) →
    AreSeen zs subs z known vs → AreSeen zs subs z (k ∷ []) (v ∷ []) → AreSeen zs subs z (known ++ k ∷ []) (vs ++ v ∷ [])
seen_more zs subs z [] [] k v all one = one
seen_more zs subs z [] (u ∷ vs) k v all one = absurd all
seen_more zs subs z (other ∷ known) [] k v all one = absurd all
seen_more zs subs z (other ∷ known) (TooLong row ∷ vs) k v all one = absurd all
seen_more zs subs z (other ∷ known) (At account s Own ∷ vs) k v all one = absurd all
seen_more zs subs z (other ∷ known) (At account s (Service row) ∷ vs) k v all one = absurd all
seen_more zs subs z (other ∷ known) (At account s (Response row) ∷ vs) k v all one = absurd all
seen_more zs subs z (other ∷ known) (At account s (Stream row) ∷ vs) k v all one = (all.0, seen_more zs subs z known vs k v all.1 one)

-- lists that are equal are so behind their first elements
pub tail_of : {v u : ViewItem} {vs us : List ViewItem} → v ∷ vs ≡ u ∷ us → vs ≡ us
tail_of {v} {u} {vs} {us} e = ap (λ (all : List ViewItem). rest all) e
  where
    rest : List ViewItem → List ViewItem
    rest [] = []
    rest (x ∷ xs) = xs

-- views that are known are the others of a publisher's message, where these are its others
pub known_if : (zs : List Session) (subs : List Subscription) (z : Session) (rows : List ImportRow) (s : List Token) (o : Option (Vec CachedView)) (vs : List ViewItem) →
    vs ≡ others_in rows z.user.account s → IfSome o (λ (known : Vec CachedView). AreSeen zs subs z known.items vs) → KnowsOthers o rows zs subs z s
known_if zs subs z rows s None vs same is = tt
known_if zs subs z rows s (Some known) vs same is = subst (λ (us : List ViewItem). AreSeen zs subs z known.items us) same is
