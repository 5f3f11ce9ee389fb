-- What is cached of draws, one by one.
use Rattle.std.proofs.Common.{◌≡◌, ◌∙◌, ◌⊎◌, ◌++◌, ◌∷◌, ℕ, zero, suc, false, List, [], Option, Some, None, set, ap, sym, refl, subst, inl, inr}
use Rattle.std.specs.Global.{Vec}
use Rattle.std.specs.Option.{unwrap_or}
use Rattle.subjects.specs.Subject.{Token}
use Rattle.account_mappings.specs.Drawing.{SourceMap, chosen, draw_of, drawn_by, mapped_by, mapped_from, source_of, weights_of}
use Rattle.policy_ready.specs.imports.Views.{is_route}
use Rattle.policy_ready.specs.declared.imports.rows.ImportRow.{ImportRow}
use Rattle.events.specs.Messages.{Message}
use Rattle.world_sessions.specs.declared.deliveries.session.Session.{Session}
use Rattle.world_rows.specs.declared.subscription.Subscription.{Subscription}
use Rattle.receivers.specs.views.CachedViews.{IsSeen, AreSeen, others_in}
use Rattle.receivers.specs.cache.Drawn.{IsCached, IsSent}
use Rattle.receivers.specs.declared.cache.drawn.Drawn.{Drawn}
use Rattle.receivers.specs.declared.views.cached_view.CachedView.{CachedView}

-- where a message is sent on goes by the draw of its word alone
pub same_draw : (maps : List SourceMap) (subject : List Token) (word other : ℕ) → draw_of word ≡ draw_of other → mapped_by maps subject word ≡ mapped_by maps subject other
same_draw maps subject word other same = here (source_of maps subject)
  where
    here : (o : Option SourceMap) → mapped_from o subject word ≡ mapped_from o subject other
    here None = refl
    here (Some m) = ap (λ draw. drawn_by m subject (chosen draw (weights_of m.shares))) same

-- a place more says nothing
pub cached_before : (all : List (Option Drawn)) (draw : ℕ) (drawn : Drawn) → IsCached (all ++ None ∷ []) draw drawn → IsCached all draw drawn
cached_before [] zero drawn is = absurd (cc)
cached_before [] (suc draw) drawn is = is
cached_before (o ∷ all) zero drawn is = is
cached_before (o ∷ all) (suc draw) drawn is = cached_before all draw drawn is

-- what is cached beside one draw was cached before
pub cached_beside : (all : List (Option Drawn)) (draw other : ℕ) (drawn known : Drawn) → IsCached (set all draw (Some drawn)) other known → IsCached all other known ⊎ ((other ≡ draw) × (known ≡ drawn))
cached_beside [] draw other drawn known is = inl is
cached_beside (o ∷ all) zero zero drawn known is = inr (refl, ap (λ (x : Option (Option Drawn)). unwrap_or (unwrap_or x None) known) (sym is))
cached_beside (o ∷ all) zero (suc other) drawn known is = inl is
cached_beside (o ∷ all) (suc draw) zero drawn known is = inl is
cached_beside (o ∷ all) (suc draw) (suc other) drawn known is = behind (cached_beside all draw other drawn known is)
  where
    behind : IsCached all other known ⊎ ((other ≡ draw) × (known ≡ drawn)) → IsCached (o ∷ all) (suc other) known ⊎ ((suc other ≡ suc draw) × (known ≡ drawn))
    behind (inl cached) = inl cached
    behind (inr (at, same)) = inr (ap suc at, same)

-- what is known of the publisher's account and of the views behind it under a subject says what messages are sent as under it
pub sent_under : (rows : List ImportRow) (zs : List Session) (subs : List Subscription) (z : Session) (own : CachedView) (others : Vec CachedView) (s : List Token) → is_route s ≡ false →
    IsSeen zs subs z own z.user.account s → AreSeen zs subs z others.items (others_in rows z.user.account s) →
    IsSent rows zs subs z (record { own = own; others = others }) × (own.names.subject ≡ s)
sent_under rows zs subs z own others s unrouted seen known =
    let same : own.names.subject ≡ s = ap (λ (m : Message). m.subject) (seen.names (record { subject = s; reply = None; head = []; payload = [] })) in (
      record {
        unrouted = ap is_route same ∙ unrouted;
        own = subst (λ (t : List Token). IsSeen zs subs z own z.user.account t) (sym same) seen;
        others = subst (λ (t : List Token). AreSeen zs subs z others.items (others_in rows z.user.account t)) (sym same) known;
      },
      same,
    )
