-- Views that are known say whom a message is for behind all deliveries of the views before them.
use Rattle.std.proofs.Common.{◌≡◌, ◌∙◌, ◌&&◌, ◌||◌, ◌++◌, ℕ, Bool, true, false, cond, not, List, [], ◌∷◌, Option, Some, None, map, ap, sym, refl}
use Rattle.std.specs.Prelude.{is_some}
use Rattle.std.specs.List.{list_any}
use Rattle.subjects.specs.Subject.{Token}
use Rattle.events.specs.Messages.{Message}
use Rattle.events.specs.declared.answer.Addressed.{Addressed}
use Rattle.world_sessions.specs.deliveries.Sessions.{session_of}
use Rattle.world_sessions.specs.deliveries.Delivered.{room_in}
use Rattle.world_sessions.specs.declared.deliveries.session.Session.{Session}
use Rattle.world_subscriptions.specs.groups.Served.{served}
use Rattle.world_subscriptions.specs.Addressing.{addressed_to}
use Rattle.world_subscriptions.specs.Subscriptions.{has_subject}
use Rattle.world_rows.specs.declared.subscription.Subscription.{Subscription}
use Rattle.receivers.specs.views.Open.{is_open, open_among}
use Rattle.receivers.specs.views.Receivers.{addressed_at}
use Rattle.world_views.specs.addressing.Standing.{times_entering, stands_behind, standing_among, addressed_behind_in}
use Rattle.receivers.specs.views.CachedViews.{under_subject, picked, has_limit, IsSeen, addressed_in}
use Rattle.receivers.specs.declared.views.cached_view.CachedView.{CachedView}
use Rattle.world_views.proofs.addressing.Left.{never_ends}
use Rattle.receivers.proofs.cache.Told.{addressed_each}

module _ (zs : List Session) (before : List Addressed) (z : Session) (account : List ℕ) (s : List Token) where
  no_most : (o : Option ℕ) → is_some o ≡ false → o ≡ None
  no_most None e = refl
  no_most (Some n) e = absurd (cc)

  or_left : (b c : Bool) → (b || c) ≡ false → b ≡ false
  or_left true c e = e
  or_left false c e = refl

  or_right : (b c : Bool) → (b || c) ≡ false → c ≡ false
  or_right true c e = absurd (cc)
  or_right false c e = e

  stands : (x : Subscription) → has_limit x ≡ false → stands_behind zs before x ≡ true
  stands x none = ap not (never_ends (times_entering x.conn x.id (room_in (session_of zs x.conn)) before) x (no_most x.most none))

  -- where none of those that may be sent the message has a limit, all of them still stand
  standing_open : (subs : List Subscription) → list_any has_limit (open_among zs subs z account s) ≡ false → standing_among zs subs before z account s ≡ open_among zs subs z account s
  standing_open [] none = refl
  standing_open (x ∷ xs) none = here (has_subject account s x) (is_open zs z s x) (standing_open xs) none
    where
      rest : List Subscription
      rest = standing_among zs xs before z account s

      all : List Subscription
      all = open_among zs xs z account s

      here : (b c : Bool) → (list_any has_limit all ≡ false → rest ≡ all) → list_any has_limit (cond (b && c) (x ∷ all) all) ≡ false →
          cond (b && (c && stands_behind zs before x)) (x ∷ rest) rest ≡ cond (b && c) (x ∷ all) all
      here true true later none =
          ap (λ d. cond d (x ∷ rest) rest) (stands x (or_left (has_limit x) (list_any has_limit all) none))
          ∙ ap (λ (more : List Subscription). x ∷ more) (later (or_right (has_limit x) (list_any has_limit all) none))
      here true false later none = later none
      here false c later none = later none

  -- so a known view says what the deliveries in it are
  pub view_told : (subs : List Subscription) (known : CachedView) (m : Message) (word : ℕ) → IsSeen zs subs z known account s →
      addressed_in m word before known ≡ before ++ addressed_behind_in zs subs before z (under_subject s m) word account
  view_told subs known m word is =
      ap (λ (x : Message). before ++ map (addressed_at x) (picked word known.whom)) (is.names m)
      ∙ ap (λ (rs : List _). before ++ map (addressed_at (under_subject s m)) rs) (sym (is.whom is.says word))
      ∙ ap (λ (ds : List Addressed). before ++ ds) (addressed_each (under_subject s m) (served word (open_among zs subs z account s)))
      ∙ ap (λ (ss : List Subscription). before ++ map (addressed_to (under_subject s m)) (served word ss)) (sym (standing_open subs is.unlimited))
