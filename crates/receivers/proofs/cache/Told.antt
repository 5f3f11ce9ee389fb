-- What is cached tells whom a message is for.
use Rattle.std.proofs.Common.{◌≡◌, ◌∙◌, ◌⊎◌, ℕ, Bool, true, false, List, [], ◌∷◌, Option, Some, None, map, ap, sym, refl, subst, inl, inr}
use Rattle.std.specs.Prelude.{Result, Ok, Err, IfErr, IfOk, IfSome}
use Rattle.base.specs.declared.no_memory.NoMemory.{NoMemory}
use Rattle.std.proofs.lemmas.Option.{none-some}
use Rattle.std.specs.Global.{Vec}
use Rattle.subjects.specs.Subject.{Token, tokens_of}
use Rattle.policy_ready.specs.declared.imports.rows.ImportRow.{ImportRow}
use Rattle.policy_ready.specs.declared.imports.view.ViewItem.{ViewItem}
use Rattle.account_mappings.specs.Drawing.{draw_of, mapped_by}
use Rattle.permissions.specs.declared.verdict.By.{By}
use Rattle.events.specs.Messages.{Message}
use Rattle.events.specs.declared.answer.Addressed.{Addressed}
use Rattle.world_subscriptions.specs.groups.Served.{served}
use Rattle.world_sessions.specs.deliveries.Sessions.{session_of}
use Rattle.world_sessions.specs.declared.deliveries.session.Session.{Session}
use Rattle.world_subscriptions.specs.Addressing.{addressed_to}
use Rattle.world_rows.specs.declared.subscription.Subscription.{Subscription}
use Rattle.receivers.specs.views.Open.{open_among}
use Rattle.receivers.specs.cache.Key.{IsOf}
use Rattle.receivers.specs.views.Receivers.{receiver_of, addressed_at, addressed_among}
use Rattle.receivers.specs.views.CachedViews.{AreSeen, IsWhom, others_in, KnowsOthers}
use Rattle.receivers.specs.cache.Drawn.{IsCached, IsDrawn, IsSentOn, KnowsDrawn, TellsDrawn}
use Rattle.receivers.specs.cache.Cached.{AreNone, Has, IsAllowed, IsAlone, IsAloneAt, IsAloneFor, IsAloneOf, IsBlank, IsCurrent, IsEmpty, IsFound, IsSo, KnowsOthersFor, Tells, if_last}
use Rattle.receivers.specs.declared.cache.cache.ReceiverCache.{ReceiverCache}
use Rattle.receivers.specs.declared.cache.cached.CachedReceivers.{CachedReceivers}
use Rattle.receivers.specs.declared.cache.drawn.Drawn.{Drawn}
use Rattle.receivers.specs.declared.cache.drawn.DrawnCache.{DrawnCache}
use Rattle.receivers.specs.declared.views.cached_view.CachedView.{CachedView}
use Rattle.receivers.specs.declared.cache.key.CacheKey.{CacheKey}
use Rattle.receivers.specs.declared.views.whom.Whom.{Whom}

-- a message on its way to the receiver of a subscription is on its way to that
pub addressed_each : (m : Message) (subs : List Subscription) → map (addressed_at m) (map receiver_of subs) ≡ map (addressed_to m) subs
addressed_each m [] = refl
addressed_each m (s ∷ subs) = ap (λ (rest : List Addressed). addressed_to m s ∷ rest) (addressed_each m subs)

-- so the deliveries that it tells are those of the message
pub told_are : (cached : CachedReceivers) (conn : ℕ) (text : List ℕ) (m : Message) (word : ℕ) (all : List Addressed) (rows : List ImportRow) (zs : List Session) (subs : List Subscription) (z : Session) →
    Tells cached m word all → IsSo rows zs subs cached → IsOf cached.key conn text → session_of zs conn ≡ Some z → tokens_of text ≡ m.subject → all ≡ addressed_among zs subs z m word
told_are cached conn text m word all rows zs subs z tells so of there same =
    let whom : IsWhom cached.whom (open_among zs subs z z.user.account (tokens_of cached.key.subject.items)) = so.0 z (ap (session_of zs) of.0 ∙ there) in
    tells.1
    ∙ ap (map (addressed_at m)) (sym (whom tells.0 word))
    ∙ addressed_each m (served word (open_among zs subs z z.user.account (tokens_of cached.key.subject.items)))
    ∙ ap (λ (s : List Token). map (addressed_to m) (served word (open_among zs subs z z.user.account s))) (ap tokens_of of.1 ∙ same)

-- and what it says of the views of its publisher's messages on its subject is so
pub others_are : (cached : CachedReceivers) (rows : List ImportRow) (zs : List Session) (subs : List Subscription) (z : Session) (conn : ℕ) (text : List ℕ) (s : List Token) →
    IsSo rows zs subs cached → IsOf cached.key conn text → session_of zs conn ≡ Some z → tokens_of text ≡ s → KnowsOthers cached.others rows zs subs z s
others_are cached rows zs subs z conn text s so of there same = here cached.others so.1
  where
    here : (o : Option (Vec CachedView)) → KnowsOthersFor o rows cached.key.conn cached.key.subject.items zs subs → KnowsOthers o rows zs subs z s
    here None is = tt
    here (Some known) is =
        subst (λ (t : List Token). KnowsOthers (Some known) rows zs subs z t) (ap tokens_of of.1 ∙ same) (is z (ap (session_of zs) of.0 ∙ there))

-- what says nothing is so
pub blank_so : (cached : CachedReceivers) (rows : List ImportRow) (zs : List Session) (subs : List Subscription) → IsBlank cached → IsSo rows zs subs cached
blank_so cached rows zs subs blank = (
  λ z there. subst (λ (w : Whom). IsWhom w (open_among zs subs z z.user.account (tokens_of cached.key.subject.items))) (sym blank.0) (λ says. absurd says),
  subst (λ (o : Option (Vec CachedView)). KnowsOthersFor o rows cached.key.conn cached.key.subject.items zs subs) (sym blank.1) tt,
  subst (λ (o : Option By). IsAloneFor o rows cached.key.conn cached.key.subject.items zs) (sym blank.2) tt,
)

-- nothing is cached of draws
pub none_drawn : (cache : DrawnCache) (rows : List ImportRow) (zs : List Session) (subs : List Subscription) → cache.by_draw.items ≡ [] →
    KnowsDrawn cache.by_draw.items rows cache.key.conn cache.key.subject.items zs subs
none_drawn cache rows zs subs none = record {
  each = λ draw drawn cached z there. absurd (none-some (Some drawn) (subst (λ (all : List (Option Drawn)). IsCached all draw drawn) none cached));
}

-- a cache that says nothing is current
pub empty_current : (cache : ReceiverCache) (rows : List ImportRow) (zs : List Session) (subs : List Subscription) → IsEmpty cache → IsCurrent rows zs subs cache
empty_current cache rows zs subs empty = record {
  each = λ cached has. here cached has;
  drawn = none_drawn cache.drawn rows zs subs empty.2;
}
  where
    here : (cached : CachedReceivers) → Has cache cached → IsSo rows zs subs cached
    here cached (inl is) = blank_so cached rows zs subs (subst IsBlank (sym is) empty.0)
    here cached (inr at) = absurd (none-some cached (sym (empty.1 at.0) ∙ at.1))

-- one that has nothing but what it had, and what says nothing or is so, stays current
pub still_current : (old new : ReceiverCache) (rows : List ImportRow) (zs : List Session) (subs : List Subscription) →
    ((cached : CachedReceivers) → Has new cached → Has old cached ⊎ IsBlank cached ⊎ IsSo rows zs subs cached) → new.drawn ≡ old.drawn → IsCurrent rows zs subs old → IsCurrent rows zs subs new
still_current old new rows zs subs less same current = record {
  each = λ cached has. here cached (less cached has);
  drawn = subst (λ (drawn : DrawnCache). KnowsDrawn drawn.by_draw.items rows drawn.key.conn drawn.key.subject.items zs subs) (sym same) current.drawn;
}
  where
    here : (cached : CachedReceivers) → Has old cached ⊎ IsBlank cached ⊎ IsSo rows zs subs cached → IsSo rows zs subs cached
    here cached (inl had) = current.each cached had
    here cached (inr (inl blank)) = blank_so cached rows zs subs blank
    here cached (inr (inr so)) = so

-- ---- messages that are seen in their publisher's account alone

-- where none is known, there is no view behind the publisher's own
none_others : (others : Option (Vec CachedView)) (rows : List ImportRow) (zs : List Session) (subs : List Subscription) (z : Session) (s : List Token) →
    AreNone others → KnowsOthers others rows zs subs z s → others_in rows z.user.account s ≡ []
none_others None rows zs subs z s none is = absurd none
none_others (Some known) rows zs subs z s none is =
    nothing (others_in rows z.user.account s) (subst (λ (all : List CachedView). AreSeen zs subs z all (others_in rows z.user.account s)) none is)
  where
    nothing : (vs : List ViewItem) → AreSeen zs subs z [] vs → vs ≡ []
    nothing [] seen = refl
    nothing (v ∷ vs) seen = absurd seen

-- then what lists allow is seen there alone
pub alone_filled : (alone allowed : Option By) (others : Option (Vec CachedView)) (rows : List ImportRow) (zs : List Session) (subs : List Subscription) (z : Session) (s : List Token) (conn : ℕ) (text : List ℕ) →
    IfSome alone (λ by. (allowed ≡ Some by) × AreNone others) → IfSome allowed (IsAllowed z.user s) → KnowsOthers others rows zs subs z s →
    session_of zs conn ≡ Some z → tokens_of text ≡ s → IsAloneFor alone rows conn text zs
alone_filled None allowed others rows zs subs z s conn text filled lists known there same = tt
alone_filled (Some by) allowed others rows zs subs z s conn text filled lists known there same = record {
  publisher = z;
  seated = there;
  alone = subst (λ (t : List Token). IsAlone rows z.user t by) (sym same) (record {
    allowed = subst (λ (o : Option By). IfSome o (IsAllowed z.user s)) filled.0 lists;
    others = none_others others rows zs subs z s filled.1 known;
  });
}

-- what was found of those that the publisher's message may be sent to is so
pub found_so : (cached : CachedReceivers) (key : CacheKey) (others : Option (Vec CachedView)) (allowed : Option By) (conn : ℕ) (text : List ℕ) (rows : List ImportRow) (zs : List Session) (subs found : List Subscription) (z : Session) (s : List Token) →
    IsFound cached key found others allowed → IsOf key conn text → tokens_of text ≡ s → session_of zs conn ≡ Some z → found ≡ open_among zs subs z z.user.account s →
    KnowsOthers others rows zs subs z s → IfSome allowed (IsAllowed z.user s) → IsSo rows zs subs cached
found_so cached key others allowed conn text rows zs subs found z s is of same there are known lists = (
  λ y seated.
      subst (λ (x : Session). IsWhom cached.whom (open_among zs subs x x.user.account (tokens_of cached.key.subject.items))) (sym (one y seated))
      (subst (λ (t : List Token). IsWhom cached.whom (open_among zs subs z z.user.account t)) (sym texts)
      (subst (IsWhom cached.whom) are is.whom)),
  apart cached.others (subst (λ (o : Option (Vec CachedView)). KnowsOthers o rows zs subs z s) (sym is.others_are) known),
  alone_filled cached.alone allowed others rows zs subs z s cached.key.conn cached.key.subject.items is.alone lists known seat texts,
)
  where
    seat : session_of zs cached.key.conn ≡ Some z
    seat = ap (session_of zs) (ap (λ p. p.conn) is.key_is ∙ of.0) ∙ there

    texts : tokens_of cached.key.subject.items ≡ s
    texts = ap tokens_of (ap (λ p. p.subject.items) is.key_is ∙ of.1) ∙ same

    or_else : Option Session → Session → Session
    or_else None d = d
    or_else (Some x) d = x

    one : (y : Session) → session_of zs cached.key.conn ≡ Some y → y ≡ z
    one y seated = ap (λ (o : Option Session). or_else o y) (sym seated ∙ seat)

    apart : (o : Option (Vec CachedView)) → KnowsOthers o rows zs subs z s → KnowsOthersFor o rows cached.key.conn cached.key.subject.items zs subs
    apart None known = tt
    apart (Some views) known = λ y seated.
        subst (λ (x : Session). KnowsOthers (Some views) rows zs subs x (tokens_of cached.key.subject.items)) (sym (one y seated))
        (subst (λ (t : List Token). KnowsOthers (Some views) rows zs subs z t) (sym texts) known)

-- where the message that was addressed last isn't cached, nothing is known of its views
pub if_last_cached : (is_last : Bool) (others : Option (Vec CachedView)) (rows : List ImportRow) (zs : List Session) (subs : List Subscription) (z : Session) (s : List Token) →
    (is_last ≡ true → KnowsOthers others rows zs subs z s) → KnowsOthers (if_last is_last others) rows zs subs z s
if_last_cached true others rows zs subs z s known = known refl
if_last_cached false others rows zs subs z s known = tt

-- what is cached of a message's publisher and subject is so
alone_of : (by : By) (cached : CachedReceivers) (conn : ℕ) (text : List ℕ) (s : List Token) (rows : List ImportRow) (zs : List Session) (subs : List Subscription) →
    cached.alone ≡ Some by → IsOf cached.key conn text → IsSo rows zs subs cached → tokens_of text ≡ s → IsAloneOf rows zs conn s by
alone_of by cached conn text s rows zs subs is of so same =
    subst (λ (n : ℕ). IsAloneOf rows zs n s by) of.0
    (subst (λ (t : List Token). IsAloneOf rows zs cached.key.conn t by) (ap tokens_of of.1 ∙ same)
    (subst (λ (o : Option By). IsAloneFor o rows cached.key.conn cached.key.subject.items zs) is so.2))

-- and what it tells of a message, whatever it answers
pub alone_told : (result : Result (Option By) NoMemory) (cache : ReceiverCache) (cached : CachedReceivers) (conn : ℕ) (text : List ℕ) (m : Message) (word : ℕ) (all : List Addressed) →
    Has cache cached → IsOf cached.key conn text → tokens_of text ≡ m.subject → IfOk result (λ by. IfSome by (λ allowed. (cached.alone ≡ Some allowed) × Tells cached m word all)) →
    IfOk result (λ by. IfSome by (λ allowed. (rows : List ImportRow) (zs : List Session) (subs : List Subscription) → IsCurrent rows zs subs cache → IsAloneAt rows zs subs conn m word allowed all))
alone_told (Ok (Some by)) cache cached conn text m word all has of same tells = λ rows zs subs current.
    let so : IsSo rows zs subs cached = current.each cached has in
    let alone : IsAloneOf rows zs conn m.subject by = alone_of by cached conn text m.subject rows zs subs tells.0 of so same in
    record { of = alone; deliveries = told_are cached conn text m word all rows zs subs alone.publisher tells.1 so of alone.seated same }
alone_told (Ok None) cache cached conn text m word all has of same tells = tt
alone_told (Err none) cache cached conn text m word all has of same tells = tt

pub alone_refused : (result : Result (Option By) NoMemory) (cache : ReceiverCache) (cached : CachedReceivers) (conn : ℕ) (text : List ℕ) (s : List Token) →
    Has cache cached → IsOf cached.key conn text → tokens_of text ≡ s → IfErr result (λ none. (by : By) × (cached.alone ≡ Some by)) →
    IfErr result (λ none. (rows : List ImportRow) (zs : List Session) (subs : List Subscription) → IsCurrent rows zs subs cache → (by : By) × IsAloneOf rows zs conn s by)
alone_refused (Ok by) cache cached conn text s has of same is = tt
alone_refused (Err none) cache cached conn text s has of same is = λ rows zs subs current. (is.0, alone_of is.0 cached conn text s rows zs subs is.1 of (current.each cached has) same)

-- ---- what messages of a publisher on a subject are sent as

-- what it tells of a message's draw is so of the message
pub sent_on : (cache : DrawnCache) (conn : ℕ) (text : List ℕ) (m : Message) (word : ℕ) (all : List Addressed) (rows : List ImportRow) (zs : List Session) (subs : List Subscription) (z : Session) →
    TellsDrawn cache conn text m word all → KnowsDrawn cache.by_draw.items rows cache.key.conn cache.key.subject.items zs subs → session_of zs conn ≡ Some z → tokens_of text ≡ m.subject →
    IsSentOn rows zs subs z m word all
sent_on cache conn text m word all rows zs subs z tells known there same =
    let is : IsDrawn rows zs subs z cache.key.subject.items (draw_of word) tells.drawn =
    known.each (draw_of word) tells.drawn tells.cached z (ap (session_of zs) tells.of.0 ∙ there) in
    record {
      drawn = tells.drawn;
      mapped = ap (λ (s : List Token). mapped_by z.user.mappings s word) (sym (ap tokens_of tells.of.1 ∙ same)) ∙ is.mapped word refl;
      sent = is.sent;
      deliveries = tells.deliveries;
    }

-- where others are selected, nothing is cached
pub drawn_selected : (old new : DrawnCache) (rows : List ImportRow) (zs : List Session) (subs : List Subscription) → (new ≡ old) ⊎ (new.by_draw.items ≡ []) →
    KnowsDrawn old.by_draw.items rows old.key.conn old.key.subject.items zs subs → KnowsDrawn new.by_draw.items rows new.key.conn new.key.subject.items zs subs
drawn_selected old new rows zs subs (inl same) known =
    subst (λ (drawn : DrawnCache). KnowsDrawn drawn.by_draw.items rows drawn.key.conn drawn.key.subject.items zs subs) (sym same) known
drawn_selected old new rows zs subs (inr none) known = none_drawn new rows zs subs none

-- where one more draw is cached, what is cached stays so
pub kept_drawn : (old new : DrawnCache) (rows : List ImportRow) (zs : List Session) (subs : List Subscription) (z : Session) (draw : ℕ) (drawn : Drawn) → new.key ≡ old.key →
    ((other : ℕ) (known : Drawn) → IsCached new.by_draw.items other known → IsCached old.by_draw.items other known ⊎ ((other ≡ draw) × (known ≡ drawn))) →
    session_of zs old.key.conn ≡ Some z → IsDrawn rows zs subs z old.key.subject.items draw drawn →
    KnowsDrawn old.by_draw.items rows old.key.conn old.key.subject.items zs subs → KnowsDrawn new.by_draw.items rows new.key.conn new.key.subject.items zs subs
kept_drawn old new rows zs subs z draw drawn same more there is known =
    subst (λ (p : CacheKey). KnowsDrawn new.by_draw.items rows p.conn p.subject.items zs subs) (sym same)
    (record { each = λ other known cached y seated. here other known (more other known cached) y seated })
  where
    or_else : Option Session → Session → Session
    or_else None d = d
    or_else (Some x) d = x

    here : (other : ℕ) (one : Drawn) → IsCached old.by_draw.items other one ⊎ ((other ≡ draw) × (one ≡ drawn)) → (y : Session) → session_of zs old.key.conn ≡ Some y →
        IsDrawn rows zs subs y old.key.subject.items other one
    here other one (inl cached) y seated = known.each other one cached y seated
    here other one (inr (at, same)) y seated =
        subst (λ (x : Session). IsDrawn rows zs subs x old.key.subject.items other one) (ap (λ (o : Option Session). or_else o y) (sym there ∙ seated))
        (subst (λ (n : ℕ). IsDrawn rows zs subs z old.key.subject.items n one) (sym at)
        (subst (λ (d : Drawn). IsDrawn rows zs subs z old.key.subject.items draw d) (sym same) is))
