-- A step whose number has risen, or that is not made.
use Rattle.std.proofs.Common.{◌≡◌, ◌∙◌, ◌+◌, ◌++◌, ℕ, List, [], Result, Ok, Err, ap, sym, refl}
use Rattle.events.specs.declared.event.Event.{Event}
use Rattle.events.specs.declared.event.Command.{Command}
use Rattle.events.specs.declared.event.Command.TheVariants.{Connect, Sub, Unsub, Pub, Take, Close, Reload}
use Rattle.events.specs.declared.answer.Item.{Item}
use Rattle.events.specs.declared.answer.Entry.{Entry}
use Rattle.events.specs.declared.answer.Outcome.{Outcome}
use Rattle.events.specs.declared.answer.Outcome.TheVariants.{Connected, AuthViolation, Subscribed, SameSid, SubLimit, Denied, Unsubscribed, Published, Taken, Closed, Reloaded}
use Rattle.events.specs.declared.refusal.HubRefusal.{HubRefusal}
use Rattle.events.specs.declared.refusal.PublishRefusal.{PublishRefusal}
use Rattle.events.specs.declared.refusal.PublishRefusal.TheVariants.{By, Held}
use Rattle.world_sessions.specs.declared.deliveries.session.Session.{Session}
use Rattle.world_sessions.specs.leniency.Held.{Terms, to_all, held_among}
use Rattle.world_sessions.proofs.leniency.Kept.{none_holds}
use Rattle.world_routing.specs.World.{World, advanced}
use Rattle.world.specs.Transition.{moved, numbered, refusal_in, transition, IsMoved, IsApplied, IsReasoned, IsRefusal}
use Rattle.world.specs.Changes.{items_in}
use Rattle.world.specs.Holding.{held_in, holders, IsMovedIf, IsAppliedIf}

pub applied_is : (w after : World) (e : Event) (both : Entry × Entry) → IsMoved (advanced w e.now) e (Ok both) after →
    IsApplied w e (Ok both) (record after { number = w.number + 1 })
applied_is w after e both h = (ap (numbered (w.number + 1)) h.0, h.1, h.2)

pub numbered_refusal : (n : ℕ) (r : Result (Outcome × World) HubRefusal) → refusal_in (numbered n r) ≡ refusal_in r
numbered_refusal n (Ok r) = refl
numbered_refusal n (Err e) = refl

-- the same of one that nobody held back
pub applied_if_is : (t : Terms) (w after : World) (e : Event) (both : Entry × Entry) (held : List ℕ) → IsMovedIf t (advanced w e.now) e (Ok both) held after →
    IsAppliedIf t w e (Ok both) held (record after { number = w.number + 1 })
applied_if_is t w after e both held h = (applied_is w after e both h.0, h.1)

-- the same of one that is refused, or held back: nothing has changed
refusal_numbered : (n : ℕ) (t : Result (Outcome × World) HubRefusal) (r : HubRefusal) → IsRefusal t r → IsRefusal (numbered n t) r
refusal_numbered n (Ok x) r h = h
refusal_numbered n (Err e) r h = h

holders_numbered : (t : Terms) (zs : List Session) (n : ℕ) (r : Result (Outcome × World) HubRefusal) → holders t zs r ≡ holders t zs (numbered n r)
holders_numbered t zs n (Ok x) = refl
holders_numbered t zs n (Err e) = refl

pub refused_if_is : (t : Terms) (w after mid : World) (e : Event) (refusal : PublishRefusal) (held : List ℕ) → IsMovedIf t (advanced w e.now) e (Err refusal) held mid → after ≡ w →
    IsAppliedIf t w e (Err refusal) held after
refused_if_is t w after mid e (By r) held h back = (back, refusal_numbered (w.number + 1) (moved (advanced w e.now) e.what) r h.1)
refused_if_is t w after mid e Held held h back = (back, h.1, h.2 ∙ holders_numbered t w.sessions (w.number + 1) (moved (advanced w e.now) e.what))

-- what an outcome's reason is, whenever it is
pub same_reason : (w : World) (moment : ℕ) (c : Command) (o : Outcome) → IsReasoned (record w { moment = moment }) c o → IsReasoned w c o
same_reason w moment (Connect conn user password echo) o h = h
same_reason w moment (Sub conn p queue sid) o h = h
same_reason w moment (Unsub conn sid most) o h = h
same_reason w moment (Pub conn m word) o h = h
same_reason w moment (Take conn most) o h = h
same_reason w moment (Close conn) o h = h
same_reason w moment (Reload doc) Connected h = h
same_reason w moment (Reload doc) AuthViolation h = h
same_reason w moment (Reload doc) Subscribed h = h
same_reason w moment (Reload doc) SameSid h = h
same_reason w moment (Reload doc) SubLimit h = h
same_reason w moment (Reload doc) (Denied verdict) h = h
same_reason w moment (Reload doc) (Published by items) h = h
same_reason w moment (Reload doc) (Taken front missed) h = h
same_reason w moment (Reload doc) Unsubscribed h = h
same_reason w moment (Reload doc) Closed h = h
same_reason w moment (Reload doc) (Reloaded gone removed) h = h

-- an outcome of whose items none was noted
pub noted_none : (t : Terms) (zs : List Session) (o : Outcome) (items : List Item) (before after : List ℕ) → items ≡ items_in o → before ≡ [] →
    after ≡ before ++ held_among t zs items → after ≡ [] → held_in t zs o ≡ []
noted_none t zs o items before after is empty noted none =
    sym (ap (λ (all : List Item). held_among t zs all) is) ∙ sym (noted ∙ ap (λ (conns : List ℕ). conns ++ held_among t zs items) empty) ∙ none

-- nobody holds an event back from a caller that is lenient to all
pub none_holds_back : (zs : List Session) (r : Result (Outcome × World) HubRefusal) → holders to_all zs r ≡ []
none_holds_back zs (Ok r) = none_holds zs (items_in r.0)
none_holds_back zs (Err refusal) = refl

pub never_held : (w after : World) (e : Event) (held : List ℕ) → IsAppliedIf to_all w e (Err Held) held after → ⊥
never_held w after e held h = h.1 (h.2 ∙ none_holds_back w.sessions (transition w e))
