-- what is at hand now was in its slot, and what was at hand comes into one
use Rattle.std.proofs.Common.{true, ◌≡◌, ◌∙◌, ℕ, Option, Some, ap, sym, inl, inr}
use Rattle.std.specs.Option.{unwrap_or}
use Rattle.std.proofs.lemmas.Option.{none-some}
use Rattle.stores.specs.slot_cache.Slots.{value_at}
use Rattle.receivers.specs.cache.Cached.{Has}
use Rattle.receivers.specs.declared.cache.cache.ReceiverCache.{ReceiverCache}
use Rattle.receivers.specs.declared.cache.cached.CachedReceivers.{CachedReceivers}
use Rattle.receivers.proofs.cache.Told.{still_current}
use Rattle.receivers.proofs.cache.cache.ReceiverCache.look_for.Goals as goal

pub returns-in-Some-take-clause-cached : goal.returns-in-Some-take-clause-cached
returns-in-Some-take-clause-cached c = λ rows zs subs current.
    let old : ReceiverCache = c.args.self.now in
    let new : ReceiverCache = record c.put_back.new.self { last = c.in-Some-take.found; place = c.in-Some-place.place; is_last = true } in
    still_current old new rows zs subs (λ cached has. inl (had cached has)) c.put_back.ensures.drawn current
  where
    same : (x y : CachedReceivers) → Some x ≡ Some y → y ≡ x
    same x y e = sym (ap (λ (o : Option CachedReceivers). unwrap_or o x) e)

    left : (cached : CachedReceivers) (place : ℕ) → value_at c.take.new.self place ≡ Some cached → Has c.args.self.now cached
    left cached place at = elim (c.take.ensures.left place) [
      | inl stays ↦ inr (place, sym stays ∙ at)
      | inr none ↦ absurd (none-some cached (sym none ∙ at))
    ]

    had : (cached : CachedReceivers) → Has (record c.put_back.new.self { last = c.in-Some-take.found; place = c.in-Some-place.place; is_last = true }) cached → Has c.args.self.now cached
    had cached (inl last) = inr (c.in-Some-place.place, sym c.take.ensures.taken ∙ c.in-Some-take.is ∙ ap Some (sym last))
    had cached (inr at) = elim (c.put_back.ensures.slots at.0) [
      | inl stays ↦ left cached at.0 (sym stays ∙ at.1)
      | inr put ↦ inl (same c.args.self.now.last cached (sym put ∙ at.1))
    ]
