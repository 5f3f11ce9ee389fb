-- what was found is at hand now, and what was at hand comes into a slot
use Rattle.std.proofs.Common.{true, ◌≡◌, ◌∙◌, ℕ, Option, Some, ap, sym, subst, inl, inr}
use Rattle.std.specs.Global.{Vec}
use Rattle.std.specs.Option.{unwrap_or}
use Rattle.subjects.specs.Subject.{tokens_of}
use Rattle.subjects.proofs.Text.{again}
use Rattle.stores.specs.slot_cache.Slots.{value_at}
use Rattle.receivers.specs.cache.Cached.{Has, IsSo, cached_others}
use Rattle.receivers.specs.views.CachedViews.{KnowsOthers}
use Rattle.receivers.specs.declared.cache.cache.ReceiverCache.{ReceiverCache}
use Rattle.receivers.specs.declared.cache.cached.CachedReceivers.{CachedReceivers}
use Rattle.receivers.specs.declared.views.cached_view.CachedView.{CachedView}
use Rattle.receivers.proofs.cache.Told.{found_so, still_current}
use Rattle.receivers.proofs.cache.cache.ReceiverCache.put.Goals as goal

pub returns-in-Ok : goal.returns-in-Ok
unfolding cached_others
returns-in-Ok c = λ rows zs subs z current there are known lists.
    let old : ReceiverCache = c.args.self.now in
    let new : ReceiverCache = record c.put_back.new.self { last = c.of-in-Ok.result; place = c.place_for-self.result; is_last = true } in
    let so : IsSo rows zs subs c.of-in-Ok.result =
    found_so c.of-in-Ok.result c.in-Ok.key c.args.others c.args.allowed c.args.conn _ rows zs subs _ z c.args.subject.now c.of-in-Ok.ensures c.in-Ok.ensures
    (ap tokens_of c.bytes.ensures ∙ again c.args.subject.now c.tokens.ensures.grammar) there are known lists in (
      still_current old new rows zs subs (λ cached has. elim has [
        | inl last ↦ inr (inr (subst (IsSo rows zs subs) (sym last) so))
        | inr at ↦ inl (had cached at.0 at.1)
      ]) c.put_back.ensures.drawn current,
      subst (λ (o : Option (Vec CachedView)). KnowsOthers o rows zs subs z c.args.subject.now) (sym c.of-in-Ok.ensures.others_are) known,
    )
  where
    same : (x y : CachedReceivers) → Some x ≡ Some y → y ≡ x
    same x y e = sym (ap (λ (o : Option CachedReceivers). unwrap_or o x) e)

    had : (cached : CachedReceivers) (place : ℕ) → value_at c.put_back.new.self.slots place ≡ Some cached → Has c.args.self.now cached
    had cached place at = elim (c.put_back.ensures.slots place) [
      | inl stays ↦ inr (place, sym stays ∙ at)
      | inr put ↦ inl (same c.args.self.now.last cached (sym put ∙ at))
    ]
