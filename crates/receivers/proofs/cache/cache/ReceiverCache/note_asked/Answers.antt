-- what the slots have stays
use Rattle.std.proofs.Common.{◌∙◌, refl, sym, inl, inr}
use Rattle.receivers.specs.declared.cache.cache.ReceiverCache.{ReceiverCache}
use Rattle.receivers.proofs.cache.Told.{still_current}
use Rattle.receivers.proofs.cache.cache.ReceiverCache.note_asked.Goals as goal

pub returns-clause-cached : goal.returns-clause-cached
returns-clause-cached c = λ rows zs subs current.
    let old : ReceiverCache = c.args.self.now in
    still_current old (record old { slots = c.note_asked.new.self }) rows zs subs (λ cached has. elim has [
      | inl last ↦ inl (inl last)
      | inr at ↦ inl (inr (at.0, sym (c.note_asked.ensures at.0) ∙ at.1))
    ]) refl current
