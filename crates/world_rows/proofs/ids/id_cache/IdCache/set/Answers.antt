-- each slot has what it had, or what is put there
use Rattle.std.proofs.Common.{◌∙◌, Option, ap, sym, subst, inl, inr}
use Rattle.std.specs.Option.{unwrap_or}
use Rattle.world_rows.specs.ids.CachedIds.{IsSaid}
use Rattle.world_rows.specs.declared.ids.cached_ids.CachedIds.{CachedIds}
use Rattle.world_rows.proofs.ids.id_cache.IdCache.set.Goals as goal

pub returns : goal.returns
returns c = λ entries told said place cached there. elim (c.put.ensures.put place) [
  | inl same ↦ told place cached (sym same ∙ there)
  | inr at ↦ subst (λ (m : CachedIds). IsSaid m entries) (ap (λ (o : Option CachedIds). unwrap_or o cached) (sym at.1 ∙ there)) said
]
