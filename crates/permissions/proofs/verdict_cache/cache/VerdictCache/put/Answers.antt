use Rattle.std.proofs.Common.{◌∙◌, ap, sym, subst, refl}
use Rattle.std.specs.Prelude.{All}
use Rattle.lru.specs.LruCache.{LruCache}
use Rattle.permissions.specs.declared.verdict_cache.asked.Asked.{Asked}
use Rattle.permissions.specs.declared.verdict_cache.cache.Remembered.{Remembered}
use Rattle.permissions.specs.contracts.verdict_cache.asked.AskedPartialEq.TheImpl as derived
use Rattle.permissions.specs.verdict_cache.Verdicts.{IsCurrent}
use Rattle.permissions.proofs.verdict_cache.Kept.{put_current, same_asked}
use Rattle.permissions.proofs.verdict_cache.cache.VerdictCache.put.Goals as goal

pub returns : goal.returns
returns c verdict_of current is =
    subst (λ (cache : LruCache Asked Remembered). All (IsCurrent verdict_of c.args.epoch) cache.entries) (sym c.in_ok-put.ensures.entries)
    (put_current verdict_of c.args.epoch derived.eq-value.it c.args.self.now.verdicts c.in_ok-asked.asked (record { epoch = c.args.epoch; verdict = c.args.verdict })
    (λ other. same_asked c.in_ok-asked.asked other) current refl (is ∙ ap verdict_of (sym c.in_ok-asked.ensures)))
