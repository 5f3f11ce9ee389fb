use Rattle.std.proofs.Common.{◌∙◌, Option, Some, None, ap, sym, subst}
use Rattle.std.specs.Prelude.{All, IfSome}
use Rattle.std.specs.Option.{option_copied}
use Rattle.lru.specs.LruCache.{LruCache}
use Rattle.permissions.specs.declared.verdict.Verdict.{Verdict}
use Rattle.permissions.specs.declared.verdict_cache.asked.Asked.{Asked}
use Rattle.permissions.specs.declared.verdict_cache.cache.Remembered.{Remembered}
use Rattle.permissions.specs.verdict_cache.Verdicts.{IsCurrent}
use Rattle.permissions.proofs.verdict_cache.Kept.{found, on_ok, promoted_current, same_asked}
use Rattle.permissions.proofs.verdict_cache.cache.VerdictCache.find.Goals as goal

-- what is told of a verdict that is there, by something else that is told of it
each_answer : (P Q : Verdict → Type 0) (answer : Option Verdict) → ((verdict : Verdict) → P verdict → Q verdict) → IfSome answer P → IfSome answer Q
each_answer P Q None each told = told
each_answer P Q (Some verdict) each told = each verdict told

-- what was used last is what is looked up
pub returns-in-Some-clause-found : goal.returns-in-Some-clause-found
returns-in-Some-clause-found c verdict_of current =
    each_answer _ _ c.verdict_in.result (λ verdict its. its.1
    ∙ c.in-Some.ensures verdict_of c.args.epoch current its.0
    ∙ ap verdict_of (on_ok c.set.result _ (sym c.if-is_err.ensures.value) c.set.ensures)) c.verdict_in.ensures

pub returns-in-Some-get-clause-found : goal.returns-in-Some-get-clause-found
returns-in-Some-get-clause-found c verdict_of current =
    each_answer _ _ c.verdict_in-in-Some-get.result (λ verdict its. its.1
    ∙ found verdict_of c.args.epoch _ c.args.self.now.verdicts.entries c.set.new.self c.in-Some-get.known.now (λ other. same_asked c.set.new.self other) current
    (sym c.get.ensures.value ∙ ap option_copied c.in-Some-get.is) its.0
    ∙ ap verdict_of (on_ok c.set.result _ (sym c.if-is_err.ensures.value) c.set.ensures)) c.verdict_in-in-Some-get.ensures

pub returns-in-Some-get-clause-kept : goal.returns-in-Some-get-clause-kept
returns-in-Some-get-clause-kept c verdict_of current =
    subst (λ (cache : LruCache Asked Remembered). All (IsCurrent verdict_of c.args.epoch) cache.entries) (sym c.get.follows.holds-at-none)
    (promoted_current verdict_of c.args.epoch _ c.args.self.now.verdicts.entries current)

pub returns-in-None-clause-kept : goal.returns-in-None-clause-kept
returns-in-None-clause-kept c verdict_of current =
    subst (λ (cache : LruCache Asked Remembered). All (IsCurrent verdict_of c.args.epoch) cache.entries) (sym c.get.follows.holds-at-none)
    (promoted_current verdict_of c.args.epoch _ c.args.self.now.verdicts.entries current)
