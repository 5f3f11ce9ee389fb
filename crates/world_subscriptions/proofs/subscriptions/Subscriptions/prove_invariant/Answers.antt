use Rattle.std.proofs.Common.{◌≡◌, subst, List, false, All}
use Rattle.world_subscriptions.specs.Limit.{unended, has_ended}
use Rattle.world_subscriptions.specs.Kept.{Apart}
use Rattle.world_rows.specs.declared.subscription.Subscription.{Subscription}
use Rattle.world_subscriptions.proofs.Entries.{going}
use Rattle.world_subscriptions.proofs.Known.{ids_rise, sids_differ, none_ended}
use Rattle.world_subscriptions.proofs.subscriptions.Subscriptions.prove_invariant.Goals as goal

pub returns-clause-ids : goal.returns-clause-ids
returns-clause-ids c = ids_rise c.args.self.now (subst Apart c.self.view_is c.self.invariant.0.1)

pub returns-clause-sids : goal.returns-clause-sids
returns-clause-sids c = sids_differ c.args.self.now (subst Apart c.self.view_is c.self.invariant.0.1)

pub returns-clause-limits : goal.returns-clause-limits
returns-clause-limits c = subst (λ (subs : List Subscription). All (λ (s : Subscription). has_ended s ≡ false) subs) c.self.view_is (none_ended c.self.inside.by_id c.self.invariant.0.0)

pub returns-clause-going : goal.returns-clause-going
returns-clause-going c = subst (λ (subs : List Subscription). unended subs ≡ subs) c.self.view_is (going c.self.inside.by_id c.self.invariant.0.0)

pub returns-clause-apart : goal.returns-clause-apart
returns-clause-apart c = subst Apart c.self.view_is c.self.invariant.0.1
