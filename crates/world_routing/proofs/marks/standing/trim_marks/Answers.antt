-- those that stand keep theirs, and there are as many ids as subscriptions
use Rattle.std.proofs.Common.{◌≤◌, ◌+◌, ◌*◌, length, subst}
use Rattle.std.proofs.lemmas.List.{length-map}
use Rattle.world_rows.specs.declared.subscription.Subscription.{Subscription}
use Rattle.world_routing.proofs.marks.Marking.{marked_trimmed}
use Rattle.world_routing.proofs.marks.standing.trim_marks.Goals as goal

pub returns-clause-kept : goal.returns-clause-kept
returns-clause-kept c = λ zs. marked_trimmed zs c.args.subscriptions.now c.args.marks.now c.trim.new.self c.trim.ensures.kept

pub returns-clause-bounded : goal.returns-clause-bounded
returns-clause-bounded c = subst (λ n. length c.trim.new.self ≤ 2 * n + 1) (length-map c.args.subscriptions.now (λ (s : Subscription). s.id)) c.trim.ensures.bounded
