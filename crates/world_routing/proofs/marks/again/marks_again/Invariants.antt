-- those before what is left are marked again, and what is left is marked as it is
use Rattle.std.proofs.Common.{◌≡◌, ◌++◌, List, All}
use Rattle.world_rows.specs.declared.subscription.Subscription.{Subscription}
use Rattle.receivers.specs.views.Marked.{AreMarked}
use Rattle.world_routing.specs.marks.Again.{IsMarkedAgain}
use Rattle.world_routing.proofs.marks.again.marks_again.Given as goal

abbrev pub invariant-loop-subscription : goal.invariant-loop-subscription
invariant-loop-subscription l = record {
  marked : AreMarked l.renewing.sessions.now l.subscription-iterator l.renewing.marks.now;
  again : (before : List Subscription) × (before ++ l.subscription-iterator ≡ l.subscriptions) × All (IsMarkedAgain l.renewing.ready.now l.renewing.sessions.now l.marks) before;
}
