-- one more is marked again, and at the end all are
use Rattle.std.proofs.Common.{◌≡◌, ◌∙◌, ◌∷◌, ◌++◌, ◌<◌, [], List, AllPairs, ap, sym, subst}
use Rattle.std.proofs.lemmas.List.{append_assoc, append-nil}
use Rattle.std.proofs.lemmas.List.Elements.{All-head, All-tail, All-same}
use Rattle.world_sessions.specs.deliveries.Sessions.{session_of}
use Rattle.world_rows.specs.declared.subscription.Subscription.{Subscription}
use Rattle.receivers.specs.views.Marked.{AreMarked, IsMarkedBy}
use Rattle.world_routing.specs.marks.Again.{IsMarkedAgain}
use Rattle.world_routing.proofs.marks.Marking.{all_remaining, marked_more}
use Rattle.world_routing.proofs.marks.again.marks_again.Goals as goal

pub mark_again-requires-clause-marked : goal.mark_again-requires-clause-marked
mark_again-requires-clause-marked c =
    let r = c.args.renewing in
    All-head (λ (s : Subscription). IsMarkedBy r.marks.now s (session_of r.sessions.now s.conn)) c.in-Some.subscription.now _
    (subst (λ (subs : List Subscription). AreMarked r.sessions.now subs r.marks.now) c.in-Some.ensures.steps c.loop-subscription.invariant.marked)

pub loop-subscription-preserved : goal.loop-subscription-preserved
loop-subscription-preserved c =
    let r = c.args.renewing in
    let given = c.loop-subscription.invariant.again in
    let before : List Subscription = given.0 in
    let sub : Subscription = c.in-Some.subscription.now in
    let whole : before ++ sub ∷ c.next.new.self ≡ c.args.subscriptions.now = ap (λ (rest : List Subscription). before ++ rest) (sym c.in-Some.ensures.steps) ∙ given.1 in
    record {
      marked = All-tail (λ (s : Subscription). IsMarkedBy r.marks.now s (session_of r.sessions.now s.conn)) sub _
          (subst (λ (subs : List Subscription). AreMarked r.sessions.now subs r.marks.now) c.in-Some.ensures.steps c.loop-subscription.invariant.marked);
      again = (
        before ++ sub ∷ [],
        append_assoc before (sub ∷ []) c.next.new.self ∙ whole,
        marked_more r.ready.now r.sessions.now c.loop-subscription.marks c.mark_again.new.marks before sub c.next.new.self
            (subst (AllPairs (λ (s t : Subscription). s.id < t.id)) (sym whole) c.prove_invariant-2.ensures.ids) c.in_ok-mark_again.ensures.others c.in_ok-mark_again.ensures.own given.2,
      );
    }

pub returns : goal.returns
returns c =
    let r = c.args.renewing in
    let given = c.loop-subscription.invariant.again in
    let before : List Subscription = given.0 in
    let all : c.args.subscriptions.now ≡ before = sym given.1 ∙ ap (λ (rest : List Subscription). before ++ rest) c.in-None.ensures.steps.0 ∙ append-nil before in
    all_remaining r.ready.now r.sessions.now c.args.subscriptions.now c.loop-subscription.marks c.prove_invariant.ensures
    (All-same (IsMarkedAgain r.ready.now r.sessions.now c.loop-subscription.marks) c.args.subscriptions.now before all given.2)
