-- one more is told of where it is lost, and has its reason
use Rattle.std.proofs.Common.{◌≡◌, ◌∙◌, ◌∷◌, ◌++◌, List, [], Option, All, true, ap, sym, subst}
use Rattle.std.specs.List.{filter_map}
use Rattle.std.proofs.lemmas.List.{append_assoc}
use Rattle.std.proofs.lemmas.List.Elements.{All-cons, All-head, All-tail}
use Rattle.world_rows.specs.declared.subscription.Subscription.{Subscription}
use Rattle.world.specs.Changes.{lost_id}
use Rattle.world.specs.Reload.{removal_after, verdict_before, may_stand, AllMayStand, IsReasonedVerdict}
use Rattle.world_subscriptions.proofs.groups.Lists.{filter_map_first}
use Rattle.world.proofs.reload.lost_by.Goals as goal

-- what is put behind, and what the others give
moved : {Y : Type 0} (h : Subscription → Option Y) (before after all : List Y) (s : Subscription) (rest left : List Subscription) →
    after ≡ before ++ filter_map h (s ∷ []) → left ≡ s ∷ rest → before ++ filter_map h left ≡ all → after ++ filter_map h rest ≡ all
moved {Y} h before after all s rest left more is given =
    ap (λ (front : List Y). front ++ filter_map h rest) more
    ∙ append_assoc before (filter_map h (s ∷ [])) (filter_map h rest)
    ∙ ap (λ (ys : List Y). before ++ ys) (sym (filter_map_first h s rest) ∙ ap (filter_map h) (sym is))
    ∙ given

pub add_if_lost-requires-clause-sound : goal.add_if_lost-requires-clause-sound
add_if_lost-requires-clause-sound c =
    let zs = c.args.sessions.now in
    All-head (λ (sub : Subscription). may_stand (verdict_before zs sub) ≡ true) c.in-Some.subscription.now _
    (subst (AllMayStand zs) c.in-Some.ensures.steps c.loop-subscription.invariant.sound)

pub loop-subscription-preserved : goal.loop-subscription-preserved
loop-subscription-preserved c =
    let doc = c.args.ready.now in
    let zs = c.args.sessions.now in
    let left : c.loop-subscription.subscription-iterator ≡ c.in-Some.subscription.now ∷ c.next.new.self = c.in-Some.ensures.steps in
    let told = c.in_ok-add_if_lost.ensures in
    let reason : Subscription → Type 0 = IsReasonedVerdict doc zs in
    let Each : List Subscription → Type 0 = λ subs. All reason subs in
    record {
      removed = moved (removal_after doc zs) _ _ _ c.in-Some.subscription.now c.next.new.self _ told.removed left c.loop-subscription.invariant.removed;
      ids = moved (lost_id doc zs) _ _ _ c.in-Some.subscription.now c.next.new.self _ told.ids left c.loop-subscription.invariant.ids;
      sound = All-tail (λ (sub : Subscription). may_stand (verdict_before zs sub) ≡ true) c.in-Some.subscription.now _
          (subst (AllMayStand zs) left c.loop-subscription.invariant.sound);
      reason = λ all. c.loop-subscription.invariant.reason (subst Each (sym left) (All-cons reason _ _ (c.prove_reason.ensures doc zs) all));
    }
