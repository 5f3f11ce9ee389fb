-- one more session has its answer, and acts for the same user as any earlier one of its user's name
use Rattle.std.proofs.Common.{◌≡◌, ◌<◌, Bool, Decides, List, length, get_or, ap, refl, subst, arith}
use Rattle.std.proofs.lemmas.List.Elements.{at_read}
use Rattle.world_sessions.specs.Renewal.{HasSameLists, HaveOneUser}
use Rattle.world_sessions.specs.declared.deliveries.session.Session.{Session}
use Rattle.world_sessions.proofs.Beside.{length_more, same_more}
use Rattle.world_sessions.proofs.same_lists.same_lists.Goals as goal

pub answer_for-requires-clause-one : goal.answer_for-requires-clause-one
answer_for-requires-clause-one c = λ i d below.
    let zs = c.args.list.now in
    let z = c.session-item.result in
    let n = c.loop-session.session-index in
    let here = at_read zs (λ (y : Session). y ≡ z) n z c.loop-session-test.true c.session-item.is refl in
    let earlier : i < n = omega (arith, below, ap (λ (bs : List Bool). length bs) c.as_slice.ensures.value, c.loop-session.invariant.all) in
    subst (λ y. HaveOneUser (get_or zs i d) y) (here d) (c.requires i n d earlier c.loop-session-test.true)

pub loop-session-preserved : goal.loop-session-preserved
loop-session-preserved c =
    let doc = c.args.ready.now in
    let zs = c.args.list.now in
    let n = c.loop-session.session-index in
    let before = c.loop-session.invariant in
    let here = at_read zs (λ (y : Session). Decides c.answer_for.result (HasSameLists doc y)) n c.session-item.result c.loop-session-test.true c.session-item.is c.answer_for.ensures in
    record {
      all = length_more c.loop-session.same.items _ c.answer_for.result n before.all c.in_ok-push.ensures.items;
      same = same_more doc zs c.loop-session.same.items _ c.answer_for.result n before.all before.same c.in_ok-push.ensures.items here;
    }
