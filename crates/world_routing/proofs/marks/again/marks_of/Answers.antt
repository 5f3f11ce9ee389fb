-- the marks of now are those by the same lists
use Rattle.std.proofs.Common.{◌∙◌, ℕ, Decides, ap, sym, subst}
use Rattle.std.specs.Prelude.{IsSomeAnd}
use Rattle.permissions.specs.deny_marks.Table.{marks_at}
use Rattle.permissions.specs.declared.deny_marks.marks.Marks.{Marks}
use Rattle.world_sessions.specs.deliveries.Sessions.{session_of}
use Rattle.world_sessions.specs.Renewal.{HasSameLists}
use Rattle.world_routing.specs.marks.Again.{user_after, AreMarksAgain}
use Rattle.world_routing.proofs.marks.Marking.{still_marked}
use Rattle.world_routing.proofs.marks.again.marks_of.Goals as goal

pub returns-then-has_same_lists : goal.returns-then-has_same_lists
returns-then-has_same_lists c =
    let r = c.args.renewing in
    let doc = r.ready.now in
    let sub = c.args.subscription.now in
    let same = subst (λ (conn : ℕ). Decides c.has_same_lists.result (IsSomeAnd (session_of r.sessions.now conn) (HasSameLists doc))) c.conn-in-Some.ensures (c.has_same_lists.ensures doc c.requires.same) in
    subst (λ (m : Marks). AreMarksAgain m sub (user_after doc (session_of r.sessions.now sub.conn))) (sym (c.at.ensures ∙ ap (marks_at r.marks.now) c.id.ensures))
    (still_marked r.marks.now doc sub (session_of r.sessions.now sub.conn) c.has_same_lists.result same c.if-has_same_lists.true c.requires.marked)
