-- what is found has the id, and so the id is among theirs
use Rattle.std.proofs.Common.{rules, ◌≡◌, ◌∙◌, ◌==◌}
use Rattle.std.specs.Prelude.{find, is_some}
use Rattle.world_rows.specs.declared.subscription.Subscription.{Subscription}
use Rattle.world_routing.proofs.marks.Marking.{found_among}
use Rattle.world_routing.proofs.marks.standing.StandingIdsStands.stands.Goals as goal

pub returns : goal.returns
returns c =
    let subs = c.args.self.now.subscriptions.now in
    let found : c.is_some.result ≡ is_some (find (λ (s : Subscription). s.id == c.args.id) subs) = search rules in
    found ∙ found_among c.args.id subs
