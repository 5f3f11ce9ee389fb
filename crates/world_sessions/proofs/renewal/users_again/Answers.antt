-- one more session, with the user that it is to act for
use Rattle.std.proofs.Common.{◌∙◌, ◌∷◌, ◌++◌, [], List, ap, sym}
use Rattle.std.specs.List.{filter_map}
use Rattle.world_sessions.specs.Renewal.{user_again_of}
use Rattle.policy_ready.specs.declared.ready.User.{User}
use Rattle.world_sessions.proofs.Lists.{filter_map_more}
use Rattle.world_sessions.proofs.renewal.users_again.Goals as goal

pub loop-session-preserved : goal.loop-session-preserved
loop-session-preserved c =
    let again = user_again_of c.args.ready.now in
    let z = c.session-item.result in
    c.in_ok-add_user.ensures
    ∙ ap (λ (us : List User). us ++ filter_map again (z ∷ [])) c.loop-session.invariant
    ∙ sym (filter_map_more again c.args.list.now c.loop-session.session-index z c.loop-session-test.true c.session-item.is)
