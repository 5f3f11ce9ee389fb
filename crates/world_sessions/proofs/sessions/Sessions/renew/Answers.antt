-- the sessions that stay keep their connections, which are noted anew
use Rattle.std.proofs.Common.{◌≡◌, ◌∙◌, ap, sym, subst, ℕ, List, length, map, filter, arith}
use Rattle.std.specs.Prelude.{AllPairs}
use Rattle.std.specs.List.{filter_map}
use Rattle.std.proofs.lemmas.List.{length-map}
use Rattle.policy_doc.specs.declared.document.PolicyDoc.{PolicyDoc}
use Rattle.policy_ready.specs.declared.ready.User.{User}
use Rattle.world_sessions.specs.deliveries.Sessions.{IsApart}
use Rattle.world_sessions.specs.Renewal.{user_again_of, stays, with_users, remaining, connection_of}
use Rattle.world_sessions.specs.declared.deliveries.session.Session.{Session}
use Rattle.world_sessions.proofs.Keys.{apart_by_keys}
use Rattle.world_sessions.proofs.Remaining.{with_users_renewed, remaining-apart, remaining-fewer}
use Rattle.world_sessions.proofs.sessions.Sessions.renew.Goals as goal

-- with the users of the sessions that stay, those are renewed
left : (now : ℕ) (doc : PolicyDoc) (zs old new : List Session) (us : List User) → zs ≡ old → us ≡ filter_map (user_again_of doc) old → new ≡ with_users now (filter (stays doc) zs) us → new ≡ remaining now doc zs
left now doc zs old new us same users given =
    given ∙ ap (with_users now (filter (stays doc) zs)) (users ∙ ap (filter_map (user_again_of doc)) (sym same)) ∙ with_users_renewed now doc zs

pub note_all-requires-clause-room : goal.note_all-requires-clause-room
note_all-requires-clause-room c =
    let doc = c.args.ready.now in
    let zs = c.self.inside.list.items in
    let new = left c.args.now doc zs c.args.self.now c.renew_list.new.list.items c.args.users.items c.self.view_is c.requires c.renew_list.ensures in
    omega (arith, ap length (c.as_slice.ensures.value ∙ new), remaining-fewer c.args.now doc zs, ap length c.self.invariant.0, length-map zs connection_of)

pub note_all-requires-clause-apart : goal.note_all-requires-clause-apart
note_all-requires-clause-apart c =
    let doc = c.args.ready.now in
    let zs = c.self.inside.list.items in
    let new = left c.args.now doc zs c.args.self.now c.renew_list.new.list.items c.args.users.items c.self.view_is c.requires c.renew_list.ensures in
    subst (λ (ys : List Session). AllPairs IsApart ys) (sym (c.as_slice.ensures.value ∙ new))
    (remaining-apart c.args.now doc zs (apart_by_keys c.self.inside.conns zs c.prove_invariant.ensures c.self.invariant.0))

pub invariant_of-self : goal.invariant_of-self
invariant_of-self c =
    let doc = c.args.ready.now in
    let zs = c.self.inside.list.items in
    let new = left c.args.now doc zs c.args.self.now c.renew_list.new.list.items c.args.users.items c.self.view_is c.requires c.renew_list.ensures in (
      c.note_all.ensures ∙ ap (map connection_of) c.as_slice.ensures.value,
      omega (arith, ap length new, remaining-fewer c.args.now doc zs, c.self.invariant.1),
    )

pub returns : goal.returns
returns c =
    let doc = c.args.ready.now in
    let zs = c.self.inside.list.items in
    left c.args.now doc zs c.args.self.now c.renew_list.new.list.items c.args.users.items c.self.view_is c.requires c.renew_list.ensures ∙ ap (remaining c.args.now doc) c.self.view_is
