-- the keys that are left are those of the sessions that are left
use Rattle.std.proofs.Common.{◌∙◌, ◌==◌, not, sym, ap, filter, length, map, arith}
use Rattle.world_sessions.specs.Renewal.{connection_of}
use Rattle.world_sessions.specs.declared.deliveries.session.Session.{Session}
use Rattle.world_sessions.proofs.Keys.{filter_keys}
use Rattle.world_sessions.proofs.Lists.{filter-fewer}
use Rattle.world_sessions.proofs.sessions.Sessions.remove.Goals as goal

pub invariant_of-self : goal.invariant_of-self
invariant_of-self c =
    let zs = c.self.inside.list.items in
    let n = c.args.conn in (
      c.remove.ensures
          ∙ ap (filter (λ k. not (k == n))) c.self.invariant.0
          ∙ filter_keys (λ k. not (k == n)) zs
          ∙ sym (ap (map connection_of) c.remove_from.ensures),
      omega (arith, ap length c.remove_from.ensures, filter-fewer (λ (z : Session). not (z.conn == n)) zs, c.self.invariant.1),
    )
