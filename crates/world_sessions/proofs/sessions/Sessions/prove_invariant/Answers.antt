-- no connection stands twice among the keys
use Rattle.std.proofs.Common.{List, subst}
use Rattle.std.specs.Prelude.{AllPairs}
use Rattle.world_sessions.specs.deliveries.Sessions.{IsApart}
use Rattle.world_sessions.specs.declared.deliveries.session.Session.{Session}
use Rattle.world_sessions.proofs.Keys.{apart_by_keys}
use Rattle.world_sessions.proofs.sessions.Sessions.prove_invariant.Goals as goal

pub returns : goal.returns
returns c = subst (λ (zs : List Session). AllPairs IsApart zs) c.self.view_is (apart_by_keys c.self.inside.conns c.self.inside.list.items c.prove_invariant.ensures c.self.invariant.0)
