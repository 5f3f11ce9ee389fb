use Rattle.std.proofs.Common.{◌∙◌, List, ap}
use Rattle.world_sessions.specs.declared.deliveries.session.Session.{Session}
use Rattle.std.proofs.Common.{position}
use Rattle.world_sessions.proofs.deliveries.Places.{place_from, is_of}
use Rattle.world_sessions.proofs.sessions.Sessions.place_of.Goals as goal

pub returns : goal.returns
returns c =
    let same = c.as_slice.ensures.value ∙ c.self.view_is in
    place_from c.args.conn c.args.self.now c.place_in-place.result (c.place_in-place.ensures ∙ ap (λ (zs : List Session). position (is_of c.args.conn) zs) same)
