-- one more item
use Rattle.std.proofs.Common.{◌∙◌, ◌∷◌, ◌++◌, [], ℕ, List, ap, sym}
use Rattle.std.proofs.lemmas.List.{append_assoc}
use Rattle.world_sessions.proofs.Lists.{filter_map_more}
use Rattle.world_sessions.specs.leniency.Held.{held_conn, held_among}
use Rattle.world_sessions.proofs.leniency.held.note_each.Goals as goal

pub loop-item-preserved : goal.loop-item-preserved
loop-item-preserved g c =
    let t = g.T.Lenient.terms c.args.lenient.now in
    let zs = c.args.sessions.now in
    let item = c.item-item.result in
    c.in_ok-note_if_held.ensures
    ∙ ap (λ (conns : List ℕ). conns ++ held_among t zs (item ∷ [])) c.loop-item.invariant
    ∙ append_assoc c.args.held.now.items _ _
    ∙ ap (λ (conns : List ℕ). c.args.held.now.items ++ conns) (sym (filter_map_more (held_conn t zs) c.args.items.now c.loop-item.item-index item c.loop-item-test.true c.item-item.is))
