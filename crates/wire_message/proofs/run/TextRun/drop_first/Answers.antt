use Rattle.std.proofs.Common.{drop, map, sym, ap, ◌∙◌}
use Rattle.std.proofs.lemmas.List.{drop-drop, drop-map}
use Rattle.wire_message.specs.Runs.{spot_texts}
use Rattle.wire_message.proofs.run.TextRun.drop_first.Goals as goal

pub returns : goal.returns
returns c =
    let inside = c.self.inside in
    sym (ap (drop c.args.count) (sym c.self.view_is)
    ∙ drop-map (spot_texts inside.block) c.args.count (drop inside.gone inside.spots.items)
    ∙ ap (map (spot_texts inside.block)) (drop-drop c.args.count inside.gone inside.spots.items))
