use Rattle.std.proofs.Common.{◌≡◌, ◌+◌, ◌<◌, List, ◌∷◌, drop, length, map, sym, ap, ◌∙◌, subst, arith, length-drop}
use Rattle.std.proofs.lemmas.List.{length-map}
use Rattle.std.proofs.lemmas.Result.{IfOk-weaker}
use Rattle.wire_message.specs.Texts.{Texts}
use Rattle.wire_message.specs.Runs.{spot_texts}
use Rattle.wire_message.proofs.RunLemmas.{at_index}
use Rattle.wire_message.proofs.run.TextRun.text.Goals as goal

pub returns : goal.returns
returns c =
    let inside = c.self.inside in
    let i = c.args.index in
    let f = spot_texts inside.block in
    let few : inside.gone + i < length inside.spots.items =
    omega (arith, c.requires, ap length c.self.view_is, length-map (drop inside.gone inside.spots.items) f, length-drop inside.gone inside.spots.items) in
    IfOk-weaker c.message_at.result _ _
    (λ text is. subst (λ (all : List Texts). drop i all ≡ text ∷ drop (i + 1) all) c.self.view_is
    (at_index f inside.spots.items inside.gone i c.index-spot.result.now few
    ∙ ap (λ t. t ∷ drop (i + 1) (map f (drop inside.gone inside.spots.items))) (ap f (sym c.index-spot.ensures) ∙ sym is)))
    c.message_at.ensures
