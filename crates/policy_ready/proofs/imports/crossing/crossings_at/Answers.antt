use Rattle.std.proofs.Common.{◌≡◌, ◌∙◌, ◌<◌, ap, sym, List, ℕ, length, take}
use Rattle.std.specs.List.{filter_map, slice_index_or}
use Rattle.std.proofs.lemmas.List.{get_or_default}
use Rattle.policy_ready.specs.imports.Across.{crossing}
use Rattle.policy_ready.specs.imports.Views.{first_of_each}
use Rattle.policy_ready.specs.imports.Rows.{no_row, row_by, rows_at, with_crossing}
use Rattle.policy_ready.specs.declared.imports.rows.ImportRow.{ImportRow}
use Rattle.policy_ready.proofs.imports.Firsts.{gathered_more}
use Rattle.policy_ready.proofs.imports.Places.{place_more}
use Rattle.policy_ready.proofs.imports.crossing.crossings_at.Goals as goal

pub loop-place-preserved : goal.loop-place-preserved
loop-place-preserved c =
    let f = crossing c.args.account.now c.args.subject.now in
    let rows : List ImportRow = c.args.rows.now in
    let places : List ℕ = c.args.places.now in
    let i = c.loop-place.place-index in
    let place : ℕ = slice_index_or places i 0 in
    let within : place < length rows = c.requires i 0 c.loop-place-test.true in
    let row : c.index-rows-place.result ≡ row_by rows place = c.index-rows-place.is ∙ get_or_default rows place c.index-rows-place.result no_row within in
    c.in_ok-add_crossing.ensures
    ∙ ap (λ r. with_crossing c.loop-place.views.items (f r)) row
    ∙ ap (λ vs. with_crossing vs (f (row_by rows place))) c.loop-place.invariant
    ∙ sym (ap (λ l. first_of_each (filter_map f l)) (place_more rows places i c.loop-place-test.true) ∙ gathered_more f (rows_at rows (take i places)) (row_by rows place))
