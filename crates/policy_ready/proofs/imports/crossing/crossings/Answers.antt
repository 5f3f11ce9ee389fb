use Rattle.std.proofs.Common.{◌∙◌, ◌<◌, ap, sym, subst, Bool, List, ℕ, length, filter}
use Rattle.std.specs.Prelude.{All}
use Rattle.std.specs.List.{filter_map, range_with_len}
use Rattle.policy_ready.specs.imports.Across.{crossing}
use Rattle.policy_ready.specs.imports.Views.{first_of_each}
use Rattle.policy_ready.specs.imports.Rows.{is_crossed, row_by, rows_at}
use Rattle.policy_ready.specs.declared.imports.rows.ImportRow.{ImportRow}
use Rattle.policy_ready.proofs.imports.Places.{as_many, crossed_by_front, crossed_give_all, places_within}
use Rattle.policy_ready.proofs.imports.crossing.crossings.Goals as goal

pub all_under-requires-clause-front : goal.all_under-requires-clause-front
all_under-requires-clause-front c =
    crossed_by_front c.args.account.now c.args.subject.now c.args.rows.now c.args.groups.now c.bytes.result.now c.requires c.tokens.ensures.grammar c.bytes.ensures

pub crossings_at-requires : goal.crossings_at-requires
crossings_at-requires c =
    let rows : List ImportRow = c.args.rows.now in
    let test : ℕ → Bool = λ i. is_crossed c.args.account.now c.args.subject.now (row_by rows i) in
    subst (λ (l : List ℕ). All (λ i. i < length rows) l)
    (sym (c.as_slice.ensures.value ∙ c.in_ok-places.ensures ∙ ap (λ n. filter test (range_with_len 0 n)) (as_many c.args.groups.now rows c.requires)))
    (places_within test (length rows))

pub returns : goal.returns
returns c =
    let f = crossing c.args.account.now c.args.subject.now in
    let rows : List ImportRow = c.args.rows.now in
    c.in_ok-views.ensures
    ∙ ap (λ (l : List ℕ). first_of_each (filter_map f (rows_at rows l))) c.as_slice.ensures.value
    ∙ ap first_of_each (crossed_give_all c.args.account.now c.args.subject.now rows c.args.groups.now c.in_ok-places.places.items c.requires c.in_ok-places.ensures)
