-- what a binary search says of rows whose ids rise
use Rattle.std.proofs.Common.{rules, slice_index_or}
use Rattle.std.proofs.lemmas.List.Sorted.{answers_always}
use Rattle.world_rows.specs.declared.rows.Row.{Row}
use Rattle.stores.proofs.numbered_slots.Places.{cmp_equal, searchable, not_there}
use Rattle.world_rows.specs.Rows.{id_of}
use Rattle.world_rows.proofs.Places.{absent_of}
use Rattle.world_rows.proofs.rows.search.Goals as goal

pub returns-in-Err : goal.returns-in-Err
returns-in-Err c = absent_of c.args.id c.args.rows.now (not_there id_of c.args.id c.args.rows.now _
    (c.in-Err.ensures.position (λ (r : Row). r.id) (answers_always _ _ _ (λ f a r f' called. search rules)) (searchable id_of c.args.id c.args.rows.now c.requires)))

pub returns-in-Ok : goal.returns-in-Ok
returns-in-Ok c = (
  c.in-Ok.ensures.bound,
  λ d. cmp_equal (slice_index_or c.args.rows.now c.in-Ok.place d).id c.args.id (c.in-Ok.ensures.position (λ (r : Row). r.id) (answers_always _ _ _ (λ f a r f' called. search rules)) d),
)
