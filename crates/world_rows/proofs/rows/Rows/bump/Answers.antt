-- the row of the id has what the change made of it
use Rattle.std.proofs.Common.{subst, List}
use Rattle.world_rows.specs.Changes.{bumped}
use Rattle.world_rows.specs.Rows.{IsPlaceOf}
use Rattle.world_rows.specs.declared.rows.Row.{Row}
use Rattle.world_rows.proofs.Places.{stays_kept, changes_in}
use Rattle.world_rows.proofs.rows.Rows.bump.Goals as goal

pub invariant_of-self : goal.invariant_of-self
invariant_of-self c =
    let place = subst (λ (rs : List Row). IsPlaceOf c.args.id rs c.in-Some.place) c.as_slice.ensures.value c.in-Some.ensures in
    stays_kept bumped c.args.id c.self.inside.rows.items c.in-Some.place c.bump-ended.new.self c.index_mut.result.now c.self.invariant.0 place c.index_mut.ensures.value
    c.bump-ended.ensures.id c.bump-ended.result c.bump-ended.ensures.after c.self.inside.empty c.self.invariant.1

pub returns-in-Some : goal.returns-in-Some
returns-in-Some c =
    let place = subst (λ (rs : List Row). IsPlaceOf c.args.id rs c.in-Some.place) c.as_slice.ensures.value c.in-Some.ensures in
    changes_in bumped c.args.id c.self.inside.rows.items c.in-Some.place c.bump-ended.new.self c.index_mut.result.now c.self.invariant.0 place c.index_mut.ensures.value
    c.bump-ended.ensures.id c.bump-ended.result c.bump-ended.ensures.after c.args.self.now c.self.view_is
