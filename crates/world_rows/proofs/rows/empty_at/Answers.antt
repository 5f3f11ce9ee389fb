-- the row of the id is empty afterwards
use Rattle.std.proofs.Common.{◌≡◌, ◌∙◌, ap, sym, Some, None, slice_index_or}
use Rattle.stores.proofs.numbered_slots.Places.{rising_set}
use Rattle.world_rows.specs.Rows.{id_of, entries_in}
use Rattle.world_rows.specs.declared.rows.Row.{Row}
use Rattle.world_rows.proofs.Places as places
use Rattle.world_rows.proofs.rows.empty_at.Goals as goal

pub returns-in-None-clause-gone : goal.returns-in-None-clause-gone
returns-in-None-clause-gone c =
    let rows = c.args.rows.now.items in
    let old = c.index_mut.result.now in
    let was : (slice_index_or rows c.args.place old).subscription ≡ None = ap (λ (r : Row). r.subscription) (sym c.index_mut.ensures.value) ∙ sym c.take.ensures.value ∙ c.in-None.is in
    sym (places.lookup_at c.args.id rows c.args.place old c.requires.rising c.requires.place ∙ was)

pub returns-in-None-clause-same : goal.returns-in-None-clause-same
returns-in-None-clause-same c =
    let rows = c.args.rows.now.items in
    let old = c.index_mut.result.now in
    let new : Row = record { id = old.id; subscription = c.take.new.self } in
    let was : (slice_index_or rows c.args.place old).subscription ≡ None = ap (λ (r : Row). r.subscription) (sym c.index_mut.ensures.value) ∙ sym c.take.ensures.value ∙ c.in-None.is in
    places.set_same rows c.args.place new old c.requires.place.0 was c.take.ensures.after
    ∙ sym (places.remove_none c.args.id (entries_in rows) (places.lookup_at c.args.id rows c.args.place old c.requires.rising c.requires.place ∙ was))

pub returns-in-Some-clause-gone : goal.returns-in-Some-clause-gone
returns-in-Some-clause-gone c =
    let rows = c.args.rows.now.items in
    let old = c.index_mut.result.now in
    let was : (slice_index_or rows c.args.place old).subscription ≡ Some c.in-Some.gone = ap (λ (r : Row). r.subscription) (sym c.index_mut.ensures.value) ∙ sym c.take.ensures.value ∙ c.in-Some.is in
    sym (places.lookup_at c.args.id rows c.args.place old c.requires.rising c.requires.place ∙ was)

pub returns-in-Some-clause-same : goal.returns-in-Some-clause-same
returns-in-Some-clause-same c =
    let rows = c.args.rows.now.items in
    let old = c.index_mut.result.now in
    let new : Row = record { id = old.id; subscription = c.take.new.self } in
    let was : (slice_index_or rows c.args.place old).subscription ≡ Some c.in-Some.gone = ap (λ (r : Row). r.subscription) (sym c.index_mut.ensures.value) ∙ sym c.take.ensures.value ∙ c.in-Some.is in
    places.empty_at c.args.id rows c.args.place new old c.in-Some.gone c.requires.rising c.requires.place was c.take.ensures.after

pub returns-in-Some-clause-rising : goal.returns-in-Some-clause-rising
returns-in-Some-clause-rising c =
    let old = c.index_mut.result.now in
    let new : Row = record { id = old.id; subscription = c.take.new.self } in
    rising_set id_of c.args.rows.now.items c.args.place new old c.requires.rising (ap (λ (r : Row). r.id) c.index_mut.ensures.value)

pub returns-in-Some-clause-empty : goal.returns-in-Some-clause-empty
returns-in-Some-clause-empty c =
    let rows = c.args.rows.now.items in
    let old = c.index_mut.result.now in
    let new : Row = record { id = old.id; subscription = c.take.new.self } in
    let was : (slice_index_or rows c.args.place old).subscription ≡ Some c.in-Some.gone = ap (λ (r : Row). r.subscription) (sym c.index_mut.ensures.value) ∙ sym c.take.ensures.value ∙ c.in-Some.is in
    places.empty_more rows c.args.place new old c.args.empty.now c.in-Some.gone c.requires.place.0 was c.take.ensures.after c.requires.empty
