-- what is retained are the rows that are full
use Rattle.std.proofs.Common.{rules, true}
use Rattle.std.proofs.lemmas.Fn.{filter_same}
use Rattle.stores.proofs.numbered_slots.Places.{entries_compacted, rising_left}
use Rattle.world_rows.specs.Rows.{id_of, held}
use Rattle.world_rows.proofs.Places.{full_left, below_full}
use Rattle.world_rows.proofs.rows.compact.Goals as goal

pub returns-clause-same : goal.returns-clause-same
returns-clause-same c = entries_compacted id_of held c.args.rows.now.items c.retain.new.self.items
    (filter_same _ _ _ (λ x b f' called. search rules) _ _ c.retain.ensures.filtered)

pub returns-clause-rising : goal.returns-clause-rising
returns-clause-rising c = rising_left id_of held (λ s. true) c.args.rows.now.items c.retain.new.self.items
    (filter_same _ _ _ (λ x b f' called. search rules) _ _ c.retain.ensures.filtered) c.requires.rising

pub returns-clause-empty : goal.returns-clause-empty
returns-clause-empty c = full_left (λ s. true) c.args.rows.now.items c.retain.new.self.items
    (filter_same _ _ _ (λ x b f' called. search rules) _ _ c.retain.ensures.filtered)

pub returns-clause-below : goal.returns-clause-below
returns-clause-below c = below_full c.args.rows.now.items c.retain.new.self.items
    (filter_same _ _ _ (λ x b f' called. search rules) _ _ c.retain.ensures.filtered)
