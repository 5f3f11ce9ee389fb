-- what is retained is what stands, and that is no more than stand
use Rattle.std.proofs.Common.{ℕ, rules}
use Rattle.indexmap.proofs.CallerLemmas.{filter-RetainsPairs}
use Rattle.permissions.specs.deny_marks.Table.{is_among}
use Rattle.permissions.specs.declared.deny_marks.marks.Marks.{Marks}
use Rattle.permissions.proofs.deny_marks.Bounded.{few_kept}
use Rattle.permissions.proofs.deny_marks.table.keep_standing.Goals as goal

pub returns-clause-kept : goal.returns-clause-kept
returns-clause-kept g c = filter-RetainsPairs _ (λ (e : ℕ × Marks). is_among (g.S.Stands.ids c.args.standing.now) e.0) _ (λ k v b w f called. search rules) _ _ c.retain.ensures.filtered

pub returns-clause-bounded : goal.returns-clause-bounded
returns-clause-bounded g c = few_kept (g.S.Stands.ids c.args.standing.now) c.args.by_id.now.entries c.retain.new.self.entries (returns-clause-kept g c) c.retain.ensures.unique
