-- what stands is kept, and what is kept is bounded
use Rattle.std.proofs.Common.{◌∙◌, ap, ℕ, filter}
use Rattle.permissions.specs.deny_marks.Table.{is_among}
use Rattle.permissions.specs.declared.deny_marks.marks.Marks.{Marks}
use Rattle.permissions.proofs.deny_marks.Kept.{marks_kept}
use Rattle.permissions.proofs.deny_marks.table.DenyMarks.trim.Goals as goal

pub returns-then-count-enough-clause-kept : goal.returns-then-count-enough-clause-kept
returns-then-count-enough-clause-kept g c = λ id stands.
    marks_kept (is_among (g.S.Stands.ids c.args.standing.now)) id c.args.self.now c.keep_standing.new.by_id.entries
    (c.keep_standing.ensures.kept ∙ ap (filter (λ (e : ℕ × Marks). is_among (g.S.Stands.ids c.args.standing.now) e.0)) c.self.view_is)
    stands
