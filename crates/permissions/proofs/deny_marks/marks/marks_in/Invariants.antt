-- what is kept so far, with the marks of what is left, is what is kept of all
use Rattle.std.proofs.Common.{◌≡◌, drop}
use Rattle.permissions.specs.deny_marks.Marks.{is_marked, kept, marks_from, marks_in}
use Rattle.permissions.proofs.deny_marks.Judged.{kept_with}
use Rattle.permissions.proofs.deny_marks.marks.marks_in.Given as goal

abbrev pub invariant-loop-index : goal.invariant-loop-index
invariant-loop-index l =
    kept_with l.marks (marks_from l.index (is_marked l.pattern l.queue) (drop l.index l.entries)) ≡ kept (marks_in (is_marked l.pattern l.queue) l.entries)
