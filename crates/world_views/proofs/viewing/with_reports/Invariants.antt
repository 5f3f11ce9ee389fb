-- what has been appended, and the items from the last report on with the reports that are left
use Rattle.std.proofs.Common.{◌≡◌, ◌++◌, drop}
use Rattle.world_views.specs.Viewing.{with_reports}
use Rattle.world_views.proofs.viewing.with_reports.Given as goal

abbrev pub invariant-loop-report : goal.invariant-loop-report
invariant-loop-report l = l.all.items ++ with_reports l.next l.items (drop l.report-index l.reports) ≡ with_reports 0 l.items l.reports
