-- those of the reasons so far
use Rattle.std.proofs.Common.{◌≡◌, map, take}
use Rattle.std.specs.List.{filter}
use Rattle.message_changes.specs.Reasons.{is_parted, reason_view}
use Rattle.message_changes.proofs.refusing.parted.Given as goal

abbrev pub invariant-loop-reason : goal.invariant-loop-reason
invariant-loop-reason l = map reason_view l.all.items ≡ filter (is_parted l.is_had (map reason_view l.others)) (map reason_view (take l.reason-index l.reasons))
