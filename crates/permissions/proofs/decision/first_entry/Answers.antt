use Rattle.std.proofs.Common.{[], Bool, subst, slice_index_or}
use Rattle.std.specs.Option.{option_copied}
use Rattle.policy_doc.specs.permission_doc.Entries.{entry_of}
use Rattle.subjects.specs.pattern_groups.Links.{IsLeast}
use Rattle.permissions.specs.Lists.{Entry}
use Rattle.permissions.specs.Looked.{has_whole}
use Rattle.permissions.proofs.Found.{as_many, passes_by_hash}
use Rattle.permissions.proofs.Least.{least_position}
use Rattle.permissions.proofs.decision.first_entry.Goals as goal

pub returns : goal.returns
returns g c =
    let test : Entry → Bool = has_whole g.A.SubjectSet.is_within c.args.among (option_copied c.args.queue) c.args.asked.now in
    least_position test c.args.entries.now c.least-least.result
    (subst (λ n. IsLeast (λ i. test (slice_index_or c.args.entries.now i (entry_of []))) n c.least-least.result)
    (as_many c.args.index.now c.args.entries.now c.requires) c.least-least.ensures)

pub least-least-requires-clause-hash : goal.least-least-requires-clause-hash
least-least-requires-clause-hash g c =
    passes_by_hash g.A.SubjectSet.is_within c.args.among (option_copied c.args.queue) c.args.asked.now c.args.entries.now c.args.index.now c.text-text.result.now
    c.requires c.text-text.ensures
