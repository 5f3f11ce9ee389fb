-- the rows so far have joined their ends
use Rattle.std.proofs.Common.{map, take}
use Rattle.policy_doc.specs.Accounts.{Name}
use Rattle.policy_sets.specs.Sets.{ends_at, joined_by, names_of}
use Rattle.policy_sets.specs.Firsts.{AreFirsts, name_at}
use Rattle.policy_sets.proofs.joining.join_rows.Given as goal

abbrev pub invariant-loop-import : goal.invariant-loop-import
invariant-loop-import l =
    (first : Name → Name) → AreFirsts (names_of l.accounts) first l.initial.firsts →
    AreFirsts (names_of l.accounts) (joined_by first (map (ends_at (name_at (names_of l.accounts) l.place)) (take l.import-index l.imports))) l.firsts
