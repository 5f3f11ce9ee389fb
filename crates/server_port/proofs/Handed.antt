-- How often a seat hands the history out.
use Rattle.std.proofs.Common.{◌≡◌, ◌<◌, ◌≤◌, ◌+◌, ◌*◌, ◌∷◌, ℕ, Bool, true, false, List, None, Some, ap, length, subst, take, arith}
use Rattle.std.proofs.lemmas.List.{length-take-le, take_all}
use Rattle.events.specs.Messages.{Message}
use Rattle.events.specs.declared.answer.Entry.{Entry}
use Rattle.shared_waits.specs.runs.Runs.{Came, Draws, IsRun, Offers}
use Rattle.server_port.specs.Histories.{once}
use Rattle.server_port.proofs.Holds.{last_of, run_counts}

-- whatever is told, once at most
pub once_within : (b : Bool) → once b ≤ 1
once_within true = omega arith
once_within false = omega arith

-- the first message was held back
pub held_handed : (all left : List Message) (m : Message) (before after : ℕ) → all ≡ m ∷ left → after ≡ before → after + 3 * length left ≤ before + 3 * length all
held_handed all left m before after first same =
    let they = ap (λ (l : List Message). length l) first in
    omega (arith, they, same)

-- one more answer, as a loop follows them
pub handed_more : (entries : List Entry) (i before now after : ℕ) → i < length entries → now ≤ before + 2 * length (take i entries) → after ≤ now + 2
    → after ≤ before + 2 * length (take (i + 1) entries)
handed_more entries i before now after within past more =
    let first = length-take-le i entries (omega (arith, within)) in
    let next = length-take-le (i + 1) entries (omega (arith, within)) in
    omega (arith, first, next, past, more)

pub handed_all : (entries : List Entry) (i before after : ℕ) → length entries ≤ i → after ≤ before + 2 * length (take i entries) → after ≤ before + 2 * length entries
handed_all entries i before after past done = subst (λ (l : List Entry). after ≤ before + 2 * length l) (take_all i entries past) done

-- each answer of a hold has it handed out twice at most
pub all_handed : {P W : Type 0} (offered : Offers P) (draws : Draws W) (conn now : ℕ) (ms : List Message) (p : P) (w : W) (answers kept : List Entry) (left : List Message) (q : P) (v : W)
    (before entered after : ℕ) → IsRun offered draws conn now ms p w answers None left q v → kept ≡ answers → entered ≡ before → after ≤ entered + 2 * length kept
    → after + 3 * length left ≤ before + 3 * length ms
unfolding last_of
all_handed offered draws conn now ms p w answers kept left q v before entered after h is same more =
    let all : length answers + length left ≡ length ms = omega (arith, run_counts offered draws conn now ms p w answers None left q v h) in
    let they = ap (λ (l : List Entry). length l) is in
    omega (arith, all, they, same, more)

-- and what ended it three times
pub ended_handed : {P W : Type 0} (offered : Offers P) (draws : Draws W) (conn now : ℕ) (ms : List Message) (p : P) (w : W) (answers kept : List Entry) (last : Came) (left : List Message) (q : P) (v : W)
    (before entered followed after : ℕ) → IsRun offered draws conn now ms p w answers (Some last) left q v → kept ≡ answers → entered ≡ before → followed ≤ entered + 2 * length kept
    → after ≤ followed + 3 → after + 3 * length left ≤ before + 3 * length ms
unfolding last_of
ended_handed offered draws conn now ms p w answers kept last left q v before entered followed after h is same more ended =
    let all : length answers + 1 + length left ≡ length ms = omega (arith, run_counts offered draws conn now ms p w answers (Some last) left q v h) in
    let they = ap (λ (l : List Entry). length l) is in
    omega (arith, all, they, same, more, ended)

-- an answer that was followed has it handed out twice at most
pub twice : (a b : Bool) (before entered followed after : ℕ) → entered ≡ before → followed ≤ entered + (once a + once b) → after ≡ followed → after ≤ before + 2
twice a b before entered followed after same more is = omega (arith, same, more, is, once_within a, once_within b)
