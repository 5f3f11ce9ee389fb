use Rattle.std.proofs.Common.{rules, ◌≡◌, ◌<◌, ◌≤◌, length, List, ℕ, refl, subst}
use Rattle.json.specs.Lex.{tokens}
use Rattle.policy_notes.specs.positions.Spots.{nothing_passed, passed, Passed, PassesAll}
use Rattle.policy_notes.specs.positions.Starts.{starts_from}
use Rattle.policy_notes.specs.declared.positions.starts.Mode.TheVariants.{Between}
use Rattle.policy_notes.proofs.positions.Passing.{no_more, one_more}
use Rattle.policy_notes.proofs.positions.spots.spots_of.Goals as goal

pub loop-at-preserved : goal.loop-at-preserved
loop-at-preserved c = λ end rest.
    let within : c.loop-at.at-index < length c.as_slice-at-items.result.now = search rules in
    c.loop-at.invariant end (one_more c.as_slice-at-items.result.now c.loop-at.at-index _ _ _ _ end within c.in_ok-pass_next.ensures rest)

pub returns : goal.returns
returns c =
    let end : Passed = passed c.loop-at.walk.outer.items c.loop-at.walk.inner c.loop-at.walk.key c.loop-at.walk.spots.items in
    let all : length c.as_slice-at-items.result.now ≤ c.loop-at.at-index = search rules in
    let same : c.as_slice-at-items.result.now ≡ starts_from 0 Between c.args.text.now = search rules in
    let passes : PassesAll c.as_slice-at-items.result.now (tokens c.args.text.now) nothing_passed end =
    c.loop-at.invariant end (no_more c.as_slice-at-items.result.now c.loop-at.at-index _ end all) in
    (end, subst (λ (ats : List ℕ). PassesAll ats (tokens c.args.text.now) nothing_passed end) same passes, refl)
