use Rattle.std.proofs.Common.{arith, List, ℕ, Bor}
use Rattle.pattern_sets.proofs.Longer.{none_has, run_is_literal, run_length}
use Rattle.pattern_sets.proofs.fresh.long_token.Goals as goal

pub returns-clause-literal : goal.returns-clause-literal
returns-clause-literal c = run_is_literal c.longest_in-bytes.result c.in_ok-run.run'.items c.in_ok-run.ensures

pub returns-clause-fresh : goal.returns-clause-fresh
returns-clause-fresh c =
    let of = λ (p : Bor (List (List ℕ))). p.now in
    let long = run_length c.longest_in-bytes.result c.in_ok-run.run'.items c.in_ok-run.ensures in
    none_has of c.args.patterns.now c.in_ok-run.run'.items (omega (arith, long, c.longest_in-bytes.ensures))
