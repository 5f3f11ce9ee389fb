-- a limit is reached where the count reaches it
use Rattle.std.proofs.Common.{◌≤◌, sym, arith}
use Rattle.world_views.proofs.addressing.Left.{never_ends, ended_more}
use Rattle.world_views.proofs.addressing.standing.has_ended_after.Goals as goal

pub returns-in-None : goal.returns-in-None
returns-in-None c = sym (never_ends c.args.more c.args.subscription.now (sym c.in-None.ensures))

pub returns-in-Some : goal.returns-in-Some
returns-in-Some c =
    let s = c.args.subscription.now in
    let is = c.received.ensures in
    let sum = c.saturating_add.ensures in
    let small : s.received ≤ 18446744073709551615 = omega (arith, is) in
    ended_more c.in-Some.most c.saturating_add.result c.args.more s (sym c.in-Some.ensures) small (λ k. omega (arith, is, sum, k)) (λ k. omega (arith, is, sum, k))
