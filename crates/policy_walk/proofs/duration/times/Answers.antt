use Rattle.std.proofs.Common.{◌≤◌, ◌<◌, ◌*◌, ◌^◌, arith}
use Rattle.std.proofs.lemmas.Nat.{mul-le}
use Rattle.policy_walk.proofs.duration.times.Goals as goal

pub overflow_mul-result : goal.overflow_mul-result
overflow_mul-result c =
    let small : c.in-Some.number < 10 ^ 9 = c.in-Some.ensures.small in
    let most : c.in-Some.number ≤ 999999999 = omega (arith, small) in
    let few : c.in-Some.number * c.args.unit ≤ 999999999 * 3600000 = mul-le _ _ _ _ most c.requires in
    omega (arith, few)
