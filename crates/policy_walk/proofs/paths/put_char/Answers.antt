use Rattle.std.proofs.Common.{rules}
use Rattle.policy_walk.proofs.Printed.{plain_char}
use Rattle.policy_walk.proofs.paths.put_char.Goals as goal

pub returns-in_default : goal.returns-in_default
returns-in_default c = rw (plain_char c.args.letter (λ e. search (rules, e)) (λ e. search (rules, e))) (search rules)
