use Rattle.server.proofs.policy_source.Grammar.{small_size}
use Rattle.server.proofs.policy_source.frames.size_of.Goals as goal

pub returns-in-Some : goal.returns-in-Some
returns-in-Some c = small_size c.args.digits.now c.in-Some.size c.requires.few c.in-Some.ensures
