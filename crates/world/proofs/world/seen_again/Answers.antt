-- those that live are left, and at the first moment all are seen
use Rattle.std.proofs.Common.{◌∙◌}
use Rattle.world.proofs.Dropping.{all_seen}
use Rattle.world.proofs.world.seen_again.Goals as goal

pub returns-clause-seen : goal.returns-clause-seen
returns-clause-seen c = all_seen c.prune.new.self.exporters ∙ c.prune.ensures.exporters
