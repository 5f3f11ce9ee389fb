use Rattle.std.proofs.Common.{◌∙◌, ap, false}
use Rattle.pattern_sets.specs.Asking.{subject_by}
use Rattle.pattern_sets.proofs.Searching.{text_by}
use Rattle.pattern_sets.proofs.search.Search.queue_of.Goals as goal

pub returns : goal.returns
returns c =
    c.in_ok-queue.ensures
    ∙ ap subject_by (text_by c.args.self.now.token.now false c.args.tokens c.args.queues.0.now c.args.queues.1.now _ _ _ c.in_ok-one.ensures c.in_ok-other.ensures c.in_ok-text.ensures)
