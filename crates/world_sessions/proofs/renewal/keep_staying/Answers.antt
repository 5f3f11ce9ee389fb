-- what is retained is what passes the test
use Rattle.std.proofs.Common.{rules}
use Rattle.std.proofs.lemmas.Fn.{filter_same}
use Rattle.world_sessions.proofs.renewal.keep_staying.Goals as goal

pub returns : goal.returns
returns c = filter_same _ _ _ (λ x b f' called. search rules) _ _ c.retain.ensures.filtered
