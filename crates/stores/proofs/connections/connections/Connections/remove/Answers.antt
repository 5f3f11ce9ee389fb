-- what is retained is what passes the test
use Rattle.std.proofs.Common.{◌∙◌, ◌==◌, not, filter, ap, rules}
use Rattle.std.proofs.lemmas.Fn.{filter_same}
use Rattle.stores.proofs.connections.connections.Connections.remove.Goals as goal

pub returns : goal.returns
returns c = filter_same _ _ _ (λ x b f' called. search rules) _ _ c.retain.ensures.filtered ∙ ap (filter (λ k. not (k == c.args.conn))) c.self.view_is
