-- a connection that isn't there is put behind the others
use Rattle.std.proofs.Common.{◌∙◌, ◌==◌, ◌++◌, ◌∷◌, [], ap, cond, ℕ, Bool, List}
use Rattle.std.specs.List.{list_any}
use Rattle.stores.proofs.connections.connections.Connections.push.Goals as goal

pub returns-clause-ok : goal.returns-clause-ok
returns-clause-ok c =
    let keys = c.self.inside.conns.keys in
    let n = c.args.conn in
    c.in_ok-insert.ensures.keys
    ∙ ap (λ (b : Bool). cond b keys (keys ++ n ∷ [])) (ap (list_any (λ k. n == k)) c.self.view_is ∙ c.requires)
    ∙ ap (λ (ks : List ℕ). ks ++ n ∷ []) c.self.view_is
