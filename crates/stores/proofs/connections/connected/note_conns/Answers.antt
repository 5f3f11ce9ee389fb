-- the next connection is none of those before it, so it goes last
use Rattle.std.proofs.Common.{◌∙◌, ◌==◌, ◌++◌, ◌∷◌, [], ℕ, Bool, List, map, take, cond, ap, sym, arith}
use Rattle.std.specs.List.{list_any}
use Rattle.std.proofs.lemmas.List.{map-append, take_more}
use Rattle.stores.proofs.connections.Keys.{new_key}
use Rattle.stores.proofs.connections.connected.note_conns.Goals as goal

pub loop-one-preserved : goal.loop-one-preserved
loop-one-preserved g c =
    let f = g.T.Connected.connection in
    let xs = c.args.list.now in
    let i = c.loop-one.one-index in
    let x = c.one-item.result in
    let before = map f (take i xs) in
    record {
      keys = c.note_conn.ensures.keys
          ∙ ap (λ (n : ℕ). cond (list_any (λ k. n == k) c.loop-one.conns.keys) c.loop-one.conns.keys (c.loop-one.conns.keys ++ n ∷ [])) c.conn.ensures
          ∙ ap (λ (ks : List ℕ). cond (list_any (λ k. f x == k) ks) ks (ks ++ f x ∷ [])) c.loop-one.invariant.keys
          ∙ ap (λ (b : Bool). cond b before (before ++ f x ∷ [])) (new_key f xs i x c.requires.apart c.loop-one-test.true c.one-item.is)
          ∙ sym (map-append f (take i xs) (x ∷ []))
          ∙ sym (ap (map f) (take_more xs i x c.loop-one-test.true ∙ ap (λ y. take i xs ++ y ∷ []) (sym c.one-item.is)));
      room = omega (arith, c.loop-one.invariant.room, c.note_conn.ensures.room);
    }
