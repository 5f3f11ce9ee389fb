-- what isn't written yet is what is kept
use Rattle.std.proofs.Common.{◌≡◌, ◌≢◌, List, [], ℕ, true, nat_lt, length, ap, subst, rules}
use Rattle.server_socket.specs.turns.Turns.{Client}
use Rattle.server_socket.proofs.turns.Writing.{decides_left}
use Rattle.server_socket.proofs.turns.client.Client.waits.Goals as goal

pub returns : goal.returns
returns c =
    let counted : length c.self.inside.bytes.items ≡ c.len.result = search rules in
    subst (λ (n : ℕ). (nat_lt c.self.inside.written n ≡ true → c.args.self.now.kept ≢ []) × (c.args.self.now.kept ≢ [] → nat_lt c.self.inside.written n ≡ true)) counted
    (subst (λ (xs : List ℕ). (nat_lt c.self.inside.written (length c.self.inside.bytes.items) ≡ true → xs ≢ []) × (xs ≢ [] → nat_lt c.self.inside.written (length c.self.inside.bytes.items) ≡ true))
    (ap (λ (x : Client). x.kept) c.self.view_is)
    (decides_left c.self.inside.written c.self.inside.bytes.items))
