-- the connection is new among the keys
use Rattle.std.proofs.Common.{◌≡◌, ◌∙◌, ◌==◌, ◌++◌, ◌∷◌, [], sym, ap, List, ℕ, length, map, arith}
use Rattle.std.specs.List.{list_any}
use Rattle.std.proofs.lemmas.List.{map-append, length-append}
use Rattle.world_sessions.specs.deliveries.Sessions.{session_of}
use Rattle.world_sessions.specs.Renewal.{connection_of}
use Rattle.world_sessions.specs.declared.deliveries.session.Session.{Session}
use Rattle.world_sessions.proofs.Keys.{no_key}
use Rattle.world_sessions.proofs.sessions.Sessions.push.Goals as goal

pub push-requires : goal.push-requires
push-requires c =
    let zs = c.self.inside.list.items in
    let n = c.args.session.conn in
    ap (list_any (λ k. n == k)) c.self.invariant.0 ∙ no_key n zs (ap (λ (ys : List Session). session_of ys n) c.self.view_is ∙ c.requires)

pub invariant_of-self-2 : goal.invariant_of-self-2
invariant_of-self-2 c =
    let zs = c.self.inside.list.items in
    let n = c.args.session.conn in
    let all : c.push_reserved.new.self.items ≡ zs ++ c.args.session ∷ [] = c.push_reserved.ensures.items ∙ ap (λ (ys : List Session). ys ++ c.args.session ∷ []) c.in_ok-reserve.ensures.items in (
      c.in_ok-push.ensures.ok ∙ ap (λ (ks : List ℕ). ks ++ n ∷ []) c.self.invariant.0 ∙ sym (map-append connection_of zs (c.args.session ∷ [])) ∙ sym (ap (map connection_of) all),
      omega (arith, ap length all, length-append zs (c.args.session ∷ []), ap length c.as_slice.ensures.value, ap length c.in_ok-reserve.ensures.items, c.in_ok-add_room.ensures.more),
    )
