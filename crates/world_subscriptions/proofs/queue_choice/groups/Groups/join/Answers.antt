use Rattle.std.proofs.Common.{◌∙◌, ◌++◌, ◌∷◌, ◌+◌, ◌<◌, [], List, arith, cond, length, map, ap, set}
use Rattle.std.proofs.lemmas.List.{get_or_default}
use Rattle.world_subscriptions.specs.declared.queue_choice.choice.Member.{Member}
use Rattle.world_subscriptions.proofs.queue_choice.Tables.{absent, present, joins_new, joins_old}
use Rattle.world_subscriptions.proofs.queue_choice.groups.Groups.join.Goals as goal

pub returns-then-is_new-clause-joined : goal.returns-then-is_new-clause-joined
returns-then-is_new-clause-joined c =
    let groups = c.args.self.now.list.items in
    ap (λ (gs : List (List Member)). (map (λ name. name.now) c.insert_full.new.self.keys, gs)) (c.in_ok-push.ensures.items ∙ ap (λ (g : List Member). groups ++ g ∷ []) c.of.ensures)
    ∙ joins_new (λ name. name.now) c.args.self.now.names.keys c.insert_full.new.self.keys c.bytes.result groups c.args.member c.bytes.ensures c.in_ok-place.ensures.keys
    (absent _ _ c.in_ok-place.ensures.added c.if-is_new.true)

pub returns-clause-joined : goal.returns-clause-joined
returns-clause-joined c =
    let groups = c.args.self.now.list.items in
    let place = c.in_ok-place.place in
    let within : place < length groups = omega (arith, c.in_ok-place.ensures.within, c.in_ok-place.ensures.len ∙ ap (λ b. length c.args.self.now.names.keys + cond b 1 0) c.if-is_new.false, c.requires) in
    let there = c.index_mut.ensures.value ∙ get_or_default groups place c.index_mut.result.now [] within in
    ap (λ (g : List Member). (map (λ name. name.now) c.insert_full.new.self.keys, set groups place g)) (c.in_ok-push-2.ensures ∙ ap (λ (g : List Member). g ++ c.args.member ∷ []) there)
    ∙ joins_old (λ name. name.now) c.args.self.now.names.keys c.insert_full.new.self.keys c.bytes.result groups c.args.member c.bytes.ensures c.in_ok-place.ensures.keys
    (present _ _ c.in_ok-place.ensures.added c.if-is_new.false) place c.in_ok-place.ensures.index
