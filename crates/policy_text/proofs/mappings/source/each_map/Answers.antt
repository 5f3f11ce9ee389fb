use Rattle.std.proofs.Common.{rules, ◌≡◌, ◌∙◌, [], ◌∷◌, ◌++◌, ap, string_bytes, sym}
use Rattle.serde_json.specs.View.{members_view, view}
use Rattle.serde_json.proofs.Views.{Entry}
use Rattle.policy_walk.proofs.Lists.{with_front}
use Rattle.policy_text.specs.mappings.Mappings.{maps_from}
use Rattle.policy_text.proofs.mappings.Maps.{goes_on}
use Rattle.policy_text.proofs.mappings.source.each_map.Goals as goal

pub loop-key-preserved : goal.loop-key-preserved
loop-key-preserved c =
    let l = c.loop-key in
    let e : Entry = (c.in-Some.key.now, c.in-Some.value.now) in
    let left : l.key-iterator ≡ e ∷ c.next.new.self = c.in-Some.ensures.steps in
    let pushed : c.push.new.self.items ≡ l.maps.items ++ c.in_ok-map.map ∷ [] = c.in_ok-push.ensures.items in
    rw pushed (goes_on c.args.path.now l.maps.items (string_bytes e.0) (view e.1) (members_view c.next.new.self) c.in_ok-map.map (maps_from c.args.path.now (members_view c.args.members.now.entries))
    (search rules) (ap (λ es. with_front l.maps.items (maps_from c.args.path.now (members_view es))) (sym left) ∙ l.invariant))
