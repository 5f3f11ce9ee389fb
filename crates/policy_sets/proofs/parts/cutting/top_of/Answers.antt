use Rattle.std.proofs.Common.{◌≡◌, ◌∙◌, ◌∷◌, ◌++◌, ap, string_bytes}
use Rattle.serde_json.specs.Data.{put}
use Rattle.serde_json.specs.View.{view, members_view}
use Rattle.serde_json.proofs.Views.{Entry}
use Rattle.policy_sets.specs.Sets.{is_in}
use Rattle.policy_sets.specs.parts.Parts.{top_kept}
use Rattle.policy_sets.proofs.parts.Members.{one_more, put_if}
use Rattle.policy_sets.proofs.parts.cutting.top_of.Goals as goal

pub loop-key-preserved : goal.loop-key-preserved
loop-key-preserved c =
    let l = c.loop-key in
    let e : Entry = (c.in-Some.key.now, c.in-Some.member.now) in
    let all : c.args.members.now.entries ≡ l.invariant.0 ++ e ∷ c.next.new.self = l.invariant.1 ∙ ap (λ es. l.invariant.0 ++ es) c.in-Some.ensures.steps in
    let made = top_kept (is_in c.args.names.now) in
    one_more made c.args.members.now.entries l.invariant.0 c.next.new.self e l.top.entries c.put.new.map.entries all c.iter-key-items.ensures.ordered l.invariant.2
    (c.in_ok-put.ensures.ok ∙ ap (λ k. put k (view c.in_ok-kept.kept) (members_view l.top.entries)) c.as_str-in-loop-key.ensures.value
    ∙ ap (λ o. put_if (string_bytes e.0) o (members_view l.top.entries)) (c.in_ok-kept.ensures ∙ ap (λ k. made k (view e.1)) c.as_str.ensures.value))
