use Rattle.std.proofs.Common.{◌≡◌, ◌∙◌, ◌∷◌, ◌++◌, true, false, ap, sym, refl, string_bytes}
use Rattle.serde_json.proofs.Views.{Entry}
use Rattle.policy_sets.specs.Sets.{is_in}
use Rattle.policy_sets.specs.parts.Parts.{account_if}
use Rattle.policy_sets.proofs.parts.Members.{one_more}
use Rattle.policy_sets.proofs.parts.cutting.named_of.Goals as goal

pub loop-key-preserved-in_ok-put : goal.loop-key-preserved-in_ok-put
loop-key-preserved-in_ok-put c =
    let l = c.loop-key in
    let e : Entry = (c.in-Some.key.now, c.in-Some.member.now) in
    let all : c.args.members.now.entries ≡ l.invariant.0 ++ e ∷ c.next.new.self = l.invariant.1 ∙ ap (λ es. l.invariant.0 ++ es) c.in-Some.ensures.steps in
    let among : is_in c.args.names.now (string_bytes e.0) ≡ true = ap (is_in c.args.names.now) (sym (c.as_bytes.ensures.value ∙ c.as_str.ensures.value)) ∙ sym c.is_in.ensures ∙ c.if-is_in.true in
    one_more (account_if (is_in c.args.names.now)) c.args.members.now.entries l.invariant.0 c.next.new.self e l.kept.entries c.put.new.map.entries all c.iter-key-items.ensures.ordered l.invariant.2
    (c.in_ok-put.ensures.ok ∙ rw (c.as_str-then-is_in.ensures.value, c.in_ok-clone.ensures.cases, among) refl)

pub loop-key-preserved : goal.loop-key-preserved
loop-key-preserved c =
    let l = c.loop-key in
    let e : Entry = (c.in-Some.key.now, c.in-Some.member.now) in
    let all : c.args.members.now.entries ≡ l.invariant.0 ++ e ∷ c.next.new.self = l.invariant.1 ∙ ap (λ es. l.invariant.0 ++ es) c.in-Some.ensures.steps in
    let apart : is_in c.args.names.now (string_bytes e.0) ≡ false = ap (is_in c.args.names.now) (sym (c.as_bytes.ensures.value ∙ c.as_str.ensures.value)) ∙ sym c.is_in.ensures ∙ c.if-is_in.false in
    one_more (account_if (is_in c.args.names.now)) c.args.members.now.entries l.invariant.0 c.next.new.self e l.kept.entries l.kept.entries all c.iter-key-items.ensures.ordered l.invariant.2
    (rw apart refl)
