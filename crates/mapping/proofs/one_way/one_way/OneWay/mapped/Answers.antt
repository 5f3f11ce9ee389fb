use Rattle.std.proofs.Common.{◌≡◌, ◌∙◌, [], ap, rules, subst}
use Rattle.mapping.specs.Pairs.{RowMap}
use Rattle.mapping.specs.templates.Text.{with_tokens}
use Rattle.mapping.specs.one_way.OneWay.{IsOneWay, mapped, way}
use Rattle.mapping.proofs.one_way.Ways.{text_subject}
use Rattle.mapping.proofs.one_way.one_way.OneWay.mapped.Goals as goal

pub from_valid-requires : goal.from_valid-requires
from_valid-requires c =
    let numbers : c.as_slice.result.now ≡ c.self.inside.references.items = search rules in
    let text : c.in_ok-text.text.items ≡ with_tokens [] (mapped c.args.self.now c.args.subject.now) =
    subst (λ (m : RowMap). c.in_ok-text.text.items ≡ with_tokens [] (mapped m c.args.subject.now)) c.self.view_is
    (c.in_ok-text.ensures ∙ ap (λ ns. with_tokens [] (mapped (way c.self.inside.outer c.self.inside.local ns) c.args.subject.now)) numbers) in
    (text_subject c.args.self.now c.args.subject.now c.in_ok-text.text.items (subst IsOneWay c.self.view_is c.self.invariant.0) c.tokens.ensures.grammar c.requires.member c.requires.short text).0

pub returns : goal.returns
returns c =
    let numbers : c.as_slice.result.now ≡ c.self.inside.references.items = search rules in
    let text : c.in_ok-text.text.items ≡ with_tokens [] (mapped c.args.self.now c.args.subject.now) =
    subst (λ (m : RowMap). c.in_ok-text.text.items ≡ with_tokens [] (mapped m c.args.subject.now)) c.self.view_is
    (c.in_ok-text.ensures ∙ ap (λ ns. with_tokens [] (mapped (way c.self.inside.outer c.self.inside.local ns) c.args.subject.now)) numbers) in
    c.in_ok-mapped.ensures
    ∙ (text_subject c.args.self.now c.args.subject.now c.in_ok-text.text.items (subst IsOneWay c.self.view_is c.self.invariant.0) c.tokens.ensures.grammar c.requires.member c.requires.short text).1
