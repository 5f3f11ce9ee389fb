use Rattle.std.proofs.Common.{◌≡◌, ◌∙◌, [], map}
use Rattle.std.proofs.lemmas.List.{length-map}
use Rattle.mapping.specs.Sides.{other_side}
use Rattle.mapping.specs.templates.Text.{with_tokens}
use Rattle.mapping.proofs.Carries.{text_subject, within_given, written}
use Rattle.mapping.proofs.side.other_side.Goals as goal

pub filled_text-requires-clause-within : goal.filled_text-requires-clause-within
filled_text-requires-clause-within c =
    let h = within_given c.args.from.now c.args.to.now c.args.subject.now (map (λ s. s.now) c.in_ok-given.given.stars.items) c.requires.sides c.requires.member c.in_ok-given.ensures.stars in
    rw (length-map c.in_ok-given.given.stars.items (λ s. s.now)) at h

pub from_valid-requires : goal.from_valid-requires
from_valid-requires c =
    let text : c.in_ok-text.text.items ≡ with_tokens [] (other_side c.args.from.now c.args.to.now c.args.subject.now) =
    written c.args.from.now c.args.to.now c.args.subject.now _ _ _ c.in_ok-given.ensures.stars c.in_ok-given.ensures.tail c.in_ok-text.ensures in
    (text_subject c.args.from.now c.args.to.now c.args.subject.now c.in_ok-text.text.items c.requires.sides c.requires.grammar c.requires.member c.requires.short text).0

pub returns : goal.returns
returns c =
    let text : c.in_ok-text.text.items ≡ with_tokens [] (other_side c.args.from.now c.args.to.now c.args.subject.now) =
    written c.args.from.now c.args.to.now c.args.subject.now _ _ _ c.in_ok-given.ensures.stars c.in_ok-given.ensures.tail c.in_ok-text.ensures in
    c.in_ok-other.ensures
    ∙ (text_subject c.args.from.now c.args.to.now c.args.subject.now c.in_ok-text.text.items c.requires.sides c.requires.grammar c.requires.member c.requires.short text).1
