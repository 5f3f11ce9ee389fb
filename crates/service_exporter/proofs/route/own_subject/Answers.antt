-- its text is the subject's
use Rattle.std.proofs.Common.{◌∙◌, ap, subst, sym}
use Rattle.subjects.specs.Subject.{IsSubject, tokens_of}
use Rattle.subjects.proofs.Text.{again}
use Rattle.service_exporter.proofs.route.own_subject.Goals as goal

pub from_valid-requires : goal.from_valid-requires
from_valid-requires c =
    subst IsSubject (sym (ap tokens_of (c.in_ok-text.ensures.items ∙ c.bytes.ensures) ∙ again c.args.subject.now c.tokens-known.ensures.grammar)) c.tokens-known.ensures.grammar

pub returns : goal.returns
returns c =
    c.in_ok-own.ensures ∙ ap tokens_of (c.in_ok-text.ensures.items ∙ c.bytes.ensures) ∙ again c.args.subject.now c.tokens-known.ensures.grammar
