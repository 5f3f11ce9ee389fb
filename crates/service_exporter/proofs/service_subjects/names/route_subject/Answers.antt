-- its text has the subject's tokens
use Rattle.std.proofs.Common.{◌<◌, ◌^◌, ◌∙◌, ap, subst, sym}
use Rattle.subjects.specs.Subject.{IsSubject, tokens_of}
use Rattle.service_exporter.proofs.service_subjects.Tokens.{is_subject_of_route, tokens_of_route}
use Rattle.service_exporter.proofs.service_subjects.names.route_subject.Goals as goal

pub from_valid-requires : goal.from_valid-requires
from_valid-requires c =
    let fits : c.args.number < 2 ^ 64 = c.ranges.number.fits in
    subst IsSubject (sym (ap tokens_of c.in_ok-text.ensures ∙ tokens_of_route c.args.word c.args.number fits)) (is_subject_of_route c.args.word c.args.number fits)

pub returns : goal.returns
returns c =
    let fits : c.args.number < 2 ^ 64 = c.ranges.number.fits in
    c.in_ok-subject.ensures ∙ ap tokens_of c.in_ok-text.ensures ∙ tokens_of_route c.args.word c.args.number fits
