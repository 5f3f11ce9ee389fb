-- a subject's text has its tokens
use Rattle.std.proofs.Common.{◌∙◌, ap}
use Rattle.subjects.specs.Subject.{tokens_of}
use Rattle.subjects.proofs.Text.{again}
use Rattle.reply_grants.proofs.subject_key.SubjectKey.of.Goals as goal

pub returns : goal.returns
returns c = ap tokens_of c.bytes.ensures ∙ again c.args.subject.now c.tokens-known.ensures.grammar
