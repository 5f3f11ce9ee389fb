-- the text has no fault exactly where its tokens are a subject
use Rattle.std.proofs.Common.{sym, ◌∙◌}
use Rattle.subjects.proofs.Grammar.{taken_from_subject, refused_from_other}
use Rattle.subjects.proofs.subject_ref.SubjectRef.of.Goals as goal

pub returns-then-is_subject-clause-tokens : goal.returns-then-is_subject-clause-tokens
returns-then-is_subject-clause-tokens c =
    sym (taken_from_subject c.args.text.now (sym c.is_subject.ensures ∙ c.if-is_subject.true))

pub returns-else-is_subject-clause-tokens : goal.returns-else-is_subject-clause-tokens
returns-else-is_subject-clause-tokens c =
    sym (refused_from_other c.args.text.now (sym c.is_subject.ensures ∙ c.if-is_subject.false))
