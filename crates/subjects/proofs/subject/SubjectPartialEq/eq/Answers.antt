-- subjects have the same tokens exactly where they have the same text
use Rattle.std.proofs.Common.{◌∙◌, ap, nat_eq}
use Rattle.std.specs.Cmp.Lexicographic.{pointwise}
use Rattle.subjects.specs.Equal.{same_subject}
use Rattle.subjects.specs.Subject.{tokens_of}
use Rattle.subjects.proofs.Same.{same_texts}
use Rattle.subjects.proofs.subject.SubjectPartialEq.eq.Goals as goal

pub returns : goal.returns
returns c =
    c.eq.ensures ∙ (λ i. pointwise nat_eq (c.as_slice.ensures i) (c.as_slice-2.ensures i))
    ∙ same_texts c.self.inside.text c.other.inside.text
    ∙ ap (λ ts. same_subject ts (tokens_of c.other.inside.text)) c.self.view_is ∙ ap (λ ts. same_subject c.args.self.now ts) c.other.view_is
