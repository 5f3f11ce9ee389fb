-- the texts are the same exactly where their tokens are
use Rattle.std.proofs.Common.{◌∙◌, ap, nat_eq}
use Rattle.std.specs.Cmp.Lexicographic.{pointwise}
use Rattle.subjects.specs.Equal.{same_subject}
use Rattle.subjects.specs.Subject.{text_of, tokens_of}
use Rattle.subjects.proofs.Same.{same_texts}
use Rattle.subjects.proofs.Text.{again}
use Rattle.reply_grants.proofs.subject_key.SubjectKeyEquivalentSubject.equivalent.Goals as goal

pub returns : goal.returns
returns c =
    let text = c.args.self.now.text.now in
    let key = c.args.key.now in
    c.eq.ensures ∙ ap (λ t. pointwise nat_eq text t) c.bytes.ensures ∙ same_texts text (text_of key)
    ∙ ap (λ ts. same_subject (tokens_of text) ts) (again key c.tokens-known.ensures.grammar)
