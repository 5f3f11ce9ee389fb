-- What is read of a subject's text is that subject.
use Rattle.std.proofs.Common.{◌≡◌, ◌∙◌, ℕ, List, Option, Some, None, Ok, ap}
use Rattle.subjects.specs.Subject.{Token, IsSubject, text_of, tokens_of}
use Rattle.subjects.specs.Fault.{IsParse}
use Rattle.subjects.specs.declared.error.SubjectError.{SubjectError}
use Rattle.subjects.proofs.Text.{again}

pub read_again : (s own : List Token) (text : List ℕ) (fault : Option SubjectError) → text ≡ text_of s → IsSubject s → IsParse text fault (Ok own) → own ≡ s
read_again s own text None same is read = read ∙ ap tokens_of same ∙ again s is
read_again s own text (Some fault) same is read = absurd read
