-- Which texts are questions, by their grammar.
use Rattle.std.proofs.Common.{◌≡◌, ℕ, Bool, true, false, List, Option, Some, None, refl}
use Rattle.std.specs.Prelude.{is_some, if◌then◌else◌}
use Rattle.subjects.specs.Fault.{pattern_fault, pattern_if, subject_fault, subject_if}
use Rattle.subjects.specs.Subject.{Token, is_pattern, is_subject, tokens_of}
use Rattle.subjects.specs.declared.error.SubjectError.{SubjectError}
use Rattle.subjects.proofs.Grammar.{pattern_from_no_fault, no_fault_from_pattern, subject_from_no_fault, no_fault_from_subject}
use Rattle.message_changes.specs.Judging.{if_so}

by_fault : (fault : Option SubjectError) (is : Bool) (tokens : List Token) → (fault ≡ None → is ≡ true) → (is ≡ true → fault ≡ None) →
    (if is_some fault then None else Some tokens) ≡ if_so is tokens
by_fault None true tokens f g = refl
by_fault None false tokens f g = let bad : false ≡ true = f refl in absurd (cc)
by_fault (Some fault) true tokens f g = let bad : Some fault ≡ None = g refl in absurd (cc)
by_fault (Some fault) false tokens f g = refl

pub pattern_as : (text : List ℕ) → pattern_if text ≡ if_so (is_pattern (tokens_of text)) (tokens_of text)
pattern_as text =
    by_fault (pattern_fault text) (is_pattern (tokens_of text)) (tokens_of text) (pattern_from_no_fault text) (no_fault_from_pattern text)

pub subject_as : (text : List ℕ) → subject_if text ≡ if_so (is_subject (tokens_of text)) (tokens_of text)
subject_as text =
    by_fault (subject_fault text) (is_subject (tokens_of text)) (tokens_of text) (subject_from_no_fault text) (no_fault_from_subject text)
