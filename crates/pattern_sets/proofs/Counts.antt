-- How many tokens a pattern has at most, and which texts are subjects.
use Rattle.std.proofs.Common.{◌≡◌, ◌≤◌, ◌&&◌, ℕ, Bool, true, false, List, ◌∷◌, [], length, arith, Option, Some, None, refl, if◌then◌else◌}
use Rattle.std.specs.List.{list_all}
use Rattle.std.specs.Prelude.{is_some, nat_le}
use Rattle.std.proofs.lemmas.Bool.{and_parts}
use Rattle.std.proofs.lemmas.Bool.Decides.{nat_tests}
use Rattle.subjects.specs.Fault.{subject_fault, subject_if}
use Rattle.subjects.specs.Subject.{Token, is_subject, is_token, tail_is_last, tokens_of, IsPattern}
use Rattle.subjects.specs.declared.error.SubjectError.{SubjectError}
use Rattle.subjects.proofs.Grammar.{no_fault_from_subject, subject_from_no_fault}

few_by : (n : ℕ) → nat_le n 512 ≡ true → n ≤ 512
few_by n h = grind (arith, nat_tests)

pub pattern_few : (p : List Token) → IsPattern p → length p ≤ 512
pattern_few [] h = omega arith
pattern_few (t ∷ ts) h =
    few_by (length (t ∷ ts)) (and_parts (list_all is_token (t ∷ ts) && tail_is_last (t ∷ ts)) (nat_le (length (t ∷ ts)) 512) h).1

by_fault : (fault : Option SubjectError) (is : Bool) (tokens : List Token) → (fault ≡ None → is ≡ true) → (is ≡ true → fault ≡ None) → is_some (if is_some fault then None else Some tokens) ≡ is
by_fault None true tokens f g = refl
by_fault None false tokens f g = let bad : false ≡ true = f refl in absurd (cc)
by_fault (Some fault) true tokens f g = let bad : Some fault ≡ None = g refl in absurd (cc)
by_fault (Some fault) false tokens f g = refl

pub is_some_subject : (text : List ℕ) → is_some (subject_if text) ≡ is_subject (tokens_of text)
is_some_subject text =
    by_fault (subject_fault text) (is_subject (tokens_of text)) (tokens_of text) (subject_from_no_fault text) (no_fault_from_subject text)
