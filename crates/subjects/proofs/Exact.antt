-- Parsing accepts exactly the grammar.
use Rattle.std.proofs.Common.{◌≡◌, ℕ, Bool, true, false, List, Option, Some, None, Result, Ok, Err, ltb, length, ◌==◌, refl}
use Rattle.std.specs.List.{list_all, list_any}
use Rattle.subjects.specs.Subject.{Token, is_text_byte, is_wildcard, tail_is_last, tokens_of, IsPattern, IsSubject}
use Rattle.subjects.specs.Fault.{pattern_fault, subject_fault, or_wildcard, IsParse, AcceptsExactly}
use Rattle.subjects.specs.declared.error.SubjectError.{SubjectError}
use Rattle.subjects.specs.declared.error.SubjectError.TheVariants.{Empty, EmptyToken, BadByte, WildcardNotLast, TooManyTokens, NoMemory, Wildcard}
use Rattle.subjects.proofs.Grammar.{first_fault, is_empty, pattern_from_no_fault, no_fault_from_pattern, subject_from_no_fault, no_fault_from_subject}

refused : (e : SubjectError) (inside : Type 0) → (e ≡ NoMemory → inside) → ((e ≡ NoMemory → ⊥) → inside → ⊥) → AcceptsExactly inside (Err e)
refused Empty inside holds fails = fails (λ h. cc)
refused EmptyToken inside holds fails = fails (λ h. cc)
refused BadByte inside holds fails = fails (λ h. cc)
refused WildcardNotLast inside holds fails = fails (λ h. cc)
refused TooManyTokens inside holds fails = fails (λ h. cc)
refused Wildcard inside holds fails = fails (λ h. cc)
refused NoMemory inside holds fails = holds refl

exact : (text : List ℕ) (fault : Option SubjectError) (r : Result (List Token) SubjectError) (inside : Type 0) → IsParse text fault r → (fault ≡ None → inside) → (inside → fault ≡ None) → (fault ≡ Some NoMemory → ⊥) → AcceptsExactly inside r
exact text None (Ok ts) inside p holds fails other = holds refl
exact text None (Err e) inside p holds fails other = refused e inside (λ h. holds refl) (λ h i. h p)
exact text (Some fault) (Ok ts) inside p holds fails other = absurd p
exact text (Some fault) (Err e) inside p holds fails other =
    refused e inside (λ h. absurd (other cc)) (λ h i. let is = fails i in cc)

first_is_not : (none bytes hollow tail many : Bool) → first_fault none bytes hollow tail many ≡ Some NoMemory → ⊥
first_is_not true bytes hollow tail many e = cc
first_is_not false false hollow tail many e = cc
first_is_not false true true tail many e = cc
first_is_not false true false false many e = cc
first_is_not false true false true true e = cc
first_is_not false true false true false e = cc

pattern_is_not : (text : List ℕ) → pattern_fault text ≡ Some NoMemory → ⊥
pattern_is_not text =
    first_is_not (length text == 0) (list_all is_text_byte text) (list_any is_empty (tokens_of text)) (tail_is_last (tokens_of text)) (ltb 512 (length (tokens_of text)))

wildcard_is_not : (fault : Option SubjectError) (any : Bool) → (fault ≡ Some NoMemory → ⊥) → or_wildcard fault any ≡ Some NoMemory → ⊥
wildcard_is_not (Some fault) any h e = h e
wildcard_is_not None true h e = cc
wildcard_is_not None false h e = cc

pub pattern_exact : (text : List ℕ) (r : Result (List Token) SubjectError) → IsParse text (pattern_fault text) r → AcceptsExactly (IsPattern (tokens_of text)) r
pattern_exact text r p =
    exact text (pattern_fault text) r (IsPattern (tokens_of text)) p (pattern_from_no_fault text) (no_fault_from_pattern text) (pattern_is_not text)

pub subject_exact : (text : List ℕ) (r : Result (List Token) SubjectError) → IsParse text (subject_fault text) r → AcceptsExactly (IsSubject (tokens_of text)) r
subject_exact text r p =
    exact text (subject_fault text) r (IsSubject (tokens_of text)) p (subject_from_no_fault text) (no_fault_from_subject text) (wildcard_is_not (pattern_fault text) (list_any is_wildcard (tokens_of text)) (pattern_is_not text))

pub pattern_refused : (text : List ℕ) (fault : SubjectError) → pattern_fault text ≡ Some fault → AcceptsExactly (IsPattern (tokens_of text)) (Err fault)
pattern_refused text fault e = pattern_exact text (Err fault) (rw e refl)

pub subject_refused : (text : List ℕ) (fault : SubjectError) → subject_fault text ≡ Some fault → AcceptsExactly (IsSubject (tokens_of text)) (Err fault)
subject_refused text fault e = subject_exact text (Err fault) (rw e refl)
