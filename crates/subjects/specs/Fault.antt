-- What is wrong with a text as a pattern or as a subject (docs/GUARANTEE.md, "Subjects").
use Rattle.std.specs.Prelude.{◌≡◌, ◌==◌, ℕ, Bool, true, false, not, List, length, Option, Some, None, is_some, Result, Ok, Err, if◌then◌else◌, nat_lt, codes}
use Rattle.std.specs.List.{list_any, list_all}
use Rattle.subjects.specs.Subject.{Token, tokens_of, is_text_byte, is_wildcard, tail_is_last}
use Rattle.subjects.specs.declared.error.SubjectError.{SubjectError}
use Rattle.subjects.specs.declared.error.SubjectError.TheVariants.{Empty, EmptyToken, BadByte, WildcardNotLast, TooManyTokens, NoMemory, Wildcard}

-- the first fault of a pattern's text, in the order in which they are answered
abbrev pub pattern_fault : List ℕ → Option SubjectError
pattern_fault text =
    if length text == 0 then Some Empty
    else if not (list_all is_text_byte text) then Some BadByte
    else if list_any (λ (t : Token). length t == 0) (tokens_of text) then Some EmptyToken
    else if not (tail_is_last (tokens_of text)) then Some WildcardNotLast
    else if nat_lt 512 (length (tokens_of text)) then Some TooManyTokens
    else None

-- a fault, or else a wildcard where there is one
abbrev pub or_wildcard : Option SubjectError → Bool → Option SubjectError
or_wildcard (Some fault) _ = Some fault
or_wildcard None any = if any then Some Wildcard else None

-- a subject's text has a pattern's faults, and then may have no wildcard
abbrev pub subject_fault : List ℕ → Option SubjectError
subject_fault text = or_wildcard (pattern_fault text) (list_any is_wildcard (tokens_of text))

-- the tokens of a text that is a subject, or a pattern
abbrev pub subject_if : List ℕ → Option (List Token)
subject_if text = if is_some (subject_fault text) then None else Some (tokens_of text)

abbrev pub pattern_if : List ℕ → Option (List Token)
pattern_if text = if is_some (pattern_fault text) then None else Some (tokens_of text)

-- The tokens of a text with no fault, or want of memory for them; else the text's fault.
abbrev pub IsParse : List ℕ → Option SubjectError → Result (List Token) SubjectError → Type 0
IsParse text None (Ok ts) = ts ≡ tokens_of text
IsParse text None (Err e) = e ≡ NoMemory
IsParse text (Some fault) (Ok ts) = ⊥
IsParse text (Some fault) (Err e) = e ≡ fault

-- memory could not be had, for a text that has no fault
abbrev pub is_no_memory : SubjectError → Bool
is_no_memory NoMemory = true
is_no_memory _ = false

-- Exactly what is within a grammar is accepted: a refusal for any cause but want of memory is of what is not.
abbrev pub AcceptsExactly : Type 0 → Result (List Token) SubjectError → Type 0
AcceptsExactly inside (Ok ts) = inside
AcceptsExactly inside (Err NoMemory) = inside
AcceptsExactly inside (Err _) = ¬ inside

-- what is said of an error
abbrev pub error_text : SubjectError → List ℕ
error_text Empty = codes "the subject is empty"
error_text EmptyToken = codes "the subject has an empty token"
error_text BadByte = codes "the subject has a byte that no token may have"
error_text WildcardNotLast = codes "the subject has `>` before its last token"
error_text TooManyTokens = codes "the subject has more than 512 tokens"
error_text NoMemory = codes "no memory"
error_text Wildcard = codes "the subject has a wildcard"
