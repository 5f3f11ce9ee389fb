-- What a pattern's tokens are.
use Rattle.std.proofs.Common.{◌≡◌, ◌≤◌, ℕ, true, leb, List, [], ◌∷◌, Option, Some, None, Ok, length, arith}
use Rattle.std.specs.List.{list_all}
use Rattle.std.proofs.lemmas.Bool.Decides.{nat_tests}
use Rattle.subjects.specs.Subject.{Token, is_token, tail_is_last, tokens_of, IsPattern}
use Rattle.subjects.specs.Fault.{IsParse}
use Rattle.subjects.specs.declared.error.SubjectError.{SubjectError}
use Rattle.subjects.proofs.Grammar.{all_tests}

pub record IsGrammar (ts : List Token) : Type 0 where
  pub tokens : list_all is_token ts ≡ true
  pub last : tail_is_last ts ≡ true
  pub short : length ts ≤ 512

pub grammar : (ts : List Token) → IsPattern ts → IsGrammar ts
grammar [] h = absurd (cc)
grammar (t ∷ ts) h =
    let tests = all_tests (list_all is_token (t ∷ ts)) (tail_is_last (t ∷ ts)) (leb (length (t ∷ ts)) 512) h in
    record { tokens = tests.0; last = tests.1; short = grind (arith, nat_tests, tests.2) }

pub pattern_short : (ts : List Token) → IsPattern ts → length ts ≤ 512
pattern_short ts h = (grammar ts h).short

pub parsed_is : (text : List ℕ) (fault : Option SubjectError) (ts : List Token) → IsParse text fault (Ok ts) → ts ≡ tokens_of text
parsed_is text None ts h = h
parsed_is text (Some fault) ts h = absurd h
