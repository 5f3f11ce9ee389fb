-- What a parser found is what a text without a fault has.
use Rattle.std.proofs.Common.{◌≡◌, ◌∙◌, ℕ, List, Option, Some, None, Result, Ok, Err, true, false, cond, ap}
use Rattle.std.specs.Option.{is_some}
use Rattle.subjects.specs.Subject.{Token, tokens_of}
use Rattle.subjects.specs.Fault.{IsParse, is_no_memory}
use Rattle.subjects.specs.declared.error.SubjectError.{SubjectError}
use Rattle.subjects.specs.texts.Found.{IsFound}

-- a text with no fault has its tokens, and one with a fault has none
pub found_is : (text : List ℕ) (fault : Option SubjectError) (parsed : Result (List Token) SubjectError) (found : Option (List Token)) →
    IsParse text fault parsed → IsFound parsed found → found ≡ cond (is_some fault) None (Some (tokens_of text))
found_is text None (Ok ts) found h is = is ∙ ap Some h
found_is text (Some f) (Ok ts) found h is = absurd h
found_is text None (Err e) found h is = let memory : is_no_memory e ≡ true = ap is_no_memory h in let other : is_no_memory e ≡ false = is.0 in absurd (cc)
found_is text (Some f) (Err e) found h is = is.1
