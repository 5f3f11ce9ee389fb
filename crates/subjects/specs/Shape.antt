-- What one walk over a text's tokens finds.
use Rattle.std.specs.Prelude.{◌≡◌, ◌==◌, ℕ, List, length, nat_lt}
use Rattle.std.specs.List.{list_any}
use Rattle.subjects.specs.Subject.{Token, is_wildcard, tail_is_last, tokens_of}
use Rattle.subjects.specs.declared.faults.Shape.{Shape}

-- each of the four tests is that of the text's tokens
pub record HasShape (shape : Shape) (text : List ℕ) : Type 0 where
  pub empty_token : shape.has_empty_token ≡ list_any (λ (t : Token). length t == 0) (tokens_of text)
  pub tail_last : shape.has_tail_last ≡ tail_is_last (tokens_of text)
  pub too_many : shape.has_too_many_tokens ≡ nat_lt 512 (length (tokens_of text))
  pub wildcard : shape.has_wildcard ≡ list_any is_wildcard (tokens_of text)
