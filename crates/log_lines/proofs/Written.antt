-- What is written part by part.
use Rattle.std.proofs.Common.{◌≡◌, ◌∙◌, ◌++◌, List, ap}
use Rattle.std.proofs.lemmas.List.{append_assoc}
use Rattle.json.specs.Token.{Token}
use Rattle.json.specs.Written.{Written}
use Rattle.log_lines.specs.Lines.{IsWritten}

-- one part, and then another
pub written_then : (old between new : Written) (one other : List Token) → IsWritten old between one → IsWritten between new other → IsWritten old new (one ++ other)
written_then old between new one other first next = record {
  before = next.before ∙ first.before;
  written = next.written ∙ ap (λ (tokens : List Token). tokens ++ other) first.written ∙ append_assoc old.tokens one other;
}
