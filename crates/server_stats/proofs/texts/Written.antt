-- What is written part by part.
use Rattle.std.proofs.Common.{◌≡◌, ◌∙◌, ◌++◌, ◌∷◌, [], ℕ, List, ap, ap₂}
use Rattle.std.proofs.lemmas.List.{append_assoc}
use Rattle.std.specs.Prelude.{codes}
use Rattle.json.specs.Print.{print}
use Rattle.json.specs.Token.{Token, begin_object, end_object}
use Rattle.json.specs.Written.{Written}
use Rattle.server_stats.specs.texts.Line.{IsWritten}

-- one part, and then another
pub written_then : (old between new : Written) (one other : List Token) → IsWritten old between one → IsWritten between new other → IsWritten old new (one ++ other)
written_then old between new one other first next = record {
  before = next.before ∙ first.before;
  written = next.written ∙ ap (λ (tokens : List Token). tokens ++ other) first.written ∙ append_assoc old.tokens one other;
}

-- an object that is all that was written, and LF
pub object_line : (empty begun filled ended : Written) (members : List Token) (text line : List ℕ) → empty.before ≡ [] → empty.tokens ≡ []
    → begun.before ≡ empty.before → begun.tokens ≡ empty.tokens ++ begin_object ∷ [] → IsWritten begun filled members
    → ended.before ≡ filled.before → ended.tokens ≡ filled.tokens ++ end_object ∷ [] → text ≡ ended.before ++ print ended.tokens
    → line ≡ text ++ codes "\n" → line ≡ print (begin_object ∷ members ++ end_object ∷ []) ++ codes "\n"
object_line empty begun filled ended members text line none no_tokens kept begin middle kept_too end_ all lf =
    lf ∙ ap (λ (bytes : List ℕ). bytes ++ codes "\n") (all ∙ ap₂ (λ (bytes : List ℕ) (tokens : List Token). bytes ++ print tokens)
    (kept_too ∙ middle.before ∙ kept ∙ none)
    (end_ ∙ ap (λ (tokens : List Token). tokens ++ end_object ∷ []) (middle.written ∙ ap (λ (tokens : List Token). tokens ++ members)
    (begin ∙ ap (λ (tokens : List Token). tokens ++ begin_object ∷ []) no_tokens))))
