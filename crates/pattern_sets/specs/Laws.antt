-- Why a few samples tell whether two lists judge some question differently (docs/GUARANTEE.md, "Comparing sets of subjects").
use Rattle.std.specs.Prelude.{◌≡◌, ◌<◌, Bool, true, false, List, [], ◌∷◌, Option, Some, None, length, take}
use Rattle.std.specs.List.{list_any}
use Rattle.subjects.specs.Subject.{Token, covers, is_literal, is_tail, same_token, IsPattern, IsSubject}
use Rattle.pattern_sets.specs.Samples.{part, sample}

-- whether a pattern has a token
abbrev pub has_token : Token → List Token → Bool
has_token token pattern = list_any (λ (t : Token). same_token t token) pattern

-- whether the last token is `>`
abbrev pub has_tail : List Token → Bool
has_tail [] = false
has_tail (t ∷ []) = is_tail t
has_tail (t ∷ u ∷ us) = has_tail (u ∷ us)

-- the sample of what two parts have in common, where both patterns have parts
abbrev pub sample_of : Token → Option (List Token) → Option (List Token) → Option (List Token)
sample_of fresh None other = None
sample_of fresh (Some one) None = None
sample_of fresh (Some one) (Some other) = sample fresh one other

-- A sample stands for a question: it is a question of the same length that both patterns cover, and whatever pattern without the
-- fresh token covers the sample covers the question.
pub record StandsFor (fresh : Token) (one other asked sampled : List Token) : Type 0 where
  pub first : covers one sampled ≡ true
  pub second : covers other sampled ≡ true
  pub length_is : length sampled ≡ length asked
  pub pattern : IsPattern sampled
  pub subject : IsSubject asked → IsSubject sampled
  pub sample_law : (entry : List Token) → has_token fresh entry ≡ false → covers entry sampled ≡ true → covers entry asked ≡ true

-- Whatever two patterns both cover, the sample of their parts of its length stands for it.
abbrev pub SamplesSuffice : Type 0
SamplesSuffice = (fresh : Token) (one other asked : List Token) → is_literal fresh ≡ true → IsPattern asked → covers one asked ≡ true → covers other asked ≡ true →
    (sampled : List Token)
    × (sample_of fresh (part (has_tail asked) (length asked) one) (part (has_tail asked) (length asked) other) ≡ Some sampled)
    × StandsFor fresh one other asked sampled

-- A pattern that is shorter than two others, which begin alike, covers both or none: longer questions than any entry are judged
-- like those with one token more than the longest.
abbrev pub LengthsSuffice : Type 0
LengthsSuffice = (entry one other : List Token) → length entry < length one → length entry < length other → take (length entry) one ≡ take (length entry) other →
    covers entry one ≡ covers entry other
