-- When two subjects are equal (docs/GUARANTEE.md, "Subjects").
use Rattle.std.specs.Prelude.{◌≡◌, Bool, List, IsTrue}
use Rattle.std.proofs.Common.{ap}
use Rattle.std.specs.Hash as fed
use Rattle.std.specs.Hash.{HashWrites}
use Rattle.std.specs.Cmp.{IsEquivalence}
use Rattle.std.specs.Cmp.Lexicographic.{pointwise, pointwise_decides, bytes_decides, lists_equiv, nat_list_eq_equiv}
use Rattle.subjects.specs.Subject.{Token, same_token, text_of}

-- they have the same tokens
abbrev pub same_subject : List Token → List Token → Bool
same_subject = pointwise same_token

pub same_subject-equiv : IsEquivalence same_subject
same_subject-equiv = lists_equiv nat_list_eq_equiv

-- what a subject is hashed by: its text
abbrev pub hashed : List Token → HashWrites
hashed ts = fed.slice fed.u8 (text_of ts)

pub hashed-alike : (s t : List Token) → IsTrue (same_subject s t) → hashed s ≡ hashed t
hashed-alike s t h = ap hashed ((pointwise_decides bytes_decides s t).0 h)
