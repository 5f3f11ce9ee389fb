-- Whether two patterns are equal.
use Rattle.std.proofs.Common.{◌≡◌, Bool, true, false, true≢false, List, refl, sym}
use Rattle.std.specs.Bool.{Decides}
use Rattle.std.specs.Cmp.Lexicographic.{pointwise_decides, bytes_decides}
use Rattle.subjects.specs.Equal.{same_subject}
use Rattle.subjects.specs.Subject.{Token}

one_answer : (P : Type 0) (b c : Bool) → Decides b P → Decides c P → b ≡ c
one_answer P true true d e = refl
one_answer P false false d e = refl
one_answer P true false d e = absurd (true≢false (sym (e.1 (d.0 refl))))
one_answer P false true d e = absurd (true≢false (sym (d.1 (e.0 refl))))

-- a test that decides it is the one by tokens
pub by_tokens : (p q : List Token) (b : Bool) → Decides b (p ≡ q) → b ≡ same_subject p q
by_tokens p q b told = one_answer (p ≡ q) b (same_subject p q) told (pointwise_decides bytes_decides p q)
