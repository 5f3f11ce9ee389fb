-- The search for the least number at which something is wrong.
use Rattle.std.specs.Prelude.{◌≡◌, ◌==◌, ◌+◌, ◌<◌, ◌&&◌, ◌||◌, ℕ, Option, None, Some, List, Bool, true, not, filter, length, min, All, nat_lt}
use Rattle.hub.specs.History.{State}
use Rattle.hub.specs.Segments.{HistoryPart, first_number}
use Rattle.hub.specs.joins.Joins.{parts_of, has_number, due, Begins, is_judged}

-- the lesser of two numbers, where there is one
abbrev pub lesser : Option ℕ → Option ℕ → Option ℕ
lesser None other = other
lesser (Some one) None = Some one
lesser (Some one) (Some other) = Some (min one other)

-- below a number, where there is one, and below 2^64
abbrev pub IsBelow : ℕ → Option ℕ → Type 0
IsBelow n None = n < 18446744073709551616
IsBelow n (Some most) = (n < most) × (n < 18446744073709551616)

-- a number stands in as many parts as it is to
abbrev pub IsInPlace : List HistoryPart → State → ℕ → Type 0
IsInPlace segments s n = length (filter (has_number n) (parts_of segments s)) ≡ due s.world.number n

-- where a number is the first of a part, that begins in the world in which the part before it ends
abbrev pub IsBegun : List HistoryPart → State → HistoryPart → ℕ → Type 0
IsBegun segments s q n = is_judged s q ≡ true → first_number q ≡ n → Begins (parts_of segments s) q

-- Below a number nothing is wrong at what a part says: at the number after its opening world's, at that after its closing
-- world's, and at its first one.
pub record IsClear (segments : List HistoryPart) (s : State) (least : Option ℕ) (q : HistoryPart) : Type 0 where
  pub first : IsBelow (q.opening.number + 1) least → IsInPlace segments s (q.opening.number + 1)
  pub next : IsBelow (q.closing.number + 1) least → IsInPlace segments s (q.closing.number + 1)
  pub begun : (n : ℕ) → IsBelow n least → IsBegun segments s q n

-- Something is wrong at a number, which a part shows.
abbrev pub IsFaultOf : List HistoryPart → State → HistoryPart → ℕ → Type 0
IsFaultOf segments s q n = IsInPlace segments s n → IsBegun segments s q n → ⊥

-- what stands at a place may be the part before one at another place, where the nearest part below that is given
abbrev pub is_before : ℕ → ℕ → ℕ → Bool → Bool
is_before before nearest at empty = (nat_lt before at || (empty && before == at)) && not (nat_lt before nearest)

-- every number is below 2^64
abbrev pub AreNumbered : List HistoryPart → Type 0
AreNumbered ps = All (λ (p : HistoryPart). p.closing.number < 18446744073709551616) ps
