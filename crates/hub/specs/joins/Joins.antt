-- Whether segments and what a hub holds are one history (docs/GUARANTEE.md, "The history").
use Rattle.std.specs.Prelude.{◌≡◌, ◌==◌, ◌+◌, ◌*◌, ◌<◌, ◌&&◌, ◌||◌, ◌∷◌, ◌++◌, ℕ, List, [], Bool, true, Result, Ok, Err, if◌then◌else◌, filter, length, not, take, drop, All, nat_lt, nat_le, ⊤}
use Rattle.std.specs.List.{list_any}
use Rattle.events.specs.declared.answer.Entry.{Entry}
use Rattle.world.specs.World.{World}
use Rattle.hub.specs.History.{State, IsOpening, IsLegalRun}
use Rattle.hub.specs.Segments.{HistoryPart, first_number, tail_of}

-- all parts: the segments, and what the hub holds
abbrev pub parts_of : List HistoryPart → State → List HistoryPart
parts_of segments s = segments ++ tail_of s ∷ []

-- ---- numbers

-- whether a part has a number: above that of its opening world, up to that of its closing one
abbrev pub has_number : ℕ → HistoryPart → Bool
has_number n p = nat_lt p.opening.number n && nat_le n p.closing.number

-- in how many parts a number is to stand: in one from 1 up to the last, and in none above
abbrev pub due : ℕ → ℕ → ℕ
due last n = if nat_lt 0 n && nat_le n last then 1 else 0

-- ---- the part before a part

abbrev pub is_empty : HistoryPart → Bool
is_empty p = length p.entries == 0

-- where a part stands: by the number of its opening world, empty ones first
abbrev pub place : HistoryPart → ℕ
place p = 2 * p.opening.number + (if is_empty p then 0 else 1)

-- whether a part may stand before another; of two empty ones with one number either may
abbrev pub may_precede : HistoryPart → HistoryPart → Bool
may_precede p q = nat_lt (place p) (place q) || (is_empty q && place p == place q)

abbrev pub is_between : HistoryPart → HistoryPart → HistoryPart → Bool
is_between p q r = nat_lt (place p) (place r) && nat_lt (place r) (place q)

-- whether it may, and none stands between
abbrev pub may_be_before : List HistoryPart → HistoryPart → HistoryPart → Bool
may_be_before ps q p = may_precede p q && not (list_any (is_between p q) ps)

-- The part begins in the world in which the part before it ends.
abbrev pub Begins : List HistoryPart → HistoryPart → Type 0
Begins ps q = All (λ (p : HistoryPart). may_be_before ps q p ≡ true → q.opening ≡ p.closing) ps

-- What stands after entries of the tail isn't judged. Where it has entries itself, its first number is in two parts or above the
-- last, and so wrong all the same.
abbrev pub is_judged : State → HistoryPart → Bool
is_judged s q = (length s.entries == 0) || nat_le (place q) (place (tail_of s))

-- ---- one history

-- Nothing is wrong at a number: it stands in as many parts as it is to, and where it is the first of a part, that begins
-- in the world in which the part before it ends.
pub record IsRight (segments : List HistoryPart) (s : State) (n : ℕ) : Type 0 where
  pub once : length (filter (has_number n) (parts_of segments s)) ≡ due s.world.number n
  pub begins : All (λ (q : HistoryPart). is_judged s q ≡ true → first_number q ≡ n → Begins (parts_of segments s) q) (parts_of segments s)

-- nothing is wrong at any number, or the answer is the least at which something is
abbrev pub IsLeastFault : List HistoryPart → State → Result ⊤ ℕ → Type 0
IsLeastFault segments s (Ok done) = (n : ℕ) → IsRight segments s n
IsLeastFault segments s (Err n) = (IsRight segments s n → ⊥) × ((m : ℕ) → m < n → IsRight segments s m)

-- The parts are one history: entries that lead from the opening of a hub to its present world, in which each part stands
-- at its numbers.
pub record AreOneHistory (segments : List HistoryPart) (s : State) : Type 0 where
  pub first : World
  pub opens : IsOpening first
  pub entries : List Entry
  pub legal : IsLegalRun first entries s.world
  pub parts : All (λ (p : HistoryPart). take (length p.entries) (drop p.opening.number entries) ≡ p.entries) (parts_of segments s)
