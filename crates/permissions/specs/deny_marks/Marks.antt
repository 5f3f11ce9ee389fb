-- Deny marks: which deny entries of its user's may refuse a subscription a message (docs/POLICY.md, "Delivery").
use Rattle.std.specs.Prelude.{◌≡◌, ◌&&◌, ◌∷◌, ℕ, Bool, true, false, IsTrue, List, [], Option, Some, None, if◌then◌else◌, find, not, length, nat_le, slice_get}
use Rattle.std.specs.List.{enumerate_from, flat_map}
use Rattle.subjects.specs.Subject.{Token, in_set, overlaps}
use Rattle.permissions.specs.Lists.{Entry, Lists, Queue, is_for}
use Rattle.permissions.specs.Verdicts.{unless_denied, delivery_verdict, is_allowed}
use Rattle.permissions.specs.declared.verdict.By.TheVariants.{All as AllowsAll}
use Rattle.permissions.specs.declared.verdict.Verdict.{Verdict}
use Rattle.permissions.specs.declared.verdict.Verdict.TheVariants.{Allowed}
use Rattle.permissions.specs.declared.deny_marks.marks.Marks.{Marks}
use Rattle.permissions.specs.declared.deny_marks.marks.Marks.TheVariants.{Unmarked, One, Several}

-- an entry is marked that is for the subscription, and has a subject of its pattern
abbrev pub is_marked : List Token → Queue → Entry → Bool
is_marked pattern queue e = is_for queue e && overlaps e.subject pattern

-- the indexes of the entries that pass a test, which rise
abbrev pub index_if : Bool → ℕ → List ℕ
index_if true i = i ∷ []
index_if false i = []

abbrev pub marks_from : ℕ → (Entry → Bool) → List Entry → List ℕ
marks_from first test entries = flat_map (λ (p : ℕ × Entry). index_if (test p.1) p.0) (enumerate_from first entries)

abbrev pub marks_in : (Entry → Bool) → List Entry → List ℕ
marks_in test entries = marks_from 0 test entries

-- the marks of a subscription, with a queue or without one: the indexes of its user's deny entries that are marked
abbrev pub marks_of : Lists → List Token → Queue → List ℕ
marks_of lists pattern queue = marks_in (is_marked pattern queue) lists.subscribe.deny

-- ---- a delivery

-- whether the entry of an index has a subject
abbrev pub has_subject : List Token → Option Entry → Bool
has_subject s None = false
has_subject s (Some e) = in_set e.subject s

abbrev pub has_at : List Entry → List Token → ℕ → Bool
has_at entries s i = has_subject s (slice_get entries i)

-- the verdict by the least of the marks whose entry has the subject
abbrev pub verdict_by : List ℕ → Lists → List Token → Verdict
verdict_by marks lists s = unless_denied (find (has_at lists.subscribe.deny s) marks) (Allowed AllowsAll)

-- a delivery of a subject of the subscription's pattern has the verdict by its marks
abbrev pub JudgedByMarks : Type 0
JudgedByMarks = (lists : Lists) (pattern s : List Token) (queue : Queue) → IsTrue (in_set pattern s) →
    delivery_verdict lists s queue ≡ verdict_by (marks_of lists pattern queue) lists s

-- ---- as they are kept

-- one is kept; where there are more, the lists are asked
abbrev pub kept : List ℕ → Marks
kept [] = Unmarked
kept (i ∷ []) = One i
kept (i ∷ j ∷ more) = Several

-- and so where one more is found
abbrev pub with_index : Marks → Bool → ℕ → Marks
with_index marks false i = marks
with_index Unmarked true i = One i
with_index (One j) true i = Several
with_index Several true i = Several

-- whether marks let a message through to a subscription with this queue, or with none, whose user has these lists
abbrev pub lets_through : Marks → Lists → List Token → Queue → Bool
lets_through Unmarked lists s queue = true
lets_through (One i) lists s queue = not (has_at lists.subscribe.deny s i)
lets_through Several lists s queue = is_allowed (delivery_verdict lists s queue)

-- ---- where they are kept

-- for a user who has few deny entries
abbrev pub is_short : Lists → Bool
is_short lists = nat_le (length lists.subscribe.deny) 8

abbrev pub marks_for : Lists → List Token → Queue → Marks
marks_for lists pattern queue = if is_short lists then kept (marks_of lists pattern queue) else Unmarked

-- and with more the lists are asked
abbrev pub admits_by : Marks → Lists → List Token → Queue → Bool
admits_by marks lists s queue = if is_short lists then lets_through marks lists s queue else is_allowed (delivery_verdict lists s queue)

-- these are the marks of a subscription with this queue, or with none, that has the subject
abbrev pub AreFor : Lists → List Token → Queue → Marks → Type 0
AreFor lists s queue marks = (pattern : List Token) × IsTrue (in_set pattern s) × (marks ≡ marks_for lists pattern queue)
