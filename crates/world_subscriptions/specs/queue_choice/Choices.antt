-- Queue groups, and which member of each is chosen (docs/GUARANTEE.md, "Queue groups: the choice").
use Rattle.std.specs.Prelude.{◌≡◌, ℕ, ◌^◌, ◌%◌, Bool, not, List, [], ◌∷◌, filter, length, Option, slice_get, nat_eq, All, Contains}
use Rattle.std.specs.Cmp.Lexicographic.{pointwise}
use Rattle.subjects.specs.Subject.{text_of}
use Rattle.world_subscriptions.specs.declared.queue_choice.choice.Member.{Member}

-- the text of a member's queue name
abbrev pub name_of : Member → List ℕ
name_of m = text_of m.queue.now

abbrev pub same_name : List ℕ → List ℕ → Bool
same_name = pointwise nat_eq

-- the queue group of a name: the members that have it, oldest first
abbrev pub group : List ℕ → List Member → List Member
group name members = filter (λ m. same_name name (name_of m)) members

-- each queue name that a member has, once, by the age of the first member that has it
abbrev pub names_of : List Member → List (List ℕ)
names_of [] = []
names_of (m ∷ ms) = name_of m ∷ filter (λ name. not (same_name (name_of m) name)) (names_of ms)

-- of a group with n members by age, member number (word mod 2^32) mod n, counted from 0
abbrev pub chosen_number : ℕ → ℕ → ℕ
chosen_number word n = word % 2 ^ 32 % n

abbrev pub chosen : {X : Type 0} → ℕ → List X → Option X
chosen word members = slice_get members (chosen_number word (length members))

-- one of each queue group is chosen: each queue name that a member has exactly once, and who is chosen is a member
pub record IsOneOfEach (members choices : List Member) : Type 0 where
  pub once : (m : Member) → Contains members m → length (group (name_of m) choices) ≡ 1
  pub member : All (Contains members) choices
