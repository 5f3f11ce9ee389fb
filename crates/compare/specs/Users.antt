-- What is told of the users of two policies (docs/POLICY.md, "Comparing two policies").
use Rattle.std.specs.Prelude.{◌≡◌, ◌++◌, ◌∷◌, ◌&&◌, [], All, Bool, true, false, not, ℕ, List, map, nat_eq, Option, Some, None, is_some}
use Rattle.std.specs.List.{flat_map, list_any, Contains}
use Rattle.std.specs.Str.{bytes_eq}
use Rattle.std.specs.List.Sorted.{IsPermutation}
use Rattle.std.specs.Cmp.Lexicographic.{pointwise}
use Rattle.subjects.specs.Subject.{tokens_of}
use Rattle.permissions.specs.Lists.{Lists, Queue}
use Rattle.policy_doc.specs.declared.document.PolicyDoc.{PolicyDoc}
use Rattle.policy_ready.specs.Users.{user_named, users_of}
use Rattle.policy_ready.specs.declared.ready.User.{User}
use Rattle.message_changes.specs.Exact.{AreJudgedAlike, AreTold}
use Rattle.message_changes.specs.Judging.{verdict_if, AreChanges}
use Rattle.message_changes.specs.declared.changes.MessageChange.{MessageChange}
use Rattle.message_changes.specs.declared.kind.MessageKind.{MessageKind}
use Rattle.compare.specs.declared.change.Becoming.{Becoming}
use Rattle.compare.specs.declared.change.Becoming.TheVariants.{New, Gone, Password, MovedTo}
use Rattle.compare.specs.declared.change.Changes.{Changes}
use Rattle.compare.specs.declared.change.ListChange.{ListChange}
use Rattle.compare.specs.declared.change.UserChange.{UserChange}

-- two texts are a user's account and its name
abbrev pub is_of : User → List ℕ → List ℕ → Bool
is_of u account name = pointwise nat_eq account u.account && pointwise nat_eq name u.user

-- ---- users that come, go, move, or have another password

-- what becomes of a user
pub data Fate : Type 0 where
  comes : Fate
  goes : Fate
  -- to this account
  moves : List ℕ → Fate
  -- it has another password
  renewed : Fate

abbrev pub fate_of : Becoming → Fate
fate_of New = comes
fate_of Gone = goes
fate_of Password = renewed
fate_of (MovedTo account) = moves account.now

-- an account, a name, and what becomes of that user
abbrev pub Told : Type 0
Told = List ℕ × List ℕ × Fate

abbrev pub told_of : UserChange → Told
told_of t = (t.account.now, t.user.now, fate_of t.what)

abbrev pub told_if : Bool → Told → List Told
told_if true t = t ∷ []
told_if false t = []

-- what is told of a user of both policies
abbrev pub told_again : User → User → List Told
told_again u v =
    told_if (not (bytes_eq u.account v.account)) (u.account, u.user, moves v.account)
    ++ told_if (not (bytes_eq u.password v.password)) (v.account, v.user, renewed)

-- of a user of the old policy, by whom the new one has under its name
abbrev pub told_old : User → Option User → List Told
told_old u None = (u.account, u.user, goes) ∷ []
told_old u (Some v) = told_again u v

-- of a user of the new policy, by whom the old one had under its name
abbrev pub told_new : User → Option User → List Told
told_new u None = (u.account, u.user, comes) ∷ []
told_new u (Some v) = []

abbrev pub of_old : PolicyDoc → User → List Told
of_old new u = told_old u (user_named new u.user)

abbrev pub of_new : PolicyDoc → User → List Told
of_new old u = told_new u (user_named old u.user)

abbrev pub all_old : PolicyDoc → List User → List Told
all_old new us = flat_map (of_old new) us

abbrev pub all_new : PolicyDoc → List User → List Told
all_new old us = flat_map (of_new old) us

-- what is told was appended to what was told before
abbrev pub AreAlsoTold : List Told → List UserChange → List UserChange → Type 0
AreAlsoTold more before after = map told_of after ≡ map told_of before ++ more

-- What becomes of the users of both policies is told, of each once, and nothing else.
abbrev pub AreUsersTold : PolicyDoc → PolicyDoc → List UserChange → Type 0
AreUsersTold old new told = IsPermutation (all_old new (users_of old) ++ all_new old (users_of new)) (map told_of told)

-- ---- what those that stay gain and lose

-- a kind, whether it is gained, a text and a queue
abbrev pub Line : Type 0
Line = MessageKind × Bool × List ℕ × Queue

abbrev pub line_of : ListChange → Line
line_of l = (l.kind, l.is_gain, l.asked.subject.items, l.asked.queue)

abbrev pub line_by : MessageChange → Line
line_by c = (c.kind, c.is_gain, c.asked.subject.items, c.asked.queue)

abbrev pub is_about : User → ListChange → Bool
is_about u l = is_of u l.account.now l.user.now

-- Between a user's lists in two policies there are these changes: each is one, and where none is told, nothing changes.
pub record AreBetween (old new : Lists) (found : List MessageChange) : Type 0 where
  pub changes : AreChanges old new found
  pub told : (is_gain : Bool) → AreTold old new is_gain found
  pub alike : found ≡ [] → AreJudgedAlike old new

-- A line is about a user, and has the verdict of both policies' lists on its question.
pub record IsLine (was is : User) (l : ListChange) : Type 0 where
  pub about : is_about is l ≡ true
  pub old : verdict_if l.kind was.rules (tokens_of l.asked.subject.items) l.asked.queue ≡ Some l.old.verdict
  pub new : verdict_if l.kind is.rules (tokens_of l.asked.subject.items) l.asked.queue ≡ Some l.new.verdict

-- A user's lines are the changes between its lists, in order and with none left out.
pub record AreLines (was is : User) (lines : List ListChange) : Type 0 where
  pub found : List MessageChange
  pub between : AreBetween was.rules is.rules found
  pub each : map line_of lines ≡ map line_by found
  pub verdicts : All (IsLine was is) lines

-- one that the old policy hasn't has no line
abbrev pub AreLinesIf : Option User → User → List ListChange → Type 0
AreLinesIf None u lines = lines ≡ []
AreLinesIf (Some was) u lines = AreLines was u lines

-- the lines come user by user
abbrev pub AreLinesOfAll : PolicyDoc → List User → List ListChange → Type 0
AreLinesOfAll old [] lines = lines ≡ []
AreLinesOfAll old (u ∷ us) lines =
    (own : List ListChange) × (rest : List ListChange) × (lines ≡ own ++ rest) × AreLinesIf (user_named old u.user) u own × AreLinesOfAll old us rest

-- There are lines of each user of the new policy that the old one has, and no other. Where none is about a user, its lists judge all alike.
pub record AreListsTold (old new : PolicyDoc) (lines : List ListChange) : Type 0 where
  pub users : List User
  pub all : IsPermutation (users_of new) users
  pub each : AreLinesOfAll old users lines
  pub alike : (was is : User) → Contains (users_of new) is → user_named old is.user ≡ Some was → list_any (is_about is) lines ≡ false → AreJudgedAlike was.rules is.rules

-- What two policies change of their users is told: of no user is it left out, and of none more is told.
pub record AreToldOfUsers (old new : PolicyDoc) (changes : Changes) : Type 0 where
  pub users : AreUsersTold old new changes.users.items
  pub lists : AreListsTold old new changes.lists.items

-- ---- on the way

-- lines are appended
abbrev pub AreAdded : (List ListChange → Type 0) → List ListChange → List ListChange → Type 0
AreAdded P before after = (own : List ListChange) × (after ≡ before ++ own) × P own

-- the verdict of both lists is one
pub record AreAsked (was is : Lists) (c : MessageChange) : Type 0 where
  pub old : is_some (verdict_if c.kind was (tokens_of c.asked.subject.items) c.asked.queue) ≡ true
  pub new : is_some (verdict_if c.kind is (tokens_of c.asked.subject.items) c.asked.queue) ≡ true
