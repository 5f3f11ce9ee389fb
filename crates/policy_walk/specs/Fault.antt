-- What reading a policy answers: what was read, or the first fault.
use Rattle.std.specs.Prelude.{◌≡◌, ◌≢◌, ◌++◌, ℕ, List, [], codes, Bool, true, false, Result, Ok, Err}
use Rattle.policy_walk.specs.declared.fault.ConfigFault.{ConfigFault}
use Rattle.policy_walk.specs.declared.fault.ConfigFault.TheVariants.{TooLarge, NotJson, UnknownKey, WrongType, BadSubject, BadDuration, BadMax, BadName, HashedPassword, BadWeight, BadDestination, NoMemory}

-- what reading one part of a policy gives, memory aside
abbrev pub Read : Type 0 → Type 0
Read X = Result X ConfigFault

-- one part after the other: the first fault is the answer
infixl 10 ◌>>=◌
abbrev pub ◌>>=◌ : {A B : Type 0} → Result A ConfigFault → (A → Result B ConfigFault) → Result B ConfigFault
(Ok x) >>= f = f x
(Err e) >>= f = Err e

-- a fault other than want of memory is the one that the text has
abbrev pub Fails : {Y : Type 0} → ConfigFault → Result Y ConfigFault → Type 0
Fails fault read = fault ≢ NoMemory → read ≡ Err fault

-- what was returned, as a clause sees it, is what the text gives, unless memory ran out
abbrev pub Gives : {X Y : Type 0} → (X → Y) → Result X ConfigFault → Result Y ConfigFault → Type 0
Gives seen (Ok x) read = read ≡ Ok (seen x)
Gives seen (Err fault) read = Fails fault read

-- whether a fault is want of memory, which says nothing of the text
abbrev pub is_memory : ConfigFault → Bool
is_memory TooLarge = false
is_memory NotJson = false
is_memory (UnknownKey _) = false
is_memory (WrongType _) = false
is_memory (BadSubject _) = false
is_memory (BadDuration _) = false
is_memory (BadMax _) = false
is_memory (BadName _) = false
is_memory (HashedPassword _) = false
is_memory (BadWeight _) = false
is_memory (BadDestination _) = false
is_memory NoMemory = true

-- the name of a fault, with a space where its path follows
abbrev pub fault_title : ConfigFault → List ℕ
fault_title TooLarge = codes "config TooLarge"
fault_title NotJson = codes "config NotJson"
fault_title (UnknownKey _) = codes "config UnknownKey "
fault_title (WrongType _) = codes "config WrongType "
fault_title (BadSubject _) = codes "config BadSubject "
fault_title (BadDuration _) = codes "config BadDuration "
fault_title (BadMax _) = codes "config BadMax "
fault_title (BadName _) = codes "config BadName "
fault_title (HashedPassword _) = codes "config HashedPassword "
fault_title (BadWeight _) = codes "config BadWeight "
fault_title (BadDestination _) = codes "config BadDestination "
fault_title NoMemory = codes "no memory"

-- where a fault stands
abbrev pub fault_path : ConfigFault → List ℕ
fault_path TooLarge = []
fault_path NotJson = []
fault_path (UnknownKey path) = path
fault_path (WrongType path) = path
fault_path (BadSubject path) = path
fault_path (BadDuration path) = path
fault_path (BadMax path) = path
fault_path (BadName path) = path
fault_path (HashedPassword path) = path
fault_path (BadWeight path) = path
fault_path (BadDestination path) = path
fault_path NoMemory = []

-- the line that tells an operator of a fault
abbrev pub fault_line : ConfigFault → List ℕ
fault_line fault = fault_title fault ++ fault_path fault
