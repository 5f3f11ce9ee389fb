-- Why nothing is explained.
use Rattle.std.specs.Prelude.{◌≡◌, ℕ, List, codes, Option, Some, None, Result, Ok, Err}
use Rattle.explain.specs.declared.fault.ExplainFault.{ExplainFault}
use Rattle.explain.specs.declared.fault.ExplainFault.TheVariants.{NoSuchUser, NoSuchAccount, NoMemory}

-- what is said of a fault
abbrev pub fault_text : ExplainFault → List ℕ
fault_text NoSuchUser = codes "no such user"
fault_text NoSuchAccount = codes "no such account"
fault_text NoMemory = codes "no memory"

-- This is answered, or want of memory; where there is nothing, this fault.
abbrev pub Answers : {X : Type 0} → ExplainFault → Option X → Result X ExplainFault → Type 0
Answers unknown (Some x) (Ok y) = y ≡ x
Answers unknown (Some x) (Err fault) = fault ≡ NoMemory
Answers unknown None (Ok y) = ⊥
Answers unknown None (Err fault) = fault ≡ unknown
