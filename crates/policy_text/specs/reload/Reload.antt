-- What the text of a policy comes to (docs/POLICY.md, "The text of a policy").
use Rattle.std.specs.Prelude.{◌≡◌, ℕ, List, [], true, false, Option, Some, None, Result, Ok, Err}
use Rattle.std.specs.Option.{option_map_or}
use Rattle.policy_doc.specs.Document.{name_at, policy_fault, IsValidPolicy}
use Rattle.policy_doc.specs.declared.document.PolicyDoc.{PolicyDoc}
use Rattle.policy_doc.specs.declared.fault.PolicyFault.{PolicyFault}
use Rattle.policy_doc.specs.Faults as policy
use Rattle.policy_doc.specs.Faults.{fault_place}
use Rattle.policy_doc.specs.declared.fault.Place.{Place}
use Rattle.policy_text.specs.account_config.Policy.{policy_of}
use Rattle.policy_walk.specs.declared.fault.ConfigFault.{ConfigFault}
use Rattle.policy_text.specs.reload.Fault.{is_memory}
use Rattle.policy_text.specs.declared.reload.fault.ReloadFault.{ReloadFault}
use Rattle.policy_text.specs.declared.reload.fault.ReloadFault.TheVariants.{Config, Policy}

-- the account whose row has a fault
abbrev pub account_in : PolicyDoc → PolicyFault → List ℕ
account_in doc fault = option_map_or (λ (place : Place). name_at doc.accounts place.account) (fault_place fault) []

-- a document that has no fault, or its first
abbrev pub checked : PolicyDoc → Option PolicyFault → Result PolicyDoc ReloadFault
checked doc None = Ok doc
checked doc (Some fault) = Err (Policy fault (account_in doc fault))

abbrev pub judged : Result PolicyDoc ConfigFault → Result PolicyDoc ReloadFault
judged (Ok doc) = checked doc (policy_fault doc)
judged (Err fault) = Err (Config fault)

-- the policy of a text, or its first fault
abbrev pub prepared : List ℕ → Result PolicyDoc ReloadFault
prepared text = judged (policy_of text)

-- what was answered is this, unless memory was lacking
abbrev pub Answers : {X : Type 0} → Result X ReloadFault → Result X ReloadFault → Type 0
Answers (Ok x) read = read ≡ Ok x
Answers (Err fault) read = is_memory fault ≡ false → read ≡ Err fault

-- A fault of a document is memory that lacks only where the document is valid: so every other refusal comes before it.
abbrev pub IsLastOf : PolicyDoc → ReloadFault → Type 0
IsLastOf doc (Config fault) = Unit {0}
IsLastOf doc (Policy fault account) = policy.is_memory fault ≡ true → IsValidPolicy doc

-- The same of what a text was read as. Before it is read, memory may lack whatever the text has.
abbrev pub IsLast : Result PolicyDoc ConfigFault → ReloadFault → Type 0
IsLast read (Config fault) = Unit {0}
IsLast read (Policy fault account) = policy.is_memory fault ≡ true → (doc : PolicyDoc) × (read ≡ Ok doc) × IsValidPolicy doc
