-- What is said of a fault (docs/POLICY.md, "Faults").
use Rattle.std.specs.Prelude.{ℕ, Bool, List, is_none, Option, Some, None, codes}
use Rattle.policy_doc.specs.declared.fault.Place.{Place}
use Rattle.policy_doc.specs.declared.fault.PolicyFault.{PolicyFault}
use Rattle.policy_doc.specs.declared.fault.PolicyFault.TheVariants.{DuplicateUser, UnknownAccount, SelfImport, PrefixAndTo, BadMapping, ImportNotExported, NoMemory}

-- the row that has it
abbrev pub fault_place : PolicyFault → Option Place
fault_place (DuplicateUser place) = Some place
fault_place (UnknownAccount place) = Some place
fault_place (SelfImport place) = Some place
fault_place (PrefixAndTo place) = Some place
fault_place (BadMapping place) = Some place
fault_place (ImportNotExported place) = Some place
fault_place NoMemory = None

abbrev pub fault_name : PolicyFault → List ℕ
fault_name (DuplicateUser place) = codes "DuplicateUser"
fault_name (UnknownAccount place) = codes "UnknownAccount"
fault_name (SelfImport place) = codes "SelfImport"
fault_name (PrefixAndTo place) = codes "PrefixAndTo"
fault_name (BadMapping place) = codes "BadMapping"
fault_name (ImportNotExported place) = codes "ImportNotExported"
fault_name NoMemory = codes "NoMemory"

abbrev pub fault_text : PolicyFault → List ℕ
fault_text (DuplicateUser place) = codes "two users have the same name"
fault_text (UnknownAccount place) = codes "an import names an unknown account"
fault_text (SelfImport place) = codes "an account imports from itself"
fault_text (PrefixAndTo place) = codes "an import has a prefix and a template"
fault_text (BadMapping place) = codes "an import can't be mapped"
fault_text (ImportNotExported place) = codes "an import isn't exported"
fault_text NoMemory = codes "no memory"

-- whether it is want of memory, which says nothing of the document
abbrev pub is_memory : PolicyFault → Bool
is_memory fault = is_none (fault_place fault)
