-- What is said of a text that is no policy (docs/POLICY.md, "Faults").
use Rattle.std.specs.Prelude.{◌++◌, ℕ, List, Bool, Option, Some, None, codes, decimal, if◌then◌else◌}
use Rattle.std.specs.Str.{is_utf8}
use Rattle.policy_doc.specs.declared.fault.PolicyFault.{PolicyFault}
use Rattle.policy_doc.specs.declared.fault.Place.{Place}
use Rattle.policy_doc.specs.Faults as policy
use Rattle.policy_walk.specs.Fault as config
use Rattle.policy_text.specs.declared.reload.fault.ReloadFault.{ReloadFault}
use Rattle.policy_text.specs.declared.reload.fault.ReloadFault.TheVariants.{Config, Policy}

-- whether a fault is want of memory, which says nothing of the text
abbrev pub is_memory : ReloadFault → Bool
is_memory (Config fault) = config.is_memory fault
is_memory (Policy fault account) = policy.is_memory fault

-- the line of a fault of the document: its name, the account and the row
abbrev pub line_at : List ℕ → List ℕ → Option Place → List ℕ
line_at name account None = codes "no memory"
line_at name account (Some place) = codes "policy " ++ name ++ codes " " ++ account ++ codes " " ++ decimal place.row

abbrev pub policy_line : PolicyFault → List ℕ → List ℕ
policy_line fault account = line_at (policy.fault_name fault) account (policy.fault_place fault)

-- the line that tells an operator of a fault
abbrev pub fault_line : ReloadFault → List ℕ
fault_line (Config fault) = config.fault_line fault
fault_line (Policy fault account) = policy_line fault account

-- what is printed of a fault: its line. An account that isn't UTF-8, as no text of a policy has one, isn't named
abbrev pub fault_text : ReloadFault → List ℕ
fault_text (Config fault) = config.fault_line fault
fault_text (Policy fault account) = if is_utf8 account then policy_line fault account else policy.fault_text fault
