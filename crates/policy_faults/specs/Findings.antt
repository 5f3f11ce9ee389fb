-- A fault of a policy's text, with what is wanted in its place (docs/POLICY.md, "Every fault").
use Rattle.std.specs.Prelude.{◌++◌, ◌∷◌, List, []}
use Rattle.policy_walk.specs.declared.fault.ConfigFault.{ConfigFault}
use Rattle.policy_faults.specs.declared.finding.Finding.{Finding}
use Rattle.policy_faults.specs.declared.finding.Wanted.{Wanted}

abbrev pub finding : ConfigFault → Wanted → Finding
finding fault wanted = record { fault = fault; wanted = wanted }

-- a fault behind those so far
abbrev pub with_fault : ConfigFault → Wanted → List Finding → List Finding
with_fault fault wanted front = front ++ finding fault wanted ∷ []
