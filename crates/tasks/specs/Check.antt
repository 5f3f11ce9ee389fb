-- What `natsd check` prints of a policy, and its status (docs/POLICY.md, "Checking a policy").
use Rattle.std.specs.Prelude.{◌++◌, ℕ, List, [], codes, decimal, length, Result, Ok, Err}
use Rattle.policy_doc.specs.Document.{counts_of}
use Rattle.policy_doc.specs.declared.document.Counts.{Counts}
use Rattle.policy_doc.specs.declared.document.PolicyDoc.{PolicyDoc}
use Rattle.policy_doc.specs.declared.document.Version.{Version}
use Rattle.policy_doc.specs.declared.document.Version.TheVariants.{One, Two}
use Rattle.policy_sets.specs.Lines.{lines_of}
use Rattle.policy_sets.specs.Sets.{sets_of}
use Rattle.policy_text.specs.reload.Fault.{fault_line}
use Rattle.policy_text.specs.reload.Reload.{prepared}
use Rattle.policy_text.specs.declared.reload.fault.ReloadFault.{ReloadFault}
use Rattle.script.specs.Play.{Played}

abbrev pub numbers : Counts → List ℕ
numbers counts = decimal counts.users ++ codes " " ++ decimal counts.exports ++ codes " " ++ decimal counts.imports

-- the sources of mappings are counted where there may be some
abbrev pub sources_word : Version → ℕ → List ℕ
sources_word One sources = []
sources_word Two sources = codes " " ++ decimal sources

-- what is said of a policy: how many accounts, users, exports and imports it has, and in version 2 how many sources
abbrev pub counts_line : PolicyDoc → List ℕ
counts_line doc = codes "ok " ++ decimal (length doc.accounts) ++ codes " " ++ numbers (counts_of doc.accounts) ++ sources_word doc.version (counts_of doc.accounts).mappings ++ codes "\n"

-- how much a policy has, or the line of the first fault
abbrev pub reported : Result PolicyDoc ReloadFault → Played
reported (Ok doc) = record { text = counts_line doc; status = 0 }
reported (Err fault) = record { text = fault_line fault ++ codes "\n"; status = 1 }

abbrev pub report_of : List ℕ → Played
report_of text = reported (prepared text)

-- which accounts exchange messages, each smallest closed set on a line, or the line of the first fault
abbrev pub parted : Result PolicyDoc ReloadFault → Played
parted (Ok doc) = record { text = lines_of (sets_of doc.accounts); status = 0 }
parted (Err fault) = record { text = fault_line fault ++ codes "\n"; status = 1 }

abbrev pub sets_of_text : List ℕ → Played
sets_of_text text = parted (prepared text)
