-- Entries of permission lists, and how they are printed (docs/POLICY.md, "Permissions").
use Rattle.std.specs.Prelude.{◌++◌, ℕ, List, [], Option, Some, None, codes}
use Rattle.subjects.specs.Subject.{Token, text_of}
use Rattle.policy_doc.specs.declared.permission_doc.document.PermEntry.{PermEntry}

-- a plain entry for the subjects of a pattern
abbrev pub entry_of : List Token → PermEntry
entry_of tokens = record { subject = tokens; queue = None }

abbrev pub queue_text : Option (List Token) → List ℕ
queue_text None = []
queue_text (Some queue) = codes " " ++ text_of queue

-- an entry as it is printed: its pattern, and behind one space its queue part if it has one
abbrev pub entry_text : PermEntry → List ℕ
entry_text e = text_of e.subject ++ queue_text e.queue
