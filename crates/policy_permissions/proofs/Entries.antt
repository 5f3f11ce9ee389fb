-- An entry from its parts.
use Rattle.std.proofs.Common.{◌≡◌, ℕ, List, Option, Some, None, Ok, Err, Bool, true, false, ◌&&◌, not, if◌then◌else◌, option_map, refl}
use Rattle.std.specs.Option.{is_some, ok_or}
use Rattle.subjects.specs.Subject.{tokens_of}
use Rattle.subjects.specs.Fault.{pattern_fault}
use Rattle.policy_doc.specs.declared.permission_doc.document.PermEntry.{PermEntry}
use Rattle.policy_permissions.specs.declared.entry.Side.{Side}
use Rattle.policy_permissions.specs.declared.entry.Side.TheVariants.{Publish, Subscribe}
use Rattle.policy_walk.specs.declared.fault.ConfigFault.TheVariants.{BadSubject}
use Rattle.policy_permissions.specs.Entry.{entry_parts, is_entry_text, is_pattern_text, is_queue_text, entry_written}
use Rattle.policy_walk.specs.Fault.{◌>>=◌}
use Rattle.policy_walk.specs.Path.{Path}
use Rattle.policy_permissions.specs.Permissions.{parts_from, entry_from}

abbrev from_parts : List ℕ → Option (List ℕ) → PermEntry
from_parts text queue = record { subject = tokens_of text; queue = option_map tokens_of queue }

parts_are : (path : Path) (text : List ℕ) (queue : Option (List ℕ)) →
    parts_from path (text, queue) ≡ (if is_pattern_text text && is_queue_text queue then Ok (from_parts text queue) else Err (BadSubject path))
parts_are path text None = by (is_some (pattern_fault text))
  where
    by : (b : Bool) → (ok_or (if b then None else Some (tokens_of text)) (BadSubject path) >>= λ subject. Ok (record { subject = subject; queue = None })) ≡ (if not b && true then Ok (from_parts text None) else Err (BadSubject path))
    by true = refl
    by false = refl
parts_are path text (Some queue) = by (is_some (pattern_fault text)) (is_some (pattern_fault queue))
  where
    by : (b c : Bool) →
        (ok_or (if b then None else Some (tokens_of text)) (BadSubject path) >>= λ subject.
        ((ok_or (if c then None else Some (tokens_of queue)) (BadSubject path) >>= λ part. Ok (Some part)) >>= λ q. Ok (record { subject = subject; queue = q })))
        ≡ (if not b && not c then Ok (from_parts text (Some queue)) else Err (BadSubject path))
    by true true = refl
    by true false = refl
    by false true = refl
    by false false = refl

plain_is : (path : Path) (text : List ℕ) → parts_from path (text, None) ≡ (if is_pattern_text text then Ok (from_parts text None) else Err (BadSubject path))
plain_is path text = by (is_some (pattern_fault text))
  where
    by : (b : Bool) → (ok_or (if b then None else Some (tokens_of text)) (BadSubject path) >>= λ subject. Ok (record { subject = subject; queue = None })) ≡ (if not b then Ok (from_parts text None) else Err (BadSubject path))
    by true = refl
    by false = refl

-- the walk reads exactly the texts of entries
pub entry_is : (side : Side) (path : Path) (text : List ℕ) → entry_from side path text ≡ (if is_entry_text side text then Ok (entry_written side text) else Err (BadSubject path))
entry_is Publish path text = plain_is path text
entry_is Subscribe path text = parts_are path (entry_parts text).0 (entry_parts text).1
