-- The grants of a user that may never have any: there is no table before its first need
-- (docs/GUARANTEE.md, "Reply grants: the table").
use Rattle.std.specs.Prelude.{ℕ, List, [], Option, Some, None, filter}
use Rattle.std.specs.Option.{option_map, option_or}
use Rattle.subjects.specs.Subject.{Token}
use Rattle.policy_doc.specs.declared.permission_doc.document.Terms.{Terms}
use Rattle.reply_grants.specs.declared.replies.Note.{Note}
use Rattle.reply_grants.specs.Grants.{Grant, is_live, after_note, after_response, after_end}

abbrev pub Table : Type 0
Table = Option (List Grant)

abbrev pub grants_of : Table → List Grant
grants_of None = []
grants_of (Some grants) = grants

-- a grant is noted in the table that is there, else in the one that the note brings
abbrev pub noted : Note → ℕ → Table → Table
noted note now table = option_map (after_note note.subject now) (option_or table note.table)

abbrev pub responded_in : List Token → Table → Table
responded_in subject table = option_map (after_response subject) table

abbrev pub ended_in : List Token → Option Terms → Table → Table
ended_in subject terms table = option_map (after_end subject terms) table

-- what is live under both terms
abbrev pub both_live : ℕ → Option Terms → Option Terms → List Grant → List Grant
both_live now before terms grants = filter (is_live now terms) (filter (is_live now before) grants)

-- without terms there is no table
abbrev pub judged : ℕ → Option Terms → Option Terms → Table → Table
judged now before None table = None
judged now before (Some terms) table = option_map (both_live now before (Some terms)) table
