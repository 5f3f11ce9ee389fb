-- The faults of texts, times and numbers (docs/POLICY.md, "Objects").
use Rattle.std.specs.Prelude.{ℕ, ℤ, negsuc, Bool, true, not, List, if◌then◌else◌, Option, Some, None, is_some, option_and_then}
use Rattle.std.specs.Ordering.{int_eq}
use Rattle.serde_json.specs.Data.{Data}
use Rattle.serde_json.specs.Find.{as_i64, as_number, as_str, as_u64}
use Rattle.subjects.specs.Fault.{subject_if}
use Rattle.policy_walk.specs.declared.fault.ConfigFault.{ConfigFault}
use Rattle.policy_walk.specs.declared.fault.ConfigFault.TheVariants.{WrongType, BadSubject, BadDuration, BadMax, BadName, HashedPassword}
use Rattle.policy_walk.specs.Durations.{duration_of}
use Rattle.policy_walk.specs.Path.{Path}
use Rattle.policy_permissions.specs.Entry.{is_entry_text, is_pattern_text}
use Rattle.policy_permissions.specs.declared.entry.Side.TheVariants as side
use Rattle.policy_permissions.specs.Permissions.{is_bound}
use Rattle.policy_text.specs.rows.Names.{has_name_length, is_account_name}
use Rattle.policy_text.specs.account_config.Policy.{is_hashed, version_of}
use Rattle.policy_text.specs.account_config.Standing.{is_response_type}
use Rattle.policy_faults.specs.declared.finding.Finding.{Finding}
use Rattle.policy_faults.specs.declared.finding.Wanted.{Wanted}
use Rattle.policy_faults.specs.declared.finding.Wanted.TheVariants as wanted
use Rattle.policy_faults.specs.declared.walk.texts.TextKind.{TextKind}
use Rattle.policy_faults.specs.declared.walk.texts.TextKind.TheVariants.{AccountName, UserName, Password, PublishEntry, SubscribeEntry, Pattern, Subject, Any, Duration, ResponseType}
use Rattle.policy_faults.specs.Findings.{with_fault}

-- ---- texts

abbrev pub is_allowed : TextKind → List ℕ → Bool
is_allowed AccountName text = is_account_name text
is_allowed UserName text = has_name_length text
is_allowed Password text = not (is_hashed text)
is_allowed PublishEntry text = is_entry_text side.Publish text
is_allowed SubscribeEntry text = is_entry_text side.Subscribe text
is_allowed Pattern text = is_pattern_text text
is_allowed Subject text = is_some (subject_if text)
is_allowed Any text = true
is_allowed Duration text = is_some (duration_of text)
is_allowed ResponseType text = is_response_type text

abbrev pub fault_named : TextKind → Path → ConfigFault
fault_named AccountName = BadName
fault_named UserName = BadName
fault_named Password = HashedPassword
fault_named PublishEntry = BadSubject
fault_named SubscribeEntry = BadSubject
fault_named Pattern = BadSubject
fault_named Subject = BadSubject
fault_named Any = WrongType
fault_named Duration = BadDuration
fault_named ResponseType = WrongType

abbrev pub wanted_by : TextKind → Wanted
wanted_by AccountName = wanted.AccountName
wanted_by UserName = wanted.UserName
wanted_by Password = wanted.Password
wanted_by PublishEntry = wanted.PublishEntry
wanted_by SubscribeEntry = wanted.SubscribeEntry
wanted_by Pattern = wanted.Pattern
wanted_by Subject = wanted.Subject
wanted_by Any = wanted.Text
wanted_by Duration = wanted.Duration
wanted_by ResponseType = wanted.ResponseType

abbrev pub with_named : TextKind → Path → List ℕ → List Finding → List Finding
with_named kind path text front = if is_allowed kind text then front else with_fault (fault_named kind path) (wanted_by kind) front

abbrev pub with_text_if : TextKind → Path → Option (List ℕ) → List Finding → List Finding
with_text_if kind path None front = with_fault (WrongType path) (wanted_by kind) front
with_text_if kind path (Some text) front = with_named kind path text front

abbrev pub with_text : TextKind → Path → Data → List Finding → List Finding
with_text kind path d front = with_text_if kind path (as_str d) front

-- ---- numbers

abbrev pub with_bound : Bool → Path → List Finding → List Finding
with_bound is_one path front = if is_one then front else with_fault (BadMax path) wanted.Max front

-- a number from 0 on is a bound, if it may be one; of those below it -1 is
abbrev pub with_max_of : Path → Option ℕ → Option ℤ → List Finding → List Finding
with_max_of path (Some n) z front = with_bound (is_bound n) path front
with_max_of path None (Some z) front = with_bound (int_eq z (negsuc 0)) path front
with_max_of path None None front = with_fault (WrongType path) wanted.Max front

abbrev pub with_max : Path → Data → List Finding → List Finding
with_max path d front = with_max_of path (option_and_then as_u64 (as_number d)) (option_and_then as_i64 (as_number d)) front

abbrev pub with_version : Path → Data → List Finding → List Finding
with_version path d front = if is_some (version_of d) then front else with_fault (WrongType path) wanted.Version front
