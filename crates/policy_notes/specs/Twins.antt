-- Where the first user stands that has another's name (docs/POLICY.md, "Where a fault stands").
use Rattle.std.specs.Prelude.{◌++◌, ℕ, List, [], Option, None, Some, codes, slice_get}
use Rattle.std.specs.Option.{option_and_then, option_map}
use Rattle.std.specs.Result.{result_ok}
use Rattle.policy_text.specs.account_config.Policy.{policy_of}
use Rattle.policy_doc.specs.declared.document.NamedAccount.{NamedAccount}
use Rattle.policy_doc.specs.declared.document.PolicyDoc.{PolicyDoc}
use Rattle.policy_doc.specs.declared.document.UserDoc.{UserDoc}
use Rattle.policy_doc.specs.declared.fault.Place.{Place as Row}
use Rattle.policy_doc.specs.declared.fault.PolicyFault.{PolicyFault}
use Rattle.policy_doc.specs.declared.fault.PolicyFault.TheVariants.{DuplicateUser, UnknownAccount, SelfImport, PrefixAndTo, BadMapping, ImportNotExported, NoMemory}
use Rattle.policy_notes.specs.paths.Users.{user_path}
use Rattle.policy_walk.specs.Path.{Path, at_key}
use Rattle.policy_text.specs.declared.reload.fault.ReloadFault.{ReloadFault}
use Rattle.policy_text.specs.declared.reload.fault.ReloadFault.TheVariants.{Config, Policy}

-- the user in a row
abbrev pub user_in : PolicyDoc → Row → Option UserDoc
user_in doc row = option_and_then (λ (a : NamedAccount). slice_get a.account.users row.row) (slice_get doc.accounts row.account)

-- the first user of its name, at the name
abbrev pub name_of : Option Path → Option Path
name_of user = option_map (λ path. at_key path (codes "user")) user

abbrev pub named_first : PolicyDoc → Row → Option Path
named_first doc row = option_and_then (λ (u : UserDoc). name_of (user_path doc u.user)) (user_in doc row)

abbrev pub first_path : List ℕ → Row → Option Path
first_path text row = option_and_then (λ doc. named_first doc row) (result_ok (policy_of text))

-- of a user whose name there is already
abbrev pub twin_in : List ℕ → PolicyFault → Option Path
twin_in text (DuplicateUser row) = first_path text row
twin_in text (UnknownAccount row) = None
twin_in text (SelfImport row) = None
twin_in text (PrefixAndTo row) = None
twin_in text (BadMapping row) = None
twin_in text (ImportNotExported row) = None
twin_in text NoMemory = None

abbrev pub twin_path : List ℕ → ReloadFault → Option Path
twin_path text (Config fault) = None
twin_path text (Policy fault account) = twin_in text fault
