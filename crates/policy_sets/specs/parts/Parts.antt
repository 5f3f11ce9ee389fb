-- A policy's parts, each as a text of its own (docs/POLICY.md, "Tenants that exchange nothing").
use Rattle.std.specs.Prelude.{◌≡◌, Bool, List, Option, None, Some, Ok, All, codes, if◌then◌else◌, map, ℕ}
use Rattle.std.specs.Str.{bytes_eq}
use Rattle.serde_json.specs.Data.{Data, null, boolean, number, string, array, object, Members, no_members, member}
use Rattle.json_text.specs.Json.{json_of}
use Rattle.policy_doc.specs.Accounts.{Name}
use Rattle.policy_doc.specs.declared.document.PolicyDoc.{PolicyDoc}
use Rattle.policy_sets.specs.Sets.{is_in, sets_of}
use Rattle.policy_text.specs.reload.Reload.{prepared}
use Rattle.policy_sets.specs.declared.parts.parts.PolicyPart.{PolicyPart}

-- a member before others, if it has a value
abbrev pub before : List ℕ → Option Data → Members → Members
before key None ms = ms
before key (Some d) ms = member key d ms

-- the members of an object, each with the value that is made of its key and its value, if one is
abbrev pub each_member : (List ℕ → Data → Option Data) → Members → Members
each_member made no_members = no_members
each_member made (member key d ms) = before key (made key d) (each_member made ms)

-- an object with such members; anything else stays
abbrev pub on_object : (List ℕ → Data → Option Data) → Data → Data
on_object made null = null
on_object made (boolean b) = boolean b
on_object made (number n) = number n
on_object made (string s) = string s
on_object made (array ds) = array ds
on_object made (object ms) = object (each_member made ms)

-- an account that is one of these stays as it stands
abbrev pub account_if : (Name → Bool) → Name → Data → Option Data
account_if K name d = if K name then Some d else None

abbrev pub accounts_kept : (Name → Bool) → Data → Data
accounts_kept K d = on_object (account_if K) d

-- of the accounts these stay, and all else
abbrev pub top_kept : (Name → Bool) → List ℕ → Data → Option Data
top_kept K key d = Some (if bytes_eq key (codes "accounts") then accounts_kept K d else d)

-- a policy's JSON value, less the accounts that aren't among these
abbrev pub part_of : (Name → Bool) → Data → Data
part_of K d = on_object (top_kept K) d

-- a part's text writes the whole, less the accounts of others
abbrev pub IsPart : Data → PolicyPart → Type 0
IsPart whole p = json_of p.text.items ≡ Some (part_of (is_in p.accounts) whole)

-- The parts of the policy of a text: one for each smallest closed set of its accounts, in the order of these.
pub record AreParts (text : List ℕ) (parts : List PolicyPart) : Type 0 where
  pub policy : PolicyDoc
  pub read : prepared text ≡ Ok policy
  pub sets : map (λ (p : PolicyPart). p.accounts) parts ≡ sets_of policy.accounts
  pub whole : Data
  pub value : json_of text ≡ Some whole
  pub each : All (IsPart whole) parts
