-- A verdict with its reason (docs/POLICY.md, "Explaining a verdict").
use Rattle.std.specs.Prelude.{◌∷◌, ℕ, Bool, true, List, [], Option, Some, None, find, if◌then◌else◌}
use Rattle.std.specs.List.{enumerate_from, flat_map, slice_get}
use Rattle.std.specs.Option.{option_and_then, option_map}
use Rattle.std.specs.Str.{bytes_eq}
use Rattle.subjects.specs.Subject.{Token, text_of}
use Rattle.subjects.specs.Outside.{outside}
use Rattle.policy_doc.specs.Accounts.{Name}
use Rattle.policy_doc.specs.Document.{users_of}
use Rattle.policy_doc.specs.permission_doc.Entries.{entry_text}
use Rattle.policy_doc.specs.declared.document.PolicyDoc.{PolicyDoc}
use Rattle.policy_doc.specs.declared.document.UserDoc.{UserDoc}
use Rattle.permissions.specs.Lists.{Entry, Lists, Queue, Rules, is_plain}
use Rattle.permissions.specs.Verdicts.{delivery_verdict, publish_verdict, subscribe_verdict}
use Rattle.permissions.specs.declared.verdict.By.TheVariants.{All, Index, Grant}
use Rattle.permissions.specs.declared.verdict.Verdict.{Verdict}
use Rattle.permissions.specs.declared.verdict.Verdict.TheVariants.{Allowed, DeniedBy, NoAllow, NoQueueAllow}
use Rattle.explain.specs.declared.explanation.Explanation.{Explanation}
use Rattle.explain.specs.declared.explanation.Uncovered.{Uncovered}

-- the user of a name
abbrev pub has_user_name : Name → UserDoc → Bool
has_user_name name u = bytes_eq u.user name

abbrev pub user_named : PolicyDoc → Name → Option UserDoc
user_named doc name = find (has_user_name name) (users_of doc.accounts)

-- the entry that a verdict names
abbrev pub allow_entry : Rules → ℕ → Option Entry
allow_entry rules i = option_and_then (λ (entries : List Entry). slice_get entries i) rules.allow

abbrev pub named_entry : Rules → Verdict → Option Entry
named_entry rules (Allowed All) = None
named_entry rules (Allowed (Index i)) = allow_entry rules i
named_entry rules (Allowed Grant) = None
named_entry rules (DeniedBy i) = slice_get rules.deny i
named_entry rules NoAllow = None
named_entry rules (NoQueueAllow i) = allow_entry rules i

-- the entries of a list that lack a subject of what was asked, each with the text of one
abbrev pub uncovered_with : ℕ → Entry → Option (List ℕ) → List Uncovered
uncovered_with i e None = []
uncovered_with i e (Some subject) = record { index = i; entry = entry_text e; subject = subject } ∷ []

abbrev pub uncovered_from : ℕ → (Entry → Option (List ℕ)) → List Entry → List Uncovered
uncovered_from first lacking entries = flat_map (λ (p : ℕ × Entry). uncovered_with p.0 p.1 (lacking p.1)) (enumerate_from first entries)

abbrev pub uncovered_by : (Entry → Option (List ℕ)) → List Entry → List Uncovered
uncovered_by lacking entries = uncovered_from 0 lacking entries

-- the allow list, where none of its entries allows what was asked
abbrev pub refusing_list : Rules → Verdict → Option (List Entry)
refusing_list rules (Allowed by) = None
refusing_list rules (DeniedBy i) = None
refusing_list rules NoAllow = rules.allow
refusing_list rules (NoQueueAllow i) = None

abbrev pub uncovered_of : (Entry → Option (List ℕ)) → Option (List Entry) → List Uncovered
uncovered_of lacking None = []
uncovered_of lacking (Some entries) = uncovered_by lacking entries

-- a verdict with the entry that it names, and with what allow entries lack
abbrev pub reasoned : (Entry → Option (List ℕ)) → Rules → Verdict → Explanation
reasoned lacking rules verdict = record {
  verdict = verdict;
  entry = option_map entry_text (named_entry rules verdict);
  outside = uncovered_of lacking (refusing_list rules verdict);
}

-- a publish: each allow entry lacks the published subject
abbrev pub lacks_subject : List Token → Entry → Option (List ℕ)
lacks_subject subject e = Some (text_of subject)

-- a subscription: of the allow entries that were looked at, all with a queue and else the plain ones, each lacks the
-- subject that is outside it
abbrev pub is_looked_at : Queue → Entry → Bool
is_looked_at None e = is_plain e
is_looked_at (Some queue) e = true

abbrev pub lacks_pattern : List Token → Queue → Entry → Option (List ℕ)
lacks_pattern pattern queue e = if is_looked_at queue e then option_map text_of (outside e.subject pattern) else None

-- a delivery looks at no allow entry
abbrev pub lacks_nothing : Entry → Option (List ℕ)
lacks_nothing e = None

abbrev pub publish_reason : Lists → List Token → Explanation
publish_reason lists subject = reasoned (lacks_subject subject) lists.publish (publish_verdict lists subject)

abbrev pub subscribe_reason : Lists → List Token → Queue → Explanation
subscribe_reason lists pattern queue = reasoned (lacks_pattern pattern queue) lists.subscribe (subscribe_verdict lists pattern queue)

abbrev pub delivery_reason : Lists → List Token → Queue → Explanation
delivery_reason lists subject queue = reasoned lacks_nothing lists.subscribe (delivery_verdict lists subject queue)
