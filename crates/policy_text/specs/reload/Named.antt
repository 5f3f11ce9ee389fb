-- The name of an account that has a fault.
use Rattle.std.specs.Prelude.{ℕ, List, [], Option, Some, None}
use Rattle.policy_doc.specs.Document.{name_at}
use Rattle.policy_doc.specs.declared.document.PolicyDoc.{PolicyDoc}

-- the name of the account at a place of a document, if there is one
abbrev pub name_in : Option PolicyDoc → ℕ → List ℕ
name_in None place = []
name_in (Some doc) place = name_at doc.accounts place
