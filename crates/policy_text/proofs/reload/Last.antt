-- Memory lacks last: where the document is valid.
use Rattle.std.proofs.Common.{◌≡◌, ◌∙◌, List, [], ℕ, true, false, Some, Result, Ok, Err, IfOk, IfErr, ap, sym, subst, true≢false}
use Rattle.policy_doc.specs.Document.{policy_fault, IsPolicyFault, IsValidPolicy}
use Rattle.policy_doc.specs.declared.document.PolicyDoc.{PolicyDoc}
use Rattle.policy_doc.specs.declared.fault.PolicyFault.{PolicyFault}
use Rattle.policy_doc.specs.declared.fault.PolicyFault.TheVariants.{DuplicateUser, UnknownAccount, SelfImport, PrefixAndTo, BadMapping, ImportNotExported, NoMemory}
use Rattle.policy_doc.specs.Faults as document
use Rattle.policy_walk.specs.declared.fault.ConfigFault.{ConfigFault}
use Rattle.policy_text.specs.reload.Fault.{is_memory}
use Rattle.policy_text.specs.reload.Reload.{account_in, checked, IsLastOf, IsLast}
use Rattle.policy_text.specs.declared.reload.fault.ReloadFault.{ReloadFault}
use Rattle.policy_text.specs.declared.reload.fault.ReloadFault.TheVariants.{Config, Policy}

valid : (doc : PolicyDoc) (fault : PolicyFault) → IsPolicyFault doc fault → document.is_memory fault ≡ true → IsValidPolicy doc
valid doc (DuplicateUser place) is memory = absurd (true≢false (sym memory))
valid doc (UnknownAccount place) is memory = absurd (true≢false (sym memory))
valid doc (SelfImport place) is memory = absurd (true≢false (sym memory))
valid doc (PrefixAndTo place) is memory = absurd (true≢false (sym memory))
valid doc (BadMapping place) is memory = absurd (true≢false (sym memory))
valid doc (ImportNotExported place) is memory = absurd (true≢false (sym memory))
valid doc NoMemory is memory = is

-- the fault of a document with its account
pub fault_last : (doc : PolicyDoc) (fault : PolicyFault) (account : List ℕ) (it : ReloadFault) → IsPolicyFault doc fault → it ≡ Policy fault account → IsLastOf doc it
fault_last doc fault account it is same = subst (IsLastOf doc) (sym same) (valid doc fault is)

-- it is the answer
pub fault_answers : (doc : PolicyDoc) (fault : PolicyFault) (it : ReloadFault) → (document.is_memory fault ≡ false → policy_fault doc ≡ Some fault)
    → it ≡ Policy fault (account_in doc fault) → is_memory it ≡ false → checked doc (policy_fault doc) ≡ Err it
fault_answers doc fault it first same known =
    ap (checked doc) (first (sym (ap is_memory same) ∙ known)) ∙ ap (λ (f : ReloadFault). Err f) (sym same)

-- what was read of a text is a document, of which that is known
pub read_last : {X : Type 0} (r : Result X ReloadFault) (read : Result PolicyDoc ConfigFault) (doc : PolicyDoc) → read ≡ Ok doc → IfErr r (IsLastOf doc) → IfErr r (IsLast read)
read_last (Ok x) read doc is last = last
read_last (Err (Config fault)) read doc is last = last
read_last (Err (Policy fault account)) read doc is last = λ memory. (doc, is, last memory)

pub read_valid : (r : Result PolicyDoc ReloadFault) (read : Result PolicyDoc ConfigFault) (doc : PolicyDoc) → read ≡ Ok doc
    → IfOk r (λ (p : PolicyDoc). (p ≡ doc) × IsValidPolicy p) → IfOk r (λ (p : PolicyDoc). (read ≡ Ok p) × IsValidPolicy p)
read_valid (Ok p) read doc is (same, valid) = (is ∙ ap (λ (d : PolicyDoc). Ok d) (sym same), valid)
read_valid (Err fault) read doc is h = h

-- no memory for what follows
pub none_last : (read : Result PolicyDoc ConfigFault) (doc : PolicyDoc) (it : ReloadFault) → (read ≡ Ok doc) × IsValidPolicy doc → it ≡ Policy NoMemory [] → IsLast read it
none_last read doc it known same = subst (IsLast read) (sym same) (λ memory. (doc, known.0, known.1))
