-- One user, one import or one account further.
use Rattle.std.proofs.Common.{◌≡◌, ◌<◌, ◌+◌, ℕ, suc, List, [], ◌∷◌, ◌++◌, length, drop, take, get_or, ap, sym, refl, ◌∙◌, append_assoc, drop-cons, arith}
use Rattle.std.specs.Option.{option_map}
use Rattle.std.proofs.lemmas.Grind.{take_at_read}
use Rattle.policy_doc.proofs.UniqueNames.{users_of-next}
use Rattle.policy_doc.specs.Accounts.{Name}
use Rattle.policy_doc.specs.Document.{users_of}
use Rattle.policy_doc.specs.Imports.{cause_of, fault_at, place_at}
use Rattle.policy_doc.specs.declared.document.ImportDoc.{ImportDoc}
use Rattle.policy_doc.specs.declared.document.NamedAccount.{NamedAccount}
use Rattle.policy_doc.specs.declared.document.UserDoc.{UserDoc}
use Rattle.policy_doc.specs.declared.fault.PolicyFault.{PolicyFault}
use Rattle.fault_lines.specs.Documents.{with_causes, with_fault, with_import_faults, with_twin, with_twin_faults, with_twins}

-- the elements from an index on begin with the one there
pub cut : {X : Type 0} (xs : List X) (i : ℕ) (x : X) → i < length xs → x ≡ get_or xs i x → drop i xs ≡ x ∷ drop (i + 1) xs
cut xs i x lt is =
    let next : i + 1 ≡ suc i = omega arith in
    rw next (drop-cons xs i x lt ∙ ap (λ w. w ∷ drop (suc i) xs) (sym is))

pub twins_further : (earlier users : List UserDoc) (account row : ℕ) (u : UserDoc) (front after total : List PolicyFault) → row < length users → u ≡ get_or users row u →
    after ≡ with_twin (earlier ++ take row users) u.user (place_at account row) front →
    with_twins (earlier ++ take row users) account row (drop row users) front ≡ total →
    with_twins (earlier ++ take (row + 1) users) account (row + 1) (drop (row + 1) users) after ≡ total
unfolding with_twins
twins_further earlier users account row u front after total lt is found so_far =
    let taken : earlier ++ take (row + 1) users ≡ (earlier ++ take row users) ++ u ∷ [] =
    ap (λ l. earlier ++ l) ((take_at_read users row u lt).1 ∙ ap (λ w. take row users ++ w ∷ []) (sym is)) ∙ sym (append_assoc earlier (take row users) (u ∷ [])) in
    let one : with_twins (earlier ++ take row users) account row (drop row users) front ≡ with_twins ((earlier ++ take row users) ++ u ∷ []) account (row + 1) (drop (row + 1) users) after =
    rw (cut users row u lt is, found) refl in
    ap (λ l. with_twins l account (row + 1) (drop (row + 1) users) after) taken ∙ sym one ∙ so_far

pub accounts_further : (accounts : List NamedAccount) (i : ℕ) (a : NamedAccount) (front after total : List PolicyFault) → i < length accounts → a ≡ get_or accounts i a →
    after ≡ with_twins (users_of (take i accounts)) i 0 a.account.users front →
    with_twin_faults (users_of (take i accounts)) i (drop i accounts) front ≡ total →
    with_twin_faults (users_of (take (i + 1) accounts)) (i + 1) (drop (i + 1) accounts) after ≡ total
unfolding with_twin_faults
accounts_further accounts i a front after total lt is found so_far =
    let earlier : List UserDoc = users_of (take i accounts) in
    let taken : users_of (take (i + 1) accounts) ≡ users_of (take i accounts) ++ a.account.users =
    users_of-next accounts i a lt ∙ ap (λ (w : NamedAccount). users_of (take i accounts) ++ w.account.users) (sym is) in
    let one : with_twin_faults (users_of (take i accounts)) i (drop i accounts) front ≡ with_twin_faults (users_of (take i accounts) ++ a.account.users) (i + 1) (drop (i + 1) accounts) after =
    rw (cut accounts i a lt is, found) refl in
    ap (λ l. with_twin_faults l (i + 1) (drop (i + 1) accounts) after) taken ∙ sym one ∙ so_far

pub causes_further : (accounts : List NamedAccount) (importer : Name) (imports : List ImportDoc) (account row : ℕ) (i : ImportDoc) (front after total : List PolicyFault) → row < length imports → i ≡ get_or imports row i →
    after ≡ with_fault (option_map (fault_at (place_at account row)) (cause_of accounts importer i)) front →
    with_causes accounts importer account row (drop row imports) front ≡ total →
    with_causes accounts importer account (row + 1) (drop (row + 1) imports) after ≡ total
unfolding with_causes
causes_further accounts importer imports account row i front after total lt is found so_far =
    let one : with_causes accounts importer account row (drop row imports) front ≡ with_causes accounts importer account (row + 1) (drop (row + 1) imports) after =
    rw (cut imports row i lt is, found) refl in
    sym one ∙ so_far

pub importers_further : (all accounts : List NamedAccount) (i : ℕ) (a : NamedAccount) (front after total : List PolicyFault) → i < length accounts → a ≡ get_or accounts i a →
    after ≡ with_causes all a.name i 0 a.account.imports front →
    with_import_faults all i (drop i accounts) front ≡ total →
    with_import_faults all (i + 1) (drop (i + 1) accounts) after ≡ total
unfolding with_import_faults
importers_further all accounts i a front after total lt is found so_far =
    let one : with_import_faults all i (drop i accounts) front ≡ with_import_faults all (i + 1) (drop (i + 1) accounts) after =
    rw (cut accounts i a lt is, found) refl in
    sym one ∙ so_far
