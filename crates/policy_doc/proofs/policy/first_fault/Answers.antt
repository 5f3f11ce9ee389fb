-- a doubled user is the first fault; without one it is that of the import rows
use Rattle.std.proofs.Common.{◌∙◌, sym, subst, List}
use Rattle.policy_doc.specs.Document.{users_of, HaveUniqueNames, IsFirstTwin}
use Rattle.policy_doc.specs.declared.document.NamedAccount.{NamedAccount}
use Rattle.policy_doc.proofs.UniqueNames.{first_twin-breaks}
use Rattle.policy_doc.proofs.Twins.{no_fault, fault_is}
use Rattle.policy_doc.proofs.Causes.{decided}
use Rattle.policy_doc.proofs.policy.first_fault.Goals as goal

pub returns-in-Some-clause-first : goal.returns-in-Some-clause-first
returns-in-Some-clause-first c =
    sym (fault_is c.args.doc.now c.in-Some.place (subst (λ (accounts : List NamedAccount). IsFirstTwin accounts c.in-Some.place) c.as_slice.ensures.accounts c.in-Some.ensures))

pub returns-in-Some-clause-fault : goal.returns-in-Some-clause-fault
returns-in-Some-clause-fault c =
    let twin : IsFirstTwin c.args.doc.now.accounts c.in-Some.place =
    subst (λ (accounts : List NamedAccount). IsFirstTwin accounts c.in-Some.place) c.as_slice.ensures.accounts c.in-Some.ensures in
    (twin, λ valid. first_twin-breaks c.args.doc.now.accounts c.in-Some.place twin valid.names)

pub returns-in-None-clause-first : goal.returns-in-None-clause-first
returns-in-None-clause-first c =
    let unique : HaveUniqueNames (users_of c.args.doc.now.accounts) =
    subst (λ (accounts : List NamedAccount). HaveUniqueNames (users_of accounts)) c.as_slice.ensures.accounts c.in-None.ensures in
    c.fault_in_imports-fault.ensures ∙ sym (no_fault c.args.doc.now unique)

pub returns-in-None-clause-fault : goal.returns-in-None-clause-fault
returns-in-None-clause-fault c =
    let unique : HaveUniqueNames (users_of c.args.doc.now.accounts) =
    subst (λ (accounts : List NamedAccount). HaveUniqueNames (users_of accounts)) c.as_slice.ensures.accounts c.in-None.ensures in
    decided c.args.doc.now c.fault_in_imports-fault.result c.fault_in_imports-fault.ensures unique
