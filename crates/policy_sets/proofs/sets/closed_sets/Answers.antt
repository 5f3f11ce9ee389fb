-- what is computed are the smallest closed sets
use Rattle.std.proofs.Common.{◌∙◌, ap, sym, subst, List}
use Rattle.policy_doc.specs.Accounts.{IsByName, Name}
use Rattle.policy_doc.specs.declared.document.NamedAccount.{NamedAccount}
use Rattle.policy_doc.specs.declared.document.PolicyDoc.{PolicyDoc}
use Rattle.policy_sets.specs.Sets.{AreClosedSets, first_of, names_of, sets_by, sets_of}
use Rattle.policy_sets.proofs.Smallest.{are_closed_sets}
use Rattle.policy_sets.proofs.sets.closed_sets.Goals as goal

pub returns-clause-sets : goal.returns-clause-sets
unfolding sets_of
returns-clause-sets c =
    c.in_ok-sets.ensures ∙ ap (λ (l : List NamedAccount). sets_by (first_of l) (names_of l)) (c.as_slice-accounts.ensures.accounts ∙ ap (λ (d : PolicyDoc). d.accounts) c.doc.ensures.same)

pub returns-clause-meaning : goal.returns-clause-meaning
returns-clause-meaning c =
    let doc : PolicyDoc = c.args.policy.now in
    let accounts = c.as_slice-accounts.ensures.accounts ∙ ap (λ (d : PolicyDoc). d.accounts) c.doc.ensures.same in
    let is = c.in_ok-sets.ensures ∙ ap (λ (l : List NamedAccount). sets_by (first_of l) (names_of l)) accounts in
    let order : IsByName doc.accounts = subst (λ (d : PolicyDoc). IsByName d.accounts) c.doc.ensures.same c.as_slice-accounts.ensures.order in
    subst (λ (sets : List (List Name)). AreClosedSets doc sets) (sym is) (are_closed_sets doc c.doc.ensures.valid order)
