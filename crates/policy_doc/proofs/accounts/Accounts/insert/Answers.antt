-- what stands under the name is replaced, or the account is put into the gap for it
use Rattle.std.proofs.Common.{◌∙◌, sym, subst, List}
use Rattle.policy_doc.specs.Accounts.{IsGapFor, IsPlaceOf}
use Rattle.policy_doc.specs.declared.document.NamedAccount.{NamedAccount}
use Rattle.policy_doc.proofs.Names.{IsByName-with_account, replaced, put_in, gap_within}
use Rattle.policy_doc.proofs.accounts.Accounts.insert.Goals as goal

pub invariant_of-self : goal.invariant_of-self
invariant_of-self c =
    let xs = c.self.inside.accounts.items in
    let at : IsPlaceOf c.args.name xs c.in-Ok.place = subst (λ (l : List NamedAccount). IsPlaceOf c.args.name l c.in-Ok.place) c.as_slice.ensures.value c.in-Ok.ensures in
    rw (replaced c.args.name c.args.account xs c.self.invariant c.in-Ok.place at) (IsByName-with_account c.args.name c.args.account xs c.self.invariant)

pub insert-requires : goal.insert-requires
insert-requires c = rw (sym c.as_slice.ensures.len) (gap_within c.args.name c.as_slice.result.now c.in-Err.place c.in-Err.ensures)

pub invariant_of-self-in-Continue-1 : goal.invariant_of-self-in-Continue-1
invariant_of-self-in-Continue-1 c =
    let xs = c.self.inside.accounts.items in
    let at : IsGapFor c.args.name xs c.in-Err.place = subst (λ (l : List NamedAccount). IsGapFor c.args.name l c.in-Err.place) c.as_slice.ensures.value c.in-Err.ensures in
    rw (c.in_ok-insert-in-Err.ensures.items, put_in c.args.name c.args.account xs c.self.invariant c.in-Err.place at)
    (IsByName-with_account c.args.name c.args.account xs c.self.invariant)

pub returns-in-Ok-clause-ok : goal.returns-in-Ok-clause-ok
returns-in-Ok-clause-ok c =
    let xs = c.self.inside.accounts.items in
    let at : IsPlaceOf c.args.name xs c.in-Ok.place = subst (λ (l : List NamedAccount). IsPlaceOf c.args.name l c.in-Ok.place) c.as_slice.ensures.value c.in-Ok.ensures in
    rw (sym c.self.view_is) (replaced c.args.name c.args.account xs c.self.invariant c.in-Ok.place at)

pub returns-in_ok-insert-in-Err-clause-ok : goal.returns-in_ok-insert-in-Err-clause-ok
returns-in_ok-insert-in-Err-clause-ok c =
    let xs = c.self.inside.accounts.items in
    let at : IsGapFor c.args.name xs c.in-Err.place = subst (λ (l : List NamedAccount). IsGapFor c.args.name l c.in-Err.place) c.as_slice.ensures.value c.in-Err.ensures in
    rw (sym c.self.view_is) (c.in_ok-insert-in-Err.ensures.items ∙ put_in c.args.name c.args.account xs c.self.invariant c.in-Err.place at)
