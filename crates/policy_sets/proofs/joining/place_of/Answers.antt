-- the closure compares an account's name with the captured one, and an account has it
use Rattle.std.proofs.Common.{◌∙◌, sym, true≢false, rules, Ok, Err}
use Rattle.std.proofs.lemmas.Fn.{always_returns_same}
use Rattle.policy_doc.specs.Accounts.{IsGapFor, IsPlaceOf}
use Rattle.policy_doc.specs.declared.document.NamedAccount.{NamedAccount}
use Rattle.policy_doc.proofs.Names.{name_cmp, ends}
use Rattle.policy_sets.proofs.Places.{named_at, no_account}
use Rattle.policy_sets.proofs.joining.place_of.Goals as goal

pub unreachable-requires : goal.unreachable-requires
unreachable-requires c =
    let facts = c.in-Err.ensures in
    let gap : IsGapFor c.args.name.now c.args.accounts.now c.in-Err.field-0 =
    ends c.args.name.now c.args.accounts.now c.requires.order (Err c.in-Err.field-0) facts.bound
    (facts.position (λ (a : NamedAccount). name_cmp a.name c.args.name.now) (always_returns_same _ _ _ (λ a r f' called. search rules))) in
    absurd (true≢false (sym c.requires.there ∙ gap.none))

pub returns-clause-named : goal.returns-clause-named
returns-clause-named c =
    let facts = c.in-Ok.ensures in
    let is : IsPlaceOf c.args.name.now c.args.accounts.now c.in-Ok.place =
    ends c.args.name.now c.args.accounts.now c.requires.order (Ok c.in-Ok.place) facts.bound
    (facts.position (λ (a : NamedAccount). name_cmp a.name c.args.name.now) (always_returns_same _ _ _ (λ a r f' called. search rules))) in
    named_at c.args.name.now c.args.accounts.now c.in-Ok.place no_account is.within (is.named no_account)
