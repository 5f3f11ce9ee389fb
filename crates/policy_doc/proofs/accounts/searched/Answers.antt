-- the closure compares an account's name with the captured one
use Rattle.std.proofs.Common.{rules}
use Rattle.std.proofs.lemmas.Fn.{always_returns_same}
use Rattle.policy_doc.proofs.Names.{name_cmp, ends}
use Rattle.policy_doc.specs.declared.document.NamedAccount.{NamedAccount}
use Rattle.policy_doc.proofs.accounts.searched.Goals as goal

pub returns : goal.returns
returns c =
    let facts = c.binary_search_by.ensures in
    ends c.args.name.now c.args.accounts.now c.requires _ facts.bound
    (facts.position (λ (a : NamedAccount). name_cmp a.name c.args.name.now) (always_returns_same _ _ _ (λ a r f' called. search rules)))
