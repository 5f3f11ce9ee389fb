-- the account at the place of the name is the first of it, and where it has no place there is none
use Rattle.std.proofs.Common.{◌∙◌, ap, sym, Some}
use Rattle.policy_doc.proofs.Names.{found-at, none-found}
use Rattle.policy_doc.proofs.accounts.named_in.Goals as goal

pub returns-in-Ok : goal.returns-in-Ok
returns-in-Ok c =
    ap Some c.index-accounts-place.is
    ∙ found-at c.args.name.now c.args.accounts.now c.in-Ok.place c.index-accounts-place.result c.requires c.in-Ok.ensures.within
    (c.in-Ok.ensures.named c.index-accounts-place.result)

pub returns-in-Err : goal.returns-in-Err
returns-in-Err c = sym (none-found c.args.name.now c.args.accounts.now c.in-Err.ensures.none)
