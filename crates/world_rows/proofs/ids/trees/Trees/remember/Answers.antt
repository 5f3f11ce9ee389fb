use Rattle.std.proofs.Common.{◌≡◌, ◌∙◌, List, ap, sym}
use Rattle.subjects.specs.Subject.{Token, tokens_of}
use Rattle.sublist.specs.Pairs.{matching_ids}
use Rattle.subjects.proofs.Text.{again}
use Rattle.world_rows.proofs.ids.trees.Trees.remember.Goals as goal

pub invariant_of-self : goal.invariant_of-self
invariant_of-self c =
    let entries = c.args.self.now.by_account.entries in
    let same : tokens_of c.bytes-text.result.now ≡ c.args.subject.now = ap tokens_of c.bytes-text.ensures ∙ again c.args.subject.now c.tokens.ensures.grammar in
    record { told = c.put.ensures entries (c.select.ensures entries c.args.self.now.told) (λ listing index. c.in-Ok.ensures listing index ∙ ap (λ (s : List Token). matching_ids listing s) (sym same)) }
