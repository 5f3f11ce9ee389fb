use Rattle.std.proofs.Common.{◌≡◌, ◌∙◌, ◌++◌, ℕ, List, ap}
use Rattle.subjects.specs.Subject.{Token, tokens_of}
use Rattle.sublist.specs.Pairs.{matching_ids}
use Rattle.subjects.proofs.Text.{again}
use Rattle.world_rows.proofs.ids.trees.Trees.matching.Goals as goal

pub returns-in_ok-extend_from_slice-in-Some : goal.returns-in_ok-extend_from_slice-in-Some
returns-in_ok-extend_from_slice-in-Some c = λ listing index.
    let same : tokens_of c.bytes.result.now ≡ c.args.subject.now = ap tokens_of c.bytes.ensures ∙ again c.args.subject.now c.tokens.ensures.grammar in
    c.in_ok-extend_from_slice-in-Some.ensures.items
    ∙ (ap (λ (xs : List ℕ). xs ++ c.in-Some.ids.now) c.clear.ensures.items
    ∙ (c.in-Some.ensures c.args.self.now.by_account.entries c.args.self.now.told listing index ∙ ap (λ (s : List Token). matching_ids listing s) same))
