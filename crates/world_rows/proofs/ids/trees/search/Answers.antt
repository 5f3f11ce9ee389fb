use Rattle.std.proofs.Common.{ap, ◌∙◌}
use Rattle.world_rows.specs.ids.Entries.{in_tree}
use Rattle.world_rows.proofs.ids.Found.{none_found}
use Rattle.world_rows.proofs.ids.trees.search.Goals as goal

pub returns-in-None : goal.returns-in-None
returns-in-None c = λ listing index.
    c.clear.ensures.items ∙ none_found listing c.args.subject.now (λ p i. ap (in_tree p i) c.in-None.ensures.value ∙ index.each p i)

pub returns-in-Ok : goal.returns-in-Ok
returns-in-Ok c = λ listing index.
    c.in-Ok.ensures.index listing (record { ascending = index.ascending; each = λ p i. ap (in_tree p i) c.in-Some.ensures.value ∙ index.each p i })
