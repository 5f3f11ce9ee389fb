use Rattle.std.proofs.Common.{◌≡◌, ◌∙◌, rules}
use Rattle.subjects.specs.Subject.{tokens_of}
use Rattle.mapping.proofs.Made.{local_tokens}
use Rattle.mapping.proofs.locals.local_of.Goals as goal

pub returns-clause-pattern : goal.returns-clause-pattern
returns-clause-pattern c =
    let is : c.in_ok-pattern.pattern ≡ tokens_of c.in_ok-text.text.items = search rules in
    is ∙ local_tokens c.args.template.now c.in_ok-text.text.items c.requires.spelled c.requires.few c.in_ok-text.ensures
