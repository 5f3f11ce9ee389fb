use Rattle.subjects.specs.Fault.{pattern_fault}
use Rattle.mapping.proofs.templates.Patterns.{parsed_is}
use Rattle.mapping.proofs.locals.parsed.Goals as goal

pub returns-in-Ok : goal.returns-in-Ok
returns-in-Ok c = parsed_is c.args.text.now (pattern_fault c.args.text.now) c.in-Ok.pattern c.in-Ok.ensures.tokens
