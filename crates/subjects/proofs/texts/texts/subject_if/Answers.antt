use Rattle.subjects.specs.Fault.{subject_fault}
use Rattle.subjects.proofs.texts.Parsing.{found_is}
use Rattle.subjects.proofs.texts.texts.subject_if.Goals as goal

pub returns : goal.returns
returns c = found_is c.args.text.now (subject_fault c.args.text.now) c.parse.result _ c.parse.ensures.tokens c.in_ok-found.ensures
