use Rattle.policy_doc.proofs.exports.Admitting.{admits-Admits}
use Rattle.policy_doc.proofs.exports.admission.may_import.Goals as goal

pub returns-clause-meaning : goal.returns-clause-meaning
returns-clause-meaning c = λ e. admits-Admits c.args.importer.now c.args.kind c.args.subject.now e c.tokens.ensures.grammar
