-- what is left behind the first token
use Rattle.std.proofs.Common.{◌∙◌, sym}
use Rattle.service_exporter.proofs.service_subjects.Tokens.{rest_same}
use Rattle.service_exporter.proofs.service_subjects.names.number_in.Goals as goal

pub returns-in-Some : goal.returns-in-Some
returns-in-Some c = λ mark hex digits e. c.number_behind.ensures hex digits (rest_same _ _ _ _ (sym c.in-Some.ensures ∙ c.tokens-tokens.ensures.tokens ∙ e))
