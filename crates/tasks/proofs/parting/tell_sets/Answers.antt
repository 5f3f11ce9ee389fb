-- nothing was written
use Rattle.tasks.specs.Check.{sets_of_text}
use Rattle.tasks.proofs.Runs.{refused}
use Rattle.tasks.proofs.parting.tell_sets.Goals as goal

pub returns-in_err-report-in-Some-clause-prefix : goal.returns-in_err-report-in-Some-clause-prefix
returns-in_err-report-in-Some-clause-prefix g c = refused _ (g.R.Source.remaining c.args.source.now) (g.W.Sink.contents c.args.sink.now) (λ text. (sets_of_text text).text)
