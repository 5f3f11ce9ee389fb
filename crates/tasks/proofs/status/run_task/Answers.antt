-- a text that is shown in part is the beginning of what the task prints
use Rattle.std.proofs.Common.{OnErr, IfSome, subst, sym}
use Rattle.devices.specs.Device.{AppendsFront}
use Rattle.command_line.specs.declared.words.Task.{Task}
use Rattle.tasks.specs.Tasks.{done_by, input_of}
use Rattle.tasks.proofs.status.run_task.Goals as goal

pub returns-in-BadKeepalive-clause-prefix : goal.returns-in-BadKeepalive-clause-prefix
returns-in-BadKeepalive-clause-prefix g c =
    let Shows : Task → Type 0 = λ t.
    OnErr c.show-in-BadKeepalive.result (IfSome (input_of t (g.R.Source.remaining c.args.source.now)) (λ input. AppendsFront (g.W.Sink.contents c.args.sink.now) (g.W.Sink.contents c.show-in-BadKeepalive.new.sink) (done_by t input).text))
    in
    subst Shows (sym c.in-BadKeepalive.is) c.show-in-BadKeepalive.ensures.prefix
