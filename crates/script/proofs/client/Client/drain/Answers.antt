-- the Takes are enough for what waits
use Rattle.std.proofs.Common.{◌≡◌, ◌∙◌, false, None, ap}
use Rattle.std.proofs.lemmas.Result.{IfOk-weaker}
use Rattle.world.specs.Shown.{waiting_of}
use Rattle.script.specs.Play.{enough_takes, pending_effect, takes, IsClientEffect}
use Rattle.script.proofs.Enough.{enough}
use Rattle.script.proofs.client.Client.drain.Goals as goal

pub returns-clause-drained : goal.returns-clause-drained
returns-clause-drained c =
    let most : c.enough_takes-most.result ≡ enough_takes (waiting_of c.args.server.now.hub.world c.args.self.now.conn.conn) =
    c.enough_takes-most.ensures ∙ ap enough_takes (c.waiting.ensures ∙ ap (waiting_of c.args.server.now.hub.world) c.number.ensures) in
    IfOk-weaker c.take_all.result
    (λ full. IsClientEffect (takes c.enough_takes-most.result c.args.server.now c.args.self.now) c.args.out.now.items c.take_all.new.out.items c.take_all.new.self c.take_all.new.server full)
    (λ full. full ≡ false → c.args.self.now.held ≡ false → pending_effect c.take_all.new.server c.take_all.new.self ≡ None)
    (λ full is no free. enough c.enough_takes-most.result c.args.server.now c.take_all.new.server c.args.self.now c.take_all.new.self c.args.out.now.items c.take_all.new.out.items full most is no)
    c.take_all.ensures
