-- the owner's mail tells it, and so some worker's does
use Rattle.std.proofs.Common.{rules, ◌<◌, length}
use Rattle.server_state.specs.mail.Mails.{frees}
use Rattle.server_state.proofs.mail.Told.{more_set, told_at}
use Rattle.server_state.proofs.mail.outgoing.OutgoingMail.add_freed.Goals as goal

pub returns-in-Some-clause-more : goal.returns-in-Some-clause-more
returns-in-Some-clause-more c =
    more_set c.args.self.now.by_worker.items c.owner_of-worker.result c.in-Some.mail.now c.add_freed.new.self c.in-Some.ensures.value c.add_freed.ensures.more

pub returns-in-Some-clause-told : goal.returns-in-Some-clause-told
returns-in-Some-clause-told c _ =
    let mails = c.args.self.now.by_worker.items in
    let within : c.owner_of-worker.result < length mails = search rules in
    told_at frees c.args.conn mails c.owner_of-worker.result c.add_freed.new.self within c.add_freed.ensures.freed
