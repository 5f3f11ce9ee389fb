-- the worker's mail says it, and so some worker's does
use Rattle.std.proofs.Common.{rules, refl, ◌<◌, length}
use Rattle.server_state.proofs.mail.Told.{more_set, said_set}
use Rattle.server_state.proofs.mail.outgoing.OutgoingMail.add_cached.Goals as goal

pub returns-in-None-clause-more : goal.returns-in-None-clause-more
returns-in-None-clause-more c = more_set c.args.self.now.by_worker.items c.in-Some.field-0.worker c.in-Some-get_mut.mail.now c.add_at.new.self c.in-Some-get_mut.ensures.value c.add_at.ensures.more

pub returns-then-ne-clause-more : goal.returns-then-ne-clause-more
returns-then-ne-clause-more c = more_set c.args.self.now.by_worker.items c.in-Some.field-0.worker c.in-Some-get_mut.mail.now c.add_at.new.self c.in-Some-get_mut.ensures.value c.add_at.ensures.more

pub returns-then-ne-clause-said : goal.returns-then-ne-clause-said
returns-then-ne-clause-said c _ =
    let within : c.in-Some.field-0.worker < length c.args.self.now.by_worker.items = search rules in
    said_set c.args.more c.args.self.now.by_worker.items c.in-Some.field-0.worker c.add_at.new.self within (c.in-Some-add_at.ensures.said refl)

pub returns-else-ne-clause-more : goal.returns-else-ne-clause-more
returns-else-ne-clause-more c = more_set c.args.self.now.by_worker.items c.in-Some.field-0.worker c.in-Some-get_mut.mail.now c.add_at.new.self c.in-Some-get_mut.ensures.value c.add_at.ensures.more

pub returns-else-ne-clause-said : goal.returns-else-ne-clause-said
returns-else-ne-clause-said c _ =
    let within : c.in-Some.field-0.worker < length c.args.self.now.by_worker.items = search rules in
    said_set c.args.more c.args.self.now.by_worker.items c.in-Some.field-0.worker c.add_at.new.self within (c.in-Some-add_at.ensures.said refl)
