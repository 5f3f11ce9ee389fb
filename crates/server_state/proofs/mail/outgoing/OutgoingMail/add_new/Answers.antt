-- the owner's mail says it, and so some worker's does
use Rattle.std.proofs.Common.{rules, ◌<◌, length, ap, sym, subst}
use Rattle.server_state.specs.mail.Mails.{AreMore, IsSaidBySome}
use Rattle.server_state.proofs.mail.Told.{more_set, said_set}
use Rattle.server_state.proofs.mail.outgoing.OutgoingMail.add_new.Goals as goal

pub returns-in-Some-clause-more : goal.returns-in-Some-clause-more
returns-in-Some-clause-more c =
    let mails = c.args.self.now.by_worker.items in
    subst (λ l. AreMore mails l) (sym (ap (λ v. v.items) c.note_place.ensures))
    (more_set mails c.owner_of-worker.result c.in-Some.mail.now c.add_pending.new.self c.in-Some.ensures.value c.add_pending.ensures.more)

pub returns-in-Some-clause-said : goal.returns-in-Some-clause-said
returns-in-Some-clause-said c _ =
    let mails = c.args.self.now.by_worker.items in
    let within : c.owner_of-worker.result < length mails = search rules in
    subst (λ l. IsSaidBySome c.args.pending l) (sym (ap (λ v. v.items) c.note_place.ensures))
    (said_set c.args.pending mails c.owner_of-worker.result c.add_pending.new.self within c.add_pending.ensures.said)
