-- what is cached of the message's draw is so of the message
use Rattle.std.proofs.Common.{◌∙◌, ap}
use Rattle.subjects.specs.Subject.{tokens_of}
use Rattle.subjects.proofs.Text.{again}
use Rattle.receivers.proofs.cache.Told.{sent_on}
use Rattle.world_views.proofs.addressing.finding.Receivers.address_drawn.Goals as goal

pub returns-clause-tells : goal.returns-clause-tells
returns-clause-tells c = λ done rows zs subs z current there.
    sent_on c.args.self.now.cache.drawn c.args.conn _ c.args.message.now c.args.word _ rows zs subs z (c.in_ok-done.ensures.tells done) current.drawn there
    (ap tokens_of c.bytes.ensures ∙ again c.subject-subject.result c.tokens.ensures.grammar ∙ c.subject-subject.ensures)
