-- what is cached of some draw is so of the others that send a message on under the same subject
use Rattle.std.proofs.Common.{◌≡◌, subst, sym}
use Rattle.receivers.specs.cache.Drawn.{IsSent, subject_of}
use Rattle.receivers.specs.declared.cache.drawn.Drawn.{Drawn}
use Rattle.receivers.proofs.cache.finding.drawn_under.Goals as goal

pub returns-in_ok-again-in-Some : goal.returns-in_ok-again-in-Some
returns-in_ok-again-in-Some c = λ conn text knows there.
    let z = c.args.search.publisher.now in
    let found = c.in-Some.ensures in
    let drawn : Drawn = c.in-Some.drawn.now in
    let is = knows.each found.0 drawn found.1 z there in
    subst (λ (d : Drawn). IsSent c.args.rows.now c.args.search.sessions.now c.args.search.subscriptions.now z d × (subject_of d ≡ c.args.subject.now)) (sym c.in_ok-again-in-Some.ensures) (is.sent, found.2)
