use Rattle.std.proofs.Common.{subst, Ok, Err}
use Rattle.shared_hub.specs.Entering.{IsPostedBy}
use Rattle.server_port.specs.declared.port.ServerPort.{ServerPort}
use Rattle.server_port.proofs.Offers.{posted_if, same_count}
use Rattle.server_port.proofs.port.ServerPort.enter_message.Goals as goal

pub returns-in-Ok-offer_again-clause-offered : goal.returns-in-Ok-offer_again-clause-offered
returns-in-Ok-offer_again-clause-offered g c =
    let opening = g.L.Run.opening in
    let after = c.offer_again.new.self.seat.count in
    let answered = Ok c.in-Ok-offer_again.answer in
    let same = same_count {P = ServerPort g.row.L.Denot g.row.R.Denot g.row.G.Denot g.L.Run} (λ p. p.seat.count) opening c.args.self.now c.offer_once.new.self c.args.event c.in-Err.event c.in-Err.refusal c.in-Err.ensures.offered in
    subst (λ e. IsPostedBy opening c.args.self.now.seat.count e answered after) c.in-Err.ensures.err
    (subst (λ n. IsPostedBy opening n c.in-Err.event answered after) same c.in-Ok-offer_again.ensures.offered)

pub returns-in-By-refusal-clause-offered : goal.returns-in-By-refusal-clause-offered
returns-in-By-refusal-clause-offered g c =
    let opening = g.L.Run.opening in
    let after = c.offer_again.new.self.seat.count in
    let refused = Err (c.in-Err-offer_again.event, c.in-By-refusal.refusal) in
    let same = same_count {P = ServerPort g.row.L.Denot g.row.R.Denot g.row.G.Denot g.L.Run} (λ p. p.seat.count) opening c.args.self.now c.offer_once.new.self c.args.event c.in-Err.event c.in-Err.refusal c.in-Err.ensures.offered in
    subst (λ e. IsPostedBy opening c.args.self.now.seat.count e refused after) c.in-Err.ensures.err
    (subst (λ n. IsPostedBy opening n c.in-Err.event refused after) same
    (posted_if {P = ServerPort g.row.L.Denot g.row.R.Denot g.row.G.Denot g.L.Run} (λ p. p.seat.count) opening c.offer_once.new.self c.offer_again.new.self c.in-Err.event c.in-Err-offer_again.event
    c.in-Err-offer_again.refusal c.in-By-refusal.refusal c.in-Err-offer_again.ensures.offered c.in-By-refusal.is))
