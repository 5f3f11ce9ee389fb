-- what the desk tells of each offer, as far as the seat knows it
use Rattle.shared_waits.proofs.runs.Runs.{run_along}
use Rattle.shared_hub.specs.desk.Publishing.{IsPublished}
use Rattle.shared_hub.specs.Entering.{IsOfferedBy, IsToldOfOffer, telling}
use Rattle.shared_hub.proofs.Offered.{offered_by, told_by}
use Rattle.shared_hub.proofs.shared_hub.SharedHub.offer_run.Goals as goal

pub returns-clause-run : goal.returns-clause-run
returns-clause-run g c =
    let run = c.step_run-end.ensures.run in (
      run.0,
      run.1,
      run_along (λ x. x.seat) (IsPublished (λ s. s.count) g.L.Run.opening) (λ s e r after. IsOfferedBy g.L.Run.opening s.count e r after.count)
          g.W.Words.draws c.args.context.now.posts.conn c.args.context.now.posts.now (offered_by (λ s. s.count) g.L.Run.opening) c.args.messages.now.items _ c.args.words.now run.0 c.step_run-end.result
          c.step_run-end.new.messages.items _ c.step_run-end.new.words run.2,
    )

pub returns-clause-told : goal.returns-clause-told
returns-clause-told g c =
    let run = c.step_run-end.ensures.run in (
      run.0,
      run.1,
      run_along (λ x. telling x.seat.count x.told) (IsPublished (λ s. s.count) g.L.Run.opening) (λ x e r y. IsToldOfOffer g.L.Run.opening x.count e r y.count y.told)
          g.W.Words.draws c.args.context.now.posts.conn c.args.context.now.posts.now (told_by (λ s. s.count) g.L.Run.opening) c.args.messages.now.items _ c.args.words.now run.0 c.step_run-end.result
          c.step_run-end.new.messages.items _ c.step_run-end.new.words run.2,
    )
