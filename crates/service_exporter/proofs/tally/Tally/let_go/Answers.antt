-- what was dead at the moment is missed neither from it on nor, where it lived longer, before
use Rattle.std.proofs.Common.{sym, subst, arith}
use Rattle.service_exporter.specs.declared.tally.Tally.{Tally}
use Rattle.service_exporter.proofs.Tallies.{IsLater, later_now, later_same, goes_on, goes_on_most}
use Rattle.service_exporter.proofs.tally.Tally.let_go.Goals as goal
use Rattle.service_exporter.proofs.tally.Tally.let_go.Goals.{then-self-now, else-self-now}

pub returns-then-self-now-2 : goal.returns-then-self-now-2
returns-then-self-now-2 c = λ was left same tallied.
    let later : IsLater c.args.self.now c.args.now c.if-self-now.self =
    elim c.if-self-now.branch [
      | then-self-now w ↦ subst (λ (u : Tally). IsLater c.args.self.now c.args.now u) (sym w.self-is) (later_now c.args.self.now c.args.now w.if-self-now.true)
      | else-self-now w ↦ subst (λ (u : Tally). IsLater c.args.self.now c.args.now u) (sym w.self-is) (later_same c.args.self.now c.args.now (let h = w.if-self-now.false in omega (arith, h)))
    ]
    in
    goes_on_most c.args.self.now c.if-self-now.self c.args.now was left later same tallied

pub returns-else-self-now-2 : goal.returns-else-self-now-2
returns-else-self-now-2 c = λ was left same tallied.
    let later : IsLater c.args.self.now c.args.now c.if-self-now.self =
    elim c.if-self-now.branch [
      | then-self-now w ↦ subst (λ (u : Tally). IsLater c.args.self.now c.args.now u) (sym w.self-is) (later_now c.args.self.now c.args.now w.if-self-now.true)
      | else-self-now w ↦ subst (λ (u : Tally). IsLater c.args.self.now c.args.now u) (sym w.self-is) (later_same c.args.self.now c.args.now (let h = w.if-self-now.false in omega (arith, h)))
    ]
    in
    goes_on c.args.self.now c.if-self-now.self c.args.now was left later (let h = c.if-self-now-2.false in omega (arith, h)) same tallied
