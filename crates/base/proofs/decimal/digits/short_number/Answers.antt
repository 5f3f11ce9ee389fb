use Rattle.std.proofs.Common.{◌∙◌, sym, subst, ◌<◌, ◌^◌}
use Rattle.std.specs.Prelude.{⊤, MatchOption}
use Rattle.base.proofs.decimal.Few.{number_is, number_small}
use Rattle.base.proofs.decimal.digits.short_number.Goals as goal

pub returns-clause-number : goal.returns-clause-number
returns-clause-number c = c.number_of.ensures ∙ number_is c.args.most c.args.digits.now c.requires c.if-digits-most.false

pub returns-clause-small : goal.returns-clause-small
returns-clause-small c =
    let is = c.number_of.ensures ∙ number_is c.args.most c.args.digits.now c.requires c.if-digits-most.false in
    subst (λ found. MatchOption found ⊤ (λ n. n < 10 ^ c.args.most)) (sym is) (number_small c.args.most c.args.digits.now c.if-digits-most.false)
