use Rattle.std.proofs.Common.{◌∙◌, true, false, sym, ap, refl, inl, inr, Some, Ok, Err}
use Rattle.mapping.specs.declared.error.MapError.TheVariants.{TooLong, NoMemory}
use Rattle.mapping.proofs.Carries.{mapped_none, mapped_by}
use Rattle.mapping.proofs.side.carry.Goals as goal

pub returns-then-not-matches : goal.returns-then-not-matches
returns-then-not-matches c = mapped_none c.args.from.now c.args.to.now c.args.subject.now (sym c.matches.ensures ∙ c.if-not-matches.true)

pub returns-then-is_too_long : goal.returns-then-is_too_long
returns-then-is_too_long c =
    mapped_by c.args.from.now c.args.to.now c.args.subject.now true (Err TooLong) c.requires c.is_too_long.ensures.grammar
    (sym c.matches.ensures ∙ c.if-not-matches.false) (sym c.is_too_long.ensures.test ∙ c.if-is_too_long.true) refl

pub returns-in-Ok : goal.returns-in-Ok
returns-in-Ok c =
    mapped_by c.args.from.now c.args.to.now c.args.subject.now false (Ok (Some c.in-Ok.other)) c.requires c.is_too_long.ensures.grammar
    (sym c.matches.ensures ∙ c.if-not-matches.false) (sym c.is_too_long.ensures.test ∙ c.if-is_too_long.false) (inl (ap (λ ts. Ok (Some ts)) c.in-Ok.ensures))

pub returns-in-Err : goal.returns-in-Err
returns-in-Err c =
    mapped_by c.args.from.now c.args.to.now c.args.subject.now false (Err NoMemory) c.requires c.is_too_long.ensures.grammar
    (sym c.matches.ensures ∙ c.if-not-matches.false) (sym c.is_too_long.ensures.test ∙ c.if-is_too_long.false) (inr refl)
