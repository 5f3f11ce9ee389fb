use Rattle.std.proofs.Common.{◌≡◌, ◌∙◌, true, false, sym, ap, subst, refl, inl, inr, Some, None, Ok, Err}
use Rattle.subjects.specs.Subject.{in_set}
use Rattle.mapping.specs.Pairs.{RowMap}
use Rattle.mapping.specs.declared.error.MapError.TheVariants.{TooLong, NoMemory}
use Rattle.mapping.specs.one_way.OneWay.{IsMost, IsOneWay}
use Rattle.mapping.proofs.one_way.Ways.{by_pair, long_by, mapped_by, mapped_none}
use Rattle.mapping.proofs.one_way.one_way.OneWay.forward.Goals as goal

pub returns-then-not-matches-clause-pairs : goal.returns-then-not-matches-clause-pairs
returns-then-not-matches-clause-pairs c =
    by_pair c.args.self.now c.args.subject.now (Ok None) (subst IsOneWay c.self.view_is c.self.invariant.0) c.tokens.ensures.grammar (
    mapped_none c.args.self.now c.args.subject.now (subst (λ (m : RowMap). in_set m.outer c.args.subject.now ≡ false) c.self.view_is (sym c.matches.ensures ∙ c.if-not-matches.true)))

pub returns-then-exceeds-clause-value : goal.returns-then-exceeds-clause-value
returns-then-exceeds-clause-value c =
    mapped_by c.args.self.now c.args.subject.now true (Err TooLong)
    (subst (λ (m : RowMap). in_set m.outer c.args.subject.now ≡ true) c.self.view_is (sym c.matches.ensures ∙ c.if-not-matches.false))
    (long_by c.args.self.now c.self.inside.most c.args.subject.now true (subst IsOneWay c.self.view_is c.self.invariant.0) (subst (IsMost c.self.inside.most) c.self.view_is c.self.invariant.1) c.tokens.ensures.grammar
    (subst (λ (m : RowMap). in_set m.outer c.args.subject.now ≡ true) c.self.view_is (sym c.matches.ensures ∙ c.if-not-matches.false))
    (sym c.exceeds.ensures.test ∙ c.if-exceeds.true)) refl

pub returns-then-exceeds-clause-pairs : goal.returns-then-exceeds-clause-pairs
returns-then-exceeds-clause-pairs c =
    by_pair c.args.self.now c.args.subject.now (Err TooLong) (subst IsOneWay c.self.view_is c.self.invariant.0) c.tokens.ensures.grammar (
    mapped_by c.args.self.now c.args.subject.now true (Err TooLong)
    (subst (λ (m : RowMap). in_set m.outer c.args.subject.now ≡ true) c.self.view_is (sym c.matches.ensures ∙ c.if-not-matches.false))
    (long_by c.args.self.now c.self.inside.most c.args.subject.now true (subst IsOneWay c.self.view_is c.self.invariant.0) (subst (IsMost c.self.inside.most) c.self.view_is c.self.invariant.1) c.tokens.ensures.grammar
    (subst (λ (m : RowMap). in_set m.outer c.args.subject.now ≡ true) c.self.view_is (sym c.matches.ensures ∙ c.if-not-matches.false))
    (sym c.exceeds.ensures.test ∙ c.if-exceeds.true)) refl)

pub mapped-requires-clause-short : goal.mapped-requires-clause-short
mapped-requires-clause-short c =
    (long_by c.args.self.now c.self.inside.most c.args.subject.now false (subst IsOneWay c.self.view_is c.self.invariant.0) (subst (IsMost c.self.inside.most) c.self.view_is c.self.invariant.1) c.tokens.ensures.grammar
    (subst (λ (m : RowMap). in_set m.outer c.args.subject.now ≡ true) c.self.view_is (sym c.matches.ensures ∙ c.if-not-matches.false))
    (sym c.exceeds.ensures.test ∙ c.if-exceeds.false))

pub returns-in-Ok-clause-pairs : goal.returns-in-Ok-clause-pairs
returns-in-Ok-clause-pairs c =
    by_pair c.args.self.now c.args.subject.now (Ok (Some c.in-Ok.mapped)) (subst IsOneWay c.self.view_is c.self.invariant.0) c.tokens.ensures.grammar (
    mapped_by c.args.self.now c.args.subject.now false (Ok (Some c.in-Ok.mapped))
    (subst (λ (m : RowMap). in_set m.outer c.args.subject.now ≡ true) c.self.view_is (sym c.matches.ensures ∙ c.if-not-matches.false))
    (long_by c.args.self.now c.self.inside.most c.args.subject.now false (subst IsOneWay c.self.view_is c.self.invariant.0) (subst (IsMost c.self.inside.most) c.self.view_is c.self.invariant.1) c.tokens.ensures.grammar
    (subst (λ (m : RowMap). in_set m.outer c.args.subject.now ≡ true) c.self.view_is (sym c.matches.ensures ∙ c.if-not-matches.false))
    (sym c.exceeds.ensures.test ∙ c.if-exceeds.false)) (inl (ap (λ ts. Ok (Some ts)) c.in-Ok.ensures)))

pub returns-in-Err-clause-value : goal.returns-in-Err-clause-value
returns-in-Err-clause-value c =
    mapped_by c.args.self.now c.args.subject.now false (Err NoMemory)
    (subst (λ (m : RowMap). in_set m.outer c.args.subject.now ≡ true) c.self.view_is (sym c.matches.ensures ∙ c.if-not-matches.false))
    (long_by c.args.self.now c.self.inside.most c.args.subject.now false (subst IsOneWay c.self.view_is c.self.invariant.0) (subst (IsMost c.self.inside.most) c.self.view_is c.self.invariant.1) c.tokens.ensures.grammar
    (subst (λ (m : RowMap). in_set m.outer c.args.subject.now ≡ true) c.self.view_is (sym c.matches.ensures ∙ c.if-not-matches.false))
    (sym c.exceeds.ensures.test ∙ c.if-exceeds.false)) (inr refl)

pub returns-in-Err-clause-pairs : goal.returns-in-Err-clause-pairs
returns-in-Err-clause-pairs c =
    by_pair c.args.self.now c.args.subject.now (Err NoMemory) (subst IsOneWay c.self.view_is c.self.invariant.0) c.tokens.ensures.grammar (
    mapped_by c.args.self.now c.args.subject.now false (Err NoMemory)
    (subst (λ (m : RowMap). in_set m.outer c.args.subject.now ≡ true) c.self.view_is (sym c.matches.ensures ∙ c.if-not-matches.false))
    (long_by c.args.self.now c.self.inside.most c.args.subject.now false (subst IsOneWay c.self.view_is c.self.invariant.0) (subst (IsMost c.self.inside.most) c.self.view_is c.self.invariant.1) c.tokens.ensures.grammar
    (subst (λ (m : RowMap). in_set m.outer c.args.subject.now ≡ true) c.self.view_is (sym c.matches.ensures ∙ c.if-not-matches.false))
    (sym c.exceeds.ensures.test ∙ c.if-exceeds.false)) (inr refl))
