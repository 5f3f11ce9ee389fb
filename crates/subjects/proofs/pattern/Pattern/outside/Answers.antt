-- where it isn't covered, one of the two samples is missing
use Rattle.std.proofs.Common.{◌∙◌, sym, true, false}
use Rattle.subjects.specs.Outside.{one_stand_in, two_stand_ins}
use Rattle.subjects.specs.Subject.{IsPattern}
use Rattle.subjects.proofs.Missing.{covered-rule, first-meaning, first-rule, judged, second-meaning, second-rule, written}
use Rattle.subjects.proofs.pattern.Pattern.outside.Goals as goal

pub returns-then-covers-clause-rule : goal.returns-then-covers-clause-rule
returns-then-covers-clause-rule c = covered-rule c.args.self.now c.args.other.now (sym c.covers.ensures.test ∙ c.if-covers.true)

pub returns-then-not-matches_text-clause-rule : goal.returns-then-not-matches_text-clause-rule
returns-then-not-matches_text-clause-rule c =
    let h : IsPattern c.args.other.now = c.tokens-2.ensures.grammar in
    let text = written one_stand_in c.args.self.now c.args.other.now _ _ _ c.in_ok-shorter.ensures c.tokens.ensures.tokens c.tokens-2.ensures.tokens in
    first-rule c.args.self.now c.args.other.now _ text (judged c.args.self.now c.args.other.now _ _ _ false h text c.as_slice.ensures.value c.matches_text.ensures c.if-not-matches_text.true)

pub returns-then-not-matches_text-clause-meaning :
    goal.returns-then-not-matches_text-clause-meaning
returns-then-not-matches_text-clause-meaning c =
    let h : IsPattern c.args.other.now = c.tokens-2.ensures.grammar in
    let text = written one_stand_in c.args.self.now c.args.other.now _ _ _ c.in_ok-shorter.ensures c.tokens.ensures.tokens c.tokens-2.ensures.tokens in
    first-meaning c.args.self.now c.args.other.now _ h text (judged c.args.self.now c.args.other.now _ _ _ false h text c.as_slice.ensures.value c.matches_text.ensures c.if-not-matches_text.true)

pub returns-clause-rule : goal.returns-clause-rule
returns-clause-rule c =
    let h : IsPattern c.args.other.now = c.tokens-2.ensures.grammar in
    let shorter = written one_stand_in c.args.self.now c.args.other.now _ _ _ c.in_ok-shorter.ensures c.tokens.ensures.tokens c.tokens-2.ensures.tokens in
    let longer = written two_stand_ins c.args.self.now c.args.other.now _ _ _ c.in_ok-longer.ensures c.tokens-3.ensures.tokens c.tokens-4.ensures.tokens in
    second-rule c.args.self.now c.args.other.now _ longer (sym c.covers.ensures.test ∙ c.if-covers.false) (judged c.args.self.now c.args.other.now _ _ _ true h shorter c.as_slice.ensures.value c.matches_text.ensures c.if-not-matches_text.false)

pub returns-clause-meaning : goal.returns-clause-meaning
returns-clause-meaning c =
    let h : IsPattern c.args.other.now = c.tokens-2.ensures.grammar in
    let shorter = written one_stand_in c.args.self.now c.args.other.now _ _ _ c.in_ok-shorter.ensures c.tokens.ensures.tokens c.tokens-2.ensures.tokens in
    let longer = written two_stand_ins c.args.self.now c.args.other.now _ _ _ c.in_ok-longer.ensures c.tokens-3.ensures.tokens c.tokens-4.ensures.tokens in
    second-meaning c.args.self.now c.args.other.now _ h longer (sym c.covers.ensures.test ∙ c.if-covers.false) (judged c.args.self.now c.args.other.now _ _ _ true h shorter c.as_slice.ensures.value c.matches_text.ensures c.if-not-matches_text.false)
