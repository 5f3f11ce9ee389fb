-- each byte is a step of the walk
use Rattle.std.proofs.Common.{◌≡◌, ltb, get_or, false, sym, ◌∙◌, arith}
use Rattle.std.proofs.lemmas.Bool.{not-true, not-false}
use Rattle.std.proofs.lemmas.Bool.Decides.{nat_tests}
use Rattle.subjects.proofs.Cuts.{walked-none, walked-byte, walked-dot, refused-dot, refused-byte, answered, refused-many, high_byte, other_byte}
use Rattle.subjects.proofs.bytewise.is_subject.Goals.{then-byte-lt47+then-byte-eq46+else-not-is_name, then-byte-lt47+else-byte-eq46+else-is_bad, else-byte-lt47}
use Rattle.subjects.proofs.bytewise.is_subject.Goals as goal

pub loop-at-init : goal.loop-at-init
loop-at-init c = walked-none c.args.text.now

pub returns-then-not-is_name : goal.returns-then-not-is_name
returns-then-not-is_name c =
    sym (refused-dot c.args.text.now c.loop-at.start c.loop-at.dots c.loop-at.at c.loop-at.invariant c.loop-at-test.true c.if-byte-eq46.true (sym c.is_name.ensures ∙ c.if-not-is_name.true))

pub returns-then-is_bad : goal.returns-then-is_bad
returns-then-is_bad c =
    sym (refused-byte c.args.text.now c.loop-at.at c.loop-at-test.true (not-true _ (sym c.is_bad.ensures ∙ c.if-is_bad.true)))

pub loop-at-preserved : goal.loop-at-preserved
loop-at-preserved c = elim c.if-byte-lt47.branch [
  | then-byte-lt47+then-byte-eq46+else-not-is_name w ↦
      rw (w.start-is, w.dots-is) (walked-dot c.args.text.now c.loop-at.start c.loop-at.dots c.loop-at.at c.loop-at.invariant c.loop-at-test.true w.if-byte-eq46.true (sym w.is_name.ensures ∙ w.if-not-is_name.false))
  | then-byte-lt47+else-byte-eq46+else-is_bad w ↦
      rw (w.start-is, w.dots-is) (walked-byte c.args.text.now c.loop-at.start c.loop-at.dots c.loop-at.at c.loop-at.invariant c.loop-at-test.true (other_byte _ (not-false _ (sym w.is_bad.ensures ∙ w.if-is_bad.false)) w.if-byte-eq46.false))
  | else-byte-lt47 w ↦
      rw (w.start-is, w.dots-is) (walked-byte c.args.text.now c.loop-at.start c.loop-at.dots c.loop-at.at c.loop-at.invariant c.loop-at-test.true (high_byte (get_or c.args.text.now c.loop-at.at 0) (omega (arith, c.type_inv.text c.loop-at.at)) (omega (arith, w.if-byte-lt47.false))))
]

pub returns-then-dots-lt512 : goal.returns-then-dots-lt512
returns-then-dots-lt512 c =
    c.is_name-then-dots-lt512.ensures
    ∙ answered c.args.text.now c.loop-at.start c.loop-at.dots c.loop-at.at c.loop-at.invariant c.loop-at-test.false c.if-dots-lt512.true

pub returns-else-dots-lt512 : goal.returns-else-dots-lt512
returns-else-dots-lt512 c =
    let many : ltb c.loop-at.dots 512 ≡ false = grind (arith, nat_tests, c.if-dots-lt512.false) in
    many ∙ sym (refused-many c.args.text.now c.loop-at.start c.loop-at.dots c.loop-at.at c.loop-at.invariant c.loop-at-test.false c.if-dots-lt512.false)
