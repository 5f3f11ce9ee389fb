use Rattle.std.proofs.Common.{sym, ◌∙◌, arith, length-drop, drop}
use Rattle.std.proofs.lemmas.List.{take_all}
use Rattle.wire_read.proofs.PlainLemmas.{found_plain}
use Rattle.wire_read.proofs.plain.find_plain.Goals as goal

pub returns : goal.returns
returns c =
    let behind = c.in_ok-fields.fields.now in
    let field = c.in_ok-field.field.now in
    let block = c.in_ok-block.block.now in
    let n = c.field_len-subject.result in
    let k = c.field_len-digits.result in
    found_plain c.args.bytes.now behind field block c.in_ok-_behind._behind.now n k c.in-Ok.total
    c.in_ok-fields.ensures
    c.field_len-subject.ensures.value
    c.field_len-subject.ensures.bound
    (sym (take_all _ (drop n behind) (omega (arith, length-drop n behind))) ∙ c.in_ok-field.ensures)
    c.field_len-digits.ensures.value
    c.field_len-digits.ensures.bound
    (sym (take_all _ (drop k field) (omega (arith, length-drop k field))) ∙ c.in_ok-block.ensures)
    c.if-subject-eq0.false
    (omega (arith, c.if-subject-gt-MAX_FIELD.false))
    (omega (arith, c.if-digits-gt-MAX_FIELD.false))
    c.in-Ok.ensures
    (omega (arith, c.if-block-total.false))
    (sym (take_all _ (drop c.in-Ok.total block) (omega (arith, length-drop c.in-Ok.total block))) ∙ c.in_ok-_behind.ensures)
