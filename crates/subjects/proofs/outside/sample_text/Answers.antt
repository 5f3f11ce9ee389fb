-- the last dot goes
use Rattle.std.proofs.Common.{◌≡◌, ◌∙◌, ◌-◌, List, ap, sym, length, take}
use Rattle.subjects.specs.Subject.{Token}
use Rattle.subjects.specs.Outside.{dotted, sample, stand_ins}
use Rattle.subjects.proofs.Missing.{end_of_tail, end_of_tokens, undotted}
use Rattle.subjects.proofs.outside.sample_text.Goals.{in-Some+then-is_tail+in_ok-push_tail, in_default}
use Rattle.subjects.proofs.outside.sample_text.Goals as goal

pub returns : goal.returns
returns c =
    let all : List Token = sample (stand_ins c.args.tail) c.args.first c.args.second in
    let whole : c.match-next_piece.text.items ≡ dotted all = elim c.match-next_piece.branch [
      | in-Some+then-is_tail+in_ok-push_tail w ↦
          rw w.text-is (w.in_ok-push_tail.ensures
          ∙ end_of_tail (stand_ins c.args.tail) c.loop-token.text.items _ _ _ _ (dotted all) w.in-Some.ensures (sym w.is_tail.ensures ∙ w.if-is_tail.true) c.loop-token.invariant)
      | in_default w ↦ rw w.text-is (end_of_tokens (stand_ins c.args.tail) c.loop-token.text.items _ _ (dotted all) w.in_default.ensures.0 c.loop-token.invariant)
    ] in
    c.pop-last_dot.ensures.rest ∙ ap (λ n. take (n - 1) c.match-next_piece.text.items) c.match-next_piece.text.ok.0 ∙ ap (λ bs. take (length bs - 1) bs) whole ∙ undotted all
