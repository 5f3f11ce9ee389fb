use Rattle.std.proofs.Common.{◌∙◌, ◌++◌, ◌∷◌, [], cond, ap, map, sym, take, List}
use Rattle.std.specs.List.{filter}
use Rattle.pattern_sets.specs.declared.search.Reason.{Reason}
use Rattle.message_changes.specs.Reasons.{is_parted, reason_view, View}
use Rattle.message_changes.proofs.Members.{mapped_more}
use Rattle.message_changes.proofs.refusing.parted.Goals as goal

pub loop-reason-preserved : goal.loop-reason-preserved
loop-reason-preserved c =
    let all = map reason_view c.args.others.now in
    let is_had = c.args.is_had in
    let rs = c.args.reasons.now in
    let i = c.loop-reason.reason-index in
    let r = c.reason-item.result in
    c.in_ok-add_if_parted.ensures
    ∙ ap (λ (l : List View). l ++ cond (is_parted is_had all (reason_view r)) (reason_view r ∷ []) []) c.loop-reason.invariant
    ∙ ap (λ (x : Reason). filter (is_parted is_had all) (map reason_view (take i rs)) ++ cond (is_parted is_had all (reason_view x)) (reason_view x ∷ []) []) c.reason-item.is
    ∙ sym (mapped_more reason_view (is_parted is_had all) rs i r c.loop-reason-test.true)
