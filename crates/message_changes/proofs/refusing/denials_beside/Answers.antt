use Rattle.std.proofs.Common.{◌∙◌, ap, false, map, List}
use Rattle.std.specs.List.{filter}
use Rattle.message_changes.specs.Reasons.{first_of, is_parted, own, reason_view, views, View}
use Rattle.message_changes.specs.declared.form.Form.TheVariants.{Whole}
use Rattle.message_changes.proofs.refusing.denials_beside.Goals as goal

pub returns : goal.returns
returns c =
    let kind = c.args.rules.kind in
    let any = c.args.rules.any.now in
    c.in_ok-all.ensures
    ∙ ap (λ (l : List View). filter (is_parted false l) (map reason_view c.as_slice-reasons.result.now)) c.requires
    ∙ ap (filter (is_parted false (own kind any (first_of c.args.rules))))
    (ap (map reason_view) c.as_slice-reasons.ensures.value ∙ c.in_ok-others.ensures ∙ ap (views (Whole kind) any) c.deny_of-denied.ensures)
