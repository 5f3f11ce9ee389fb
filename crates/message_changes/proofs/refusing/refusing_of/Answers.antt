use Rattle.std.proofs.Common.{◌≡◌, ◌∙◌, ◌++◌, ap, false, map, sym, length, List}
use Rattle.std.specs.List.{filter}
use Rattle.std.proofs.lemmas.List.{length-map, map-append}
use Rattle.message_changes.specs.Reasons.{first_of, fresh, is_parted, queued_of, reason_view, second_of, views, with_any, View}
use Rattle.message_changes.specs.declared.form.Form.TheVariants.{Whole, Subjects, Queued}
use Rattle.message_changes.proofs.refusing.refusing_of.Goals as goal

pub denials_beside-requires : goal.denials_beside-requires
denials_beside-requires c = c.in_ok-own.ensures ∙ ap (views (Whole c.args.rules.kind) c.args.rules.any.now) c.deny_of-denied.ensures

pub returns : goal.returns
returns c =
    let kind = c.args.rules.kind in
    let any = c.args.rules.any.now in
    let one = first_of c.args.rules in
    let other = second_of c.args.rules in
    let at_denials = c.in_ok-reasons.ensures in
    let at_fresh : map reason_view c.add_queued.new.reasons.items ≡ fresh kind any one other = c.in_ok-late.ensures.fresh ∙ ap (λ (l : List View). l ++ filter (is_parted false (queued_of kind any one)) (queued_of kind any other)) at_denials in
    let at_plain : map reason_view c.add_any.new.reasons.items ≡ with_any kind any other (fresh kind any one other) = c.in_ok-add_any.ensures ∙ ap (with_any kind any other) at_fresh in
    record {
      reasons =
          ap (map reason_view) c.in_ok-extend_from_slice.ensures.items ∙ map-append reason_view c.add_any.new.reasons.items c.as_slice-last.result.now
          ∙ ap (λ (l : List View). l ++ map reason_view c.as_slice-last.result.now) at_plain
          ∙ ap (λ (l : List View). with_any kind any other (fresh kind any one other) ++ l) (ap (map reason_view) c.as_slice-last.ensures.value ∙ c.in_ok-late.ensures.late);
      denials = c.len-denials.ensures ∙ c.in_ok-reasons.reasons.ok.0 ∙ sym (length-map c.in_ok-reasons.reasons.items reason_view) ∙ ap length at_denials;
      fresh = c.len-fresh.ensures ∙ c.add_queued.new.reasons.ok.0 ∙ sym (length-map c.add_queued.new.reasons.items reason_view) ∙ ap length at_fresh;
      plain = c.len-plain.ensures ∙ c.add_any.new.reasons.ok.0 ∙ sym (length-map c.add_any.new.reasons.items reason_view) ∙ ap length at_plain;
      own = c.in_ok-own.ensures ∙ ap (views (Whole kind) any) c.deny_of-denied.ensures;
      allowed = c.in_ok-allowed.ensures ∙ ap (views (Subjects kind) any) c.listed_of-listed.ensures;
      queued = c.in_ok-queued.ensures ∙ ap (views Queued any) c.listed_of-listed.ensures;
    }
