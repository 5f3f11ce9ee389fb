use Rattle.std.proofs.Common.{◌≡◌, ◌∙◌, ◌++◌, ap, false, true, map, List}
use Rattle.std.specs.List.{filter}
use Rattle.std.proofs.lemmas.List.{map-append}
use Rattle.message_changes.specs.Reasons.{first_of, is_parted, queued_of, reason_view, second_of, View}
use Rattle.message_changes.proofs.refusing.add_queued.Goals as goal

pub returns-clause-fresh : goal.returns-clause-fresh
returns-clause-fresh c =
    let kind = c.args.rules.kind in
    let any = c.args.rules.any.now in
    let around : map reason_view c.in_ok-around.around ≡ queued_of kind any (first_of c.args.rules) = ap (map reason_view) c.in_ok-around.ensures ∙ c.in_ok-own.ensures in
    let all : map reason_view c.as_slice-all.result.now ≡ queued_of kind any (second_of c.args.rules) = ap (map reason_view) c.as_slice-all.ensures.value ∙ c.in_ok-queued.ensures in
    ap (map reason_view) c.in_ok-extend_from_slice.ensures.items ∙ map-append reason_view c.args.reasons.now.items c.as_slice-first.result.now
    ∙ ap (λ (l : List View). map reason_view c.args.reasons.now.items ++ l)
    (ap (map reason_view) c.as_slice-first.ensures.value ∙ c.in_ok-fresh.ensures ∙ ap (λ (l : List View). filter (is_parted false l) (map reason_view c.as_slice-all.result.now)) around
    ∙ ap (filter (is_parted false (queued_of kind any (first_of c.args.rules)))) all)

pub returns-clause-late : goal.returns-clause-late
returns-clause-late c =
    let kind = c.args.rules.kind in
    let any = c.args.rules.any.now in
    let around : map reason_view c.in_ok-around.around ≡ queued_of kind any (first_of c.args.rules) = ap (map reason_view) c.in_ok-around.ensures ∙ c.in_ok-own.ensures in
    let all : map reason_view c.as_slice-all.result.now ≡ queued_of kind any (second_of c.args.rules) = ap (map reason_view) c.as_slice-all.ensures.value ∙ c.in_ok-queued.ensures in
    c.in_ok-late.ensures ∙ ap (λ (l : List View). filter (is_parted true l) (map reason_view c.as_slice-all.result.now)) around ∙ ap (filter (is_parted true (queued_of kind any (first_of c.args.rules)))) all
