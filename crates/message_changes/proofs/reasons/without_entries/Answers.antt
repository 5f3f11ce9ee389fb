use Rattle.std.proofs.Common.{◌≡◌, ◌∙◌, ◌++◌, ◌∷◌, [], Bool, true, false, if◌then◌else◌, ap, sym, map, List, ℕ}
use Rattle.pattern_sets.specs.declared.search.Allowing.{Allowing}
use Rattle.message_changes.proofs.Covered.{had_is}
use Rattle.message_changes.specs.Reasons.{allowing_view, first_of, is_had, own, reach_of, second_of, View}
use Rattle.message_changes.proofs.reasons.without_entries.Goals as goal

pub returns-then-is_refused : goal.returns-then-is_refused
returns-then-is_refused c =
    let kind = c.args.rules.kind in
    let any = c.args.rules.any.now in
    let one = first_of c.args.rules in
    let other = second_of c.args.rules in
    let v : View = (any, any) in
    let had : is_had (own kind any one) v ≡ true =
    sym (ap (λ (l : List View). is_had l v) c.requires.own) ∙ sym (had_is c.args.refusing.now.own record { subject = c.args.rules.any; queue = c.args.rules.any } c.has-is_refused.result c.has-is_refused.ensures) ∙ c.if-is_refused.true in
    ap (map allowing_view) c.new-all.ensures.items ∙ sym (ap (λ (b : Bool). if b then [] else (v, reach_of kind any one other v false) ∷ []) had)

pub returns : goal.returns
returns c =
    let kind = c.args.rules.kind in
    let any = c.args.rules.any.now in
    let one = first_of c.args.rules in
    let other = second_of c.args.rules in
    let v : View = (any, any) in
    let had : is_had (own kind any one) v ≡ false =
    sym (ap (λ (l : List View). is_had l v) c.requires.own) ∙ sym (had_is c.args.refusing.now.own record { subject = c.args.rules.any; queue = c.args.rules.any } c.has-is_refused.result c.has-is_refused.ensures) ∙ c.if-is_refused.false in
    ap (map allowing_view) c.in_ok-push.ensures.items
    ∙ ap (λ (l : List Allowing). map allowing_view (l ++ (record { reason = record { subject = c.args.rules.any; queue = c.args.rules.any }; reach = c.reach_of-reach.result } ∷ []))) c.new-all.ensures.items
    ∙ ap (λ (n : ℕ). (v, n) ∷ []) (c.reach_of-reach.ensures kind any one other c.requires) ∙ sym (ap (λ (b : Bool). if b then [] else (v, reach_of kind any one other v false) ∷ []) had)
