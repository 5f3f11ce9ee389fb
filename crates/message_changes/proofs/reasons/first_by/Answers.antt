use Rattle.std.proofs.Common.{◌≡◌, ◌∙◌, ◌++◌, ap, subst, sym, false, map, List, ℕ, None}
use Rattle.std.specs.List.{list_any}
use Rattle.subjects.specs.Subject.{is_literal}
use Rattle.pattern_sets.specs.Laws.{has_token}
use Rattle.message_changes.proofs.Exact.{all_alike, is_search}
use Rattle.message_changes.proofs.Members.{both}
use Rattle.message_changes.specs.Reasons.{all_entries, first_of, has_tails, parts_of, rules_of, second_of, subject_of}
use Rattle.message_changes.proofs.reasons.first_by.Goals as goal

pub search_of-requires-clause-literal : goal.search_of-requires-clause-literal
search_of-requires-clause-literal c = ap is_literal c.as_slice-fresh.ensures.value ∙ c.in_ok-token.ensures.literal

pub search_of-requires-clause-fresh : goal.search_of-requires-clause-fresh
search_of-requires-clause-fresh c =
    subst (λ (t : List ℕ). list_any (has_token t) (map subject_of (all_entries (first_of c.args.rules) (second_of c.args.rules)) ++ parts_of (all_entries (first_of c.args.rules) (second_of c.args.rules))) ≡ false)
    (sym c.as_slice-fresh.ensures.value) c.in_ok-token.ensures.fresh

pub returns-then-is_some-clause-none : goal.returns-then-is_some-clause-none
returns-then-is_some-clause-none c = λ none. absurd (both _ (sym c.is_some.ensures ∙ c.if-is_some.true) none)

pub returns-then-not-has_tails-clause-none : goal.returns-then-not-has_tails-clause-none
returns-then-not-has_tails-clause-none c = λ none.
    let lists = c.args.lists.now in
    let kind = lists.kind in
    let is =
    is_search kind c.args.rules.kind c.args.rules.any.now (rules_of kind lists.one.now) (rules_of kind lists.other.now) (first_of c.args.rules) (second_of c.args.rules) c.in_ok-search.search
    c.requires.kind c.requires.any c.requires.one c.requires.other c.in_ok-search.ensures in
    all_alike kind lists.one.now lists.other.now c.in_ok-search.search is c.in_ok-found.found None none c.in_ok-found.ensures.exact
    (λ t. absurd (both (has_tails kind) t (sym (ap has_tails c.requires.kind) ∙ sym c.has_tails.ensures ∙ c.if-not-has_tails.true)))

pub returns-clause-none : goal.returns-clause-none
returns-clause-none c = λ none.
    let lists = c.args.lists.now in
    let kind = lists.kind in
    let is =
    is_search kind c.args.rules.kind c.args.rules.any.now (rules_of kind lists.one.now) (rules_of kind lists.other.now) (first_of c.args.rules) (second_of c.args.rules) c.in_ok-search.search
    c.requires.kind c.requires.any c.requires.one c.requires.other c.in_ok-search.ensures in
    all_alike kind lists.one.now lists.other.now c.in_ok-search.search is c.in_ok-found.found c.in_ok-tailed.tailed (sym c.is_some.ensures ∙ c.if-is_some.false) c.in_ok-found.ensures.exact
    (λ t. (none, c.in_ok-tailed.ensures.exact))
