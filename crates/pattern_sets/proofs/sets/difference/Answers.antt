use Rattle.std.proofs.Common.{◌≡◌, ◌∙◌, ◌&&◌, ap, refl, subst, sym, false, List, ℕ, Bor, Option}
use Rattle.std.specs.List.{list_any}
use Rattle.subjects.specs.Subject.{is_literal, is_subject}
use Rattle.pattern_sets.specs.Judging.{is_between}
use Rattle.pattern_sets.specs.Laws.{has_token}
use Rattle.pattern_sets.proofs.Exact.{answer}
use Rattle.pattern_sets.proofs.sets.difference.Goals as goal

pub search_of-requires-clause-whole : goal.search_of-requires-clause-whole
search_of-requires-clause-whole c = c.as_slice-patterns.ensures.value ∙ c.in_ok-all.ensures

pub search_of-requires-clause-literal : goal.search_of-requires-clause-literal
search_of-requires-clause-literal c = ap is_literal c.as_slice-fresh.ensures.value ∙ c.in_ok-token.ensures.literal

pub search_of-requires-clause-fresh : goal.search_of-requires-clause-fresh
search_of-requires-clause-fresh c =
    subst (λ (t : List ℕ). list_any (λ (p : Bor (List (List ℕ))). has_token t p.now) c.as_slice-patterns.result.now ≡ false) (sym c.as_slice-fresh.ensures.value) c.in_ok-token.ensures.fresh

pub returns : goal.returns
returns c =
    let of = λ (p : Bor (List (List ℕ))). p.now in
    let set = c.args.set in
    let other = c.args.other in
    answer of set.patterns.now set.less.now other.patterns.now other.less.now c.in_ok-search.search
    (λ (t : List (List ℕ)) (q : Option (List (List ℕ))). is_subject t && is_between of set.patterns.now set.less.now other.patterns.now other.less.now t)
    c.in_ok-search.ensures (λ t q. refl) c.in_ok-found.found c.in_ok-found.ensures.exact _ c.text_of-text.ensures
