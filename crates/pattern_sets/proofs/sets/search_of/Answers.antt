use Rattle.std.proofs.Common.{◌≡◌, ◌∙◌, ◌+◌, ◌++◌, ◌∷◌, [], ap, arith, refl, subst, false, length, map, List, ℕ, Bor}
use Rattle.std.specs.List.{list_any}
use Rattle.pattern_sets.specs.Laws.{has_token}
use Rattle.pattern_sets.specs.Longest.{most_tokens}
use Rattle.pattern_sets.proofs.Exact.{each_reach, one_more}
use Rattle.pattern_sets.proofs.sets.search_of.Goals as goal

pub returns : goal.returns
returns c =
    let of = λ (p : Bor (List (List ℕ))). p.now in
    let less = c.args.sets.1.less.now in
    let many = one_more of less c.args.any.now c.in_ok-refusing.refusing.items c.in_ok-refusing.ensures in
    record {
      allowing = c.in_ok-allowing.ensures.subjects;
      reach =
          each_reach c.args.sets.0.patterns.now c.in_ok-allowing.allowing.items (length less + 1) (length c.in_ok-refusing.refusing.items) c.in_ok-allowing.ensures.reach (omega (arith, many));
      refusing = c.in_ok-refusing.ensures ∙ ap (λ (a : List (List ℕ)). map of less ++ (a ∷ [])) c.requires.any;
      queue = refl;
      most = c.most_tokens-most.ensures ∙ ap (λ (l : List (Bor (List (List ℕ)))). most_tokens (map of l)) c.requires.whole;
      literal = c.requires.literal;
      free = subst (λ (l : List (Bor (List (List ℕ)))). list_any (λ p. has_token c.args.token.now (of p)) l ≡ false) c.requires.whole c.requires.fresh;
    }
