use Rattle.std.proofs.Common.{ℕ, List, map, sym, subst}
use Rattle.std.specs.List.{dedup}
use Rattle.std.proofs.lemmas.List.Filters.{dedup_is}
use Rattle.std.proofs.lemmas.List.Kept.{Contains-dedup_nat}
use Rattle.std.proofs.lemmas.List.Sorted.{Contains-permutation}
use lib.Dec.{eqb}
use Rattle.subjects.specs.Subject.{Token}
use Rattle.subjects.specs.pattern_groups.Places.{IsIndexOf}
use Rattle.subjects.proofs.pattern_groups.Hashed.{hashed_by}
use Rattle.subjects.proofs.pattern_groups.index.PatternIndex.of.Goals as goal

pub returns : goal.returns
returns c =
    let patterns : List (List Token) = map (λ p. p.now) c.args.patterns.now in
    let hashes : List ℕ = c.in_ok-hashes.hashes.items in
    let made : List ℕ = c.in_ok-hashes.choices.items in
    let sorted : List ℕ = c.sort_unstable.new.self.items in
    subst (λ (kept : List ℕ). IsIndexOf patterns (record { hashes = hashes; choices = kept })) (sym (dedup_is eqb sorted c.dedup.new.self.items c.dedup.ensures.filtered))
    (hashed_by patterns hashes made (dedup eqb sorted) c.in_ok-hashes.ensures
    (λ places has. Contains-dedup_nat sorted places (Contains-permutation made sorted places c.sort_unstable.ensures.permutation has)))
