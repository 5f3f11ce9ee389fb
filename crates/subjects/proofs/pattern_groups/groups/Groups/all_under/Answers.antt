use Rattle.std.proofs.Common.{◌∙◌, ℕ, List, length, filter, ap}
use Rattle.std.specs.List.{dedup, range_with_len}
use Rattle.std.proofs.lemmas.List.Filters.{All-dedup, dedup_is}
use Rattle.std.proofs.lemmas.List.Kept.{Contains-dedup_nat}
use Rattle.std.proofs.lemmas.List.Sorted.{All-permutation, Contains-permutation}
use Rattle.std.proofs.lemmas.Map.Keys.{IsStrictlyIncreasing-dedup}
use lib.Dec.{eqb}
use Rattle.subjects.specs.pattern_groups.Links.{AreFound, IsFound}
use Rattle.subjects.proofs.pattern_groups.Found.{all_in_order}
use Rattle.subjects.proofs.pattern_groups.groups.Groups.all_under.Goals as goal

pub returns-in_ok-all-in-Some : goal.returns-in_ok-all-in-Some
returns-in_ok-all-in-Some g c =
    let passes = g.P.Patterns.passes c.args.patterns.now in
    let count = length c.as_slice-hashes.result.now in
    let found : List ℕ = c.in_ok-all-in-Some.all.items in
    let sorted : List ℕ = c.sort_unstable.new.self.items in
    let are : AreFound passes count (dedup eqb sorted) = record {
      sound = All-dedup eqb (IsFound passes count) sorted (All-permutation (IsFound passes count) found sorted c.sort_unstable.ensures.permutation c.in_ok-all-in-Some.ensures.sound);
      each = λ j below pass. Contains-dedup_nat sorted j (Contains-permutation found sorted j c.sort_unstable.ensures.permutation (c.in_ok-all-in-Some.ensures.each j below pass));
    } in
    dedup_is eqb sorted c.dedup.new.self.items c.dedup.ensures.filtered
    ∙ all_in_order passes count (dedup eqb sorted) (IsStrictlyIncreasing-dedup sorted c.sort_unstable.ensures.sorted) are
    ∙ ap (λ (hashes : List ℕ). filter passes (range_with_len 0 (length hashes))) (c.as_slice-hashes.ensures.value ∙ c.self.view_is)
