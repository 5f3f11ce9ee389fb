-- with what is left the text is that of the whole
use Rattle.std.proofs.Common.{◌≡◌, ◌+◌, [], length, map, drop}
use Rattle.mapping.specs.templates.Wildcards.{count_stars}
use Rattle.mapping.specs.Pairs.{filled, numbered, stars_of, tail_of}
use Rattle.mapping.specs.templates.Text.{with_tokens}
use Rattle.mapping.proofs.one_way.filling.filled_text.Given as goal

abbrev pub invariant-loop-place : goal.invariant-loop-place
invariant-loop-place l = record {
  text : with_tokens l.text.items (filled l.places (map (numbered (stars_of l.outer l.subject)) (drop l.at l.references)) (tail_of l.outer l.subject))
      ≡ with_tokens [] (filled l.local (map (numbered (stars_of l.outer l.subject)) l.references) (tail_of l.outer l.subject));
  counted : l.at + count_stars l.places ≡ length l.references;
}

abbrev pub decreases-loop-place : goal.decreases-loop-place
decreases-loop-place l = length l.places
