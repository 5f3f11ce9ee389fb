-- with what is left the text is that of the whole
use Rattle.std.proofs.Common.{◌≡◌, ◌+◌, [], length, map, drop}
use Rattle.mapping.specs.Pairs.{count_stars, filled, numbered}
use Rattle.mapping.specs.templates.Text.{with_tokens}
use Rattle.mapping.proofs.side.filled_text.Given as goal

abbrev pub invariant-loop-place : goal.invariant-loop-place
invariant-loop-place l = record {
  text : with_tokens l.text.items (filled l.places (map (numbered (map (λ s. s.now) l.given.stars.items)) (drop l.at l.to.references.items)) l.given.tail)
      ≡ with_tokens [] (filled l.to.pattern (map (numbered (map (λ s. s.now) l.given.stars.items)) l.to.references.items) l.given.tail);
  counted : l.at + count_stars l.places ≡ length l.to.references.items;
}

abbrev pub decreases-loop-place : goal.decreases-loop-place
decreases-loop-place l = length l.places
