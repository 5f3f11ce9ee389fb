-- Parts of a block of bytes.
use Rattle.std.proofs.Common.{◌≡◌, ℕ, ◌-◌, ◌≤◌, List, length, slice_range, rules, sym, ap, ◌∙◌}
use Rattle.std.proofs.lemmas.List.{places}
-- what stands behind a place of the first so many elements
pub use Rattle.bytes.proofs.Ranges.{drop-take_less}

-- a part within its block is as long as its places are apart
pub part_length : (xs part : List ℕ) (start end : ℕ) → start ≤ end → end ≤ length xs → slice_range xs start end ≡ part → length part ≡ end - start
part_length xs part start end p q is = ap length (sym is) ∙ search (rules, places)
