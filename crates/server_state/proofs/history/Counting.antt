-- What a port has counted, of entry after entry.
use Rattle.std.specs.Prelude.{ℕ, ◌≡◌, ◌+◌, ◌<◌, List, [], ◌∷◌, Option, None, Some}
use Rattle.std.specs.List.{AllByRecursion, sum_by}
use Rattle.std.proofs.Common.{arith, ◌∙◌}
use Rattle.std.proofs.Math.Nat.{min-eq_left}
use Rattle.std.proofs.lemmas.List.Sums.{sum_by-cons}
use Rattle.events.specs.declared.answer.Entry.{Entry}
use Rattle.server_state.specs.declared.history.kept.Added.{Added}
use Rattle.server_state.specs.history.Bytes.{AreCounted, IsCounted, IsTold, own, told}

-- one entry more: nothing is lost, and what is not told of stays below 64 KiB
one_counted : (before : ℕ) (entry : Entry) (t : Option Added) (after : ℕ) → IsTold entry → before < 65536
    → IsCounted before (own entry) t after → (before + own entry ≡ told t + after) × (after < 65536)
one_counted before entry None after fits below h = (omega (arith, h.0), h.1)
one_counted before entry (Some added) after fits below h =
    (omega (arith, h.1 ∙ min-eq_left (omega (arith, fits, below)), h.2), omega (arith, h.2))

-- all of them, in turn
pub all_counted : (entries : List Entry) (before all after : ℕ) → AllByRecursion IsTold entries → before < 65536
    → AreCounted before entries all after → before + sum_by own entries ≡ all + after
all_counted [] before all after fits below h = omega (arith, h.0, h.1)
all_counted (entry ∷ entries) before all after fits below h =
    let one = one_counted before entry h.0 h.1 fits.0 below h.3 in
    let more = all_counted entries h.1 h.2 after fits.1 one.1 h.4 in
    omega (arith, one.0, more, h.5, sum_by-cons own entry entries)
