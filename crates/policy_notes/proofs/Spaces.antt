-- What a text begins with is no longer than it.
use Rattle.std.proofs.Common.{◌≤◌, ℕ, List, length}
use Rattle.std.specs.List.{prefix_len}
use Rattle.std.proofs.lemmas.List.Sums.{prefix_len-le-length}
use Rattle.policy_notes.specs.Places.{is_space}

pub within : (text : List ℕ) → prefix_len is_space text ≤ length text
within text = prefix_len-le-length is_space text
