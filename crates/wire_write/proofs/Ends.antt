-- A piece by its first bytes and its last, which may be the same in part.
use Rattle.std.proofs.Common.{◌≡◌, ℕ, ◌+◌, ◌≤◌, List, ◌++◌, length, take, drop, append_assoc, sym, ap, ◌∙◌}
use Rattle.std.proofs.Math.Seq.{take-append-add}
use Rattle.std.proofs.lemmas.List.{take-append-le, take-append-drop}

pub joined : (front old piece others : List ℕ) (m : ℕ) → front ++ others ≡ old ++ piece → length old + m ≤ length front → take (length old + m) front ++ drop m piece ≡ old ++ piece
joined front old piece others m e few =
    let kept : take (length old + m) front ≡ old ++ take m piece =
    sym (take-append-le (length old + m) front others few) ∙ ap (take (length old + m)) e ∙ take-append-add old piece m in
    ap (λ l. l ++ drop m piece) kept ∙ append_assoc old (take m piece) (drop m piece) ∙ ap (λ l. old ++ l) (take-append-drop m piece)
