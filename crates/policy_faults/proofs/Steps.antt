-- One value of a list further.
use Rattle.std.proofs.Common.{◌≡◌, ◌<◌, ◌+◌, ℕ, suc, List, [], ◌∷◌, ◌++◌, length, drop, take, get_or, ap, sym, refl, ◌∙◌, append_assoc, drop-cons, arith, if◌then◌else◌}
use Rattle.std.proofs.lemmas.Grind.{take_at_read}
use Rattle.serde_json.specs.Data.{item}
use Rattle.serde_json.specs.View.{items_view, view}
use Rattle.serde_json.specs.declared.value.Value.{Value}
use Rattle.policy_walk.specs.Path.{Path, at_index}
use Rattle.policy_faults.specs.declared.finding.Finding.{Finding}
use Rattle.policy_faults.specs.walk.Walk.{Finds, with_each}

-- the values from an index on begin with the one there
pub cut : (values : List Value) (i : ℕ) (v : Value) → i < length values → v ≡ get_or values i v → items_view (drop i values) ≡ item (view v) (items_view (drop (i + 1) values))
cut values i v lt is =
    let next : i + 1 ≡ suc i = omega arith in
    rw next (ap items_view (drop-cons values i v lt) ∙ ap (λ w. item (view w) (items_view (drop (suc i) values))) (sym is))

pub each_further : (finds : Finds) (path : Path) (values : List Value) (i : ℕ) (v : Value) (front after total : List Finding) → i < length values → v ≡ get_or values i v →
    after ≡ finds (at_index path i) (view v) front → with_each finds path i (items_view (drop i values)) front ≡ total →
    with_each finds path (i + 1) (items_view (drop (i + 1) values)) after ≡ total
unfolding with_each
each_further finds path values i v front after total lt is found so_far =
    let next : i + 1 ≡ suc i = omega arith in
    let one : with_each finds path i (items_view (drop i values)) front ≡ with_each finds path (suc i) (items_view (drop (i + 1) values)) after =
    rw (cut values i v lt is, found) refl in
    ap (λ n. with_each finds path n (items_view (drop (i + 1) values)) after) next ∙ sym one ∙ so_far
