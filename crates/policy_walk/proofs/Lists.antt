-- Reading a list's values one after the other, as a loop does.
use Rattle.std.proofs.Common.{◌≡◌, ℕ, suc, ◌+◌, ◌<◌, List, [], ◌∷◌, ◌++◌, length, drop, get_or, Ok, Err, refl, sym, ap, ◌∙◌, append_assoc, drop-cons, arith}
use Rattle.serde_json.specs.Data.{Data, item}
use Rattle.serde_json.specs.View.{view, items_view}
use Rattle.serde_json.specs.declared.value.Value.{Value}
use Rattle.policy_walk.specs.Fault.{Read, ◌>>=◌}
use Rattle.policy_walk.specs.Path.{Path, at_index}
use Rattle.policy_walk.specs.Lists.{each}

-- what was read before, and what is still read
abbrev pub with_front : {X : Type 0} → List X → Read (List X) → Read (List X)
with_front front read = read >>= λ xs. Ok (front ++ xs)

-- the values from an index on are still to be read, behind the front that was
abbrev pub from_index : {X : Type 0} → (Path → Data → Read X) → Path → List X → ℕ → List Value → Read (List X)
from_index reader path front i values = with_front front (each reader path i (items_view (drop i values)))

-- one value more in front
pub regroup : {X : Type 0} (front : List X) (x : X) (read : Read (List X)) → with_front front (read >>= λ xs. Ok (x ∷ xs)) ≡ with_front (front ++ x ∷ []) read
regroup front x (Ok xs) = ap (λ ys. Ok ys) (sym (append_assoc front (x ∷ []) xs))
regroup front x (Err e) = refl

cut : (values : List Value) (i : ℕ) (v : Value) → i < length values → v ≡ get_or values i v → items_view (drop i values) ≡ item (view v) (items_view (drop (suc i) values))
cut values i v lt is = ap items_view (drop-cons values i v lt) ∙ ap (λ w. item (view w) (items_view (drop (suc i) values))) (sym is)

pub goes_on : {X : Type 0} (reader : Path → Data → Read X) (path : Path) (front : List X) (values : List Value) (i : ℕ) (v : Value) (x : X) (total : Read (List X)) →
    i < length values → v ≡ get_or values i v → reader (at_index path i) (view v) ≡ Ok x →
    from_index reader path front i values ≡ total → from_index reader path (front ++ x ∷ []) (i + 1) values ≡ total
goes_on reader path front values i v x total lt is read so_far =
    let one : from_index reader path front i values ≡ from_index reader path (front ++ x ∷ []) (suc i) values =
    rw (cut values i v lt is, read) (regroup front x (each reader path (suc i) (items_view (drop (suc i) values)))) in
    let next : i + 1 ≡ suc i = omega arith in
    rw next (sym one ∙ so_far)
