-- The wildcards of patterns, and of references to them.
use Rattle.std.specs.Prelude.{◌==◌, ℕ, Bool, false, ◌&&◌, ◌||◌, List, [], ◌∷◌, nat_le}
use Rattle.std.specs.List.{list_all, list_any, count_by, range_with_len}
use Rattle.subjects.specs.Subject.{Token, is_star, is_tail}

abbrev pub count_stars : List Token → ℕ
count_stars pattern = count_by is_star pattern

abbrev pub has_tail : List Token → Bool
has_tail pattern = list_any is_tail pattern

abbrev pub contains : ℕ → List ℕ → Bool
contains n ns = list_any (λ m. m == n) ns

abbrev pub has_repeat : List ℕ → Bool
has_repeat [] = false
has_repeat (n ∷ ns) = contains n ns || has_repeat ns

-- each number is that of a wildcard, and each wildcard's is one of them
abbrev pub are_within : ℕ → List ℕ → Bool
are_within count ns = list_all (λ n. nat_le 1 n && nat_le n count) ns

abbrev pub has_each : ℕ → List ℕ → Bool
has_each count ns = list_all (λ n. contains n ns) (range_with_len 1 count)

abbrev pub refers_to_each : ℕ → List ℕ → Bool
refers_to_each count ns = are_within count ns && has_each count ns
