-- The queue groups so far, and one member more.
use Rattle.std.specs.Prelude.{ℕ, List, [], ◌∷◌, ◌++◌, map, if◌then◌else◌, slice_index_or, slice_set}
use Rattle.std.specs.List.{list_any, position_or_len}
use Rattle.world_subscriptions.specs.queue_choice.Choices.{name_of, same_name}
use Rattle.world_subscriptions.specs.declared.queue_choice.choice.Member.{Member}
use Rattle.world_subscriptions.specs.declared.queue_choice.groups.Groups.{Groups}

-- the names of groups, and the members of each
abbrev pub Table : Type 0
Table = List (List ℕ) × List (List Member)

abbrev pub table_of : Groups → Table
table_of g = (map (λ name. name.now) g.names.keys, g.list.items)

-- a member more: of the group of its name, or the first of a new one
abbrev pub joined : Table → Member → Table
joined t m =
    if list_any (same_name (name_of m)) t.0
    then (t.0, slice_set t.1 (position_or_len (same_name (name_of m)) t.0) (slice_index_or t.1 (position_or_len (same_name (name_of m)) t.0) [] ++ m ∷ []))
    else (t.0 ++ name_of m ∷ [], t.1 ++ (m ∷ []) ∷ [])

-- members more, in turn
abbrev pub joined_all : Table → List Member → Table
joined_all t [] = t
joined_all t (m ∷ ms) = joined_all (joined t m) ms
