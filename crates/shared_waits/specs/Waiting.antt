-- Who waits for whom.
use Rattle.std.specs.Prelude.{◌≡◌, ◌==◌, ◌&&◌, ◌∷◌, ◌++◌, ◌/◌, ℕ, List, [], Bool, false, Option, Some, None, if◌then◌else◌, filter, map, not, take, nat_eq, nat_le}
use Rattle.std.specs.List.{list_any}
use Rattle.std.specs.Map.{lookup}
use Rattle.shared_waits.specs.declared.patience.Patience.{Patience}
use Rattle.shared_waits.specs.Patience.{is_out, out_at, fresh, begun, lowered, taken}

pub record Waiting : Type 0 where
  -- the receivers that were found behind, and the patience with each
  pub receivers : List (ℕ × Patience)
  -- the publishers that wait, each with its receiver, in the order in which they began to wait
  pub publishers : List (ℕ × ℕ)

-- the patience with a receiver, if it was found behind
abbrev pub patience_with : Waiting → ℕ → Option Patience
patience_with w conn = lookup (nat_eq conn) w.receivers

-- nobody was found behind, and nobody waits
abbrev pub nobody : Waiting
nobody = record { receivers = []; publishers = [] }

-- ---- whose patience is out

-- there is patience with whoever wasn't found behind
abbrev pub is_used_up : ℕ → Option Patience → Bool
is_used_up now None = false
is_used_up now (Some p) = is_out now p

-- the patience with a receiver is used up at a moment
abbrev pub is_out_with : Waiting → ℕ → ℕ → Bool
is_out_with w now conn = is_used_up now (patience_with w conn)

-- when it is, if the receiver stays behind
abbrev pub ends_at : Option Patience → Option ℕ
ends_at None = None
ends_at (Some p) = Some (out_at p)

-- ---- who stands where

-- all but a publisher
abbrev pub without : ℕ → List (ℕ × ℕ) → List (ℕ × ℕ)
without publisher ws = filter (λ w. not (publisher == w.0)) ws

-- the publishers that wait for a receiver
abbrev pub under : ℕ → List (ℕ × ℕ) → List ℕ
under receiver ws = map (λ w. w.0) (filter (λ w. receiver == w.1) ws)

-- those that wait for others
abbrev pub elsewhere : ℕ → List (ℕ × ℕ) → List (ℕ × ℕ)
elsewhere receiver ws = filter (λ w. not (receiver == w.1)) ws

-- all but those of a receiver's that are let on
abbrev pub all_but : ℕ → List ℕ → List (ℕ × ℕ) → List (ℕ × ℕ)
all_but receiver freed ws = filter (λ w. not (receiver == w.1 && list_any (nat_eq w.0) freed)) ws

-- ---- found behind

-- a receiver is found behind
abbrev pub found : ℕ → ℕ → Option Patience → Patience
found now most None = fresh now most
found now most (Some p) = begun now most p

-- The patience with one once some were found behind: their publishers are let on once half of what waits now has left.
abbrev pub after_found : (ℕ → ℕ) → ℕ → List ℕ → ℕ → Option Patience → Option Patience
after_found waiting now held conn before =
    if list_any (nat_eq conn) held then Some (found now (waiting conn / 2) before) else before

-- and once those of one of them are let on with so many waiting for it at most
abbrev pub after_lowered : ℕ → ℕ → ℕ → Option Patience → Option Patience
after_lowered receiver most conn None = None
after_lowered receiver most conn (Some p) = if receiver == conn then Some (lowered most p) else Some p

-- A publisher is held by these receivers: they are behind, and it stands under the first of them and under no other.
pub record IsHeld (waiting : ℕ → ℕ) (now publisher first : ℕ) (held : List ℕ) (w after : Waiting) : Type 0 where
  pub behind : (conn : ℕ) → patience_with after conn ≡ after_lowered first (waiting first / 2) conn (after_found waiting now held conn (patience_with w conn))
  pub laid_down : after.publishers ≡ without publisher w.publishers ++ (publisher, first) ∷ []

-- ---- room

-- the patience with one once a receiver's Take has left so many, before which its socket took nothing for so long
abbrev pub after_taken : ℕ → ℕ → ℕ → ℕ → ℕ → Option Patience → Option Patience
after_taken receiver waiting refused now conn None = None
after_taken receiver waiting refused now conn (Some p) =
    if receiver == conn then Some (taken waiting refused now p) else Some p

-- whether publishers are let on whose receiver has so many waiting
abbrev pub has_room : ℕ → Option Patience → Bool
has_room waiting None = false
has_room waiting (Some p) = nat_le waiting p.most

-- who is let on of those that wait for a receiver: all once nothing waits for it, else the first 64
abbrev pub first_of : ℕ → List ℕ → List ℕ
first_of waiting ps = if waiting == 0 then ps else take 64 ps

-- who is let on once so many wait for a receiver
abbrev pub let_on : ℕ → ℕ → Waiting → List ℕ
let_on receiver waiting w =
    if has_room waiting (patience_with w receiver) then first_of waiting (under receiver w.publishers) else []

-- who waits then
abbrev pub stay : ℕ → ℕ → List (ℕ × ℕ) → List (ℕ × ℕ)
stay receiver waiting ws = if waiting == 0 then elsewhere receiver ws else all_but receiver (take 64 (under receiver ws)) ws

-- What a Take leaves that leaves a receiver so many, and before which its socket took nothing for so long: if it is behind,
-- that is charged; with room it is behind no more, and publishers are let on.
pub record IsRested (receiver waiting refused now : ℕ) (w after : Waiting) : Type 0 where
  pub receivers : (conn : ℕ) → patience_with after conn ≡ after_taken receiver waiting refused now conn (patience_with w conn)
  pub publishers : after.publishers ≡ (if has_room waiting (patience_with w receiver) then stay receiver waiting w.publishers else w.publishers)

-- ---- the ends of connections

-- who waits once a connection has ended
abbrev pub after_end : ℕ → List (ℕ × ℕ) → List (ℕ × ℕ)
after_end conn ws = without conn (elsewhere conn ws)

-- who waits once these have ended, one after the other
abbrev pub after_ends : List ℕ → List (ℕ × ℕ) → List (ℕ × ℕ)
after_ends [] ws = ws
after_ends (conn ∷ conns) ws = after_ends conns (after_end conn ws)

-- who is let on
abbrev pub freed_by : List ℕ → List (ℕ × ℕ) → List ℕ
freed_by [] ws = []
freed_by (conn ∷ conns) ws = under conn ws ++ freed_by conns (after_end conn ws)

-- nobody has patience with those who have ended
abbrev pub after_gone : List ℕ → ℕ → Option Patience → Option Patience
after_gone gone conn before = if list_any (nat_eq conn) gone then None else before
