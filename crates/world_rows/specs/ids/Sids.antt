-- What the index by connection and sid holds.
use Rattle.std.specs.Prelude.{◌≡◌, ◌==◌, ◌&&◌, ℕ, List, Bool, Option, Some, None, Vec, cond, nat_eq}
use Rattle.std.specs.Map.{lookup}
use Rattle.std.specs.HashMap.{HashMap}
use Rattle.std.specs.Cmp.Lexicographic.{pointwise}
use Rattle.std.specs.declared.alloc.Global.{Global}
use Rattle.std.specs.declared.random_state.RandomState.{RandomState}
use Rattle.world_rows.specs.declared.ids.sids.Sids.{Sids}

-- the ids of one connection, by sid
abbrev pub Own : Type 0
Own = HashMap (Vec ℕ Global) ℕ RandomState

-- whether two keys are one sid
abbrev pub same_sid : Vec ℕ Global → Vec ℕ Global → Bool
same_sid x y = pointwise nat_eq x.items y.items

-- the ids of a connection, if it has any
abbrev pub own_of : Sids → ℕ → Option Own
own_of sids conn = lookup (nat_eq conn) sids.by_conn.entries

-- the id under a sid, among ids that may be missing
abbrev pub id_in : Option Own → List ℕ → Option ℕ
id_in None sid = None
id_in (Some own) sid = lookup (λ k. pointwise nat_eq sid k.items) own.entries

-- the id under a connection and a sid
abbrev pub id_under : Sids → ℕ → List ℕ → Option ℕ
id_under sids conn sid = id_in (own_of sids conn) sid

-- there is none
abbrev pub IsEmpty : Sids → Type 0
IsEmpty sids = (conn : ℕ) (sid : List ℕ) → id_under sids conn sid ≡ None

-- the same ids before and after
abbrev pub IsSame : Sids → Sids → Type 0
IsSame old new = (conn : ℕ) (sid : List ℕ) → id_under new conn sid ≡ id_under old conn sid

-- this id besides, or in place of another
abbrev pub IsWith : Sids → ℕ → List ℕ → ℕ → Sids → Type 0
IsWith old conn sid id new = (c : ℕ) (bs : List ℕ) → id_under new c bs ≡ cond ((conn == c) && pointwise nat_eq sid bs) (Some id) (id_under old c bs)

-- nothing under this connection and sid
abbrev pub IsWithout : Sids → ℕ → List ℕ → Sids → Type 0
IsWithout old conn sid new = (c : ℕ) (bs : List ℕ) → id_under new c bs ≡ cond ((conn == c) && pointwise nat_eq sid bs) None (id_under old c bs)

-- nothing under this connection
abbrev pub IsWithoutAllOf : Sids → ℕ → Sids → Type 0
IsWithoutAllOf old conn new = (c : ℕ) (bs : List ℕ) → id_under new c bs ≡ cond (conn == c) None (id_under old c bs)
