-- What the index by connection and sid holds of the subscriptions.
use Rattle.std.specs.Prelude.{◌≡◌, ℕ, List, Option, None, cond, find}
use Rattle.std.specs.Option.{option_map}
use Rattle.world_rows.specs.ids.Sids as sids
use Rattle.world_rows.specs.declared.ids.sids.Sids.{Sids}
use Rattle.world_rows.specs.declared.subscription.Subscription.{Subscription}
use Rattle.world_subscriptions.specs.Subscriptions.{is_under, stands}

-- the id of the connection's subscription of that sid
abbrev pub id_of : List Subscription → ℕ → List ℕ → Option ℕ
id_of subs conn sid = option_map (λ (s : Subscription). s.id) (find (is_under conn sid) subs)

-- the subscription's id besides, or in place of another
abbrev pub IsWith : Sids → Subscription → Sids → Type 0
IsWith old s new = sids.IsWith old s.conn s.sid s.id new

-- nothing under the subscription's connection and sid
abbrev pub IsWithout : Sids → Subscription → Sids → Type 0
IsWithout old s new = sids.IsWithout old s.conn s.sid new

-- nothing under those of these subscriptions
abbrev pub IsWithoutAll : Sids → List Subscription → Sids → Type 0
IsWithoutAll old subs new = (conn : ℕ) (sid : List ℕ) → sids.id_under new conn sid ≡ cond (stands subs conn sid) None (sids.id_under old conn sid)

-- the index has the id of each subscription of the list under its connection and sid, and nothing else
pub record AreSidsOf (subs : List Subscription) (index : Sids) : Type 0 where
  pub each : (conn : ℕ) (sid : List ℕ) → sids.id_under index conn sid ≡ id_of subs conn sid
