-- The standing subscriptions as a list, oldest first (docs/GUARANTEE.md, "The world").
use Rattle.std.specs.Prelude.{◌==◌, ◌&&◌, ℕ, List, Bool, Option, None, filter, length, nat_eq, nat_le}
use Rattle.std.specs.List.{list_any}
use Rattle.std.specs.Cmp.Lexicographic.{pointwise}
use Rattle.subjects.specs.Subject.{Token, in_set}
use Rattle.world_rows.specs.declared.subscription.Subscription.{Subscription}

-- whether a subscription is the connection's of that id
abbrev pub is_under : ℕ → List ℕ → Subscription → Bool
is_under conn sid sub = (sub.conn == conn) && pointwise nat_eq sub.sid sid

-- whether two subscriptions have the same connection and sid
abbrev pub has_same_sid : Subscription → Subscription → Bool
has_same_sid sub other = is_under other.conn other.sid sub

-- whether a subscription of the connection stands under that id
abbrev pub stands : List Subscription → ℕ → List ℕ → Bool
stands subs conn sid = list_any (is_under conn sid) subs

-- the standing subscriptions of a connection
abbrev pub of_connection : ℕ → List Subscription → List Subscription
of_connection conn subs = filter (λ (sub : Subscription). sub.conn == conn) subs

-- the connection has as many subscriptions as it may have, 4,096
abbrev pub has_all : List Subscription → ℕ → Bool
has_all subs conn = nat_le 4096 (length (of_connection conn subs))

-- a subscription that has received nothing yet, without a limit
abbrev pub subscription_of : ℕ → ℕ → List ℕ → List Token → Option (List Token) → List ℕ → Subscription
subscription_of id conn account p queue sid =
    record { id = id; conn = conn; account = account; subject = p; queue = queue; sid = sid; received = 0; most = None }

-- whether a subscription is of the account and has the subject
abbrev pub has_subject : List ℕ → List Token → Subscription → Bool
has_subject account s sub = pointwise nat_eq sub.account account && in_set sub.subject s

-- the subscriptions of the account that have the subject, oldest first
abbrev pub having : List ℕ → List Token → List Subscription → List Subscription
having account s subs = filter (has_subject account s) subs
