-- What becomes of the sessions when another policy comes into force (docs/GUARANTEE.md, "A reload").
use Rattle.std.specs.Prelude.{◌≡◌, ◌<◌, ◌∷◌, ℕ, List, [], Bool, false, Option, Some, None, if◌then◌else◌, filter, map, not, is_some, nat_le, length, slice_index_or, IsSomeAnd}
use Rattle.std.specs.Bool.{Decides}
use Rattle.policy_doc.specs.declared.document.PolicyDoc.{PolicyDoc}
use Rattle.reply_grants.specs.Replies.{judged}
use Rattle.policy_ready.specs.Users.{user_again}
use Rattle.policy_ready.specs.declared.ready.User.{User}
use Rattle.world_sessions.specs.declared.deliveries.session.Session.{Session}
pub use Rattle.world_sessions.specs.deliveries.Sessions.{connection_of}

-- the user that a policy has in place of a session's
abbrev pub user_again_of : PolicyDoc → Session → Option User
user_again_of doc z = user_again doc z.user

-- a session stays where the policy has its user again
abbrev pub stays : PolicyDoc → Session → Bool
stays doc z = is_some (user_again_of doc z)

-- the session with that user, with the grants that are live at the moment under the terms before and under that user's,
-- and with all else as it is
abbrev pub with_user : ℕ → Session → Option User → Session
with_user now z None = z
with_user now z (Some u) = record z { user = u; replies = judged now z.user.rules.allow_responses u.rules.allow_responses z.replies }

abbrev pub renewed : ℕ → PolicyDoc → Session → Session
renewed now doc z = with_user now z (user_again_of doc z)

-- the sessions that stay, each for its user as the policy has it
abbrev pub remaining : ℕ → PolicyDoc → List Session → List Session
remaining now doc zs = map (renewed now doc) (filter (stays doc) zs)

-- sessions with these users, in order
abbrev pub with_users : ℕ → List Session → List User → List Session
with_users now [] us = []
with_users now (z ∷ zs) [] = z ∷ zs
with_users now (z ∷ zs) (u ∷ us) = with_user now z (Some u) ∷ with_users now zs us

-- a number in its place among ascending ones
abbrev pub with_number : ℕ → List ℕ → List ℕ
with_number n [] = n ∷ []
with_number n (m ∷ ms) = if nat_le n m then n ∷ m ∷ ms else m ∷ with_number n ms

abbrev pub ascending : List ℕ → List ℕ
ascending [] = []
ascending (n ∷ ns) = with_number n (ascending ns)

abbrev pub goes : PolicyDoc → Session → Bool
goes doc z = not (stays doc z)

-- the connections of the sessions that go, ascending
abbrev pub closed_conns : PolicyDoc → List Session → List ℕ
closed_conns doc zs = ascending (map connection_of (filter (goes doc) zs))

-- the policy has the session's user again, with the subscribe lists that it has now
abbrev pub HasSameLists : PolicyDoc → Session → Type 0
HasSameLists doc z = IsSomeAnd (user_again_of doc z) (λ (u : User). u.rules.subscribe ≡ z.user.rules.subscribe)

-- an answer beside each of the first sessions: whether it is so
abbrev pub AreSameSoFar : PolicyDoc → List Session → List Bool → Type 0
AreSameSoFar doc zs same =
    (i : ℕ) (d : Session) → i < length same → Decides (slice_index_or same i false) (HasSameLists doc (slice_index_or zs i d))

-- and beside each
abbrev pub AreSameLists : PolicyDoc → List Session → List Bool → Type 0
AreSameLists doc zs same = (length same ≡ length zs) × AreSameSoFar doc zs same

-- two sessions whose users have one name act for one user
abbrev pub HaveOneUser : Session → Session → Type 0
HaveOneUser y z = y.user.user ≡ z.user.user → y.user ≡ z.user

-- and so do each of the first and another
abbrev pub IsOfEarlier : List Session → List Bool → Session → Type 0
IsOfEarlier zs same z = (i : ℕ) (d : Session) → i < length same → HaveOneUser (slice_index_or zs i d) z
