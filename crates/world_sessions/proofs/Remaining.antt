-- The users that a policy has again, handed to the sessions that stay.
use Rattle.std.proofs.Common.{◌≡◌, ◌∙◌, ℕ, ◌+◌, ◌<◌, ◌≤◌, suc, cond, List, [], ◌∷◌, ◌++◌, map, filter, length, take, drop, set, get_or, Option, Some, None, ap, sym, refl, arith}
use Rattle.std.specs.Prelude.{is_some, AllPairs}
use Rattle.std.specs.List.{filter_map, cons_option}
use Rattle.std.specs.Option.{option_to_list}
use Rattle.std.proofs.lemmas.List.{append_assoc, take_more_set, drop_more, drop-set-lt, length-map}
use Rattle.std.proofs.lemmas.List.Kept.{AllPairs-filter}
use Rattle.policy_doc.specs.declared.document.PolicyDoc.{PolicyDoc}
use Rattle.world_sessions.specs.deliveries.Sessions.{IsApart}
use Rattle.world_sessions.specs.Renewal.{user_again_of, stays, with_user, with_users, renewed, remaining}
use Rattle.policy_ready.specs.declared.ready.User.{User}
use Rattle.world_sessions.specs.declared.deliveries.session.Session.{Session}
use Rattle.world_sessions.proofs.Lists.{filter-fewer}
use Rattle.world_sessions.proofs.deliveries.Changes.{apart-map}

with_users-none : (now : ℕ) (zs : List Session) → with_users now zs [] ≡ zs
with_users-none now [] = refl
with_users-none now (z ∷ zs) = refl

longer : (u : User) (us : List User) → (u ∷ us) ≡ us → ⊥
longer u us e = let l : suc (length us) ≡ length us = ap length e in omega arith

-- the first session has the first user, and the others have those that are left
handed : (now : ℕ) (z : Session) (zs : List Session) (us rest : List User) (o : Option User) → us ≡ option_to_list o ++ rest → rest ≡ drop 1 us →
    with_users now (z ∷ zs) us ≡ with_user now z o ∷ with_users now zs rest
handed now z zs us rest (Some u) is next = ap (with_users now (z ∷ zs)) is
handed now z zs [] rest None is next = ap (λ ys. z ∷ ys) (sym (with_users-none now zs) ∙ ap (with_users now zs) is)
handed now z zs (u ∷ us) rest None is next = absurd (longer u us (is ∙ next))

-- one more session has its user
pub with_users_more : (now : ℕ) (zs : List Session) (us rest : List User) (i : ℕ) (y z : Session) (o : Option User) → i < length zs → y ≡ with_user now (get_or zs i z) o →
    us ≡ option_to_list o ++ rest → rest ≡ drop 1 us →
    take (i + 1) (set zs i y) ++ with_users now (drop (i + 1) (set zs i y)) rest ≡ take i zs ++ with_users now (drop i zs) us
with_users_more now zs us rest i y z o h given is next =
    ap (λ front. front ++ with_users now (drop (i + 1) (set zs i y)) rest) (take_more_set zs i y h)
    ∙ ap (λ left. (take i zs ++ y ∷ []) ++ with_users now left rest) (drop-set-lt (i + 1) zs i y (omega arith))
    ∙ append_assoc (take i zs) (y ∷ []) (with_users now (drop (i + 1) zs) rest)
    ∙ ap (λ left. take i zs ++ left) (
    ap (λ x. x ∷ with_users now (drop (i + 1) zs) rest) given
    ∙ sym (handed now (get_or zs i z) (drop (i + 1) zs) us rest o is next)
    ∙ ap (λ left. with_users now left us) (sym (drop_more zs i z h)))

-- with the users that the policy has again, those that stay are renewed
pub with_users_renewed : (now : ℕ) (doc : PolicyDoc) (zs : List Session) → with_users now (filter (stays doc) zs) (filter_map (user_again_of doc) zs) ≡ remaining now doc zs
with_users_renewed now doc [] = refl
with_users_renewed now doc (z ∷ zs) = here (user_again_of doc z) refl (with_users_renewed now doc zs)
  where
    here : (o : Option User) → user_again_of doc z ≡ o → with_users now (filter (stays doc) zs) (filter_map (user_again_of doc) zs) ≡ remaining now doc zs →
        with_users now (cond (is_some o) (z ∷ filter (stays doc) zs) (filter (stays doc) zs)) (cons_option o (filter_map (user_again_of doc) zs))
        ≡ map (renewed now doc) (cond (is_some o) (z ∷ filter (stays doc) zs) (filter (stays doc) zs))
    here None is later = later
    here (Some u) is later = ap (λ x. with_user now z x ∷ with_users now (filter (stays doc) zs) (filter_map (user_again_of doc) zs)) (sym is) ∙ ap (λ ys. renewed now doc z ∷ ys) later

-- ---- the sessions that stay

pub with_user-conn : (now : ℕ) (z : Session) (o : Option User) → (with_user now z o).conn ≡ z.conn
with_user-conn now z None = refl
with_user-conn now z (Some u) = refl

-- they are of different connections, as all were
pub remaining-apart : (now : ℕ) (doc : PolicyDoc) (zs : List Session) → AllPairs IsApart zs → AllPairs IsApart (remaining now doc zs)
remaining-apart now doc zs apart =
    apart-map (renewed now doc) (filter (stays doc) zs) (λ z. with_user-conn now z (user_again_of doc z)) (AllPairs-filter IsApart (stays doc) zs apart)

-- and no more than all were
pub remaining-fewer : (now : ℕ) (doc : PolicyDoc) (zs : List Session) → length (remaining now doc zs) ≤ length zs
remaining-fewer now doc zs = omega (arith, length-map (filter (stays doc) zs) (renewed now doc), filter-fewer (stays doc) zs)
