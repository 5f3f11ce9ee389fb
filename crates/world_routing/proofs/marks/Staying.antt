-- The session of a connection among those that stay.
use Rattle.std.proofs.Common.{◌≡◌, ◌∙◌, ◌==◌, ℕ, Bool, true, false, cond, List, [], ◌∷◌, filter, Option, Some, None, ap, sym, refl}
use Rattle.std.specs.Prelude.{AllPairs}
use Rattle.std.specs.Option.{option_map}
use Rattle.std.proofs.lemmas.Bool.{eqb-true, ne_eqb}
use Rattle.policy_doc.specs.declared.document.PolicyDoc.{PolicyDoc}
use Rattle.world_sessions.specs.deliveries.Sessions.{session_of, IsApart}
use Rattle.world_sessions.specs.declared.deliveries.session.Session.{Session}
use Rattle.world_sessions.specs.Renewal.{user_again_of, stays, renewed, remaining}
use Rattle.world_sessions.proofs.Remaining.{with_user-conn}
use Rattle.base.proofs.list_laws.Finds.{find-map, find-nothing, AllPairs-head, AllPairs-tail}

-- the session, if it passes
abbrev pub passing : (Session → Bool) → Option Session → Option Session
passing p None = None
passing p (Some z) = cond (p z) (Some z) None

pub session_of-filter : (p : Session → Bool) (conn : ℕ) (zs : List Session) → AllPairs IsApart zs → session_of (filter p zs) conn ≡ passing p (session_of zs conn)
session_of-filter p conn [] apart = refl
session_of-filter p conn (z ∷ zs) apart = here (p z) (z.conn == conn) refl refl (session_of-filter p conn zs (AllPairs-tail IsApart z zs apart))
  where
    nobody : (z.conn == conn) ≡ true → session_of zs conn ≡ None
    nobody is = find-nothing (λ (y : Session). y.conn == conn) zs (λ k d h. ne_eqb _ _ (λ same. AllPairs-head IsApart z zs apart k d h (eqb-true z.conn conn is ∙ sym same)))

    here : (b c : Bool) → p z ≡ b → (z.conn == conn) ≡ c → session_of (filter p zs) conn ≡ passing p (session_of zs conn) →
        session_of (cond b (z ∷ filter p zs) (filter p zs)) conn ≡ passing p (cond c (Some z) (session_of zs conn))
    here true true h is later = ap (λ d. cond d (Some z) (session_of (filter p zs) conn)) is ∙ sym (ap (λ d. cond d (Some z) None) h)
    here true false h is later = ap (λ d. cond d (Some z) (session_of (filter p zs) conn)) is ∙ later
    here false true h is later = later ∙ ap (passing p) (nobody is) ∙ sym (ap (λ d. cond d (Some z) None) h)
    here false false h is later = later

pub session_of-remaining : (now : ℕ) (doc : PolicyDoc) (conn : ℕ) (zs : List Session) → AllPairs IsApart zs →
    session_of (remaining now doc zs) conn ≡ option_map (renewed now doc) (passing (stays doc) (session_of zs conn))
session_of-remaining now doc conn zs apart =
    find-map (λ (z : Session). z.conn == conn) (renewed now doc) (filter (stays doc) zs) (λ z. ap (λ n. n == conn) (with_user-conn now z (user_again_of doc z)))
    ∙ ap (option_map (renewed now doc)) (session_of-filter (stays doc) conn zs apart)
