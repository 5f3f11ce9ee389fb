-- What the guarantee says of responses: who may respond on a reply subject, and what becomes of the grants
-- (docs/GUARANTEE.md, "Reply grants").
use Rattle.std.specs.Prelude.{◌==◌, ◌-◌, ◌&&◌, ℕ, Bool, true, false, List, [], ◌∷◌, Option, Some, None, if◌then◌else◌, nat_le}
use Rattle.std.specs.List.{list_any}
use Rattle.subjects.specs.Subject.{Token}
use Rattle.subjects.specs.Equal.{same_subject}
use Rattle.policy_doc.specs.declared.permission_doc.document.Terms.{Terms}
use Rattle.permissions.specs.declared.verdict.By.{By}
use Rattle.permissions.specs.declared.verdict.By.TheVariants.{All as AllowsAll, Index, Grant as ByGrant}
use Rattle.reply_grants.specs.Grants.{Grant}
use Rattle.reply_grants.specs.Replies.{Table, grants_of, noted, responded_in, ended_in}
use Rattle.policy_ready.specs.declared.ready.User.{User}
use Rattle.events.specs.declared.answer.Delivery.{Delivery}
use Rattle.world_sessions.specs.deliveries.Sessions.{session_of}
use Rattle.world_sessions.specs.deliveries.Replying.{note_of}
use Rattle.world_sessions.specs.declared.deliveries.session.Session.{Session}
use Rattle.world.specs.World.{World}
use Rattle.hub.specs.Kept.{is_open}
use Rattle.hub.specs.Sound.{user_at}

-- ---- who may respond

-- on what terms a user may respond, if there is one
abbrev pub terms_in : Option User → Option Terms
terms_in None = None
terms_in (Some u) = u.rules.allow_responses

-- the grants of a connection's session
abbrev pub grants_at : Option Session → List Grant
grants_at None = []
grants_at (Some z) = grants_of z.replies

-- it isn't older than the terms say
abbrev pub is_young : Option ℕ → ℕ → Bool
is_young None age = true
is_young (Some expires) age = nat_le age expires

-- a grant that is live on these terms, for a subject
abbrev pub is_live_for : ℕ → List Token → Terms → Grant → Bool
is_live_for now s terms g = same_subject s g.subject && (is_open terms.max g.count && is_young terms.expires (now - g.noted))

abbrev pub has_grant : ℕ → List Token → Option Terms → List Grant → Bool
has_grant now s None gs = false
has_grant now s (Some terms) gs = list_any (is_live_for now s terms) gs

-- whether the user of a connection has a live grant for a subject, on the terms that it has in the policy in force
abbrev pub may_respond : World → ℕ → ℕ → List Token → Bool
may_respond w now conn s = has_grant now s (terms_in (user_at w conn)) (grants_at (session_of w.sessions conn))

-- ---- what becomes of the grants at a publish

abbrev pub is_by_grant : By → Bool
is_by_grant AllowsAll = false
is_by_grant (Index i) = false
is_by_grant ByGrant = true

-- a response of this session, which a grant has allowed
abbrev pub is_response : By → ℕ → Session → Bool
is_response by conn z = is_by_grant by && (z.conn == conn)

-- once a delivery with this reply has entered: the reply is noted, if it has one and the user has terms
abbrev pub noted_at : ℕ → Option Terms → Option (List Token) → Table → Table
noted_at now terms None table = table
noted_at now None (Some s) table = table
noted_at now (Some terms) (Some s) table = noted (note_of s table) now table

-- once these have entered: the reply of each, in turn
abbrev pub noted_each : ℕ → Option Terms → List Delivery → Table → Table
noted_each now terms [] table = table
noted_each now terms (d ∷ ds) table = noted_each now terms ds (noted_at now terms d.message.reply table)

-- A response is counted on its grant; then the replies of the session's deliveries that enter are noted; then the grant of
-- the response goes, where as many have passed as may.
abbrev pub replies_after : ℕ → By → ℕ → List Token → List Delivery → Session → Table
replies_after now by conn s entered z =
    if is_response by conn z
    then ended_in s z.user.rules.allow_responses (noted_each now z.user.rules.allow_responses entered (responded_in s z.replies))
    else noted_each now z.user.rules.allow_responses entered z.replies
