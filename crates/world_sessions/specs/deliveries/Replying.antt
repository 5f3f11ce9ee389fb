-- Who may respond on what (docs/GUARANTEE.md, "Reply grants").
use Rattle.std.specs.Prelude.{ℕ, Bool, List, [], Option, Some, None, is_some, if◌then◌else◌}
use Rattle.std.specs.Option.{option_map}
use Rattle.subjects.specs.Subject.{Token}
use Rattle.policy_doc.specs.declared.permission_doc.document.Terms.{Terms}
use Rattle.reply_grants.specs.Grants.{has_live}
use Rattle.reply_grants.specs.Replies.{Table, grants_of, responded_in, ended_in}
use Rattle.reply_grants.specs.declared.replies.Note.{Note}
use Rattle.events.specs.declared.answer.Addressed.{Addressed}
use Rattle.world_sessions.specs.deliveries.Sessions.{session_of}
use Rattle.world_sessions.specs.declared.deliveries.session.Session.{Session}

-- on what terms a session's user may respond
abbrev pub terms_of : Session → Option Terms
terms_of z = z.user.rules.allow_responses

-- whether a live grant lets a session publish on the subject
abbrev pub is_granted : ℕ → List Token → Session → Bool
is_granted now s z = has_live s now (terms_of z) (grants_of z.replies)

-- a note of the subject, with a table for whoever has none yet
abbrev pub note_of : List Token → Table → Note
note_of s table = record { subject = s; table = if is_some table then None else Some [] }

-- what is noted where a message with this reply enters: nothing, where it has none or the user may not respond
abbrev pub note_for : Option (List Token) → Option Session → Option Note
note_for None z = None
note_for (Some s) None = None
note_for (Some s) (Some z) = option_map (λ (t : Terms). note_of s z.replies) (terms_of z)

-- a delivery with what its session is to note where it enters, by the reply of what is delivered
abbrev pub noted_for : List Session → Addressed → Addressed
noted_for zs a = record a { noted = note_for a.delivery.message.reply (session_of zs a.conn) }

-- one response more on the session's grant for the subject
abbrev pub responding : List Token → Session → Session
responding s z = record z { replies = responded_in s z.replies }

-- its grant for the subject goes where as many responses have passed on it as may
abbrev pub ending : List Token → Session → Session
ending s z = record z { replies = ended_in s (terms_of z) z.replies }
