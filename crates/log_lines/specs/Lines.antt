-- What the server tells its operator: the line of a notice (docs/OPERATING.md, "What the server tells").
use Rattle.std.specs.Prelude.{◌≡◌, ℕ, ◌++◌, ◌∷◌, ◌||◌, [], List, Bool, true, false, Option, None, Some, codes, decimal, if◌then◌else◌, option_copied, option_map, nat_eq}
use Rattle.std.specs.Borrow.{Bor}
use Rattle.std.specs.List.{starts_with}
use Rattle.std.specs.Str.{bytes_eq}
use Rattle.std.specs.Str.Lossy.{utf8_lossy}
use Rattle.json.specs.Token.{Token, begin_object, end_object, key, string, number}
use Rattle.json.specs.Print.{print}
use Rattle.json.specs.Written.{Written}
use Rattle.permissions.specs.declared.verdict.Verdict.{Verdict}
use Rattle.permissions.specs.declared.verdict.Verdict.TheVariants.{Allowed, DeniedBy, NoAllow, NoQueueAllow}
use Rattle.log_lines.specs.declared.notice.Notice.{Notice}
use Rattle.log_lines.specs.declared.notice.Denial.{Denial}
use Rattle.log_lines.specs.declared.notice.Invalid.{Invalid}
use Rattle.log_lines.specs.declared.notice.Unrouted.{Unrouted}
use Rattle.log_lines.specs.declared.notice.Program.{Program}
use Rattle.log_lines.specs.declared.notice.Started as begun
use Rattle.log_lines.specs.declared.notice.Ending.{Ending}
use Rattle.log_lines.specs.declared.notice.Ending.TheVariants as ending
use Rattle.reply_grants.specs.declared.ended.GrantEnd.{GrantEnd}
use Rattle.reply_grants.specs.declared.ended.GrantEnd.TheVariants as grant
use Rattle.log_lines.specs.declared.notice.Slowness.{Slowness}
use Rattle.log_lines.specs.declared.notice.Slowness.TheVariants.{OutboxFull, TooMuchWaits, TakesNothing, ReadsNothing}
use Rattle.log_lines.specs.declared.notice.What.{What}
use Rattle.log_lines.specs.declared.notice.What.TheVariants.{Started, Connected, Closed, AuthFailed, Denied, SlowConsumer, ProtocolError, InvalidSubject, Limit, RouteFull, NoDescriptors, Reloaded, Gone, Removed, PolicyRefused, PolicyWarning, PolicyUnreadable, PolicyReadable, Failed}

-- ---- members: a name with a text or a number, where there is one

-- what isn't UTF-8 is replaced by U+FFFD
abbrev pub text : List ℕ → List ℕ → List Token
text name bytes = key name ∷ string (utf8_lossy bytes) ∷ []

abbrev pub text_if : List ℕ → Option (List ℕ) → List Token
text_if name None = []
text_if name (Some bytes) = text name bytes

abbrev pub count : List ℕ → ℕ → List Token
count name n = key name ∷ number (decimal n) ∷ []

abbrev pub count_if : List ℕ → Option ℕ → List Token
count_if name None = []
count_if name (Some n) = count name n

-- ---- what has happened

abbrev pub name_of : What → List ℕ
name_of (Started it) = codes "started"
name_of Connected = codes "connected"
name_of (Closed why lasted) = codes "closed"
name_of AuthFailed = codes "auth_failed"
name_of (Denied denial) = codes "denied"
name_of (SlowConsumer why) = codes "slow_consumer"
name_of (ProtocolError error) = codes "protocol_error"
name_of (InvalidSubject frame) = codes "protocol_error"
name_of (Limit error) = codes "limit"
name_of (RouteFull request) = codes "limit"
name_of NoDescriptors = codes "no_descriptors"
name_of (Reloaded epoch gone removed) = codes "reloaded"
name_of Gone = codes "gone"
name_of (Removed denial) = codes "removed"
name_of (PolicyRefused fault place) = codes "policy_refused"
name_of (PolicyWarning warning) = codes "policy_warning"
name_of (PolicyUnreadable why) = codes "policy_unreadable"
name_of PolicyReadable = codes "policy_readable_again"
name_of (Failed why) = codes "failed"

-- how much it matters that a limit was met: those of all connections and sessions keep others out
abbrev pub limit_level : List ℕ → List ℕ
limit_level error =
    if bytes_eq error (codes "connections") || bytes_eq error (codes "Maximum Connections Exceeded")
    then codes "error" else codes "warning"

-- how much a line matters: an error where no client can come in, a warning where one was refused or something is wrong
abbrev pub level_of : What → List ℕ
level_of (Failed why) = codes "error"
level_of NoDescriptors = codes "error"
level_of (Limit error) = limit_level error.now
level_of (Started it) = codes "info"
level_of Connected = codes "info"
level_of (Closed why lasted) = codes "info"
level_of (Reloaded epoch gone removed) = codes "info"
level_of PolicyReadable = codes "info"
level_of _ = codes "warning"

-- ---- what it has beside its name

-- who logs in or fails to, and what is denied, is told with what the client has said of its program
abbrev pub tells_program : What → Bool
tells_program Connected = true
tells_program AuthFailed = true
tells_program (Denied d) = true
tells_program _ = false

abbrev pub program : Program → List Token
program p =
    text_if (codes "name") (option_copied p.name) ++ text_if (codes "lang") (option_copied p.lang)
    ++ text_if (codes "version") (option_copied p.version)

abbrev pub program_if : Bool → Program → List Token
program_if true p = program p
program_if false p = []

-- a server that has begun: what it is, and its limits
abbrev pub proved_name : Bool → List ℕ
proved_name true = codes "yes"
proved_name false = codes "no"

abbrev pub limits : begun.Started → List Token
limits s =
    count (codes "workers") s.workers ++ count (codes "connections") s.connections ++ count (codes "outbox") s.outbox
    ++ count (codes "history") s.history ++ count (codes "history_bytes") s.history_bytes
    ++ count (codes "keepalive") s.keepalive

abbrev pub started : begun.Started → List Token
started s =
    text (codes "version") s.version.now ++ text_if (codes "commit") (option_copied s.commit)
    ++ text_if (codes "proved") (option_map proved_name s.is_proved) ++ text_if (codes "policy") (option_copied s.policy)
    ++ text (codes "listen") s.listen.now ++ limits s

-- why a session has ended, and after how many milliseconds
abbrev pub ending_name : Ending → List ℕ
ending_name ending.ClientLeft = codes "client left"
ending_name ending.SocketFailed = codes "socket failed"
ending_name ending.SlowConsumer = codes "slow consumer"
ending_name ending.ErrorSent = codes "error sent"
ending_name ending.NoMemory = codes "no memory"

abbrev pub closed : Option Ending → Option ℕ → List Token
closed why lasted = text_if (codes "reason") (option_map ending_name why) ++ count_if (codes "lasted") lasted

-- why a grant answers no more
abbrev pub grant_name : GrantEnd → List ℕ
grant_name grant.UsedUp = codes "grant used up"
grant_name grant.Expired = codes "grant expired"

-- a verdict, and the index of the entry that it names
abbrev pub verdict_name : Verdict → List ℕ
verdict_name (Allowed by) = codes "allowed"
verdict_name (DeniedBy index) = codes "denied"
verdict_name NoAllow = codes "no allow"
verdict_name (NoQueueAllow index) = codes "no queue allow"

abbrev pub index_of : Verdict → Option ℕ
index_of (Allowed by) = None
index_of (DeniedBy index) = Some index
index_of NoAllow = None
index_of (NoQueueAllow index) = Some index

abbrev pub denial : Denial → List Token
denial d =
    text (codes "command") d.command.now ++ text_if (codes "subject") (option_copied d.subject) ++ text_if (codes "queue") (option_copied d.queue)
    ++ text_if (codes "sid") (option_copied d.sid) ++ text (codes "verdict") (verdict_name d.verdict) ++ count_if (codes "index") (index_of d.verdict)
    ++ text_if (codes "entry") (option_copied d.entry) ++ text_if (codes "reason") (option_map grant_name d.grant)

-- why a client is too slow
abbrev pub reason_of : Slowness → List ℕ
reason_of OutboxFull = codes "outbox full"
reason_of TooMuchWaits = codes "too much waits"
reason_of TakesNothing = codes "takes nothing"
reason_of ReadsNothing = codes "reads nothing"

-- the error that a client was sent for a frame, and the frame
abbrev pub invalid : Invalid → List Token
invalid f =
    text (codes "text") (codes "Invalid Subject") ++ text (codes "command") f.command.now ++ text (codes "subject") f.subject.now
    ++ text_if (codes "queue") (option_copied f.queue) ++ text_if (codes "reply") (option_copied f.reply)

-- a request that was given to nobody, and the import that makes it one
abbrev pub unrouted : Unrouted → List Token
unrouted r = text (codes "text") (codes "routes") ++ text (codes "subject") r.subject.now ++ count (codes "import") r.import

-- all that it has
abbrev pub details : What → List Token
details (Started it) = started it
details Connected = []
details (Closed why lasted) = closed why lasted
details AuthFailed = []
details (Denied d) = denial d
details (SlowConsumer why) = text (codes "reason") (reason_of why)
details (ProtocolError error) = text (codes "text") error.now
details (InvalidSubject frame) = invalid frame
details (Limit error) = text (codes "text") error.now
details (RouteFull request) = unrouted request
details NoDescriptors = []
details (Reloaded epoch gone removed) = count (codes "epoch") epoch ++ count (codes "gone") gone ++ count (codes "removed") removed
details Gone = []
details (Removed d) = denial d
details (PolicyRefused fault place) = text (codes "text") fault.now ++ text_if (codes "place") (option_copied place)
details (PolicyWarning warning) = text (codes "text") warning.now
details (PolicyUnreadable why) = text (codes "text") why.now
details PolicyReadable = []
details (Failed why) = text (codes "text") why.now

-- whose it is, as far as that is known
abbrev pub party : Notice → List Token
party n = count_if (codes "conn") n.conn ++ text_if (codes "peer") (option_copied n.peer) ++ text_if (codes "user") (option_copied n.user) ++ text_if (codes "account") (option_copied n.account)

-- how many lines were left out, where some were
abbrev pub left_out_if : Bool → ℕ → List Token
left_out_if true n = []
left_out_if false n = count (codes "left_out") n

abbrev pub left_out : ℕ → List Token
left_out n = left_out_if (nat_eq n 0) n

-- ---- the line: one JSON object, and LF

abbrev pub members_of : Notice → List Token
members_of n =
    count (codes "at") n.at ++ text (codes "event") (name_of n.what) ++ text (codes "level") (level_of n.what)
    ++ party n ++ program_if (tells_program n.what) n.program ++ details n.what ++ left_out n.left_out

abbrev pub line_of : Notice → List ℕ
line_of n = print (begin_object ∷ members_of n ++ end_object ∷ []) ++ codes "\n"

-- so many tokens were written behind those that were
pub record IsWritten (old new : Written) (tokens : List Token) : Type 0 where
  pub before : new.before ≡ old.before
  pub written : new.tokens ≡ old.tokens ++ tokens

-- ---- errors that clients are sent

abbrev pub what_if : Bool → Bor (List ℕ) → What
what_if true error = Limit error
what_if false error = ProtocolError error

abbrev pub what_of : Bor (List ℕ) → What
what_of error = what_if (starts_with nat_eq error.now (codes "Maximum ")) error
