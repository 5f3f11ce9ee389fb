-- The meaning of a script: what `natsd play` prints and its status, line by line (docs/SCRIPT.md).
use Rattle.std.specs.Prelude.{◌≡◌, ◌==◌, ◌+◌, ◌/◌, ◌++◌, ◌∷◌, ◌||◌, ◌&&◌, ℕ, zero, suc, Bool, true, false, not, List, [], Option, Some, None, Result, Ok, Err, length, filter, insert, if◌then◌else◌, is_some, nat_lt, nat_le, codes}
use Rattle.std.specs.List.{list_any, position_or_len}
use Rattle.base.specs.Pieces.{pieces_of}
use Rattle.policy_doc.specs.Document.{builtin_doc}
use Rattle.policy_doc.specs.declared.document.PolicyDoc.{PolicyDoc}
use Rattle.wire_write.specs.Texts.{info_line}
use Rattle.wire_write.specs.connect_opts.Info.{info_text}
use Rattle.world.specs.Shown.{waiting_of}
use Rattle.hub.specs.declared.hub.Caps.{Caps}
use Rattle.events.specs.declared.answer.Entry.{Entry}
use Rattle.session_conn.specs.declared.output.Stall.{Stall}
use Rattle.session_conn.specs.Calls.{new_connection}
use Rattle.session_plan.specs.Replies.{is_closed, is_connected}
use Rattle.script.specs.Server.{Serving, opening, with_policy, with_caps, installed}
use Rattle.script.specs.Session.{Call, bytes_call, drain_call, end_call}
use Rattle.policy_text.specs.reload.Reload.{prepared}
use Rattle.policy_text.specs.reload.Fault.{fault_line}
use Rattle.policy_text.specs.declared.reload.fault.ReloadFault.{ReloadFault}
use Rattle.lines.specs.script_text.Lines.{line_of, progress_after}
use Rattle.lines.specs.script_text.Output.{shown_line, closed_line, refused_line, full_line}
use Rattle.lines.specs.reload_lines.Reloads.{reload_text}
use Rattle.script.specs.declared.client.Client.{Client}
use Rattle.lines.specs.declared.script_text.lines.Line.{Line}
use Rattle.lines.specs.declared.script_text.lines.Line.TheVariants as line
use Rattle.lines.specs.declared.script_text.lines.ClientLine.{ClientLine}
use Rattle.lines.specs.declared.script_text.lines.ClientLine.TheVariants.{Sends, Holds, Frees, Ends}
use Rattle.lines.specs.declared.script_text.lines.Progress.{Progress}
use Rattle.lines.specs.declared.script_text.lines.Progress.TheVariants.{Head, Capped, Body}

-- the line of what a connection was sent, if it was sent anything
abbrev pub shown_if : ℕ → List ℕ → List ℕ
shown_if conn text = if length text == 0 then [] else shown_line conn text

-- what is done to a connection: what is printed, the connection and the server after, and whether the history is full
pub record ClientEffect : Type 0 where
  pub text : List ℕ
  pub client : Client
  pub server : Serving
  pub full : Bool

abbrev pub client_effect : List ℕ → Client → Serving → Bool → ClientEffect
client_effect text k w full = record { text = text; client = k; server = w; full = full }

-- nothing is printed or asked
abbrev pub quiet : Client → Serving → ClientEffect
quiet k w = client_effect [] k w false

-- the same behind a text
abbrev pub behind : List ℕ → ClientEffect → ClientEffect
behind text t = client_effect (text ++ t.text) t.client t.server t.full

-- what a call printed behind what stood there, and what it left, is the effect's
pub record IsClientEffect (t : ClientEffect) (before after : List ℕ) (client : Client) (w : Serving) (full : Bool) : Type 0 where
  pub text : after ≡ before ++ t.text
  pub client_is : client ≡ t.client
  pub server_is : w ≡ t.server
  pub full_is : full ≡ t.full

-- the history is full
abbrev pub full_if : Option Stall → List ℕ
full_if None = []
full_if (Some s) = full_line

-- the end of a connection prints nothing, unless the history is full
abbrev pub ended_by : Client → Call → ClientEffect
ended_by k c = client_effect (full_if c.stall) (record k { conn = c.conn }) c.server (is_some c.stall)

abbrev pub end_effect : Serving → Client → ClientEffect
end_effect w k = ended_by k (end_call w k.conn)

-- what a call of a connection prints: what it was sent; whether the history is full; whether it closed, and then it ends
abbrev pub printed_by : Client → Serving → List ℕ → Option Stall → Bool → ClientEffect
printed_by k w text (Some s) closed = client_effect (shown_if k.conn.conn text ++ full_line) k w true
printed_by k w text None true = behind (shown_if k.conn.conn text ++ closed_line k.conn.conn) (end_effect w k)
printed_by k w text None false = client_effect (shown_if k.conn.conn text) k w false

abbrev pub printed : Client → Call → ClientEffect
printed k c = printed_by (record k { conn = c.conn }) c.server c.text c.stall (is_closed c.conn.stage)

-- whether a connection is to be drained: something waits or was missed, or its session is gone
abbrev pub is_pending : Option (ℕ × Bool) → Bool
is_pending None = true
is_pending (Some waiting) = waiting.1 || nat_lt 0 waiting.0

-- what one Take of 64 prints, if one is to be made
abbrev pub pending_effect : Serving → Client → Option ClientEffect
pending_effect w k =
    if is_connected k.conn.stage && is_pending (waiting_of w.hub.world k.conn.conn) then Some (printed k (drain_call w k.conn 64)) else None

-- an effect and what follows it: nothing once the history is full
abbrev pub goes_on : ClientEffect → Bool → (Serving → Client → ClientEffect) → ClientEffect
goes_on t true more = t
goes_on t false more = behind t.text (more t.server t.client)

abbrev pub if_any : Option ClientEffect → (Serving → Client → ClientEffect) → Serving → Client → ClientEffect
if_any None more w k = quiet k w
if_any (Some t) more w k = goes_on t t.full more

-- Takes while something is pending, so many at most
unfoldable pub takes : ℕ → Serving → Client → ClientEffect
takes zero w k = quiet k w
takes (suc most) w k = if_any (pending_effect w k) (λ w' k'. takes most w' k') w k

-- what a call printed and left where there is an effect, and that it did nothing where there is none
abbrev pub IsClientEffectIf : Option ClientEffect → List ℕ → List ℕ → Client → Client → Serving → Serving → Option Bool → Type 0
IsClientEffectIf None before after k k' w w' None = (after ≡ before) × (k' ≡ k) × (w' ≡ w)
IsClientEffectIf (Some t) before after k k' w w' (Some full) = IsClientEffect t before after k' w' full
IsClientEffectIf None before after k k' w w' (Some full) = ⊥
IsClientEffectIf (Some t) before after k k' w w' None = ⊥

-- each Take but the last takes 64 deliveries, so these are enough: `Client::drain` leaves nothing that is pending
abbrev pub enough_takes : Option (ℕ × Bool) → ℕ
enough_takes None = 1
enough_takes (Some waiting) = waiting.0 / 64 + 1

-- no Takes are made for a connection that is held
abbrev pub drain_effect : Serving → Client → ClientEffect
drain_effect w k = if k.held then quiet k w else takes (enough_takes (waiting_of w.hub.world k.conn.conn)) w k

-- what is printed, the connections and the server after, and whether the script stops there
pub record Effect : Type 0 where
  pub text : List ℕ
  pub clients : List Client
  pub server : Serving
  pub stops : Bool

abbrev pub effect : List ℕ → List Client → Serving → Bool → Effect
effect text clients w stops = record { text = text; clients = clients; server = w; stops = stops }

-- the same beside connections that it leaves as they are
abbrev pub beside : List Client → Effect → Effect
beside ks a = record a { clients = ks ++ a.clients }

-- an effect on one connection, and then what becomes of the others; they are not reached where the history is full
abbrev pub reached : ClientEffect → Bool → (Serving → Effect) → List Client → Effect
reached t true more ks = effect t.text (t.client ∷ ks) t.server true
reached t false more ks = let rest = more t.server in effect (t.text ++ rest.text) (t.client ∷ rest.clients) rest.server rest.stops

-- what a call printed behind what stood there, and what it left, is the effect's
pub record IsEffect (a : Effect) (before after : List ℕ) (clients : List Client) (w : Serving) (stops : Bool) : Type 0 where
  pub text : after ≡ before ++ a.text
  pub clients_are : clients ≡ a.clients
  pub server_is : w ≡ a.server
  pub stops_is : stops ≡ a.stops

-- every connection is drained, in ascending order
unfoldable pub drained : List Client → Serving → Effect
drained [] w = effect [] [] w false
drained (k ∷ ks) w = let t = drain_effect w k in reached t t.full (drained ks) ks

-- what is done to a connection: its client sends bytes, it is held or freed, or its client has gone, and then its session goes
abbrev pub client_line_effect : Serving → Client → ClientLine → ClientEffect
client_line_effect w k (Sends bytes) = printed k (bytes_call w k.conn bytes)
client_line_effect w k Holds = quiet (record k { held = true }) w
client_line_effect w k Frees = quiet (record k { held = false }) w
client_line_effect w k Ends = end_effect w k

-- what is done to the connection of that number, if it is open
abbrev pub done_to : Serving → Client → ClientLine → List Client → Effect
done_to w k said ks = let t = client_line_effect w k said in reached t t.full (λ w'. effect [] ks w' false) ks

unfoldable pub done_in : ℕ → ClientLine → Serving → List Client → Effect
done_in conn said w [] = effect [] [] w false
done_in conn said w (k ∷ ks) = if k.conn.conn == conn then done_to w k said ks else beside (k ∷ []) (done_in conn said w ks)

-- whether a connection of that number is open
abbrev pub is_open : List Client → ℕ → Bool
is_open ks conn = list_any (λ k. k.conn.conn == conn) ks

-- a new connection, before the first of a greater number
abbrev pub with_client : Client → List Client → List Client
with_client k ks = insert ks (position_or_len (λ x. nat_lt k.conn.conn x.conn.conn) ks) k

abbrev pub new_client : ℕ → Client
new_client conn = record { conn = new_connection conn; held = false }

-- a line of another form stops the script
abbrev pub refused_effect : ℕ → Serving → List Client → Effect
refused_effect number w ks = effect (refused_line number) ks w true

-- caps come first of all; an outbox has room for one delivery at least, and for 65,536 at most
abbrev pub caps_effect : ℕ → Progress → Caps → Serving → List Client → Effect
caps_effect number Head caps w ks =
    if nat_le 1 caps.outbox && nat_le caps.outbox 65536 then effect [] ks (with_caps caps w) false else refused_effect number w ks
caps_effect number Capped caps w ks = refused_effect number w ks
caps_effect number Body caps w ks = refused_effect number w ks

-- a policy takes the place of the built-in one; a text that is none stops the script, with the line of its fault
abbrev pub policy_effect : Result PolicyDoc ReloadFault → Serving → List Client → Effect
policy_effect (Ok doc) w ks = effect [] ks (with_policy doc w) false
policy_effect (Err fault) w ks = effect (fault_line fault ++ codes "\n") ks w true

-- only before anyone is connected
abbrev pub policy_line_effect : ℕ → Progress → List ℕ → Serving → List Client → Effect
policy_line_effect number Head text w ks = policy_effect (prepared text) w ks
policy_line_effect number Capped text w ks = policy_effect (prepared text) w ks
policy_line_effect number Body text w ks = refused_effect number w ks

-- a policy that comes into force: what the hub tells of it; where its history is full the script stops
abbrev pub reload_told : Option Entry × Serving → List Client → Effect
reload_told (Some entry, w) ks = effect (reload_text entry) ks w false
reload_told (None, w) ks = effect full_line ks w true

-- a text that is no policy prints the line of its fault, and changes nothing
abbrev pub reload_effect : Result PolicyDoc ReloadFault → Serving → List Client → Effect
reload_effect (Ok doc) w ks = reload_told (installed doc w) ks
reload_effect (Err fault) w ks = effect (fault_line fault ++ codes "\n") ks w false

-- what a line itself does
abbrev pub line_effect : ℕ → Progress → Line → Serving → List Client → Effect
line_effect number progress line.Skip w ks = effect [] ks w false
line_effect number progress (line.Caps outbox history) w ks = caps_effect number progress (record { outbox = outbox; history = history }) w ks
line_effect number progress (line.Policy text) w ks = policy_line_effect number progress text w ks
line_effect number progress (line.Reload text) w ks = reload_effect (prepared text) w ks
line_effect number progress (line.Open conn) w ks =
    if is_open ks conn then refused_effect number w ks
    else effect (shown_line conn (info_line (info_text conn))) (with_client (new_client conn) ks) w false
line_effect number progress (line.Client conn said) w ks = done_in conn said w ks
line_effect number progress (line.Now moment) w ks = effect [] ks (record w { moment = moment }) false
line_effect number progress (line.Word word) w ks = effect [] ks (record w { words = w.words ++ word ∷ [] }) false
line_effect number progress line.Other w ks = refused_effect number w ks

-- the connections that are still open
abbrev pub still_open : List Client → List Client
still_open ks = filter (λ k. not (is_closed k.conn.stage)) ks

-- a line, and then the drains
abbrev pub and_drains : Effect → Bool → Effect
and_drains a true = a
and_drains a false = let d = drained a.clients a.server in effect (a.text ++ d.text) (still_open d.clients) d.server d.stops

unfoldable pub line_and_drains : ℕ → Progress → Line → Serving → List Client → Effect
line_and_drains number progress line w ks = let a = line_effect number progress line w ks in and_drains a a.stops

-- what a script prints, and its status
pub record Played : Type 0 where
  pub text : List ℕ
  pub status : ℕ

abbrev pub stops_or : Effect → Bool → (Serving → List Client → Played) → Played
stops_or a true more = record { text = a.text; status = 1 }
stops_or a false more = let rest = more a.server a.clients in record { text = a.text ++ rest.text; status = rest.status }

-- the lines from a number on
unfoldable pub played : ℕ → Progress → List (List ℕ) → Serving → List Client → Played
played number progress [] w ks = record { text = []; status = 0 }
played number progress (text ∷ texts) w ks =
    let a = line_and_drains number progress (line_of text) w ks in
    stops_or a a.stops (λ w' ks'. played (number + 1) (progress_after progress (line_of text)) texts w' ks')

-- the lines of a script: what stands between its LFs. Behind a last LF there is one more, the empty one, which is skipped.
abbrev pub lines_of : List ℕ → List (List ℕ)
lines_of script = pieces_of 10 script

-- what a script prints; the built-in policy and the usual caps hold where its head gives no others
unfoldable pub output_of : List ℕ → Played
output_of script = played 1 Head (lines_of script) (opening builtin_doc) []
