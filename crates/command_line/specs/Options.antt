-- The options of `natsd serve` (docs/OPERATING.md, "Options"), in the words of clap's contracts.
use Rattle.std.specs.Prelude.{◌≡◌, ◌≤◌, ℕ, Bool, true, false, List, [], ◌∷◌, Option, Some, None, codes, if◌then◌else◌, option_map, unwrap_or, string_bytes}
use Rattle.std.specs.Str.{bytes_eq}
use Rattle.std.specs.Str.Parse.{digits_value, without_leading_plus}
use Rattle.clap.specs.Words.{App, IsUnsignedIn, app_of, Row, Rule, Text, first_of, new_app, new_rule, one_of, with_rule}
use Rattle.clap.specs.declared.builder.action.ArgAction.TheVariants.{SetTrue}
use Rattle.clap.specs.declared.builder.command.Command.{Command}
use Rattle.clap.specs.declared.builder.command.Command.TheViews.{out-Command}
use Rattle.clap.specs.declared.builder.value_parser.ValueParser.TheVariants.{Unsigned}
use Rattle.command_line.specs.declared.options.Choices.{Choices}
use Rattle.command_line.specs.Files.{file_rule, policy_file}
use Rattle.command_line.specs.declared.options.LogChoice.{LogChoice}
use Rattle.command_line.specs.declared.options.LogChoice.TheVariants as log_choice
use Rattle.command_line.specs.declared.options.ServeOptions.{ServeOptions}

-- ---- what it takes

abbrev pub text_rule : Text → Rule
text_rule id = record (new_rule id) { long = Some id; value_names = 1 }

abbrev pub number_rule : Text → ℕ → ℕ → Text → Rule
number_rule id least most default = record (text_rule id) { parser = Some (Unsigned least most); defaults = default ∷ [] }

abbrev pub default_listen : Text
default_listen = codes "127.0.0.1:4222"

abbrev pub most_history : ℕ
most_history = 18446744073709551615

abbrev pub most_connections : ℕ
most_connections = 18446744073709551615

abbrev pub policy_rule : Rule
policy_rule = text_rule (codes "policy")

-- an option that is given or not
abbrev pub flag_rule : Text → Rule
flag_rule id = record (new_rule id) { long = Some id; action = Some SetTrue }

-- what `check` takes
abbrev pub check_app : App
check_app = with_rule (with_rule (with_rule (with_rule (with_rule (new_app (codes "check")) policy_rule) (flag_rule (codes "sets"))) (text_rule (codes "split"))) file_rule) (flag_rule (codes "strict"))

abbrev pub listen_rule : Rule
listen_rule = record (text_rule (codes "listen")) { defaults = default_listen ∷ [] }

abbrev pub workers_rule : Rule
workers_rule = number_rule (codes "workers") 1 64 (codes "2")

abbrev pub outbox_rule : Rule
outbox_rule = number_rule (codes "outbox") 1 65536 (codes "1024")

abbrev pub history_rule : Rule
history_rule = number_rule (codes "history") 2 most_history (codes "1000000")

abbrev pub history_bytes_rule : Rule
history_bytes_rule = number_rule (codes "history-bytes") 1048576 most_history (codes "268435456")

abbrev pub connections_rule : Rule
connections_rule = number_rule (codes "connections") 1 most_connections (codes "8192")

abbrev pub keepalive_rule : Rule
keepalive_rule = record (text_rule (codes "keepalive")) { defaults = codes "30" ∷ [] }

abbrev pub log_rule : Rule
log_rule = record (text_rule (codes "log")) { defaults = codes "denials" ∷ [] }

-- a number within bounds, without a default
abbrev pub stats_rule : Rule
stats_rule = record (text_rule (codes "stats")) { parser = Some (Unsigned 1 86400) }

abbrev pub stats_file_rule : Rule
stats_file_rule = text_rule (codes "stats-file")

abbrev pub serve_app : App
serve_app = with_rule (with_rule (with_rule (with_rule (with_rule (with_rule (with_rule (with_rule (with_rule (with_rule (with_rule (with_rule (new_app (codes "serve")) policy_rule) listen_rule) workers_rule) outbox_rule) history_rule) history_bytes_rule) connections_rule) keepalive_rule) (flag_rule (codes "tell-removed"))) log_rule) stats_rule) stats_file_rule

-- a command that is so, and has no option that those below it have too
abbrev pub IsLocalApp : App → Command → Type 0
IsLocalApp app command = (app_of command ≡ app) × ((out-Command command).has_globals ≡ false)

-- ---- what its options say

-- the word that was given for an option or for a place, or its default, or none
abbrev pub word_at : Text → List Row → Text
word_at id rows = unwrap_or (first_of id rows) []

-- whether an option without a value was given
abbrev pub is_set : Text → List Row → Bool
is_set id rows = bytes_eq (word_at id rows) (codes "true")

-- one of three words
abbrev pub log_named : Text → Option LogChoice
log_named word =
    if bytes_eq word (codes "none") then Some log_choice.None
    else if bytes_eq word (codes "denials") then Some log_choice.Denials
    else if bytes_eq word (codes "all") then Some log_choice.All
    else None

-- the seconds that a word is, if the system takes so many
abbrev pub IsSeconds : Text → Option ℕ → Type 0
IsSeconds word (Some n) = IsUnsignedIn 1 32767 word × (n ≡ digits_value 10 (without_leading_plus word))
IsSeconds word None = IsUnsignedIn 1 32767 word → ⊥

abbrev pub IsKeepaliveIf : Bool → Text → Option ℕ → Type 0
IsKeepaliveIf true word seconds = seconds ≡ Some 0
IsKeepaliveIf false word seconds = IsSeconds word seconds

-- how long a client may be silent: some seconds, or for ever by `off`, which counts as 0
abbrev pub IsKeepalive : Text → Option ℕ → Type 0
IsKeepalive word seconds = IsKeepaliveIf (bytes_eq word (codes "off")) word seconds

-- a number within the bounds: the one of the text, where that is one
pub record IsNumberIn (least most : ℕ) (text : Option Text) (n : ℕ) : Type 0 where
  pub at_least : least ≤ n
  pub at_most : n ≤ most
  pub read : (t : Text) → text ≡ Some t → IsUnsignedIn least most t → n ≡ digits_value 10 (without_leading_plus t)

-- so many seconds, 1 to 86,400: those of the text, where they are; or none, where none was given
abbrev pub IsPeriodIn : Option Text → Option ℕ → Type 0
IsPeriodIn None seconds = seconds ≡ None
IsPeriodIn (Some text) None = ⊥
IsPeriodIn (Some text) (Some n) = IsNumberIn 1 86400 (Some text) n

pub record IsOptions (rows : List Row) (o : ServeOptions) : Type 0 where
  pub policy : option_map string_bytes o.policy ≡ policy_file rows
  pub listen : string_bytes o.listen ≡ unwrap_or (first_of (codes "listen") rows) default_listen
  pub workers : IsNumberIn 1 64 (one_of (codes "workers") rows) o.workers
  pub outbox : IsNumberIn 1 65536 (one_of (codes "outbox") rows) o.outbox
  pub history : IsNumberIn 2 most_history (one_of (codes "history") rows) o.history
  pub history_bytes : IsNumberIn 1048576 most_history (one_of (codes "history-bytes") rows) o.history_bytes
  pub connections : IsNumberIn 1 most_connections (one_of (codes "connections") rows) o.connections
  pub keepalive : IsKeepalive (word_at (codes "keepalive") rows) (Some o.keepalive)
  pub tells_removed : o.tells_removed ≡ is_set (codes "tell-removed") rows
  pub log : log_named (word_at (codes "log") rows) ≡ Some o.log
  pub stats : IsPeriodIn (one_of (codes "stats") rows) o.stats
  pub stats_file : option_map string_bytes o.stats_file ≡ first_of (codes "stats-file") rows

-- what the words name that aren't any text or number
pub record AreChosen (rows : List Row) (c : Choices) : Type 0 where
  pub log : log_named (word_at (codes "log") rows) ≡ Some c.log
  pub keepalive : IsKeepalive (word_at (codes "keepalive") rows) (Some c.keepalive)

-- a server can be opened with these
pub record AreServable (o : ServeOptions) : Type 0 where
  pub worker : 1 ≤ o.workers
  pub workers : o.workers ≤ 64
  pub outbox : 1 ≤ o.outbox
  pub outboxes : o.outbox ≤ 65536
  pub history : 2 ≤ o.history
  pub history_byte : 1048576 ≤ o.history_bytes
  pub connection : 1 ≤ o.connections

-- no option was given
pub record AreDefaults (o : ServeOptions) : Type 0 where
  pub policy : option_map string_bytes o.policy ≡ None
  pub listen : string_bytes o.listen ≡ default_listen
  pub workers : o.workers ≡ 2
  pub outbox : o.outbox ≡ 1024
  pub history : o.history ≡ 1000000
  pub history_bytes : o.history_bytes ≡ 268435456
  pub connections : o.connections ≡ 8192
  pub keepalive : o.keepalive ≡ 30
  pub tells_removed : o.tells_removed ≡ false
  pub log : o.log ≡ log_choice.Denials
  pub stats : o.stats ≡ None
  pub stats_file : option_map string_bytes o.stats_file ≡ None
