-- What a server has counted, in Prometheus's text format (Prometheus documentation, "Exposition formats", "Metric and label naming").
use Rattle.std.specs.Prelude.{ℕ, ◌++◌, ◌∷◌, ◌==◌, [], List, codes, decimal, flat_map, if◌then◌else◌}
use Rattle.server_stats.specs.declared.counts.Account.{Account}
use Rattle.server_stats.specs.declared.counts.AccountCounts.{AccountCounts}
use Rattle.server_stats.specs.declared.texts.report.Report.{Report}
use Rattle.server_stats.specs.declared.texts.metric.Metric.{Metric}
use Rattle.server_stats.specs.declared.texts.metric.Metric.TheVariants.{Connections, Held, WaitingBytes, HistoryEntries, HistoryBytes, Rotations, Epoch, Sessions, Subscriptions, Waiting, Received, Sent, Slow}

-- ---- the metrics

abbrev pub name_of : Metric → List ℕ
name_of Connections = codes "natsd_connections"
name_of Held = codes "natsd_held_publishers"
name_of WaitingBytes = codes "natsd_waiting_bytes"
name_of HistoryEntries = codes "natsd_history_entries"
name_of HistoryBytes = codes "natsd_history_bytes"
name_of Rotations = codes "natsd_history_rotations_total"
name_of Epoch = codes "natsd_policy_epoch"
name_of Sessions = codes "natsd_sessions"
name_of Subscriptions = codes "natsd_subscriptions"
name_of Waiting = codes "natsd_waiting_messages"
name_of Received = codes "natsd_received_messages_total"
name_of Sent = codes "natsd_sent_messages_total"
name_of Slow = codes "natsd_slow_consumers_total"

abbrev pub help_of : Metric → List ℕ
help_of Connections = codes "Open sockets of clients."
help_of Held = codes "Publishers that wait for a full receiver."
help_of WaitingBytes = codes "Bytes that wait for clients, about."
help_of HistoryEntries = codes "Entries that the history holds."
help_of HistoryBytes = codes "Bytes that these entries keep, about."
help_of Rotations = codes "How often the history was rotated."
help_of Epoch = codes "Which policy is in force, counted from 1."
help_of Sessions = codes "Connected clients of an account."
help_of Subscriptions = codes "Subscriptions of an account's clients."
help_of Waiting = codes "Messages that wait for an account's clients."
help_of Received = codes "Messages accepted from an account's clients."
help_of Sent = codes "Messages handed to an account's clients."
help_of Slow = codes "Clients of an account that were closed for being slow."

-- a counter only rises
abbrev pub kind_of : Metric → List ℕ
kind_of Rotations = codes "counter"
kind_of Received = codes "counter"
kind_of Sent = codes "counter"
kind_of Slow = codes "counter"
kind_of _ = codes "gauge"

-- its number of an account
abbrev pub number_of : Metric → AccountCounts → ℕ
number_of Sessions c = c.sessions
number_of Subscriptions c = c.subscriptions
number_of Waiting c = c.waiting
number_of Received c = c.received
number_of Sent c = c.sent
number_of Slow c = c.slow
number_of _ c = 0

-- ---- lines

abbrev pub header : Metric → List ℕ
header m =
    codes "# HELP " ++ name_of m ++ codes " " ++ help_of m ++ codes "\n# TYPE " ++ name_of m ++ codes " " ++ kind_of m ++ codes "\n"

abbrev pub sample : Metric → ℕ → List ℕ
sample m n = name_of m ++ codes " " ++ decimal n ++ codes "\n"

-- a backslash, a quote and a line feed are escaped in a label's value
abbrev pub escaped_byte : ℕ → List ℕ
escaped_byte byte =
    if byte == 92 then codes "\\\\"
    else if byte == 34 then codes "\\\""
    else if byte == 10 then codes "\\n"
    else byte ∷ []

abbrev pub escaped : List ℕ → List ℕ
escaped value = flat_map escaped_byte value

abbrev pub sample_of : Metric → Account → List ℕ
sample_of m a = name_of m ++ codes "{account=\"" ++ escaped a.name ++ codes "\"}" ++ codes " " ++ decimal (number_of m a.counts) ++ codes "\n"

abbrev pub samples : Metric → List Account → List ℕ
samples m all = flat_map (sample_of m) all

-- ---- the text

unfoldable pub single : Metric → ℕ → List ℕ
single m n = header m ++ sample m n

unfoldable pub family : Metric → List Account → List ℕ
family m all = header m ++ samples m all

abbrev pub own_metrics : Report → List ℕ
own_metrics r =
    single Connections r.connections ++ single Held r.others.held ++ single WaitingBytes r.others.bytes ++ single HistoryEntries r.hub.entries
    ++ single HistoryBytes r.history_bytes ++ single Rotations r.rotations ++ single Epoch r.hub.epoch

abbrev pub account_metrics : List Account → List ℕ
account_metrics all =
    family Sessions all ++ family Subscriptions all ++ family Waiting all ++ family Received all ++ family Sent all ++ family Slow all

abbrev pub metrics_of : Report → List ℕ
metrics_of r = own_metrics r ++ account_metrics r.accounts.now
