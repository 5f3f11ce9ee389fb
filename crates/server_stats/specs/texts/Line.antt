-- The line that tells what a server has counted (docs/OPERATING.md, "Numbers").
use Rattle.std.specs.Prelude.{◌≡◌, ℕ, ◌++◌, ◌∷◌, [], List, codes, decimal, flat_map}
use Rattle.std.specs.Str.Lossy.{utf8_lossy}
use Rattle.json.specs.Token.{Token, begin_object, end_object, begin_array, end_array, key, string, number}
use Rattle.json.specs.Print.{print}
use Rattle.json.specs.Written.{Written}
use Rattle.server_stats.specs.declared.counts.Account.{Account}
use Rattle.server_stats.specs.declared.texts.report.Report.{Report}

-- ---- members: a name with a text or a number

-- what isn't UTF-8 is replaced by U+FFFD
abbrev pub text : List ℕ → List ℕ → List Token
text name bytes = key name ∷ string (utf8_lossy bytes) ∷ []

abbrev pub count : List ℕ → ℕ → List Token
count name n = key name ∷ number (decimal n) ∷ []

-- ---- an account

abbrev pub account_members : Account → List Token
account_members a =
    text (codes "account") a.name ++ count (codes "sessions") a.counts.sessions ++ count (codes "subscriptions") a.counts.subscriptions
    ++ count (codes "waiting") a.counts.waiting ++ count (codes "received") a.counts.received ++ count (codes "sent") a.counts.sent
    ++ count (codes "slow_consumers") a.counts.slow

abbrev pub account_object : Account → List Token
account_object a = begin_object ∷ account_members a ++ end_object ∷ []

abbrev pub account_objects : List Account → List Token
account_objects all = flat_map account_object all

-- ---- the line: one JSON object, and LF

abbrev pub totals_of : Report → List Token
totals_of r =
    count (codes "at") r.at ++ text (codes "event") (codes "stats") ++ text (codes "level") (codes "info") ++ count (codes "connections") r.connections ++ count (codes "held") r.others.held
    ++ count (codes "waiting_bytes") r.others.bytes ++ count (codes "history_entries") r.hub.entries ++ count (codes "history_bytes") r.history_bytes
    ++ count (codes "rotations") r.rotations ++ count (codes "epoch") r.hub.epoch

abbrev pub members_of : Report → List Token
members_of r = totals_of r ++ key (codes "accounts") ∷ begin_array ∷ account_objects r.accounts.now ++ end_array ∷ []

abbrev pub line_of : Report → List ℕ
line_of r = print (begin_object ∷ members_of r ++ end_object ∷ []) ++ codes "\n"

-- so many tokens were written behind those that were
pub record IsWritten (old new : Written) (tokens : List Token) : Type 0 where
  pub before : new.before ≡ old.before
  pub written : new.tokens ≡ old.tokens ++ tokens
