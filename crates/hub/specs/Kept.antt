-- What always holds of the grants of a session (docs/GUARANTEE.md, "What always holds").
use Rattle.std.specs.Prelude.{◌≡◌, ◌==◌, ◌||◌, ◌≤◌, ℕ, Bool, true, false, List, Option, Some, None, length, nat_lt, All, AllPairs}
use Rattle.subjects.specs.Equal.{same_subject}
use Rattle.policy_doc.specs.declared.permission_doc.document.Terms.{Terms}
use Rattle.reply_grants.specs.Grants.{Grant}
use Rattle.reply_grants.specs.Replies.{Table, grants_of}

-- fewer responses than the terms allow have passed
abbrev pub is_open : Option ℕ → ℕ → Bool
is_open None count = true
is_open (Some max) count = nat_lt count max

-- the same, or none has passed yet
abbrev pub has_response_left : Option ℕ → ℕ → Bool
has_response_left max count = (count == 0) || is_open max count

-- the moments don't fall from the oldest to the youngest
abbrev pub IsAfter : Grant → Grant → Type 0
IsAfter g h = g.noted ≤ h.noted

abbrev pub AreApart : Grant → Grant → Type 0
AreApart g h = same_subject g.subject h.subject ≡ false

-- the grants of a user with these terms, at a kept moment
pub record AreKept (now : ℕ) (terms : Terms) (gs : List Grant) : Type 0 where
  pub few : length gs ≤ 1024
  pub apart : AllPairs AreApart gs
  pub rising : AllPairs IsAfter gs
  -- none is noted after the kept moment
  pub past : All (λ (g : Grant). g.noted ≤ now) gs
  -- each has a response left, or has had none
  pub unspent : All (λ (g : Grant). has_response_left terms.max g.count ≡ true) gs

-- who may not respond has no table
abbrev pub IsKeptTable : ℕ → Option Terms → Table → Type 0
IsKeptTable now None table = table ≡ None
IsKeptTable now (Some terms) table = AreKept now terms (grants_of table)
