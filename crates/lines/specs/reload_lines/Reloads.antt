-- What a reload prints (docs/SCRIPT.md, "A reload").
use Rattle.std.specs.Prelude.{◌++◌, ℕ, List, [], codes, decimal}
use Rattle.std.specs.List.{flat_map}
use Rattle.permissions.specs.declared.verdict.Verdict.{Verdict}
use Rattle.permissions.specs.declared.verdict.Verdict.TheVariants.{Allowed, DeniedBy, NoAllow, NoQueueAllow}
use Rattle.events.specs.declared.answer.Entry.{Entry}
use Rattle.events.specs.declared.answer.Outcome.{Outcome}
use Rattle.events.specs.declared.answer.Outcome.TheVariants.{Reloaded}
use Rattle.events.specs.declared.answer.Removed.{Removed}
use Rattle.lines.specs.reload_lines.Shown.{shown_byte}

-- the line of the epoch that has begun
abbrev pub epoch_line : ℕ → List ℕ
epoch_line epoch = codes "epoch " ++ decimal epoch ++ codes "\n"

-- the line of a connection whose session is gone
abbrev pub gone_line : ℕ → List ℕ
gone_line conn = codes "gone " ++ decimal conn ++ codes "\n"

-- why a subscription is refused: a deny entry by its index, no allow entry, or no allow entry for its queue, by the index
-- of the least that covers its pattern. What is allowed has no words here.
abbrev pub refusal_words : Verdict → List ℕ
refusal_words (DeniedBy i) = codes "denied " ++ decimal i
refusal_words NoAllow = codes "no allow"
refusal_words (NoQueueAllow i) = codes "no queue allow " ++ decimal i
refusal_words (Allowed by) = []

-- the line of a subscription that is removed
abbrev pub removed_line : Removed → List ℕ
removed_line r =
    codes "removed " ++ decimal r.conn ++ codes " " ++ flat_map shown_byte r.sid ++ codes " " ++ refusal_words r.verdict ++ codes "\n"

-- the lines of a reload, by its entry. No other entry has lines.
abbrev pub reload_lines : ℕ → Outcome → List ℕ
reload_lines epoch (Reloaded gone removed) = epoch_line epoch ++ flat_map gone_line gone ++ flat_map removed_line removed
reload_lines epoch _ = []

abbrev pub reload_text : Entry → List ℕ
reload_text entry = reload_lines entry.epoch entry.outcome
