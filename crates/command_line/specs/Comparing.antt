-- What `natsd compare` is asked (docs/POLICY.md, "Comparing two policies"), in the words of clap's contracts.
use Rattle.std.specs.Prelude.{◌≡◌, List, codes, string_bytes}
use Rattle.clap.specs.Words.{App, Row, new_app, with_rule}
use Rattle.command_line.specs.Options.{flag_rule, is_set, word_at}
use Rattle.command_line.specs.Question.{wanted_rule}
use Rattle.command_line.specs.declared.comparing.CompareOptions.{CompareOptions}

-- two policies, and how a line is written
abbrev pub compare_app : App
compare_app =
    with_rule (with_rule (with_rule (new_app (codes "compare")) (wanted_rule (codes "old"))) (wanted_rule (codes "new"))) (flag_rule (codes "json"))

-- the policies that the words name
pub record AreCompared (rows : List Row) (o : CompareOptions) : Type 0 where
  pub old : string_bytes o.old ≡ word_at (codes "old") rows
  pub new : string_bytes o.new ≡ word_at (codes "new") rows
  pub json : o.json ≡ is_set (codes "json") rows
