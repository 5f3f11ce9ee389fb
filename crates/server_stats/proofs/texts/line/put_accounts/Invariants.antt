use Rattle.std.proofs.Common.{◌≡◌, ◌++◌, drop}
use Rattle.std.specs.Prelude.{flat_map}
use Rattle.server_stats.specs.texts.Line.{account_object}
use Rattle.server_stats.proofs.texts.line.put_accounts.Given as goal

-- the tokens so far and those of what is left are those of all
abbrev pub invariant-loop-account : goal.invariant-loop-account
invariant-loop-account l = record {
  before : l.out.before ≡ l.fn.out.before;
  written : l.out.tokens ++ flat_map account_object (drop l.account-index l.accounts) ≡ l.fn.out.tokens ++ flat_map account_object l.accounts;
}
