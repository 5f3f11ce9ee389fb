-- those that are copied, and those that are left
use Rattle.std.proofs.Common.{◌≡◌, ◌++◌, length}
use Rattle.reply_grants.specs.Window.{window}
use Rattle.reply_grants.proofs.plain.plain_grants.Given as goal

abbrev pub invariant-loop-place : goal.invariant-loop-place
invariant-loop-place l = record {
  whole : l.all.items ++ window l.place l.table.entries ≡ window l.gone l.table.entries;
  end : l.place-end ≡ length l.table.entries;
}
