-- those before the place stay, and those from there on that are live: they are those that are live of all
use Rattle.std.proofs.Common.{◌≡◌, ◌≤◌, length, filter}
use Rattle.indexmap.specs.IndexMap.{spare}
use Rattle.reply_grants.specs.Grants.{is_live}
use Rattle.reply_grants.specs.Window.{so_far, window}
use Rattle.reply_grants.proofs.grant_table.drop_dead.Given as goal

abbrev pub invariant-loop-place : goal.invariant-loop-place
invariant-loop-place l = record {
  stay : so_far (is_live l.now l.terms) l.dropped l.place l.table.entries ≡ filter (is_live l.now l.terms) (window l.gone l.initial.table.entries);
  from : l.gone ≤ l.dropped;
  dropped : l.dropped ≤ l.place;
  upto : l.place ≤ l.place-end;
  end : l.place-end ≡ length l.initial.table.entries;
  held : length l.table.entries ≡ length l.initial.table.entries;
  free : spare l.table ≡ spare l.initial.table;
}
