use Rattle.compare.proofs.Lines.{lists_told}
use Rattle.compare.proofs.changes.changes_of.Goals as goal

pub returns : goal.returns
returns c = record {
  users = c.in_ok-users.ensures c.args.old.now c.args.new.now c.in_ok-was.ensures c.in_ok-now.ensures;
  lists = lists_told c.args.old.now c.args.new.now _ c.in_ok-lists.lists.items c.in_ok-now.ensures.all c.in_ok-lists.ensures;
}
