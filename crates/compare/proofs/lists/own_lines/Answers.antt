use Rattle.std.proofs.Common.{subst, sym}
use Rattle.compare.specs.Members.{user_of}
use Rattle.compare.specs.Users.{AreBetween}
use Rattle.compare.proofs.lists.own_lines.Goals as goal

pub lines_by-requires : goal.lines_by-requires
lines_by-requires c = subst (AreBetween (user_of c.args.pair.now.old.1).rules (user_of c.args.pair.now.new.1).rules) (sym c.as_slice.ensures.value) c.in_ok-found.ensures
