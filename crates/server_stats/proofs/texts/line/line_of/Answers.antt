-- the object's members, between its brackets
use Rattle.std.proofs.Common.{rules}
use Rattle.server_stats.specs.texts.Line.{members_of}
use Rattle.server_stats.proofs.texts.Written.{object_line}
use Rattle.server_stats.proofs.texts.line.line_of.Goals as goal

pub returns : goal.returns
returns c =
    object_line c.new-out.result c.begin_object.new.self c.put_members.new.out c.end_object.new.self (members_of c.args.report.now)
    c.into_inner-line.result.items c.push.new.self.items (search rules) (search rules) (search rules) (search rules)
    c.in_ok-put_members.ensures (search rules) (search rules) (search rules) (search rules)
