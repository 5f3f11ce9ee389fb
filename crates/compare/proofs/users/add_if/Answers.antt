use Rattle.std.proofs.Common.{◌∙◌, ap, map}
use Rattle.std.proofs.lemmas.List.{map_push}
use Rattle.compare.proofs.Lines.{if_not, if_so}
use Rattle.compare.specs.Users.{told_of}
use Rattle.compare.proofs.users.add_if.Goals as goal

pub returns-then-is_so : goal.returns-then-is_so
returns-then-is_so c =
    let before = c.args.told.now.items in
    ap (map told_of) c.in_ok-push.ensures.items ∙ map_push told_of before c.args.change ∙ if_so (map told_of before) c.args.is_so (told_of c.args.change) c.if-is_so.true

pub returns : goal.returns
returns c = if_not (map told_of c.args.told.now.items) c.args.is_so (told_of c.args.change) c.if-is_so.false
