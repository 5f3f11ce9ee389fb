use Rattle.std.proofs.Common.{◌∙◌, ◌++◌, ◌∷◌, [], List, ap, map, subst, sym, take}
use Rattle.std.specs.Prelude.{All}
use Rattle.std.proofs.lemmas.List.{map_more, map_push}
use Rattle.std.proofs.lemmas.List.Elements.{All-get_or, All-push}
use Rattle.message_changes.specs.Judging.{IsChange}
use Rattle.message_changes.specs.declared.changes.MessageChange.{MessageChange}
use Rattle.compare.proofs.Lines.{asked}
use Rattle.compare.specs.Members.{user_of}
use Rattle.compare.specs.Users.{line_by, line_of, IsLine, Line}
use Rattle.compare.proofs.lists.lines_of.Goals as goal

pub line_of-requires : goal.line_of-requires
line_of-requires c =
    let was = (user_of c.args.pair.now.old.1).rules in
    let is = (user_of c.args.pair.now.new.1).rules in
    let change = All-get_or (IsChange was is) c.args.found.now c.loop-change.change-index c.change-item.result c.loop-change-test.true c.requires in
    asked was is c.change-item.result (subst (IsChange was is) (sym c.change-item.is) change)

pub loop-change-preserved : goal.loop-change-preserved
loop-change-preserved c =
    let i = c.loop-change.change-index in
    let is = IsLine (user_of c.args.pair.now.old.1) (user_of c.args.pair.now.new.1) in (
      ap (map line_of) c.in_ok-push.ensures.items ∙ map_push line_of c.loop-change.lines.items c.in_ok-line.line
          ∙ ap (λ (l : List Line). l ++ (line_of c.in_ok-line.line ∷ [])) c.loop-change.invariant.0
          ∙ ap (λ (x : Line). map line_by (take i c.args.found.now) ++ (x ∷ [])) c.in_ok-line.ensures.same
          ∙ ap (λ (x : MessageChange). map line_by (take i c.args.found.now) ++ (line_by x ∷ [])) c.change-item.is
          ∙ sym (map_more line_by c.args.found.now i c.change-item.result c.loop-change-test.true),
      subst (All is) (sym c.in_ok-push.ensures.items) (All-push is c.loop-change.lines.items c.in_ok-line.line c.loop-change.invariant.1 c.in_ok-line.ensures.verdicts),
    )
