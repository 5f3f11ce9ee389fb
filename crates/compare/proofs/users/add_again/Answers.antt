-- where it has moved, and where it has another password
use Rattle.std.proofs.Common.{◌≡◌, ◌∙◌, ◌++◌, List, ap, ap₂, append_assoc, map, not}
use Rattle.std.specs.Str.{bytes_eq}
use Rattle.compare.specs.Members.{user_of}
use Rattle.compare.specs.Users.{moves, renewed, told_if, told_of, Told}
use Rattle.compare.proofs.users.add_again.Goals as goal

pub returns : goal.returns
returns c =
    let u = user_of c.args.old.now in
    let v = user_of c.args.new.now in
    let before : List Told = map told_of c.args.told.now.items in
    let moved : List Told = told_if (not (bytes_eq u.account v.account)) (u.account, u.user, moves v.account) in
    let another : List Told = told_if (not (bytes_eq u.password v.password)) (v.account, v.user, renewed) in
    let first : told_if c.ne-has_moved.result (told_of c.told_as.result) ≡ moved =
    ap₂ told_if c.ne-has_moved.ensures (c.told_as.ensures ∙ ap (λ (a : List _). (u.account, u.user, moves a)) c.as_slice.ensures) in
    let second : told_if c.ne-has_another.result (told_of c.told_as-2.result) ≡ another = ap₂ told_if c.ne-has_another.ensures c.told_as-2.ensures in
    c.in_ok-add_if-2.ensures ∙ ap₂ (λ (l m : List Told). l ++ m) (c.in_ok-add_if.ensures ∙ ap (λ (m : List Told). before ++ m) first) second ∙ append_assoc before moved another
