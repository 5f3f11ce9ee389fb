use Rattle.std.proofs.Common.{◌≡◌, ◌∙◌, ◌++◌, List, ap, map, subst}
use Rattle.compare.proofs.Lines.{users_told}
use Rattle.compare.specs.Members.{user_of}
use Rattle.compare.specs.Users.{all_new, all_old, told_of, Told}
use Rattle.compare.specs.declared.change.UserChange.{UserChange}
use Rattle.compare.specs.declared.members.Member.{Member}
use Rattle.compare.proofs.users.users_between.Goals as goal

pub returns : goal.returns
returns c = λ was is of_was of_is.
    let olds = map user_of c.args.old.now.by_account.items in
    let news = map user_of c.args.new.now.by_account.items in
    let before = map told_of c.add_olds.new.told.items in
    let after = map told_of c.add_news.new.told.items in
    let none : before ≡ all_old is (map user_of c.as_slice-olds.result.now) =
    c.in_ok-add_olds.ensures is of_is ∙ ap (λ (l : List UserChange). map told_of l ++ all_old is (map user_of c.as_slice-olds.result.now)) c.new-told.ensures.items in
    let gone : before ≡ all_old is olds = subst (λ (ms : List Member). before ≡ all_old is (map user_of ms)) c.as_slice-olds.ensures.value none in
    let come : after ≡ before ++ all_new was news = subst (λ (ms : List Member). after ≡ before ++ all_new was (map user_of ms)) c.as_slice-news.ensures.value (c.in_ok-add_news.ensures was of_was) in
    users_told was is olds news c.add_news.new.told.items _ of_was.all of_is.all (come ∙ ap (λ (l : List Told). l ++ all_new was news) gone) c.sort_unstable_by.ensures.permutation
