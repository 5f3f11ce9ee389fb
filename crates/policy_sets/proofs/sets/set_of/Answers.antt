-- the account at the place is put in exactly where its first one is the one that is asked for
use Rattle.std.proofs.Common.{◌≡◌, ◌∙◌, ◌==◌, ◌++◌, ◌∷◌, [], Bool, true, false, cond, List, ap, sym, arith}
use Rattle.std.specs.List.{slice_index, slice_index_or}
use Rattle.std.proofs.lemmas.Bool.Decides.{nat_tests}
use Rattle.std.proofs.lemmas.List.{append-nil}
use Rattle.policy_doc.specs.Accounts.{Name}
use Rattle.policy_doc.specs.declared.document.NamedAccount.{NamedAccount}
use Rattle.policy_sets.specs.Sets.{first_of}
use Rattle.policy_sets.proofs.Places.{set_more}
use Rattle.policy_sets.proofs.sets.set_of.Goals.{then-firsts-place+in_ok-clone+in_ok-push, else-firsts-place}
use Rattle.policy_sets.proofs.sets.set_of.Goals as goal

pub loop-place-preserved : goal.loop-place-preserved
loop-place-preserved c =
    let accounts = c.args.accounts.now in
    let place = c.loop-place.place in
    let a = c.index-accounts-place.result in
    let before : List Name = c.loop-place.names.items in
    let one : List Name = (slice_index_or accounts place a).name ∷ [] in
    let step = set_more accounts (first_of accounts) c.args.firsts.now c.args.first place a c.requires.order c.requires.firsts c.requires.first c.loop-place-test.true in
    let more = ap (λ (l : List Name). l ++ cond (slice_index c.args.firsts.now place == c.args.first) one []) c.loop-place.invariant ∙ sym step in
    elim c.if-firsts-place.branch [
      | then-firsts-place+in_ok-clone+in_ok-push w ↦
          let test : (slice_index c.args.firsts.now place == c.args.first) ≡ true = grind (arith, nat_tests, w.if-firsts-place.true) in
          let item : w.in_ok-clone.field-0 ≡ (slice_index_or accounts place a).name = w.in_ok-clone.ensures.cases ∙ ap (λ (b : NamedAccount). b.name) c.index-accounts-place.is in
          ap (λ v. v.items) w.names-is ∙ w.in_ok-push.ensures.items ∙ ap (λ (n : Name). before ++ n ∷ []) item
          ∙ sym (ap (λ (b : Bool). before ++ cond b one []) test) ∙ more
      | else-firsts-place w ↦
          let test : (slice_index c.args.firsts.now place == c.args.first) ≡ false = grind (arith, nat_tests, w.if-firsts-place.false) in
          ap (λ v. v.items) w.names-is ∙ sym (append-nil before) ∙ sym (ap (λ (b : Bool). before ++ cond b one []) test) ∙ more
    ]
