-- the set of the account at the place is put in exactly where that is its own first one
use Rattle.std.proofs.Common.{◌≡◌, ◌∙◌, ◌==◌, ◌++◌, ◌∷◌, [], Bool, true, false, cond, List, ap, sym, arith}
use Rattle.std.specs.List.{slice_index}
use Rattle.std.proofs.lemmas.Bool.Decides.{nat_tests}
use Rattle.std.proofs.lemmas.List.{append-nil}
use Rattle.policy_doc.specs.Accounts.{Name}
use Rattle.policy_sets.specs.Sets.{first_of, names_of, set_of}
use Rattle.policy_sets.specs.Firsts.{name_at}
use Rattle.policy_sets.proofs.Places.{sets_more}
use Rattle.policy_sets.proofs.sets.sets_by.Goals.{then-firsts-place+in_ok-set_of+in_ok-push, else-firsts-place}
use Rattle.policy_sets.proofs.sets.sets_by.Goals as goal

pub loop-place-preserved : goal.loop-place-preserved
loop-place-preserved c =
    let accounts = c.args.accounts.now in
    let place = c.loop-place.place in
    let before : List (List Name) = c.loop-place.sets.items in
    let one : List (List Name) = set_of (first_of accounts) (names_of accounts) (name_at (names_of accounts) place) ∷ [] in
    let step = sets_more accounts (first_of accounts) c.args.firsts.now place c.requires.order c.requires.firsts c.loop-place-test.true in
    let more = ap (λ (l : List (List Name)). l ++ cond (slice_index c.args.firsts.now place == place) one []) c.loop-place.invariant ∙ sym step in
    elim c.if-firsts-place.branch [
      | then-firsts-place+in_ok-set_of+in_ok-push w ↦
          let test : (slice_index c.args.firsts.now place == place) ≡ true = grind (arith, nat_tests, w.if-firsts-place.true) in
          ap (λ v. v.items) w.sets-is ∙ w.in_ok-push.ensures.items ∙ ap (λ (n : List Name). before ++ n ∷ []) w.in_ok-set_of.ensures
          ∙ sym (ap (λ (b : Bool). before ++ cond b one []) test) ∙ more
      | else-firsts-place w ↦
          let test : (slice_index c.args.firsts.now place == place) ≡ false = grind (arith, nat_tests, w.if-firsts-place.false) in
          ap (λ v. v.items) w.sets-is ∙ sym (append-nil before) ∙ sym (ap (λ (b : Bool). before ++ cond b one []) test) ∙ more
    ]
