use Rattle.std.proofs.Common.{◌≡◌, ◌∙◌, ◌+◌, ◌<◌, ◌++◌, ◌∷◌, [], ℕ, List, length, ap, sym, subst, true, true≢false, arith}
use Rattle.std.proofs.lemmas.Bool.Decides.{nat_tests}
use Rattle.std.proofs.lemmas.List.{get_or_default}
use Rattle.std.proofs.lemmas.List.Elements.{All-push, Contains-append_left, Contains-push}
use Rattle.subjects.specs.pattern_groups.Links.{at, row_of, Finds, IsFound, IsNext}
use Rattle.subjects.proofs.pattern_groups.Found.{walk_on}
use Rattle.subjects.proofs.pattern_groups.links.Links.add_with.Goals as goal
use Rattle.subjects.proofs.pattern_groups.links.Links.add_with.Goals.{then-hashes-at+then-passes+in_ok-push, else-hashes-at, else-hashes-at-via-then-hashes-at+else-passes, else-hashes-at-via-else-hashes-at}

pub loop-at-preserved : goal.loop-at-preserved
loop-at-preserved g c =
    let passes = g.P.Patterns.passes c.args.patterns.now in
    let hashes : List ℕ = c.args.hashes.now in
    let rows = length c.args.self.now.first.items in
    let place = c.loop-at.at in
    let old : List ℕ = c.args.found.now.items in
    let new : List ℕ = c.loop-at.found.items in
    let next = c.index-in-loop-at.result.now in
    let inside : place < length hashes = c.loop-at-test.true in
    let within : place < length c.args.self.now.next.items = omega (arith, inside, c.requires.links.one_each) in
    let value : next ≡ at c.args.self.now.next.items place = c.index-in-loop-at.ensures ∙ get_or_default c.args.self.now.next.items place next 0 within in
    let row : row_of (at hashes place) rows ≡ row_of c.args.hash rows = c.loop-at.invariant.0 inside in
    let following : IsNext hashes rows (place + 1) (row_of (at hashes place) rows) next =
    subst (IsNext hashes rows (place + 1) (row_of (at hashes place) rows)) (sym value) (c.requires.links.nexts place (omega arith) inside) in (
      (λ below. following.within below ∙ row),
      elim c.if-hashes-at.branch [
        | then-hashes-at+then-passes+in_ok-push w ↦
            let passing : passes place ≡ true = sym w.passes.ensures ∙ w.if-passes.true in
            subst (λ (l : List ℕ). Finds passes hashes c.args.hash next old l) (sym (ap (λ v. v.items) w.found-is ∙ w.in_ok-push.ensures.items))
            (walk_on passes hashes rows c.args.hash place next old new (new ++ place ∷ []) c.loop-at.invariant.1 following row inside
            (λ j has. Contains-append_left new (place ∷ []) j has)
            (λ all. All-push (IsFound passes (length hashes)) new place all (inside, passing))
            (λ e pass. Contains-push new place))
        | else-hashes-at w ↦
            subst (λ (l : List ℕ). Finds passes hashes c.args.hash next old l) (sym (ap (λ v. v.items) w.found-is))
            (walk_on passes hashes rows c.args.hash place next old new new c.loop-at.invariant.1 following row inside
            (λ j has. has)
            (λ all. all)
            (λ e pass. elim w.else-hashes-at.branch [
              | else-hashes-at-via-then-hashes-at+else-passes v ↦ absurd (true≢false (sym pass ∙ sym v.passes.ensures ∙ v.if-passes.false))
              | else-hashes-at-via-else-hashes-at v ↦ absurd (grind (arith, nat_tests, e, v.if-hashes-at.false))
            ]))
      ],
    )
