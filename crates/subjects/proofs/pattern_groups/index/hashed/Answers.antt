use Rattle.std.proofs.Common.{◌≡◌, ◌∙◌, ◌+◌, ◌++◌, ◌∷◌, [], List, ℕ, ap, sym, subst, map, take}
use Rattle.std.proofs.lemmas.List.{map_more}
use Rattle.subjects.specs.Subject.{Token}
use Rattle.subjects.specs.pattern_groups.Places.{AreHashed}
use Rattle.subjects.proofs.pattern_groups.Hashed.{none_hashed, one_hashed}
use Rattle.subjects.proofs.pattern_groups.index.hashed.Goals as goal

pub loop-pattern-init : goal.loop-pattern-init
loop-pattern-init c =
    subst (λ (ns : List ℕ). AreHashed [] ns c.in_ok-choices.choices.items) (sym c.in_ok-hashes.ensures.items)
    (subst (λ (ms : List ℕ). AreHashed [] [] ms) (sym c.in_ok-choices.ensures.items) none_hashed)

pub loop-pattern-preserved : goal.loop-pattern-preserved
loop-pattern-preserved c =
    let i = c.loop-pattern.pattern-index in
    let pattern = c.pattern-item.result in
    let places = c.places_of-places.result in
    let before : List (List Token) = map (λ p. p.now) (take i c.args.patterns.now) in
    let after : map (λ p. p.now) (take (i + 1) c.args.patterns.now) ≡ before ++ pattern.now ∷ [] =
    map_more (λ p. p.now) c.args.patterns.now i pattern c.loop-pattern-test.true ∙ ap (λ p. before ++ p.now ∷ []) (sym c.pattern-item.is) in
    subst (λ (ps : List (List Token)). AreHashed ps c.push-in-loop-pattern.new.self.items c.push.new.self.items) (sym after)
    (subst (λ (ns : List ℕ). AreHashed (before ++ pattern.now ∷ []) ns c.push.new.self.items) (sym c.in_ok-push-2.ensures.items)
    (subst (λ (ms : List ℕ). AreHashed (before ++ pattern.now ∷ []) (c.loop-pattern.hashes.items ++ c.hash_of.result ∷ []) ms) (sym c.in_ok-push.ensures.items)
    (one_hashed before c.loop-pattern.hashes.items c.loop-pattern.choices.items pattern.now places c.hash_of.result c.loop-pattern.invariant c.places_of-places.ensures c.hash_of.ensures)))
