-- What was found, or that nothing is.
use Rattle.std.proofs.Common.{◌≡◌, ◌∙◌, ◌<◌, ◌+◌, ℕ, Bool, true, false, List, length, Option, Some, None, ap, refl, sym, subst}
use Rattle.std.specs.Prelude.{is_some, IfSome}
use Rattle.std.specs.Option.{option_map}
use Rattle.subjects.specs.Subject.{Token, is_token, tokens_of}
use Rattle.pattern_sets.specs.Asking.{AllAlike, IsExact, IsFoundAt, Judging}
use Rattle.pattern_sets.specs.Judging.{IsFound}
use Rattle.pattern_sets.specs.declared.search.Asked.{Asked}
use Rattle.pattern_sets.specs.declared.search.Search.{Search}

pub both : (b : Bool) → b ≡ true → b ≡ false → ⊥
both b e f = let bad : true ≡ false = sym e ∙ f in cc

-- what is found is judged to differ
pub is_found : (differs : Judging) (fresh : Token) (n : ℕ) (found : Option Asked) → IfSome found (IsFoundAt differs fresh n) → IsFound differs found
is_found differs fresh n None h = tt
is_found differs fresh n (Some asked) h = h.judged

-- what is found first has the fewest tokens
pub is_first : (differs : Judging) (search : Search) (has_tail : Bool) (before : ℕ) (found : Option Asked) → is_some found ≡ true → before < search.most →
    IfSome found (IsFoundAt differs search.token.now (before + 1)) → ((n : ℕ) → n < before → AllAlike differs search has_tail (n + 1)) → IsExact differs search has_tail found
is_first differs search has_tail before None e less h alike = absurd (both false e refl)
is_first differs search has_tail before (Some asked) e less h alike = record { before = before; is_asked = less; found = h; fewest = alike }

-- a queue that is found is a question's
pub with_some : (differs : Judging) (t : List Token) (queue : Option (List Token)) (found : Option (Option (List Token))) → found ≡ option_map (λ q. Some q) queue →
    IfSome queue (λ q. differs t (Some q) ≡ true) → IfSome found (λ q. differs t q ≡ true)
with_some differs t None found e h = subst (λ (o : Option (Option (List Token))). IfSome o (λ q. differs t q ≡ true)) (sym e) tt
with_some differs t (Some q) found e h = subst (λ (o : Option (Option (List Token))). IfSome o (λ p. differs t p ≡ true)) (sym e) h

pub with_none : (queue : Option (List Token)) (found : Option (Option (List Token))) → found ≡ option_map (λ q. Some q) queue → is_some found ≡ false → is_some queue ≡ false
with_none None found e h = refl
with_none (Some q) found e h = let bad : true ≡ false = sym (ap is_some e) ∙ h in absurd (both false (sym bad) refl)

-- the question of a text and a queue that were judged so
pub asked_by : (differs : Judging) (fresh : Token) (n : ℕ) (bytes text : List ℕ) (queue : Option (Option (List Token))) (found : Option Asked) → bytes ≡ text →
    IfSome queue (λ q. differs (tokens_of bytes) q ≡ true) → IfSome found (λ (asked : Asked). (queue ≡ Some asked.queue) × (asked.subject.items ≡ text)) →
    (is_token fresh ≡ true → 0 < n → length (tokens_of text) ≡ n) → IfSome found (IsFoundAt differs fresh n)
asked_by differs fresh n bytes text queue None e judged is long = tt
asked_by differs fresh n bytes text queue (Some asked) e judged is long =
    let here = subst (λ (o : Option (Option (List Token))). IfSome o (λ q. differs (tokens_of bytes) q ≡ true)) is.0 judged in
    let same : bytes ≡ asked.subject.items = e ∙ sym is.1 in
    record {
      judged = subst (λ (t : List ℕ). differs (tokens_of t) asked.queue ≡ true) same here;
      length_is = λ token some. ap (λ (t : List ℕ). length (tokens_of t)) is.1 ∙ long token some;
    }
