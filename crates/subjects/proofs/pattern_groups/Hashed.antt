-- How an index hashes its patterns.
use Rattle.std.proofs.Common.{◌≡◌, ◌∙◌, ◌<◌, ◌+◌, ◌++◌, ◌∷◌, ◌⊎◌, inl, inr, ℕ, Bool, true, false, List, [], length, ap, sym, subst, refl, slice_index_or, arith}
use Rattle.std.specs.Prelude.{Contains, nat_lt}
use Rattle.std.proofs.lemmas.Bool.Decides.{nat_tests}
use Rattle.std.proofs.lemmas.List.{get_or_append_left, get_or_push, length_push, get_or_default}
use Rattle.subjects.specs.Subject.{Token}
use Rattle.subjects.specs.pattern_groups.Links.{at, IsBest, IsLeastWith, IsLeastBelow}
use Rattle.subjects.specs.pattern_groups.Places.{AreLiteral, AreHashed, IsIndexOf, IsHashed, IsOneOf, pattern_at, hash_at}

pub none_hashed : AreHashed [] [] []
none_hashed = record {
  as_many = refl;
  one_each = refl;
  literal = λ j below. absurd (omega (arith, below));
  hash = λ j below. absurd (omega (arith, below));
}

-- one pattern more
pub one_hashed : (patterns : List (List Token)) (hashes choices : List ℕ) (pattern : List Token) (places hash : ℕ) →
    AreHashed patterns hashes choices → AreLiteral places pattern → hash ≡ hash_at places pattern →
    AreHashed (patterns ++ pattern ∷ []) (hashes ++ hash ∷ []) (choices ++ places ∷ [])
one_hashed patterns hashes choices pattern places hash so_far literal is = record {
  as_many = omega (arith, so_far.as_many, length_push patterns pattern, length_push hashes hash);
  one_each = omega (arith, so_far.one_each, length_push patterns pattern, length_push choices places);
  literal = λ j below. at_place j below (λ p n m. AreLiteral m p) (so_far.literal j) literal;
  hash = λ j below. at_place j below (λ p n m. n ≡ hash_at m p) (so_far.hash j) is;
}
  where
    at_place : (j : ℕ) → j < length (patterns ++ pattern ∷ []) → (Holds : List Token → ℕ → ℕ → Type 0) →
        (j < length patterns → Holds (pattern_at patterns j) (at hashes j) (at choices j)) → Holds pattern hash places →
        Holds (pattern_at (patterns ++ pattern ∷ []) j) (at (hashes ++ hash ∷ []) j) (at (choices ++ places ∷ []) j)
    at_place j below Holds before here = by (nat_lt j (length patterns)) refl
      where
        by : (b : Bool) → nat_lt j (length patterns) ≡ b → Holds (pattern_at (patterns ++ pattern ∷ []) j) (at (hashes ++ hash ∷ []) j) (at (choices ++ places ∷ []) j)
        by true e =
            let inside : j < length patterns = grind (arith, nat_tests, e) in
            let in_hashes : j < length hashes = omega (arith, inside, so_far.as_many) in
            let in_choices : j < length choices = omega (arith, inside, so_far.one_each) in
            subst (λ p. Holds p (at (hashes ++ hash ∷ []) j) (at (choices ++ places ∷ []) j)) (sym (get_or_append_left patterns (pattern ∷ []) [] j inside))
            (subst (λ n. Holds (pattern_at patterns j) n (at (choices ++ places ∷ []) j)) (sym (get_or_append_left hashes (hash ∷ []) 0 j in_hashes))
            (subst (λ m. Holds (pattern_at patterns j) (at hashes j) m) (sym (get_or_append_left choices (places ∷ []) 0 j in_choices)) (before inside)))
        by false e =
            let last : length patterns ≡ j = grind (arith, nat_tests, e, below, length_push patterns pattern) in
            subst (λ p. Holds p (at (hashes ++ hash ∷ []) j) (at (choices ++ places ∷ []) j)) (sym (get_or_push patterns pattern [] j last))
            (subst (λ n. Holds pattern n (at (choices ++ places ∷ []) j)) (sym (get_or_push hashes hash 0 j (so_far.as_many ∙ last)))
            (subst (λ m. Holds pattern hash m) (sym (get_or_push choices places 0 j (so_far.one_each ∙ last))) here))

-- the choices may be brought into another order, and each kept once
pub hashed_by : (patterns : List (List Token)) (hashes choices kept : List ℕ) → AreHashed patterns hashes choices →
    ((places : ℕ) → Contains choices places → Contains kept places) → IsIndexOf patterns (record { hashes = hashes; choices = kept })
hashed_by patterns hashes choices kept are keeps = record {
  as_many = are.as_many;
  each = λ j below. record {
    places = at choices j;
    chosen = keeps (at choices j) (j, omega (arith, below, are.one_each), get_or_default choices j (at choices j) 0 (omega (arith, below, are.one_each)));
    literal = are.literal j below;
    hash_is = are.hash j below;
  };
}
