-- The ids that a walk over the tree finds are those that the subject reaches.
use Rattle.std.proofs.Common.{◌≡◌, ◌==◌, ℕ, true, false, ◌||◌, List, [], ◌∷◌, ◌++◌, Option, Some, None, Box, refl, sym, ap, subst, ◌∙◌, inl, inr, arith, eqb, leb, length, IsTrue}
use Rattle.std.specs.List.{list_all, dedup}
use Rattle.std.specs.List.Sorted.{IsSorted, IsPermutation}
use Rattle.std.specs.Map.{lookup}
use Rattle.std.specs.Ordering.{nat_cmp}
use Rattle.std.specs.declared.alloc.Global.{Global}
use Rattle.std.proofs.lemmas.Bool.{cases_Bool, both_ways, false≢true, or_cases, or_left, or_right, and_parts}
use Rattle.std.proofs.lemmas.List.Folds.{list_any-append}
use Rattle.std.proofs.lemmas.List.Sorted.{list_any-IsPermutation}
use Rattle.std.proofs.lemmas.Map.Keys.{sorted_from_strictly_increasing, IsStrictlyIncreasing-dedup}
use Rattle.subjects.specs.Subject.{Token, is_star, is_tail, is_literal, same_token, in_set, is_subject}
use Rattle.subjects.proofs.Same.{same_token-itself, equal_from_same}
use Rattle.sublist.specs.declared.node.Node.{Node}
use Rattle.sublist.specs.declared.node.Node.TheViews.{out-Node}
use Rattle.sublist.specs.declared.tree.Sublist.{Sublist}
use Rattle.sublist.specs.Tree.{held, named, has, below, at_end, matched, ids_at, contains}
use Rattle.sublist.specs.Pairs.{IsMatching}
use Rattle.sublist.proofs.Levels.{ids_at-end, at_star, at_literal, at_tail_end, ids_at-more}
use Rattle.sublist.proofs.Rising.{contains-dedup}

matched-end : (n : Node) → matched [] n ≡ (held (out-Node n).ids)
unfolding matched
matched-end n = refl

matched-more : (t : Token) (ts : List Token) (n : Node) → matched (t ∷ ts) n ≡ (held (out-Node n).tail) ++ (below (matched ts) (out-Node n).star ++ below (matched ts) (lookup (has t) (named (out-Node n).children)))
unfolding matched
matched-more t ts n = refl

-- an id in one of three lists that stand one after the other
in_three : (xs ys zs : List ℕ) (i : ℕ) → contains (xs ++ (ys ++ zs)) i ≡ (contains xs i || (contains ys i || contains zs i))
in_three xs ys zs i = list_any-append (λ j. j == i) xs (ys ++ zs) ∙ ap (λ b. contains xs i || b) (list_any-append (λ j. j == i) ys zs)

-- a literal token is no wildcard
literal-parts : (t : Token) → is_literal t ≡ true → (is_tail t ≡ false) × (is_star t ≡ false)
literal-parts t l = elim (cases_Bool (is_tail t)) [
  | inl y ↦ absurd (both_ways (is_literal t) (grind (arith, y)) l)
  | inr n ↦ elim (cases_Bool (is_star t)) [
    | inl y ↦ absurd (both_ways (is_literal t) (grind (arith, y)) l)
    | inr m ↦ (n, m)
  ]
]

-- some pattern at whose path the id stands has the subject
abbrev pub Found : Node → List Token → ℕ → Type 0
Found n ts i = (p : List Token) × IsTrue (contains (ids_at p n) i) × IsTrue (in_set p ts)

-- each id that the walk finds stands at the path of a pattern that has the subject
sound : (ts : List Token) → list_all is_literal ts ≡ true → (n : Node) (i : ℕ) → contains (matched ts n) i ≡ true → Found n ts i
sound [] l n i h = ([], rw (ids_at-end n) (rw (matched-end n) at h), refl)
sound (t ∷ ts) l n i h =
    let parts = and_parts (is_literal t) (list_all is_literal ts) l in
    let plain = literal-parts t parts.0 in
    let found : (contains (held (out-Node n).tail) i || (contains (below (matched ts) (out-Node n).star) i || contains (below (matched ts) (lookup (has t) (named (out-Node n).children))) i)) ≡ true = sym (in_three (held (out-Node n).tail) (below (matched ts) (out-Node n).star) (below (matched ts) (lookup (has t) (named (out-Node n).children))) i) ∙ (rw (matched-more t ts n) at h) in
    elim (or_cases _ _ found) [
      | inl y ↦ ((62 ∷ []) ∷ [], rw (at_tail_end (62 ∷ []) n refl) y, refl)
      | inr z ↦ elim (or_cases _ _ z) [
        | inl y ↦ from_star (sound ts parts.1) (out-Node n).star refl y
        | inr y ↦ from_child (sound ts parts.1) plain (lookup (has t) (named (out-Node n).children)) refl y
      ]
    ]
  where
    from_star : ((m : Node) (i : ℕ) → contains (matched ts m) i ≡ true → Found m ts i) → (o : Option (Box Node Global)) → (out-Node n).star ≡ o → contains (below (matched ts) o) i ≡ true → Found n (t ∷ ts) i
    from_star again None e y = absurd (false≢true y)
    from_star again (Some b) e y =
        let f = again b.value i y in
        ((42 ∷ []) ∷ f.0, rw (at_star (42 ∷ []) f.0 n refl refl, e) f.1, f.2)

    from_child : ((m : Node) (i : ℕ) → contains (matched ts m) i ≡ true → Found m ts i) → (is_tail t ≡ false) × (is_star t ≡ false) → (o : Option (Box Node Global)) → lookup (has t) (named (out-Node n).children) ≡ o → contains (below (matched ts) o) i ≡ true → Found n (t ∷ ts) i
    from_child again plain None e y = absurd (false≢true y)
    from_child again plain (Some b) e y =
        let f = again b.value i y in
        (t ∷ f.0, rw (at_literal t f.0 n plain.0 plain.1, e) f.1, rw (plain.0, plain.1, same_token-itself t, f.2) refl)

-- each id at the path of a pattern that has the subject is found
complete : (p ts : List Token) (n : Node) (i : ℕ) → contains (ids_at p n) i ≡ true → in_set p ts ≡ true → contains (matched ts n) i ≡ true
complete [] [] n i h m = rw (matched-end n) (rw (ids_at-end n) at h)
complete [] (s ∷ ss) n i h m = absurd (false≢true m)
complete (p ∷ ps) [] n i h m = absurd (false≢true m)
complete (p ∷ ps) (s ∷ ss) n i h m = rw (matched-more s ss n, in_three (held (out-Node n).tail) (below (matched ss) (out-Node n).star) (below (matched ss) (lookup (has s) (named (out-Node n).children))) i)
    (elim (cases_Bool (is_tail p)) [
      | inl y ↦ at_tail ps y (rw (ids_at-more p ps n, y) at h)
      | inr t ↦ elim (cases_Bool (is_star p)) [
        | inl y ↦ or_right _ _ (or_left _ _ (from_star (complete ps ss) (out-Node n).star (rw (at_star p ps n t y) at h) (rw (t, y) at m)))
        | inr k ↦
            let both = and_parts (same_token p s) (in_set ps ss) (rw (t, k) at m) in
            or_right _ _ (or_right _ _ (from_child (complete ps ss) (lookup (has s) (named (out-Node n).children)) (subst (λ x. contains (below (ids_at ps) (lookup (has x) (named (out-Node n).children))) i ≡ true) (equal_from_same p s both.0) (rw (at_literal p ps n t k) at h)) both.1))
      ]
    ])
  where
    at_tail : (ps : List Token) → is_tail p ≡ true → contains (at_end ps (held (out-Node n).tail)) i ≡ true → (contains (held (out-Node n).tail) i || (contains (below (matched ss) (out-Node n).star) i || contains (below (matched ss) (lookup (has s) (named (out-Node n).children))) i)) ≡ true
    at_tail [] y g = or_left _ _ g
    at_tail (u ∷ us) y g = absurd (false≢true g)

    from_star : ((m : Node) (i : ℕ) → contains (ids_at ps m) i ≡ true → in_set ps ss ≡ true → contains (matched ss m) i ≡ true) → (o : Option (Box Node Global)) → contains (below (ids_at ps) o) i ≡ true → in_set ps ss ≡ true → contains (below (matched ss) o) i ≡ true
    from_star again None g m = absurd (false≢true g)
    from_star again (Some b) g m = again b.value i g m

    from_child : ((m : Node) (i : ℕ) → contains (ids_at ps m) i ≡ true → in_set ps ss ≡ true → contains (matched ss m) i ≡ true) → (o : Option (Box Node Global)) → contains (below (ids_at ps) o) i ≡ true → in_set ps ss ≡ true → contains (below (matched ss) o) i ≡ true
    from_child again None g m = absurd (false≢true g)
    from_child again (Some b) g m = again b.value i g m

subject_literals : (ts : List Token) → is_subject ts ≡ true → list_all is_literal ts ≡ true
subject_literals [] h = refl
subject_literals (t ∷ ts) h = (and_parts (list_all is_literal (t ∷ ts)) (leb (length (t ∷ ts)) 512) h).0

-- what the walk finds, sorted and with each id once
pub matches_exactly : (tree : Sublist) (s : List Token) → is_subject s ≡ true → (sorted : List ℕ) → IsPermutation (matched s tree.root) sorted → IsSorted nat_cmp sorted → IsMatching tree s (dedup eqb sorted)
matches_exactly tree s subject sorted moved order = record {
  ascending = sorted_from_strictly_increasing _ (IsStrictlyIncreasing-dedup sorted order);
  each = λ i.
      let same : contains (dedup eqb sorted) i ≡ contains (matched s tree.root) i = contains-dedup sorted i ∙ sym (list_any-IsPermutation (λ j. j == i) _ _ moved) in
      ((λ h. sound s (subject_literals s subject) tree.root i (sym same ∙ h)), (λ r. same ∙ complete r.0 s tree.root i r.1 r.2));
}
