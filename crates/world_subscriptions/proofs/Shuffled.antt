-- Two lists of entries that have the same value under each key, whose keys differ, have the same values in some order.
use Rattle.std.proofs.Common.{◌≡◌, ℕ, Bool, true, false, cond, List, [], ◌∷◌, Some, None, sym, ap, subst, ◌∙◌, inl, inr, nat_eq}
use Rattle.std.specs.List.{AllByRecursion, IsDistinct}
use Rattle.std.specs.List.Sorted.{IsPermutation}
use Rattle.std.specs.Map.{lookup, keys_of, values_of, remove_entry}
use Rattle.std.specs.Cmp.Lexicographic.{pointwise}
use Rattle.std.proofs.lemmas.Bool.{cases_Bool}
use Rattle.std.proofs.lemmas.Cmp.{nat_list_eq_equiv}
use Rattle.std.proofs.lemmas.List.Sorted.{IsPermutation-refl, IsPermutation-sym, IsPermutation-trans, IsPermutation-cons, IsPermutation-middle}
use Rattle.std.proofs.lemmas.Map.{lookup-remove_entry}

-- entries under texts
abbrev pub Named : Type 0
Named = List (List ℕ × ℕ)

abbrev pub same : List ℕ → List ℕ → Bool
same = pointwise nat_eq

all_without : (P : List ℕ → Type 0) (test : List ℕ → Bool) (es : Named) → AllByRecursion P (keys_of es) → AllByRecursion P (keys_of (remove_entry test es))
all_without P test [] h = tt
all_without P test (e ∷ es) h = elim (cases_Bool (test e.0)) [
  | inl y ↦ rw y h.1
  | inr n ↦ rw n (h.0, all_without P test es h.1)
]

distinct_without : (test : List ℕ → Bool) (es : Named) → IsDistinct same (keys_of es) → IsDistinct same (keys_of (remove_entry test es))
unfolding IsDistinct
distinct_without test [] d = tt
distinct_without test (e ∷ es) d = elim (cases_Bool (test e.0)) [
  | inl y ↦ rw y d.1
  | inr n ↦ rw n (all_without (λ y. same e.0 y ≡ false) test es d.0, distinct_without test es d.1)
]

-- the value under a key, and the others
pulled : (key : List ℕ) (v : ℕ) (es : Named) → lookup (same key) es ≡ Some v → IsPermutation (values_of es) (v ∷ values_of (remove_entry (same key) es))
pulled key v [] h = absurd (cc)
pulled key v (e ∷ es) h = elim (cases_Bool (same key e.0)) [
  | inl y ↦
      let here : Some e.1 ≡ Some v = rw y at h in
      let value : e.1 ≡ v = cc in
      rw y (subst (λ n. IsPermutation (e.1 ∷ values_of es) (n ∷ values_of es)) value (IsPermutation-refl (e.1 ∷ values_of es)))
  | inr n ↦
      let more = values_of (remove_entry (same key) es) in
      rw n (IsPermutation-trans (e.1 ∷ values_of es) (e.1 ∷ v ∷ more) (v ∷ e.1 ∷ more) (IsPermutation-cons e.1 (values_of es) (v ∷ more) (pulled key v es (rw n at h)))
      (IsPermutation-middle (e.1 ∷ []) v more))
]

pub shuffled : (es fs : Named) → IsDistinct same (keys_of es) → IsDistinct same (keys_of fs) → ((key : List ℕ) → lookup (same key) es ≡ lookup (same key) fs) → IsPermutation (values_of es) (values_of fs)
unfolding IsDistinct
shuffled [] [] c d h = IsPermutation-refl []
shuffled [] (f ∷ fs) c d h = let it : None ≡ Some f.1 = rw (nat_list_eq_equiv.refl f.0) at (h f.0) in absurd (cc)
shuffled (e ∷ es) fs c d h =
    let key = e.0 in
    let itself : same key key ≡ true = nat_list_eq_equiv.refl key in
    let first : lookup (same key) fs ≡ Some e.1 = sym (h key) ∙ ap (λ b. cond b (Some e.1) (lookup (same key) es)) itself in
    let gone : remove_entry (same key) (e ∷ es) ≡ es = ap (λ b. cond b es (e ∷ remove_entry (same key) es)) itself in
    let others = shuffled es (remove_entry (same key) fs) c.1 (distinct_without (same key) fs d)
    (λ k. ap (λ (xs : Named). lookup (same k) xs) (sym gone) ∙ lookup-remove_entry nat_list_eq_equiv (same key) (nat_list_eq_equiv.congr key) k (e ∷ es) c
    ∙ ap (λ o. cond (same key k) None o) (h k) ∙ sym (lookup-remove_entry nat_list_eq_equiv (same key) (nat_list_eq_equiv.congr key) k fs d)) in
    IsPermutation-trans (e.1 ∷ values_of es) (e.1 ∷ values_of (remove_entry (same key) fs)) (values_of fs) (IsPermutation-cons e.1 _ _ others)
    (IsPermutation-sym (values_of fs) (e.1 ∷ values_of (remove_entry (same key) fs)) (pulled key e.1 fs first))
