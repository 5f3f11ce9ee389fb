-- The marks of subscriptions that stand are no more than these.
use Rattle.std.proofs.Common.{◌≡◌, ◌∙◌, ◌∷◌, ◌||◌, ◌+◌, ◌≤◌, ℕ, Bool, true, false, cond, not, List, [], filter, length, nat_eq, sym, subst, ap, refl, arith}
use Rattle.std.specs.List.{AllByRecursion, IsDistinct}
use Rattle.std.specs.Map.{keys_of}
use Rattle.std.proofs.lemmas.Bool.{eqb-true}
use Rattle.std.proofs.lemmas.List.Elements.{filter_passes, recursion_from_All}
use Rattle.std.proofs.lemmas.List.Sums.{count_by-le-length, length-filter}
use Rattle.std.proofs.lemmas.Map.Keys.{IsDistinct-head, IsDistinct-tail}
use Rattle.permissions.specs.deny_marks.Table.{is_among}
use Rattle.permissions.specs.declared.deny_marks.marks.Marks.{Marks}

-- the ids but one
abbrev without : ℕ → List ℕ → List ℕ
without id ids = filter (λ (x : ℕ). not (nat_eq id x)) ids

-- are fewer, if it was among them
fewer : (id : ℕ) (ids : List ℕ) → is_among ids id ≡ true → length (without id ids) + 1 ≤ length ids
fewer id [] is = absurd (cc)
fewer id (x ∷ ids) is = by (nat_eq id x) is (fewer id ids)
  where
    few : length (without id ids) ≤ length ids
    few = subst (λ n. n ≤ length ids) (sym (length-filter (λ (x : ℕ). not (nat_eq id x)) ids)) (count_by-le-length (λ (x : ℕ). not (nat_eq id x)) ids)

    by : (b : Bool) → (b || is_among ids id) ≡ true → (is_among ids id ≡ true → length (without id ids) + 1 ≤ length ids) → length {A = ℕ} (cond (not b) (x ∷ without id ids) (without id ids)) + 1 ≤ length (x ∷ ids)
    by true among later = omega (arith, few)
    by false among later = omega (arith, later among)

-- and another is still among them
still : (id other : ℕ) (ids : List ℕ) → nat_eq id other ≡ false → is_among ids other ≡ true → is_among (without id ids) other ≡ true
still id other [] apart is = is
still id other (x ∷ ids) apart is = by (nat_eq id x) (nat_eq other x) refl refl is (still id other ids apart)
  where
    by : (gone same : Bool) → nat_eq id x ≡ gone → nat_eq other x ≡ same → (same || is_among ids other) ≡ true → (is_among ids other ≡ true → is_among (without id ids) other ≡ true)
        → is_among (cond (not gone) (x ∷ without id ids) (without id ids)) other ≡ true
    by true true here own among later =
        let same : id ≡ other = eqb-true id x here ∙ sym (eqb-true other x own) in
        let equal : nat_eq id other ≡ true = ap (nat_eq id) (eqb-true other x own) ∙ here in
        absurd (cc)
    by true false here own among later = later among
    by false true here own among later = ap (λ b. b || is_among (without id ids) other) own
    by false false here own among later = ap (λ b. b || is_among (without id ids) other) own ∙ later among

abbrev AreAmong : List ℕ → List (ℕ × Marks) → Type 0
AreAmong ids es = AllByRecursion (λ (e : ℕ × Marks). is_among ids e.0 ≡ true) es

each_still : (id : ℕ) (ids : List ℕ) (es : List (ℕ × Marks)) → AllByRecursion (λ k. nat_eq id k ≡ false) (keys_of es) → AreAmong ids es → AreAmong (without id ids) es
each_still id ids [] apart are = tt
each_still id ids (e ∷ es) apart are = (still id e.0 ids apart.0 are.0, each_still id ids es apart.1 are.1)

-- each entry has another of the ids
few : (ids : List ℕ) (es : List (ℕ × Marks)) → IsDistinct nat_eq (keys_of es) → AreAmong ids es → length es ≤ length ids
few ids [] apart are = omega arith
few ids (e ∷ es) apart are =
    let less : length (without e.0 ids) + 1 ≤ length ids = fewer e.0 ids are.0 in
    let rest : length es ≤ length (without e.0 ids) =
    few (without e.0 ids) es (IsDistinct-tail nat_eq e.0 (keys_of es) apart) (each_still e.0 ids es (IsDistinct-head nat_eq e.0 (keys_of es) apart) are.1) in
    omega (arith, less, rest)

pub few_kept : (ids : List ℕ) (es kept : List (ℕ × Marks)) → kept ≡ filter (λ (e : ℕ × Marks). is_among ids e.0) es → IsDistinct nat_eq (keys_of kept) → length kept ≤ length ids
few_kept ids es kept same apart =
    let passes : (e : ℕ × Marks) → Bool = λ e. is_among ids e.0 in
    let all : AreAmong ids (filter passes es) = recursion_from_All (λ (e : ℕ × Marks). passes e ≡ true) (filter passes es) (filter_passes passes es) in
    few ids kept apart (subst (AreAmong ids) (sym same) all)
