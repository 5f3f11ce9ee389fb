-- The queue names of members, each once.
use Rattle.std.proofs.Common.{◌≡◌, ◌∙◌, ◌||◌, ℕ, Bool, true, false, not, cond, filter, List, [], ◌∷◌, ◌++◌, refl, sym, ap, subst, inl, inr}
use Rattle.std.specs.List.{list_any}
use Rattle.std.specs.Prelude.{⊤}
use Rattle.std.proofs.lemmas.List.{append-nil}
use Rattle.std.proofs.lemmas.Bool.{cases_Bool, both_ways, false≢true}
use Rattle.std.proofs.lemmas.List.Elements.{filter-append}
use Rattle.std.proofs.lemmas.Slice.Eq.{bytes_eq-Decides}
use Rattle.world_subscriptions.specs.declared.queue_choice.choice.Member.{Member}
use Rattle.world_subscriptions.specs.queue_choice.Choices.{name_of, names_of, same_name, group}

pub same-itself : (n : List ℕ) → same_name n n ≡ true
same-itself n = (bytes_eq-Decides n n).1 refl

pub same-is : (n k : List ℕ) → same_name n k ≡ true → n ≡ k
same-is n k = (bytes_eq-Decides n k).0

-- two names are told apart in either order
pub same-turned : (n k : List ℕ) → same_name n k ≡ false → same_name k n ≡ false
same-turned n k h = elim (cases_Bool (same_name k n)) [
  | inl y ↦ absurd (both_ways (same_name n k) h (subst (λ x. same_name n x ≡ true) (sym (same-is k n y)) (same-itself n)))
  | inr e ↦ e
]

-- the names but for one
abbrev pub others : List ℕ → List (List ℕ) → List (List ℕ)
others n ns = filter (λ x. not (same_name n x)) ns

-- a name more, where it isn't there yet
abbrev pub added : Bool → List (List ℕ) → List ℕ → List (List ℕ)
added there ns k = cond there ns (ns ++ k ∷ [])

-- another name is there without one of them where it was there with it
pub any-others : (n k : List ℕ) (ns : List (List ℕ)) → same_name k n ≡ false → list_any (same_name k) (others n ns) ≡ list_any (same_name k) ns
any-others n k [] apart = refl
any-others n k (x ∷ ns) apart = elim (cases_Bool (same_name n x)) [
  | inl y ↦ rw y (any-others n k ns apart ∙ sym (ap (λ b. b || list_any (same_name k) ns) (subst (λ z. same_name k z ≡ false) (same-is n x y) apart)))
  | inr e ↦ rw e (ap (λ b. same_name k x || b) (any-others n k ns apart))
]

-- a name isn't there without itself
pub none-others : (n : List ℕ) (ns : List (List ℕ)) → list_any (same_name n) (others n ns) ≡ false
none-others n [] = refl
none-others n (x ∷ ns) = elim (cases_Bool (same_name n x)) [
  | inl y ↦ rw y (none-others n ns)
  | inr e ↦ rw e (rw e (none-others n ns))
]

-- a name that is left out may be added before or not at all
others-same : (n k : List ℕ) (there : Bool) (ns : List (List ℕ)) → same_name n k ≡ true → others n (added there ns k) ≡ others n ns
others-same n k true ns y = refl
others-same n k false ns y = filter-append (λ x. not (same_name n x)) ns (k ∷ []) ∙ rw y (append-nil (others n ns))

others-apart : (n k : List ℕ) (there : Bool) (ns : List (List ℕ)) → same_name n k ≡ false → others n (added there ns k) ≡ added there (others n ns) k
others-apart n k true ns e = refl
others-apart n k false ns e = filter-append (λ x. not (same_name n x)) ns (k ∷ []) ∙ rw e refl

-- the names of one member more
pub names-more : (ms : List Member) (m : Member) → names_of (ms ++ m ∷ []) ≡ added (list_any (same_name (name_of m)) (names_of ms)) (names_of ms) (name_of m)
names-more [] m = refl
names-more (d ∷ ms) m =
    let k = name_of m in
    let n = name_of d in
    let ns = names_of ms in
    ap (λ xs. n ∷ others n xs) (names-more ms m) ∙ elim (cases_Bool (same_name k n)) [
      | inl y ↦ rw y (ap (λ xs. n ∷ xs) (others-same n k (list_any (same_name k) ns) ns (subst (λ x. same_name n x ≡ true) (sym (same-is k n y)) (same-itself n))))
      | inr e ↦ rw e (ap (λ xs. n ∷ xs) (others-apart n k (list_any (same_name k) ns) ns (same-turned k n e)) ∙ before n k ns (list_any (same_name k) ns) (list_any (same_name k) (others n ns)) (sym (any-others n k ns e)))
    ]
  where
    before : (n k : List ℕ) (ns : List (List ℕ)) (b c : Bool) → b ≡ c → n ∷ added b (others n ns) k ≡ added c (n ∷ others n ns) k
    before n k ns true c h = subst (λ c. n ∷ others n ns ≡ added c (n ∷ others n ns) k) h refl
    before n k ns false c h = subst (λ c. n ∷ others n ns ++ k ∷ [] ≡ added c (n ∷ others n ns) k) h refl

-- no name stands twice
abbrev pub Once : List (List ℕ) → Type 0
Once [] = ⊤
Once (n ∷ ns) = (list_any (same_name n) ns ≡ false) × Once ns

once-others : (n : List ℕ) (ns : List (List ℕ)) → Once ns → Once (others n ns)
once-others n [] h = h
once-others n (x ∷ ns) h = elim (cases_Bool (same_name n x)) [
  | inl y ↦ rw y (once-others n ns h.1)
  | inr e ↦ rw e (any-others n x ns (same-turned n x e) ∙ h.0, once-others n ns h.1)
]

pub once-names : (ms : List Member) → Once (names_of ms)
once-names [] = tt
once-names (m ∷ ms) = (none-others (name_of m) (names_of ms), once-others (name_of m) (names_of ms) (once-names ms))

-- the names are those of the members
pub any-names : (k : List ℕ) (ms : List Member) → list_any (same_name k) (names_of ms) ≡ list_any (λ m. same_name k (name_of m)) ms
any-names k [] = refl
any-names k (m ∷ ms) = elim (cases_Bool (same_name k (name_of m))) [
  | inl y ↦ rw y refl
  | inr e ↦ rw e (any-others (name_of m) k (names_of ms) e ∙ any-names k ms)
]

-- a name that nobody has has no group
pub nobody : (k : List ℕ) (ms : List Member) → list_any (λ m. same_name k (name_of m)) ms ≡ false → group k ms ≡ []
nobody k [] h = refl
nobody k (m ∷ ms) h = elim (cases_Bool (same_name k (name_of m))) [
  | inl y ↦ absurd (false≢true (sym h ∙ ap (λ b. b || list_any (λ x. same_name k (name_of x)) ms) y))
  | inr e ↦ rw e (nobody k ms (rw e at h))
]
