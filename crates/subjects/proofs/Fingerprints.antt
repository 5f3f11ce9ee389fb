-- Whoever covers a pattern has no hash, or one of the pattern's.
use Rattle.std.proofs.Common.{◌≡◌, ◌∙◌, ◌==◌, ◌&&◌, ◌||◌, ◌⊎◌, inl, inr, ℕ, Bool, true, false, true≢false, not, List, [], ◌∷◌, ap, sym, refl}
use Rattle.std.proofs.lemmas.Bool.{cases_Bool, and_parts, eq-eqb}
use Rattle.std.proofs.lemmas.Slice.Eq.{bytes_eq-Decides}
use Rattle.subjects.specs.Subject.{Token, is_star, is_tail, is_wildcard, same_token, covers}
use Rattle.subjects.specs.declared.fingerprint.Fingerprint.{Fingerprint}
use Rattle.subjects.specs.Fingerprint.{IsFingerprintOf, hash_of, joined, front_of, with_second, whole_of}

-- a first that is no wildcard and covers another is the same, and the rest is covered
first_case : (q p : Token) (qs ps : List Token) → covers (q ∷ qs) (p ∷ ps) ≡ true → is_wildcard q ≡ false → (q ≡ p) × (covers qs ps ≡ true)
first_case q p qs ps all name = by (is_star q) (is_tail q) refl refl
  where
    by : (s t : Bool) → is_star q ≡ s → is_tail q ≡ t → (q ≡ p) × (covers qs ps ≡ true)
    by true t es et = let e : true ≡ false = rw es at name in absurd (cc)
    by false true es et = let e : true ≡ false = rw (es, et) at name in absurd (cc)
    by false false es et =
        let rest : (not (is_tail p) && (is_star q || same_token q p) && covers qs ps) ≡ true = rw et at all in
        let parts = and_parts (not (is_tail p) && (is_star q || same_token q p)) (covers qs ps) rest in
        let either : (is_star q || same_token q p) ≡ true = (and_parts (not (is_tail p)) (is_star q || same_token q p) parts.0).1 in
        let same : same_token q p ≡ true = rw es at either in
        ((bytes_eq-Decides q p).0 same, parts.1)

-- the second tokens
second : (n : ℕ) (qs ps : List Token) → covers qs ps ≡ true → (with_second n qs ≡ n) ⊎ (with_second n qs ≡ with_second n ps)
second n [] ps all = inl refl
second n (q ∷ qs) [] all = absurd (cc)
second n (q ∷ qs) (p ∷ ps) all = elim (cases_Bool (is_wildcard q)) [
  | inl y ↦ inl (rw y refl)
  | inr m ↦
      let same : q ≡ p = (first_case q p qs ps all m).0 in
      let name : is_wildcard p ≡ false = ap is_wildcard (sym same) ∙ m in
      inr (rw (m, name) (ap (λ t. joined n (hash_of t)) same))
]

-- whoever covers a pattern has no hash, or one of the pattern's
pub covers-hash : (q p : List Token) → covers q p ≡ true → (whole_of q ≡ 0) ⊎ (whole_of q ≡ front_of p) ⊎ (whole_of q ≡ whole_of p)
covers-hash [] p all = inl refl
covers-hash (q ∷ qs) [] all = absurd (cc)
covers-hash (q ∷ qs) (p ∷ ps) all = elim (cases_Bool (is_wildcard q)) [
  | inl y ↦ inl (rw y refl)
  | inr m ↦
      let parts = first_case q p qs ps all m in
      let name : is_wildcard p ≡ false = ap is_wildcard (sym parts.0) ∙ m in
      let own : whole_of (q ∷ qs) ≡ with_second (hash_of q) qs = rw m refl in
      let hash : hash_of q ≡ hash_of p = ap hash_of parts.0 in
      elim (second (hash_of q) qs ps parts.1) [
        | inl e ↦ inr (inl (own ∙ e ∙ hash ∙ rw name refl))
        | inr e ↦ inr (inr (own ∙ e ∙ ap (λ n. with_second n ps) hash ∙ rw name refl))
      ]
]

none_of : (a b c : Bool) → (a || b || c) ≡ false → (a ≡ false) × (b ≡ false) × (c ≡ false)
none_of true b c e = absurd (cc)
none_of false true c e = absurd (cc)
none_of false false true e = absurd (cc)
none_of false false false e = (refl, refl, refl)

-- whose hash is none of these doesn't cover it
pub misses : (m n : Fingerprint) (q p : List Token) → (m.whole == 0 || m.whole == n.whole || m.whole == n.front) ≡ false → IsFingerprintOf q m → IsFingerprintOf p n → covers q p ≡ false
misses m n q p out first other = by (covers q p) refl
  where
    by : (b : Bool) → covers q p ≡ b → covers q p ≡ false
    by false e = e
    by true e =
        let parts = none_of (m.whole == 0) (m.whole == n.whole) (m.whole == n.front) out in
        elim (covers-hash q p e) [
          | inl none ↦ absurd (true≢false (sym (eq-eqb m.whole 0 (first.whole ∙ none)) ∙ parts.0))
          | inr (inl same) ↦ absurd (true≢false (sym (eq-eqb m.whole n.front (first.whole ∙ same ∙ sym other.front)) ∙ parts.2))
          | inr (inr same) ↦ absurd (true≢false (sym (eq-eqb m.whole n.whole (first.whole ∙ same ∙ sym other.whole)) ∙ parts.1))
        ]
