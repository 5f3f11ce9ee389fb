-- Whatever a pattern has, or covers, has the hash of the pattern's literal tokens.
use Rattle.std.proofs.Common.{◌≡◌, ◌∙◌, ◌==◌, ◌&&◌, ◌||◌, ◌<◌, ◌+◌, ◌-◌, ◌*◌, ◌/◌, ◌%◌, ◌^◌, inl, inr, ℕ, zero, suc, Bool, true, false, true≢false, not, List, [], ◌∷◌, length, ap, sym, subst, refl, arith}
use Rattle.std.specs.Prelude.{if◌then◌else◌}
use Rattle.std.proofs.Math.Nat.{pow-suc}
use Rattle.std.proofs.lemmas.Bool.{and_parts}
use Rattle.std.proofs.lemmas.Bool.Decides.{nat_tests}
use Rattle.std.proofs.lemmas.Slice.Eq.{bytes_eq-Decides}
use Rattle.subjects.specs.Subject.{Token, is_star, is_tail, same_token, in_set, covers, tokens_of}
use Rattle.subjects.specs.Fingerprint.{hash_from}
use Rattle.subjects.specs.pattern_groups.Hashes.{IsPast}
use Rattle.subjects.specs.pattern_groups.Places.{AreLiteral, hash_at, hash_with}

-- ---- places

pub none : (ts : List Token) → AreLiteral 0 ts
none [] = refl
none (t ∷ ts) = inl refl

pub one_more : (rest : ℕ) (t : Token) (ts : List Token) → is_tail t ≡ false → is_star t ≡ false → AreLiteral rest ts → AreLiteral (2 * rest + 1) (t ∷ ts)
one_more rest t ts tail star literal =
    let half : rest ≡ (2 * rest + 1) / 2 = omega arith in
    inr (tail, (λ _. star), subst (λ places. AreLiteral places ts) half literal)

pub one_past : (rest : ℕ) (t : Token) (ts : List Token) → is_tail t ≡ false → AreLiteral rest ts → AreLiteral (2 * rest) (t ∷ ts)
one_past rest t ts tail literal =
    let half : rest ≡ (2 * rest) / 2 = omega arith in
    inr (tail, (λ odd. absurd (omega (arith, odd))), subst (λ places. AreLiteral places ts) half literal)

-- twice a number of so many bits has one bit more
pub twice : (rest most : ℕ) → (most ≡ 0 → ⊥) → rest < 2 ^ (most - 1) → 2 * rest + 1 < 2 ^ most
twice rest zero some below = absurd (some refl)
twice rest (suc most) some below =
    let one : suc most - 1 ≡ most = omega arith in
    let within : rest < 2 ^ most = subst (λ n. rest < 2 ^ n) one below in
    omega (arith, within, pow-suc 2 most)

-- ---- the hash of a text

pub nothing : (n : ℕ) (ts : List Token) → hash_with 0 n ts ≡ n
nothing n [] = refl
nothing n (t ∷ ts) = nothing n ts

-- past one token
pub past_one : (places n : ℕ) (text : List ℕ) (m : ℕ) (behind : List Token) → IsPast n text m behind →
    hash_with (places / 2) (if places % 2 == 1 then m else n) behind ≡ hash_with places n (tokens_of text)
past_one places n text m behind past =
    ap (λ k. hash_with (places / 2) (if places % 2 == 1 then k else n) behind) past.2 ∙ ap (hash_with places n) (sym past.1)

-- ---- what a pattern has

-- one token more: it is the same, or isn't counted
one_token : (places n : ℕ) (q s : Token) (qs ss : List Token) → (is_star q || same_token q s) ≡ true → (places % 2 ≡ 1 → is_star q ≡ false) →
    ((m : ℕ) → hash_with (places / 2) m qs ≡ hash_with (places / 2) m ss) → hash_with places n (q ∷ qs) ≡ hash_with places n (s ∷ ss)
one_token places n q s qs ss takes literal rest = by (places % 2 == 1) refl
  where
    same : is_star q ≡ false → q ≡ s
    same name = let it : same_token q s ≡ true = rw name at takes in (bytes_eq-Decides q s).0 it

    by : (odd : Bool) → (places % 2 == 1) ≡ odd → hash_with places n (q ∷ qs) ≡ hash_with places n (s ∷ ss)
    by true e =
        let is : q ≡ s = same (literal (grind (arith, nat_tests, e))) in
        rest (if places % 2 == 1 then hash_from n q else n)
        ∙ ap (λ t. hash_with (places / 2) (if places % 2 == 1 then hash_from n t else n) ss) is
    by false e = rw e (rest n)

no_places : (places n : ℕ) (qs ss : List Token) → places ≡ 0 → hash_with places n qs ≡ hash_with places n ss
no_places places n qs ss is =
    ap (λ p. hash_with p n qs) is ∙ nothing n qs ∙ sym (ap (λ p. hash_with p n ss) is ∙ nothing n ss)

held : (places n : ℕ) (q s : List Token) → AreLiteral places q → in_set q s ≡ true → hash_with places n q ≡ hash_with places n s
held places n [] s is has = no_places places n [] s is
held places n (q ∷ qs) [] literal has = absurd (cc)
held places n (q ∷ qs) (s ∷ ss) (inl is) has = no_places places n (q ∷ qs) (s ∷ ss) is
held places n (q ∷ qs) (s ∷ ss) (inr literal) has =
    let both : ((is_star q || same_token q s) && in_set qs ss) ≡ true = rw literal.0 at has in
    let parts = and_parts (is_star q || same_token q s) (in_set qs ss) both in
    one_token places n q s qs ss parts.0 literal.1 (λ m. held (places / 2) m qs ss literal.2 parts.1)

covered : (places n : ℕ) (q p : List Token) → AreLiteral places q → covers q p ≡ true → hash_with places n q ≡ hash_with places n p
covered places n [] p is has = no_places places n [] p is
covered places n (q ∷ qs) [] literal has = absurd (cc)
covered places n (q ∷ qs) (p ∷ ps) (inl is) has = no_places places n (q ∷ qs) (p ∷ ps) is
covered places n (q ∷ qs) (p ∷ ps) (inr literal) has =
    let all : (not (is_tail p) && (is_star q || same_token q p) && covers qs ps) ≡ true = rw literal.0 at has in
    let parts = and_parts (not (is_tail p) && (is_star q || same_token q p)) (covers qs ps) all in
    let takes = (and_parts (not (is_tail p)) (is_star q || same_token q p) parts.0).1 in
    one_token places n q p qs ps takes literal.1 (λ m. covered (places / 2) m qs ps literal.2 parts.1)

pub in_set-hash : (places : ℕ) (q s : List Token) → AreLiteral places q → in_set q s ≡ true → hash_at places q ≡ hash_at places s
in_set-hash places q s literal has = held places places q s literal has

pub covers-hash : (places : ℕ) (q p : List Token) → AreLiteral places q → covers q p ≡ true → hash_at places q ≡ hash_at places p
covers-hash places q p literal has = covered places places q p literal has
