-- `covers` decides inclusion.
use Rattle.std.proofs.Common.{◌≡◌, ◌↔◌, ◌<◌, Bool, true, false, not, ◌&&◌, ◌||◌, leb, if◌then◌else◌, IsTrue, ◌⊎◌, inl, inr, List, [], ◌∷◌, length, arith, refl, sym, ◌∙◌}
use Rattle.std.proofs.lemmas.Bool.{false≢true}
use Rattle.std.specs.Bool.{OnFalse}
use Rattle.std.specs.List.{list_all}
use Rattle.subjects.specs.Subject.{Token, is_star, is_tail, is_literal, is_token, same_token, in_set, covers, Covers, Lacks, IsConcreteSubject, IsPattern, tail_is_last}
use Rattle.subjects.specs.Outside.{stand_in, one_stand_in, two_stand_ins, sample}
use Rattle.std.proofs.Math.Bool.{and-false}
use Rattle.std.proofs.lemmas.Bool.{or_parts}
use Rattle.subjects.proofs.Same.{equal_from_same}
use Rattle.subjects.proofs.Grammar.{concrete-tests, all_tests}
use Rattle.subjects.proofs.Samples.{literals-one, literals-two, literals-sample, member-sample, sample-some, one-some, two-some}

sound-tests : (qt pt qstar pstar qp psame qsame all ins out : Bool) → (qt || (not pt && (qstar || qp) && all)) ≡ true → (pt || ((pstar || psame) && ins)) ≡ true → (all ≡ true → ins ≡ true → out ≡ true) → (qp ≡ true → pstar ≡ true → qstar ≡ true) → (qp ≡ true → psame ≡ true → qsame ≡ true) → (qt || ((qstar || qsame) && out)) ≡ true
sound-tests true pt qstar pstar qp psame qsame all ins out c i h star same = refl
sound-tests false true qstar pstar qp psame qsame all ins out c i h star same = cc
sound-tests false false true pstar qp psame qsame true true out c i h star same = h refl refl
sound-tests false false true pstar qp psame qsame false ins out c i h star same = cc
sound-tests false false true true qp psame qsame true false out c i h star same = cc
sound-tests false false true false qp true qsame true false out c i h star same = cc
sound-tests false false true false qp false qsame true false out c i h star same = cc
sound-tests false false false pstar false psame qsame all ins out c i h star same = cc
sound-tests false false false true true psame qsame all ins out c i h star same = absurd (false≢true (star refl refl))
sound-tests false false false false true false qsame all ins out c i h star same = cc
sound-tests false false false false true true qsame true true out c i h star same = rw (same refl refl) (h refl refl)
sound-tests false false false false true true qsame false ins out c i h star same = cc
sound-tests false false false false true true qsame true false out c i h star same = cc

star_carried : (q p : Token) → same_token q p ≡ true → is_star p ≡ true → is_star q ≡ true
star_carried q p e s = rw (equal_from_same q p e) s

same_carried : (q p s : Token) → same_token q p ≡ true → same_token p s ≡ true → same_token q s ≡ true
same_carried q p s e h = rw (equal_from_same q p e) h

pub covers_sound : (q p s : List Token) → covers q p ≡ true → in_set p s ≡ true → in_set q s ≡ true
covers_sound [] [] s c i = i
covers_sound [] (p ∷ ps) s c i = cc
covers_sound (q ∷ qs) [] s c i = cc
covers_sound (q ∷ qs) (p ∷ ps) [] c i = cc
covers_sound (q ∷ qs) (p ∷ ps) (s ∷ ss) c i =
    sound-tests (is_tail q) (is_tail p) (is_star q) (is_star p) (same_token q p) (same_token p s) (same_token q s) (covers qs ps) (in_set ps ss) (in_set qs ss) c i (covers_sound qs ps ss) (star_carried q p) (same_carried q p s)

avoids-step : (q : Token) (is_a : Bool) → same_token q (97 ∷ []) ≡ is_a → same_token q (if is_a then 98 ∷ [] else 97 ∷ []) ≡ false
avoids-step q true h = rw (equal_from_same q (97 ∷ []) h) refl
avoids-step q false h = h

-- a literal at the place differs from the stand-in
avoids : (q : Token) (qs : List Token) → same_token q (stand_in (q ∷ qs)) ≡ false
avoids q qs = avoids-step q (same_token q (97 ∷ [])) refl

refuses : (q : Token) (qs : List Token) (s : Token) (ss : List Token) → is_tail q ≡ false → in_set qs ss ≡ false → in_set (q ∷ qs) (s ∷ ss) ≡ false
refuses q qs s ss t i = rw (t, i) (and-false (is_star q || same_token q s))

refuses_first : (q : Token) (qs : List Token) (s : Token) (ss : List Token) → is_tail q ≡ false → is_star q ≡ false → same_token q s ≡ false → in_set (q ∷ qs) (s ∷ ss) ≡ false
refuses_first q qs s ss t star same = rw (t, star, same) refl

-- `>` is no one token and no two tokens under a pattern that ends
tail-found : (q : Token) (qs : List Token) → is_tail q ≡ false → (in_set (q ∷ qs) (one_stand_in (q ∷ qs)) ≡ false) ⊎ (in_set (q ∷ qs) (two_stand_ins (q ∷ qs)) ≡ false)
tail-found q [] t = inr (refuses q [] (stand_in (q ∷ [])) (stand_in [] ∷ []) t refl)
tail-found q (r ∷ rs) t = inl (refuses q (r ∷ rs) (stand_in (q ∷ r ∷ rs)) [] t refl)

standing-differs : (q p : Token) (qs : List Token) (star : Bool) → same_token q p ≡ false → same_token q (if star then stand_in (q ∷ qs) else p) ≡ false
standing-differs q p qs true h = avoids q qs
standing-differs q p qs false h = h

found-step : (q : Token) (qs : List Token) (p s : Token) (one two : List Token) (fits all : Bool) → is_tail q ≡ false → (is_star q || same_token q p) ≡ fits → (fits && all) ≡ false → (same_token q p ≡ false → same_token q s ≡ false) → (all ≡ false → (in_set qs one ≡ false) ⊎ (in_set qs two ≡ false)) → (in_set (q ∷ qs) (s ∷ one) ≡ false) ⊎ (in_set (q ∷ qs) (s ∷ two) ≡ false)
found-step q qs p s one two false all t f c differs h =
    let n = or_parts (is_star q) (same_token q p) f in
    inl (refuses_first q qs s one t n.0 (differs n.1))
found-step q qs p s one two true all t f c differs h =
    elim (h c) [ inl e ↦ inl (refuses q qs s one t e) | inr e ↦ inr (refuses q qs s two t e) ]

found-cases : (q : Token) (qs : List Token) (p : Token) (one two : List Token) (tail star all : Bool) → (is_tail q || (not tail && (is_star q || same_token q p) && all)) ≡ false → (all ≡ false → (in_set qs one ≡ false) ⊎ (in_set qs two ≡ false)) → (in_set (q ∷ qs) (if tail then one_stand_in (q ∷ qs) else ((if star then stand_in (q ∷ qs) else p) ∷ one)) ≡ false) ⊎ (in_set (q ∷ qs) (if tail then two_stand_ins (q ∷ qs) else ((if star then stand_in (q ∷ qs) else p) ∷ two)) ≡ false)
found-cases q qs p one two true star all c h =
    tail-found q qs (or_parts (is_tail q) false c).0
found-cases q qs p one two false star all c h =
    let n = or_parts (is_tail q) ((is_star q || same_token q p) && all) c in
    found-step q qs p (if star then stand_in (q ∷ qs) else p) one two (is_star q || same_token q p) all n.0 refl n.1 (standing-differs q p qs star) h

none-takes : (last rest : List Token) (t : Token) (tail : Bool) → 0 < length last → in_set [] (if tail then last else (t ∷ rest)) ≡ false
none-takes [] rest t true l = absurd (omega arith)
none-takes (u ∷ us) rest t true l = refl
none-takes last rest t false l = refl

-- where the test fails, one of the two samples of the second pattern is outside the first
pub sample_outside : (q p : List Token) → covers q p ≡ false → (in_set q (sample one_stand_in q p) ≡ false) ⊎ (in_set q (sample two_stand_ins q p) ≡ false)
sample_outside [] [] c = cc
sample_outside [] (p ∷ ps) c =
    inl (none-takes (one_stand_in []) (sample one_stand_in [] ps) (if is_star p then stand_in [] else p) (is_tail p) (one-some []))
sample_outside (q ∷ qs) [] c = inl refl
sample_outside (q ∷ qs) (p ∷ ps) c =
    found-cases q qs p (sample one_stand_in qs ps) (sample two_stand_ins qs ps) (is_tail p) (is_star p) (covers qs ps) c (sample_outside qs ps)

pub concrete-sample : (last : List Token → List Token) → ((qs : List Token) → list_all is_literal (last qs) ≡ true) → ((qs : List Token) → 0 < length (last qs)) → (qs ps : List Token) → IsPattern ps → IsConcreteSubject (sample last qs ps)
concrete-sample last l some qs [] h = cc
concrete-sample last l some qs (p ∷ ps) h =
    let tests = all_tests (list_all is_token (p ∷ ps)) (tail_is_last (p ∷ ps)) (leb (length (p ∷ ps)) 512) h in
    concrete-tests (sample last qs (p ∷ ps)) (sample-some last some qs p ps) ∙ literals-sample last l qs (p ∷ ps) tests.0

-- so where the test fails, a subject of the second pattern is missing from the first
pub covers_lacks : (q p : List Token) → covers q p ≡ false → IsPattern p → Lacks q p
covers_lacks q p e h =
    elim (sample_outside q p e) [
      | inl out ↦ (sample one_stand_in q p, concrete-sample one_stand_in literals-one one-some q p h, member-sample one_stand_in one-some q p, out)
      | inr out ↦ (sample two_stand_ins q p, concrete-sample two_stand_ins literals-two two-some q p h, member-sample two_stand_ins two-some q p, out)
    ]

decided : (b : Bool) (q p : List Token) → covers q p ≡ b → IsPattern p → Covers q p → b ≡ true
decided true q p e h all = refl
decided false q p e h all = let lack = covers_lacks q p e h in let ins = all lack.0 lack.1 lack.2 in let out = lack.3 in cc

pub covers_complete : (q p : List Token) → IsPattern p → Covers q p → covers q p ≡ true
covers_complete q p h all = decided (covers q p) q p refl h all

-- the test is inclusion
pub covers-Covers : (q p : List Token) → IsPattern p → IsTrue (covers q p) ↔ Covers q p
covers-Covers q p h = (λ yes s concrete ins. covers_sound q p s yes ins, covers_complete q p h)

-- and its failure is a missing subject
pub covers-Lacks : (q p : List Token) (b : Bool) → b ≡ covers q p → IsPattern p → OnFalse b (Lacks q p)
covers-Lacks q p true e h = tt
covers-Lacks q p false e h = covers_lacks q p (sym e) h
