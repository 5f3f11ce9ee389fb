-- `overlaps` decides whether two patterns share a subject.
use Rattle.std.proofs.Common.{◌≡◌, ◌↔◌, ◌<◌, Bool, true, false, ◌&&◌, ◌||◌, leb, if◌then◌else◌, IsTrue, List, [], ◌∷◌, length, arith, refl, ◌∙◌}
use Rattle.std.specs.List.{list_all}
use Rattle.subjects.specs.Subject.{Token, is_star, is_tail, is_literal, is_token, same_token, in_set, overlaps, Overlaps, IsPattern, tail_is_last}
use Rattle.subjects.specs.Outside.{stand_in, one_stand_in, sample}
use Rattle.std.proofs.Math.Bool.{or-true}
use Rattle.std.proofs.lemmas.Bool.{and_parts}
use Rattle.subjects.proofs.Same.{same_token-itself, equal_from_same}
use Rattle.subjects.proofs.Grammar.{concrete-tests, all_tests}
use Rattle.subjects.proofs.Samples.{literal-stand_in, literals-one, literals-sample, member-sample, sample-some, one-some, tail_takes}

-- a sample of one pattern from where the other ends in `>`
abbrev sample_of : List Token → List Token
sample_of ts = sample one_stand_in [] ts

-- a subject of both patterns, where there is one
abbrev shared : List Token → List Token → List Token
shared [] ps = []
shared (q ∷ qs) [] = []
shared (q ∷ qs) (p ∷ ps) =
    if is_tail q then sample_of (p ∷ ps)
    else if is_tail p then sample_of (q ∷ qs)
    else ((if is_star q then (if is_star p then stand_in [] else p) else q) ∷ shared qs ps)

record IsShared (q p s : List Token) : Type 0 where
  first : in_set q s ≡ true
  second : in_set p s ≡ true
  literals : list_all is_literal s ≡ true
  some : 0 < length q → 0 < length s

takes : (q : Token) (qs : List Token) (s : Token) (ss : List Token) → is_tail q ≡ false → (is_star q || same_token q s) ≡ true → in_set qs ss ≡ true → in_set (q ∷ qs) (s ∷ ss) ≡ true
takes q qs s ss t f i = rw (t, f, i) refl

star_takes : (q s : Token) → is_star q ≡ true → (is_star q || same_token q s) ≡ true
star_takes q s e = rw e refl

literal_takes : (q s : Token) → is_star q ≡ false → same_token q s ≡ true → (is_star q || same_token q s) ≡ true
literal_takes q s e f = rw (e, f) refl

literal-from_token : (t : Token) → is_token t ≡ true → is_star t ≡ false → is_tail t ≡ false → is_literal t ≡ true
literal-from_token t k s e = rw (k, s, e) refl

common-step : (q p s : Token) (qs ps ss : List Token) → is_tail q ≡ false → is_tail p ≡ false → (is_star q || same_token q s) ≡ true → (is_star p || same_token p s) ≡ true → is_literal s ≡ true → IsShared qs ps ss → IsShared (q ∷ qs) (p ∷ ps) (s ∷ ss)
common-step q p s qs ps ss tq tp fq fp l h =
    record { first = takes q qs s ss tq fq h.first; second = takes p ps s ss tp fp h.second; literals = rw (l, h.literals) refl; some = λ _. omega arith }

itself : (q : Token) → (is_star q || same_token q q) ≡ true
itself q = rw (same_token-itself q) (or-true (is_star q))

head-step : (q p : Token) (qs ps ss : List Token) (sq sp : Bool) → is_star q ≡ sq → is_star p ≡ sp → is_tail q ≡ false → is_tail p ≡ false → is_token q ≡ true → is_token p ≡ true → (sq || sp || same_token q p) ≡ true → IsShared qs ps ss → IsShared (q ∷ qs) (p ∷ ps) ((if sq then (if sp then stand_in [] else p) else q) ∷ ss)
head-step q p qs ps ss true true eq ep tq tp kq kp c h =
    common-step q p (stand_in []) qs ps ss tq tp (star_takes q (stand_in []) eq) (star_takes p (stand_in []) ep) (literal-stand_in []) h
head-step q p qs ps ss true false eq ep tq tp kq kp c h =
    common-step q p p qs ps ss tq tp (star_takes q p eq) (itself p) (literal-from_token p kp ep tp) h
head-step q p qs ps ss false true eq ep tq tp kq kp c h =
    common-step q p q qs ps ss tq tp (itself q) (star_takes p q ep) (literal-from_token q kq eq tq) h
head-step q p qs ps ss false false eq ep tq tp kq kp c h =
    common-step q p q qs ps ss tq tp (itself q) (literal_takes p q ep (rw (equal_from_same q p c) (same_token-itself p))) (literal-from_token q kq eq tq) h

shared-step : (q p : Token) (qs ps : List Token) (tq tp all : Bool) → is_tail q ≡ tq → is_tail p ≡ tp → (list_all is_token (q ∷ qs)) ≡ true → (list_all is_token (p ∷ ps)) ≡ true → (tq || tp || ((is_star q || is_star p || same_token q p) && all)) ≡ true → (all ≡ true → IsShared qs ps (shared qs ps)) → IsShared (q ∷ qs) (p ∷ ps) (if tq then sample_of (p ∷ ps) else if tp then sample_of (q ∷ qs) else ((if is_star q then (if is_star p then stand_in [] else p) else q) ∷ shared qs ps))
shared-step q p qs ps true tp all eq ep kq kp c h =
    let some = sample-some one_stand_in one-some [] p ps in
    record { first = tail_takes q qs (sample_of (p ∷ ps)) eq some; second = member-sample one_stand_in one-some [] (p ∷ ps); literals = literals-sample one_stand_in literals-one [] (p ∷ ps) kp; some = λ _. some }
shared-step q p qs ps false true all eq ep kq kp c h =
    let some = sample-some one_stand_in one-some [] q qs in
    record { first = member-sample one_stand_in one-some [] (q ∷ qs); second = tail_takes p ps (sample_of (q ∷ qs)) ep some; literals = literals-sample one_stand_in literals-one [] (q ∷ qs) kq; some = λ _. some }
shared-step q p qs ps false false all eq ep kq kp c h =
    let fits = and_parts (is_star q || is_star p || same_token q p) all c in
    let token_q = and_parts (is_token q) (list_all is_token qs) kq in
    let token_p = and_parts (is_token p) (list_all is_token ps) kp in
    head-step q p qs ps (shared qs ps) (is_star q) (is_star p) refl refl eq ep token_q.0 token_p.0 fits.0 (h fits.1)

-- where the test holds, the subject so made is one of both
overlaps-shared : (q p : List Token) → list_all is_token q ≡ true → list_all is_token p ≡ true → overlaps q p ≡ true → IsShared q p (shared q p)
overlaps-shared [] [] kq kp c = record { first = refl; second = refl; literals = refl; some = λ h. absurd (omega arith) }
overlaps-shared [] (p ∷ ps) kq kp c = cc
overlaps-shared (q ∷ qs) [] kq kp c = cc
overlaps-shared (q ∷ qs) (p ∷ ps) kq kp c =
    let rest_q = and_parts (is_token q) (list_all is_token qs) kq in
    let rest_p = and_parts (is_token p) (list_all is_token ps) kp in
    shared-step q p qs ps (is_tail q) (is_tail p) (overlaps qs ps) refl refl kq kp c (overlaps-shared qs ps rest_q.1 rest_p.1)

common-tests : (tq tp sq sp qs ps qp ins_q ins_p all : Bool) → (tq || ((sq || qs) && ins_q)) ≡ true → (tp || ((sp || ps) && ins_p)) ≡ true → (ins_q ≡ true → ins_p ≡ true → all ≡ true) → (qs ≡ true → ps ≡ true → qp ≡ true) → (tq || tp || ((sq || sp || qp) && all)) ≡ true
common-tests tq tp sq sp qs ps qp ins_q ins_p all iq ip h same = grind arith

same_met : (q p s : Token) → same_token q s ≡ true → same_token p s ≡ true → same_token q p ≡ true
same_met q p s eq ep = rw (equal_from_same q s eq, equal_from_same p s ep) (same_token-itself s)

pub overlaps_complete : (q p s : List Token) → in_set q s ≡ true → in_set p s ≡ true → overlaps q p ≡ true
overlaps_complete [] [] s iq ip = refl
overlaps_complete [] (p ∷ ps) [] iq ip = cc
overlaps_complete [] (p ∷ ps) (s ∷ ss) iq ip = cc
overlaps_complete (q ∷ qs) [] [] iq ip = cc
overlaps_complete (q ∷ qs) [] (s ∷ ss) iq ip = cc
overlaps_complete (q ∷ qs) (p ∷ ps) [] iq ip = cc
overlaps_complete (q ∷ qs) (p ∷ ps) (s ∷ ss) iq ip =
    common-tests (is_tail q) (is_tail p) (is_star q) (is_star p) (same_token q s) (same_token p s) (same_token q p) (in_set qs ss) (in_set ps ss) (overlaps qs ps) iq ip (overlaps_complete qs ps ss) (same_met q p s)

tokens_from_pattern : (ts : List Token) → IsPattern ts → (list_all is_token ts ≡ true) × (0 < length ts)
tokens_from_pattern [] h = cc
tokens_from_pattern (t ∷ ts) h =
    ((all_tests (list_all is_token (t ∷ ts)) (tail_is_last (t ∷ ts)) (leb (length (t ∷ ts)) 512) h).0, omega arith)

pub overlaps_sound : (q p : List Token) → IsPattern q → IsPattern p → overlaps q p ≡ true → Overlaps q p
overlaps_sound q p hq hp c =
    let kq = tokens_from_pattern q hq in
    let kp = tokens_from_pattern p hp in
    let found = overlaps-shared q p kq.0 kp.0 c in
    (shared q p, concrete-tests (shared q p) (found.some kq.1) ∙ found.literals, found.first, found.second)

-- the test is a common subject
pub overlaps-Overlaps : (q p : List Token) → IsPattern q → IsPattern p → IsTrue (overlaps q p) ↔ Overlaps q p
overlaps-Overlaps q p hq hp = (overlaps_sound q p hq hp, λ (s, concrete, iq, ip). overlaps_complete q p s iq ip)
