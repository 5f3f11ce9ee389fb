-- Samples of a pattern that another pattern hasn't, and their texts.
use Rattle.std.proofs.Common.{◌≡◌, ◌≤◌, ◌<◌, ◌+◌, ◌-◌, ◌∙◌, ◌∷◌, ◌++◌, inl, inr, ℕ, Bool, true, false, if◌then◌else◌, List, [], length, take, Some, None, append_assoc, leb, ap, ap₂, sym, refl, arith}
use Rattle.std.proofs.Math.Seq.{take-append_seam}
use Rattle.std.proofs.lemmas.List.{append-nil, length-append}
use Rattle.std.proofs.lemmas.Bool.{true≢false}
use Rattle.std.proofs.lemmas.Bool.Decides.{nat_tests}
use Rattle.std.specs.List.{list_all}
use Rattle.std.specs.Option.{option_map}
use Rattle.subjects.specs.Subject.{Token, IsPattern, is_literal, is_star, is_tail, is_token, tail_is_last, covers, in_set, text_of, tokens_of}
use Rattle.subjects.specs.Outside.{IsOutside, behind, dotted, one_stand_in, outside, sample, stand_in, two_stand_ins}
use Rattle.subjects.proofs.Grammar.{all_tests}
use Rattle.subjects.proofs.Inclusion.{concrete-sample, covers_sound, sample_outside}
use Rattle.subjects.proofs.Samples.{literals-one, literals-two, member-sample, one-some, two-some}
use Rattle.subjects.proofs.Text.{concrete_again}

-- ---- texts

dotted-text : (t : Token) (ts : List Token) → dotted (t ∷ ts) ≡ text_of (t ∷ ts) ++ 46 ∷ []
dotted-text t [] = append-nil (t ++ 46 ∷ [])
dotted-text t (u ∷ ts) =
    ap (λ bs. (t ++ 46 ∷ []) ++ bs) (dotted-text u ts) ∙ append_assoc t (46 ∷ []) (text_of (u ∷ ts) ++ 46 ∷ []) ∙ sym (append_assoc t (46 ∷ text_of (u ∷ ts)) (46 ∷ []))

-- without its last dot it is the text
pub undotted : (ts : List Token) → take (length (dotted ts) - 1) (dotted ts) ≡ text_of ts
undotted [] = refl
undotted (t ∷ ts) =
    let whole = dotted-text t ts in
    let size : length (text_of (t ∷ ts) ++ 46 ∷ []) - 1 ≡ length (text_of (t ∷ ts)) = omega (arith, length-append (text_of (t ∷ ts)) (46 ∷ [])) in
    ap (λ bs. take (length bs - 1) bs) whole ∙ ap (λ n. take n (text_of (t ∷ ts) ++ 46 ∷ [])) size ∙ take-append_seam (text_of (t ∷ ts)) (46 ∷ [])

-- ---- how long a sample is

longer : (n m : ℕ) (t : Token) (tail : Bool) (last rest : List Token) → length last ≤ 2 → length rest ≤ n + 1 → length (if tail then last else (t ∷ rest)) ≤ (n + 1) + 1
longer n m t true last rest l r = omega (arith, l)
longer n m t false last rest l r = omega (arith, r)

length-sample : (last : List Token → List Token) → ((qs : List Token) → length (last qs) ≤ 2) → (qs ps : List Token) → length (sample last qs ps) ≤ length ps + 1
length-sample last l qs [] = omega arith
length-sample last l qs (p ∷ ps) =
    let more = longer (length ps) 0 (if is_star p then stand_in qs else p) (is_tail p) (last qs) (sample last (behind qs) ps) (l qs) (length-sample last l (behind qs) ps) in
    omega (arith, more)

at_most_512 : (p : List Token) → IsPattern p → length p ≤ 512
at_most_512 [] h = omega arith
at_most_512 (t ∷ ts) h =
    let few = (all_tests (list_all is_token (t ∷ ts)) (tail_is_last (t ∷ ts)) (leb (length (t ∷ ts)) 512) h).2 in
    grind (arith, nat_tests, few)

few : (n m : ℕ) → n ≤ m + 1 → m ≤ 512 → n ≤ 513
few n m h k = omega (arith, h, k)

-- ---- the sample that is missing

is_outside : (last : List Token → List Token) → ((qs : List Token) → list_all is_literal (last qs) ≡ true) → ((qs : List Token) → 0 < length (last qs)) → ((qs : List Token) → length (last qs) ≤ 2) →
    (q p : List Token) → IsPattern p → in_set q (sample last q p) ≡ false → IsOutside q p (text_of (sample last q p))
is_outside last literals some short q p h out =
    let concrete = concrete-sample last literals some q p h in
    let same = concrete_again (sample last q p) concrete in
    record {
      concrete = rw same concrete;
      member = rw same (member-sample last some q p);
      missing = rw same out;
      short = rw same (few _ _ (length-sample last short q p) (at_most_512 p h));
    }

outside-one : (q p : List Token) → IsPattern p → in_set q (sample one_stand_in q p) ≡ false → IsOutside q p (text_of (sample one_stand_in q p))
outside-one q p h out = is_outside one_stand_in literals-one one-some (λ qs. omega arith) q p h out

outside-two : (q p : List Token) → IsPattern p → in_set q (sample two_stand_ins q p) ≡ false → IsOutside q p (text_of (sample two_stand_ins q p))
outside-two q p h out = is_outside two_stand_ins literals-two two-some (λ qs. omega arith) q p h out

-- what was found of a sample's text holds of the sample
of_sample : (last : List Token → List Token) → ((qs : List Token) → list_all is_literal (last qs) ≡ true) → ((qs : List Token) → 0 < length (last qs)) → (q p : List Token) (b : Bool) → IsPattern p →
    in_set q (tokens_of (text_of (sample last q p))) ≡ b → in_set q (sample last q p) ≡ b
of_sample last literals some q p b h e =
    ap (in_set q) (sym (concrete_again (sample last q p) (concrete-sample last literals some q p h))) ∙ e

-- where the first has the one sample and doesn't cover, it hasn't the other
other_missing : (q p : List Token) → covers q p ≡ false → in_set q (sample one_stand_in q p) ≡ true → in_set q (sample two_stand_ins q p) ≡ false
other_missing q p c one = elim (sample_outside q p c) [ inl out ↦ absurd (true≢false (sym one ∙ out)) | inr out ↦ out ]

-- ---- the rule

outside-none : (q p : List Token) → covers q p ≡ true → outside q p ≡ None
outside-none q p c =
    rw (covers_sound q p (sample one_stand_in q p) c (member-sample one_stand_in one-some q p), covers_sound q p (sample two_stand_ins q p) c (member-sample two_stand_ins two-some q p)) refl

outside-first : (q p : List Token) → in_set q (sample one_stand_in q p) ≡ false → outside q p ≡ Some (sample one_stand_in q p)
outside-first q p out = rw out refl

outside-second : (q p : List Token) → in_set q (sample one_stand_in q p) ≡ true → in_set q (sample two_stand_ins q p) ≡ false → outside q p ≡ Some (sample two_stand_ins q p)
outside-second q p one two = rw (one, two) refl

-- ---- what is found

pub written : (last : List Token → List Token) (q p qs ps : List Token) (text : List ℕ) → text ≡ text_of (sample last qs ps) → qs ≡ q → ps ≡ p → text ≡ text_of (sample last q p)
written last q p qs ps text e first second = e ∙ ap₂ (λ xs ys. text_of (sample last xs ys)) first second

pub judged : (q p : List Token) (text seen : List ℕ) (test b : Bool) → IsPattern p → text ≡ text_of (sample one_stand_in q p) → seen ≡ text → test ≡ in_set q (tokens_of seen) → test ≡ b →
    in_set q (sample one_stand_in q p) ≡ b
judged q p text seen test b h e same is asked =
    of_sample one_stand_in literals-one one-some q p b h (ap (λ bs. in_set q (tokens_of bs)) (sym (same ∙ e)) ∙ sym is ∙ asked)

pub first-rule : (q p : List Token) (text : List ℕ) → text ≡ text_of (sample one_stand_in q p) → in_set q (sample one_stand_in q p) ≡ false → Some text ≡ option_map text_of (outside q p)
first-rule q p text e out = ap Some e ∙ sym (ap (option_map text_of) (outside-first q p out))

pub first-meaning : (q p : List Token) (text : List ℕ) → IsPattern p → text ≡ text_of (sample one_stand_in q p) → in_set q (sample one_stand_in q p) ≡ false → IsOutside q p text
first-meaning q p text h e out = rw e (outside-one q p h out)

pub second-rule : (q p : List Token) (text : List ℕ) → text ≡ text_of (sample two_stand_ins q p) → covers q p ≡ false → in_set q (sample one_stand_in q p) ≡ true → Some text ≡ option_map text_of (outside q p)
second-rule q p text e c one = ap Some e ∙ sym (ap (option_map text_of) (outside-second q p one (other_missing q p c one)))

pub second-meaning : (q p : List Token) (text : List ℕ) → IsPattern p → text ≡ text_of (sample two_stand_ins q p) → covers q p ≡ false → in_set q (sample one_stand_in q p) ≡ true → IsOutside q p text
second-meaning q p text h e c one = rw e (outside-two q p h (other_missing q p c one))

pub covered-rule : (q p : List Token) → covers q p ≡ true → None ≡ option_map text_of (outside q p)
covered-rule q p c = sym (ap (option_map text_of) (outside-none q p c))

-- ---- the walk

-- the walk ends behind a `>`, or behind the last token
pub end_of_tail : (last : List Token → List Token) (text : List ℕ) (first second rest : List Token) (token : Token) (whole : List ℕ) → second ≡ token ∷ rest → is_tail token ≡ true →
    text ++ dotted (sample last first second) ≡ whole → text ++ dotted (last first) ≡ whole
end_of_tail last text first second rest token whole e tail h =
    let at : sample last first second ≡ last first = rw e (rw tail refl) in
    ap (λ ts. text ++ dotted ts) (sym at) ∙ h

pub end_of_tokens : (last : List Token → List Token) (text : List ℕ) (first second : List Token) (whole : List ℕ) → second ≡ [] → text ++ dotted (sample last first second) ≡ whole → text ≡ whole
end_of_tokens last text first second whole e h =
    let at : sample last first second ≡ [] = rw e refl in
    sym (append-nil text) ∙ ap (λ ts. text ++ dotted ts) (sym at) ∙ h
