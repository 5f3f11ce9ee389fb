-- The sample of two patterns' parts stands for what both cover.
use Rattle.std.proofs.Common.{◌≡◌, ◌∙◌, ◌⊎◌, inl, inr, Bool, true, false, not, ◌&&◌, ◌||◌, if◌then◌else◌, ℕ, zero, suc, List, [], ◌∷◌, length, Option, Some, None, ap, refl, sym, subst, arith, leb}
use Rattle.std.specs.Bool.{⊤}
use Rattle.std.specs.List.{list_all}
use Rattle.std.specs.Option.{option_map}
use Rattle.std.proofs.lemmas.Bool.{and_parts, or_parts}
use Rattle.subjects.specs.Subject.{Token, covers, is_concrete, is_literal, is_star, is_tail, is_token, is_wildcard, same_token, tail_is_last, IsPattern, IsSubject}
use Rattle.subjects.proofs.Same.{equal_from_same, same_token-itself}
use Rattle.pattern_sets.specs.Samples.{agree, either, either_each, filled, meet, part, star, tail}
use Rattle.pattern_sets.specs.Laws.{has_tail, has_token, SamplesSuffice, LengthsSuffice}

-- ---- tokens

no_wildcard : (s t : Bool) → not (s || t) ≡ true → (s ≡ false) × (t ≡ false)
no_wildcard true t e = absurd (cc)
no_wildcard false true e = absurd (cc)
no_wildcard false false e = (refl, refl)

not_false : (b : Bool) → not b ≡ true → b ≡ false
not_false true e = absurd (cc)
not_false false e = refl

-- a literal is a token, and neither a star nor a tail
record IsName (x : Token) : Type 0 where
  is_one : is_token x ≡ true
  no_star : is_star x ≡ false
  no_tail : is_tail x ≡ false

names : (x : Token) → is_literal x ≡ true → IsName x
names x h =
    let parts = and_parts (is_token x) (not (is_wildcard x)) h in
    let none = no_wildcard (is_star x) (is_tail x) parts.1 in
    record { is_one = parts.0; no_star = none.0; no_tail = none.1 }

-- a star over any token but a tail, or the very token
abbrev IsOverToken : Token → Token → Type 0
IsOverToken v u = ((v ≡ star) × (is_tail u ≡ false)) ⊎ (v ≡ u)

abbrev IsOver : List Token → List Token → Type 0
IsOver [] [] = ⊤
IsOver [] (u ∷ us) = ⊥
IsOver (v ∷ vs) [] = ⊥
IsOver (v ∷ vs) (u ∷ us) = IsOverToken v u × IsOver vs us

-- the very token, or the fresh one in place of any but a tail
abbrev IsBlurToken : Token → Token → Token → Type 0
IsBlurToken x w u = (w ≡ u) ⊎ ((w ≡ x) × (is_tail u ≡ false))

abbrev IsBlur : Token → List Token → List Token → Type 0
IsBlur x [] [] = ⊤
IsBlur x [] (u ∷ us) = ⊥
IsBlur x (w ∷ ws) [] = ⊥
IsBlur x (w ∷ ws) (u ∷ us) = IsBlurToken x w u × IsBlur x ws us

-- ---- the sample law

same_step : (et ut st sm cw cu : Bool) → (et || (not ut && (st || sm) && cw)) ≡ true → (cw ≡ true → cu ≡ true) → (et || (not ut && (st || sm) && cu)) ≡ true
same_step true ut st sm cw cu e h = refl
same_step false true st sm cw cu e h = absurd (cc)
same_step false false true sm true cu e h = h refl
same_step false false true sm false cu e h = absurd (cc)
same_step false false false true true cu e h = h refl
same_step false false false true false cu e h = absurd (cc)
same_step false false false false cw cu e h = absurd (cc)

fresh_step : (et wt ut st sx su cw cu : Bool) → (et || (not wt && (st || sx) && cw)) ≡ true → sx ≡ false → ut ≡ false → (cw ≡ true → cu ≡ true) → (et || (not ut && (st || su) && cu)) ≡ true
fresh_step true wt ut st sx su cw cu e f g h = refl
fresh_step false true ut st sx su cw cu e f g h = absurd (cc)
fresh_step false false true st sx su cw cu e f g h = absurd (cc)
fresh_step false false false true sx su true cu e f g h = h refl
fresh_step false false false true sx su false cu e f g h = absurd (cc)
fresh_step false false false false true su cw cu e f g h = absurd (cc)
fresh_step false false false false false su cw cu e f g h = absurd (cc)

law_step : (x e w u : Token) (es ws us : List Token) → same_token e x ≡ false → IsBlurToken x w u → covers (e ∷ es) (w ∷ ws) ≡ true → (covers es ws ≡ true → covers es us ≡ true) → covers (e ∷ es) (u ∷ us) ≡ true
law_step x e w u es ws us free (inl same) c h =
    same_step (is_tail e) (is_tail u) (is_star e) (same_token e u) (covers es ws) (covers es us) (subst (λ t. covers (e ∷ es) (t ∷ ws) ≡ true) same c) h
law_step x e w u es ws us free (inr blurred) c h =
    fresh_step (is_tail e) (is_tail x) (is_tail u) (is_star e) (same_token e x) (same_token e u) (covers es ws) (covers es us) (subst (λ t. covers (e ∷ es) (t ∷ ws) ≡ true) blurred.0 c) free blurred.1 h

sample_law : (x : Token) (e w u : List Token) → has_token x e ≡ false → IsBlur x w u → covers e w ≡ true → covers e u ≡ true
sample_law x [] [] [] h b c = refl
sample_law x [] [] (u ∷ us) h b c = absurd b
sample_law x [] (w ∷ ws) u h b c = absurd (cc)
sample_law x (e ∷ es) [] u h b c = absurd (cc)
sample_law x (e ∷ es) (w ∷ ws) [] h b c = absurd b
sample_law x (e ∷ es) (w ∷ ws) (u ∷ us) h b c =
    let free = or_parts (same_token e x) (has_token x es) h in
    law_step x e w u es ws us free.0 b.0 c (sample_law x es ws us free.1 b.1)

-- ---- a pattern's part lies over what it covers

pub cover_parts : (qt pt st sm all : Bool) → (qt || (not pt && (st || sm) && all)) ≡ true → qt ≡ false → (pt ≡ false) × ((st || sm) ≡ true) × (all ≡ true)
cover_parts true pt st sm all e f = absurd (cc)
cover_parts false true st sm all e f = absurd (cc)
cover_parts false false true sm true e f = (refl, refl, refl)
cover_parts false false true sm false e f = absurd (cc)
cover_parts false false false true true e f = (refl, refl, refl)
cover_parts false false false true false e f = absurd (cc)
cover_parts false false false false all e f = absurd (cc)

over_token : (t u : Token) (s m : Bool) → is_star t ≡ s → same_token t u ≡ m → is_tail u ≡ false → (s || m) ≡ true → IsOverToken t u
over_token t u true m e f g h = inl (equal_from_same t star e, g)
over_token t u false true e f g h = inr (equal_from_same t u f)
over_token t u false false e f g h = absurd (cc)

last_rest : (u : Token) (us : List Token) → tail_is_last (u ∷ us) ≡ true → tail_is_last us ≡ true
last_rest u [] h = refl
last_rest u (v ∷ vs) h = (and_parts (not (is_tail u)) (tail_is_last (v ∷ vs)) h).1

tail_step : (u : Token) (us : List Token) → is_tail u ≡ false → has_tail (u ∷ us) ≡ has_tail us
tail_step u [] e = e
tail_step u (v ∷ vs) e = refl

over_last : (u : Token) (b : Bool) → is_tail u ≡ b → IsOverToken (if b then tail else star) u
over_last u true e = inr (sym (equal_from_same u tail e))
over_last u false e = inl (refl, e)

over_filled : (u : Token) (us : List Token) → tail_is_last (u ∷ us) ≡ true → IsOver (filled (has_tail (u ∷ us)) (length (u ∷ us))) (u ∷ us)
over_filled u [] h = (over_last u (is_tail u) refl, tt)
over_filled u (v ∷ vs) h =
    let parts = and_parts (not (is_tail u)) (tail_is_last (v ∷ vs)) h in
    (inl (refl, not_false (is_tail u) parts.0), over_filled v vs parts.1)

-- a part of the question's length that lies over it
record HasPart (r u : List Token) : Type 0 where
  tokens : List Token
  part_is : part (has_tail u) (length u) r ≡ Some tokens
  over : IsOver tokens u

part_of_tail : (b : Bool) (n : ℕ) (t : Token) (ts : List Token) → is_tail t ≡ true → part b (suc n) (t ∷ ts) ≡ Some (filled b (suc n))
part_of_tail b n t ts e = rw e refl

part_of_name : (b d : Bool) (n : ℕ) (t : Token) (ts vs : List Token) → is_tail t ≡ false → b ≡ d → part d n ts ≡ Some vs → part b (suc n) (t ∷ ts) ≡ Some (t ∷ vs)
part_of_name b d n t ts vs e f g =
    let here : part d (suc n) (t ∷ ts) ≡ Some (t ∷ vs) = rw e (ap (option_map (λ us. t ∷ us)) g) in
    subst (λ c. part c (suc n) (t ∷ ts) ≡ Some (t ∷ vs)) (sym f) here

has_part : (r u : List Token) → tail_is_last u ≡ true → covers r u ≡ true → HasPart r u
has_part [] [] h c = record { tokens = []; part_is = refl; over = tt }
has_part [] (u ∷ us) h c = absurd (cc)
has_part (t ∷ ts) [] h c = absurd (cc)
has_part (t ∷ ts) (u ∷ us) h c = by_tail (is_tail t) refl (λ d. has_part ts us (last_rest u us h) d)
  where
    by_tail : (b : Bool) → is_tail t ≡ b → (covers ts us ≡ true → HasPart ts us) → HasPart (t ∷ ts) (u ∷ us)
    by_tail true e more = record { tokens = filled (has_tail (u ∷ us)) (length (u ∷ us)); part_is = part_of_tail _ (length us) t ts e; over = over_filled u us h }
    by_tail false e more =
        let k = cover_parts (is_tail t) (is_tail u) (is_star t) (same_token t u) (covers ts us) c e in
        let rest = more k.2 in
        record {
          tokens = t ∷ rest.tokens;
          part_is = part_of_name _ _ (length us) t ts rest.tokens e (tail_step u us k.0) rest.part_is;
          over = (over_token t u (is_star t) (same_token t u) refl refl k.0 k.1, rest.over);
        }

-- ---- and covers what it lies over

no_none : {A : Type 0} (x : A) → None ≡ Some x → ⊥
no_none x e = cc

same_some : {A : Type 0} (x y : A) → Some x ≡ Some y → x ≡ y
same_some x y e = cc

cover_empty : (b : Bool) (v w : List Token) → (if b then None else Some []) ≡ Some v → IsOver v w → covers [] w ≡ true
cover_empty true v w e o = absurd (no_none v e)
cover_empty false v [] e o = refl
cover_empty false v (w ∷ ws) e o = absurd (subst (λ l. IsOver l (w ∷ ws)) (sym (same_some [] v e)) o)

filled_some : (b : Bool) (n : ℕ) → IsOver (filled b (suc n)) [] → ⊥
filled_some b zero o = o
filled_some b (suc n) o = o

cover_tail : (b : Bool) (n : ℕ) (t : Token) (ts v w : List Token) → is_tail t ≡ true → Some (filled b (suc n)) ≡ Some v → IsOver v w → covers (t ∷ ts) w ≡ true
cover_tail b n t ts v [] e f o = absurd (filled_some b n (subst (λ l. IsOver l []) (sym (same_some (filled b (suc n)) v f)) o))
cover_tail b n t ts v (w ∷ ws) e f o = rw e refl

cover_token : (t w : Token) (ts ws : List Token) → is_tail t ≡ false → IsOverToken t w → covers ts ws ≡ true → covers (t ∷ ts) (w ∷ ws) ≡ true
cover_token t w ts ws e (inl starred) c = rw (starred.0, starred.1, c) refl
cover_token t w ts ws e (inr same) c = rw (sym same, e, same_token-itself t, c) (all_true (is_star t))
  where
    all_true : (b : Bool) → ((b || true) && true) ≡ true
    all_true true = refl
    all_true false = refl

cover_more : (t : Token) (ts v w : List Token) (o : Option (List Token)) → is_tail t ≡ false → option_map (λ us. t ∷ us) o ≡ Some v → IsOver v w →
    ((vs ws : List Token) → o ≡ Some vs → IsOver vs ws → covers ts ws ≡ true) → covers (t ∷ ts) w ≡ true
cover_more t ts v w None e f over h = absurd (no_none v f)
cover_more t ts v w (Some vs) e f over h = by_tokens w (subst (λ l. IsOver l w) (sym (same_some (t ∷ vs) v f)) over)
  where
    by_tokens : (l : List Token) → IsOver (t ∷ vs) l → covers (t ∷ ts) l ≡ true
    by_tokens [] o = absurd o
    by_tokens (a ∷ rest) o = cover_token t a ts rest e o.0 (h vs rest refl o.1)

cover_again : (b : Bool) (n : ℕ) (r v w : List Token) → part b n r ≡ Some v → IsOver v w → covers r w ≡ true
cover_again b zero [] v w e o = cover_empty b v w e o
cover_again b zero (t ∷ ts) v w e o = absurd (no_none v e)
cover_again b (suc n) [] v w e o = absurd (no_none v e)
cover_again b (suc n) (t ∷ ts) v w e o = by_tail (is_tail t) refl (λ vs ws g over. cover_again b n ts vs ws g over)
  where
    by_tail : (c : Bool) → is_tail t ≡ c → ((vs ws : List Token) → part b n ts ≡ Some vs → IsOver vs ws → covers ts ws ≡ true) → covers (t ∷ ts) w ≡ true
    by_tail true f more = cover_tail b n t ts v w f (subst (λ (d : Bool). (if d then Some (filled b (suc n)) else option_map (λ us. t ∷ us) (part b n ts)) ≡ Some v) f e) o
    by_tail false f more =
        cover_more t ts v w (part b n ts) f (subst (λ (d : Bool). (if d then Some (filled b (suc n)) else option_map (λ us. t ∷ us) (part b n ts)) ≡ Some v) f e) o more

-- ---- two parts over one question meet, and their sample is a blur of it that lies under both

record IsMetToken (x v w u : Token) : Type 0 where
  agrees : agree v w ≡ true
  blurs : IsBlurToken x (either x v w) u
  one : IsOverToken v (either x v w)
  other : IsOverToken w (either x v w)

both_stars : (x u : Token) → IsName x → is_tail u ≡ false → IsMetToken x star star u
both_stars x u name e = record { agrees = refl; blurs = inr (refl, e); one = inl (refl, name.no_tail); other = inl (refl, name.no_tail) }

no_tail_of_star : (u : Token) → is_star u ≡ true → is_tail u ≡ false
no_tail_of_star u e = rw (equal_from_same u star e) refl

star_first : (x u : Token) (b : Bool) → is_star u ≡ b → IsName x → is_tail u ≡ false → IsMetToken x star u u
star_first x u true s name e = rw (equal_from_same u star s) (both_stars x star name refl)
star_first x u false s name e = record { agrees = refl; blurs = rw s (inl refl); one = rw s (inl (refl, e)); other = rw s (inr refl) }

star_second : (x u : Token) (b : Bool) → is_star u ≡ b → IsName x → is_tail u ≡ false → IsMetToken x u star u
star_second x u true s name e = rw (equal_from_same u star s) (both_stars x star name refl)
star_second x u false s name e = record { agrees = rw s refl; blurs = rw s (inl refl); one = rw s (inr refl); other = rw s (inl (refl, e)) }

no_star : (x u : Token) (b : Bool) → is_star u ≡ b → IsName x → IsMetToken x u u u
no_star x u true s name = rw (equal_from_same u star s) (both_stars x star name refl)
no_star x u false s name = record { agrees = rw (s, same_token-itself u) refl; blurs = rw s (inl refl); one = rw s (inr refl); other = rw s (inr refl) }

met_token : (x v w u : Token) → IsName x → IsOverToken v u → IsOverToken w u → IsMetToken x v w u
met_token x v w u name (inl one) (inl other) = rw (one.0, other.0) (both_stars x u name one.1)
met_token x v w u name (inl one) (inr other) = rw (one.0, other) (star_first x u (is_star u) refl name one.1)
met_token x v w u name (inr one) (inl other) = rw (one, other.0) (star_second x u (is_star u) refl name other.1)
met_token x v w u name (inr one) (inr other) = rw (one, other) (no_star x u (is_star u) refl name)

record IsMet (x : Token) (vs ws us : List Token) : Type 0 where
  agrees : meet vs ws ≡ true
  blurs : IsBlur x (either_each x vs ws) us
  one : IsOver vs (either_each x vs ws)
  other : IsOver ws (either_each x vs ws)

met : (x : Token) (vs ws us : List Token) → IsName x → IsOver vs us → IsOver ws us → IsMet x vs ws us
met x [] [] [] name o p = record { agrees = refl; blurs = tt; one = tt; other = tt }
met x [] ws (u ∷ us) name o p = absurd o
met x (v ∷ vs) ws [] name o p = absurd o
met x [] (w ∷ ws) [] name o p = absurd p
met x (v ∷ vs) [] (u ∷ us) name o p = absurd p
met x (v ∷ vs) (w ∷ ws) (u ∷ us) name o p =
    let here = met_token x v w u name o.0 p.0 in
    let rest = met x vs ws us name o.1 p.1 in
    record { agrees = rw (here.agrees, rest.agrees) refl; blurs = (here.blurs, rest.blurs); one = (here.one, rest.one); other = (here.other, rest.other) }

-- ---- a blur of a question is one

blur_length : (x : Token) (w u : List Token) → IsBlur x w u → length w ≡ length u
blur_length x [] [] b = refl
blur_length x [] (u ∷ us) b = absurd b
blur_length x (w ∷ ws) [] b = absurd b
blur_length x (w ∷ ws) (u ∷ us) b = ap suc (blur_length x ws us b.1)

blur_all : (P : Token → Bool) (x : Token) (w u : List Token) → P x ≡ true → IsBlur x w u → list_all P u ≡ true → list_all P w ≡ true
blur_all P x [] [] h b all = refl
blur_all P x [] (u ∷ us) h b all = absurd b
blur_all P x (w ∷ ws) [] h b all = absurd b
blur_all P x (w ∷ ws) (u ∷ us) h b all =
    let parts = and_parts (P u) (list_all P us) all in
    rw (by_token b.0 parts.0, blur_all P x ws us h b.1 parts.1) refl
  where
    by_token : IsBlurToken x w u → P u ≡ true → P w ≡ true
    by_token (inl same) e = rw same e
    by_token (inr blurred) e = rw blurred.0 h

tail_of_blur : (x w u : Token) → is_tail x ≡ false → IsBlurToken x w u → is_tail u ≡ false → is_tail w ≡ false
tail_of_blur x w u t (inl same) e = rw same e
tail_of_blur x w u t (inr blurred) e = rw blurred.0 t

blur_last : (x : Token) (w u : List Token) → is_tail x ≡ false → IsBlur x w u → tail_is_last u ≡ true → tail_is_last w ≡ true
blur_last x [] u t b h = refl
blur_last x (w ∷ ws) [] t b h = absurd b
blur_last x (w ∷ []) (u ∷ us) t b h = refl
blur_last x (w ∷ v ∷ ws) (u ∷ []) t b h = absurd b.1
blur_last x (w ∷ v ∷ ws) (u ∷ s ∷ us) t b h =
    let parts = and_parts (not (is_tail u)) (tail_is_last (s ∷ us)) h in
    rw (tail_of_blur x w u t b.0 (not_false (is_tail u) parts.0), blur_last x (v ∷ ws) (s ∷ us) t b.1 parts.1) refl

three : (a b c : Bool) → a ≡ true → b ≡ true → c ≡ true → (a && b && c) ≡ true
three a b c e f g = rw (e, f, g) refl

blur_pattern : (x : Token) (w u : List Token) → IsName x → IsBlur x w u → IsPattern u → IsPattern w
blur_pattern x [] [] name b h = h
blur_pattern x [] (u ∷ us) name b h = absurd b
blur_pattern x (w ∷ ws) [] name b h = absurd b
blur_pattern x (w ∷ ws) (u ∷ us) name b h =
    let tests = and_parts (list_all is_token (u ∷ us) && tail_is_last (u ∷ us)) (leb (length (u ∷ us)) 512) h in
    let fronts = and_parts (list_all is_token (u ∷ us)) (tail_is_last (u ∷ us)) tests.0 in
    three (list_all is_token (w ∷ ws)) (tail_is_last (w ∷ ws)) (leb (length (w ∷ ws)) 512)
    (blur_all is_token x (w ∷ ws) (u ∷ us) name.is_one b fronts.0)
    (blur_last x (w ∷ ws) (u ∷ us) name.no_tail b fronts.1)
    (ap (λ n. leb n 512) (blur_length x (w ∷ ws) (u ∷ us) b) ∙ tests.1)

blur_subject : (x : Token) (w u : List Token) → is_literal x ≡ true → IsBlur x w u → IsSubject u → IsSubject w
blur_subject x [] [] l b h = h
blur_subject x [] (u ∷ us) l b h = absurd b
blur_subject x (w ∷ ws) [] l b h = absurd b
blur_subject x (w ∷ ws) (u ∷ us) l b h =
    let tests = and_parts (is_concrete (u ∷ us)) (leb (length (u ∷ us)) 512) h in
    rw (blur_all is_literal x (w ∷ ws) (u ∷ us) l b tests.0, ap (λ n. leb n 512) (blur_length x (w ∷ ws) (u ∷ us) b) ∙ tests.1) refl

-- ---- the laws

pub last_in_pattern : (u : List Token) → IsPattern u → tail_is_last u ≡ true
last_in_pattern [] h = refl
last_in_pattern (u ∷ us) h =
    let tests = and_parts (list_all is_token (u ∷ us) && tail_is_last (u ∷ us)) (leb (length (u ∷ us)) 512) h in
    (and_parts (list_all is_token (u ∷ us)) (tail_is_last (u ∷ us)) tests.0).1

pub samples_suffice : SamplesSuffice
samples_suffice x r s u l pattern c d =
    let last = last_in_pattern u pattern in
    let one = has_part r u last c in
    let other = has_part s u last d in
    let name = names x l in
    let m = met x one.tokens other.tokens u name one.over other.over in (
      either_each x one.tokens other.tokens,
      rw (one.part_is, other.part_is, m.agrees) refl,
      record {
        first = cover_again (has_tail u) (length u) r one.tokens _ one.part_is m.one;
        second = cover_again (has_tail u) (length u) s other.tokens _ other.part_is m.other;
        length_is = blur_length x _ u m.blurs;
        pattern = blur_pattern x _ u name m.blurs pattern;
        subject = blur_subject x _ u l m.blurs;
        sample_law = λ entry free covered. sample_law x entry _ u free m.blurs covered;
      },
    )

first_same : (u v : Token) (us vs : List Token) → (u ∷ us) ≡ (v ∷ vs) → u ≡ v
first_same u v us vs e = cc

rest_same : (u v : Token) (us vs : List Token) → (u ∷ us) ≡ (v ∷ vs) → us ≡ vs
rest_same u v us vs e = cc

pub lengths_suffice : LengthsSuffice
lengths_suffice [] [] v less more same = absurd (omega (arith, less))
lengths_suffice [] (u ∷ us) [] less more same = absurd (omega (arith, more))
lengths_suffice [] (u ∷ us) (v ∷ vs) less more same = refl
lengths_suffice (e ∷ es) [] v less more same = absurd (omega (arith, less))
lengths_suffice (e ∷ es) (u ∷ us) [] less more same = absurd (omega (arith, more))
lengths_suffice (e ∷ es) (u ∷ us) (v ∷ vs) less more same =
    rw (first_same u v _ _ same, lengths_suffice es us vs (omega (arith, less)) (omega (arith, more)) (rest_same u v _ _ same)) refl
