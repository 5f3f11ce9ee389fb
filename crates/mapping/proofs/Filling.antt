-- A pattern that is filled, and what of a subject stands for its wildcards.
use Rattle.std.proofs.Common.{◌≡◌, ◌<◌, ◌+◌, ◌∙◌, ℕ, Bool, true, false, not, ◌&&◌, ◌||◌, if◌then◌else◌, List, [], ◌∷◌, length, drop, arith, refl, sym, ap}
use Rattle.std.specs.List.{list_all}
use Rattle.std.proofs.lemmas.Bool.{and_parts}
use Rattle.subjects.specs.Subject.{Token, is_star, is_tail, is_token, is_literal, same_token, in_set, tail_is_last}
use Rattle.subjects.proofs.Same.{same_token-itself, equal_from_same}
use Rattle.subjects.proofs.Samples.{tail_takes}
use Rattle.mapping.proofs.templates.Stars.{tail_no_star, stars-more, stars-same}
use Rattle.mapping.specs.Pairs.{count_stars, has_tail, numbered, filled, stars_of, tail_of}

pub last_rest : (p : Token) (ps : List Token) → tail_is_last (p ∷ ps) ≡ true → tail_is_last ps ≡ true
last_rest p [] h = refl
last_rest p (q ∷ ps) h = (and_parts (not (is_tail p)) (tail_is_last (q ∷ ps)) h).1

-- nothing stands behind `>`
pub last_none : (p : Token) (ps : List Token) → is_tail p ≡ true → tail_is_last (p ∷ ps) ≡ true → ps ≡ []
last_none p [] t h = refl
last_none p (q ∷ ps) t h = absurd (no (is_tail p) t (and_parts (not (is_tail p)) (tail_is_last (q ∷ ps)) h).0)
  where
    no : (b : Bool) → b ≡ true → not b ≡ true → ⊥
    no true e f = cc
    no false e f = cc

member-step : (p : Token) (ps stars tail : List Token) (t s : Bool) → is_tail p ≡ t → is_star p ≡ s → 0 < length tail →
    in_set ps (filled ps (drop 1 stars) tail) ≡ true → in_set ps (filled ps stars tail) ≡ true →
    in_set (p ∷ ps) (if t then tail else (if s then numbered stars 1 ∷ filled ps (drop 1 stars) tail else p ∷ filled ps stars tail)) ≡ true
member-step p ps stars tail true s et es h one other = tail_takes p ps tail et h
member-step p ps stars tail false true et es h one other = rw (et, es, one) refl
member-step p ps stars tail false false et es h one other = rw (et, es, same_token-itself p, other) refl

-- what is filled is one of the pattern's subjects
pub member-filled : (ps stars tail : List Token) → 0 < length tail → in_set ps (filled ps stars tail) ≡ true
member-filled [] stars tail h = refl
member-filled (p ∷ ps) stars tail h =
    member-step p ps stars tail (is_tail p) (is_star p) refl refl h (member-filled ps (drop 1 stars) tail h) (member-filled ps stars tail h)

again-step : (p s : Token) (ps ss : List Token) (tail star same : Bool) → is_tail p ≡ tail → is_star p ≡ star → same_token p s ≡ same →
    (tail || ((star || same) && in_set ps ss)) ≡ true → (in_set ps ss ≡ true → filled ps (stars_of ps ss) (tail_of ps ss) ≡ ss) →
    filled (p ∷ ps) (if tail then [] else (if star then s ∷ stars_of ps ss else stars_of ps ss)) (if tail then s ∷ ss else tail_of ps ss) ≡ s ∷ ss
again-step p s ps ss true star same et es ee i h = rw et refl
again-step p s ps ss false true same et es ee i h = rw (et, es) (ap (λ us. s ∷ us) (h i))
again-step p s ps ss false false true et es ee i h = rw (et, es, h i) (ap (λ (t : Token). t ∷ ss) (equal_from_same p s ee))
again-step p s ps ss false false false et es ee i h = cc

-- a subject of a pattern is the pattern, filled with what stands for its wildcards
pub filled-again : (ps ss : List Token) → in_set ps ss ≡ true → filled ps (stars_of ps ss) (tail_of ps ss) ≡ ss
filled-again [] [] i = refl
filled-again [] (s ∷ ss) i = cc
filled-again (p ∷ ps) [] i = cc
filled-again (p ∷ ps) (s ∷ ss) i =
    again-step p s ps ss (is_tail p) (is_star p) (same_token p s) refl refl refl i (filled-again ps ss)

none-is : (stars : List Token) → length stars ≡ 0 → [] ≡ stars
none-is [] h = refl
none-is (s ∷ stars) h = absurd (omega arith)

first-is : (stars : List Token) → 0 < length stars → numbered stars 1 ∷ drop 1 stars ≡ stars
first-is [] h = absurd (omega arith)
first-is (s ∷ stars) h = refl

rest-len : (stars : List Token) (n : ℕ) → length stars ≡ 1 + n → length (drop 1 stars) ≡ n
rest-len [] n h = absurd (omega arith)
rest-len (s ∷ stars) n h = omega arith

no_stars : (p : Token) (ps tail : List Token) → is_tail p ≡ true → 0 < length tail → stars_of (p ∷ ps) tail ≡ []
no_stars p ps [] t h = refl
no_stars p ps (s ∷ ss) t h = rw t refl

stars-step : (p : Token) (ps stars tail : List Token) (t s : Bool) → is_tail p ≡ t → is_star p ≡ s → tail_is_last (p ∷ ps) ≡ true →
    length stars ≡ count_stars (p ∷ ps) → 0 < length tail →
    (length (drop 1 stars) ≡ count_stars ps → stars_of ps (filled ps (drop 1 stars) tail) ≡ drop 1 stars) →
    (length stars ≡ count_stars ps → stars_of ps (filled ps stars tail) ≡ stars) →
    stars_of (p ∷ ps) (if t then tail else (if s then numbered stars 1 ∷ filled ps (drop 1 stars) tail else p ∷ filled ps stars tail)) ≡ stars
stars-step p ps stars tail true s et es l n h one other =
    let none : count_stars ps ≡ 0 = ap count_stars (last_none p ps et l) in
    no_stars p ps tail et h ∙ none-is stars (n ∙ stars-same p ps (tail_no_star p et) ∙ none)
stars-step p ps stars tail false true et es l n h one other =
    let counted : length stars ≡ 1 + count_stars ps = n ∙ stars-more p ps es in
    rw (et, es) (ap (λ us. numbered stars 1 ∷ us) (one (rest-len stars (count_stars ps) counted)) ∙ first-is stars (omega (arith, counted)))
stars-step p ps stars tail false false et es l n h one other = rw (et, es) (other (n ∙ stars-same p ps es))

-- so for `*`s it has what it was filled with
pub stars-filled : (ps stars tail : List Token) → tail_is_last ps ≡ true → length stars ≡ count_stars ps → 0 < length tail → stars_of ps (filled ps stars tail) ≡ stars
stars-filled [] stars tail l n h = none-is stars n
stars-filled (p ∷ ps) stars tail l n h =
    stars-step p ps stars tail (is_tail p) (is_star p) refl refl l n h
    (λ m. stars-filled ps (drop 1 stars) tail (last_rest p ps l) m h)
    (λ m. stars-filled ps stars tail (last_rest p ps l) m h)

whole_tail : (p : Token) (ps tail : List Token) → is_tail p ≡ true → 0 < length tail → tail_of (p ∷ ps) tail ≡ tail
whole_tail p ps [] t h = refl
whole_tail p ps (s ∷ ss) t h = rw t refl

tail-step : (p : Token) (ps stars tail : List Token) (t s : Bool) → is_tail p ≡ t → is_star p ≡ s → 0 < length tail →
    tail_of ps (filled ps (drop 1 stars) tail) ≡ (if has_tail ps then tail else []) →
    tail_of ps (filled ps stars tail) ≡ (if has_tail ps then tail else []) →
    tail_of (p ∷ ps) (if t then tail else (if s then numbered stars 1 ∷ filled ps (drop 1 stars) tail else p ∷ filled ps stars tail)) ≡ (if (t || has_tail ps) then tail else [])
tail-step p ps stars tail true s et es h one other = whole_tail p ps tail et h
tail-step p ps stars tail false true et es h one other = rw et one
tail-step p ps stars tail false false et es h one other = rw et other

-- and for `>` too
pub tail-filled : (ps stars tail : List Token) → 0 < length tail → tail_of ps (filled ps stars tail) ≡ (if has_tail ps then tail else [])
tail-filled [] stars tail h = refl
tail-filled (p ∷ ps) stars tail h =
    tail-step p ps stars tail (is_tail p) (is_star p) refl refl h (tail-filled ps (drop 1 stars) tail h) (tail-filled ps stars tail h)

either : (a b : Bool) → (a || b) ≡ false → (a ≡ false) × (b ≡ false)
either true b h = absurd (cc)
either false b h = (refl, h)

without-step : (p : Token) (ps stars tail other : List Token) (s : Bool) → is_tail p ≡ false → is_star p ≡ s →
    filled ps (drop 1 stars) tail ≡ filled ps (drop 1 stars) other → filled ps stars tail ≡ filled ps stars other →
    filled (p ∷ ps) stars tail ≡ filled (p ∷ ps) stars other
without-step p ps stars tail other true et es one two = rw (et, es) (ap (λ us. numbered stars 1 ∷ us) one)
without-step p ps stars tail other false et es one two = rw (et, es) (ap (λ us. p ∷ us) two)

-- a pattern without `>` takes no tokens for it
pub filled-without : (ps stars tail other : List Token) → has_tail ps ≡ false → filled ps stars tail ≡ filled ps stars other
filled-without [] stars tail other h = refl
filled-without (p ∷ ps) stars tail other h =
    let parts = either (is_tail p) (has_tail ps) h in
    without-step p ps stars tail other (is_star p) parts.0 refl (filled-without ps (drop 1 stars) tail other parts.1) (filled-without ps stars tail other parts.1)

literal_token : (p : Token) → is_token p ≡ true → is_star p ≡ false → is_tail p ≡ false → is_literal p ≡ true
literal_token p k s t = rw (k, s, t) refl

first-literal : (stars : List Token) → 0 < length stars → list_all is_literal stars ≡ true → (is_literal (numbered stars 1) ≡ true) × (list_all is_literal (drop 1 stars) ≡ true)
first-literal [] n h = absurd (omega arith)
first-literal (s ∷ stars) n h = and_parts (is_literal s) (list_all is_literal stars) h

literal-step : (p : Token) (ps stars tail : List Token) (t s : Bool) → is_tail p ≡ t → is_star p ≡ s → is_token p ≡ true →
    length stars ≡ count_stars (p ∷ ps) → list_all is_literal stars ≡ true → list_all is_literal tail ≡ true →
    (length (drop 1 stars) ≡ count_stars ps → list_all is_literal (drop 1 stars) ≡ true → list_all is_literal (filled ps (drop 1 stars) tail) ≡ true) →
    (length stars ≡ count_stars ps → list_all is_literal (filled ps stars tail) ≡ true) →
    list_all is_literal (if t then tail else (if s then numbered stars 1 ∷ filled ps (drop 1 stars) tail else p ∷ filled ps stars tail)) ≡ true
literal-step p ps stars tail true s et es k n ls lt one other = lt
literal-step p ps stars tail false true et es k n ls lt one other =
    let counted : length stars ≡ 1 + count_stars ps = n ∙ stars-more p ps es in
    let first = first-literal stars (omega (arith, counted)) ls in
    rw (first.0, one (rest-len stars (count_stars ps) counted) first.1) refl
literal-step p ps stars tail false false et es k n ls lt one other =
    rw (literal_token p k es et, other (n ∙ stars-same p ps es)) refl

-- literal tokens make literal tokens
pub literal-filled : (ps stars tail : List Token) → list_all is_token ps ≡ true → tail_is_last ps ≡ true → length stars ≡ count_stars ps →
    list_all is_literal stars ≡ true → list_all is_literal tail ≡ true → list_all is_literal (filled ps stars tail) ≡ true
literal-filled [] stars tail k l n ls lt = refl
literal-filled (p ∷ ps) stars tail k l n ls lt =
    let parts = and_parts (is_token p) (list_all is_token ps) k in
    literal-step p ps stars tail (is_tail p) (is_star p) refl refl parts.0 n ls lt
    (λ m first. literal-filled ps (drop 1 stars) tail parts.1 (last_rest p ps l) m first lt)
    (λ m. literal-filled ps stars tail parts.1 (last_rest p ps l) m ls lt)

-- and some
pub some-filled : (p : Token) (ps stars tail : List Token) → 0 < length tail → 0 < length (filled (p ∷ ps) stars tail)
some-filled p ps stars tail h = by (is_tail p) (is_star p)
  where
    by : (t s : Bool) → 0 < length (if t then tail else (if s then numbered stars 1 ∷ filled ps (drop 1 stars) tail else p ∷ filled ps stars tail))
    by true s = h
    by false true = omega arith
    by false false = omega arith

-- how many tokens `>` makes of itself
abbrev pub tail_len : Bool → ℕ → ℕ
tail_len has n = if has then n else 0

length-step : (p : Token) (ps stars tail : List Token) (t s : Bool) → is_tail p ≡ t → is_star p ≡ s → tail_is_last (p ∷ ps) ≡ true →
    length (filled ps (drop 1 stars) tail) + tail_len (has_tail ps) 1 ≡ length ps + tail_len (has_tail ps) (length tail) →
    length (filled ps stars tail) + tail_len (has_tail ps) 1 ≡ length ps + tail_len (has_tail ps) (length tail) →
    length (if t then tail else (if s then numbered stars 1 ∷ filled ps (drop 1 stars) tail else p ∷ filled ps stars tail)) + tail_len (t || has_tail ps) 1
    ≡ length (p ∷ ps) + tail_len (t || has_tail ps) (length tail)
length-step p ps stars tail true s et es l one other =
    let none : length ps ≡ 0 = ap (λ (us : List Token). length us) (last_none p ps et l) in
    omega (arith, none)
length-step p ps stars tail false true et es l one other = omega (arith, one)
length-step p ps stars tail false false et es l one other = omega (arith, other)

pub length-filled : (ps stars tail : List Token) → tail_is_last ps ≡ true →
    length (filled ps stars tail) + tail_len (has_tail ps) 1 ≡ length ps + tail_len (has_tail ps) (length tail)
length-filled [] stars tail l = refl
length-filled (p ∷ ps) stars tail l =
    length-step p ps stars tail (is_tail p) (is_star p) refl refl l (length-filled ps (drop 1 stars) tail (last_rest p ps l)) (length-filled ps stars tail (last_rest p ps l))

counted-step : (p s : Token) (ps ss : List Token) (tail star : Bool) → is_tail p ≡ tail → is_star p ≡ star → tail_is_last (p ∷ ps) ≡ true →
    (tail || ((star || same_token p s) && in_set ps ss)) ≡ true → (in_set ps ss ≡ true → length (stars_of ps ss) ≡ count_stars ps) →
    length (if tail then [] else (if star then s ∷ stars_of ps ss else stars_of ps ss)) ≡ count_stars (p ∷ ps)
counted-step p s ps ss true star et es l i h =
    sym (stars-same p ps (tail_no_star p et) ∙ ap count_stars (last_none p ps et l))
counted-step p s ps ss false true et es l i h = omega (arith, h i, stars-more p ps es)
counted-step p s ps ss false false et es l i h =
    h (and_parts (same_token p s) (in_set ps ss) i).1 ∙ sym (stars-same p ps es)

-- a subject of a pattern has a token for each `*`
pub counted-stars : (ps ss : List Token) → tail_is_last ps ≡ true → in_set ps ss ≡ true → length (stars_of ps ss) ≡ count_stars ps
counted-stars [] ss l i = refl
counted-stars (p ∷ ps) [] l i = cc
counted-stars (p ∷ ps) (s ∷ ss) l i =
    counted-step p s ps ss (is_tail p) (is_star p) refl refl l i (counted-stars ps ss (last_rest p ps l))

literal-stars-step : (s : Token) (ss found : List Token) (tail star : Bool) → is_literal s ≡ true → list_all is_literal found ≡ true →
    list_all is_literal (if tail then [] else (if star then s ∷ found else found)) ≡ true
literal-stars-step s ss found true star l h = refl
literal-stars-step s ss found false true l h = rw (l, h) refl
literal-stars-step s ss found false false l h = h

-- these are literal where the subject is
pub literal-stars : (ps ss : List Token) → list_all is_literal ss ≡ true → list_all is_literal (stars_of ps ss) ≡ true
literal-stars [] ss h = refl
literal-stars (p ∷ ps) [] h = refl
literal-stars (p ∷ ps) (s ∷ ss) h =
    let parts = and_parts (is_literal s) (list_all is_literal ss) h in
    literal-stars-step s ss (stars_of ps ss) (is_tail p) (is_star p) parts.0 (literal-stars ps ss parts.1)

literal-tail-step : (whole left : List Token) (tail : Bool) → list_all is_literal whole ≡ true → list_all is_literal left ≡ true →
    list_all is_literal (if tail then whole else left) ≡ true
literal-tail-step whole left true h l = h
literal-tail-step whole left false h l = l

pub literal-tail : (ps ss : List Token) → list_all is_literal ss ≡ true → list_all is_literal (tail_of ps ss) ≡ true
literal-tail [] ss h = h
literal-tail (p ∷ ps) [] h = refl
literal-tail (p ∷ ps) (s ∷ ss) h =
    literal-tail-step (s ∷ ss) (tail_of ps ss) (is_tail p) h (literal-tail ps ss (and_parts (is_literal s) (list_all is_literal ss) h).1)

some-step : (p s : Token) (ps ss : List Token) (tail : Bool) → (tail || ((is_star p || same_token p s) && in_set ps ss)) ≡ true → (tail || has_tail ps) ≡ true →
    (in_set ps ss ≡ true → has_tail ps ≡ true → 0 < length (tail_of ps ss)) → 0 < length (if tail then s ∷ ss else tail_of ps ss)
some-step p s ps ss true i t h = omega arith
some-step p s ps ss false i t h = h (and_parts (is_star p || same_token p s) (in_set ps ss) i).1 t

-- and one or more for `>`
pub some-tail : (ps ss : List Token) → in_set ps ss ≡ true → has_tail ps ≡ true → 0 < length (tail_of ps ss)
some-tail [] ss i t = absurd (cc)
some-tail (p ∷ ps) [] i t = absurd (cc)
some-tail (p ∷ ps) (s ∷ ss) i t = some-step p s ps ss (is_tail p) i t (some-tail ps ss)
