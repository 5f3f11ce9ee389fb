-- A text has no fault exactly where its tokens are a pattern, or a subject.
use Rattle.std.proofs.Common.{◌≡◌, ◌==◌, ◌<◌, ℕ, if◌then◌else◌, ltb, leb, Bool, true, false, not, ◌&&◌, ◌||◌, cond, List, [], ◌∷◌, length, Option, Some, None, arith, refl, sym, ap, ◌∙◌}
use Rattle.std.proofs.lemmas.Bool.{or_parts, false≢true}
use Rattle.std.specs.List.{list_all, list_any, onto_first}
use Rattle.std.proofs.lemmas.Bool.Decides.{nat_tests}
use Rattle.std.proofs.lemmas.List.Splits.{length-slice_split}
use Rattle.subjects.specs.Subject.{Token, is_star, is_tail, is_text_byte, is_token_byte, is_token, is_wildcard, is_literal, is_concrete, is_pattern, IsPattern, is_subject, IsSubject, tail_is_last, tokens_of}
use Rattle.subjects.specs.Fault.{pattern_fault, subject_fault, subject_if, or_wildcard}
use Rattle.subjects.specs.declared.error.SubjectError.{SubjectError}
use Rattle.subjects.specs.declared.error.SubjectError.TheVariants.{Empty, EmptyToken, BadByte, WildcardNotLast, TooManyTokens}

abbrev pub has_token_bytes : Token → Bool
has_token_bytes t = list_all is_token_byte t

abbrev pub is_empty : Token → Bool
is_empty t = length t == 0

and_regroup : (a b c : Bool) → ((a && b) && c) ≡ (a && (b && c))
and_regroup true b c = refl
and_regroup false b c = refl

bytes-onto_first : (x : ℕ) (ts : List Token) → list_all has_token_bytes (onto_first x ts) ≡ (is_token_byte x && list_all has_token_bytes ts)
bytes-onto_first x [] = and_regroup (is_token_byte x) true true
bytes-onto_first x (t ∷ ts) = and_regroup (is_token_byte x) (has_token_bytes t) (list_all has_token_bytes ts)

dot_is_text : (x : ℕ) → (x == 46) ≡ true → is_text_byte x ≡ true
dot_is_text x e = grind (arith, nat_tests)

not_dot : (x : ℕ) → (x == 46) ≡ false → is_token_byte x ≡ is_text_byte x
not_dot x e = grind (arith, nat_tests)

bytes-step : (dot : Bool) (x : ℕ) (xs : List ℕ) → (x == 46) ≡ dot → list_all has_token_bytes (tokens_of xs) ≡ list_all is_text_byte xs → list_all has_token_bytes (cond dot ([] ∷ tokens_of xs) (onto_first x (tokens_of xs))) ≡ (is_text_byte x && list_all is_text_byte xs)
bytes-step true x xs e h = rw (dot_is_text x e) h
bytes-step false x xs e h = bytes-onto_first x (tokens_of xs) ∙ rw (not_dot x e, h) refl

-- a text has the bytes of tokens and dots exactly where its tokens have the bytes of tokens
pub bytes-tokens_of : (text : List ℕ) → list_all has_token_bytes (tokens_of text) ≡ list_all is_text_byte text
bytes-tokens_of [] = refl
bytes-tokens_of (x ∷ xs) = bytes-step (x == 46) x xs refl (bytes-tokens_of xs)

pub not_empty : (b : ℕ) (bs : List ℕ) → (length (b ∷ bs) == 0) ≡ false
not_empty b bs = grind (arith, nat_tests)

token-tests : (t : Token) → is_token t ≡ (not (is_empty t) && has_token_bytes t)
token-tests [] = refl
token-tests (b ∷ bs) = ap (λ empty. not empty && has_token_bytes (b ∷ bs)) (sym (not_empty b bs))

and_swap : (e a h b : Bool) → ((not e && h) && (not a && b)) ≡ (not (e || a) && (h && b))
and_swap true a h b = refl
and_swap false true true b = refl
and_swap false true false b = refl
and_swap false false true b = refl
and_swap false false false b = refl

-- tokens are bytes of tokens, and none is empty
pub tokens-tests : (ts : List Token) → list_all is_token ts ≡ (not (list_any is_empty ts) && list_all has_token_bytes ts)
tokens-tests [] = refl
tokens-tests (t ∷ ts) =
    rw (token-tests t, tokens-tests ts) (and_swap (is_empty t) (list_any is_empty ts) (has_token_bytes t) (list_all has_token_bytes ts))

pattern-tests : (ts : List Token) → 0 < length ts → is_pattern ts ≡ (list_all is_token ts && tail_is_last ts && leb (length ts) 512)
pattern-tests [] h = absurd (omega arith)
pattern-tests (t ∷ ts) h = refl

pub tokens_of-some : (text : List ℕ) → 0 < length (tokens_of text)
tokens_of-some text = omega (arith, length-slice_split (λ b. b == 46) text)

abbrev pub first_fault : Bool → Bool → Bool → Bool → Bool → Option SubjectError
first_fault none bytes hollow tail many =
    if none then Some Empty
    else if not bytes then Some BadByte
    else if hollow then Some EmptyToken
    else if not tail then Some WildcardNotLast
    else if many then Some TooManyTokens
    else None

passed : (none bytes hollow tail many : Bool) → first_fault none bytes hollow tail many ≡ None → (bytes ≡ true) × (hollow ≡ false) × (tail ≡ true) × (many ≡ false)
passed true bytes hollow tail many e = cc
passed false false hollow tail many e = cc
passed false true true tail many e = cc
passed false true false false many e = cc
passed false true false true true e = cc
passed false true false true false e = (refl, refl, refl, refl)

all_passed : (bytes hollow tail few : Bool) → ((not hollow && bytes) && tail && few) ≡ true → (bytes ≡ true) × (hollow ≡ false) × (tail ≡ true) × (few ≡ true)
all_passed bytes true tail few e = cc
all_passed false false tail few e = cc
all_passed true false false few e = cc
all_passed true false true false e = cc
all_passed true false true true e = (refl, refl, refl, refl)

-- the tests of a pattern, on the text's bytes and its tokens
of_text : (text : List ℕ) → is_pattern (tokens_of text) ≡ ((not (list_any is_empty (tokens_of text)) && list_all is_text_byte text) && tail_is_last (tokens_of text) && leb (length (tokens_of text)) 512)
of_text text =
    let tests = pattern-tests (tokens_of text) (tokens_of-some text) in
    let tokens = tokens-tests (tokens_of text) in
    let bytes = bytes-tokens_of text in
    cc

pub pattern_from_no_fault : (text : List ℕ) → pattern_fault text ≡ None → IsPattern (tokens_of text)
pattern_from_no_fault text e =
    let p = passed (length text == 0) (list_all is_text_byte text) (list_any is_empty (tokens_of text)) (tail_is_last (tokens_of text)) (ltb 512 (length (tokens_of text))) e in
    let few : leb (length (tokens_of text)) 512 ≡ true = grind (arith, nat_tests, p.3) in
    of_text text ∙ rw (p.0, p.1, p.2, few) refl

no_fault : (none : Bool) (text : List ℕ) → none ≡ false → IsPattern (tokens_of text) → first_fault none (list_all is_text_byte text) (list_any is_empty (tokens_of text)) (tail_is_last (tokens_of text)) (ltb 512 (length (tokens_of text))) ≡ None
no_fault none text is h =
    let p = all_passed (list_all is_text_byte text) (list_any is_empty (tokens_of text)) (tail_is_last (tokens_of text)) (leb (length (tokens_of text)) 512) (sym (of_text text) ∙ h) in
    let few : ltb 512 (length (tokens_of text)) ≡ false = grind (arith, nat_tests, p.3) in
    rw (is, p.0, p.1, p.2, few) refl

pub no_fault_from_pattern : (text : List ℕ) → IsPattern (tokens_of text) → pattern_fault text ≡ None
no_fault_from_pattern [] h = cc
no_fault_from_pattern (x ∷ xs) h = no_fault (length (x ∷ xs) == 0) (x ∷ xs) (not_empty x xs) h

literal-tests : (t : Token) → is_literal t ≡ (is_token t && not (is_wildcard t))
literal-tests t = refl

and_none : (t w a b : Bool) → ((t && not w) && (a && not b)) ≡ ((t && a) && not (w || b))
and_none false w a b = refl
and_none true true true b = refl
and_none true true false b = refl
and_none true false true b = refl
and_none true false false b = refl

-- literals are tokens, and none is a wildcard
pub literals-tests : (ts : List Token) → list_all is_literal ts ≡ (list_all is_token ts && not (list_any is_wildcard ts))
literals-tests [] = refl
literals-tests (t ∷ ts) =
    rw (literals-tests ts) (and_none (is_token t) (is_wildcard t) (list_all is_token ts) (list_any is_wildcard ts))

pub concrete-tests : (ts : List Token) → 0 < length ts → is_concrete ts ≡ list_all is_literal ts
concrete-tests [] h = absurd (omega arith)
concrete-tests (t ∷ ts) h = refl

-- without a wildcard, `>` stands nowhere
last_without_wildcard : (ts : List Token) → list_any is_wildcard ts ≡ false → tail_is_last ts ≡ true
last_without_wildcard [] e = refl
last_without_wildcard (t ∷ []) e = refl
last_without_wildcard (t ∷ u ∷ ts) e =
    let here = or_parts (is_wildcard t) (list_any is_wildcard (u ∷ ts)) e in
    let tail = or_parts (is_star t) (is_tail t) here.0 in
    let behind = last_without_wildcard (u ∷ ts) here.1 in
    rw (tail.1, behind) refl

neither : (fault : Option SubjectError) (any : Bool) → or_wildcard fault any ≡ None → (fault ≡ None) × (any ≡ false)
neither (Some fault) any e = cc
neither None true e = cc
neither None false e = (refl, refl)

all_literals : (tokens wild few : Bool) → ((tokens && not wild) && few) ≡ true → (tokens ≡ true) × (wild ≡ false) × (few ≡ true)
all_literals false wild few e = cc
all_literals true true few e = cc
all_literals true false false e = cc
all_literals true false true e = (refl, refl, refl)

pub all_tests : (tokens tail few : Bool) → (tokens && tail && few) ≡ true → (tokens ≡ true) × (tail ≡ true) × (few ≡ true)
all_tests false tail few e = cc
all_tests true false few e = cc
all_tests true true false e = cc
all_tests true true true e = (refl, refl, refl)

-- a subject is a pattern without a wildcard
pub subject_from_pattern : (ts : List Token) → 0 < length ts → IsPattern ts → list_any is_wildcard ts ≡ false → IsSubject ts
subject_from_pattern ts some h none =
    let p = all_tests (list_all is_token ts) (tail_is_last ts) (leb (length ts) 512) (sym (pattern-tests ts some) ∙ h) in
    rw (concrete-tests ts some, literals-tests ts, p.0, none, p.2) refl

pub pattern_from_subject : (ts : List Token) → 0 < length ts → IsSubject ts → IsPattern ts × (list_any is_wildcard ts ≡ false)
pattern_from_subject ts some h =
    let literals = concrete-tests ts some ∙ literals-tests ts in
    let p = all_literals (list_all is_token ts) (list_any is_wildcard ts) (leb (length ts) 512) (rw literals at h) in
    (pattern-tests ts some ∙ rw (p.0, last_without_wildcard ts p.1, p.2) refl, p.1)

pub subject_from_no_fault : (text : List ℕ) → subject_fault text ≡ None → IsSubject (tokens_of text)
subject_from_no_fault text e =
    let p = neither (pattern_fault text) (list_any is_wildcard (tokens_of text)) e in
    subject_from_pattern (tokens_of text) (tokens_of-some text) (pattern_from_no_fault text p.0) p.1

pub no_fault_from_subject : (text : List ℕ) → IsSubject (tokens_of text) → subject_fault text ≡ None
no_fault_from_subject text h =
    let p = pattern_from_subject (tokens_of text) (tokens_of-some text) h in
    rw (no_fault_from_pattern text p.0, p.1) refl

pub taken_from_subject : (text : List ℕ) → IsSubject (tokens_of text) → subject_if text ≡ Some (tokens_of text)
taken_from_subject text h = rw (no_fault_from_subject text h) refl

refused_by : (fault : Option SubjectError) (text : List ℕ) → subject_fault text ≡ fault → is_subject (tokens_of text) ≡ false → subject_if text ≡ None
refused_by None text e h = absurd (false≢true (sym h ∙ subject_from_no_fault text e))
refused_by (Some fault) text e h = rw e refl

pub refused_from_other : (text : List ℕ) → is_subject (tokens_of text) ≡ false → subject_if text ≡ None
refused_from_other text h = refused_by (subject_fault text) text refl h
