-- Steps of the walk over a text's bytes that tells whether it is a subject.
use Rattle.std.proofs.Common.{◌≡◌, ◌==◌, ◌≤◌, ◌<◌, ◌+◌, ◌-◌, ◌&&◌, ◌||◌, not, leb, ℕ, Bool, true, false, List, [], ◌∷◌, ◌++◌, length, take, drop, get_or, refl, sym, ap, ◌∙◌, arith}
use Rattle.std.specs.List.{All, list_all, list_any}
use Rattle.std.proofs.Math.Bool.{and-false}
use Rattle.std.proofs.lemmas.Bool.{and_parts, not-true}
use Rattle.std.proofs.lemmas.Bool.Decides.{nat_tests}
use Rattle.std.proofs.lemmas.List.{take-append-drop, take_more, take_rest, drop_more, drop-drop, length-drop, get_or-drop}
use Rattle.std.proofs.lemmas.List.Elements.{All-nil, All-cons}
use Rattle.std.proofs.lemmas.List.Folds.{list_all-append, list_all_at}
use Rattle.std.proofs.lemmas.List.Splits.{slice_split_at, slice_split_none}
use Rattle.subjects.specs.Subject.{Token, is_text_byte, is_token_byte, is_wildcard, is_literal, is_concrete, is_subject, tokens_of}
use Rattle.subjects.proofs.Grammar.{is_empty, has_token_bytes, bytes-tokens_of, not_empty, tokens-tests, tokens_of-some, literals-tests, concrete-tests}

-- neither empty nor a wildcard
abbrev pub is_name : Token → Bool
is_name t = not (length t == 0 || is_wildcard t)

-- the bytes from `start` up to `at`
abbrev pub between : List ℕ → ℕ → ℕ → Token
between text start at = take (at - start) (drop start text)

-- The tokens before `start` are literals, as many as dots, and the bytes from there on are a token's.
pub record IsWalked (text : List ℕ) (start dots at : ℕ) : Type 0 where
  pub within : start ≤ at
  pub inside : at ≤ length text
  pub counted : dots ≤ start
  pub bytes : has_token_bytes (between text start at) ≡ true
  pub literals : list_all is_literal (tokens_of text) ≡ list_all is_literal (tokens_of (drop start text))
  pub count : length (tokens_of text) ≡ dots + length (tokens_of (drop start text))

pub walked-none : (text : List ℕ) → IsWalked text 0 0 0
walked-none text =
    record { within = omega arith; inside = omega arith; counted = omega arith; bytes = refl; literals = refl; count = omega arith }

-- one byte more of a token
pub walked-byte : (text : List ℕ) (start dots at : ℕ) → IsWalked text start dots at → at < length text → is_token_byte (get_or text at 0) ≡ true → IsWalked text start dots (at + 1)
walked-byte text start dots at w inside byte =
    let within = w.within in
    let longer : at + 1 - start ≡ (at - start) + 1 = omega arith in
    let place : start + (at - start) ≡ at = omega arith in
    let more = take_more (drop start text) (at - start) 0 (omega (arith, length-drop start text)) in
    let read = get_or-drop start text (at - start) 0 ∙ ap (λ i. get_or text i 0) place in
    record {
      within = omega arith;
      inside = omega arith;
      counted = w.counted;
      bytes = ap (λ n. has_token_bytes (take n (drop start text))) longer ∙ ap has_token_bytes more ∙ list_all-append is_token_byte (between text start at) (get_or (drop start text) (at - start) 0 ∷ []) ∙ rw (w.bytes, read, byte) refl;
      literals = w.literals;
      count = w.count;
    }

-- a byte greater than the dot may stand in a token, and so may any other that may stand in a text but is no dot
pub high_byte : (b : ℕ) → b < 256 → 47 ≤ b → is_token_byte b ≡ true
high_byte b fits high = grind (arith, nat_tests)

pub other_byte : (b : ℕ) → is_text_byte b ≡ true → (b ≡ 46 → ⊥) → is_token_byte b ≡ true
other_byte b text dot = grind (arith, nat_tests)

no_dots : (t : Token) → has_token_bytes t ≡ true → All (λ b. (b == 46) ≡ false) t
no_dots [] h = All-nil _
no_dots (b ∷ bs) h =
    let here = and_parts (is_token_byte b) (has_token_bytes bs) h in
    All-cons (λ x. (x == 46) ≡ false) b bs (not-true (b == 46) (and_parts (is_text_byte b) (not (b == 46)) here.0).1) (no_dots bs here.1)

-- a list around one of its places
around : (xs : List ℕ) (n b : ℕ) → n < length xs → get_or xs n 0 ≡ b → xs ≡ take n xs ++ b ∷ drop (n + 1) xs
around xs n b h e =
    sym (take-append-drop n xs) ∙ ap (λ t. take n xs ++ t) (drop_more xs n 0 h ∙ ap (λ x. x ∷ drop (n + 1) xs) e)

-- the token before a dot is the first
cut : (xs : List ℕ) (n : ℕ) → n < length xs → has_token_bytes (take n xs) ≡ true → get_or xs n 0 ≡ 46 → tokens_of xs ≡ take n xs ∷ tokens_of (drop (n + 1) xs)
cut xs n h bytes dot =
    ap tokens_of (around xs n 46 h dot) ∙ slice_split_at (λ b. b == 46) (take n xs) 46 (drop (n + 1) xs) (no_dots (take n xs) bytes) refl

cut_at : (text : List ℕ) (start dots at : ℕ) → IsWalked text start dots at → at < length text → get_or text at 0 ≡ 46 → tokens_of (drop start text) ≡ between text start at ∷ tokens_of (drop (at + 1) text)
cut_at text start dots at w inside dot =
    let within = w.within in
    let place : start + (at - start) ≡ at = omega arith in
    let behind : start + ((at - start) + 1) ≡ at + 1 = omega arith in
    let read = get_or-drop start text (at - start) 0 ∙ ap (λ i. get_or text i 0) place ∙ dot in
    cut (drop start text) (at - start) (omega (arith, length-drop start text)) w.bytes read
    ∙ ap (λ rest. between text start at ∷ tokens_of rest) (drop-drop ((at - start) + 1) start text ∙ ap (λ n. drop n text) behind)

literal-name : (t : Token) → has_token_bytes t ≡ true → is_literal t ≡ is_name t
literal-name [] h = refl
literal-name (b ∷ bs) h = rw (h, not_empty b bs) refl

-- a dot behind a name
pub walked-dot : (text : List ℕ) (start dots at : ℕ) → IsWalked text start dots at → at < length text → get_or text at 0 ≡ 46 → is_name (between text start at) ≡ true → IsWalked text (at + 1) (dots + 1) (at + 1)
walked-dot text start dots at w inside dot name =
    let within = w.within in
    let counted = w.counted in
    let count = w.count in
    let cut = cut_at text start dots at w inside dot in
    let nothing : at + 1 - (at + 1) ≡ 0 = omega arith in
    record {
      within = omega arith;
      inside = omega arith;
      counted = omega arith;
      bytes = rw nothing refl;
      literals = w.literals ∙ ap (list_all is_literal) cut ∙ ap (λ b. b && list_all is_literal (tokens_of (drop (at + 1) text))) (literal-name (between text start at) w.bytes ∙ name);
      count = omega (arith, ap length cut);
    }

not_subject : (ts : List Token) → list_all is_literal ts ≡ false → is_subject ts ≡ false
not_subject [] h = refl
not_subject (t ∷ ts) h = rw h refl

-- a dot behind what is no name
pub refused-dot : (text : List ℕ) (start dots at : ℕ) → IsWalked text start dots at → at < length text → get_or text at 0 ≡ 46 → is_name (between text start at) ≡ false → is_subject (tokens_of text) ≡ false
refused-dot text start dots at w inside dot name =
    let cut = cut_at text start dots at w inside dot in
    not_subject (tokens_of text) (w.literals ∙ ap (list_all is_literal) cut ∙ ap (λ b. b && list_all is_literal (tokens_of (drop (at + 1) text))) (literal-name (between text start at) w.bytes ∙ name))

bytes_missing : (hollow bytes wild : Bool) → bytes ≡ false → ((not hollow && bytes) && not wild) ≡ false
bytes_missing true bytes wild e = refl
bytes_missing false bytes wild e = rw e refl

-- a byte that may stand in no text
pub refused-byte : (text : List ℕ) (at : ℕ) → at < length text → is_text_byte (get_or text at 0) ≡ false → is_subject (tokens_of text) ≡ false
refused-byte text at inside bad =
    let ts = tokens_of text in
    let bytes = bytes-tokens_of text ∙ list_all_at is_text_byte text at 0 inside bad in
    not_subject ts (literals-tests ts ∙ ap (λ b. b && not (list_any is_wildcard ts)) (tokens-tests ts) ∙ bytes_missing (list_any is_empty ts) (list_all has_token_bytes ts) (list_any is_wildcard ts) bytes)

-- the last token, whose bytes have all been read
last_bytes : (text : List ℕ) (start dots at : ℕ) → IsWalked text start dots at → length text ≤ at → has_token_bytes (between text start (length text)) ≡ true
last_bytes text start dots at w end =
    let inside = w.inside in
    let whole : length text ≡ at = omega arith in
    ap (λ n. has_token_bytes (between text start n)) whole ∙ w.bytes

last : (text : List ℕ) (start dots at : ℕ) → IsWalked text start dots at → length text ≤ at → tokens_of (drop start text) ≡ between text start (length text) ∷ []
last text start dots at w end =
    ap tokens_of (sym (take_rest text start))
    ∙ slice_split_none (λ b. b == 46) (between text start (length text)) (no_dots _ (last_bytes text start dots at w end))

trues : (b : Bool) → ((b && true) && true) ≡ b
trues true = refl
trues false = refl

-- the last token decides
pub answered : (text : List ℕ) (start dots at : ℕ) → IsWalked text start dots at → length text ≤ at → dots < 512 → is_name (between text start (length text)) ≡ is_subject (tokens_of text)
answered text start dots at w end few =
    let count = w.count in
    let one = last text start dots at w end in
    let name = literal-name (between text start (length text)) (last_bytes text start dots at w end) in
    let length_is : length (tokens_of text) ≤ 512 = omega (arith, ap length one) in
    let short : leb (length (tokens_of text)) 512 ≡ true = grind (arith, nat_tests, length_is) in
    let concrete = concrete-tests (tokens_of text) (tokens_of-some text) ∙ w.literals ∙ ap (list_all is_literal) one ∙ ap (λ b. b && true) name in
    sym (rw (concrete, short) (trues (is_name (between text start (length text)))))

-- too many tokens
pub refused-many : (text : List ℕ) (start dots at : ℕ) → IsWalked text start dots at → length text ≤ at → 512 ≤ dots → is_subject (tokens_of text) ≡ false
refused-many text start dots at w end many =
    let count = w.count in
    let one = last text start dots at w end in
    let length_is : 512 < length (tokens_of text) = omega (arith, ap length one) in
    let long : leb (length (tokens_of text)) 512 ≡ false = grind (arith, nat_tests, length_is) in
    ap (λ few. is_concrete (tokens_of text) && few) long ∙ and-false (is_concrete (tokens_of text))
