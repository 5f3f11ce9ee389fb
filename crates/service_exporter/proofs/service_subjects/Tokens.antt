-- The tokens of a route's subject.
use Rattle.std.proofs.Common.{◌≡◌, ◌∙◌, ◌==◌, ◌&&◌, ◌||◌, ◌<◌, ◌+◌, ◌/◌, ◌%◌, ◌^◌, ◌++◌, ◌∷◌, [], rules, ℕ, zero, suc, Bool, true, false, not, List, Some, ap, refl, arith, length, min, slice_index}
use Rattle.std.specs.Prelude.{All, codes}
use Rattle.std.specs.Char.{is_ascii_digit}
use Rattle.std.specs.Fmt.{decimal}
use Rattle.std.specs.Int.{byte_at, bytes_high_first}
use Rattle.std.specs.List.{list_all}
use Rattle.std.specs.Str.Parse.{digits_value}
use Rattle.std.specs.Cmp.Lexicographic.{pointwise_decides, bytes_decides}
use Rattle.std.proofs.lemmas.Bool.{and_parts, and_from, cond-true, ne_eqb}
use Rattle.std.proofs.lemmas.Bool.Decides.{nat_tests}
use Rattle.std.proofs.lemmas.Fmt.{decimal_by_steps, decimal_is_IsNumeral, decimal_nonempty}
use Rattle.std.proofs.lemmas.List.Elements.{All-nil, All-cons}
use Rattle.std.proofs.lemmas.List.Splits.{slice_split_none, slice_split_at}
use Rattle.base.specs.Number.{is_number}
use Rattle.hex.specs.Hex.{encode_with, lower_digits}
use Rattle.subjects.specs.Subject.{Token, IsSubject, is_literal, is_token, is_token_byte, is_wildcard, text_of, tokens_of}
use Rattle.service_exporter.specs.service_subjects.Names.{hex_of, is_on, number_of, route_subject}

-- no byte of a token is a dot
abbrev HasNoDot : Token → Type 0
HasNoDot t = All (λ b. (b == 46) ≡ false) t

no : (b : Bool) → not b ≡ true → b ≡ false
no true h = absurd (cc)
no false h = refl

-- ---- hexadecimal digits

at_place : (t : List ℕ) (d : ℕ) → list_all (λ b. not (b == 46)) t ≡ true → (slice_index t d == 46) ≡ false
at_place [] d h = refl
at_place (b ∷ bs) zero h = no (b == 46) (and_parts (not (b == 46)) (list_all (λ c. not (c == 46)) bs) h).0
at_place (b ∷ bs) (suc d) h = at_place bs d (and_parts (not (b == 46)) (list_all (λ c. not (c == 46)) bs) h).1

encoded : (bytes : List ℕ) → HasNoDot (encode_with lower_digits bytes)
unfolding encode_with
encoded [] = All-nil (λ b. (b == 46) ≡ false)
encoded (b ∷ bytes) =
    All-cons (λ c. (c == 46) ≡ false) (slice_index lower_digits (b / 16)) (slice_index lower_digits (b % 16) ∷ encode_with lower_digits bytes) (at_place lower_digits (b / 16) refl)
    (All-cons (λ c. (c == 46) ≡ false) (slice_index lower_digits (b % 16)) (encode_with lower_digits bytes) (at_place lower_digits (b % 16) refl) (encoded bytes))

-- ---- decimal digits

digit : (n : ℕ) → n < 10 → is_ascii_digit (48 + n) ≡ true
digit n lt = grind (arith, nat_tests, lt)

all_added : (ds : List ℕ) (d : ℕ) → list_all is_ascii_digit ds ≡ true → is_ascii_digit d ≡ true → list_all is_ascii_digit (ds ++ d ∷ []) ≡ true
all_added [] d all h = and_from (is_ascii_digit d) true h refl
all_added (e ∷ ds) d all h =
    let parts = and_parts (is_ascii_digit e) (list_all is_ascii_digit ds) all in
    and_from (is_ascii_digit e) (list_all is_ascii_digit (ds ++ d ∷ [])) parts.0 (all_added ds d parts.1 h)

all_digits : (n : ℕ) → n < 2 ^ 64 → list_all is_ascii_digit (decimal n) ≡ true
all_digits = decimal_by_steps (λ n ds. list_all is_ascii_digit ds ≡ true)
    (λ n lt. and_from (is_ascii_digit (48 + n)) true (digit n lt) refl)
    (λ n ds le h. all_added ds (48 + n % 10) h (digit (n % 10) (omega arith)))

digits_no_dot : (ds : List ℕ) → list_all is_ascii_digit ds ≡ true → HasNoDot ds
digits_no_dot [] h = All-nil (λ b. (b == 46) ≡ false)
digits_no_dot (b ∷ bs) h =
    let parts = and_parts (is_ascii_digit b) (list_all is_ascii_digit bs) h in
    let is : is_ascii_digit b ≡ true = parts.0 in
    All-cons (λ c. (c == 46) ≡ false) b bs (grind (arith, nat_tests, is)) (digits_no_dot bs parts.1)

pub number_of_decimal : (n : ℕ) → n < 2 ^ 64 → number_of (decimal n) ≡ Some n
number_of_decimal n small =
    let some : (length (decimal n) == 0) ≡ false = ne_eqb (length (decimal n)) 0 (λ e. absurd (omega (arith, e, decimal_nonempty n small))) in
    let whole : digits_value 10 (decimal n) ≡ n = (decimal_is_IsNumeral n small).1 in
    cond-true (is_number (decimal n)) _ _ (and_from _ _ (ap not some) (all_digits n small))
    ∙ ap Some (let m : min (digits_value 10 (decimal n)) 18446744073709551615 ≡ n = omega (arith, whole, small) in m)

-- ---- the whole subject

pub tokens_of_route : (word number : ℕ) → number < 2 ^ 64 → tokens_of (text_of (route_subject word number)) ≡ route_subject word number
tokens_of_route word number small =
    slice_split_at (λ b. b == 46) (codes "_R_") 46 (text_of (hex_of word ∷ decimal number ∷ [])) (search rules) refl
    ∙ ap (λ us. codes "_R_" ∷ us) (
    slice_split_at (λ b. b == 46) (hex_of word) 46 (text_of (decimal number ∷ [])) (encoded (bytes_high_first 8 word)) refl
    ∙ ap (λ us. hex_of word ∷ us) (slice_split_none (λ b. b == 46) (decimal number) (digits_no_dot (decimal number) (all_digits number small))))

-- ---- it is a subject

-- a byte that a literal token may have anywhere
abbrev is_plain : ℕ → Bool
is_plain b = is_token_byte b && not (b == 42 || b == 62)

plain_at : (t : List ℕ) (d : ℕ) → list_all is_plain t ≡ true → d < length t → is_plain (slice_index t d) ≡ true
plain_at [] d h within = absurd (omega (arith, within))
plain_at (b ∷ bs) zero h within = (and_parts (is_plain b) (list_all is_plain bs) h).0
plain_at (b ∷ bs) (suc d) h within = plain_at bs d (and_parts (is_plain b) (list_all is_plain bs) h).1 (omega (arith, within))

byte_small : (i n : ℕ) → byte_at i n < 256
byte_small zero n = omega arith
byte_small (suc i) n = omega arith

plain_encoded : (k n : ℕ) → list_all is_plain (encode_with lower_digits (bytes_high_first k n)) ≡ true
unfolding encode_with
plain_encoded zero n = refl
plain_encoded (suc k) n =
    let small : byte_at k n < 256 = byte_small k n in
    let high : byte_at k n / 16 < 16 = omega (arith, small) in
    let low : byte_at k n % 16 < 16 = omega arith in
    and_from (is_plain (slice_index lower_digits (byte_at k n / 16))) _ (plain_at lower_digits (byte_at k n / 16) refl high)
    (and_from (is_plain (slice_index lower_digits (byte_at k n % 16))) _ (plain_at lower_digits (byte_at k n % 16) refl low) (plain_encoded k n))

plain_digits : (ds : List ℕ) → list_all is_ascii_digit ds ≡ true → list_all is_plain ds ≡ true
plain_digits [] h = refl
plain_digits (b ∷ bs) h =
    let parts = and_parts (is_ascii_digit b) (list_all is_ascii_digit bs) h in
    let is : is_ascii_digit b ≡ true = parts.0 in
    and_from (is_plain b) (list_all is_plain bs) (grind (arith, nat_tests, is)) (plain_digits bs parts.1)

token_bytes : (t : List ℕ) → list_all is_plain t ≡ true → list_all is_token_byte t ≡ true
token_bytes [] h = refl
token_bytes (b ∷ bs) h =
    let parts = and_parts (is_plain b) (list_all is_plain bs) h in
    and_from (is_token_byte b) (list_all is_token_byte bs) (and_parts (is_token_byte b) (not (b == 42 || b == 62)) parts.0).0 (token_bytes bs parts.1)

neither : (x y p q : Bool) → not (x || y) ≡ true → not ((x && p) || (y && q)) ≡ true
neither true y p q h = absurd (cc)
neither false true p q h = absurd (cc)
neither false false p q h = refl

literal : (t : Token) → list_all is_plain t ≡ true → (length t == 0) ≡ false → is_literal t ≡ true
literal [] h some = absurd (cc)
literal (b ∷ bs) h some =
    let first = and_parts (is_token_byte b) (not (b == 42 || b == 62)) (and_parts (is_plain b) (list_all is_plain bs) h).0 in
    and_from (is_token (b ∷ bs)) (not (is_wildcard (b ∷ bs))) (token_bytes (b ∷ bs) h) (neither (b == 42) (b == 62) _ _ first.1)

pub is_subject_of_route : (word number : ℕ) → number < 2 ^ 64 → IsSubject (route_subject word number)
unfolding encode_with
is_subject_of_route word number small =
    let some : (length (decimal number) == 0) ≡ false = ne_eqb (length (decimal number)) 0 (λ e. absurd (omega (arith, e, decimal_nonempty number small))) in
    let hex : is_literal (hex_of word) ≡ true = literal (hex_of word) (plain_encoded 8 word) refl in
    let digits : is_literal (decimal number) ≡ true = literal (decimal number) (plain_digits (decimal number) (all_digits number small)) some in
    rw (hex, digits) refl

-- a subject that is a route's has that route's tokens
pub from_on : (s : List Token) (number word : ℕ) → is_on s number word ≡ true → s ≡ route_subject word number
from_on s number word h = (pointwise_decides bytes_decides s (route_subject word number)).0 h

pub rest_same : (t u : Token) (ts us : List Token) → t ∷ ts ≡ u ∷ us → ts ≡ us
rest_same t u ts us e = cc
