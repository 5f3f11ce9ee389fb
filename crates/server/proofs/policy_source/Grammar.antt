-- Where no frame stands.
use Rattle.std.proofs.Common.{◌≡◌, ◌≢◌, ◌≤◌, ◌<◌, ◌+◌, ◌&&◌, ℕ, List, [], ◌∷◌, ◌++◌, Option, Some, None, Bool, true, false, not, length, arith, refl, sym, ap, subst, ◌∙◌, true≢false, length-append, append_assoc, ◌==◌, ◌-◌, ◌^◌, ◌⊎◌, inl, inr, min, is_some, if◌then◌else◌, take, drop, set, rules, take-add, take-take, take_at, drop_at, length-take-le, length-drop}
use Rattle.std.proofs.lemmas.Slice.{take-put_mid}
use borrow.Rule.Slice.PartMut.{put_mid, same_len_mid}
use Rattle.std.specs.Str.{all_ascii_digits}
use Rattle.std.specs.Str.Parse.{digits_value}
use Rattle.std.proofs.lemmas.Str.Parse.{numerals_by_value, tells_all_ascii_digits, digits_value_short}
use Rattle.std.proofs.lemmas.Grind.{take-set_at}
use Rattle.std.proofs.lemmas.List.Folds.{list_all-append}
use Rattle.server.specs.declared.policy_source.Next.{Next}
use Rattle.server.specs.declared.policy_source.Next.TheVariants as next
use Rattle.server.specs.declared.policy_source.frames.Piece.{Piece}
use Rattle.server.specs.declared.policy_source.frames.Piece.TheVariants.{Digit, LineFeed, Other, End, Failed}
use Rattle.server.specs.declared.policy_source.frames.Size.{Size}
use Rattle.server.specs.declared.policy_source.frames.Size.TheVariants.{Bytes, Bad}
use Rattle.server.specs.declared.policy_source.frames.Size.TheVariants as sizes
use Rattle.std.specs.Char.{is_ascii_digit}
use Rattle.std.specs.List.{list_all}
use Rattle.std.specs.Io.KnownBytes.{Consumes, IsAtEnd}
use Rattle.std.proofs.lemmas.Bool.{and_parts}
use Rattle.base.specs.Number.{is_number}
use Rattle.server.specs.policy_source.Frames.{frame, HasNoFrame, HasNoSize, IsNext, IsPiece, IsShort, IsSize, IsSized, IsSizeOf, IsTextOf}

-- one part is read after the other
pub consumes_more : (old mid new : Option (List ℕ)) (front more : List ℕ) → Consumes old mid front → Consumes mid new more → Consumes old new (front ++ more)
consumes_more None mid new front more first next = tt
consumes_more (Some xs) None new front more first next = absurd first
consumes_more (Some xs) (Some ys) None front more first next = absurd next
consumes_more (Some xs) (Some ys) (Some zs) front more first next = first ∙ ap (λ l. front ++ l) next ∙ sym (append_assoc front more zs)

-- a byte, and then more
pushed : (front : List ℕ) (b : ℕ) (more : List ℕ) → (front ++ b ∷ []) ++ more ≡ front ++ b ∷ more
pushed [] b more = refl
pushed (x ∷ front) b more = ap (λ l. x ∷ l) (pushed front b more)

-- a number's bytes are digits
digits_of : (ds : List ℕ) → is_number ds ≡ true → list_all is_ascii_digit ds ≡ true
digits_of ds is = (and_parts (not (length ds == 0)) (list_all is_ascii_digit ds) is).1

same_test : (ds : List ℕ) → list_all is_ascii_digit ds ≡ all_ascii_digits ds
same_test [] = refl
same_test (d ∷ ds) = ap (λ b. is_ascii_digit d && b) (same_test ds)

head_digit : (d : ℕ) (ds : List ℕ) → list_all is_ascii_digit (d ∷ ds) ≡ true → (is_ascii_digit d ≡ true) × (list_all is_ascii_digit ds ≡ true)
head_digit d ds all = and_parts (is_ascii_digit d) (list_all is_ascii_digit ds) all

-- digits stand before the LF
before_feed : (ds es rest text : List ℕ) → list_all is_ascii_digit ds ≡ true → ds ++ rest ≡ es ++ 10 ∷ text → length ds ≤ length es
before_feed [] es rest text all same = omega arith
before_feed (d ∷ ds) [] rest text all same =
    let is : d ≡ 10 = cc in
    absurd (true≢false (sym (head_digit d ds all).0 ∙ ap is_ascii_digit is))
before_feed (d ∷ ds) (e ∷ es) rest text all same =
    let tails : ds ++ rest ≡ es ++ 10 ∷ text = cc in
    let less : length ds ≤ length es = before_feed ds es rest text (head_digit d ds all).1 tails in
    omega (arith, less)

-- what stands behind them is the LF
feed_behind : (ds es rest text : List ℕ) (b : ℕ) → list_all is_ascii_digit ds ≡ true → list_all is_ascii_digit es ≡ true → is_ascii_digit b ≡ false → ds ++ b ∷ rest ≡ es ++ 10 ∷ text → (b ≡ 10) × (ds ≡ es)
feed_behind [] [] rest text b ds-all es-all other same = (cc, refl)
feed_behind [] (e ∷ es) rest text b ds-all es-all other same =
    let is : b ≡ e = cc in
    absurd (true≢false (sym (head_digit e es es-all).0 ∙ ap is_ascii_digit (sym is) ∙ other))
feed_behind (d ∷ ds) [] rest text b ds-all es-all other same =
    let is : d ≡ 10 = cc in
    absurd (true≢false (sym (head_digit d ds ds-all).0 ∙ ap is_ascii_digit is))
feed_behind (d ∷ ds) (e ∷ es) rest text b ds-all es-all other same =
    let tails : ds ++ b ∷ rest ≡ es ++ 10 ∷ text = cc in
    let more = feed_behind ds es rest text b (head_digit d ds ds-all).1 (head_digit e es es-all).1 other tails in
    let heads : d ≡ e = cc in
    (more.0, ap (λ l. d ∷ l) more.1 ∙ ap (λ x. x ∷ es) heads)

some_is : (xs ys : List ℕ) → ◌≡◌ {A = Option (List ℕ)} (Some xs) (Some ys) → xs ≡ ys
some_is xs ys is = cc

-- what isn't known is no list
unknown : (whole : List ℕ) → ◌≡◌ {A = Option (List ℕ)} None (Some whole) → ⊥
unknown whole is = true≢false (sym (ap (λ (o : Option (List ℕ)). is_some o) is))

-- what is left begins so, where it is known
known : (left after : Option (List ℕ)) (front whole : List ℕ) → Consumes left after front → left ≡ Some whole → (rest : List ℕ) × (whole ≡ front ++ rest)
known None after front whole consumes is = absurd (unknown whole is)
known (Some xs) None front whole consumes is = absurd consumes
known (Some xs) (Some ys) front whole consumes is =
    (ys, sym (some_is xs whole is) ∙ consumes)

-- a byte that is neither a digit nor an LF
pub no_size_other : (left after : Option (List ℕ)) (ds : List ℕ) (b : ℕ) → list_all is_ascii_digit ds ≡ true → is_ascii_digit b ≡ false → b ≢ 10 → Consumes left after (ds ++ b ∷ []) → HasNoSize left
no_size_other left after ds b all other no-feed consumes = λ es text size is.
    let k = known left after (ds ++ b ∷ []) (frame es text) consumes is in
    let same : ds ++ b ∷ k.0 ≡ es ++ 10 ∷ text = sym (pushed ds b k.0) ∙ sym k.1 in
    no-feed (feed_behind ds es k.0 text b all (digits_of es size.number) other same).0

-- an LF without a digit
pub no_size_empty : (left after : Option (List ℕ)) (ds : List ℕ) → list_all is_ascii_digit ds ≡ true → is_number ds ≡ false → Consumes left after (ds ++ 10 ∷ []) → HasNoSize left
no_size_empty left after ds all none consumes = λ es text size is.
    let k = known left after (ds ++ 10 ∷ []) (frame es text) consumes is in
    let same : ds ++ 10 ∷ k.0 ≡ es ++ 10 ∷ text = sym (pushed ds 10 k.0) ∙ sym k.1 in
    let whole : ds ≡ es = (feed_behind ds es k.0 text 10 all (digits_of es size.number) refl same).1 in
    true≢false (sym size.number ∙ ap is_number (sym whole) ∙ none)

-- the end where an LF is due
pub no_size_end : (left after : Option (List ℕ)) (ds : List ℕ) → list_all is_ascii_digit ds ≡ true → Consumes left after ds → IsAtEnd after → HasNoSize left
no_size_end None after ds all consumes end = λ es text size is. unknown (frame es text) is
no_size_end (Some xs) None ds all consumes end = absurd consumes
no_size_end (Some xs) (Some ys) ds all consumes end = λ es text size is.
    let whole : xs ≡ es ++ 10 ∷ text = some_is xs (es ++ 10 ∷ text) is in
    let same : ds ++ ys ≡ es ++ 10 ∷ text = sym consumes ∙ whole in
    let less : length ds ≤ length es = before_feed ds es ys text all same in
    let counts : length ds + length ys ≡ length es + length (10 ∷ text) = sym (length-append ds ys) ∙ ap length same ∙ length-append es (10 ∷ text) in
    let nothing : length ys ≡ 0 = ap length end in
    omega (arith, less, counts, nothing)

-- more digits than a size has
pub no_size_long : (left after : Option (List ℕ)) (ds : List ℕ) → list_all is_ascii_digit ds ≡ true → 7 < length ds → Consumes left after ds → HasNoSize left
no_size_long left after ds all long consumes = λ es text size is.
    let k = known left after ds (frame es text) consumes is in
    let less : length ds ≤ length es = before_feed ds es k.0 text all (sym k.1) in
    omega (arith, less, long, size.few)

-- one more digit is read into its place
pub read_more : (left mid after : Option (List ℕ)) (ds : List ℕ) (i j d : ℕ) → j ≡ i + 1 → i < length ds → Consumes left mid (take i ds) → Consumes mid after (d ∷ []) → Consumes left after (take j (set ds i d))
read_more left mid after ds i j d next within first one = subst (λ (l : List ℕ). Consumes left after l) (sym (take-set_at ds i j d next within)) (consumes_more left mid after (take i ds) (d ∷ []) first one)

all_digits : (ds : List ℕ) (d : ℕ) → list_all is_ascii_digit ds ≡ true → is_ascii_digit d ≡ true → list_all is_ascii_digit (ds ++ d ∷ []) ≡ true
all_digits ds d all one = search (rules, list_all-append, all, one)

pub digits_more : (ds : List ℕ) (i j d : ℕ) → j ≡ i + 1 → i < length ds → list_all is_ascii_digit (take i ds) ≡ true → is_ascii_digit d ≡ true → list_all is_ascii_digit (take j (set ds i d)) ≡ true
digits_more ds i j d next within all one = ap (list_all is_ascii_digit) (take-set_at ds i j d next within) ∙ all_digits (take i ds) d all one

-- the bytes before an LF write a size, or none stands there
pub sized_by : (left mid after : Option (List ℕ)) (fails : Bool) (ds : List ℕ) (r : Size) → list_all is_ascii_digit ds ≡ true → length ds ≤ 7 → Consumes left mid ds → Consumes mid after (10 ∷ []) → IsSizeOf ds r → IsSized left after fails r
sized_by left mid after fails ds (Bytes size) all few first feed is = (ds, record { number = is.0; few = few }, is.1, consumes_more left mid after ds (10 ∷ []) first feed)
sized_by left mid after fails ds sizes.End all few first feed is = absurd is
sized_by left mid after fails ds Bad all few first feed is = inr (no_size_empty left after ds all is (consumes_more left mid after ds (10 ∷ []) first feed))

-- what stands behind seven digits is no LF
pub bad_piece : (left mid after : Option (List ℕ)) (fails : Bool) (ds : List ℕ) (p : Piece) → list_all is_ascii_digit ds ≡ true → length ds ≡ 7 → Consumes left mid ds → p ≢ LineFeed → IsPiece mid after fails p → (fails ≡ true) ⊎ HasNoSize left
bad_piece left mid after fails ds (Digit d) all seven first other is =
    let long : 7 < length (ds ++ d ∷ []) = omega (arith, length-append ds (d ∷ []), seven) in
    inr (no_size_long left after (ds ++ d ∷ []) (all_digits ds d all is.0) long (consumes_more left mid after ds (d ∷ []) first is.1))
bad_piece left mid after fails ds LineFeed all seven first other is = absurd (other refl)
bad_piece left mid after fails ds Other all seven first other is = inr (no_size_other left after ds is.0 all is.1 is.2 (consumes_more left mid after ds (is.0 ∷ []) first is.3))
bad_piece left mid after fails ds End all seven first other is = inr (no_size_end left mid ds all first is)
bad_piece left mid after fails ds Failed all seven first other is = inl is

-- seven digits write a small number
pub small_size : (ds : List ℕ) (n : ℕ) → length ds ≤ 7 → Some n ≡ (if is_number ds then Some (min (digits_value 10 ds) (2 ^ 64 - 1)) else None) → IsSizeOf ds (Bytes n)
small_size ds n few is = by (is_number ds) refl is
  where
    small : list_all is_ascii_digit ds ≡ true → digits_value 10 ds < 10 ^ 7
    small all = digits_value_short (numerals_by_value (λ ds. all_ascii_digits ds ≡ true) tells_all_ascii_digits) ds 7 (sym (same_test ds) ∙ all) few

    by : (b : Bool) → is_number ds ≡ b → Some n ≡ (if b then Some (min (digits_value 10 ds) (2 ^ 64 - 1)) else None) → IsSizeOf ds (Bytes n)
    by false e h = absurd (true≢false (ap (λ (o : Option ℕ). is_some o) h))
    by true e h =
        let cut : n ≡ min (digits_value 10 ds) 18446744073709551615 = cc in
        let below : digits_value 10 ds < 10 ^ 7 = small (digits_of ds e) in
        (e, omega (arith, below))

-- fewer bytes are left than the size says
no_frame : (left mid : Option (List ℕ)) (size : ℕ) (ds : List ℕ) → IsSize ds → size ≡ digits_value 10 ds → Consumes left mid (ds ++ 10 ∷ []) → IsShort size mid → HasNoFrame left
no_frame None mid size ds sized is first short = λ es text rest whole-of same. unknown (frame es text ++ rest) same
no_frame (Some xs) None size ds sized is first short = absurd first
no_frame (Some xs) (Some ys) size ds sized is first short = λ es text rest whole-of same.
    let whole : xs ≡ (es ++ 10 ∷ text) ++ rest = some_is xs ((es ++ 10 ∷ text) ++ rest) same in
    let one : ds ++ 10 ∷ ys ≡ es ++ 10 ∷ (text ++ rest) = sym (pushed ds 10 ys) ∙ sym first ∙ whole ∙ append_assoc es (10 ∷ text) rest in
    let digits : ds ≡ es = (feed_behind ds es ys (text ++ rest) 10 (digits_of ds sized.number) (digits_of es whole-of.size.number) refl one).1 in
    let tails : ds ++ 10 ∷ ys ≡ ds ++ 10 ∷ (text ++ rest) = one ∙ ap (λ l. l ++ 10 ∷ (text ++ rest)) (sym digits) in
    let counts : length ds + length (10 ∷ ys) ≡ length ds + length (10 ∷ (text ++ rest)) = sym (length-append ds (10 ∷ ys)) ∙ ap length tails ∙ length-append ds (10 ∷ (text ++ rest)) in
    let some : length text ≡ size = whole-of.whole ∙ ap (digits_value 10) (sym digits) ∙ sym is in
    omega (arith, counts, some, short, length-append text rest)

-- a frame is a size and its text
pub frame_whole : (left mid after : Option (List ℕ)) (fails : Bool) (size : ℕ) (r : Next) → IsSized left mid fails (Bytes size) → IsTextOf size mid after fails r → IsNext left after fails r
frame_whole left mid after fails size (next.Text text) sized is =
    let digits = sized.0 in (
      digits,
      record { size = sized.1; whole = is.0 ∙ sized.2 },
      subst (λ (l : List ℕ). Consumes left after l) (pushed digits 10 text.items) (consumes_more left mid after (digits ++ 10 ∷ []) text.items sized.3 is.1),
    )
frame_whole left mid after fails size next.Later sized is = absurd is
frame_whole left mid after fails size next.End sized is = absurd is
frame_whole left mid after fails size next.Bad sized (inl failed) = inl failed
frame_whole left mid after fails size next.Bad sized (inr short) = inr (no_frame left mid size sized.0 sized.1 sized.2 sized.3 short)
frame_whole left mid after fails size next.NoMemory sized is = tt

-- more of a buffer is filled
pub front_more : (buf ys : List ℕ) (d k n : ℕ) → d ≤ length buf → n ≤ length ys → take (d + n) (put_mid d k buf ys) ≡ take d buf ++ take n ys
front_more buf ys d k n within few =
    let front = length-take-le d buf within in
    sym (take-take (d + n) (d + length ys) (put_mid d k buf ys) (omega arith)) ∙ ap (take (d + n)) (take-put_mid d k buf ys (d + length ys) refl within) ∙ take-add d n (take d buf ++ ys)
    ∙ (λ i. take_at (take d buf) ys d front i ++ take n (drop_at (take d buf) ys d front i))

pub length_more : (buf ys : List ℕ) (d k : ℕ) → d ≤ length buf → k ≡ length buf - d → length ys ≡ k → length (put_mid d k buf ys) ≡ length buf
length_more buf ys d k within rest whole = same_len_mid d k buf ys (omega (arith, whole, rest, length-take-le k (drop d buf) (omega (arith, rest, length-drop d buf))))

pub filled_more : (left mid after : Option (List ℕ)) (buf ys : List ℕ) (d k n : ℕ) → d ≤ length buf → n ≤ length ys → Consumes left mid (take d buf) → Consumes mid after (take n ys) → Consumes left after (take (d + n) (put_mid d k buf ys))
filled_more left mid after buf ys d k n within few first next = subst (λ (l : List ℕ). Consumes left after l) (sym (front_more buf ys d k n within few)) (consumes_more left mid after (take d buf) (take n ys) first next)
