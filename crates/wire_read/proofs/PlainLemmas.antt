-- A PUB that is written plainly is one of its frame's texts.
use Rattle.std.proofs.Common.{◌≡◌, ℕ, suc, ◌+◌, ◌-◌, ◌≤◌, Bool, true, false, not, cond, ltb, List, [], ◌∷◌, ◌++◌, length, take, drop, filter, Some, None, Ok, Err, refl, sym, ap, ◌∙◌, subst, arith, length-take, length-append, append_assoc}
use Rattle.std.specs.Prelude.{All}
use Rattle.std.specs.List.{prefix_len, slice_split}
use Rattle.std.specs.Str.Parse.{digits_value}
use Rattle.std.proofs.lemmas.Bool.{cond-true, ne_eqb, ltb-true}
use Rattle.std.proofs.lemmas.List.{get_or_at, take_at, drop_at, take-append-drop}
use Rattle.std.proofs.lemmas.List.Elements.{All-nil, All-cons, All-append}
use Rattle.std.proofs.lemmas.List.Splits.{slice_split_none, slice_split_at}
use Rattle.base.specs.Number.{is_number}
use Rattle.base.specs.Blanks.{is_blank}
use Rattle.wire_message.specs.Texts.{texts}
use Rattle.wire_read.specs.declared.fault.WireFault.TheVariants.{ParserError, Payload}
use Rattle.wire_read.specs.declared.frame.Frame.TheVariants as frame
use Rattle.wire_read.specs.declared.lines.operation.Operation.TheVariants as operations
use Rattle.wire_read.specs.lines.Line.{is_lf, without_cr}
use Rattle.wire_read.specs.lines.Field.{has_byte, fields}
use Rattle.wire_read.specs.lines.Operation.{operation}
use Rattle.wire_read.specs.Size.{size}
use Rattle.wire_read.specs.Front.{Whole, front}
use Rattle.wire_read.specs.Plain.{is_field_byte, IsPlain}
use Rattle.wire_read.specs.Grammar.{IsLine, Writes, Announces}
use Rattle.wire_read.proofs.SizeLemmas.{size_small}
use Rattle.wire_read.proofs.GrammarLemmas.{is_read}

abbrev IsWord : ℕ → Type 0
IsWord b = is_field_byte b ≡ true

-- the bytes of a word
words_by : (t : Bool) (x : ℕ) (xs : List ℕ) → is_field_byte x ≡ t → All IsWord (take (prefix_len is_field_byte xs) xs) →
    All IsWord (take (cond t (1 + prefix_len is_field_byte xs) 0) (x ∷ xs))
words_by true x xs is more = let next : 1 + prefix_len is_field_byte xs ≡ suc (prefix_len is_field_byte xs) = omega arith in rw next (All-cons IsWord x _ is more)
words_by false x xs is more = All-nil IsWord

words : (text : List ℕ) → All IsWord (take (prefix_len is_field_byte text) text)
words [] = All-nil IsWord
words (x ∷ xs) = words_by (is_field_byte x) x xs refl (words xs)

abbrev IsNoBlank : ℕ → Type 0
IsNoBlank b = is_blank b ≡ false

abbrev IsNoEnd : ℕ → Type 0
IsNoEnd b = is_lf b ≡ false

no_blank : (b : ℕ) → IsWord b → IsNoBlank b
no_blank b word =
    let above = ltb-true 32 b word in
    rw (ne_eqb b 32 (λ e. omega arith), ne_eqb b 9 (λ e. omega arith)) refl

no_end : (b : ℕ) → IsWord b → IsNoEnd b
no_end b word = let above = ltb-true 32 b word in ne_eqb b 10 (λ e. omega arith)

-- the line of a PUB, and the same with its end
abbrev line_with : List ℕ → List ℕ → List ℕ
line_with s d = 80 ∷ 85 ∷ 66 ∷ 32 ∷ (s ++ 32 ∷ d)

abbrev start_with : List ℕ → List ℕ → List ℕ
start_with s d = (line_with s d ++ 13 ∷ []) ++ 10 ∷ []

ended_cr : (line : List ℕ) → line ≡ without_cr (line ++ 13 ∷ [])
ended_cr line =
    let short : length (line ++ 13 ∷ []) - 1 ≡ length line = omega (arith, length-append line (13 ∷ [])) in
    rw (short, get_or_at line 13 [] 0 (length line) refl) (sym (take_at line (13 ∷ []) (length line) refl))

-- what holds of each byte of the name and of the rest
named : (P : ℕ → Type 0) (rest : List ℕ) → P 80 → P 85 → P 66 → All P rest → All P (80 ∷ 85 ∷ 66 ∷ rest)
named P rest p u b more = All-cons P 80 (85 ∷ 66 ∷ rest) p (All-cons P 85 (66 ∷ rest) u (All-cons P 66 rest b more))

line_bytes : (s d : List ℕ) → All IsWord s → All IsWord d → All IsNoEnd (line_with s d ++ 13 ∷ [])
line_bytes s d is_s is_d =
    let fields_bytes = All-append IsNoEnd s (32 ∷ d) (λ k x h. no_end _ (is_s k x h)) (All-cons IsNoEnd 32 d refl (λ k x h. no_end _ (is_d k x h))) in
    All-append IsNoEnd (line_with s d) (13 ∷ [])
    (named IsNoEnd (32 ∷ (s ++ 32 ∷ d)) refl refl refl (All-cons IsNoEnd 32 (s ++ 32 ∷ d) refl fields_bytes))
    (All-cons IsNoEnd 13 [] refl (All-nil IsNoEnd))

line_is : (s d : List ℕ) → All IsWord s → All IsWord d → length s ≤ 2000 → length d ≤ 2000 → IsLine (line_with s d) (start_with s d)
line_is s d is_s is_d few_s few_d =
    (line_with s d ++ 13 ∷ [], refl, line_bytes s d is_s is_d, ended_cr (line_with s d), omega (arith, length-append s (32 ∷ d)))

-- its fields
name_bytes : All IsNoBlank (80 ∷ 85 ∷ 66 ∷ [])
name_bytes = named IsNoBlank [] refl refl refl (All-nil IsNoBlank)

split_is : (s d : List ℕ) → All IsWord s → All IsWord d → slice_split is_blank (line_with s d) ≡ (80 ∷ 85 ∷ 66 ∷ []) ∷ s ∷ d ∷ []
split_is s d is_s is_d =
    slice_split_at is_blank (80 ∷ 85 ∷ 66 ∷ []) 32 (s ++ 32 ∷ d) name_bytes refl
    ∙ ap (λ ps. (80 ∷ 85 ∷ 66 ∷ []) ∷ ps)
    (slice_split_at is_blank s 32 d (λ k x h. no_blank _ (is_s k x h)) refl
    ∙ ap (λ ps. s ∷ ps) (slice_split_none is_blank d (λ k x h. no_blank _ (is_d k x h))))

fields_are : (s d : List ℕ) → All IsWord s → All IsWord d → has_byte s ≡ true → has_byte d ≡ true → fields (line_with s d) ≡ (80 ∷ 85 ∷ 66 ∷ []) ∷ s ∷ d ∷ []
unfolding fields
fields_are s d is_s is_d some_s some_d =
    ap (filter has_byte) (split_is s d is_s is_d)
    ∙ ap (λ ps. (80 ∷ 85 ∷ 66 ∷ []) ∷ ps) (cond-true (has_byte s) _ _ some_s ∙ ap (λ ps. s ∷ ps) (cond-true (has_byte d) _ _ some_d))

names_pub : operation (80 ∷ 85 ∷ 66 ∷ []) ≡ Some operations.Pub
unfolding operation
names_pub = refl

-- its size
writes_by : (number large : Bool) (v n : ℕ) → Ok n ≡ cond (not number) (Err ParserError) (cond large (Err Payload) (Ok v)) → (number ≡ true) × (v ≡ n)
writes_by false large v n is = cc
writes_by true true v n is = cc
writes_by true false v n is = let same : v ≡ n = cc in (refl, same)

writes : (d : List ℕ) (n : ℕ) → Ok n ≡ size d → Writes d n
unfolding size
writes d n is = writes_by (is_number d) (ltb 1048576 (digits_value 10 d)) (digits_value 10 d) n is

number_has_byte : (d : List ℕ) → is_number d ≡ true → has_byte d ≡ true
number_has_byte [] is = cc
number_has_byte (x ∷ xs) is = ap not (ne_eqb (length (x ∷ xs)) 0 (λ e. omega arith))

announces : (s d : List ℕ) (n : ℕ) → All IsWord s → All IsWord d → (length s ≡ 0 → ⊥) → Ok n ≡ size d → Announces (line_with s d) s None None n
announces s d n is_s is_d some is =
    let number = writes d n is in
    (d, (80 ∷ 85 ∷ 66 ∷ [], names_pub, fields_are s d is_s is_d (ap not (ne_eqb (length s) 0 some)) (number_has_byte d number.0)), number, size_small d n is)

-- the text of its frame, and what follows
abbrev text_with : List ℕ → List ℕ → List ℕ → List ℕ
text_with s d p = start_with s d ++ (p ++ 13 ∷ 10 ∷ [])

abbrev bytes_with : List ℕ → List ℕ → List ℕ → List ℕ
bytes_with s d rest = 80 ∷ 85 ∷ 66 ∷ 32 ∷ (s ++ 32 ∷ (d ++ 13 ∷ 10 ∷ rest))

start_then : (s d rest : List ℕ) → start_with s d ++ rest ≡ bytes_with s d rest
start_then s d rest =
    append_assoc (line_with s d ++ 13 ∷ []) (10 ∷ []) rest
    ∙ append_assoc (line_with s d) (13 ∷ []) (10 ∷ rest)
    ∙ ap (λ t. 80 ∷ 85 ∷ 66 ∷ 32 ∷ t) (append_assoc s (32 ∷ d) (13 ∷ 10 ∷ rest))

text_then : (s d p more : List ℕ) → text_with s d p ++ more ≡ bytes_with s d (p ++ 13 ∷ 10 ∷ more)
text_then s d p more =
    append_assoc (start_with s d) (p ++ 13 ∷ 10 ∷ []) more
    ∙ ap (λ t. start_with s d ++ t) (append_assoc p (13 ∷ 10 ∷ []) more)
    ∙ start_then s d (p ++ 13 ∷ 10 ∷ more)

start_len : (s d : List ℕ) → length (start_with s d) ≡ length s + length d + 7
start_len s d =
    omega (arith, length-append (line_with s d ++ 13 ∷ []) (10 ∷ []), length-append (line_with s d) (13 ∷ []), length-append s (32 ∷ d))

text_len : (s d p : List ℕ) → length (text_with s d p) ≡ length s + length d + 7 + length p + 2
text_len s d p =
    omega (arith, start_len s d, length-append (start_with s d) (p ++ 13 ∷ 10 ∷ []), length-append p (13 ∷ 10 ∷ []))

reads : (s d p more : List ℕ) → All IsWord s → All IsWord d → (length s ≡ 0 → ⊥) → length s ≤ 2000 → length d ≤ 2000 → Ok (length p) ≡ size d →
    front (bytes_with s d (p ++ 13 ∷ 10 ∷ more)) ≡ Whole (frame.Pub (texts s None [] p)) (length s + length d + 7 + length p + 2)
reads s d p more is_s is_d some few_s few_d is =
    ap front (sym (text_then s d p more))
    ∙ is_read (frame.Pub (texts s None [] p)) (text_with s d p) more (refl, (line_with s d, start_with s d, line_is s d is_s is_d few_s few_d, announces s d (length p) is_s is_d some is, refl))
    ∙ ap (Whole (frame.Pub (texts s None [] p))) (text_len s d p)

-- the texts stand at their places
at_places : (s d p more : List ℕ) → All IsWord s → All IsWord d → (length s ≡ 0 → ⊥) → length s ≤ 2000 → length d ≤ 2000 → Ok (length p) ≡ size d →
    IsPlain (record { subject = length s; start = length s + length d + 7; total = length p }) (bytes_with s d (p ++ 13 ∷ 10 ∷ more))
at_places s d p more is_s is_d some few_s few_d is =
    let rest : List ℕ = p ++ 13 ∷ 10 ∷ more in
    let long : length (bytes_with s d rest) ≡ length s + length d + 7 + length rest =
    ap length (sym (start_then s d rest)) ∙ length-append (start_with s d) rest ∙ ap (λ n. n + length rest) (start_len s d) in
    let behind : drop (length s + length d + 7) (bytes_with s d rest) ≡ rest =
    ap (drop (length s + length d + 7)) (sym (start_then s d rest)) ∙ drop_at (start_with s d) rest (length s + length d + 7) (start_len s d) in
    record {
      subject = omega arith;
      payload = omega (arith, long, length-append p (13 ∷ 10 ∷ more));
      whole =
          reads s d p more is_s is_d some few_s few_d is
          ∙ ap (λ t. Whole (frame.Pub (texts t None [] p)) (length s + length d + 7 + length p + 2)) (sym (take_at s (32 ∷ (d ++ 13 ∷ 10 ∷ rest)) (length s) refl))
          ∙ ap (λ t. Whole (frame.Pub (texts (take (length s) (drop 4 (bytes_with s d rest))) None [] t)) (length s + length d + 7 + length p + 2))
          (sym (ap (take (length p)) behind ∙ take_at p (13 ∷ 10 ∷ more) (length p) refl));
    }

-- what was found of some bytes, one part behind the other
pub found_plain : (bytes behind field block more : List ℕ) (n k total : ℕ) → bytes ≡ 80 ∷ 85 ∷ 66 ∷ 32 ∷ behind →
    n ≡ prefix_len is_field_byte behind → n ≤ length behind → drop n behind ≡ 32 ∷ field →
    k ≡ prefix_len is_field_byte field → k ≤ length field → drop k field ≡ 13 ∷ 10 ∷ block →
    (n ≡ 0 → ⊥) → n ≤ 2000 → k ≤ 2000 → Ok total ≡ size (take k field) → total ≤ length block → drop total block ≡ 13 ∷ 10 ∷ more →
    IsPlain (record { subject = n; start = n + k + 7; total = total }) bytes
found_plain bytes behind field block more n k total is is_n in_n at_n is_k in_k at_k some few_n few_k says in_total at_total =
    let s : List ℕ = take n behind in
    let d : List ℕ = take k field in
    let p : List ℕ = take total block in
    let len_s : length s ≡ n = omega (arith, length-take n behind) in
    let len_d : length d ≡ k = omega (arith, length-take k field) in
    let len_p : length p ≡ total = omega (arith, length-take total block) in
    let whole : bytes ≡ bytes_with s d (p ++ 13 ∷ 10 ∷ more) =
    is
    ∙ ap (λ t. 80 ∷ 85 ∷ 66 ∷ 32 ∷ t) (sym (take-append-drop n behind) ∙ ap (λ t. s ++ t) at_n)
    ∙ ap (λ t. 80 ∷ 85 ∷ 66 ∷ 32 ∷ (s ++ 32 ∷ t)) (sym (take-append-drop k field) ∙ ap (λ t. d ++ t) at_k)
    ∙ ap (λ t. bytes_with s d t) (sym (take-append-drop total block) ∙ ap (λ t. p ++ t) at_total) in
    let W : ℕ → List ℕ → Type 0 = λ m t. All IsWord (take m t) in
    let word_s : All IsWord s = subst (λ m. W m behind) (sym is_n) (words behind) in
    let word_d : All IsWord d = subst (λ m. W m field) (sym is_k) (words field) in
    let placed = at_places s d p more word_s word_d (λ e. some (sym len_s ∙ e)) (omega (arith, len_s)) (omega (arith, len_d)) (ap Ok len_p ∙ says) in
    let Q : ℕ → ℕ → ℕ → List ℕ → Type 0 = λ a b c t. IsPlain (record { subject = a; start = a + b + 7; total = c }) t in
    subst (Q n k total) (sym whole)
    (subst (λ c. Q n k c (bytes_with s d (p ++ 13 ∷ 10 ∷ more))) len_p
    (subst (λ b. Q n b (length p) (bytes_with s d (p ++ 13 ∷ 10 ∷ more))) len_d
    (subst (λ a. Q a (length d) (length p) (bytes_with s d (p ++ 13 ∷ 10 ∷ more))) len_s placed)))
