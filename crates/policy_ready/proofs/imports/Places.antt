-- The rows that are asked, found by their hashes.
use Rattle.std.proofs.Common.{◌≡◌, ◌∙◌, ◌&&◌, ◌+◌, ◌<◌, ℕ, zero, suc, Bool, true, false, true≢false, cond, append_assoc, List, [], ◌∷◌, ◌++◌, Option, None, length, take, map, filter, ap, sym, refl, subst, arith}
use Rattle.std.specs.Prelude.{All}
use Rattle.std.specs.List.{cons_option, filter_map, range_with_len, slice_index_or}
use Rattle.std.specs.Option.{option_map}
use Rattle.std.specs.Str.{bytes_eq}
use Rattle.std.proofs.lemmas.Bool.{and_parts}
use Rattle.std.proofs.lemmas.List.{get_or-map, length-map, map-append, take_more}
use Rattle.std.proofs.lemmas.List.Elements.{All-nil, All-cons}
use Rattle.std.proofs.lemmas.Slice.Eq.{bytes_eq-Decides}
use Rattle.subjects.specs.Subject.{Token, IsSubject, in_set, text_of, tokens_of}
use Rattle.subjects.specs.Fingerprint.{hash_from}
use Rattle.subjects.proofs.Text.{again}
use Rattle.mapping.specs.Pairs.{RowMap}
use Rattle.policy_doc.specs.declared.exports.document.Kind.{Kind}
use Rattle.policy_doc.specs.declared.exports.document.Kind.TheVariants as kind
use Rattle.subjects.specs.pattern_groups.Hashes.{front_from, IsOfFront}
use Rattle.subjects.specs.pattern_groups.Links.{at, PassesBehind}
use Rattle.subjects.proofs.pattern_groups.Fronts.{in_set-front}
use Rattle.policy_ready.specs.imports.Across.{across, across_by, crossed, crossing, entrance_of, first_by, source_of}
use Rattle.policy_ready.specs.imports.Rows.{is_crossed, no_row, hashes_of, row_by, row_hash, rows_at}
use Rattle.policy_ready.specs.declared.imports.rows.ImportRow.{ImportRow}
use Rattle.policy_ready.specs.declared.imports.view.ViewItem.{ViewItem}

-- what a row's entrance hasn't is nothing beyond it
not_entered : (k : Kind) (m : RowMap) (s : List Token) → in_set (first_by k m.outer m.local) s ≡ false → across_by k m s ≡ None
not_entered kind.Stream m s none = rw none refl
not_entered kind.Service m s none = rw none refl

-- a row that isn't crossed gives nothing
not_crossed : (a : List ℕ) (s : List Token) (r : ImportRow) → is_crossed a s r ≡ false → crossing a s r ≡ None
not_crossed a s r none = by (bytes_eq (source_of r) a) (in_set (entrance_of r) s) refl none
  where
    by : (c d : Bool) → in_set (entrance_of r) s ≡ d → (c && d) ≡ false → cond c (option_map (crossed r) (across r s)) None ≡ None
    by false d has none = refl
    by true false has none = ap (λ o. option_map (crossed r) o) (not_entered r.kind r.mapping s has)
    by true true has none = absurd (true≢false none)

-- what gives nothing may be left out
left_out : (f : ImportRow → Option ViewItem) (test : ImportRow → Bool) (row : ℕ → ImportRow) → ((r : ImportRow) → test r ≡ false → f r ≡ None) →
    (places : List ℕ) → filter_map f (map row (filter (λ i. test (row i)) places)) ≡ filter_map f (map row places)
left_out f test row gives [] = refl
left_out f test row gives (i ∷ places) = by (test (row i)) refl (left_out f test row gives places)
  where
    kept : List ℕ
    kept = filter (λ j. test (row j)) places

    by : (b : Bool) → test (row i) ≡ b → filter_map f (map row kept) ≡ filter_map f (map row places) → filter_map f (map row (cond b (i ∷ kept) kept)) ≡ filter_map f (map row (i ∷ places))
    by true e later = ap (λ l. cons_option (f (row i)) l) later
    by false e later = later ∙ sym (ap (λ o. cons_option o (filter_map f (map row places))) (gives (row i) e))

-- the rows at all places are the rows
behind_front : (front rows : List ImportRow) → map (row_by (front ++ rows)) (range_with_len (length front) (length rows)) ≡ rows
behind_front front [] = refl
behind_front front (r ∷ rows) =
    ap (λ x. x ∷ map (row_by (front ++ r ∷ rows)) (range_with_len (length front + 1) (length rows))) (first front)
    ∙ ap (λ l. r ∷ l) (again_as (append_assoc front (r ∷ []) rows) (longer front) (behind_front (front ++ r ∷ []) rows))
  where
    first : (front : List ImportRow) → slice_index_or (front ++ r ∷ rows) (length front) no_row ≡ r
    first [] = refl
    first (x ∷ front) = first front

    longer : (front : List ImportRow) → length (front ++ r ∷ []) ≡ length front + 1
    longer [] = refl
    longer (x ∷ front) = let it : length (front ++ r ∷ []) ≡ length front + 1 = longer front in omega (arith, it)

    again_as : {all other : List ImportRow} {m n : ℕ} → all ≡ other → m ≡ n → map (row_by all) (range_with_len m (length rows)) ≡ rows → map (row_by other) (range_with_len n (length rows)) ≡ rows
    again_as {all} {other} {m} {n} same as_long is = sym (ap (λ l. map (row_by l) (range_with_len n (length rows))) same) ∙ sym (ap (λ k. map (row_by all) (range_with_len k (length rows))) as_long) ∙ is

-- the rows that are crossed give what all rows give
pub crossed_give_all : (a : List ℕ) (s : List Token) (rows : List ImportRow) (hashes : List ℕ) (places : List ℕ) → hashes ≡ hashes_of rows →
    places ≡ filter (λ i. is_crossed a s (row_by rows i)) (range_with_len 0 (length hashes)) →
    filter_map (crossing a s) (rows_at rows places) ≡ filter_map (crossing a s) rows
crossed_give_all a s rows hashes places are is =
    ap (λ l. filter_map (crossing a s) (rows_at rows l)) (is ∙ ap (λ n. filter (λ i. is_crossed a s (row_by rows i)) (range_with_len 0 n)) (ap length are ∙ length-map rows row_hash))
    ∙ left_out (crossing a s) (is_crossed a s) (row_by rows) (not_crossed a s) (range_with_len 0 (length rows))
    ∙ ap (filter_map (crossing a s)) (behind_front [] rows)

-- and they are within the rows
pub places_within : (test : ℕ → Bool) (count : ℕ) → All (λ i. i < count) (filter test (range_with_len 0 count))
places_within test count = from 0 count (omega arith)
  where
    from : (a n : ℕ) → a + n ≡ count → All (λ i. i < count) (filter test (range_with_len a n))
    from a zero is = All-nil (λ i. i < count)
    from a (suc n) is = by (test a) (from (a + 1) n (omega (arith, is)))
      where
        by : (b : Bool) → All (λ i. i < count) (filter test (range_with_len (a + 1) n)) → All (λ i. i < count) (cond b (a ∷ filter test (range_with_len (a + 1) n)) (filter test (range_with_len (a + 1) n)))
        by true all = All-cons (λ i. i < count) a (filter test (range_with_len (a + 1) n)) (omega (arith, is)) all
        by false all = all

-- whatever row is crossed has the hash of the account and of some of the subject's first tokens
pub crossed_by_front : (a : List ℕ) (s : List Token) (rows : List ImportRow) (hashes text : List ℕ) → hashes ≡ hashes_of rows → IsSubject s → text ≡ text_of s →
    PassesBehind (λ i. is_crossed a s (row_by rows i)) hashes (hash_from 7 a) (tokens_of text)
crossed_by_front a s rows hashes text are subject is j below passes =
    let r = row_by rows j in
    let inside : j < length rows = omega (arith, below, ap length are ∙ length-map rows row_hash) in
    let parts = and_parts (bytes_eq (source_of r) a) (in_set (entrance_of r) s) passes in
    let source : source_of r ≡ a = (bytes_eq-Decides (source_of r) a).0 parts.0 in
    let hash : at hashes j ≡ front_from (hash_from 7 a) (entrance_of r) =
    ap (λ ns. at ns j) are ∙ get_or-map row_hash rows j no_row 0 inside ∙ ap (λ e. front_from (hash_from 7 e) (entrance_of r)) source in
    subst (λ k. IsOfFront k (hash_from 7 a) (tokens_of text)) (sym hash)
    (subst (λ ts. IsOfFront (front_from (hash_from 7 a) (entrance_of r)) (hash_from 7 a) ts) (sym (ap tokens_of is ∙ again s subject))
    (in_set-front (hash_from 7 a) (entrance_of r) s parts.1))

-- a place more
pub place_more : (rows : List ImportRow) (places : List ℕ) (i : ℕ) → i < length places →
    rows_at rows (take (i + 1) places) ≡ rows_at rows (take i places) ++ row_by rows (slice_index_or places i 0) ∷ []
place_more rows places i below = ap (rows_at rows) (take_more places i 0 below) ∙ map-append (row_by rows) (take i places) (slice_index_or places i 0 ∷ [])

-- there are as many hashes as rows
pub as_many : (hashes : List ℕ) (rows : List ImportRow) → hashes ≡ hashes_of rows → length hashes ≡ length rows
as_many hashes rows are = ap length are ∙ length-map rows row_hash
