-- The fields of a line, taken off one by one.
use Rattle.std.proofs.Common.{◌≡◌, ℕ, suc, ◌+◌, Bool, true, false, not, cond, List, [], ◌∷◌, length, drop, filter, refl, sym, ap, ◌∙◌, subst, arith, length-take}
use Rattle.std.specs.List.{slice_split, onto_first, prefix_len, take_while}
use Rattle.std.proofs.lemmas.List.{drop_all}
use Rattle.std.proofs.lemmas.List.Sums.{take_while-cons, prefix_len-le-length}
use Rattle.std.proofs.lemmas.Bool.{cond-true, ne_eqb}
use Rattle.base.specs.Blanks.{is_blank}
use Rattle.wire_read.specs.lines.Field.{has_byte, fields, trimmed, first_field, after_first_field}

module _ (p : ℕ → Bool) where
  abbrev other : ℕ → Bool
  other x = not (p x)

  -- the parts behind the first
  abbrev others : List ℕ → List (List ℕ)
  others [] = []
  others (x ∷ xs) = cond (p x) (slice_split p xs) (others xs)

  split_cons : (t : Bool) (x : ℕ) (xs : List ℕ) → slice_split p xs ≡ take_while other xs ∷ others xs →
      cond t ([] ∷ slice_split p xs) (onto_first x (slice_split p xs)) ≡ cond (not t) (x ∷ take_while other xs) [] ∷ cond t (slice_split p xs) (others xs)
  split_cons true x xs e = refl
  split_cons false x xs e = rw e refl

  split_is : (xs : List ℕ) → slice_split p xs ≡ take_while other xs ∷ others xs
  split_is [] = refl
  split_is (x ∷ xs) = split_cons (p x) x xs (split_is xs) ∙ ap (λ f. f ∷ others (x ∷ xs)) (sym (take_while-cons other x xs))

  abbrev parts : List ℕ → List (List ℕ)
  parts xs = filter has_byte (slice_split p xs)

  others_cons : (t : Bool) (x : ℕ) (xs : List ℕ) → filter has_byte (others xs) ≡ parts (drop (prefix_len other xs) xs) →
      p x ≡ t → filter has_byte (cond t (slice_split p xs) (others xs)) ≡ parts (drop (cond (not t) (1 + prefix_len other xs) 0) (x ∷ xs))
  others_cons true x xs e is = rw is refl
  others_cons false x xs e is = let next : 1 + prefix_len other xs ≡ suc (prefix_len other xs) = omega arith in rw next e

  others_is : (xs : List ℕ) → filter has_byte (others xs) ≡ parts (drop (prefix_len other xs) xs)
  others_is [] = refl
  others_is (x ∷ xs) = others_cons (p x) x xs (others_is xs) refl

  trimmed_parts_cons : (t : Bool) (x : ℕ) (xs : List ℕ) → parts xs ≡ parts (drop (prefix_len p xs) xs) → p x ≡ t →
      parts (x ∷ xs) ≡ parts (drop (cond t (1 + prefix_len p xs) 0) (x ∷ xs))
  trimmed_parts_cons true x xs e is = let next : 1 + prefix_len p xs ≡ suc (prefix_len p xs) = omega arith in rw (is, next) e
  trimmed_parts_cons false x xs e is = refl

  trimmed_parts : (xs : List ℕ) → parts xs ≡ parts (drop (prefix_len p xs) xs)
  trimmed_parts [] = refl
  trimmed_parts (x ∷ xs) = trimmed_parts_cons (p x) x xs (trimmed_parts xs) refl

  -- behind the blanks in front stands a byte of a field, if any
  starts_cons : (t : Bool) (x : ℕ) (xs : List ℕ) → (prefix_len other (drop (prefix_len p xs) xs) ≡ 0 → drop (prefix_len p xs) xs ≡ []) → p x ≡ t →
      prefix_len other (drop (cond t (1 + prefix_len p xs) 0) (x ∷ xs)) ≡ 0 → drop (cond t (1 + prefix_len p xs) 0) (x ∷ xs) ≡ []
  starts_cons true x xs ih is e = let next : 1 + prefix_len p xs ≡ suc (prefix_len p xs) = omega arith in rw next (ih (rw next at e))
  starts_cons false x xs ih is e = absurd (no_room (prefix_len other xs) (rw is at e))
    where
      no_room : (n : ℕ) → 1 + n ≡ 0 → ⊥
      no_room n h = omega arith

  starts : (xs : List ℕ) → prefix_len other (drop (prefix_len p xs) xs) ≡ 0 → drop (prefix_len p xs) xs ≡ []
  starts [] e = refl
  starts (x ∷ xs) e = starts_cons (p x) x xs (starts xs) refl e

  no_prefix : (text : List ℕ) → length (take_while other text) ≡ 0 → prefix_len other text ≡ 0
  no_prefix text e = omega (arith, length-take (prefix_len other text) text, prefix_len-le-length other text)

  -- the parts of a text, of which the first is taken off
  parts_none : (text : List ℕ) → (prefix_len other text ≡ 0 → text ≡ []) → length (take_while other text) ≡ 0 → parts text ≡ []
  parts_none text is e = let P : List ℕ → Type 0 = λ t. parts t ≡ [] in subst P (sym (is (no_prefix text e))) refl

  parts_some : (text : List ℕ) → (length (take_while other text) ≡ 0 → ⊥) → parts text ≡ take_while other text ∷ parts (drop (prefix_len other text) text)
  parts_some text some =
      ap (filter has_byte) (split_is text)
      ∙ cond-true (has_byte (take_while other text)) _ _ (ap not (ne_eqb _ 0 some))
      ∙ ap (λ fs. take_while other text ∷ fs) (others_is text)

-- a line without a field, and one with
pub fields_none : (line : List ℕ) → length (first_field line) ≡ 0 → fields line ≡ []
unfolding fields
fields_none line e = trimmed_parts is_blank line ∙ parts_none is_blank (trimmed line) (starts is_blank line) e

pub fields_some : (line : List ℕ) → (length (first_field line) ≡ 0 → ⊥) → fields line ≡ first_field line ∷ fields (after_first_field line)
unfolding fields
fields_some line some = trimmed_parts is_blank line ∙ parts_some is_blank (trimmed line) some

-- nothing stands behind no field
pub after_none : (line : List ℕ) → length (first_field line) ≡ 0 → after_first_field line ≡ []
after_none line e =
    let nothing = starts is_blank line (no_prefix is_blank (trimmed line) e) in
    drop_all _ (trimmed line) (omega (arith, ap length nothing))

-- the fields of a line, of which the first was taken off
pub fields_end : (line field : List ℕ) → field ≡ first_field line → length field ≡ 0 → fields line ≡ []
fields_end line field is none = fields_none line (ap length (sym is) ∙ none)

pub fields_more : (line field rest : List ℕ) → field ≡ first_field line → rest ≡ after_first_field line → (length field ≡ 0 → ⊥) → fields line ≡ field ∷ fields rest
fields_more line field rest is after some =
    fields_some line (λ none. some (ap length is ∙ none)) ∙ rw (is, after) refl
