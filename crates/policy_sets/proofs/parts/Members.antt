-- Members that are made one after the other, and how deep they nest.
use Rattle.std.proofs.Common.{◌≡◌, ◌≤◌, ◌∙◌, ℕ, List, [], ◌∷◌, ◌++◌, Bool, true, false, Option, Some, None, Less, Greater, string_bytes, string_cmp, refl, sym, ap, subst, append_assoc, arith}
use Rattle.std.specs.Prelude.{⊤, IsUtf8, codes, if◌then◌else◌, max}
use Rattle.std.specs.Str.{bytes_eq}
use Rattle.std.proofs.lemmas.Str.{is_utf8-from_IsUtf8}
use Rattle.std.proofs.lemmas.Cmp.{nat_list_cmp_total}
use Rattle.std.specs.Cmp.Lexicographic.{slice_cmp}
use Rattle.std.specs.List.{AllByRecursion}
use Rattle.std.specs.List.Sorted.{IsStrictlySortedBy}
use Rattle.std.specs.Map.{keys_of}
use Rattle.std.specs.Ordering.{nat_cmp, ordering_reverse}
use Rattle.serde_json.specs.Data.{Data, null, boolean, number, string, array, object, Members, no_members, member, put, depth, members_depth}
use Rattle.serde_json.specs.Read.{read}
use Rattle.serde_json.specs.View.{view, members_view}
use Rattle.serde_json.proofs.Views.{Entry}
use Rattle.json_text.specs.Json.{json_of}
use Rattle.policy_doc.specs.Accounts.{Name}
use Rattle.policy_sets.specs.parts.Parts.{account_if, accounts_kept, before, each_member, on_object, part_of, top_kept}

-- a member is put at its key, if it has a value
abbrev pub put_if : List ℕ → Option Data → Members → Members
put_if key None ms = ms
put_if key (Some d) ms = put key d ms

first_before : (first : Entry) (done : List Entry) (e : Entry) (more : List Entry) → AllByRecursion (λ y. string_cmp first.0 y ≡ Less) (keys_of (done ++ e ∷ more)) → string_cmp first.0 e.0 ≡ Less
first_before first [] e more h = h.0
first_before first (x ∷ done) e more h = first_before first done e more h.1

-- what is put above the first member goes behind it
behind : (key first : List ℕ) (value : Option Data) (made : Option Data) (ms : Members) → slice_cmp nat_cmp key first ≡ Greater → put_if key value (before first made ms) ≡ before first made (put_if key value ms)
behind key first None made ms above = refl
behind key first (Some d) None ms above = refl
behind key first (Some d) (Some e) ms above = rw above refl

-- the member with the greatest key is made last
pub made_last : (made : List ℕ → Data → Option Data) (done : List Entry) (e : Entry) (more : List Entry) → IsStrictlySortedBy string_cmp (keys_of (done ++ e ∷ more))
    → each_member made (members_view (done ++ e ∷ [])) ≡ put_if (string_bytes e.0) (made (string_bytes e.0) (view e.1)) (each_member made (members_view done))
unfolding IsStrictlySortedBy
made_last made [] e more h = alone (made (string_bytes e.0) (view e.1))
  where
    alone : (value : Option Data) → before (string_bytes e.0) value no_members ≡ put_if (string_bytes e.0) value no_members
    alone None = refl
    alone (Some d) = refl
made_last made (first ∷ done) e more h =
    let above : slice_cmp nat_cmp (string_bytes e.0) (string_bytes first.0) ≡ Greater =
    nat_list_cmp_total.antisymm (string_bytes e.0) (string_bytes first.0) ∙ ap ordering_reverse (first_before first done e more h.0) in
    ap (before (string_bytes first.0) (made (string_bytes first.0) (view first.1))) (made_last made done e more h.1)
    ∙ sym (behind (string_bytes e.0) (string_bytes first.0) (made (string_bytes e.0) (view e.1)) (made (string_bytes first.0) (view first.1)) (each_member made (members_view done)) above)

-- one member more is made
pub one_more : (made : List ℕ → Data → Option Data) (members done left : List Entry) (e : Entry) (kept after : List Entry) → members ≡ done ++ e ∷ left → IsStrictlySortedBy string_cmp (keys_of members) → members_view kept ≡ each_member made (members_view done)
    → members_view after ≡ put_if (string_bytes e.0) (made (string_bytes e.0) (view e.1)) (members_view kept) → (x : List Entry) × (members ≡ x ++ left) × (members_view after ≡ each_member made (members_view x))
one_more made members done left e kept after all ordered so_far here = (
  done ++ e ∷ [],
  all ∙ sym (append_assoc done (e ∷ []) left),
  here ∙ ap (put_if (string_bytes e.0) (made (string_bytes e.0) (view e.1))) so_far ∙ sym (made_last made done e left (subst (λ (es : List Entry). IsStrictlySortedBy string_cmp (keys_of es)) all ordered)),
)

-- ---- how deep the values nest that are made

abbrev IsNoDeeper : Option Data → Data → Type 0
IsNoDeeper None d = ⊤
IsNoDeeper (Some made) d = depth made ≤ depth d

before_depth : (key : List ℕ) (value : Option Data) (d : Data) (rest ms : Members) → IsNoDeeper value d → members_depth rest ≤ members_depth ms → members_depth (before key value rest) ≤ max (depth d) (members_depth ms)
before_depth key None d rest ms h below = omega (arith, below)
before_depth key (Some made) d rest ms h below = omega (arith, h, below)

each_depth : (made : List ℕ → Data → Option Data) → ((key : List ℕ) (d : Data) → IsNoDeeper (made key d) d) → (ms : Members) → members_depth (each_member made ms) ≤ members_depth ms
each_depth made h no_members = omega arith
each_depth made h (member key d ms) = before_depth key (made key d) d (each_member made ms) ms (h key d) (each_depth made h ms)

on_object_depth : (made : List ℕ → Data → Option Data) → ((key : List ℕ) (d : Data) → IsNoDeeper (made key d) d) → (d : Data) → depth (on_object made d) ≤ depth d
on_object_depth made h null = omega arith
on_object_depth made h (boolean b) = omega arith
on_object_depth made h (number n) = omega arith
on_object_depth made h (string s) = omega arith
on_object_depth made h (array ds) = omega arith
on_object_depth made h (object ms) = omega (arith, each_depth made h ms)

account_depth : (K : Name → Bool) (name : Name) (d : Data) → IsNoDeeper (account_if K name d) d
account_depth K name d = by_test (K name)
  where
    by_test : (kept : Bool) → IsNoDeeper (if kept then Some d else None) d
    by_test true = omega arith
    by_test false = tt

top_depth : (K : Name → Bool) (key : List ℕ) (d : Data) → IsNoDeeper (top_kept K key d) d
top_depth K key d = by_test (bytes_eq key (codes "accounts"))
  where
    by_test : (are : Bool) → depth (if are then accounts_kept K d else d) ≤ depth d
    by_test true = on_object_depth (account_if K) (account_depth K) d
    by_test false = omega arith

-- a part nests no deeper than the whole
pub part_depth : (K : Name → Bool) (d : Data) → depth (part_of K d) ≤ depth d
part_depth K d = on_object_depth (top_kept K) (top_depth K) d

-- what was written so that it reads back is the text of its value
pub text_reads : (text : List ℕ) (d : Data) → IsUtf8 text → read text ≡ Some d → json_of text ≡ Some d
text_reads text d utf8 e = rw (is_utf8-from_IsUtf8 text utf8) e
