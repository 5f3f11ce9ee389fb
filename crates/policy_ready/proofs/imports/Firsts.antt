-- The first view of each account and subject, view by view; and that the own view is like none across a row.
use Rattle.std.proofs.Common.{◌≡◌, ◌∙◌, ◌&&◌, ◌||◌, ℕ, Bool, true, false, true≢false, cond, not, List, [], ◌∷◌, ◌++◌, Option, Some, None, length, filter, ap, sym, refl, subst}
use Rattle.std.specs.Prelude.{⊤, nat_lt, All}
use Rattle.std.specs.List.{cons_option, filter_map, list_any}
use Rattle.std.specs.Option.{option_map}
use Rattle.std.specs.Str.{bytes_eq}
use Rattle.std.specs.Cmp.Lexicographic.{bytes_decides, pointwise_decides}
use Rattle.std.proofs.lemmas.Bool.{and_parts}
use Rattle.std.proofs.lemmas.List.{append-nil}
use Rattle.std.proofs.lemmas.List.Elements.{All-head, All-tail, filter-append, filter_map-append}
use Rattle.std.proofs.lemmas.Slice.Eq.{bytes_eq-Decides}
use Rattle.subjects.specs.Subject.{Token}
use Rattle.subjects.specs.Equal.{same_subject}
use Rattle.policy_doc.specs.declared.exports.document.Kind.{Kind}
use Rattle.policy_doc.specs.declared.exports.document.Kind.TheVariants as kind
use Rattle.policy_ready.specs.imports.Across.{across, crossed, crossing, crossings_in, first_by, last_by, source_of, target_of, views_in, way_of}
use Rattle.policy_ready.specs.imports.Views.{first_of_each, is_at, is_route, is_same}
use Rattle.policy_ready.specs.imports.Rows.{IsRow, with_crossing}
use Rattle.policy_ready.specs.declared.imports.rows.ImportRow.{ImportRow}
use Rattle.policy_ready.specs.declared.imports.view.ViewItem.{ViewItem}
use Rattle.policy_ready.specs.declared.imports.view.ViewItem.TheVariants.{At, TooLong}
use Rattle.policy_ready.specs.declared.imports.view.Way.TheVariants.{Own}

-- ---- one more view

-- two views that are the same are like the same others
alike : (x u v : ViewItem) → is_same x u ≡ true → is_same x v ≡ is_same u v
alike (At a s w) (At b t y) v same =
    let parts = and_parts (bytes_eq a b) (same_subject s t) same in
    ap (λ c. is_at c s v) ((bytes_eq-Decides a b).0 parts.0) ∙ ap (λ r. is_at b r v) ((pointwise_decides bytes_decides s t).0 parts.1)
alike (At a s w) (TooLong row) v same = absurd (true≢false (sym same))
alike (TooLong row) u v same = absurd (true≢false (sym same))

-- what isn't like a view, of these
abbrev others : ViewItem → List ViewItem → List ViewItem
others x us = filter (λ u. not (is_same x u)) us

abbrev is_seen : ViewItem → List ViewItem → Bool
is_seen v us = list_any (λ u. is_same u v) us

seen_among : (x v : ViewItem) → is_same x v ≡ false → (us : List ViewItem) → is_seen v (others x us) ≡ is_seen v us
seen_among x v apart [] = refl
seen_among x v apart (u ∷ us) = by (is_same x u) refl (seen_among x v apart us)
  where
    by : (b : Bool) → is_same x u ≡ b → is_seen v (others x us) ≡ is_seen v us → is_seen v (cond (not b) (u ∷ others x us) (others x us)) ≡ is_seen v (u ∷ us)
    by true e later = later ∙ sym (ap (λ c. c || is_seen v us) (sym (alike x u v e) ∙ apart))
    by false e later = ap (λ c. is_same u v || c) later

one_more : (x v : ViewItem) (us : List ViewItem) → x ∷ others x (with_crossing us (Some v)) ≡ with_crossing (x ∷ others x us) (Some v)
one_more x v us = by (is_same x v) (is_seen v us) refl (λ apart. seen_among x v apart us)
  where
    all : List ViewItem
    all = others x us

    by : (b c : Bool) → is_same x v ≡ b → (is_same x v ≡ false → is_seen v all ≡ c) →
        x ∷ others x (cond c us (us ++ v ∷ [])) ≡ cond (is_same x v || is_seen v all) (x ∷ all) (x ∷ (all ++ v ∷ []))
    by true true e same = sym (ap (λ d. cond (d || is_seen v all) (x ∷ all) (x ∷ (all ++ v ∷ []))) e)
    by true false e same =
        ap (λ l. x ∷ l) (filter-append (λ u. not (is_same x u)) us (v ∷ []) ∙ ap (λ d. all ++ cond (not d) (v ∷ []) []) e ∙ append-nil all)
        ∙ sym (ap (λ d. cond (d || is_seen v all) (x ∷ all) (x ∷ (all ++ v ∷ []))) e)
    by false true e same = sym (ap (λ d. cond (d || is_seen v all) (x ∷ all) (x ∷ (all ++ v ∷ []))) e ∙ ap (λ d. cond d (x ∷ all) (x ∷ (all ++ v ∷ []))) (same e))
    by false false e same =
        ap (λ l. x ∷ l) (filter-append (λ u. not (is_same x u)) us (v ∷ []) ∙ ap (λ d. all ++ cond (not d) (v ∷ []) []) e)
        ∙ sym (ap (λ d. cond (d || is_seen v all) (x ∷ all) (x ∷ (all ++ v ∷ []))) e ∙ ap (λ d. cond d (x ∷ all) (x ∷ (all ++ v ∷ []))) (same e))

first_more : (vs : List ViewItem) (v : ViewItem) → first_of_each (vs ++ v ∷ []) ≡ with_crossing (first_of_each vs) (Some v)
first_more [] v = refl
first_more (x ∷ vs) v = ap (λ l. x ∷ others x l) (first_more vs v) ∙ one_more x v (first_of_each vs)

with_one : (vs : List ViewItem) (o : Option ViewItem) → first_of_each (vs ++ cons_option o []) ≡ with_crossing (first_of_each vs) o
with_one vs None = ap first_of_each (append-nil vs)
with_one vs (Some v) = first_more vs v

-- the views across one row more
pub gathered_more : (f : ImportRow → Option ViewItem) (rows : List ImportRow) (r : ImportRow) →
    first_of_each (filter_map f (rows ++ r ∷ [])) ≡ with_crossing (first_of_each (filter_map f rows)) (f r)
gathered_more f rows r = ap first_of_each (filter_map-append f rows (r ∷ [])) ∙ with_one (filter_map f rows) (f r)

-- ---- the own view

-- whether one of these is at an account and subject
abbrev has_at : List ℕ → List Token → List ViewItem → Bool
has_at a s vs = list_any (is_at a s) vs

abbrev IsElsewhere : List ℕ → List Token → Option ViewItem → Type 0
IsElsewhere a s None = ⊤
IsElsewhere a s (Some v) = is_at a s v ≡ false

-- names that differ do so the other way round
turned : (x y : List ℕ) → bytes_eq x y ≡ false → bytes_eq y x ≡ false
turned x y apart = by (bytes_eq y x) refl
  where
    by : (c : Bool) → bytes_eq y x ≡ c → c ≡ false
    by false e = refl
    by true e = absurd (true≢false (sym ((bytes_eq-Decides x y).1 (sym ((bytes_eq-Decides y x).0 e))) ∙ apart))

ends_apart : (k : Kind) (exporter importer : List ℕ) → bytes_eq exporter importer ≡ false → bytes_eq (first_by k exporter importer) (last_by k exporter importer) ≡ false
ends_apart kind.Stream exporter importer apart = apart
ends_apart kind.Service exporter importer apart = turned exporter importer apart

row_elsewhere : (a : List ℕ) (s : List Token) (r : ImportRow) → IsRow r → IsElsewhere a s (crossing a s r)
row_elsewhere a s r holds = by (bytes_eq (source_of r) a) refl
  where
    long : bytes_eq a (target_of r) ≡ false → (t : List Token) (c : Bool) → IsElsewhere a s (Some (cond c (TooLong r.row) (At (target_of r) t (way_of r))))
    long other t true = refl
    long other t false = ap (λ c. c && same_subject s t) other

    mapped : bytes_eq a (target_of r) ≡ false → (o : Option (List Token)) → IsElsewhere a s (option_map (crossed r) o)
    mapped other None = tt
    mapped other (Some t) = long other t (nat_lt 512 (length t))

    by : (c : Bool) → bytes_eq (source_of r) a ≡ c → IsElsewhere a s (cond c (option_map (crossed r) (across r s)) None)
    by false e = tt
    by true e =
        let source : source_of r ≡ a = (bytes_eq-Decides (source_of r) a).0 e in
        mapped (subst (λ n. bytes_eq n (target_of r) ≡ false) source (ends_apart r.kind r.exporter r.row.importer holds.other)) (across r s)

rows_elsewhere : (a : List ℕ) (s : List Token) (rows : List ImportRow) → All IsRow rows → has_at a s (filter_map (crossing a s) rows) ≡ false
rows_elsewhere a s [] all = refl
rows_elsewhere a s (r ∷ rows) all =
    by (crossing a s r) (row_elsewhere a s r (All-head IsRow r rows all)) (rows_elsewhere a s rows (All-tail IsRow r rows all))
  where
    given : List ViewItem
    given = filter_map (crossing a s) rows

    by : (o : Option ViewItem) → IsElsewhere a s o → has_at a s given ≡ false → has_at a s (cons_option o given) ≡ false
    by None here later = later
    by (Some v) here later = ap (λ c. c || has_at a s given) here ∙ later

-- of views that are elsewhere each is kept beside the own one
fewer_elsewhere : (a : List ℕ) (s : List Token) (x : ViewItem) (us : List ViewItem) → has_at a s us ≡ false → has_at a s (others x us) ≡ false
fewer_elsewhere a s x [] none = refl
fewer_elsewhere a s x (u ∷ us) none = by (is_same x u) (is_at a s u) refl none (λ rest. fewer_elsewhere a s x us rest)
  where
    by : (b c : Bool) → is_at a s u ≡ c → (c || has_at a s us) ≡ false → (has_at a s us ≡ false → has_at a s (others x us) ≡ false) → has_at a s (cond (not b) (u ∷ others x us) (others x us)) ≡ false
    by b true e none later = absurd (true≢false none)
    by true false e none later = later none
    by false false e none later = ap (λ c. c || has_at a s (others x us)) e ∙ later none

firsts_elsewhere : (a : List ℕ) (s : List Token) (vs : List ViewItem) → has_at a s vs ≡ false → has_at a s (first_of_each vs) ≡ false
firsts_elsewhere a s [] none = refl
firsts_elsewhere a s (v ∷ vs) none = by (is_at a s v) refl none (λ rest. firsts_elsewhere a s vs rest)
  where
    by : (c : Bool) → is_at a s v ≡ c → (c || has_at a s vs) ≡ false → (has_at a s vs ≡ false → has_at a s (first_of_each vs) ≡ false) → has_at a s (first_of_each (v ∷ vs)) ≡ false
    by true e none later = absurd (true≢false none)
    by false e none later = ap (λ c. c || has_at a s (others v (first_of_each vs))) e ∙ fewer_elsewhere a s v (first_of_each vs) (later none)

all_kept : (a : List ℕ) (s : List Token) (us : List ViewItem) → has_at a s us ≡ false → others (At a s Own) us ≡ us
all_kept a s [] none = refl
all_kept a s (u ∷ us) none = by (is_at a s u) refl none (λ rest. all_kept a s us rest)
  where
    by : (c : Bool) → is_at a s u ≡ c → (c || has_at a s us) ≡ false → (has_at a s us ≡ false → others (At a s Own) us ≡ us) → others (At a s Own) (u ∷ us) ≡ u ∷ us
    by true e none later = absurd (true≢false none)
    by false e none later = ap (λ c. cond (not c) (u ∷ others (At a s Own) us) (others (At a s Own) us)) e ∙ ap (λ l. u ∷ l) (later none)

own_first : (a : List ℕ) (s : List Token) (vs : List ViewItem) → has_at a s vs ≡ false → At a s Own ∷ first_of_each vs ≡ first_of_each (At a s Own ∷ vs)
own_first a s vs none = ap (λ l. At a s Own ∷ l) (sym (all_kept a s (first_of_each vs) (firsts_elsewhere a s vs none)))

-- ---- all views

-- the views of a message that crosses rows: the own one, then the first of each across the rows
pub views_across : (rows : List ImportRow) (a : List ℕ) (s : List Token) → All IsRow rows → is_route s ≡ false →
    At a s Own ∷ first_of_each (filter_map (crossing a s) rows) ≡ views_in rows a s []
views_across rows a s all plain =
    own_first a s (filter_map (crossing a s) rows) (rows_elsewhere a s rows all)
    ∙ ap (λ l. first_of_each (At a s Own ∷ l)) (sym (append-nil (filter_map (crossing a s) rows)))
    ∙ sym (ap (λ c. first_of_each (At a s Own ∷ (cond c [] (filter_map (crossing a s) rows) ++ []))) plain)

-- and of one under `_R_`
pub views_of_route : (rows : List ImportRow) (a : List ℕ) (s : List Token) → is_route s ≡ true → At a s Own ∷ [] ≡ views_in rows a s []
views_of_route rows a s is = sym (ap (λ c. first_of_each (At a s Own ∷ (cond c [] (filter_map (crossing a s) rows) ++ []))) is)

-- with a response, if there is one
pub all_views : (rows : List ImportRow) (a : List ℕ) (s : List Token) (o : Option ViewItem) → with_crossing (views_in rows a s []) o ≡ views_in rows a s (cons_option o [])
all_views rows a s o =
    ap (λ l. with_crossing (first_of_each (At a s Own ∷ l)) o) (append-nil (crossings_in rows a s))
    ∙ sym (with_one (At a s Own ∷ crossings_in rows a s) o)
