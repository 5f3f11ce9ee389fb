-- An object's members stand in the order of their keys' bytes.
use Rattle.std.proofs.Common.{◌≡◌, ℕ, List, Option, Some, None, option_map, option_and_then, Ordering, Less, Equal, Greater, is_eq, refl, ap, sym, ◌∙◌, subst}
use Rattle.std.specs.Prelude.{⊤}
use Rattle.std.specs.Ordering.{nat_cmp, match_ordering, ordering_reverse}
use Rattle.std.specs.Cmp.Lexicographic.{slice_cmp}
use Rattle.std.proofs.lemmas.Cmp.{nat_list_cmp_total, tied_itself}
use Rattle.std.proofs.lemmas.Map.Text.{is_eq-slice_cmp}
use Rattle.std.proofs.lemmas.Slice.Eq.{bytes_eq-Decides}
use Rattle.json.specs.Lex.{tokens}
use Rattle.json.specs.Json as json
use Rattle.serde_json.specs.Data.{Data, null, boolean, number, string, array, object, Items, no_items, item, Members, no_members, member, put}
use Rattle.serde_json.specs.Find.{get, get_member}
use Rattle.serde_json.specs.Read.{number_of, of_json, of_items, of_members, max_depth, read}

abbrev pub compared : List ℕ → List ℕ → Ordering
compared k l = slice_cmp nat_cmp k l

pub same_key : (k : List ℕ) → compared k k ≡ Equal
same_key k = tied_itself nat_list_cmp_total k

pub key_is : (k l : List ℕ) → compared k l ≡ Equal → k ≡ l
key_is k l e = (bytes_eq-Decides k l).0 (sym (is_eq-slice_cmp k l) ∙ ap is_eq e)

-- all keys are above this one
abbrev pub IsAbove : List ℕ → Members → Type 0
IsAbove k no_members = ⊤
IsAbove k (member l d ms) = (compared k l ≡ Less) × IsAbove k ms

abbrev mutual
  pub IsOrdered : Data → Type 0
  IsOrdered null = ⊤
  IsOrdered (boolean b) = ⊤
  IsOrdered (number n) = ⊤
  IsOrdered (string s) = ⊤
  IsOrdered (array ds) = AreOrdered ds
  IsOrdered (object ms) = IsAscending ms

  pub AreOrdered : Items → Type 0
  AreOrdered no_items = ⊤
  AreOrdered (item d ds) = IsOrdered d × AreOrdered ds

  pub IsAscending : Members → Type 0
  IsAscending no_members = ⊤
  IsAscending (member k d ms) = IsAbove k ms × IsOrdered d × IsAscending ms

pub above_further : (k l : List ℕ) (ms : Members) → compared k l ≡ Less → IsAbove l ms → IsAbove k ms
above_further k l no_members lt above = tt
above_further k l (member m d ms) lt above = (nat_list_cmp_total.trans k l m lt above.0, above_further k l ms lt above.1)

-- what is below all keys is none of them
pub absent : (k : List ℕ) (ms : Members) → IsAbove k ms → get_member k ms ≡ None
absent k no_members above = refl
absent k (member l d ms) above = rw above.0 (absent k ms above.1)

greater : (k l : List ℕ) → compared k l ≡ Greater → compared l k ≡ Less
greater k l e = nat_list_cmp_total.antisymm l k ∙ ap ordering_reverse e

above-put : (j k : List ℕ) (d : Data) (ms : Members) → compared j k ≡ Less → IsAbove j ms → IsAbove j (put k d ms)
above-put j k d no_members lt above = (lt, tt)
above-put j k d (member l e ms) lt above = by (above-put j k d ms lt above.1) (compared k l)
  where
    by : IsAbove j (put k d ms) → (o : Ordering) → IsAbove j (match_ordering o (member k d (member l e ms)) (member l d ms) (member l e (put k d ms)))
    by later Less = (lt, above)
    by later Equal = above
    by later Greater = (above.0, later)

put-ascends : (k : List ℕ) (d : Data) (ms : Members) → IsOrdered d → IsAscending ms → IsAscending (put k d ms)
put-ascends k d no_members ordered up = (tt, ordered, tt)
put-ascends k d (member l e ms) ordered up = by (put-ascends k d ms ordered up.2) (compared k l) refl
  where
    by : IsAscending (put k d ms) → (o : Ordering) → compared k l ≡ o → IsAscending (match_ordering o (member k d (member l e ms)) (member l d ms) (member l e (put k d ms)))
    by later Less e' = ((e', above_further k l ms e' up.0), ordered, up)
    by later Equal e' = (up.0, ordered, up.2)
    by later Greater e' = (above-put l k d ms (greater k l e') up.0, up.1, later)

-- ---- what was read is ordered

abbrev pub Meets : {A : Type 0} → (A → Type 0) → Option A → Type 0
Meets P None = ⊤
Meets P (Some a) = P a

Meets-map : {A B : Type 0} (P : A → Type 0) (Q : B → Type 0) (f : A → B) → ((a : A) → P a → Q (f a)) → (o : Option A) → Meets P o → Meets Q (option_map f o)
Meets-map P Q f step None h = tt
Meets-map P Q f step (Some a) h = step a h

Meets-and_then : {A B : Type 0} (P : A → Type 0) (Q : B → Type 0) (f : A → Option B) → ((a : A) → P a → Meets Q (f a)) → (o : Option A) → Meets P o → Meets Q (option_and_then f o)
Meets-and_then P Q f step None h = tt
Meets-and_then P Q f step (Some a) h = step a h

any : {A : Type 0} (o : Option A) → Meets (λ _. ⊤) o
any None = tt
any (Some a) = tt

mutual
  ordered-of_json : (j : json.Json) → Meets IsOrdered (of_json j)
  ordered-of_json json.null = tt
  ordered-of_json (json.boolean b) = tt
  ordered-of_json (json.number s) = Meets-map (λ _. ⊤) IsOrdered number (λ a x. tt) (number_of s) (any (number_of s))
  ordered-of_json (json.string s) = tt
  ordered-of_json (json.array js) = Meets-map AreOrdered IsOrdered array (λ a x. x) (of_items js) (ordered-of_items js)
  ordered-of_json (json.object ms) = Meets-map IsAscending IsOrdered object (λ a x. x) (of_members ms no_members) (ordered-of_members ms no_members tt)

  ordered-of_items : (js : json.Items) → Meets AreOrdered (of_items js)
  ordered-of_items json.no_items = tt
  ordered-of_items (json.item j js) =
      Meets-and_then IsOrdered AreOrdered _ (λ d x. Meets-map AreOrdered AreOrdered (item d) (λ ds y. (x, y)) (of_items js) (ordered-of_items js)) (of_json j) (ordered-of_json j)

  ordered-of_members : (ms : json.Members) (found : Members) → IsAscending found → Meets IsAscending (of_members ms found)
  ordered-of_members json.no_members found up = up
  ordered-of_members (json.member k j ms) found up =
      Meets-and_then IsOrdered IsAscending _ (λ d x. ordered-of_members ms (put k d found) (put-ascends k d found x up)) (of_json j) (ordered-of_json j)

converted-ordered : (o : Option json.Json) → Meets IsOrdered (option_and_then of_json o)
converted-ordered None = tt
converted-ordered (Some j) = ordered-of_json j

pub read-ordered : (text : List ℕ) (d : Data) → read text ≡ Some d → IsOrdered d
read-ordered text d e = subst (Meets IsOrdered) e (converted-ordered (option_and_then (λ p. json.if_last p.0 p.1) (json.value max_depth (tokens text))))

-- ---- what stands in an ordered object

found-ordered : (k : List ℕ) (ms : Members) → IsAscending ms → Meets IsOrdered (get_member k ms)
found-ordered k no_members up = tt
found-ordered k (member l d ms) up = by (found-ordered k ms up.2) (compared k l)
  where
    by : Meets IsOrdered (get_member k ms) → (o : Ordering) → Meets IsOrdered (match_ordering o (get_member k ms) (Some d) (get_member k ms))
    by later Less = later
    by later Equal = up.1
    by later Greater = later

pub under-ordered : (k : List ℕ) (d : Data) → IsOrdered d → Meets IsOrdered (get k d)
under-ordered k null up = tt
under-ordered k (boolean b) up = tt
under-ordered k (number n) up = tt
under-ordered k (string s) up = tt
under-ordered k (array ds) up = tt
under-ordered k (object ms) up = found-ordered k ms up
