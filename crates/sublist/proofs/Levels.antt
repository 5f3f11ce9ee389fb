-- How a change of one level changes what a tree has.
use Rattle.std.proofs.Common.{◌≡◌, ◌==◌, ℕ, length, Bool, true, false, not, ◌&&◌, cond, List, [], ◌∷◌, Option, Some, None, Vec, Box, refl, sym, ap, subst, ◌∙◌, inl, inr, arith}
use Rattle.std.specs.List.{filter}
use Rattle.std.specs.Map.{lookup, KeepsOthers, IsKeyTest, AreApart}
use Rattle.std.specs.Cmp.Lexicographic.{nat_list_eq_equiv}
use Rattle.std.specs.declared.alloc.Global.{Global}
use Rattle.std.proofs.lemmas.Bool.{cases_Bool, both_ways, eqb-true}
use Rattle.subjects.proofs.Same.{equal_from_same}
use Rattle.subjects.specs.Subject.{Token, is_star, is_tail, same_token, tail_is_last}
use Rattle.sublist.specs.declared.ids.Ids.{Ids}
use Rattle.sublist.specs.declared.node.Node.{Node}
use Rattle.sublist.specs.declared.node.Node.TheOpen.{Node-F}
use Rattle.sublist.specs.declared.node.Node.TheViews.{out-Node, roll-Node, out-roll-Node, roll-out-Node}
use Rattle.sublist.specs.Tree.{Entries, held, named, has, IsPut, below, at_end, ids_at, same_path, IsSame, IsChanged}

abbrev pub star_at : List Token → Node → List ℕ
star_at ts n = below (ids_at ts) (out-Node n).star

abbrev pub child_at : Token → List Token → Node → List ℕ
child_at t ts n = below (ids_at ts) (lookup (has t) (named (out-Node n).children))

pub ids_at-end : (n : Node) → ids_at [] n ≡ (held (out-Node n).ids)
unfolding ids_at
ids_at-end n = refl

pub ids_at-more : (t : Token) (ts : List Token) (n : Node) → ids_at (t ∷ ts) n ≡ cond (is_tail t) (at_end ts (held (out-Node n).tail)) (cond (is_star t) (star_at ts n) (child_at t ts n))
unfolding ids_at
ids_at-more t ts n = refl

pub at_end-roll : (x : Node-F Node) → ids_at [] (roll-Node x) ≡ (held x.ids)
at_end-roll x = ids_at-end (roll-Node x) ∙ ap (λ (y : Node-F Node). (held y.ids)) (out-roll-Node x)

abbrev pub one_more : Token → List Token → Node-F Node → List ℕ
one_more t ts x = cond (is_tail t) (at_end ts (held x.tail)) (cond (is_star t) (below (ids_at ts) x.star) (below (ids_at ts) (lookup (has t) (named x.children))))

pub more-roll : (t : Token) (ts : List Token) (x : Node-F Node) → ids_at (t ∷ ts) (roll-Node x) ≡ one_more t ts x
more-roll t ts x = ids_at-more t ts (roll-Node x) ∙ ap (one_more t ts) (out-roll-Node x)

abbrev pub put_ids : Node → Ids → Node-F Node
put_ids n v = record { ids = v; tail = (out-Node n).tail; star = (out-Node n).star; children = (out-Node n).children }

abbrev pub put_tail : Node → Ids → Node-F Node
put_tail n v = record { ids = (out-Node n).ids; tail = v; star = (out-Node n).star; children = (out-Node n).children }

abbrev pub put_star : Node → Option (Box Node Global) → Node-F Node
put_star n o = record { ids = (out-Node n).ids; tail = (out-Node n).tail; star = o; children = (out-Node n).children }

-- the new level has here, behind `>` and below `*` what the old node has
pub record IsSameButChildren (old : Node) (new : Node-F Node) : Type 0 where
  pub here : (held new.ids) ≡ (held (out-Node old).ids)
  pub behind : (held new.tail) ≡ (held (out-Node old).tail)
  pub any : new.star ≡ (out-Node old).star

pub same-ids : (n : Node) (v : Ids) → held v ≡ (held (out-Node n).ids) → IsSame n (roll-Node (put_ids n v))
same-ids n v e [] = at_end-roll _ ∙ (e ∙ sym (ids_at-end n))
same-ids n v e (t ∷ ts) = more-roll t ts _ ∙ sym (ids_at-more t ts n)

pub same-tail : (n : Node) (v : Ids) → held v ≡ (held (out-Node n).tail) → IsSame n (roll-Node (put_tail n v))
same-tail n v e [] = at_end-roll _ ∙ sym (ids_at-end n)
same-tail n v e (t ∷ ts) = rw (more-roll t ts (put_tail n v), ids_at-more t ts n, e) refl

pub same-star : (n : Node) (o : Option (Box Node Global)) → ((us : List Token) → below (ids_at us) o ≡ star_at us n) → IsSame n (roll-Node (put_star n o))
same-star n o e [] = at_end-roll _ ∙ sym (ids_at-end n)
same-star n o e (t ∷ ts) = rw (more-roll t ts (put_star n o), ids_at-more t ts n, e ts) refl

abbrev pub named_at : Token → List Token → Node-F Node → List ℕ
named_at t ts x = below (ids_at ts) (lookup (has t) (named x.children))

pub same-children : (old : Node) (new : Node-F Node) → IsSameButChildren old new → ((u : Token) (us : List Token) → named_at u us new ≡ child_at u us old) → IsSame old (roll-Node new)
same-children old new h e [] = at_end-roll _ ∙ (h.here ∙ sym (ids_at-end old))
same-children old new h e (t ∷ ts) = rw (more-roll t ts new, ids_at-more t ts old, h.behind, h.any, e t ts) refl

-- a token that is not this one
apart_tail : (t u : Token) → is_tail t ≡ false → is_tail u ≡ true → same_token t u ≡ false
apart_tail t u n y = elim (cases_Bool (same_token t u)) [
  | inl e ↦ absurd (both_ways (is_tail u) (subst (λ x. is_tail x ≡ false) (equal_from_same t u e) n) y)
  | inr e ↦ e
]

apart_star : (t u : Token) (b : Bool) → is_star t ≡ b → same_token t u ≡ true → is_star u ≡ b
apart_star t u b h e = subst (λ x. is_star x ≡ b) (equal_from_same t u e) h

stays_tail : (t u : Token) (b : Bool) → is_tail t ≡ b → same_token t u ≡ true → is_tail u ≡ b
stays_tail t u b h e = subst (λ x. is_tail x ≡ b) (equal_from_same t u e) h

pub changed-ids : (f : List ℕ → List ℕ) (n : Node) (v : Ids) → held v ≡ f (held (out-Node n).ids) → IsChanged f [] n (roll-Node (put_ids n v))
changed-ids f n v e [] = rw (at_end-roll (put_ids n v), ids_at-end n) e
changed-ids f n v e (t ∷ ts) = rw (more-roll t ts (put_ids n v), ids_at-more t ts n) refl

-- behind `>`
pub changed-tail : (f : List ℕ → List ℕ) (n : Node) (v : Ids) (t : Token) → is_tail t ≡ true → held v ≡ f (held (out-Node n).tail) → IsChanged f (t ∷ []) n (roll-Node (put_tail n v))
changed-tail f n v t y e [] = rw (at_end-roll (put_tail n v), ids_at-end n) refl
changed-tail f n v t y e (u ∷ us) = elim (cases_Bool (is_tail u)) [
  | inl z ↦ at_tail us z (rw (equal_from_same t (62 ∷ []) y, equal_from_same u (62 ∷ []) z) refl)
  | inr m ↦
      let apart : same_token t u ≡ false = elim (cases_Bool (same_token t u)) [ inl s ↦ absurd (both_ways (is_tail u) m (stays_tail t u true y s)) | inr s ↦ s ] in
      rw (more-roll u us (put_tail n v), ids_at-more u us n, m, apart) refl
]
  where
    at_tail : (us : List Token) → is_tail u ≡ true → same_token t u ≡ true → ids_at (u ∷ us) (roll-Node (put_tail n v)) ≡ cond (same_path (t ∷ []) (u ∷ us)) (f (ids_at (u ∷ us) n)) (ids_at (u ∷ us) n)
    at_tail [] z s = rw (more-roll u [] (put_tail n v), ids_at-more u [] n, z, s) e
    at_tail (w ∷ us) z s = rw (more-roll u (w ∷ us) (put_tail n v), ids_at-more u (w ∷ us) n, z, s) refl

-- below `*`
pub changed-star : (f : List ℕ → List ℕ) (n : Node) (o : Option (Box Node Global)) (t : Token) (ts : List Token) → is_tail t ≡ false → is_star t ≡ true
    → ((us : List Token) → below (ids_at us) o ≡ cond (same_path ts us) (f (star_at us n)) (star_at us n)) → IsChanged f (t ∷ ts) n (roll-Node (put_star n o))
changed-star f n o t ts m y e [] = rw (at_end-roll (put_star n o), ids_at-end n) refl
changed-star f n o t ts m y e (u ∷ us) = elim (cases_Bool (is_star u)) [
  | inl z ↦
      let here : same_token t u ≡ true = rw (equal_from_same t (42 ∷ []) y, equal_from_same u (42 ∷ []) z) refl in
      let past : is_tail u ≡ false = stays_tail t u false m here in
      rw (more-roll u us (put_star n o), ids_at-more u us n, past, here, z) (e us)
  | inr w ↦
      let apart : same_token t u ≡ false = elim (cases_Bool (same_token t u)) [ inl s ↦ absurd (both_ways (is_star u) w (apart_star t u true y s)) | inr s ↦ s ] in
      rw (more-roll u us (put_star n o), ids_at-more u us n, apart, w) refl
]

-- below a literal
pub changed-child : (f : List ℕ → List ℕ) (old : Node) (new : Node-F Node) (t : Token) (ts : List Token) → IsSameButChildren old new → is_tail t ≡ false → is_star t ≡ false
    → ((u : Token) (us : List Token) → named_at u us new ≡ cond (same_token t u) (cond (same_path ts us) (f (child_at u us old)) (child_at u us old)) (child_at u us old)) → IsChanged f (t ∷ ts) old (roll-Node new)
changed-child f old new t ts h n m e [] = rw (at_end-roll new, ids_at-end old) h.here
changed-child f old new t ts h n m e (u ∷ us) = elim (cases_Bool (same_token t u)) [
  | inl s ↦
      let past : is_tail u ≡ false = stays_tail t u false n s in
      let star : is_star u ≡ false = apart_star t u false m s in
      rw (more-roll u us new, ids_at-more u us old, past, star, s) (rw s at (e u us))
  | inr s ↦
      let same_child : named_at u us new ≡ child_at u us old = rw s at (e u us) in
      rw (more-roll u us new, ids_at-more u us old, s, h.behind, h.any, same_child) refl
]

module _ (t : Token) (old new : Entries) (o : Option (Box Node Global)) where
  keeps : KeepsOthers (λ a b. same_token a.items b.items) (has t) old new → (other : Vec ℕ Global → Bool) → IsKeyTest (λ a b. same_token a.items b.items) other → AreApart (has t) other → lookup other new ≡ lookup other old
  unfolding KeepsOthers
  keeps h = h

  apart_keys : (u : Token) → same_token t u ≡ false → AreApart (has t) (has u)
  apart_keys u n k y = nat_list_eq_equiv.symm u k.items ∙ (sym (nat_list_eq_equiv.congr t k.items u y) ∙ n)

  -- a map with o at the token t, and with what it had at each other
  pub looked_up : lookup (has t) new ≡ o → KeepsOthers (λ a b. same_token a.items b.items) (has t) old new → (u : Token) → lookup (has u) new ≡ cond (same_token t u) o (lookup (has u) old)
  looked_up here others u = elim (cases_Bool (same_token t u)) [
    | inl s ↦ rw s (subst (λ x. lookup (has x) new ≡ o) (equal_from_same t u s) here)
    | inr s ↦ rw s (keeps others (has u) (λ x y. nat_list_eq_equiv.congr u x.items y.items) (apart_keys u s))
  ]

  -- what a change of the node at t changes below the literals
  pub below_changed : (f : List ℕ → List ℕ) (ts : List Token) → lookup (has t) new ≡ o → KeepsOthers (λ a b. same_token a.items b.items) (has t) old new
      → ((us : List Token) → below (ids_at us) o ≡ cond (same_path ts us) (f (below (ids_at us) (lookup (has t) old))) (below (ids_at us) (lookup (has t) old)))
      → (u : Token) (us : List Token) → below (ids_at us) (lookup (has u) new) ≡ cond (same_token t u) (cond (same_path ts us) (f (below (ids_at us) (lookup (has u) old))) (below (ids_at us) (lookup (has u) old))) (below (ids_at us) (lookup (has u) old))
  below_changed f ts here others h u us = elim (cases_Bool (same_token t u)) [
    | inl s ↦ rw (looked_up here others u, s) (subst (λ x. below (ids_at us) o ≡ cond (same_path ts us) (f (below (ids_at us) (lookup (has x) old))) (below (ids_at us) (lookup (has x) old))) (equal_from_same t u s) (h us))
    | inr s ↦ rw (looked_up here others u, s) refl
  ]

-- a level with nothing in it
pub nothing : (x : Node-F Node) → (held x.ids) ≡ [] → (held x.tail) ≡ [] → x.star ≡ None → (named x.children) ≡ [] → (q : List Token) → ids_at q (roll-Node x) ≡ []
nothing x i t s c [] = at_end-roll x ∙ i
nothing x i t s c (u ∷ us) = rw (more-roll u us x, t, s, c) (no_ids (is_tail u) (is_star u) us)
  where
    no_ids : (tail star : Bool) (us : List Token) → cond tail (at_end us []) (cond star [] []) ≡ []
    no_ids true star [] = refl
    no_ids true star (v ∷ vs) = refl
    no_ids false true us = refl
    no_ids false false us = refl

-- nothing stands behind a `>`
pub nothing_behind : (t : Token) (ts : List Token) → tail_is_last (t ∷ ts) ≡ true → is_tail t ≡ true → ts ≡ []
nothing_behind t [] h y = refl
nothing_behind t (u ∷ ts) h y = absurd (both_ways (not (is_tail t) && tail_is_last (u ∷ ts)) (rw y refl) h)

module _ (f : List ℕ → List ℕ) (ts us : List Token) (t : Token) (es : Entries) where
  -- the node at t is changed
  pub at_child : (child : Box Node Global) (new : Node) → Some child ≡ lookup (has t) es → ids_at us new ≡ cond (same_path ts us) (f (ids_at us child.value)) (ids_at us child.value)
      → ids_at us new ≡ cond (same_path ts us) (f (below (ids_at us) (lookup (has t) es))) (below (ids_at us) (lookup (has t) es))
  at_child child new e h = subst (λ o. ids_at us new ≡ cond (same_path ts us) (f (below (ids_at us) o)) (below (ids_at us) o)) e h

  -- there was no node at t
  pub at_none : (new : Node) → lookup (has t) es ≡ None → ids_at us new ≡ cond (same_path ts us) (f []) []
      → ids_at us new ≡ cond (same_path ts us) (f (below (ids_at us) (lookup (has t) es))) (below (ids_at us) (lookup (has t) es))
  at_none new e h = rw e h

-- the node at t has the same ids at each path
pub same_below : (t : Token) (old new : Entries) (child w : Box Node Global) → Some child ≡ lookup (has t) old → lookup (has t) new ≡ Some w → KeepsOthers (λ a b. same_token a.items b.items) (has t) old new
    → IsSame child.value w.value → (u : Token) (us : List Token) → below (ids_at us) (lookup (has u) new) ≡ below (ids_at us) (lookup (has u) old)
same_below t old new child w e here others same u us = elim (cases_Bool (same_token t u)) [
  | inl s ↦ rw (looked_up t old new (Some w) here others u, s) (same us ∙ ap (below (ids_at us)) (subst (λ x. Some child ≡ lookup (has x) old) (equal_from_same t u s) e))
  | inr s ↦ rw (looked_up t old new (Some w) here others u, s) refl
]

-- a node is put at a token that had none
pub below_put : (f : List ℕ → List ℕ) (ts : List Token) (t : Token) (old lent new : Entries) (child : Box Node Global) → lent ≡ old → lookup (has t) old ≡ None → IsPut lent t child new
    → ((us : List Token) → ids_at us child.value ≡ cond (same_path ts us) (f []) [])
    → (u : Token) (us : List Token) → below (ids_at us) (lookup (has u) new) ≡ cond (same_token t u) (cond (same_path ts us) (f (below (ids_at us) (lookup (has u) old))) (below (ids_at us) (lookup (has u) old))) (below (ids_at us) (lookup (has u) old))
below_put f ts t old lent new child l none put grown =
    below_changed t old new (Some child) f ts put.0
    (subst (λ es. KeepsOthers (λ a b. same_token a.items b.items) (has t) es new) l put.1)
    (λ us. at_none f ts us t old child.value none (grown us))

-- a node with nothing in it
pub nothing_in : (n : Node) → (held (out-Node n).ids) ≡ [] → (held (out-Node n).tail) ≡ [] → (out-Node n).star ≡ None → (named (out-Node n).children) ≡ [] → (q : List Token) → ids_at q n ≡ []
nothing_in n i t s c q = subst (λ m. ids_at q m ≡ []) (roll-out-Node n) (nothing (out-Node n) i t s c q)

-- a node with nothing in it is taken away
pub pruned_below : (t : Token) (old new : Entries) (child : Box Node Global) → lookup (has t) old ≡ Some child → ((us : List Token) → ids_at us child.value ≡ []) → lookup (has t) new ≡ None
    → KeepsOthers (λ a b. same_token a.items b.items) (has t) old new → (u : Token) (us : List Token) → below (ids_at us) (lookup (has u) new) ≡ below (ids_at us) (lookup (has u) old)
pruned_below t old new child e empty here others u us = elim (cases_Bool (same_token t u)) [
  | inl s ↦ rw (looked_up t old new None here others u, s) (sym (ap (below (ids_at us)) (subst (λ x. lookup (has x) old ≡ Some child) (equal_from_same t u s) e) ∙ empty us))
  | inr s ↦ rw (looked_up t old new None here others u, s) refl
]

-- the path of a pattern leads below `*`, or below a literal
pub at_star : (t : Token) (ts : List Token) (n : Node) → is_tail t ≡ false → is_star t ≡ true → ids_at (t ∷ ts) n ≡ star_at ts n
at_star t ts n m y = rw (ids_at-more t ts n, m, y) refl

pub at_literal : (t : Token) (ts : List Token) (n : Node) → is_tail t ≡ false → is_star t ≡ false → ids_at (t ∷ ts) n ≡ child_at t ts n
at_literal t ts n m y = rw (ids_at-more t ts n, m, y) refl

pub at_tail_end : (t : Token) (n : Node) → is_tail t ≡ true → ids_at (t ∷ []) n ≡ (held (out-Node n).tail)
at_tail_end t n y = rw (ids_at-more t [] n, y) refl

pub nil_by_length : {X : Type 0} (xs : List X) → length xs ≡ 0 → xs ≡ []
nil_by_length [] e = refl
nil_by_length (x ∷ xs) e = absurd (omega (arith, e))

pub is_nil : {X : Type 0} (xs : List X) → true ≡ (length xs == 0) → xs ≡ []
is_nil xs e = nil_by_length xs (eqb-true (length xs) 0 (sym e))

-- nothing is left of nothing
pub none_left : (b : Bool) (p : ℕ → Bool) → [] ≡ cond b (filter p []) []
none_left true p = refl
none_left false p = refl

-- nothing stood at t, and nothing comes of nothing
pub below_absent : (f : List ℕ → List ℕ) (ts : List Token) (t : Token) (old : Entries) → f [] ≡ [] → lookup (has t) old ≡ None → (u : Token) (us : List Token)
    → below (ids_at us) (lookup (has u) old) ≡ cond (same_token t u) (cond (same_path ts us) (f (below (ids_at us) (lookup (has u) old))) (below (ids_at us) (lookup (has u) old))) (below (ids_at us) (lookup (has u) old))
below_absent f ts t old n e u us = elim (cases_Bool (same_token t u)) [
  | inl s ↦
      let none : lookup (has u) old ≡ None = subst (λ x. lookup (has x) old ≡ None) (equal_from_same t u s) e in
      rw (none, s) (elim (cases_Bool (same_path ts us)) [ inl y ↦ rw y (sym n) | inr y ↦ rw y refl ])
  | inr s ↦ rw s refl
]
