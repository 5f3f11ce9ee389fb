-- What rows do to the first accounts of sets.
use Rattle.std.proofs.Common.{◌≡◌, ◌∙◌, Bool, true, false, cond, List, [], ◌∷◌, ap, sym, refl, subst, Less, Equal, Greater, Ordering}
use Rattle.std.specs.Prelude.{All}
use Rattle.std.specs.Ordering.{is_gt, is_lt, ordering_reverse}
use Rattle.std.specs.Str.{bytes_eq}
use Rattle.std.proofs.lemmas.Cmp.{nat_list_cmp_total, nat_list_eq_equiv, tied_itself, upto}
use Rattle.std.proofs.lemmas.List.Elements.{All-nil, All-cons, All-head, All-tail}
use Rattle.std.proofs.lemmas.Slice.Eq.{bytes_eq-Decides}
use Rattle.policy_doc.specs.Accounts.{Name}
use Rattle.policy_doc.proofs.Names.{name_cmp}
use Rattle.policy_sets.specs.Sets.{Ends, exchanged, lesser_of, joined, joined_by}

pub same : (x y : Name) → bytes_eq x y ≡ true → x ≡ y
same x y e = (bytes_eq-Decides x y).0 e

alike : (b : Bool) (x : Name) → cond b x x ≡ x
alike true x = refl
alike false x = refl

-- what holds of both and of the name holds of whichever it becomes
either : (P : Name → Type 0) (b : Bool) (x y : Name) → P x → P y → P (cond b x y)
either P true x y holds other = holds
either P false x y holds other = other

pub lesser-holds : (P : Name → Type 0) (one other name : Name) → P one → P other → P name → P (lesser_of one other name)
lesser-holds P one other name of_one of_other of_name =
    either P (is_lt (name_cmp one other)) (cond (bytes_eq name other) one name) (cond (bytes_eq name one) other name)
    (either P (bytes_eq name other) one name of_one of_name) (either P (bytes_eq name one) other name of_other of_name)

-- a row joins its two ends
together : (one other : Name) → lesser_of one other one ≡ lesser_of one other other
together one other = by (is_lt (name_cmp one other))
  where
    by : (b : Bool) → cond b (cond (bytes_eq one other) one one) (cond (bytes_eq one one) other one) ≡ cond b (cond (bytes_eq other other) one other) (cond (bytes_eq other one) other other)
    by true = alike (bytes_eq one other) one ∙ sym (ap (λ b. cond b one other) (nat_list_eq_equiv.refl other))
    by false = ap (λ b. cond b other one) (nat_list_eq_equiv.refl one) ∙ sym (alike (bytes_eq other one) other)

-- and what is together stays together
keeps : (rows : List Ends) (first : Name → Name) (x y : Name) → first x ≡ first y → joined_by first rows x ≡ joined_by first rows y
keeps [] first x y e = e
keeps (r ∷ rows) first x y e = keeps rows (joined first r) x y (ap (lesser_of (first r.importer) (first r.exporter)) e)

pub rows_joined : (rows : List Ends) (first : Name → Name) → All (λ (r : Ends). joined_by first rows r.importer ≡ joined_by first rows r.exporter) rows
rows_joined [] first = All-nil (λ (r : Ends). first r.importer ≡ first r.exporter)
rows_joined (r ∷ rows) first =
    All-cons (λ (q : Ends). joined_by (joined first r) rows q.importer ≡ joined_by (joined first r) rows q.exporter) r rows
    (keeps rows (joined first r) r.importer r.exporter (together (first r.importer) (first r.exporter))) (rows_joined rows (joined first r))

-- a closed set has the first account of a set exactly where it has an account of it
exchanged-within : (K : Name → Bool) (old new name : Name) → K new ≡ K old → K (exchanged old new name) ≡ K name
exchanged-within K old new name e = by (bytes_eq name old) refl
  where
    by : (b : Bool) → bytes_eq name old ≡ b → K (cond b new name) ≡ K name
    by true is = e ∙ ap K (sym (same name old is))
    by false is = refl

lesser-within : (K : Name → Bool) (one other name : Name) → K one ≡ K other → K (lesser_of one other name) ≡ K name
lesser-within K one other name e = by (is_lt (name_cmp one other))
  where
    by : (b : Bool) → K (cond b (exchanged other one name) (exchanged one other name)) ≡ K name
    by true = exchanged-within K other one name e
    by false = exchanged-within K one other name (sym e)

pub first-within : (K : Name → Bool) (rows : List Ends) (first : Name → Name) → All (λ (r : Ends). K r.importer ≡ K r.exporter) rows → ((x : Name) → K (first x) ≡ K x) → (x : Name) → K (joined_by first rows x) ≡ K x
first-within K [] first closed same_as x = same_as x
first-within K (r ∷ rows) first closed same_as x =
    let ends : K r.importer ≡ K r.exporter = All-head (λ (q : Ends). K q.importer ≡ K q.exporter) r rows closed in
    let both : K (first r.importer) ≡ K (first r.exporter) = same_as r.importer ∙ ends ∙ sym (same_as r.exporter) in
    first-within K rows (joined first r) (All-tail (λ (q : Ends). K q.importer ≡ K q.exporter) r rows closed)
    (λ y. lesser-within K (first r.importer) (first r.exporter) (first y) both ∙ same_as y) x

-- the first accounts of sets are among whatever has all ends of rows
pub first-stays : (P : Name → Type 0) (rows : List Ends) (first : Name → Name) → All (λ (r : Ends). P r.importer × P r.exporter) rows → ((x : Name) → P x → P (first x)) → (x : Name) → P x → P (joined_by first rows x)
first-stays P [] first ends stays x holds = stays x holds
first-stays P (r ∷ rows) first ends stays x holds =
    let two = All-head (λ (q : Ends). P q.importer × P q.exporter) r rows ends in
    first-stays P rows (joined first r) (All-tail (λ (q : Ends). P q.importer × P q.exporter) r rows ends)
    (λ y of_y. lesser-holds P (first r.importer) (first r.exporter) (first y) (stays r.importer two.0) (stays r.exporter two.1) (stays y of_y)) x holds

-- the first account of a set is its own first account
exchanged-twice : (old new name : Name) → exchanged old new (exchanged old new name) ≡ exchanged old new name
exchanged-twice old new name = by (bytes_eq name old) refl
  where
    by : (b : Bool) → bytes_eq name old ≡ b → exchanged old new (cond b new name) ≡ cond b new name
    by true is = alike (bytes_eq new old) new
    by false is = ap (λ b. cond b new name) is

lesser-twice : (one other name : Name) → lesser_of one other (lesser_of one other name) ≡ lesser_of one other name
lesser-twice one other name = by (is_lt (name_cmp one other))
  where
    by : (b : Bool) → cond b (exchanged other one (cond b (exchanged other one name) (exchanged one other name))) (exchanged one other (cond b (exchanged other one name) (exchanged one other name))) ≡ cond b (exchanged other one name) (exchanged one other name)
    by true = exchanged-twice other one name
    by false = exchanged-twice one other name

pub first-once : (rows : List Ends) (first : Name → Name) → ((x : Name) → first (first x) ≡ first x) → (x : Name) → joined_by first rows (joined_by first rows x) ≡ joined_by first rows x
first-once [] first once x = once x
first-once (r ∷ rows) first once x =
    first-once rows (joined first r)
    (λ y. ap (lesser_of (first r.importer) (first r.exporter)) (lesser-holds (λ z. first z ≡ z) (first r.importer) (first r.exporter) (first y) (once r.importer) (once r.exporter) (once y))
    ∙ lesser-twice (first r.importer) (first r.exporter) (first y)) x

-- it isn't behind any of them
not_behind_itself : (x : Name) → is_gt (name_cmp x x) ≡ false
not_behind_itself x = ap is_gt (tied_itself nat_list_cmp_total x)

exchanged-before : (old new name : Name) → is_gt (name_cmp new old) ≡ false → is_gt (name_cmp (exchanged old new name) name) ≡ false
exchanged-before old new name before = by (bytes_eq name old) refl
  where
    by : (b : Bool) → bytes_eq name old ≡ b → is_gt (name_cmp (cond b new name) name) ≡ false
    by true is = subst (λ x. is_gt (name_cmp new x) ≡ false) (sym (same name old is)) before
    by false is = not_behind_itself name

not_behind : (o : Ordering) → is_lt o ≡ true → is_gt o ≡ false
not_behind Less e = refl
not_behind Equal e = refl
not_behind Greater e = cc

turned : (o : Ordering) → is_gt (ordering_reverse o) ≡ is_lt o
turned Less = refl
turned Equal = refl
turned Greater = refl

lesser-before : (one other name : Name) → is_gt (name_cmp (lesser_of one other name) name) ≡ false
lesser-before one other name = by (is_lt (name_cmp one other)) refl
  where
    by : (b : Bool) → is_lt (name_cmp one other) ≡ b → is_gt (name_cmp (cond b (exchanged other one name) (exchanged one other name)) name) ≡ false
    by true e = exchanged-before other one name (not_behind (name_cmp one other) e)
    by false e = exchanged-before one other name (ap is_gt (nat_list_cmp_total.antisymm other one) ∙ turned (name_cmp one other) ∙ e)

pub first-before : (rows : List Ends) (first : Name → Name) → ((x : Name) → is_gt (name_cmp (first x) x) ≡ false) → (x : Name) → is_gt (name_cmp (joined_by first rows x) x) ≡ false
first-before [] first before x = before x
first-before (r ∷ rows) first before x =
    first-before rows (joined first r)
    (λ y. upto nat_list_cmp_total (joined first r y) (first y) y (lesser-before (first r.importer) (first r.exporter) (first y)) (before y)) x

-- and at first each account is its own
pub alone-before : (x : Name) → is_gt (name_cmp x x) ≡ false
alone-before x = not_behind_itself x
