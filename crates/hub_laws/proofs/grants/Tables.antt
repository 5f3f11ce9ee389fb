-- Grants that are dropped as soon as they are dead, and grants that are dropped later: those that are live are the same.
use Rattle.std.proofs.Common.{◌≡◌, ◌∙◌, ◌==◌, ◌&&◌, ◌||◌, ℕ, ◌+◌, ◌-◌, ◌≤◌, suc, zero, Bool, true, false, not, cond, List, [], ◌∷◌, ◌++◌, map, filter, drop, length, get_or, Option, Some, None, ap, sym, refl, subst, arith}
use Rattle.std.specs.Prelude.{All, AllPairs}
use Rattle.std.specs.Option.{option_map}
use Rattle.std.proofs.lemmas.Bool.{eqb-true, leb-true, le-leb, ltb-false, le-ltb}
use Rattle.std.proofs.lemmas.List.{length-append, drop-append-le}
use Rattle.std.proofs.lemmas.List.Elements.{All-nil, All-cons, All-head, All-tail, filter-append, filter_agree, filter_passes, All-filter}
use Rattle.subjects.specs.Subject.{Token}
use Rattle.policy_doc.specs.declared.permission_doc.document.Terms.{Terms}
use Rattle.reply_grants.specs.Grants.{Grant, is_below, is_within, is_live, is_for, has_live, youngest, without, after_note, answered, after_end, after_response}
use Rattle.reply_grants.specs.Replies.{Table, grants_of, responded_in, ended_in, judged}
use Rattle.events.specs.declared.answer.Delivery.{Delivery}
use Rattle.hub.specs.Kept.{is_open, has_response_left, IsAfter, AreKept, IsKeptTable}
use Rattle.hub.specs.Replies.{noted_at, noted_each}
use Rattle.hub.proofs.Finds.{AllPairs-head, AllPairs-tail}
use Rattle.hub.proofs.Grants.{AreInOrder, in_order, order_filter, order_answer, order_note, open_is, all_pass}

-- ---- filters

-- where what passes one test passes another, the other drops nothing more
pub filter-among : {X : Type 0} (p q : X → Bool) (xs : List X) → All (λ x. p x ≡ true → q x ≡ true) xs → filter p (filter q xs) ≡ filter p xs
filter-among p q [] same = refl
filter-among {X} p q (x ∷ xs) same =
    here (p x) (q x) refl refl (All-head (λ x. p x ≡ true → q x ≡ true) x xs same) (filter-among p q xs (All-tail (λ x. p x ≡ true → q x ≡ true) x xs same))
  where
    here : (a b : Bool) → p x ≡ a → q x ≡ b → (p x ≡ true → q x ≡ true) → filter p (filter q xs) ≡ filter p xs → filter p (cond b (x ∷ filter q xs) (filter q xs)) ≡ cond a (x ∷ filter p xs) (filter p xs)
    here true true is too leads later = ap (λ c. cond c (x ∷ filter p (filter q xs)) (filter p (filter q xs))) is ∙ ap (λ ys. x ∷ ys) later
    here false true is too leads later = ap (λ c. cond c (x ∷ filter p (filter q xs)) (filter p (filter q xs))) is ∙ later
    here true false is too leads later = absurd (unlike (sym too ∙ leads is))
      where
        unlike : false ≡ true → ⊥
        unlike h = absurd (cc)
    here false false is too leads later = later

pub filter-twice : {X : Type 0} (p : X → Bool) (xs : List X) → filter p (filter p xs) ≡ filter p xs
filter-twice p xs = filter-among p p xs (λ k d h is. is)

-- two tests at once
filter-both : {X : Type 0} (p q : X → Bool) (xs : List X) → filter p (filter q xs) ≡ filter (λ x. p x && q x) xs
filter-both p q [] = refl
filter-both {X} p q (x ∷ xs) = here (p x) (q x) refl (filter-both p q xs)
  where
    here : (a b : Bool) → p x ≡ a → filter p (filter q xs) ≡ filter (λ y. p y && q y) xs → filter p (cond b (x ∷ filter q xs) (filter q xs)) ≡ cond (a && b) (x ∷ filter (λ y. p y && q y) xs) (filter (λ y. p y && q y) xs)
    here true true is later = ap (λ c. cond c (x ∷ filter p (filter q xs)) (filter p (filter q xs))) is ∙ ap (λ ys. x ∷ ys) later
    here false true is later = ap (λ c. cond c (x ∷ filter p (filter q xs)) (filter p (filter q xs))) is ∙ later
    here true false is later = later
    here false false is later = later

none_pass : {X : Type 0} (p : X → Bool) (xs : List X) → ((x : X) → p x ≡ false) → filter p xs ≡ []
none_pass p [] none = refl
none_pass p (x ∷ xs) none = ap (λ c. cond c (x ∷ filter p xs) (filter p xs)) (none x) ∙ none_pass p xs none

-- a test that a change doesn't see
pub filter-map : {X : Type 0} (p : X → Bool) (f : X → X) (xs : List X) → ((x : X) → p (f x) ≡ p x) → filter p (map f xs) ≡ map f (filter p xs)
filter-map p f [] same = refl
filter-map {X} p f (x ∷ xs) same = ap (λ c. cond c (f x ∷ filter p (map f xs)) (filter p (map f xs))) (same x) ∙ here (p x) (filter-map p f xs same)
  where
    here : (b : Bool) → filter p (map f xs) ≡ map f (filter p xs) → cond b (f x ∷ filter p (map f xs)) (filter p (map f xs)) ≡ map f (cond b (x ∷ filter p xs) (filter p xs))
    here true later = ap (λ ys. f x ∷ ys) later
    here false later = later

-- ---- ages

pub both-front : (a b : Bool) → (a && b) ≡ true → a ≡ true
both-front true b h = refl
both-front false b h = absurd (cc)

pub both-back : (a b : Bool) → (a && b) ≡ true → b ≡ true
both-back true b h = h
both-back false b h = absurd (cc)

-- what is within the limit at an age is so at a lesser one
within-less : (limit : Option ℕ) (age less : ℕ) → less ≤ age → is_within limit age ≡ true → is_within limit less ≡ true
within-less None age less le is = refl
within-less (Some limit) age less le is = le-leb less limit (let h = leb-true age limit is in omega (arith, h, le))

-- what is live at a moment was live before
pub live_before : (now before : ℕ) (terms : Option Terms) (g : Grant) → before ≤ now → is_live now terms g ≡ true → is_live before terms g ≡ true
live_before now before None g le is = is
live_before now before (Some terms) g le is =
    let below = both-front (is_below terms.max g.count) (is_within terms.expires (now - g.noted)) is in
    let within = both-back (is_below terms.max g.count) (is_within terms.expires (now - g.noted)) is in
    ap (λ b. b && is_within terms.expires (before - g.noted)) below ∙ within-less terms.expires (now - g.noted) (before - g.noted) (omega (arith, le)) within

-- those that are live at a moment, of all or of those that were live before, are the same
pub live_later : (now before : ℕ) (terms : Option Terms) (gs : List Grant) → before ≤ now → filter (is_live now terms) (filter (is_live before terms) gs) ≡ filter (is_live now terms) gs
live_later now before terms gs le = filter-among (is_live now terms) (is_live before terms) gs (λ k d h is. live_before now before terms (get_or gs k d) le is)

-- ---- tables

-- the live grants of a table
abbrev pub live_in : ℕ → Option Terms → Table → Table
live_in now terms table = option_map (filter (is_live now terms)) table

module _ (now : ℕ) (terms : Terms) where
  young : Grant → Bool
  young g = is_within terms.expires (now - g.noted)

  below : Grant → Bool
  below g = is_below terms.max g.count

  live-is : (gs : List Grant) → filter (is_live now (Some terms)) gs ≡ filter below (filter young gs)
  unfolding young below
  live-is gs = sym (filter-both below young gs)

  -- an end drops none that is live
  end_same : (s : List Token) (gs : List Grant) → filter (is_live now (Some terms)) (after_end s (Some terms) gs) ≡ filter (is_live now (Some terms)) gs
  end_same s gs = here (has_live s 0 (Some terms) gs) refl
    where
      other : (xs : List Grant) → has_live s 0 (Some terms) xs ≡ false → All (λ (g : Grant). is_live now (Some terms) g ≡ true → not (is_for s g) ≡ true) xs
      other [] none = All-nil (λ (g : Grant). is_live now (Some terms) g ≡ true → not (is_for s g) ≡ true)
      other (g ∷ xs) none =
          All-cons (λ (g : Grant). is_live now (Some terms) g ≡ true → not (is_for s g) ≡ true) g xs
          (λ is. first (is_for s g) (is_live 0 (Some terms) g) (live_before now 0 (Some terms) g (omega arith) is) none)
          (other xs (rest (is_for s g && is_live 0 (Some terms) g) none))
        where
          first : (a b : Bool) → b ≡ true → ((a && b) || has_live s 0 (Some terms) xs) ≡ false → not a ≡ true
          first false b is h = refl
          first true true is h = absurd (cc)
          first true false is h = absurd (cc)

          rest : (a : Bool) → (a || has_live s 0 (Some terms) xs) ≡ false → has_live s 0 (Some terms) xs ≡ false
          rest true h = absurd (cc)
          rest false h = h

      here : (b : Bool) → has_live s 0 (Some terms) gs ≡ b → filter (is_live now (Some terms)) (cond b gs (without s gs)) ≡ filter (is_live now (Some terms)) gs
      here true is = refl
      here false is = filter-among (is_live now (Some terms)) (λ (g : Grant). not (is_for s g)) gs (other gs is)

  -- a count doesn't change an age
  answer_same : (s : List Token) (gs : List Grant) → filter young (after_response s gs) ≡ after_response s (filter young gs)
  unfolding young
  answer_same s gs = filter-map young (λ (g : Grant). cond (is_for s g) (answered g) g) gs (λ g. here g (is_for s g))
    where
      here : (g : Grant) (b : Bool) → is_within terms.expires (now - (cond b (answered g) g).noted) ≡ is_within terms.expires (now - g.noted)
      here g true = refl
      here g false = refl

  -- where the moments rise, those that are too old come first
  all_young : (g : Grant) (gs : List Grant) → All (IsAfter g) gs → young g ≡ true → filter young gs ≡ gs
  unfolding young
  all_young g gs after is = all_pass young gs (λ k d h. within-less terms.expires (now - g.noted) (now - (get_or gs k d).noted) (let le = after k d h in omega (arith, le)) is)

  -- so of a full table the oldest that is young goes, as if the others weren't there
  full : (gs : List Grant) → AllPairs IsAfter gs → filter young (drop (length gs + 1 - 1024) gs) ≡ drop (length (filter young gs) + 1 - 1024) (filter young gs)
  full [] rising = refl
  full (g ∷ gs) rising = by_age (young g) refl (full gs (AllPairs-tail IsAfter g gs rising))
    where
      by_room : (n : ℕ) → n ≡ length (g ∷ gs) + 1 - 1024 → filter young (drop (length gs + 1 - 1024) gs) ≡ drop (length (filter young gs) + 1 - 1024) (filter young gs) → young g ≡ false →
          filter young (drop n (g ∷ gs)) ≡ drop (length (filter young gs) + 1 - 1024) (filter young gs)
      by_room zero e later is =
          ap (λ c. cond c (g ∷ filter young gs) (filter young gs)) is
          ∙ sym (ap (λ k. drop k (filter young gs)) (let few = filtered gs in let none : length (filter young gs) + 1 - 1024 ≡ 0 = omega (arith, e, few) in none))
        where
          filtered : (xs : List Grant) → length (filter young xs) ≤ length xs
          filtered [] = omega arith
          filtered (x ∷ xs) = here (young x) (filtered xs)
            where
              here : (b : Bool) → length (filter young xs) ≤ length xs → length (cond b (x ∷ filter young xs) (filter young xs)) ≤ suc (length xs)
              here true h = omega (arith, h)
              here false h = omega (arith, h)
      by_room (suc n) e later is =
          ap (λ k. filter young (drop k gs)) (let same : n ≡ length gs + 1 - 1024 = omega (arith, e) in same) ∙ later

      by_age : (b : Bool) → young g ≡ b → filter young (drop (length gs + 1 - 1024) gs) ≡ drop (length (filter young gs) + 1 - 1024) (filter young gs) →
          filter young (drop (length (g ∷ gs) + 1 - 1024) (g ∷ gs)) ≡ drop (length (cond b (g ∷ filter young gs) (filter young gs)) + 1 - 1024) (cond b (g ∷ filter young gs) (filter young gs))
      by_age true is later =
          let rest : filter young gs ≡ gs = all_young g gs (AllPairs-head IsAfter g gs rising) is in
          let whole : filter young (g ∷ gs) ≡ g ∷ gs = ap (λ c. cond c (g ∷ filter young gs) (filter young gs)) is ∙ ap (λ xs. g ∷ xs) rest in
          still (length (g ∷ gs) + 1 - 1024) (g ∷ gs) whole
          ∙ sym (ap (λ (xs : List Grant). drop (length (g ∷ xs) + 1 - 1024) (g ∷ xs)) rest)
        where
          dropped-all : (n : ℕ) (xs : List Grant) → All (λ x. young x ≡ true) xs → filter young (drop n xs) ≡ drop n xs
          dropped-all zero xs all = all_pass young xs all
          dropped-all (suc n) [] all = refl
          dropped-all (suc n) (x ∷ xs) all = dropped-all n xs (All-tail (λ y. young y ≡ true) x xs all)

          passes : (xs : List Grant) → filter young xs ≡ xs → All (λ x. young x ≡ true) xs
          passes xs e = subst (λ ys. All (λ x. young x ≡ true) ys) e (filter_passes young xs)

          still : (n : ℕ) (xs : List Grant) → filter young xs ≡ xs → filter young (drop n xs) ≡ drop n xs
          still n xs e = dropped-all n xs (passes xs e)
      by_age false is later = by_room (length (g ∷ gs) + 1 - 1024) refl later is

  -- a note
  note_same : (s : List Token) (gs : List Grant) → AreInOrder now gs → filter young (after_note s now gs) ≡ after_note s now (filter young gs)
  unfolding young
  note_same s gs order =
      ap (filter young) (cut rest)
      ∙ filter-append young (drop (length rest + 1 - 1024) rest) (fresh ∷ [])
      ∙ ap (λ xs. xs ++ filter young (fresh ∷ [])) (full rest (order_filter now (λ (g : Grant). not (is_for s g)) gs order).rising)
      ∙ ap (λ b. drop (length (filter young rest) + 1 - 1024) (filter young rest) ++ cond b (fresh ∷ []) []) newest
      ∙ sym (cut (filter young rest))
      ∙ ap (λ xs. youngest (xs ++ fresh ∷ [])) swapped
    where
      rest : List Grant
      rest = without s gs

      fresh : Grant
      fresh = record { subject = s; noted = now; count = 0 }

      cut : (xs : List Grant) → youngest (xs ++ fresh ∷ []) ≡ drop (length xs + 1 - 1024) xs ++ fresh ∷ []
      cut xs =
          ap (λ n. drop (n - 1024) (xs ++ fresh ∷ [])) (length-append xs (fresh ∷ []))
          ∙ drop-append-le (length xs + 1 - 1024) xs (fresh ∷ []) (omega arith)

      newest : young fresh ≡ true
      newest = within-zero terms.expires (now - now) (omega arith)
        where
          within-zero : (limit : Option ℕ) (age : ℕ) → age ≡ 0 → is_within limit age ≡ true
          within-zero None age e = refl
          within-zero (Some limit) age e = le-leb age limit (omega (arith, e))

      swapped : filter young (without s gs) ≡ without s (filter young gs)
      swapped =
          filter-both young (λ (g : Grant). not (is_for s g)) gs
          ∙ filter_agree (λ (g : Grant). young g && not (is_for s g)) (λ (g : Grant). not (is_for s g) && young g) (λ g. turned (young g) (not (is_for s g))) gs
          ∙ sym (filter-both (λ (g : Grant). not (is_for s g)) young gs)
        where
          turned : (a b : Bool) → (a && b) ≡ (b && a)
          turned true true = refl
          turned true false = refl
          turned false true = refl
          turned false false = refl

  -- ---- what a publish leaves

  has_left-below : (g : Grant) → is_below terms.max 0 ≡ true → has_response_left terms.max g.count ≡ true → below g ≡ true
  unfolding below
  has_left-below g more left = here (g.count == 0) refl left
    where
      here : (b : Bool) → (g.count == 0) ≡ b → (b || is_open terms.max g.count) ≡ true → is_below terms.max g.count ≡ true
      here true is h = ap (is_below terms.max) (eqb-true g.count 0 is) ∙ more
      here false is h = open_is terms.max g.count ∙ h

  -- where no answer may pass none is live
  all_dead : is_below terms.max 0 ≡ false → (gs : List Grant) → filter (is_live now (Some terms)) gs ≡ []
  all_dead closed gs = none_pass (is_live now (Some terms)) gs (λ g. ap (λ b. b && is_within terms.expires (now - g.noted)) (closed-for terms.max g.count closed))
    where
      closed-for : (max : Option ℕ) (count : ℕ) → is_below max 0 ≡ false → is_below max count ≡ false
      closed-for None count h = absurd (cc)
      closed-for (Some max) count h = le-ltb count max (let none = ltb-false 0 max h in omega (arith, none))

  -- what drops the young as it drops among the young alone, leaves the same that is live
  same_live : (change : List Grant → List Grant) → ((gs : List Grant) → AreInOrder now gs → filter young (change gs) ≡ change (filter young gs)) → (gs : List Grant) → AreKept now terms gs →
      filter (is_live now (Some terms)) (change gs) ≡ filter (is_live now (Some terms)) (change (filter (is_live now (Some terms)) gs))
  same_live change swaps gs kept = here (is_below terms.max 0) refl
    where
      order : AreInOrder now gs
      order = in_order now terms gs kept

      here : (b : Bool) → is_below terms.max 0 ≡ b → filter (is_live now (Some terms)) (change gs) ≡ filter (is_live now (Some terms)) (change (filter (is_live now (Some terms)) gs))
      here false is = all_dead is (change gs) ∙ sym (all_dead is (change (filter (is_live now (Some terms)) gs)))
      here true is =
          let passes : All (λ g. below g ≡ true) gs = λ k d h. has_left-below (get_or gs k d) is (kept.unspent k d h) in
          let live : filter (is_live now (Some terms)) gs ≡ filter young gs = live-is gs ∙ all_pass below (filter young gs) (All-filter young (λ g. below g ≡ true) gs passes) in
          live-is (change gs)
          ∙ ap (filter below) (swaps gs order)
          ∙ sym (live-is (change (filter young gs))
          ∙ ap (filter below) (swaps (filter young gs) (order_filter now young gs order) ∙ ap change (filter-twice young gs)))
          ∙ ap (λ xs. filter (is_live now (Some terms)) (change xs)) (sym live)

  -- what is noted of deliveries, of a table that is there
  note_at : Option (List Token) → List Grant → List Grant
  note_at None gs = gs
  note_at (Some r) gs = after_note r now gs

  notes : List Delivery → List Grant → List Grant
  notes [] gs = gs
  notes (d ∷ ds) gs = notes ds (note_at d.message.reply gs)

  as_notes : (ds : List Delivery) (gs : List Grant) → noted_each now (Some terms) ds (Some gs) ≡ Some (notes ds gs)
  unfolding notes note_at
  as_notes [] gs = refl
  as_notes (d ∷ ds) gs = ap (noted_each now (Some terms) ds) (here d.message.reply) ∙ as_notes ds (note_at d.message.reply gs)
    where
      here : (reply : Option (List Token)) → noted_at now (Some terms) reply (Some gs) ≡ Some (note_at reply gs)
      here None = refl
      here (Some r) = refl

  order_notes : (reply : Option (List Token)) (gs : List Grant) → AreInOrder now gs → AreInOrder now (note_at reply gs)
  unfolding note_at
  order_notes None gs order = order
  order_notes (Some r) gs order = order_note now r gs order

  notes_same : (ds : List Delivery) (gs : List Grant) → AreInOrder now gs → filter young (notes ds gs) ≡ notes ds (filter young gs)
  unfolding notes note_at
  notes_same [] gs order = refl
  notes_same (d ∷ ds) gs order = notes_same ds (note_at d.message.reply gs) (order_notes d.message.reply gs order) ∙ ap (notes ds) (here d.message.reply)
    where
      here : (reply : Option (List Token)) → filter young (note_at reply gs) ≡ note_at reply (filter young gs)
      here None = refl
      here (Some r) = note_same r gs order

  noted_same : (ds : List Delivery) (gs : List Grant) → AreKept now terms gs →
      filter (is_live now (Some terms)) (notes ds gs) ≡ filter (is_live now (Some terms)) (notes ds (filter (is_live now (Some terms)) gs))
  noted_same ds gs kept = same_live (notes ds) (notes_same ds) gs kept

  answered_same : (s : List Token) (ds : List Delivery) (gs : List Grant) → AreKept now terms gs →
      filter (is_live now (Some terms)) (after_end s (Some terms) (notes ds (after_response s gs)))
      ≡ filter (is_live now (Some terms)) (after_end s (Some terms) (notes ds (after_response s (filter (is_live now (Some terms)) gs))))
  answered_same s ds gs kept =
      end_same s (notes ds (after_response s gs))
      ∙ same_live (λ xs. notes ds (after_response s xs)) (λ xs order. notes_same ds (after_response s xs) (order_answer now s xs order) ∙ ap (notes ds) (answer_same s xs)) gs kept
      ∙ sym (end_same s (notes ds (after_response s (filter (is_live now (Some terms)) gs))))

-- a table after a publish, be it an answer or not
abbrev pub left_by : ℕ → Bool → List Token → List Delivery → Option Terms → Table → Table
left_by now answer s ds terms table = cond answer (ended_in s terms (noted_each now terms ds (responded_in s table))) (noted_each now terms ds table)

pub after_same : (now : ℕ) (answer : Bool) (s : List Token) (ds : List Delivery) (terms : Option Terms) (table : Table) → IsKeptTable now terms table →
    live_in now terms (left_by now answer s ds terms table) ≡ live_in now terms (left_by now answer s ds terms (live_in now terms table))
after_same now answer s ds None table is =
    subst (λ (t : Table). live_in now None (left_by now answer s ds None t) ≡ live_in now None (left_by now answer s ds None (live_in now None t))) (sym is) refl
after_same now answer s ds (Some terms) None is = refl
after_same now true s ds (Some terms) (Some gs) is =
    ap (λ (t : Table). live_in now (Some terms) (ended_in s (Some terms) t)) (as_notes now terms ds (after_response s gs))
    ∙ ap (λ xs. Some xs) (answered_same now terms s ds gs is)
    ∙ sym (ap (λ (t : Table). live_in now (Some terms) (ended_in s (Some terms) t)) (as_notes now terms ds (after_response s (filter (is_live now (Some terms)) gs))))
after_same now false s ds (Some terms) (Some gs) is =
    ap (live_in now (Some terms)) (as_notes now terms ds gs)
    ∙ ap (λ xs. Some xs) (noted_same now terms ds gs is)
    ∙ sym (ap (live_in now (Some terms)) (as_notes now terms ds (filter (is_live now (Some terms)) gs)))

-- a reload judges the same
pub judged_same : (now : ℕ) (before terms : Option Terms) (table : Table) → judged now before terms (live_in now before table) ≡ judged now before terms table
judged_same now before None table = refl
judged_same now before (Some terms) None = refl
judged_same now before (Some terms) (Some gs) = ap (λ xs. Some (filter (is_live now (Some terms)) xs)) (filter-twice (is_live now before) gs)

-- and the same is allowed
pub granted_same : (s : List Token) (now : ℕ) (terms : Option Terms) (table : Table) → has_live s now terms (grants_of (live_in now terms table)) ≡ has_live s now terms (grants_of table)
granted_same s now terms None = refl
granted_same s now terms (Some gs) = each gs
  where
    each : (gs : List Grant) → has_live s now terms (filter (is_live now terms) gs) ≡ has_live s now terms gs
    each [] = refl
    each (g ∷ gs) = here (is_live now terms g) refl (each gs)
      where
        here : (b : Bool) → is_live now terms g ≡ b → has_live s now terms (filter (is_live now terms) gs) ≡ has_live s now terms gs →
            has_live s now terms (cond b (g ∷ filter (is_live now terms) gs) (filter (is_live now terms) gs)) ≡ ((is_for s g && b) || has_live s now terms gs)
        here true is later = ap (λ c. (is_for s g && c) || has_live s now terms (filter (is_live now terms) gs)) is ∙ ap (λ c. (is_for s g && true) || c) later
        here false is later = later ∙ sym (ap (λ c. c || has_live s now terms gs) (none (is_for s g)))
          where
            none : (b : Bool) → (b && false) ≡ false
            none true = refl
            none false = refl
