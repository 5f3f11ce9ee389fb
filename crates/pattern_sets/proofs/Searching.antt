-- The steps of a search, from a queue to all reasons.
use Rattle.std.proofs.Common.{◌≡◌, ◌∙◌, ◌<◌, ℕ, zero, suc, Bool, true, false, ◌&&◌, if◌then◌else◌, List, [], ◌∷◌, length, take, map, get_or, Option, Some, None, ap, refl, sym, subst, arith, get_or-take, length-take}
use Rattle.std.specs.List.{list_all, slice_index_or}
use Rattle.std.specs.Option.{option_map}
use Rattle.std.proofs.lemmas.Bool.{and_parts}
use Rattle.std.proofs.lemmas.List.{get_or-map, get_or_default, length-map}
use Rattle.subjects.specs.Subject.{Token, IsPattern, IsSubject, is_star, is_tail, is_token, tail_is_last, text_of, tokens_of}
use Rattle.subjects.specs.Fault.{subject_fault, subject_if}
use Rattle.subjects.proofs.Grammar.{no_fault_from_subject}
use Rattle.subjects.proofs.Text.{again, tokens_again}
use Rattle.pattern_sets.specs.Asking.{common, part_view, reason_part, subject_by, AreAlike, AreAlikeParts, AreQueuesAlike, IsAlike, IsAlikeIf, IsAlikePart, IsAlikeWithin, IsQueueAlike, Judging}
use Rattle.pattern_sets.specs.Laws.{sample_of}
use Rattle.pattern_sets.specs.Samples.{agree, either, either_each, filled, meet, part, sample}
use Rattle.pattern_sets.specs.declared.part.Part.{Part}
use Rattle.pattern_sets.specs.declared.search.Allowing.{Allowing}
use Rattle.pattern_sets.specs.declared.search.Reason.{Reason}
use Rattle.pattern_sets.specs.declared.search.Search.{Search}

no_none : {A : Type 0} (x : A) → None ≡ Some x → ⊥
no_none x e = cc

same_some : {A : Type 0} (x y : A) → Some x ≡ Some y → x ≡ y
same_some x y e = cc

-- ---- how long a part is, and that its tokens are tokens

filled_long : (b : Bool) (n : ℕ) → length (filled b n) ≡ n
filled_long b zero = refl
filled_long b (suc zero) = refl
filled_long b (suc (suc n)) = ap suc (filled_long b (suc n))

end_long : (b : Bool) (v : List Token) → (if b then None else Some []) ≡ Some v → length v ≡ 0
end_long true v e = absurd (no_none v e)
end_long false v e = ap length (sym (same_some [] v e))

more_long : (n : ℕ) (t : Token) (o : Option (List Token)) (v : List Token) → option_map (λ us. t ∷ us) o ≡ Some v → ((u : List Token) → o ≡ Some u → length u ≡ n) → length v ≡ suc n
more_long n t None v e h = absurd (no_none v e)
more_long n t (Some u) v e h = ap length (sym (same_some (t ∷ u) v e)) ∙ ap suc (h u refl)

pub part_long : (b : Bool) (n : ℕ) (p v : List Token) → part b n p ≡ Some v → length v ≡ n
part_long b zero [] v e = end_long b v e
part_long b zero (t ∷ ts) v e = absurd (no_none v e)
part_long b (suc n) [] v e = absurd (no_none v e)
part_long b (suc n) (t ∷ ts) v e = by_tail (is_tail t) e (λ u f. part_long b n ts u f)
  where
    by_tail : (c : Bool) → (if c then Some (filled b (suc n)) else option_map (λ us. t ∷ us) (part b n ts)) ≡ Some v → ((u : List Token) → part b n ts ≡ Some u → length u ≡ n) → length v ≡ suc n
    by_tail true f h = ap length (sym (same_some (filled b (suc n)) v f)) ∙ filled_long b (suc n)
    by_tail false f h = more_long n t (part b n ts) v f h

two : (a b : Bool) → a ≡ true → b ≡ true → (a && b) ≡ true
two a b e f = rw (e, f) refl

last_filled : (b : Bool) → list_all is_token (filled b 1) ≡ true
last_filled true = refl
last_filled false = refl

filled_valid : (b : Bool) (n : ℕ) → list_all is_token (filled b n) ≡ true
filled_valid b zero = refl
filled_valid b (suc zero) = last_filled b
filled_valid b (suc (suc n)) = filled_valid b (suc n)

end_valid : (b : Bool) (v : List Token) → (if b then None else Some []) ≡ Some v → list_all is_token v ≡ true
end_valid true v e = absurd (no_none v e)
end_valid false v e = ap (list_all is_token) (sym (same_some [] v e))

more_valid : (t : Token) (o : Option (List Token)) (v : List Token) → is_token t ≡ true → option_map (λ us. t ∷ us) o ≡ Some v → ((u : List Token) → o ≡ Some u → list_all is_token u ≡ true) → list_all is_token v ≡ true
more_valid t None v is e h = absurd (no_none v e)
more_valid t (Some u) v is e h = ap (list_all is_token) (sym (same_some (t ∷ u) v e)) ∙ two (is_token t) (list_all is_token u) is (h u refl)

part_valid : (b : Bool) (n : ℕ) (p v : List Token) → list_all is_token p ≡ true → part b n p ≡ Some v → list_all is_token v ≡ true
part_valid b zero [] v h e = end_valid b v e
part_valid b zero (t ∷ ts) v h e = absurd (no_none v e)
part_valid b (suc n) [] v h e = absurd (no_none v e)
part_valid b (suc n) (t ∷ ts) v h e =
    let parts = and_parts (is_token t) (list_all is_token ts) h in
    by_tail (is_tail t) e parts.0 (λ u f. part_valid b n ts u parts.1 f)
  where
    by_tail : (c : Bool) → (if c then Some (filled b (suc n)) else option_map (λ us. t ∷ us) (part b n ts)) ≡ Some v → is_token t ≡ true → ((u : List Token) → part b n ts ≡ Some u → list_all is_token u ≡ true) → list_all is_token v ≡ true
    by_tail true f is more = ap (list_all is_token) (sym (same_some (filled b (suc n)) v f)) ∙ filled_valid b (suc n)
    by_tail false f is more = more_valid t (part b n ts) v is f more

pattern_tokens : (p : List Token) → IsPattern p → list_all is_token p ≡ true
pattern_tokens [] h = refl
pattern_tokens (t ∷ ts) h =
    (and_parts (list_all is_token (t ∷ ts)) (tail_is_last (t ∷ ts)) (and_parts (list_all is_token (t ∷ ts) && tail_is_last (t ∷ ts)) _ h).0).0

pub valid_part : {A : Type 0} (b : Bool) (n : ℕ) (p : List Token) (o : Option A) (x : A) (f : A → List Token) → IsPattern p → option_map f o ≡ part b n p → o ≡ Some x → list_all is_token (f x) ≡ true
valid_part b n p o x f h e is = part_valid b n p (f x) (pattern_tokens p h) (sym e ∙ ap (option_map f) is)

-- ---- the sample of two parts

either_token : (fresh s t : Token) (a b : Bool) → is_star s ≡ a → is_star t ≡ b → is_token fresh ≡ true → is_token s ≡ true → is_token t ≡ true → is_token (either fresh s t) ≡ true
either_token fresh s t true true e f h i j = rw (e, f) h
either_token fresh s t true false e f h i j = rw (e, f) j
either_token fresh s t false b e f h i j = rw e i

either_valid : (fresh : Token) (ss ts : List Token) → is_token fresh ≡ true → list_all is_token ss ≡ true → list_all is_token ts ≡ true → list_all is_token (either_each fresh ss ts) ≡ true
either_valid fresh [] ts h i j = refl
either_valid fresh (s ∷ ss) [] h i j = refl
either_valid fresh (s ∷ ss) (t ∷ ts) h i j =
    let one = and_parts (is_token s) (list_all is_token ss) i in
    let other = and_parts (is_token t) (list_all is_token ts) j in
    two (is_token (either fresh s t)) (list_all is_token (either_each fresh ss ts)) (either_token fresh s t (is_star s) (is_star t) refl refl h one.0 other.0) (either_valid fresh ss ts h one.1 other.1)

either_long : (fresh : Token) (ss ts : List Token) → meet ss ts ≡ true → length (either_each fresh ss ts) ≡ length ss
either_long fresh [] ts h = refl
either_long fresh (s ∷ ss) [] h = absurd (cc)
either_long fresh (s ∷ ss) (t ∷ ts) h = ap suc (either_long fresh ss ts (and_parts (agree s t) (meet ss ts) h).1)

tokens_long : (u : List Token) → list_all is_token u ≡ true → 0 < length u → length (tokens_of (text_of u)) ≡ length u
tokens_long [] h less = absurd (omega (arith, less))
tokens_long (t ∷ ts) h less = ap length (tokens_again t ts h)

pub sample_long : (fresh : Token) (ss ts : List Token) (text : List ℕ) → list_all is_token ss ≡ true → list_all is_token ts ≡ true → Some text ≡ option_map text_of (sample fresh ss ts) →
    is_token fresh ≡ true → 0 < length ss → length (tokens_of text) ≡ length ss
sample_long fresh ss ts text h i e token less = by_meet (meet ss ts) refl e
  where
    by_meet : (b : Bool) → meet ss ts ≡ b → Some text ≡ option_map text_of (if b then Some (either_each fresh ss ts) else None) → length (tokens_of text) ≡ length ss
    by_meet false met f = absurd (no_none text (sym f))
    by_meet true met f =
        let long = either_long fresh ss ts met in
        ap (λ (l : List ℕ). length (tokens_of l)) (same_some text (text_of (either_each fresh ss ts)) f)
        ∙ tokens_long (either_each fresh ss ts) (either_valid fresh ss ts token h i) (omega (arith, long, less)) ∙ long

-- ---- a text, with queues

pub without_queue : (differs : Judging) (fresh : Token) (most : Option ℕ) (one other : List Token) (text : List ℕ) → most ≡ None → differs (tokens_of text) None ≡ false →
    IsAlike differs fresh most one other text
without_queue differs fresh most one other text e h = subst (λ (m : Option ℕ). IsAlike differs fresh m one other text) (sym e) each
  where
    each : IsAlike differs fresh None one other text
    each None k = h
    each (Some queue) k = absurd k

pub with_queues : (differs : Judging) (fresh : Token) (most : Option ℕ) (m : ℕ) (one other : List Token) (text : List ℕ) → most ≡ Some m → AreQueuesAlike differs fresh m one other text →
    IsAlike differs fresh most one other text
with_queues differs fresh most m one other text e h = subst (λ (o : Option ℕ). IsAlike differs fresh o one other text) (sym e) each
  where
    each : IsAlike differs fresh (Some m) one other text
    each None k = absurd k
    each (Some queue) k = h k.0 k.1 queue k.2 k.3

-- ---- a queue that is asked

subject_again : (q : List Token) → IsSubject q → subject_if (text_of q) ≡ Some q
subject_again q h =
    let same = again q h in
    let clean : subject_fault (text_of q) ≡ None = no_fault_from_subject (text_of q) (subst IsSubject (sym same) h) in
    rw clean (ap Some same)

queue_is : (o found : Option (List Token)) (q : List Token) → found ≡ subject_by (option_map text_of o) → o ≡ Some q → IsSubject q → found ≡ Some q
queue_is o found q e some h = e ∙ ap (λ (p : Option (List Token)). subject_by (option_map text_of p)) some ∙ subject_again q h

pub no_queue : (differs : Judging) (fresh : Token) (n : ℕ) (one other : List Token) (text : List ℕ) (found : Option (List Token)) →
    found ≡ subject_by (option_map text_of (common fresh false n one other)) → found ≡ None → IsQueueAlike differs fresh n one other text
no_queue differs fresh n one other text found e none queue some h =
    absurd (no_none queue (sym none ∙ queue_is (common fresh false n one other) found queue e some h))

pub other_queue : (differs : Judging) (fresh : Token) (n : ℕ) (one other : List Token) (text : List ℕ) (found : Option (List Token)) (q : List Token) →
    found ≡ subject_by (option_map text_of (common fresh false n one other)) → found ≡ Some q → differs (tokens_of text) (Some q) ≡ false → IsQueueAlike differs fresh n one other text
other_queue differs fresh n one other text found q e is judged queue some h =
    subst (λ (o : Option (List Token)). differs (tokens_of text) o ≡ false) (sym is ∙ queue_is (common fresh false n one other) found queue e some h) judged

-- the text of the sample of two parts
pub text_by : (fresh : Token) (has_tail : Bool) (n : ℕ) (one other : List Token) (first second : Option (List Token)) (found : Option (List ℕ)) → first ≡ part has_tail n one → second ≡ part has_tail n other →
    found ≡ option_map text_of (sample_of fresh first second) → found ≡ option_map text_of (common fresh has_tail n one other)
text_by fresh has_tail n one other first second found e f g =
    g ∙ ap (λ (o : Option (List Token)). option_map text_of (sample_of fresh o second)) e ∙ ap (λ (o : Option (List Token)). option_map text_of (sample_of fresh (part has_tail n one) o)) f

-- ---- the sample of two parts, judged alike

no_sample : (differs : Judging) (fresh : Token) (most : Option ℕ) (one other : List Token) (o : Option (List Token)) → None ≡ option_map text_of o → IsAlikeIf differs fresh most one other o
no_sample differs fresh most one other None e = tt
no_sample differs fresh most one other (Some s) e = absurd (no_none (text_of s) e)

one_sample : (differs : Judging) (fresh : Token) (most : Option ℕ) (one other : List Token) (o : Option (List Token)) (text : List ℕ) → Some text ≡ option_map text_of o →
    IsAlike differs fresh most one other text → IsAlikeIf differs fresh most one other o
one_sample differs fresh most one other None text e h = absurd (no_none text (sym e))
one_sample differs fresh most one other (Some s) text e h = subst (IsAlike differs fresh most one other) (same_some text (text_of s) e) h

pub no_sample_of : (differs : Judging) (search : Search) (v w : List Token × List Token) (ss ts : List Token) → ss ≡ v.0 → ts ≡ w.0 → None ≡ option_map text_of (sample search.token.now ss ts) →
    IsAlikePart differs search v (Some w)
no_sample_of differs search v w ss ts e f none =
    no_sample differs search.token.now search.most_of_queues v.1 w.1 (sample search.token.now v.0 w.0)
    (none ∙ ap (λ (l : List Token). option_map text_of (sample search.token.now l ts)) e ∙ ap (λ (l : List Token). option_map text_of (sample search.token.now v.0 l)) f)

pub one_sample_of : (differs : Judging) (search : Search) (v w : List Token × List Token) (ss ts : List Token) (text : List ℕ) → ss ≡ v.0 → ts ≡ w.0 →
    Some text ≡ option_map text_of (sample search.token.now ss ts) → IsAlike differs search.token.now search.most_of_queues v.1 w.1 text → IsAlikePart differs search v (Some w)
one_sample_of differs search v w ss ts text e f some alike =
    one_sample differs search.token.now search.most_of_queues v.1 w.1 (sample search.token.now v.0 w.0) text
    (some ∙ ap (λ (l : List Token). option_map text_of (sample search.token.now l ts)) e ∙ ap (λ (l : List Token). option_map text_of (sample search.token.now v.0 l)) f) alike

-- ---- a reason to allow, and those that it reaches

view_tokens : (o : Option (List Token)) (q : List Token) (v : List Token × List Token) → Some v ≡ option_map (λ t. (t, q)) o → (o ≡ Some v.0) × (q ≡ v.1)
view_tokens None q v e = absurd (no_none v (sym e))
view_tokens (Some t) q v e = let same : v ≡ (t, q) = same_some v (t, q) e in (ap Some (sym (ap (λ (w : List Token × List Token). w.0) same)), sym (ap (λ (w : List Token × List Token). w.1) same))

no_view : (o : Option (List Token)) (q : List Token) → None ≡ option_map {U = List Token × List Token} (λ t. (t, q)) o → o ≡ None
no_view None q e = refl
no_view (Some t) q e = absurd (no_none {A = List Token × List Token} (t, q) e)

parts_alike : (differs : Judging) (search : Search) (first second : Option (List Token)) (one other : List Token) (v : List Token × List Token) → first ≡ Some v.0 → one ≡ v.1 →
    IsAlikePart differs search v (option_map (λ t. (t, other)) second) → IsAlikeIf differs search.token.now search.most_of_queues one other (sample_of search.token.now first second)
parts_alike differs search first None one other v e f h =
    subst (λ (o : Option (List Token)). IsAlikeIf differs search.token.now search.most_of_queues one other (sample_of search.token.now o None)) (sym e) tt
parts_alike differs search first (Some t) one other v e f h =
    subst (λ (o : Option (List Token)). IsAlikeIf differs search.token.now search.most_of_queues one other (sample_of search.token.now o (Some t))) (sym e)
    (subst (λ (q : List Token). IsAlikeIf differs search.token.now search.most_of_queues q other (sample search.token.now v.0 t)) (sym f) h)

no_part : (differs : Judging) (search : Search) (first second : Option (List Token)) (one other : List Token) → first ≡ None →
    IsAlikeIf differs search.token.now search.most_of_queues one other (sample_of search.token.now first second)
no_part differs search first second one other e =
    subst (λ (o : Option (List Token)). IsAlikeIf differs search.token.now search.most_of_queues one other (sample_of search.token.now o second)) (sym e) tt

pub item_of : {A : Type 0} (xs : List A) (i : ℕ) → i < length xs → A
item_of [] i less = absurd (omega (arith, less))
item_of (x ∷ xs) i less = x

pub same_at : {A B C : Type 0} (f : A → C) (g : B → C) (xs : List A) (ys : List B) → map f xs ≡ map g ys → (i : ℕ) → i < length ys → (a : A) (b : B) → f (get_or xs i a) ≡ g (get_or ys i b)
same_at f g xs ys e i less a b =
    let long = ap length e in
    let other : i < length xs = omega (arith, less, long, length-map xs f, length-map ys g) in
    sym (get_or-map f xs i a (f a) other) ∙ ap (λ l. get_or l i (f a)) e ∙ get_or-map g ys i b (f a) less

module _ (differs : Judging) (search : Search) (has_tail : Bool) (n : ℕ) (one : Allowing) (parts : List (Option Part)) where
  pub without_part : (p : Option Part) → p ≡ None → option_map part_view p ≡ reason_part has_tail n one.reason → IsAlikeWithin differs search has_tail n one
  without_part p none is =
      let nothing : None ≡ reason_part has_tail n one.reason = sym (ap (option_map part_view) none) ∙ is in
      record {
        each = λ j r less reach. no_part differs search (part has_tail n one.reason.subject.now) (part has_tail n (slice_index_or search.refusing.items j r).subject.now) one.reason.queue.now (slice_index_or search.refusing.items j r).queue.now
            (no_view (part has_tail n one.reason.subject.now) one.reason.queue.now nothing);
      }

  pub with_part : map (option_map part_view) parts ≡ map (reason_part has_tail n) search.refusing.items → (p : Option Part) (own : Part) → p ≡ Some own →
      option_map part_view p ≡ reason_part has_tail n one.reason → AreAlikeParts differs search (part_view own) (take one.reach parts) → IsAlikeWithin differs search has_tail n one
  with_part same p own some is alike = record { each = reached }
    where
      reached : (j : ℕ) (r : Reason) → j < length search.refusing.items → j < one.reach → AreAlike differs search has_tail n one.reason (slice_index_or search.refusing.items j r)
      reached j r less reach =
          let v = part_view own in
          let viewed : Some v ≡ reason_part has_tail n one.reason = sym (ap (option_map part_view) some) ∙ is in
          let first = view_tokens (part has_tail n one.reason.subject.now) one.reason.queue.now v viewed in
          let long = ap length same in
          let inside : j < length parts = omega (arith, less, long, length-map parts (option_map part_view), length-map search.refusing.items (reason_part has_tail n)) in
          let d = item_of parts j inside in
          let front = length-take one.reach parts in
          let judged = alike j d (omega (arith, front, inside, reach)) in
          let viewed_at = ap (option_map part_view) (get_or-take one.reach parts j d reach) ∙ same_at (option_map part_view) (reason_part has_tail n) parts search.refusing.items same j less d r in
          parts_alike differs search (part has_tail n one.reason.subject.now) (part has_tail n (slice_index_or search.refusing.items j r).subject.now) one.reason.queue.now (slice_index_or search.refusing.items j r).queue.now v first.0 first.1
          (subst (IsAlikePart differs search v) viewed_at judged)

  -- how long what is found of a reason's part is
  pub part_is_long : (p : Option Part) (own : Part) → p ≡ Some own → option_map part_view p ≡ reason_part has_tail n one.reason → length (part_view own).0 ≡ n
  part_is_long p own some is =
      let viewed : Some (part_view own) ≡ reason_part has_tail n one.reason = sym (ap (option_map part_view) some) ∙ is in
      part_long has_tail n one.reason.subject.now (part_view own).0 (view_tokens (part has_tail n one.reason.subject.now) one.reason.queue.now (part_view own) viewed).0

pub at_any : {A : Type 0} (Is : A → Type 0) (xs ys : List A) (i : ℕ) (d e : A) → xs ≡ ys → i < length xs → Is (get_or xs i d) → Is (get_or ys i e)
at_any Is xs ys i d e same less h = subst Is (get_or_default xs i d e less ∙ ap (λ l. get_or l i e) same) h
