-- Slots by rising number, and the routes that stand in them.
use Rattle.std.proofs.Common.{◌≡◌, ◌≢◌, ◌∙◌, ◌<◌, ◌≤◌, ◌+◌, ◌&&◌, ℕ, zero, suc, Bool, true, false, cond, not, List, [], ◌∷◌, ◌++◌, length, filter, map, take, drop, get_or, set, append_assoc, Option, Some, None, ap, sym, refl, subst, arith, true≢false, slice_index_or, slice_set}
use Rattle.std.specs.List.{filter_map}
use Rattle.std.specs.Option.{option_map}
use Rattle.std.proofs.lemmas.List.{append-nil, get_or_default, take_all, take_more, take_more_set, drop_more, drop-set-lt, length-append}
use Rattle.subjects.specs.Subject.{Token}
use Rattle.std.specs.Prelude.{codes}
use Rattle.std.specs.Fmt.{decimal}
use Rattle.service_exporter.specs.service_subjects.Names.{hex_of, is_on, number_of}
use Rattle.service_exporter.proofs.service_subjects.Tokens.{from_on, number_of_decimal}
use Rattle.service_exporter.specs.Routes.{Numbered, ends_by, if_lives, kept_route, living, lives, on_row, route_on}
use Rattle.stores.specs.numbered_slots.Slots.{entry_of, passes}
use Rattle.stores.proofs.numbered_slots.Places.{below_at, one_place, entries-append}
use Rattle.service_exporter.specs.Slots.{slot_number, held, standing_in, is_single, kept_in, is_in, kept_slot, LivesUntil, AreBelow, AreRising, IsAbsent, IsNowhere, IsPlaceOf, IsPlaceOn}
use Rattle.service_exporter.specs.declared.route.NewRow.{NewRow}
use Rattle.service_exporter.specs.declared.route.Route.{Route}
use Rattle.policy_doc.specs.declared.exports.document.Row.{Row}
use Rattle.service_exporter.specs.declared.slots.Slot.{Slot}

-- ---- the slot of a subject

pub no_true : (b : Bool) → b ≢ true → b ≡ false
no_true true h = absurd (h refl)
no_true false h = refl

-- whatever slot has the subject's route has the number that the subject writes
abbrev pub Tells : List Token → List Slot → Option ℕ → Type 0
Tells s slots read = (k : ℕ) (d : Slot) → k < length slots → is_in s (slice_index_or slots k d) ≡ true → read ≡ Some (slice_index_or slots k d).number

some_same : (a b : ℕ) → Some a ≡ Some b → a ≡ b
some_same a b e = cc

pub nowhere_unread : (s : List Token) (slots : List Slot) → Tells s slots None → IsNowhere s slots
nowhere_unread s slots tells = λ k d within. no_true (is_in s (slice_index_or slots k d)) (λ h. let e : None ≡ Some (slice_index_or slots k d).number = tells k d within h in absurd (cc))

pub nowhere_absent : (s : List Token) (slots : List Slot) (n : ℕ) → Tells s slots (Some n) → IsAbsent n slots → IsNowhere s slots
nowhere_absent s slots n tells absent =
    λ k d within. no_true (is_in s (slice_index_or slots k d)) (λ h. absent k d within (sym (some_same n (slice_index_or slots k d).number (tells k d within h))))

pub nowhere_other : (s : List Token) (slots : List Slot) (n at : ℕ) (e : Slot) → AreRising slots → Tells s slots (Some n) → IsPlaceOf n slots at → is_in s (slice_index_or slots at e) ≡ false → IsNowhere s slots
nowhere_other s slots n at e rising tells place other = λ k d within. no_true (is_in s (slice_index_or slots k d)) (λ h.
    let same : (slice_index_or slots k d).number ≡ n = sym (some_same n (slice_index_or slots k d).number (tells k d within h)) in
    let here : k ≡ at = one_place slot_number slots k at d rising within place.0 (same ∙ sym (place.1 d)) in
    let no : is_in s (slice_index_or slots k d) ≡ false = subst (λ j. is_in s (slice_index_or slots j d) ≡ false) (sym here) (ap (is_in s) (get_or_default slots at d e place.0) ∙ other) in
    true≢false (sym h ∙ no))

pub placed_on : (s : List Token) (slots : List Slot) (n at : ℕ) (e : Slot) → AreRising slots → Tells s slots (Some n) → IsPlaceOf n slots at → is_in s (slice_index_or slots at e) ≡ true → IsPlaceOn s slots at
placed_on s slots n at e rising tells place it = record {
  within = place.0;
  here = λ d. ap (is_in s) (get_or_default slots at d e place.0) ∙ it;
  elsewhere = λ k d within other. no_true (is_in s (slice_index_or slots k d)) (λ h.
      let same : (slice_index_or slots k d).number ≡ n = sym (some_same n (slice_index_or slots k d).number (tells k d within h)) in
      other (one_place slot_number slots k at d rising within place.0 (same ∙ sym (place.1 d))));
}

-- the number that a subject's third token writes tells its slot
pub tells_number : (s : List Token) (slots : List Slot) (read : Option ℕ) → AreBelow 18446744073709551616 slots
    → ((mark hex digits : Token) → s ≡ mark ∷ hex ∷ digits ∷ [] → read ≡ number_of digits) → Tells s slots read
tells_number s slots read small written =
    λ k d within h. by (slice_index_or slots k d).number (below_at slot_number 18446744073709551616 slots k d small within) (slice_index_or slots k d).route h
  where
    by : (n : ℕ) → n < 18446744073709551616 → (o : Option Route) → passes (λ (r : Route). is_on s n r.word) o ≡ true → read ≡ Some n
    by n fits None h = absurd (cc)
    by n fits (Some r) h = written (codes "_R_") (hex_of r.word) (decimal n) (from_on s n r.word h) ∙ number_of_decimal n (omega (arith, fits))

-- ---- the route of a subject

-- what a place says of the first slot, and of those behind it
not_first : (s : List Token) (slot : Slot) (slots : List Slot) (at : ℕ) → IsPlaceOn s (slot ∷ slots) (suc at) → is_in s slot ≡ false
not_first s slot slots at place = place.elsewhere zero slot (omega arith) (λ e. absurd (omega (arith, e)))

behind : (s : List Token) (slot : Slot) (slots : List Slot) (at : ℕ) → IsPlaceOn s (slot ∷ slots) (suc at) → IsPlaceOn s slots at
behind s slot slots at place = record {
  within = let h = place.within in omega arith;
  here = λ d. place.here d;
  elsewhere = λ k d within other. place.elsewhere (suc k) d (omega arith) (λ e. other (omega (arith, e)));
}

nowhere_behind : (s : List Token) (slot : Slot) (slots : List Slot) → IsPlaceOn s (slot ∷ slots) zero → IsNowhere s slots
nowhere_behind s slot slots place = λ k d within. place.elsewhere (suc k) d (omega arith) (λ e. absurd (omega (arith, e)))

pub none_on : (s : List Token) (slots : List Slot) → IsNowhere s slots → route_on s (standing_in slots) ≡ None
none_on s [] nowhere = refl
none_on s (slot ∷ slots) nowhere = by slot.route (nowhere zero slot (omega arith)) (none_on s slots (λ k d within. nowhere (suc k) d (omega arith)))
  where
    by : (o : Option Route) → passes (λ (r : Route). is_on s slot.number r.word) o ≡ false → route_on s (standing_in slots) ≡ None → route_on s (entry_of slot.number o ++ standing_in slots) ≡ None
    by None other later = later
    by (Some r) other later = rw other later

pub route_at : (s : List Token) (slots : List Slot) (at : ℕ) (d : Slot) → IsPlaceOn s slots at → route_on s (standing_in slots) ≡ (slice_index_or slots at d).route
route_at s [] at d place = absurd (let h = place.within in omega arith)
route_at s (slot ∷ slots) zero d place = by slot.route (place.here slot)
  where
    by : (o : Option Route) → passes (λ (r : Route). is_on s slot.number r.word) o ≡ true → route_on s (entry_of slot.number o ++ standing_in slots) ≡ o
    by None here = absurd (cc)
    by (Some r) here = rw here refl
route_at s (slot ∷ slots) (suc at) d place =
    by slot.route (not_first s slot slots at place) (route_at s slots at d (behind s slot slots at place))
  where
    by : (o : Option Route) → passes (λ (r : Route). is_on s slot.number r.word) o ≡ false → route_on s (standing_in slots) ≡ (slice_index_or slots at d).route
        → route_on s (entry_of slot.number o ++ standing_in slots) ≡ (slice_index_or slots at d).route
    by None other later = later
    by (Some r) other later = rw other later

-- no route of the subject lives where none is
pub none_living : (now : ℕ) (s : List Token) (slots : List Slot) → IsNowhere s slots → route_on s (living now (standing_in slots)) ≡ None
none_living now s [] nowhere = refl
none_living now s (slot ∷ slots) nowhere = by slot.route (nowhere zero slot (omega arith)) (none_living now s slots (λ k d within. nowhere (suc k) d (omega arith)))
  where
    by : (o : Option Route) → passes (λ (r : Route). is_on s slot.number r.word) o ≡ false → route_on s (living now (standing_in slots)) ≡ None → route_on s (living now (entry_of slot.number o ++ standing_in slots)) ≡ None
    by None other later = later
    by (Some r) other later = here (lives now r)
      where
        here : (b : Bool) → route_on s (cond b ((slot.number, r) ∷ living now (standing_in slots)) (living now (standing_in slots))) ≡ None
        here true = rw other later
        here false = later

-- and where one is, it is the one that lives, if it does
pub living_at : (now : ℕ) (s : List Token) (slots : List Slot) (at : ℕ) (d : Slot) → IsPlaceOn s slots at → route_on s (living now (standing_in slots)) ≡ if_lives now (slice_index_or slots at d).route
living_at now s [] at d place = absurd (let h = place.within in omega arith)
living_at now s (slot ∷ slots) zero d place = by slot.route (place.here slot) (none_living now s slots (nowhere_behind s slot slots place))
  where
    by : (o : Option Route) → passes (λ (r : Route). is_on s slot.number r.word) o ≡ true → route_on s (living now (standing_in slots)) ≡ None → route_on s (living now (entry_of slot.number o ++ standing_in slots)) ≡ if_lives now o
    by None here none = absurd (cc)
    by (Some r) here none = by_life (lives now r)
      where
        by_life : (b : Bool) → route_on s (cond b ((slot.number, r) ∷ living now (standing_in slots)) (living now (standing_in slots))) ≡ cond b (Some r) None
        by_life true = rw here refl
        by_life false = none
living_at now s (slot ∷ slots) (suc at) d place =
    by slot.route (not_first s slot slots at place) (living_at now s slots at d (behind s slot slots at place))
  where
    by : (o : Option Route) → passes (λ (r : Route). is_on s slot.number r.word) o ≡ false → route_on s (living now (standing_in slots)) ≡ if_lives now (slice_index_or slots at d).route
        → route_on s (living now (entry_of slot.number o ++ standing_in slots)) ≡ if_lives now (slice_index_or slots at d).route
    by None other later = later
    by (Some r) other later = by_life (lives now r)
      where
        by_life : (b : Bool) → route_on s (cond b ((slot.number, r) ∷ living now (standing_in slots)) (living now (standing_in slots))) ≡ if_lives now (slice_index_or slots at d).route
        by_life true = rw other later
        by_life false = later

-- ---- slots that were lent

-- slots that are written back are all that there are
pub written_back : (len : ℕ) (new items : List Slot) → length new ≡ length items → len ≡ length items → take len (new ++ drop (length new) items) ≡ new
written_back len new items same is =
    ap (λ more. take len (new ++ more)) (none (length new) items (omega (arith, same)))
    ∙ ap (take len) (append-nil new)
    ∙ take_all len new (omega (arith, same, is))
  where
    none : (n : ℕ) (xs : List Slot) → length xs ≤ n → drop n xs ≡ []
    none zero [] le = refl
    none (suc n) [] le = refl
    none zero (x ∷ xs) le = absurd (omega (arith, le))
    none (suc n) (x ∷ xs) le = none n xs (omega (arith, le))

-- ---- a slot in the place of another

-- one that doesn't live is taken out of its slot
pub dropped_at : (now : ℕ) (slots : List Slot) (i : ℕ) (new d : Slot) → i < length slots → new.number ≡ (slice_index_or slots i d).number
    → new.route ≡ cond (passes (lives now) (slice_index_or slots i d).route) (slice_index_or slots i d).route None
    → living now (standing_in (slice_set slots i new)) ≡ living now (standing_in slots)
dropped_at now [] i new d within same is = absurd (omega arith)
dropped_at now (s ∷ slots) zero new d within same is = rw same (here s.route new.route is)
  where
    here : (o p : Option Route) → p ≡ cond (passes (lives now) o) o None → living now (entry_of s.number p ++ standing_in slots) ≡ living now (entry_of s.number o ++ standing_in slots)
    here None p e = rw e refl
    here (Some r) p e = by (lives now r) refl e
      where
        by : (b : Bool) → lives now r ≡ b → p ≡ cond b (Some r) None → living now (entry_of s.number p ++ standing_in slots) ≡ cond b ((s.number, r) ∷ living now (standing_in slots)) (living now (standing_in slots))
        by true l q = rw q (rw l refl)
        by false l q = rw q refl
dropped_at now (s ∷ slots) (suc i) new d within same is = by s.route (dropped_at now slots i new d (omega arith) same is)
  where
    by : (o : Option Route) → living now (standing_in (slice_set slots i new)) ≡ living now (standing_in slots) → living now (entry_of s.number o ++ standing_in (slice_set slots i new)) ≡ living now (entry_of s.number o ++ standing_in slots)
    by None later = later
    by (Some r) later = ap (λ more. cond (lives now r) ((s.number, r) ∷ more) more) later

-- ---- a route that ends by a response

not_both : (b c : Bool) → c ≡ false → not (b && c) ≡ true
not_both true c e = rw e refl
not_both false c e = refl

both : (b c : Bool) → c ≡ true → not (b && c) ≡ not b
both true c e = rw e refl
both false c e = refl

pub none_spent : (s : List Token) (slots : List Slot) → IsNowhere s slots → filter (λ (r : Numbered). not (ends_by s r)) (standing_in slots) ≡ standing_in slots
none_spent s [] nowhere = refl
none_spent s (slot ∷ slots) nowhere = by slot.route (nowhere zero slot (omega arith)) (none_spent s slots (λ k d within. nowhere (suc k) d (omega arith)))
  where
    by : (o : Option Route) → passes (λ (r : Route). is_on s slot.number r.word) o ≡ false → filter (λ (r : Numbered). not (ends_by s r)) (standing_in slots) ≡ standing_in slots
        → filter (λ (r : Numbered). not (ends_by s r)) (entry_of slot.number o ++ standing_in slots) ≡ entry_of slot.number o ++ standing_in slots
    by None other later = later
    by (Some r) other later = rw (not_both r.terms.single (is_on s slot.number r.word) other) (ap (λ more. (slot.number, r) ∷ more) later)

pub spent_at : (s : List Token) (slots : List Slot) (at : ℕ) (new d : Slot) → IsPlaceOn s slots at → new.number ≡ (slice_index_or slots at d).number
    → new.route ≡ cond (passes is_single (slice_index_or slots at d).route) None (slice_index_or slots at d).route
    → standing_in (slice_set slots at new) ≡ filter (λ (r : Numbered). not (ends_by s r)) (standing_in slots)
spent_at s [] at new d place same is = absurd (let h = place.within in omega arith)
spent_at s (slot ∷ slots) zero new d place same is =
    rw same (here slot.route new.route (place.here slot) is (none_spent s slots (nowhere_behind s slot slots place)))
  where
    here : (o p : Option Route) → passes (λ (r : Route). is_on s slot.number r.word) o ≡ true → p ≡ cond (passes is_single o) None o
        → filter (λ (r : Numbered). not (ends_by s r)) (standing_in slots) ≡ standing_in slots
        → entry_of slot.number p ++ standing_in slots ≡ filter (λ (r : Numbered). not (ends_by s r)) (entry_of slot.number o ++ standing_in slots)
    here None p on e later = absurd (cc)
    here (Some r) p on e later = by r.terms.single refl e
      where
        rest : List Numbered
        rest = filter (λ (x : Numbered). not (ends_by s x)) (standing_in slots)

        ends : (b : Bool) → r.terms.single ≡ b → not (ends_by s (slot.number, r)) ≡ not b
        ends b l = ap (λ x. not (x && is_on s slot.number r.word)) l ∙ both b (is_on s slot.number r.word) on

        by : (b : Bool) → r.terms.single ≡ b → p ≡ cond b None (Some r) → entry_of slot.number p ++ standing_in slots ≡ cond (not (ends_by s (slot.number, r))) ((slot.number, r) ∷ rest) rest
        by true l q = rw q (sym (ap (λ x. cond x ((slot.number, r) ∷ rest) rest) (ends true l) ∙ later))
        by false l q = rw q (sym (ap (λ x. cond x ((slot.number, r) ∷ rest) rest) (ends false l) ∙ ap (λ more. (slot.number, r) ∷ more) later))
spent_at s (slot ∷ slots) (suc at) new d place same is =
    by slot.route (not_first s slot slots at place) (spent_at s slots at new d (behind s slot slots at place) same is)
  where
    by : (o : Option Route) → passes (λ (r : Route). is_on s slot.number r.word) o ≡ false
        → standing_in (slice_set slots at new) ≡ filter (λ (r : Numbered). not (ends_by s r)) (standing_in slots)
        → entry_of slot.number o ++ standing_in (slice_set slots at new) ≡ filter (λ (r : Numbered). not (ends_by s r)) (entry_of slot.number o ++ standing_in slots)
    by None other later = later
    by (Some r) other later = rw (not_both r.terms.single (is_on s slot.number r.word) other) (ap (λ more. (slot.number, r) ∷ more) later)

-- with one that was taken out, so many live as before
pub left_at : (t : ℕ) (slots : List Slot) (i : ℕ) (new d : Slot) (taken : Option Route) → i < length slots
    → new.route ≡ cond (passes is_single (slice_index_or slots i d).route) None (slice_index_or slots i d).route
    → taken ≡ cond (passes is_single (slice_index_or slots i d).route) (slice_index_or slots i d).route None
    → length (living t (standing_in slots)) ≡ length (living t (standing_in (slice_set slots i new))) + cond (passes (lives t) taken) 1 0
left_at t [] i new d taken within is took = absurd (omega arith)
left_at t (s ∷ slots) zero new d taken within is took = here s.route new.route taken (passes is_single s.route) is took
  where
    rest : List Numbered
    rest = living t (standing_in slots)

    here : (o p q : Option Route) (b : Bool) → p ≡ cond b None o → q ≡ cond b o None
        → length (living t (entry_of s.number o ++ standing_in slots)) ≡ length (living t (entry_of new.number p ++ standing_in slots)) + cond (passes (lives t) q) 1 0
    here None p q true e f = rw (e, f) (omega arith)
    here None p q false e f = rw (e, f) (omega arith)
    here (Some r) p q true e f = rw (e, f) (gone (lives t r))
      where
        gone : (b : Bool) → length {A = Numbered} (cond b ((s.number, r) ∷ rest) rest) ≡ length rest + cond b 1 0
        gone true = omega arith
        gone false = omega arith
    here (Some r) p q false e f = rw (e, f) (stays (lives t r))
      where
        stays : (b : Bool) → length {A = Numbered} (cond b ((s.number, r) ∷ rest) rest) ≡ length {A = Numbered} (cond b ((new.number, r) ∷ rest) rest) + 0
        stays true = omega arith
        stays false = omega arith
left_at t (s ∷ slots) (suc i) new d taken within is took = by s.route (left_at t slots i new d taken (omega arith) is took)
  where
    by : (o : Option Route) → length (living t (standing_in slots)) ≡ length (living t (standing_in (slice_set slots i new))) + cond (passes (lives t) taken) 1 0
        → length (living t (entry_of s.number o ++ standing_in slots)) ≡ length (living t (entry_of s.number o ++ standing_in (slice_set slots i new))) + cond (passes (lives t) taken) 1 0
    by None later = later
    by (Some r) later = more (lives t r)
      where
        was : List Numbered
        was = living t (standing_in slots)

        left : List Numbered
        left = living t (standing_in (slice_set slots i new))

        more : (b : Bool) → length {A = Numbered} (cond b ((s.number, r) ∷ was) was) ≡ length {A = Numbered} (cond b ((s.number, r) ∷ left) left) + cond (passes (lives t) taken) 1 0
        more true = omega (arith, later)
        more false = later

-- ---- how many live

living-append : (now : ℕ) (xs ys : List Numbered) → living now (xs ++ ys) ≡ living now xs ++ living now ys
living-append now [] ys = refl
living-append now (x ∷ xs) ys = by (lives now x.1) (living-append now xs ys)
  where
    by : (b : Bool) → living now (xs ++ ys) ≡ living now xs ++ living now ys → cond b (x ∷ living now (xs ++ ys)) (living now (xs ++ ys)) ≡ cond b (x ∷ living now xs) (living now xs) ++ living now ys
    by true later = ap (λ more. x ∷ more) later
    by false later = later

one_living : (now : ℕ) (s : Slot) → length (living now (standing_in (s ∷ []))) ≡ cond (passes (lives now) s.route) 1 0
one_living now s = by s.route
  where
    by : (o : Option Route) → length (living now (entry_of s.number o ++ [])) ≡ cond (passes (lives now) o) 1 0
    by None = refl
    by (Some r) = here (lives now r)
      where
        here : (b : Bool) → length {A = Numbered} (cond b ((s.number, r) ∷ []) []) ≡ cond b 1 0
        here true = refl
        here false = refl

pub living_more : (now : ℕ) (slots : List Slot) (i : ℕ) (s : Slot) → i < length slots → s ≡ get_or slots i s
    → length (living now (standing_in (take (i + 1) slots))) ≡ length (living now (standing_in (take i slots))) + cond (passes (lives now) s.route) 1 0
living_more now slots i s within is =
    ap (λ (l : List Slot). length (living now (standing_in l))) (take_more slots i s within ∙ ap (λ x. take i slots ++ x ∷ []) (sym is))
    ∙ ap (λ (l : List Numbered). length (living now l)) (entries-append slot_number held (take i slots) (s ∷ []))
    ∙ ap length (living-append now (standing_in (take i slots)) (standing_in (s ∷ [])))
    ∙ length-append (living now (standing_in (take i slots))) (living now (standing_in (s ∷ [])))
    ∙ ap (λ n. length (living now (standing_in (take i slots))) + n) (one_living now s)

-- a slot's route that lives at a moment does so up to its end
pub lives_until : (end t now : ℕ) (o : Option Route) → LivesUntil end o → t ≤ end → passes (lives now) o ≡ true → passes (lives t) o ≡ true
lives_until end t now None until le h = absurd (cc)
lives_until end t now (Some r) until le h = until t le

-- no more live than there are slots
pub living_within : (now : ℕ) (slots : List Slot) → length (living now (standing_in slots)) ≤ length slots
living_within now [] = omega arith
living_within now (s ∷ slots) = by s.route (living_within now slots)
  where
    by : (o : Option Route) → length (living now (standing_in slots)) ≤ length slots → length (living now (entry_of s.number o ++ standing_in slots)) ≤ suc (length slots)
    by None later = omega (arith, later)
    by (Some r) later = here (lives now r)
      where
        here : (b : Bool) → length (cond b ((s.number, r) ∷ living now (standing_in slots)) (living now (standing_in slots))) ≤ suc (length slots)
        here true = omega (arith, later)
        here false = omega (arith, later)

-- ---- the rows of another policy

pub kept_more : (f : Slot → Slot) (xs : List Slot) (i : ℕ) (y z : Slot) → i < length xs → y ≡ f (get_or xs i z)
    → take (i + 1) (set xs i y) ++ map f (drop (i + 1) (set xs i y)) ≡ take i xs ++ map f (drop i xs)
kept_more f xs i y z h given =
    ap (λ front. front ++ map f (drop (i + 1) (set xs i y))) (take_more_set xs i y h)
    ∙ ap (λ left. (take i xs ++ y ∷ []) ++ map f left) (drop-set-lt (i + 1) xs i y (omega arith))
    ∙ append_assoc (take i xs) (y ∷ []) (map f (drop (i + 1) xs))
    ∙ ap (λ left. take i xs ++ left) (
    ap (λ x. x ∷ map f (drop (i + 1) xs)) given
    ∙ ap (λ left. map f left) (sym (drop_more xs i z h)))

pub standing-on_rows : (renewed : Row → Option NewRow) (slots : List Slot) → standing_in (map (kept_slot renewed) slots) ≡ filter_map (kept_route renewed) (standing_in slots)
standing-on_rows renewed [] = refl
standing-on_rows renewed (s ∷ slots) = by s.route (standing-on_rows renewed slots)
  where
    by : (o : Option Route) → standing_in (map (kept_slot renewed) slots) ≡ filter_map (kept_route renewed) (standing_in slots)
        → entry_of s.number (kept_in renewed o) ++ standing_in (map (kept_slot renewed) slots) ≡ filter_map (kept_route renewed) (entry_of s.number o ++ standing_in slots)
    by None later = later
    by (Some r) later = here (renewed r.row) refl
      where
        here : (o : Option NewRow) → renewed r.row ≡ o → entry_of s.number (option_map (on_row r) (renewed r.row)) ++ standing_in (map (kept_slot renewed) slots) ≡ filter_map (kept_route renewed) ((s.number, r) ∷ standing_in slots)
        here None e = rw e later
        here (Some new) e = rw e (ap (λ more. (s.number, on_row r new) ∷ more) later)

-- ---- the routes of a plain list

-- one slot first
pub living_first : (now : ℕ) (s : Slot) (slots : List Slot) → living now (standing_in (s ∷ slots)) ≡ living now (standing_in (s ∷ [])) ++ living now (standing_in slots)
living_first now s slots = by s.route
  where
    by : (o : Option Route) → living now (entry_of s.number o ++ standing_in slots) ≡ living now (entry_of s.number o ++ []) ++ living now (standing_in slots)
    by None = refl
    by (Some r) = by_life (lives now r)
      where
        by_life : (b : Bool) → cond b ((s.number, r) ∷ living now (standing_in slots)) (living now (standing_in slots)) ≡ cond b ((s.number, r) ∷ []) [] ++ living now (standing_in slots)
        by_life true = refl
        by_life false = refl
