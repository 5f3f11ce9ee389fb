-- The entry of a subject, found by its place.
use Rattle.std.proofs.Common.{◌≡◌, ◌∙◌, ◌+◌, ◌++◌, ◌<◌, ◌≤◌, ◌-◌, ℕ, suc, zero, true, false, List, [], ◌∷◌, Option, Some, rules, map, drop, length, slice_get, position, get_or, arith, ap, sym, refl, subst}
use Rattle.std.specs.List.{AllByRecursion, IsDistinct, remove, insert}
use Rattle.std.specs.Map.{keys_of, values_of}
use Rattle.std.proofs.lemmas.List.{drop-drop}
use Rattle.std.proofs.lemmas.List.Quantifiers.{position-Some}
use Rattle.std.proofs.lemmas.Option.{slice_get_within}
use Rattle.indexmap.specs.IndexMap.{move_index, set_value_at}
use Rattle.subjects.specs.Subject.{Token}
use Rattle.subjects.specs.Equal.{same_subject}
use Rattle.reply_grants.specs.declared.grant_table.Granted.{Granted}
use Rattle.policy_doc.specs.declared.permission_doc.document.Terms.{Terms}
use Rattle.reply_grants.specs.Grants.{Grant, has_live, is_live, without}
use Rattle.reply_grants.specs.Window.{Entry, grant_of, window}
use Rattle.reply_grants.proofs.Entries.{NoneHas, equal, itself, turned, none_after, none_dropped, none_live, none_without}

has_grant : (s : List Token) (es : List Entry) (p : ℕ) → p < length (keys_of es) → ((d : List Token) → same_subject s (get_or (keys_of es) p d) ≡ true) → (m : Granted) × (slice_get es p ≡ Some (s, m))
has_grant s [] p inside here = absurd (omega arith)
has_grant s (e ∷ es) zero inside here = (e.1, ap (λ k. Some (k, e.1)) (sym (equal s e.0 (here []))))
has_grant s (e ∷ es) (suc p) inside here = has_grant s es p (omega (arith, inside)) here

-- a place that was found has an entry of the subject
pub placed : (s : List Token) (es : List Entry) (p : ℕ) → Some p ≡ position (same_subject s) (keys_of es) → (m : Granted) × (slice_get es p ≡ Some (s, m))
placed s es p e =
    has_grant s es p (position-Some (same_subject s) (keys_of es) p [] (sym e)).0 (λ d. (position-Some (same_subject s) (keys_of es) p d (sym e)).1)

-- and it is the one at the place
pub same_grant : (s : List Token) (m n : Granted) (es : List Entry) (p : ℕ) → slice_get es p ≡ Some (s, m) → slice_get (values_of es) p ≡ Some n → n ≡ m
same_grant s m n [] p h v = absurd (cc)
same_grant s m n (e ∷ es) zero h v = cc
same_grant s m n (e ∷ es) (suc p) h v = same_grant s m n es p h v

-- what holds of all keys holds of the one there
at_key : (P : List Token → Type 0) (s : List Token) (m : Granted) (es : List Entry) (p : ℕ) → slice_get es p ≡ Some (s, m) → AllByRecursion P (keys_of es) → P s
at_key P s m [] p h all = absurd (cc)
at_key P s m (e ∷ es) zero h all = let key : e.0 ≡ s = cc in subst P key all.0
at_key P s m (e ∷ es) (suc p) h all = at_key P s m es p h all.1

module _ (s : List Token) (m : Granted) where
  -- none behind the place has the subject
  past : (es : List Entry) (p gone : ℕ) → slice_get es p ≡ Some (s, m) → IsDistinct same_subject (keys_of es) → p < gone → NoneHas s (drop gone es)
  unfolding IsDistinct
  past [] p gone h d lt = absurd (cc)
  past (e ∷ es) p zero h d lt = absurd (omega (arith, lt))
  past (e ∷ es) zero (suc g) h d lt = let key : s ≡ e.0 = cc in none_dropped s g es (none_after s e es key d.0)
  past (e ∷ es) (suc p) (suc g) h d lt = past es p g h d.1 (omega (arith, lt))

  pub live_at : (now : ℕ) (terms : Option Terms) (es : List Entry) (p gone : ℕ) → slice_get es p ≡ Some (s, m) → IsDistinct same_subject (keys_of es) → gone ≤ p
      → has_live s now terms (window gone es) ≡ is_live now terms (grant_of (s, m))
  unfolding IsDistinct
  live_at now terms [] p gone h d le = absurd (cc)
  live_at now terms (e ∷ es) zero (suc g) h d le = absurd (omega (arith, le))
  live_at now terms (e ∷ es) zero zero h d le =
      let key : s ≡ e.0 = cc in
      let whole : e ≡ (s, m) = cc in
      first (subst (λ k. same_subject s k ≡ true) key (itself s)) (ap (λ (f : Entry). is_live now terms (grant_of f)) whole) (none_live s now terms es (none_after s e es key d.0))
    where
      first : same_subject s e.0 ≡ true → is_live now terms (grant_of e) ≡ is_live now terms (grant_of (s, m)) → has_live s now terms (map grant_of es) ≡ false
          → has_live s now terms (window 0 (e ∷ es)) ≡ is_live now terms (grant_of (s, m))
      first y same none = rw y (rw none (grind rules) ∙ same)
  live_at now terms (e ∷ es) (suc p) zero h d le =
      let other = turned e.0 s (at_key (λ k. same_subject e.0 k ≡ false) s m es p h d.0) in
      rw other (live_at now terms es p 0 h d.1 (omega arith))
  live_at now terms (e ∷ es) (suc p) (suc g) h d le = live_at now terms es p g h d.1 (omega (arith, le))

  pub live_before : (now : ℕ) (terms : Option Terms) (es : List Entry) (p gone : ℕ) → slice_get es p ≡ Some (s, m) → IsDistinct same_subject (keys_of es) → p < gone
      → has_live s now terms (window gone es) ≡ false
  live_before now terms es p gone h d lt = none_live s now terms (drop gone es) (past es p gone h d lt)

  pub without_before : (es : List Entry) (p gone : ℕ) → slice_get es p ≡ Some (s, m) → IsDistinct same_subject (keys_of es) → p < gone
      → without s (window gone es) ≡ window gone es
  without_before es p gone h d lt = none_without s (drop gone es) (past es p gone h d lt)

  pub without_at : (es : List Entry) (p gone : ℕ) → slice_get es p ≡ Some (s, m) → IsDistinct same_subject (keys_of es) → gone ≤ p
      → without s (window gone es) ≡ window gone (remove es p)
  unfolding IsDistinct
  without_at [] p gone h d le = absurd (cc)
  without_at (e ∷ es) zero (suc g) h d le = absurd (omega (arith, le))
  without_at (e ∷ es) zero zero h d le =
      let key : s ≡ e.0 = cc in
      rw (subst (λ k. same_subject s k ≡ true) key (itself s)) (none_without s es (none_after s e es key d.0))
  without_at (e ∷ es) (suc p) zero h d le =
      let other = turned e.0 s (at_key (λ k. same_subject e.0 k ≡ false) s m es p h d.0) in
      rw other (ap (λ (gs : List Grant). grant_of e ∷ gs) (without_at es p 0 h d.1 (omega arith)))
  without_at (e ∷ es) (suc p) (suc g) h d le = without_at es p g h d.1 (omega (arith, le))

-- what stands behind a place that is taken out
pub removed_before : (es : List Entry) (p g : ℕ) → p < suc g → drop g (remove es p) ≡ drop (suc g) es
removed_before [] zero zero lt = refl
removed_before [] zero (suc g) lt = refl
removed_before [] (suc p) zero lt = refl
removed_before [] (suc p) (suc g) lt = refl
removed_before (e ∷ es) zero g lt = refl
removed_before (e ∷ es) (suc p) zero lt = absurd (omega (arith, lt))
removed_before (e ∷ es) (suc p) (suc g) lt = removed_before es p g (omega (arith, lt))

pub length_removed : (es : List Entry) (p : ℕ) (e : Entry) → slice_get es p ≡ Some e → suc (length (remove es p)) ≡ length es
length_removed [] p e h = absurd (cc)
length_removed (f ∷ es) zero e h = refl
length_removed (f ∷ es) (suc p) e h = ap suc (length_removed es p e h)

written_last : (es : List Entry) (last : ℕ) (e : Entry) (m : Granted) → last ≡ length es → set_value_at (insert es last e) last m ≡ es ++ (e.0, m) ∷ []
written_last [] zero e m q = refl
written_last [] (suc n) e m q = absurd (omega (arith, q))
written_last (f ∷ es) zero e m q = absurd (omega (arith, q))
written_last (f ∷ es) (suc n) e m q = ap (λ (fs : List Entry). f ∷ fs) (written_last es n e m (omega (arith, q)))

-- an entry that is moved behind all, and written
pub renewed : (es : List Entry) (p last : ℕ) (e : Entry) (m : Granted) → slice_get es p ≡ Some e → suc last ≡ length es
    → set_value_at (move_index es p last) last m ≡ remove es p ++ (e.0, m) ∷ []
renewed es p last e m h q = rw h (written_last (remove es p) last e m (omega (arith, q, length_removed es p e h)))

pub window_added : (es : List Entry) (gone : ℕ) (e : Entry) → gone ≤ length es → window gone (es ++ e ∷ []) ≡ window gone es ++ grant_of e ∷ []
window_added [] zero e le = refl
window_added [] (suc g) e le = absurd (omega (arith, le))
window_added (f ∷ es) zero e le = ap (λ (gs : List Grant). grant_of f ∷ gs) (window_added es 0 e (omega arith))
window_added (f ∷ es) (suc g) e le = window_added es g e (omega (arith, le))

module _ (s : List Token) (m n : Granted) (es : List Entry) (p gone : ℕ) (h : slice_get es p ≡ Some (s, m)) (d : IsDistinct same_subject (keys_of es)) where
  -- the subject's entry is behind all, where it stood
  pub renewed_at : gone ≤ p → window gone (remove es p ++ (s, n) ∷ []) ≡ without s (window gone es) ++ grant_of (s, n) ∷ []
  renewed_at le =
      window_added (remove es p) gone (s, n) (omega (arith, le, length_removed es p (s, m) h, slice_get_within es p (s, m) h))
      ∙ ap (λ (gs : List Grant). gs ++ grant_of (s, n) ∷ []) (sym (without_at s m es p gone h d le))

  -- and where it was dropped
  pub renewed_before : p < gone → gone ≤ length es → window (gone - 1) (remove es p ++ (s, n) ∷ []) ≡ without s (window gone es) ++ grant_of (s, n) ∷ []
  renewed_before lt le =
      let before : p < suc (gone - 1) = omega (arith, lt) in
      let again : suc (gone - 1) ≡ gone = omega (arith, lt) in
      window_added (remove es p) (gone - 1) (s, n) (omega (arith, lt, le, length_removed es p (s, m) h))
      ∙ ap (λ (gs : List Grant). gs ++ grant_of (s, n) ∷ [])
      (ap (λ (fs : List Entry). map grant_of fs) (removed_before es p (gone - 1) before ∙ ap (λ g. drop g es) again) ∙ sym (without_before s m es p gone h d lt))

-- where none has the subject it comes behind all
pub added : (s : List Token) (n : Granted) (es fs : List Entry) (gone left : ℕ) → NoneHas s es → fs ≡ drop (gone - left) es → left ≤ gone → left ≤ length fs
    → window left (fs ++ (s, n) ∷ []) ≡ without s (window gone es) ++ grant_of (s, n) ∷ []
added s n es fs gone left none q le within =
    let whole : gone - left + left ≡ gone = omega (arith, le) in
    window_added fs left (s, n) within
    ∙ ap (λ (gs : List Grant). gs ++ grant_of (s, n) ∷ [])
    (ap (λ (rest : List Entry). map grant_of (drop left rest)) q ∙ ap (λ (rest : List Entry). map grant_of rest) (drop-drop left (gone - left) es ∙ ap (λ g. drop g es) whole)
    ∙ sym (none_without s (drop gone es) (none_dropped s gone es none)))

-- the entry of a value
pub with_key : (es : List Entry) (p : ℕ) (m : Granted) → slice_get (values_of es) p ≡ Some m → (k : List Token) × (slice_get es p ≡ Some (k, m))
with_key [] p m v = absurd (cc)
with_key (e ∷ es) zero m v = let granted : e.1 ≡ m = cc in (e.0, ap (λ n. Some (e.0, n)) granted)
with_key (e ∷ es) (suc p) m v = with_key es p m v

put_before : (fs : List Entry) (g : ℕ) (e : Entry) → g ≤ length fs → drop (suc g) (insert fs g e) ≡ drop g fs
put_before [] zero e le = refl
put_before [] (suc g) e le = absurd (omega (arith, le))
put_before (f ∷ fs) zero e le = refl
put_before (f ∷ fs) (suc g) e le = put_before fs g e (omega (arith, le))

-- the subject's entry is moved in front of those that stand
pub moved_away : (s : List Token) (m : Granted) (es : List Entry) (p gone : ℕ) → slice_get es p ≡ Some (s, m) → IsDistinct same_subject (keys_of es) → gone ≤ p
    → window (gone + 1) (move_index es p gone) ≡ without s (window gone es)
moved_away s m es p gone h d le =
    let more : gone + 1 ≡ suc gone = omega arith in
    let within : gone ≤ length (remove es p) = omega (arith, le, length_removed es p (s, m) h, slice_get_within es p (s, m) h) in
    rw (h, more) (ap (λ (fs : List Entry). map grant_of fs) (put_before (remove es p) gone (s, m) within) ∙ sym (without_at s m es p gone h d le))
