-- Entries none of which has a subject, and one that has.
use Rattle.std.proofs.Common.{◌≡◌, ◌∙◌, ℕ, suc, zero, true, false, List, [], ◌∷◌, Option, Some, None, is_some, map, drop, ap, sym, refl, inl, inr, subst}
use Rattle.std.specs.List.{AllByRecursion, IsDistinct}
use Rattle.std.specs.Map.{lookup, set_value, keys_of}
use Rattle.std.specs.Cmp.Lexicographic.{pointwise_decides, bytes_decides}
use Rattle.std.proofs.lemmas.Bool.{cases_Bool}
use Rattle.subjects.specs.Subject.{Token}
use Rattle.subjects.specs.Equal.{same_subject, same_subject-equiv}
use Rattle.reply_grants.specs.declared.grant_table.Granted.{Granted}
use Rattle.policy_doc.specs.declared.permission_doc.document.Terms.{Terms}
use Rattle.reply_grants.specs.Grants.{Grant, after_response, answered, has_live, without}
use Rattle.reply_grants.specs.Window.{Entry, grant_of, window}

pub itself : (s : List Token) → same_subject s s ≡ true
itself s = same_subject-equiv.refl s

pub equal : (s t : List Token) → same_subject s t ≡ true → s ≡ t
equal s t = (pointwise_decides bytes_decides s t).0

pub turned : (s t : List Token) → same_subject s t ≡ false → same_subject t s ≡ false
turned s t h = same_subject-equiv.symm t s ∙ h

-- no entry has the subject
abbrev pub NoneHas : List Token → List Entry → Type 0
NoneHas s es = AllByRecursion (λ k. same_subject s k ≡ false) (keys_of es)

pub none_dropped : (s : List Token) (n : ℕ) (es : List Entry) → NoneHas s es → NoneHas s (drop n es)
none_dropped s zero es h = h
none_dropped s (suc n) [] h = h
none_dropped s (suc n) (e ∷ es) h = none_dropped s n es h.1

pub none_from_lookup : (s : List Token) (es : List Entry) → false ≡ is_some (lookup (same_subject s) es) → NoneHas s es
none_from_lookup s [] h = tt
none_from_lookup s (e ∷ es) h = elim (cases_Bool (same_subject s e.0)) [
  | inl y ↦ let it : false ≡ true = rw y at h in absurd (cc)
  | inr n ↦ (n, none_from_lookup s es (rw n at h))
]

pub lookup_from_none : (s : List Token) (es : List Entry) → NoneHas s es → lookup (same_subject s) es ≡ None
lookup_from_none s [] h = refl
lookup_from_none s (e ∷ es) h = rw h.0 (lookup_from_none s es h.1)

pub none_live : (s : List Token) (now : ℕ) (terms : Option Terms) (es : List Entry) → NoneHas s es → has_live s now terms (map grant_of es) ≡ false
none_live s now terms [] h = refl
none_live s now terms (e ∷ es) h = rw h.0 (none_live s now terms es h.1)

pub none_without : (s : List Token) (es : List Entry) → NoneHas s es → without s (map grant_of es) ≡ map grant_of es
none_without s [] h = refl
none_without s (e ∷ es) h = rw h.0 (ap (λ (gs : List Grant). grant_of e ∷ gs) (none_without s es h.1))

pub none_answered : (s : List Token) (es : List Entry) → NoneHas s es → after_response s (map grant_of es) ≡ map grant_of es
none_answered s [] h = refl
none_answered s (e ∷ es) h = rw h.0 (ap (λ (gs : List Grant). grant_of e ∷ gs) (none_answered s es h.1))

-- those after an entry with the subject
pub none_after : (s : List Token) (e : Entry) (es : List Entry) → s ≡ e.0 → AllByRecursion (λ k. same_subject e.0 k ≡ false) (keys_of es) → NoneHas s es
none_after s e es q h = subst (λ t. NoneHas t es) (sym q) h

-- one answer more at the first is one answer more at all
pub answered_first : (s : List Token) (m w : Granted) (es : List Entry) (gone : ℕ) → lookup (same_subject s) es ≡ Some m → IsDistinct same_subject (keys_of es)
    → ((k : List Token) → grant_of (k, w) ≡ answered (grant_of (k, m))) → window gone (set_value (same_subject s) es w) ≡ after_response s (window gone es)
unfolding IsDistinct
answered_first s m w [] gone h d more = absurd (cc)
answered_first s m w (e ∷ es) gone h d more = elim (cases_Bool (same_subject s e.0)) [
  | inl y ↦
      let here : Some e.1 ≡ Some m = rw y at h in
      let granted : e.1 ≡ m = cc in
      let none = none_after s e es (equal s e.0 y) d.0 in
      rw y (first gone none (more e.0 ∙ ap (λ n. answered (grant_of (e.0, n))) (sym granted)) y)
  | inr n ↦ rw n (later gone (λ g. answered_first s m w es g (rw n at h) d.1 more) n)
]
  where
    first : (gone : ℕ) → NoneHas s es → grant_of (e.0, w) ≡ answered (grant_of e) → same_subject s e.0 ≡ true → window gone ((e.0, w) ∷ es) ≡ after_response s (window gone (e ∷ es))
    first zero none one y = rw y (ap (λ (g : Grant). g ∷ map grant_of es) one ∙ ap (λ (gs : List Grant). answered (grant_of e) ∷ gs) (sym (none_answered s es none)))
    first (suc g) none one y = sym (none_answered s (drop g es) (none_dropped s g es none))

    later : (gone : ℕ) → ((g : ℕ) → window g (set_value (same_subject s) es w) ≡ after_response s (window g es)) → same_subject s e.0 ≡ false → window gone (e ∷ set_value (same_subject s) es w) ≡ after_response s (window gone (e ∷ es))
    later zero rest n = rw n (ap (λ (gs : List Grant). grant_of e ∷ gs) (rest 0))
    later (suc g) rest n = rest g
