-- The grants from a place on, one after the other.
use Rattle.std.proofs.Common.{◌≡◌, ◌∙◌, ◌+◌, ◌∷◌, ◌++◌, ℕ, suc, zero, List, [], Some, None, slice_get, append_assoc, arith, ap, sym, refl}
use Rattle.reply_grants.specs.Grants.{Grant}
use Rattle.reply_grants.specs.Window.{Entry, grant_of, window}

first : (es : List Entry) (p : ℕ) (e : Entry) → slice_get es p ≡ Some e → window p es ≡ grant_of e ∷ window (suc p) es
first [] p e h = absurd (cc)
first (f ∷ es) zero e h = let it : f ≡ e = cc in ap (λ (x : Entry). grant_of x ∷ window 0 es) it
first (f ∷ es) (suc p) e h = first es p e h

past : (es : List Entry) (p : ℕ) → slice_get es p ≡ None → window (suc p) es ≡ window p es
past [] zero h = refl
past [] (suc p) h = refl
past (e ∷ es) zero h = absurd (cc)
past (e ∷ es) (suc p) h = past es p h

-- one more is copied
pub one_more : (gs : List Grant) (es : List Entry) (p : ℕ) (e : Entry) → slice_get es p ≡ Some e → (gs ++ grant_of e ∷ []) ++ window (p + 1) es ≡ gs ++ window p es
one_more gs es p e h =
    let next : p + 1 ≡ suc p = omega arith in
    append_assoc gs (grant_of e ∷ []) (window (p + 1) es) ∙ ap (λ more. gs ++ more) (ap (λ n. grant_of e ∷ window n es) next ∙ sym (first es p e h))

-- and none more
pub none_more : (gs : List Grant) (es : List Entry) (p : ℕ) → slice_get es p ≡ None → gs ++ window (p + 1) es ≡ gs ++ window p es
none_more gs es p h =
    let next : p + 1 ≡ suc p = omega arith in
    ap (λ more. gs ++ more) (ap (λ n. window n es) next ∙ past es p h)
