-- A change of what one connection has.
use Rattle.std.proofs.Common.{◌≡◌, ◌==◌, ℕ, Bool, true, false, ◌&&◌, cond, List, [], ◌∷◌, length, Option, Some, None, Vec, refl, ap, ◌∙◌, inl, inr, arith, nat_eq}
use Rattle.std.specs.Map.{lookup}
use Rattle.std.specs.Cmp.Lexicographic.{pointwise}
use Rattle.std.specs.declared.alloc.Global.{Global}
use Rattle.std.proofs.lemmas.Bool.{cases_Bool, eqb-true}
use Rattle.world_rows.specs.ids.Sids.{Own, id_in}

-- what a connection has, among what each has
abbrev of : List (ℕ × Own) → ℕ → Option Own
of owns conn = lookup (nat_eq conn) owns

-- the connection a had `was` and has w now, in which v stands under bs, and else what stood there
pub at_conn : (a : ℕ) (bs : List ℕ) (v : Option ℕ) (was w : Option Own) (old new : List (ℕ × Own)) → was ≡ of old a → ((c : ℕ) → of new c ≡ cond (a == c) w (of old c))
    → ((sid : List ℕ) → id_in w sid ≡ cond (pointwise nat_eq bs sid) v (id_in was sid))
    → (c : ℕ) (sid : List ℕ) → id_in (of new c) sid ≡ cond ((a == c) && pointwise nat_eq bs sid) v (id_in (of old c) sid)
at_conn a bs v was w old new is here inside c sid = elim (cases_Bool (a == c)) [
  | inl y ↦ rw (here c, y) (inside sid ∙ ap (λ o. cond (pointwise nat_eq bs sid) v (id_in o sid)) (is ∙ ap (λ n. of old n) (eqb-true a c y)))
  | inr n ↦ rw (here c, n) refl
]

-- what the connection a had is changed, and then goes
pub gone_at : (a : ℕ) (w : Option Own) (old mid new : List (ℕ × Own)) → ((c : ℕ) → of mid c ≡ cond (a == c) w (of old c)) → ((c : ℕ) → of new c ≡ cond (a == c) None (of mid c)) → (c : ℕ) → of new c ≡ cond (a == c) None (of old c)
gone_at a w old mid new first then c = then c ∙ ap (λ o. cond (a == c) None o) (first c) ∙ twice (a == c)
  where
    twice : (b : Bool) → cond b None (cond b w (of old c)) ≡ cond b None (of old c)
    twice true = refl
    twice false = refl

-- a map without an entry has no id
pub nothing_in : (own : Own) → length own.entries ≡ 0 → (sid : List ℕ) → None ≡ id_in (Some own) sid
nothing_in own none sid = here own.entries none
  where
    here : (es : List (Vec ℕ Global × ℕ)) → length es ≡ 0 → None ≡ lookup (λ k. pointwise nat_eq sid k.items) es
    here [] h = refl
    here (e ∷ es) h = absurd (omega (arith, h))
