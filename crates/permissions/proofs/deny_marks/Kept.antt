-- The marks of subscriptions that stand are kept.
use Rattle.std.proofs.Common.{◌≡◌, ◌∙◌, ℕ, Bool, true, false, cond, List, [], ◌∷◌, filter, nat_eq, unwrap_or, Some, ap, refl}
use Rattle.std.specs.Map.{lookup}
use Rattle.std.proofs.lemmas.Bool.{eqb-true}
use Rattle.permissions.specs.deny_marks.Table.{marks_at}
use Rattle.permissions.specs.declared.deny_marks.marks.Marks.{Marks}
use Rattle.permissions.specs.declared.deny_marks.marks.Marks.TheVariants.{Unmarked}

found_kept : (stands : ℕ → Bool) (id : ℕ) (es : List (ℕ × Marks)) → stands id ≡ true → lookup (nat_eq id) (filter (λ (e : ℕ × Marks). stands e.0) es) ≡ lookup (nat_eq id) es
found_kept stands id [] is = refl
found_kept stands id (e ∷ es) is = by (nat_eq id e.0) (stands e.0) refl refl (found_kept stands id es is)
  where
    kept : List (ℕ × Marks)
    kept = filter (λ (e : ℕ × Marks). stands e.0) es

    by : (same stood : Bool) → nat_eq id e.0 ≡ same → stands e.0 ≡ stood → lookup (nat_eq id) kept ≡ lookup (nat_eq id) es
        → lookup (nat_eq id) (cond stood (e ∷ kept) kept) ≡ cond same (Some e.1) (lookup (nat_eq id) es)
    by true true own stood rest = ap (λ b. cond b (Some e.1) (lookup (nat_eq id) kept)) own
    by true false own stood rest = let gone : stands id ≡ false = ap stands (eqb-true id e.0 own) ∙ stood in absurd (cc)
    by false true own stood rest = ap (λ b. cond b (Some e.1) (lookup (nat_eq id) kept)) own ∙ rest
    by false false own stood rest = rest

pub marks_kept : (stands : ℕ → Bool) (id : ℕ) (es kept : List (ℕ × Marks)) → kept ≡ filter (λ (e : ℕ × Marks). stands e.0) es → stands id ≡ true → marks_at kept id ≡ marks_at es id
marks_kept stands id es kept same is = ap (λ all. marks_at all id) same ∙ ap (λ o. unwrap_or o Unmarked) (found_kept stands id es is)
