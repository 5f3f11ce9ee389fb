-- The oldest are dropped where too many stand.
use Rattle.std.proofs.Common.{◌≡◌, ◌∙◌, ◌+◌, ◌-◌, ℕ, suc, zero, List, [], ◌∷◌, map, drop, length, arith, ap, sym, refl}
use Rattle.std.proofs.lemmas.List.{drop-drop}
use Rattle.reply_grants.specs.Grants.{youngest}
use Rattle.reply_grants.specs.Window.{Entry, grant_of, window}

drop_shown : (k : ℕ) (es : List Entry) → map grant_of (drop k es) ≡ drop k (map grant_of es)
drop_shown zero es = refl
drop_shown (suc k) [] = refl
drop_shown (suc k) (e ∷ es) = drop_shown k es

length_shown : (gone : ℕ) (es : List Entry) → length (window gone es) ≡ length es - gone
length_shown zero [] = refl
length_shown zero (e ∷ es) = let rest = length_shown 0 es in omega (arith, rest)
length_shown (suc g) [] = omega arith
length_shown (suc g) (e ∷ es) = let rest = length_shown g es in omega (arith, rest)

pub trimmed : (es : List Entry) (gone : ℕ) → window (gone + (length es - gone - 1024)) es ≡ youngest (window gone es)
trimmed es gone =
    ap (λ (fs : List Entry). map grant_of fs) (sym (drop-drop (length es - gone - 1024) gone es))
    ∙ (drop_shown (length es - gone - 1024) (drop gone es)
    ∙ ap (λ n. drop (n - 1024) (window gone es)) (sym (length_shown gone es)))
