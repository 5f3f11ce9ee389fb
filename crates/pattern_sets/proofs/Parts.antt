-- The part of a pattern, a token at a time.
use Rattle.std.proofs.Common.{◌≡◌, ◌∙◌, ◌<◌, ◌-◌, ◌++◌, ℕ, zero, suc, Bool, true, false, List, [], ◌∷◌, map, Option, Some, None, if◌then◌else◌, ap, refl, sym, subst, arith, append_assoc, append-nil}
use Rattle.std.specs.Prelude.{is_some}
use Rattle.std.specs.Option.{option_map}
use Rattle.std.proofs.lemmas.List.{map_push}
use Rattle.subjects.specs.Subject.{Token, is_tail}
use Rattle.pattern_sets.specs.Samples.{filled, part, star, tail}

one_less : (n : ℕ) → suc n - 1 ≡ n
one_less n = omega arith

-- ---- whether there is a part

pub none_left : (b : Bool) (n : ℕ) (rest : List Token) (t : Token) (ts : List Token) → rest ≡ t ∷ ts → n ≡ 0 → is_some (part b n rest) ≡ false
none_left b n rest t ts e z = rw (e, z) refl

some_by : (o : Option (List Token)) (t : Token) → is_some (option_map (λ us. t ∷ us) o) ≡ is_some o
some_by None t = refl
some_by (Some us) t = refl

part_tail : (b : Bool) (n : ℕ) (t : Token) (ts : List Token) → is_tail t ≡ true → part b (suc n) (t ∷ ts) ≡ Some (filled b (suc n))
part_tail b n t ts e = rw e refl

part_more : (b : Bool) (n : ℕ) (t : Token) (ts : List Token) → is_tail t ≡ false → part b (suc n) (t ∷ ts) ≡ option_map (λ us. t ∷ us) (part b n ts)
part_more b n t ts e = rw e refl

tail_from : (b : Bool) (n : ℕ) (t : Token) (ts : List Token) → is_tail t ≡ true → 0 < n → part b n (t ∷ ts) ≡ Some (filled b n)
tail_from b zero t ts e less = absurd (omega (arith, less))
tail_from b (suc n) t ts e less = part_tail b n t ts e

more_from : (b : Bool) (n : ℕ) (t : Token) (ts : List Token) → is_tail t ≡ false → 0 < n → part b n (t ∷ ts) ≡ option_map (λ us. t ∷ us) (part b (n - 1) ts)
more_from b zero t ts e less = absurd (omega (arith, less))
more_from b (suc n) t ts e less = part_more b n t ts e ∙ ap (λ m. option_map (λ us. t ∷ us) (part b m ts)) (sym (one_less n))

pub tail_left : (b : Bool) (n : ℕ) (rest : List Token) (t : Token) (ts : List Token) → rest ≡ t ∷ ts → is_tail t ≡ true → 0 < n → is_some (part b n rest) ≡ true
tail_left b n rest t ts e k less = rw e (ap is_some (tail_from b n t ts k less))

pub more_left : (b : Bool) (n : ℕ) (rest : List Token) (t : Token) (ts : List Token) → rest ≡ t ∷ ts → is_tail t ≡ false → 0 < n →
    is_some (part b n rest) ≡ is_some (part b (n - 1) ts)
more_left b n rest t ts e k less = rw e (ap is_some (more_from b n t ts k less) ∙ some_by (part b (n - 1) ts) t)

-- ---- what the part is

some_left : (b : Bool) (n : ℕ) (t : Token) (ts : List Token) → is_some (part b n (t ∷ ts)) ≡ true → 0 < n
some_left b zero t ts e = absurd (cc)
some_left b (suc n) t ts e = omega arith

pub room : (b : Bool) (n : ℕ) (rest : List Token) (t : Token) (ts : List Token) → is_some (part b n rest) ≡ true → rest ≡ t ∷ ts → 0 < n
room b n rest t ts some e = some_left b n t ts (subst (λ l. is_some (part b n l) ≡ true) e some)

onto : List Token → Option (List Token) → Option (List Token)
onto done left = option_map (λ us. done ++ us) left

onto_more : (done : List Token) (t : Token) (o : Option (List Token)) → option_map (λ us. done ++ us) (option_map (λ us. t ∷ us) o) ≡ option_map (λ us. (done ++ (t ∷ [])) ++ us) o
onto_more done t None = refl
onto_more done t (Some us) = ap Some (sym (append_assoc done (t ∷ []) us))

pub taken : (b : Bool) (n : ℕ) (rest done done' : List Token) (t : Token) (ts : List Token) → rest ≡ t ∷ ts → is_tail t ≡ false → 0 < n → done' ≡ done ++ (t ∷ []) →
    option_map (λ us. done ++ us) (part b n rest) ≡ option_map (λ us. done' ++ us) (part b (n - 1) ts)
taken b n rest done done' t ts e k less more =
    rw (e, more) (ap (option_map (λ us. done ++ us)) (more_from b n t ts k less) ∙ onto_more done t (part b (n - 1) ts))

module _ {A : Type 0} (of : A → Token) where
  pub taken_by : (b : Bool) (n : ℕ) (rest : List Token) (xs ys : List A) (x : A) (ts : List Token) → is_some (part b n rest) ≡ true → rest ≡ of x ∷ ts → is_tail (of x) ≡ false → ys ≡ xs ++ (x ∷ []) →
      (is_some (part b (n - 1) ts) ≡ true) × (option_map (λ us. map of ys ++ us) (part b (n - 1) ts) ≡ option_map (λ us. map of xs ++ us) (part b n rest))
  taken_by b n rest xs ys x ts some e k more =
      let less = room b n rest (of x) ts some e in (
        sym (more_left b n rest (of x) ts e k less) ∙ some,
        sym (taken b n rest (map of xs) (map of ys) (of x) ts e k less (ap (map of) more ∙ map_push of xs x)),
      )

pub filled_left : (b : Bool) (n : ℕ) (rest done done' : List Token) (t : Token) (ts : List Token) → rest ≡ t ∷ ts → is_tail t ≡ true → 0 < n → done' ≡ done ++ filled b n →
    option_map (λ us. done ++ us) (part b n rest) ≡ Some done'
filled_left b n rest done done' t ts e k less more = rw (e, more) (ap (option_map (λ us. done ++ us)) (tail_from b n t ts k less))

end_part : (b : Bool) (n : ℕ) → is_some (part b n []) ≡ true → part b n [] ≡ Some []
end_part true zero e = absurd (cc)
end_part false zero e = refl
end_part b (suc n) e = absurd (cc)

pub ended : (b : Bool) (n : ℕ) (rest done : List Token) → rest ≡ [] → is_some (part b n rest) ≡ true → option_map (λ us. done ++ us) (part b n rest) ≡ Some done
ended b n rest done e some =
    rw e (ap (option_map (λ us. done ++ us)) (end_part b n (subst (λ l. is_some (part b n l) ≡ true) e some)) ∙ ap Some (append-nil done))

start_by : (o : Option (List Token)) → o ≡ option_map (λ us. [] ++ us) o
start_by None = refl
start_by (Some us) = refl

pub started : (b : Bool) (n : ℕ) (p done : List Token) → done ≡ [] → part b n p ≡ option_map (λ us. done ++ us) (part b n p)
started b n p done e = rw e (start_by (part b n p))

-- ---- what stands for a tail

step : (b : Bool) (n : ℕ) → 1 < n → filled b n ≡ star ∷ filled b (n - 1)
step b zero less = absurd (omega (arith, less))
step b (suc zero) less = absurd (omega (arith, less))
step b (suc (suc n)) less = ap (λ m. star ∷ filled b m) (sym (one_less (suc n)))

pub filled_more : (b : Bool) (n : ℕ) (done done' : List Token) → 1 < n → done' ≡ done ++ (star ∷ []) → done ++ filled b n ≡ done' ++ filled b (n - 1)
filled_more b n done done' less more =
    rw more (ap (λ us. done ++ us) (step b n less) ∙ sym (append_assoc done (star ∷ []) (filled b (n - 1))))

pub filled_last : (b : Bool) (n : ℕ) (done done' : List Token) (t : Token) → n ≡ 1 → t ≡ (if b then tail else star) → done' ≡ done ++ (t ∷ []) → done ++ filled b n ≡ done'
filled_last b n done done' t one token more = rw (one, more, token) refl

pub filled_none : (b : Bool) (n : ℕ) (done : List Token) → n ≡ 0 → done ++ filled b n ≡ done
filled_none b n done none = rw none (append-nil done)
