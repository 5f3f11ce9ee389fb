-- The text of a sample, a token at a time.
use Rattle.std.proofs.Common.{◌≡◌, ◌∙◌, ◌<◌, ◌≤◌, ◌+◌, ◌++◌, ℕ, Bool, true, false, ◌&&◌, List, [], ◌∷◌, length, map, get_or, drop, ap, refl, sym, arith, append_assoc, append-nil}
use Rattle.std.proofs.lemmas.List.{get_or-map, length-map, drop_all, drop_more}
use Rattle.subjects.specs.Outside.{dotted}
use Rattle.subjects.specs.Subject.{Token}
use Rattle.pattern_sets.specs.Samples.{agree, either, either_each, meet}

and_false : (b : Bool) → (b && false) ≡ false
and_false true = refl
and_false false = refl

module _ {A : Type 0} (f : A → Token) where
  at_drop : (xs : List A) (i : ℕ) (d : A) → i < length xs → drop i (map f xs) ≡ f (get_or xs i d) ∷ drop (i + 1) (map f xs)
  at_drop xs i d less =
      let inside : i < length (map f xs) = omega (arith, length-map xs f, less) in
      drop_more (map f xs) i [] inside ∙ ap (λ t. t ∷ drop (i + 1) (map f xs)) (get_or-map f xs i d [] less)

  pub text_more : (fresh : Token) (xs ys : List A) (i : ℕ) (d e : A) (done done' : List ℕ) (token : Token) → i < length xs → i < length ys →
      token ≡ either fresh (f (get_or xs i d)) (f (get_or ys i e)) → done' ≡ done ++ (token ++ (46 ∷ [])) →
      done ++ dotted (either_each fresh (drop i (map f xs)) (drop i (map f ys))) ≡ done' ++ dotted (either_each fresh (drop (i + 1) (map f xs)) (drop (i + 1) (map f ys)))
  text_more fresh xs ys i d e done done' token less more is whole =
      let one_more = at_drop xs i d less in
      let other_more = at_drop ys i e more in
      let x = f (get_or xs i d) in
      let rest = dotted (either_each fresh (drop (i + 1) (map f xs)) (drop (i + 1) (map f ys))) in
      ap (λ l. done ++ dotted (either_each fresh l (drop i (map f ys)))) one_more
      ∙ ap (λ l. done ++ dotted (either_each fresh (x ∷ drop (i + 1) (map f xs)) l)) other_more
      ∙ ap (λ (l : Token). done ++ ((l ++ (46 ∷ [])) ++ rest)) (sym is)
      ∙ sym (append_assoc done (token ++ (46 ∷ [])) rest)
      ∙ ap (λ l. l ++ rest) (sym whole)

  pub text_end : (fresh : Token) (xs ys : List A) (i : ℕ) (done : List ℕ) → length xs ≤ i → done ++ dotted (either_each fresh (drop i (map f xs)) (drop i (map f ys))) ≡ done
  text_end fresh xs ys i done most =
      ap (λ l. done ++ dotted (either_each fresh l (drop i (map f ys)))) (drop_all i (map f xs) (omega (arith, length-map xs f, most))) ∙ append-nil done

  meet_more : (xs ys : List A) (i : ℕ) (d e : A) → i < length xs → i < length ys →
      meet (drop i (map f xs)) (drop i (map f ys)) ≡ (agree (f (get_or xs i d)) (f (get_or ys i e)) && meet (drop (i + 1) (map f xs)) (drop (i + 1) (map f ys)))
  meet_more xs ys i d e less more =
      ap (λ l. meet l (drop i (map f ys))) (at_drop xs i d less)
      ∙ ap (λ l. meet (f (get_or xs i d) ∷ drop (i + 1) (map f xs)) l) (at_drop ys i e more)

  pub meet_kept : (xs ys : List A) (i : ℕ) (d e : A) → i < length xs → i < length ys → agree (f (get_or xs i d)) (f (get_or ys i e)) ≡ true →
      meet (drop i (map f xs)) (drop i (map f ys)) ≡ meet (drop (i + 1) (map f xs)) (drop (i + 1) (map f ys))
  meet_kept xs ys i d e less more same = meet_more xs ys i d e less more ∙ ap (λ b. b && meet (drop (i + 1) (map f xs)) (drop (i + 1) (map f ys))) same

  pub meet_ended : (xs ys : List A) (i : ℕ) (d e : A) → i < length xs → i < length ys → agree (f (get_or xs i d)) (f (get_or ys i e)) ≡ false →
      meet (drop i (map f xs)) (drop i (map f ys)) ≡ false
  meet_ended xs ys i d e less more other = meet_more xs ys i d e less more ∙ ap (λ b. b && meet (drop (i + 1) (map f xs)) (drop (i + 1) (map f ys))) other
