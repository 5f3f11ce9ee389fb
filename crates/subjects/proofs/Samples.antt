-- A pattern's samples are concrete subjects of it.
use Rattle.std.proofs.Common.{◌≡◌, ◌<◌, Bool, true, false, if◌then◌else◌, List, [], ◌∷◌, length, arith, refl}
use Rattle.std.specs.List.{list_all}
use Rattle.subjects.specs.Subject.{Token, is_star, is_tail, is_literal, is_token, same_token, in_set}
use Rattle.subjects.specs.Outside.{behind, stand_in, one_stand_in, two_stand_ins, sample}
use Rattle.std.proofs.lemmas.Bool.{and_parts}
use Rattle.subjects.proofs.Same.{same_token-itself}

literal-chosen : (b : Bool) → is_literal (if b then 98 ∷ [] else 97 ∷ []) ≡ true
literal-chosen true = refl
literal-chosen false = refl

pub literal-stand_in : (qs : List Token) → is_literal (stand_in qs) ≡ true
literal-stand_in [] = refl
literal-stand_in (q ∷ qs) = literal-chosen (same_token q (97 ∷ []))

pub literals-one : (qs : List Token) → list_all is_literal (one_stand_in qs) ≡ true
literals-one qs = rw (literal-stand_in qs) refl

pub literals-two : (qs : List Token) → list_all is_literal (two_stand_ins qs) ≡ true
literals-two qs = rw (literal-stand_in qs, literal-stand_in (behind qs)) refl

literals-step : (last rest : List Token) (standing p : Token) (tail star : Bool) → is_tail p ≡ tail → is_star p ≡ star → list_all is_literal last ≡ true → list_all is_literal rest ≡ true → is_literal standing ≡ true → is_token p ≡ true → list_all is_literal (if tail then last else ((if star then standing else p) ∷ rest)) ≡ true
literals-step last rest standing p true star t s l r st k = l
literals-step last rest standing p false true t s l r st k = rw (st, r) refl
literals-step last rest standing p false false t s l r st k = rw (k, s, t, r) refl

pub literals-sample : (last : List Token → List Token) → ((qs : List Token) → list_all is_literal (last qs) ≡ true) → (qs ps : List Token) → list_all is_token ps ≡ true → list_all is_literal (sample last qs ps) ≡ true
literals-sample last l qs [] h = refl
literals-sample last l qs (p ∷ ps) h =
    let k = and_parts (is_token p) (list_all is_token ps) h in
    literals-step (last qs) (sample last (behind qs) ps) (stand_in qs) p (is_tail p) (is_star p) refl refl (l qs) (literals-sample last l (behind qs) ps k.1) (literal-stand_in qs) k.0

pub tail_takes : (p : Token) (ps s : List Token) → is_tail p ≡ true → 0 < length s → in_set (p ∷ ps) s ≡ true
tail_takes p ps [] t h = absurd (omega arith)
tail_takes p ps (s ∷ ss) t h = rw t refl

member-step : (last rest : List Token) (standing p : Token) (ps : List Token) (tail star : Bool) → is_tail p ≡ tail → is_star p ≡ star → 0 < length last → in_set ps rest ≡ true → in_set (p ∷ ps) (if tail then last else ((if star then standing else p) ∷ rest)) ≡ true
member-step last rest standing p ps true star t s l r = tail_takes p ps last t l
member-step last rest standing p ps false true t s l r = rw (t, s, r) refl
member-step last rest standing p ps false false t s l r = rw (t, s, same_token-itself p, r) refl

pub member-sample : (last : List Token → List Token) → ((qs : List Token) → 0 < length (last qs)) → (qs ps : List Token) → in_set ps (sample last qs ps) ≡ true
member-sample last l qs [] = refl
member-sample last l qs (p ∷ ps) =
    member-step (last qs) (sample last (behind qs) ps) (stand_in qs) p ps (is_tail p) (is_star p) refl refl (l qs) (member-sample last l (behind qs) ps)

sample-step : (last rest : List Token) (t : Token) (tail : Bool) → 0 < length last → 0 < length (if tail then last else (t ∷ rest))
sample-step last rest t true l = l
sample-step last rest t false l = omega arith

pub sample-some : (last : List Token → List Token) → ((qs : List Token) → 0 < length (last qs)) → (qs : List Token) (p : Token) (ps : List Token) → 0 < length (sample last qs (p ∷ ps))
sample-some last l qs p ps =
    sample-step (last qs) (sample last (behind qs) ps) (if is_star p then stand_in qs else p) (is_tail p) (l qs)

pub one-some : (qs : List Token) → 0 < length (one_stand_in qs)
one-some qs = omega arith

pub two-some : (qs : List Token) → 0 < length (two_stand_ins qs)
two-some qs = omega arith
