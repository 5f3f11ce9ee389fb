-- The first fault of a value, part by part.
use Rattle.std.proofs.Common.{◌≡◌, ℕ, suc, ◌<◌, ◌≤◌, List, Some, None, Ok, Err, inl, inr, ap, sym, ◌∙◌, subst, arith}
use Rattle.std.proofs.lemmas.Bool.{cases_lt}
use Rattle.policy_walk.specs.declared.fault.ConfigFault.{ConfigFault}
use Rattle.policy_walk.specs.Fault.{Read, ◌>>=◌}
use Rattle.policy_text.specs.account_config.Place.{Place, itself, unknown, missing, under, named, IsBefore, Faults, IsFirst, IsReading}

-- nothing stands before what is under key n
pub record IsClear (F : Faults) (n : ℕ) : Type 0 where
  pub at_itself : F itself ≡ None
  pub at_unknown : (k : List ℕ) → F (unknown k) ≡ None
  pub at_missing : (i : ℕ) → F (missing i) ≡ None
  pub at_under : (i : ℕ) (p : Place) → i < n → F (under i p) ≡ None

-- one key further on
pub next : (F : Faults) (n : ℕ) → IsClear F n → ((p : Place) → F (under n p) ≡ None) → IsClear F (suc n)
next F n clear none = record { at_itself = clear.at_itself; at_unknown = clear.at_unknown; at_missing = clear.at_missing; at_under = to }
  where
    to : (i : ℕ) (p : Place) → i < suc n → F (under i p) ≡ None
    to i p lt = elim (cases_lt i n) [ inl less ↦ clear.at_under i p less | inr more ↦ (let e : i ≡ n = omega arith in rw e (none p)) ]

-- the first fault under key n is the first of all, where nothing stands before
pub first_under : (F : Faults) (n : ℕ) (fault : ConfigFault) → IsClear F n → IsFirst (λ p. F (under n p)) fault → IsFirst F fault
first_under F n fault clear first = (under n first.0, first.1, before)
  where
    before : (q : Place) → IsBefore q (under n first.0) → F q ≡ None
    before itself h = clear.at_itself
    before (unknown k) h = clear.at_unknown k
    before (missing i) h = clear.at_missing i
    before (under i q) h = elim h [ inl lt ↦ clear.at_under i q lt | inr at ↦ (let e : i ≡ n = at.0 in rw e (first.2 q at.1)) ]
    before (named k q) h = absurd h

-- reading goes on behind a part that has no fault
pub go_on : {A B : Type 0} (F : Faults) (n : ℕ) (x : A) (y : B) (read : Read A) (more : A → Read B) →
    IsClear F n → IsReading (λ p. F (under n p)) x read → (IsClear F (suc n) → IsReading F y (more x)) → IsReading F y (read >>= more)
go_on F n x y (Ok a) more clear is rest = subst (λ z. IsReading F y (more z)) (sym is.1) (rest (next F n clear is.0))
go_on F n x y (Err fault) more clear first rest = first_under F n fault clear first

-- a value of which each part is read
pub whole : (F : Faults) (n : ℕ) → IsClear F n → ((i : ℕ) (p : Place) → n ≤ i → F (under i p) ≡ None) → ((k : List ℕ) (p : Place) → F (named k p) ≡ None) → (p : Place) → F p ≡ None
whole F n clear beyond names itself = clear.at_itself
whole F n clear beyond names (unknown k) = clear.at_unknown k
whole F n clear beyond names (missing i) = clear.at_missing i
whole F n clear beyond names (under i p) = elim (cases_lt i n) [ inl lt ↦ clear.at_under i p lt | inr le ↦ beyond i p le ]
whole F n clear beyond names (named k p) = names k p

-- a fault of the value itself is the first
pub first_itself : (F : Faults) (fault : ConfigFault) → F itself ≡ Some fault → IsFirst F fault
first_itself F fault e = (itself, e, before)
  where
    before : (q : Place) → IsBefore q itself → F q ≡ None
    before itself h = absurd h
    before (unknown k) h = absurd h
    before (missing i) h = absurd h
    before (under i q) h = absurd h
    before (named k q) h = absurd h

-- the same faults have the same first
pub same_faults : {X : Type 0} (F G : Faults) → ((p : Place) → G p ≡ F p) → (y : X) (read : Read X) → IsReading F y read → IsReading G y read
same_faults F G same y (Ok x) is = (λ p. same p ∙ is.0 p, is.1)
same_faults F G same y (Err fault) first = (first.0, same first.0 ∙ first.1, λ q before. same q ∙ first.2 q before)

-- what is made of what was read
pub mapped : {X Y : Type 0} (F : Faults) (f : X → Y) (x : X) (read : Read X) → IsReading F x read → IsReading F (f x) (read >>= λ y. Ok (f y))
mapped F f x (Ok y) is = (is.0, ap f is.1)
mapped F f x (Err fault) first = first
