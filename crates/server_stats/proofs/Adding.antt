-- What is added to accounts, one after the other.
use Rattle.std.proofs.Common.{◌≡◌, ◌<◌, ◌∷◌, [], ℕ, zero, suc, List, ap, get_or, length, refl, set, sym, take, arith}
use Rattle.server_stats.specs.Boards.{added_to, more_at}
use Rattle.server_stats.specs.Counts.{plus}
use Rattle.server_stats.specs.declared.counts.Account.{Account}
use Rattle.server_stats.specs.declared.counts.AccountCounts.{AccountCounts}

abbrev with_more : AccountCounts → Account → Account
with_more n a = record a { counts = plus a.counts n }

-- the account in the place is another
pub set_more : (i : ℕ) (n : AccountCounts) (all : List Account) (a : Account) → i < length all → a ≡ get_or all i a → set all i (with_more n a) ≡ more_at i n all
unfolding more_at
set_more i n [] a there same = absurd (omega arith)
set_more zero n (x ∷ all) a there same = ap (λ y. with_more n y ∷ all) same
set_more (suc i) n (x ∷ all) a there same = ap (λ l. x ∷ l) (set_more i n all a (omega arith) same)

-- there is none
pub no_more : (i : ℕ) (n : AccountCounts) (all : List Account) → (i < length all → ⊥) → more_at i n all ≡ all
unfolding more_at
no_more i n [] none = refl
no_more zero n (x ∷ all) none = absurd (none (omega arith))
no_more (suc i) n (x ∷ all) none = ap (λ l. x ∷ l) (no_more i n all (λ h. none (omega (arith, h))))

pub added_none : (all : List Account) → added_to all [] ≡ all
unfolding added_to
added_none [] = refl
added_none (x ∷ all) = refl

-- the next number
pub added_next : (i j : ℕ) (d : AccountCounts) (all : List Account) (more : List AccountCounts) → j ≡ suc i → i < length more →
    more_at i (get_or more i d) (added_to all (take i more)) ≡ added_to all (take j more)
unfolding added_to more_at
added_next i j d [] more next there = refl
added_next i j d (x ∷ all) [] next there = absurd (omega arith)
added_next zero j d (x ∷ all) (m ∷ more) next there = rw next (ap (λ l. with_more m x ∷ l) (sym (added_none all)))
added_next (suc i) j d (x ∷ all) (m ∷ more) next there = rw next (ap (λ l. with_more m x ∷ l) (added_next i (suc i) d all more refl (omega arith)))
