-- Numbers in order, one further.
use Rattle.std.proofs.Common.{append_assoc, ◌≡◌, ◌<◌, ◌+◌, ◌-◌, ℕ, suc, Bool, true, List, [], ◌∷◌, ◌++◌, map, arith, refl}
use Rattle.std.specs.List.{list_all, range_with_len}

-- the numbers from a up to b
pub range_first : (a b : ℕ) → a < b → range_with_len a (b - a) ≡ a ∷ range_with_len (a + 1) (b - (a + 1))
range_first a b h = let e : b - a ≡ suc (b - (a + 1)) = omega arith in rw e refl

pub more_numbers : (xs ys : List ℕ) (a b : ℕ) → a < b → ys ≡ xs ++ a ∷ [] → ys ++ range_with_len (a + 1) (b - (a + 1)) ≡ xs ++ range_with_len a (b - a)
more_numbers xs ys a b h e = rw (e, range_first a b h) (append_assoc xs (a ∷ []) (range_with_len (a + 1) (b - (a + 1))))

pub more_mapped : (f : ℕ → ℕ) (xs ys : List ℕ) (a b n : ℕ) → a < b → n ≡ f a → ys ≡ xs ++ n ∷ [] → ys ++ map f (range_with_len (a + 1) (b - (a + 1))) ≡ xs ++ map f (range_with_len a (b - a))
more_mapped f xs ys a b n h is e = rw (e, is, range_first a b h) (append_assoc xs (f a ∷ []) (map f (range_with_len (a + 1) (b - (a + 1)))))

pub more_passed : (p : ℕ → Bool) (a b : ℕ) → a < b → p a ≡ true → list_all p (range_with_len (a + 1) (b - (a + 1))) ≡ list_all p (range_with_len a (b - a))
more_passed p a b h e = rw (range_first a b h, e) refl
