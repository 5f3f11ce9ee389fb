-- Entries that aren't live are moved in front.
use Rattle.std.proofs.Common.{◌≡◌, ◌+◌, ◌++◌, ◌≤◌, ◌-◌, ℕ, suc, zero, Bool, true, false, List, [], ◌∷◌, Some, map, filter, drop, take, length, slice_get, arith, ap, refl}
use Rattle.std.specs.List.{remove, insert}
use Rattle.indexmap.specs.IndexMap.{move_index}
use Rattle.reply_grants.specs.Grants.{Grant}
use Rattle.reply_grants.specs.Window.{Entry, grant_of, window, so_far}

module _ (live : Grant → Bool) where
  -- those up to a place that stay, and those from there on that are live
  abbrev pub stays : ℕ → ℕ → List Entry → List Grant
  stays p k fs = map grant_of (take k fs) ++ filter live (map grant_of (drop p fs))

  front_live : (es : List Entry) (k : ℕ) (e : Entry) → slice_get es k ≡ Some e → live (grant_of e) ≡ true → stays k k es ≡ stays (suc k) (suc k) es
  front_live [] k e h y = absurd (cc)
  front_live (f ∷ es) zero e h y = let it : f ≡ e = cc in rw it (rw y refl)
  front_live (f ∷ es) (suc k) e h y = ap (λ (gs : List Grant). grant_of f ∷ gs) (front_live es k e h y)

  front_dead : (es : List Entry) (k : ℕ) (e : Entry) → slice_get es k ≡ Some e → live (grant_of e) ≡ false → stays k k es ≡ stays k k (remove es k)
  front_dead [] k e h n = absurd (cc)
  front_dead (f ∷ es) zero e h n = let it : f ≡ e = cc in rw it (rw n refl)
  front_dead (f ∷ es) (suc k) e h n = ap (λ (gs : List Grant). grant_of f ∷ gs) (front_dead es k e h n)

  go_live : (es : List Entry) (g k p : ℕ) (e : Entry) → p ≡ g + k → slice_get es p ≡ Some e → live (grant_of e) ≡ true
      → map grant_of (take k (drop g es)) ++ filter live (window p es) ≡ map grant_of (take (suc k) (drop g es)) ++ filter live (window (suc p) es)
  go_live [] g k p e q h y = absurd (cc)
  go_live (f ∷ es) zero k p e q h y = let at : p ≡ k = omega (arith, q) in rw at (front_live (f ∷ es) k e (rw at at h) y)
  go_live (f ∷ es) (suc g) k zero e q h y = absurd (omega (arith, q))
  go_live (f ∷ es) (suc g) k (suc p) e q h y = go_live es g k p e (omega (arith, q)) h y

  go_dead : (es : List Entry) (g k p : ℕ) (e : Entry) → p ≡ g + k → slice_get es p ≡ Some e → live (grant_of e) ≡ false
      → map grant_of (take k (drop g es)) ++ filter live (window p es)
      ≡ map grant_of (take k (drop (suc g) (insert (remove es p) g e))) ++ filter live (window (suc p) (insert (remove es p) g e))
  go_dead [] g k p e q h n = absurd (cc)
  go_dead (f ∷ es) zero k p e q h n = let at : p ≡ k = omega (arith, q) in rw at (front_dead (f ∷ es) k e (rw at at h) n)
  go_dead (f ∷ es) (suc g) k zero e q h n = absurd (omega (arith, q))
  go_dead (f ∷ es) (suc g) k (suc p) e q h n = go_dead es g k p e (omega (arith, q)) h n

  pub one_live : (es : List Entry) (g p : ℕ) (e : Entry) → g ≤ p → slice_get es p ≡ Some e → live (grant_of e) ≡ true → so_far live g p es ≡ so_far live g (p + 1) es
  one_live es g p e le h y =
      let more : p + 1 - g ≡ suc (p - g) = omega (arith, le) in
      let next : p + 1 ≡ suc p = omega arith in
      rw (more, next) (go_live es g (p - g) p e (omega (arith, le)) h y)

  pub one_dead : (es : List Entry) (g p : ℕ) (e : Entry) → g ≤ p → slice_get es p ≡ Some e → live (grant_of e) ≡ false → so_far live g p es ≡ so_far live (g + 1) (p + 1) (move_index es p g)
  one_dead es g p e le h n =
      let same : p + 1 - (g + 1) ≡ p - g = omega (arith, le) in
      let next : p + 1 ≡ suc p = omega arith in
      let more : g + 1 ≡ suc g = omega arith in
      rw (same, h, next, more) (go_dead es g (p - g) p e (omega (arith, le)) h n)

  go_all : (es : List Entry) (g k p : ℕ) → p ≡ g + k → length es ≤ p → map grant_of (take k (drop g es)) ++ filter live (window p es) ≡ window g es
  go_all [] zero zero zero q le = refl
  go_all [] zero zero (suc p) q le = absurd (omega (arith, q))
  go_all [] zero (suc k) zero q le = refl
  go_all [] zero (suc k) (suc p) q le = refl
  go_all [] (suc g) zero zero q le = refl
  go_all [] (suc g) zero (suc p) q le = refl
  go_all [] (suc g) (suc k) zero q le = refl
  go_all [] (suc g) (suc k) (suc p) q le = refl
  go_all (f ∷ es) zero zero p q le = absurd (omega (arith, q, le))
  go_all (f ∷ es) zero (suc k) zero q le = absurd (omega (arith, q))
  go_all (f ∷ es) zero (suc k) (suc p) q le = ap (λ (gs : List Grant). grant_of f ∷ gs) (go_all es 0 k p (omega (arith, q)) (omega (arith, le)))
  go_all (f ∷ es) (suc g) k zero q le = absurd (omega (arith, le))
  go_all (f ∷ es) (suc g) k (suc p) q le = go_all es g k p (omega (arith, q)) (omega (arith, le))

  -- past the end those that stay are all
  pub all_seen : (es : List Entry) (g p : ℕ) → g ≤ p → length es ≤ p → so_far live g p es ≡ window g es
  all_seen es g p le past = go_all es g (p - g) p (omega (arith, le)) past
