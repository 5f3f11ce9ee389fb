-- How many routes live at one moment and at another.
use Rattle.std.proofs.Common.{◌≡◌, ◌∙◌, ◌<◌, ◌≤◌, ℕ, Bool, true, false, cond, List, [], ◌∷◌, length, ap, sym, refl, arith, true≢false}
use Rattle.std.proofs.lemmas.Bool.Decides.{nat_tests}
use Rattle.service_exporter.specs.Routes.{Numbered, living, lives}
use Rattle.service_exporter.specs.Tally.{IsTallied}
use Rattle.service_exporter.specs.declared.route.Route.{Route}
use Rattle.service_exporter.specs.declared.tally.Tally.{Tally}

-- who lives at a moment lives at each earlier one
pub lives_before : (t u : ℕ) (r : Route) → t ≤ u → lives u r ≡ true → lives t r ≡ true
lives_before t u r le h = grind (arith, nat_tests, le, h)

-- so no more live later
pub fewer_later : (t u : ℕ) (rs : List Numbered) → t ≤ u → length (living u rs) ≤ length (living t rs)
fewer_later t u [] le = omega arith
fewer_later t u (r ∷ rs) le = by (lives u r.1) (lives t r.1) refl refl (fewer_later t u rs le)
  where
    by : (later before : Bool) → lives u r.1 ≡ later → lives t r.1 ≡ before → length (living u rs) ≤ length (living t rs)
        → length {A = Numbered} (cond later (r ∷ living u rs) (living u rs)) ≤ length {A = Numbered} (cond before (r ∷ living t rs) (living t rs))
    by true true l b h = omega (arith, h)
    by true false l b h = absurd (true≢false (sym (lives_before t u r.1 le l) ∙ b))
    by false true l b h = omega (arith, h)
    by false false l b h = h

-- of those that live at a moment the same live later as of all
pub living_twice : (now t : ℕ) (rs : List Numbered) → now ≤ t → living t (living now rs) ≡ living t rs
living_twice now t [] le = refl
living_twice now t (r ∷ rs) le = by (lives now r.1) (lives t r.1) refl refl (living_twice now t rs le)
  where
    by : (n l : Bool) → lives now r.1 ≡ n → lives t r.1 ≡ l → living t (living now rs) ≡ living t rs
        → living t (cond n (r ∷ living now rs) (living now rs)) ≡ cond l (r ∷ living t rs) (living t rs)
    by true true en el h = rw el (ap (λ more. r ∷ more) h)
    by true false en el h = rw el h
    by false true en el h = absurd (true≢false (sym (lives_before now t r.1 le el) ∙ en))
    by false false en el h = h

pub same_later : (now t : ℕ) (was left : List Numbered) → now ≤ t → living now left ≡ living now was → living t left ≡ living t was
same_later now t was left le same = sym (living_twice now t left le) ∙ ap (living t) same ∙ living_twice now t was le

-- ---- what a tally tells

pub known_within : (t : Tally) (most now : ℕ) (rs : List Numbered) → most ≤ 65536 → t.since ≤ now → t.most ≤ most → IsTallied t rs → length (living now rs) ≤ most
known_within t most now rs few since le tallied = omega (arith, le, fewer_later t.since now rs since, tallied.most (omega (arith, le, few)))

pub known_over : (t : Tally) (most now : ℕ) (rs : List Numbered) → now ≤ t.until → most < t.least → IsTallied t rs → most < length (living now rs)
known_over t most now rs until lt tallied = omega (arith, lt, fewer_later now t.until rs until, tallied.least)

-- ---- a tally that goes on at a later moment

-- it tells from a later moment what it told before
abbrev pub IsLater : Tally → ℕ → Tally → Type 0
IsLater t now u = (t.since ≤ u.since) × (now ≤ u.since) × (u.most ≡ t.most) × (u.until ≡ t.until) × (u.least ≡ t.least)

pub later_now : (t : Tally) (now : ℕ) → t.since < now → IsLater t now (record { since = now; most = t.most; until = t.until; least = t.least })
later_now t now lt = (omega (arith, lt), omega arith, refl, refl, refl)

pub later_same : (t : Tally) (now : ℕ) → now ≤ t.since → IsLater t now t
later_same t now le = (omega arith, le, refl, refl, refl)

-- what is let go was dead at that moment
pub goes_on : (t u : Tally) (now : ℕ) (was left : List Numbered) → IsLater t now u → now ≤ u.until → living now left ≡ living now was → IsTallied t was → IsTallied u left
goes_on t u now was left later up same tallied = record {
  most = λ few.
      let most : u.most ≡ t.most = later.2 in
      let told = tallied.most (omega (arith, few, most)) in
      let fewer = fewer_later t.since u.since was later.0 in
      let equal : length (living u.since left) ≡ length (living u.since was) = ap length (same_later now u.since was left later.1 same) in
      omega (arith, most, told, fewer, equal);
  least =
      let until : u.until ≡ t.until = later.3 in
      let least : u.least ≡ t.least = later.4 in
      let told : t.least ≤ length (living t.until was) = tallied.least in
      let moved : length (living u.until was) ≡ length (living t.until was) = ap (λ m. length (living m was)) until in
      let equal : length (living u.until left) ≡ length (living u.until was) = ap length (same_later now u.until was left up same) in
      omega (arith, least, told, moved, equal);
}

-- where its last moment is past, nothing is known of how many live at least
pub goes_on_most : (t u : Tally) (now : ℕ) (was left : List Numbered) → IsLater t now u → living now left ≡ living now was → IsTallied t was
    → IsTallied (record { since = u.since; most = u.most; until = u.until; least = 0 }) left
goes_on_most t u now was left later same tallied = record {
  most = λ few.
      let most : u.most ≡ t.most = later.2 in
      let told = tallied.most (omega (arith, few, most)) in
      let fewer = fewer_later t.since u.since was later.0 in
      let equal : length (living u.since left) ≡ length (living u.since was) = ap length (same_later now u.since was left later.1 same) in
      omega (arith, most, told, fewer, equal);
  least = omega arith;
}
