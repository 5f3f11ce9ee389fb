-- Records that are one entry each: the entry at a place is that of the record there.
use Rattle.std.proofs.Common.{◌≡◌, ◌∙◌, ℕ, zero, suc, ◌+◌, ◌≤◌, List, [], ◌∷◌, ◌++◌, take, length, min, Some, None, slice_get, ap, sym, arith, refl, flat_map}
use Rattle.std.proofs.lemmas.List.{length-append, length-take, flat_map_more}
use Rattle.events.specs.declared.answer.Entry.{Entry}
use Rattle.records.specs.declared.history.Record.{Record}
use Rattle.records.specs.declared.history.Record.TheVariants.{One}
use Rattle.records.specs.Records.{entries_of}

-- one more behind others
pub one_more : (rs : List Record) (e : Entry) → flat_map entries_of (rs ++ One e ∷ []) ≡ flat_map entries_of rs ++ e ∷ []
one_more rs e = sym (flat_map_more entries_of [] rs (One e))

pub counted : (rs : List Record) (e : Entry) → length (flat_map entries_of (rs ++ One e ∷ [])) ≡ length (flat_map entries_of rs) + 1
counted rs e = ap length (one_more rs e) ∙ length-append (flat_map entries_of rs) (e ∷ [])

pub found : (rs : List Record) (i : ℕ) (r : Record) (e : Entry) → slice_get rs i ≡ Some r → entries_of r ≡ e ∷ [] → slice_get (flat_map entries_of rs) i ≡ Some e
found [] i r e h one = cc
found (One x ∷ rs) zero (One y) e h one = cc
found (One x ∷ rs) (suc i) r e h one = found rs i r e h one

pub lacks : (rs : List Record) (i : ℕ) → length rs ≤ i → slice_get (flat_map entries_of rs) i ≡ None
lacks [] i h = cc
lacks (One x ∷ rs) zero h = absurd (omega arith)
lacks (One x ∷ rs) (suc i) h = lacks rs i (omega arith)

pub first_ones : (n : ℕ) (rs : List Record) → flat_map entries_of (take n rs) ≡ take n (flat_map entries_of rs)
first_ones zero rs = refl
first_ones (suc n) [] = refl
first_ones (suc n) (One x ∷ rs) = ap (λ l. x ∷ l) (first_ones n rs)

pub count_first : (n : ℕ) (rs : List Record) → length (flat_map entries_of (take n rs)) ≡ min (length (flat_map entries_of rs)) n
count_first n rs = ap length (first_ones n rs) ∙ omega (arith, length-take n (flat_map entries_of rs))
