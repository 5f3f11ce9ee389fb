-- What a run has told.
use Rattle.std.proofs.Common.{◌≡◌, ◌||◌, ◌++◌, ℕ, List, Bool, true, false, Option, Some, None, Result, Ok, Err, IfSome, OnErr, length, take, arith, sym, subst}
use Rattle.std.proofs.lemmas.Grind.{common_steps}
use Rattle.std.specs.Io.KnownBytes.{Appends}
use Rattle.devices.specs.Device.{AppendsFront}

whole : (bs : List ℕ) → take (length bs) bs ≡ bs
whole bs = grind (arith, common_steps)

-- the whole is a front
pub appends_front : (old new : Option (List ℕ)) (bs : List ℕ) → Appends old new bs → AppendsFront old new bs
appends_front old new bs h = (length bs, subst (λ (l : List ℕ). Appends old new l) (sym (whole bs)) h)

none : (xs bs : List ℕ) → xs ≡ xs ++ take 0 bs
none xs bs = grind (arith, common_steps)

-- and so is nothing
same_front : (held : Option (List ℕ)) (bs : List ℕ) → AppendsFront held held bs
same_front None bs = (0, tt)
same_front (Some xs) bs = (0, none xs bs)

-- where nothing was written, a front is written of whatever was to be
pub refused : {T E : Type 0} (r : Result T E) (left held : Option (List ℕ)) (wanted : List ℕ → List ℕ) → OnErr r (IfSome left (λ text. AppendsFront held held (wanted text)))
refused (Ok x) left held wanted = tt
refused (Err e) None held wanted = tt
refused (Err e) (Some text) held wanted = same_front held (wanted text)

-- after a write that failed the sink has failed
pub has_failed : (before after : Bool) → after ≡ (before || true) → after ≡ false → ⊥
has_failed true after e f = absurd (cc)
has_failed false after e f = absurd (cc)
