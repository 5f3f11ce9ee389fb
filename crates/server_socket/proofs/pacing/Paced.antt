-- The bounds, by arithmetic.
use Rattle.std.proofs.Common.{◌≡◌, ◌-◌, ◌*◌, ◌/◌, ◌≤◌, ◌<◌, ℕ, suc, zero, Bool, true, false, min, max, refl, subst, sym, arith}
use Rattle.std.proofs.Math.Nat.{div-mul-le_self, mul-div-le, mul-le-mul_right}
use Rattle.std.proofs.lemmas.Bool.{eqb-true, ltb-true, lt-ltb}
use Rattle.std.specs.Prelude.{nat_eq, nat_lt}
use Rattle.server_socket.specs.pacing.Awaited.{many, mean, take_if}
use Rattle.server_socket.specs.pacing.Bounds.{AddsUp, FitsPiece, IsMeasured, LeavesHalf, StaysFewer}

pub leaves_half : LeavesHalf
leaves_half outbox d messages fewer few =
    let below : d.awaited.count < outbox / 2 - 4096 / 11 = ltb-true d.awaited.count (many outbox) fewer in
    omega (arith, below, few)

pub fits_piece : FitsPiece
fits_piece outbox d messages large fewer few =
    let below : d.awaited.count < outbox / 2 - 4096 / 11 = ltb-true d.awaited.count (many outbox) fewer in
    omega (arith, large, below, few)

pub stays_fewer : StaysFewer
stays_fewer outbox d most fewer =
    let below : d.awaited.count < many outbox = ltb-true d.awaited.count (many outbox) fewer in
    less (many outbox) below
  where
    less : (bound : ℕ) → d.awaited.count < bound → nat_lt (d.awaited.count - min d.awaited.count most) bound ≡ true
    less bound below = lt-ltb (d.awaited.count - min d.awaited.count most) bound (omega (arith, below))

-- a part of what is dealt out, as often as there are others
dealt : (n others : ℕ) → others * (n / max others 1) ≤ n
dealt n zero = omega arith
dealt n (suc k) =
    let same : max (suc k) 1 ≡ suc k = omega arith in
    subst (λ v. suc k * (n / v) ≤ n) (sym same) (mul-div-le n (suc k))

pub adds_up : AddsUp
adds_up outbox workers = dealt (many outbox) (workers - 1)

measured : (each quotient : ℕ) → quotient * each ≤ 65536 → min (max quotient 1) 256 * each ≤ max 65536 each
measured each zero within = omega arith
measured each (suc k) within =
    let fewer : min (max (suc k) 1) 256 ≤ suc k = omega arith in
    let less : min (max (suc k) 1) 256 * each ≤ suc k * each = mul-le-mul_right each fewer in
    omega (arith, less, within)

pub is_measured : IsMeasured
is_measured a = by_test (mean a) (nat_eq (mean a) 0) refl
  where
    by_test : (each : ℕ) (b : Bool) → nat_eq each 0 ≡ b → (1 ≤ take_if b each) × (take_if b each ≤ 256) × (take_if b each * each ≤ max 65536 each)
    by_test each true is = let none : each ≡ 0 = eqb-true each 0 is in (omega arith, omega arith, omega (arith, none))
    by_test each false is = (omega arith, omega arith, measured each (65536 / each) (div-mul-le_self 65536 each))
