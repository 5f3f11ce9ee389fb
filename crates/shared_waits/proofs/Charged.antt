-- What a receiver is charged stays below what it has saved and gets back.
use Rattle.std.proofs.Common.{◌≡◌, ◌≢◌, ◌≤◌, ◌<◌, ◌+◌, ◌-◌, ◌*◌, ◌==◌, ◌∷◌, [], ℕ, List, false, Option, None, Some, min, max, arith}
use Rattle.std.proofs.lemmas.Bool.{eqb-false, or_parts}
use Rattle.shared_waits.specs.declared.patience.Patience.{Patience}
use Rattle.shared_waits.specs.Patience.{is_out, is_too_long, left_by, fresh, begun_by, charge_by, taken_by}
use Rattle.shared_waits.specs.Charges.{Change, Found, Took, moment_of, changed, all_changed, charge_of, all_charged, IsNeverOut, AreChargesBounded}

-- who isn't out at its latest change has something left
some_left : (p : Patience) (s : Option ℕ) (now : ℕ) → now ≤ p.at → left_by s now p ≢ 0 → 0 < p.left
some_left p None now late some = omega (arith, some)
some_left p (Some since) now late some = omega (arith, some)

-- what a change charges is taken
step : (c : Change) (p : Patience) → is_out (moment_of c) (changed c p) ≡ false
    → 10 * charge_of c p + p.at + (changed c p).left ≤ p.left + (changed c p).at
step (Found half now) p patient = by p.since
  where
    by : (s : Option ℕ) → 10 * 0 + p.at + (begun_by s now half p).left ≤ p.left + (begun_by s now half p).at
    by None = omega arith
    by (Some since) = omega arith
step (Took waiting refused now) p patient = by p.since patient
  where
    by : (s : Option ℕ) → is_out now (taken_by s waiting refused now p) ≡ false
        → 10 * charge_by s refused now p + p.at + (taken_by s waiting refused now p).left ≤ p.left + (taken_by s waiting refused now p).at
    by None h = omega arith
    by (Some since) h =
        let q : Patience = taken_by (Some since) waiting refused now p in
        let some : left_by q.since now q ≢ 0 = eqb-false (left_by q.since now q) 0 ((or_parts (is_too_long now q.since) (left_by q.since now q == 0) h).1) in
        let late : now ≤ max p.at now = omega arith in
        let left : 0 < p.left - 10 * min refused (now - p.at) = some_left q q.since now late some in
        omega (arith, left)

-- so do several
steps : (cs : List Change) (p : Patience) → IsNeverOut cs p → 10 * all_charged cs p + p.at ≤ p.left + (all_changed cs p).at
steps [] p patient = omega arith
steps (c ∷ cs) p patient = omega (arith, step c p patient.0, steps cs (changed c p) patient.1)

pub charges_are_bounded : AreChargesBounded
charges_are_bounded cs now half patient = omega (arith, steps cs (fresh now half) patient)
