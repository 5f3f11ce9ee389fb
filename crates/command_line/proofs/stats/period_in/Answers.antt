-- a text was given exactly where a number is read
use Rattle.std.proofs.Common.{◌≡◌, ◌∙◌, ℕ, Option, Some, None, codes, refl, sym}
use Rattle.std.specs.Prelude.{option_map, slice_get}
use Rattle.std.specs.List.{find}
use Rattle.std.specs.Option.{option_and_then}
use Rattle.std.specs.Str.{bytes_eq}
use Rattle.clap.specs.Words.{Row, Text, found_of, read_as, rows_of}
use Rattle.command_line.specs.Options.{IsNumberIn, IsPeriodIn}
use Rattle.command_line.proofs.Rows.{first_by_rows}
use Rattle.command_line.proofs.stats.period_in.Goals as goal

none_read : (read : Text → Text) (value : Option Text) → value ≡ None → IsPeriodIn (option_map read value) None
none_read read None e = refl
none_read read (Some x) e = absurd (cc)

some_read : (read : Text → Text) (value : Option Text) (n : ℕ) (t : Text) → value ≡ Some t → IsNumberIn 1 86400 (option_map read value) n →
    IsPeriodIn (option_map read value) (Some n)
some_read read None n t e h = absurd (cc)
some_read read (Some x) n t e h = h

none_given : (row : Option Row) → option_and_then (λ (r : Row). slice_get r.values 0) row ≡ None →
    IsPeriodIn (option_and_then (λ (r : Row). option_map (read_as r.reading) (slice_get r.values 0)) row) None
none_given None e = refl
none_given (Some r) e = none_read (read_as r.reading) (slice_get r.values 0) e

some_given : (row : Option Row) (n : ℕ) (t : Text) → option_and_then (λ (r : Row). slice_get r.values 0) row ≡ Some t →
    IsNumberIn 1 86400 (option_and_then (λ (r : Row). option_map (read_as r.reading) (slice_get r.values 0)) row) n →
    IsPeriodIn (option_and_then (λ (r : Row). option_map (read_as r.reading) (slice_get r.values 0)) row) (Some n)
some_given None n t e h = absurd (cc)
some_given (Some r) n t e h = some_read (read_as r.reading) (slice_get r.values 0) n t e h

pub returns-in-None : goal.returns-in-None
returns-in-None c =
    none_given (find (λ (r : Row). bytes_eq r.id (codes "stats")) (rows_of (found_of c.args.matches.now)))
    (sym (first_by_rows (found_of c.args.matches.now) (codes "stats")) ∙ sym c.in-None.ensures)

pub returns-in-Some : goal.returns-in-Some
returns-in-Some c =
    some_given (find (λ (r : Row). bytes_eq r.id (codes "stats")) (rows_of (found_of c.args.matches.now))) _ _
    (sym (first_by_rows (found_of c.args.matches.now) (codes "stats")) ∙ sym c.in-Some.ensures) c.number_in.ensures
