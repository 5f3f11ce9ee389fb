-- What an option was given, by the rows of the matches.
use Rattle.std.proofs.Common.{◌≡◌, List, ℕ}
use Rattle.clap.specs.Words.{first_of, first_value, one_of, one_text, rows_of}
use Rattle.clap.specs.declared.parser.matches.Found.{Found}
use Rattle.clap.proofs.WalkLemmas.{first_value-rows, one_text-rows}

pub first_by_rows : (f : Found) (id : List ℕ) → first_value f id ≡ first_of id (rows_of f)
first_by_rows f id = first_value-rows f id

pub one_by_rows : (f : Found) (id : List ℕ) → one_text f id ≡ one_of id (rows_of f)
one_by_rows f id = one_text-rows f id
