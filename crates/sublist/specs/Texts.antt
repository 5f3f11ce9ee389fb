-- The texts of errors.
use Rattle.std.specs.Prelude.{ℕ, List, codes}
use Rattle.sublist.specs.declared.error.InsertError.{InsertError}
use Rattle.sublist.specs.declared.error.InsertError.TheVariants.{Present, NoMemory}

abbrev pub insert_error_text : InsertError → List ℕ
insert_error_text Present = codes "the subscription stands already"
insert_error_text NoMemory = codes "no memory"
