-- What a parser found, where memory sufficed.
use Rattle.std.specs.Prelude.{◌≡◌, false, Option, Some, None, Result, Ok, Err}
use Rattle.subjects.specs.Fault.{is_no_memory}
use Rattle.subjects.specs.declared.error.SubjectError.{SubjectError}

-- what was parsed is found, and nothing where the text is refused for a fault of its own
abbrev pub IsFound : {X : Type 0} → Result X SubjectError → Option X → Type 0
IsFound (Ok x) found = found ≡ Some x
IsFound (Err error) found = (is_no_memory error ≡ false) × (found ≡ None)
