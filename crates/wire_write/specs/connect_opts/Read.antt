-- What reading a CONNECT answers: what was read, or why it is refused.
use Rattle.std.specs.Prelude.{◌≡◌, ◌≢◌, ℕ, List, codes, Result, Ok, Err}
use Rattle.wire_write.specs.declared.connect_opts.error.ConnectError.{ConnectError}
use Rattle.wire_write.specs.declared.connect_opts.error.ConnectError.TheVariants.{NotJson, NotObject, FieldType, NoMemory}

-- what reading one part of a CONNECT gives, memory aside
abbrev pub Read : Type 0 → Type 0
Read X = Result X ConnectError

-- one part after the other: the first error is the answer
infixl 10 ◌>>=◌
abbrev pub ◌>>=◌ : {A B : Type 0} → Result A ConnectError → (A → Result B ConnectError) → Result B ConnectError
(Ok x) >>= f = f x
(Err e) >>= f = Err e

-- what was returned, as a clause sees it, is what the text gives, unless memory ran out
abbrev pub Gives : {X Y : Type 0} → (X → Y) → Result X ConnectError → Result Y ConnectError → Type 0
Gives seen (Ok x) read = read ≡ Ok (seen x)
Gives seen (Err error) read = error ≢ NoMemory → read ≡ Err error

-- what is said of an error
abbrev pub error_text : ConnectError → List ℕ
error_text NotJson = codes "the CONNECT is no JSON"
error_text NotObject = codes "the CONNECT is no JSON object"
error_text FieldType = codes "a field of the CONNECT has a wrong type"
error_text NoMemory = codes "no memory"
