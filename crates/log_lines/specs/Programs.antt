-- What the CONNECT of a client says of its program (docs/OPERATING.md, "What the server tells").
use Rattle.std.specs.Prelude.{◌≡◌, ℕ, List, codes, Option, Some, None, option_and_then, option_map, take}
use Rattle.serde_json.specs.Data.{Data, null, boolean, number, string, array, object}
use Rattle.serde_json.specs.Find.{get}
use Rattle.json_text.specs.Json.{json_of}
use Rattle.log_lines.specs.declared.program.ProgramTexts.{ProgramTexts}

-- the text that a value is, of which at most 128 bytes are kept
abbrev pub text_of : Data → Option (List ℕ)
text_of null = None
text_of (boolean b) = None
text_of (number n) = None
text_of (string text) = Some (take 128 text)
text_of (array _) = None
text_of (object _) = None

-- the text of a member, if it is one
abbrev pub member_of : List ℕ → Data → Option (List ℕ)
member_of key d = option_and_then text_of (get key d)

-- the same in the text of a JSON value
abbrev pub said_of : List ℕ → Option Data → Option (List ℕ)
said_of key value = option_and_then (member_of key) value

pub record IsProgram (text : List ℕ) (p : ProgramTexts) : Type 0 where
  pub name : option_map (λ t. t.items) p.name ≡ said_of (codes "name") (json_of text)
  pub lang : option_map (λ t. t.items) p.lang ≡ said_of (codes "lang") (json_of text)
  pub version : option_map (λ t. t.items) p.version ≡ said_of (codes "version") (json_of text)
