-- What a task reads and writes, and its status.
use Rattle.std.specs.Prelude.{ℕ, List, [], codes, Option, Some}
use Rattle.std.specs.String.{string_bytes}
use Rattle.tasks.specs.Fault.{IsShort, IsTooLong}
use Rattle.script.specs.Play.{Played, output_of}
use Rattle.tasks.specs.Check.{report_of, sets_of_text}
use Rattle.tasks.specs.Explaining.{explained_by}
use Rattle.command_line.specs.declared.words.Task.{Task}
use Rattle.command_line.specs.declared.words.Task.TheVariants.{Play, Check, Strict, Sets, Explain, BadKind, BadLog, BadKeepalive, Help, Version}

-- the bytes that a task reads, where they are known: a text to be shown needs none, nor does a question of no known kind
abbrev pub input_of : Task → Option (List ℕ) → Option (List ℕ)
input_of Play input = input
input_of Check input = input
input_of Strict input = input
input_of Sets input = input
input_of (Explain question) input = input
input_of BadKind input = Some []
input_of BadLog input = Some []
input_of BadKeepalive input = Some []
input_of (Help text) input = Some []
input_of (Version text) input = Some []

-- what a task writes, and its status
abbrev pub done_by : Task → List ℕ → Played
done_by Play script = output_of script
done_by Check text = report_of text
done_by Strict text = report_of text
done_by Sets text = sets_of_text text
done_by (Explain question) text = explained_by question text
done_by BadKind text = record { text = codes "bad kind\n"; status = 2 }
done_by BadLog text = record { text = codes "bad log\n"; status = 2 }
done_by BadKeepalive text = record { text = codes "bad keepalive\n"; status = 2 }
done_by (Help text) script = record { text = string_bytes text; status = 0 }
done_by (Version text) script = record { text = string_bytes text; status = 0 }

-- a script that was played is no longer than scripts may be
abbrev pub IsShortScript : Task → Option (List ℕ) → ℕ → ℕ → Type 0
IsShortScript Play input before after = IsShort input before after
IsShortScript Check input before after = Unit {0}
IsShortScript Strict input before after = Unit {0}
IsShortScript Sets input before after = Unit {0}
IsShortScript (Explain question) input before after = Unit {0}
IsShortScript BadKind input before after = Unit {0}
IsShortScript BadLog input before after = Unit {0}
IsShortScript BadKeepalive input before after = Unit {0}
IsShortScript (Help text) input before after = Unit {0}
IsShortScript (Version text) input before after = Unit {0}

-- only a script is too long
abbrev pub IsLongScript : Task → Option (List ℕ) → ℕ → ℕ → Type 0
IsLongScript Play input before after = IsTooLong input before after
IsLongScript Check input before after = ⊥
IsLongScript Strict input before after = ⊥
IsLongScript Sets input before after = ⊥
IsLongScript (Explain question) input before after = ⊥
IsLongScript BadKind input before after = ⊥
IsLongScript BadLog input before after = ⊥
IsLongScript BadKeepalive input before after = ⊥
IsLongScript (Help text) input before after = ⊥
IsLongScript (Version text) input before after = ⊥
