-- Why clients are served no further, and what is printed then (docs/OPERATING.md, "What it prints").
use Rattle.std.specs.Prelude.{ℕ, List, codes}
use Rattle.worker_port.specs.declared.fault.end.Fault.{Fault}
use Rattle.worker_port.specs.declared.fault.end.Fault.TheVariants.{ReadFailed, BadFrame, Refused, ListenFailed, PollFailed, NoKeys, NoMemory, GateClosed}

abbrev pub line_of : Fault → List ℕ
line_of ReadFailed = codes "read failed\n"
line_of BadFrame = codes "bad frame\n"
line_of (Refused line) = line.items
line_of ListenFailed = codes "listen failed\n"
line_of PollFailed = codes "poll failed\n"
line_of NoKeys = codes "no random keys\n"
line_of NoMemory = codes "no memory\n"
line_of GateClosed = codes "turns spent\n"
