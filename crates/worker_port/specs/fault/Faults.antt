-- Why the server has stopped.
use Rattle.std.specs.Prelude.{ℕ, Bool, true, false, List, Option, Some, None, codes, nat_lt}
use Rattle.worker_port.specs.declared.fault.fault.ServeFault.{ServeFault}
use Rattle.worker_port.specs.declared.fault.fault.ServeFault.TheVariants.{PollFailed, BadFrame, NoMemory, GateClosed}

-- what is printed
abbrev pub fault_text : ServeFault → List ℕ
fault_text PollFailed = codes "poll failed"
fault_text BadFrame = codes "bad frame"
fault_text NoMemory = codes "no memory"
fault_text GateClosed = codes "turns spent"

-- the least comes first
abbrev pub rank : ServeFault → ℕ
rank PollFailed = 1
rank BadFrame = 2
rank NoMemory = 3
rank GateClosed = 4

abbrev pub lesser : Bool → ServeFault → ServeFault → ServeFault
lesser true one other = other
lesser false one other = one

-- the least of two, if there is one
abbrev pub least : Option ServeFault → Option ServeFault → Option ServeFault
least None other = other
least (Some one) None = Some one
least (Some one) (Some other) = Some (lesser (nat_lt (rank other) (rank one)) one other)
