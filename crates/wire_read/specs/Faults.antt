-- How faults and errors read to a person.
use Rattle.std.specs.Prelude.{ℕ, List, codes}
use Rattle.wire_read.specs.declared.fault.WireFault.{WireFault}
use Rattle.wire_read.specs.declared.fault.WireFault.TheVariants.{UnknownOperation, ParserError, ControlLine, Payload}
use Rattle.wire_read.specs.declared.fault.FeedError.{FeedError}
use Rattle.wire_read.specs.declared.fault.FeedError.TheVariants.{Failed, NoMemory}

-- the text of a fault
abbrev pub fault_text : WireFault → List ℕ
fault_text UnknownOperation = codes "the operation is unknown"
fault_text ParserError = codes "the protocol message is malformed"
fault_text ControlLine = codes "the control line is too long"
fault_text Payload = codes "the payload is too long"

-- the text of an error
abbrev pub feed_error_text : FeedError → List ℕ
feed_error_text Failed = codes "the stream had a fault before"
feed_error_text NoMemory = codes "no memory"
