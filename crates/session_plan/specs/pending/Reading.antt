-- The frames that a piece completes (docs/PROTOCOL.md, "Frames").
use Rattle.std.specs.Prelude.{ℕ, List, [], ◌++◌, if◌then◌else◌}
use Rattle.wire_read.specs.declared.frame.Frame.{Frame}
use Rattle.wire_read.specs.Framing.{Reader, frames_of}

-- the frames that a piece completes, and the reader after it. A stream with a fault gives no more.
abbrev pub frames_after : Reader → List ℕ → List Frame
frames_after r piece = if r.failed then [] else (frames_of (r.rest ++ piece)).frames

abbrev pub reader_after : Reader → List ℕ → Reader
reader_after r piece = if r.failed then r else (let f = frames_of (r.rest ++ piece) in record { rest = f.rest; failed = f.failed })
