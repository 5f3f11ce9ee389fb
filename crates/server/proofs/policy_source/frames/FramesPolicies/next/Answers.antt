use Rattle.server.proofs.policy_source.Grammar.{frame_whole}
use Rattle.server.proofs.policy_source.frames.FramesPolicies.next.Goals as goal

pub returns-in-Bytes-clause-read : goal.returns-in-Bytes-clause-read
returns-in-Bytes-clause-read g c = frame_whole _ _ _ _ c.in-Bytes.size c.text.result c.in-Bytes.ensures.read c.text.ensures.read
