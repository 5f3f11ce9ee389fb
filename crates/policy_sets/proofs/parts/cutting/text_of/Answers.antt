use Rattle.policy_sets.proofs.parts.Members.{text_reads}
use Rattle.policy_sets.proofs.parts.cutting.text_of.Goals as goal

pub returns-then-len-gt-MOST_BYTES : goal.returns-then-len-gt-MOST_BYTES
returns-then-len-gt-MOST_BYTES c = text_reads _ _ c.in_ok-to_vec.ensures.utf8 (c.in_ok-to_vec.ensures.reads_back c.requires)

pub returns : goal.returns
returns c = text_reads _ _ c.in_ok-lines.ensures.utf8 (c.in_ok-lines.ensures.reads_back c.requires)
