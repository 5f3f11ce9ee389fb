-- the references so far and those of what is left are all
use Rattle.std.proofs.Common.{◌≡◌, ◌≤◌, ◌+◌, ◌++◌, length}
use Rattle.subjects.specs.Subject.{tokens_of}
use Rattle.mapping.specs.templates.Template.{references_from, references_of}
use Rattle.mapping.proofs.templates.references.References.of.Given as goal

abbrev pub invariant-loop-token : goal.invariant-loop-token
invariant-loop-token l = record {
  found : l.references ++ references_from l.next l.tokens ≡ references_of (tokens_of l.template);
  few : length l.references + length l.tokens ≤ 512;
  small : l.next + length l.tokens ≤ 513;
}

abbrev pub decreases-loop-token : goal.decreases-loop-token
decreases-loop-token l = length l.tokens
