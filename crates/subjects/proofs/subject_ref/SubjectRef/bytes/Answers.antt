-- a text's tokens, joined by dots, are the text
use Rattle.std.proofs.Common.{ap, sym, ◌∙◌}
use Rattle.std.proofs.lemmas.List.Splits.{join_with_byte-slice_split}
use Rattle.subjects.specs.Subject.{text_of}
use Rattle.subjects.proofs.subject_ref.SubjectRef.bytes.Goals as goal

pub returns : goal.returns
returns c = sym (join_with_byte-slice_split 46 c.self.inside.text.now) ∙ ap text_of c.self.view_is
