-- a text's tokens, joined by dots, are the text
use Rattle.std.proofs.Common.{ap, sym, ◌∙◌}
use Rattle.std.proofs.lemmas.List.Splits.{join_with_byte-slice_split}
use Rattle.subjects.specs.Subject.{text_of}
use Rattle.subjects.proofs.subject.Subject.bytes.Goals as goal

pub returns : goal.returns
returns c = c.as_slice.ensures ∙ (sym (join_with_byte-slice_split 46 c.self.inside.text) ∙ ap text_of c.self.view_is)
