-- by the first byte of the text
use Rattle.std.proofs.Common.{◌∙◌, ℕ, List, slice_get, ap, sym}
use Rattle.world_views.proofs.Begins.{other_first, no_first}
use Rattle.world_views.proofs.across.may_be_route.Goals as goal

pub returns-in-None : goal.returns-in-None
returns-in-None c none = no_first c.args.subject.now (sym (c.in-None.ensures.value ∙ ap (λ (t : List ℕ). slice_get t 0) c.bytes.ensures))

pub returns-in-Some : goal.returns-in-Some
returns-in-Some c other = other_first c.args.subject.now c.in-Some.first.now (sym (c.in-Some.ensures.value ∙ ap (λ (t : List ℕ). slice_get t 0) c.bytes.ensures)) other
