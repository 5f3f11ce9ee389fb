-- Whether some reasons have all of another, as their patterns say.
use Rattle.std.proofs.Common.{◌≡◌, ◌∙◌, Bool, true, false, List, map, ap, sym}
use Rattle.std.specs.List.{list_any}
use Rattle.std.proofs.lemmas.List.Folds.{list_any_at, list_any_none}
use Rattle.std.proofs.lemmas.List.{get_or_default}
use Rattle.pattern_sets.specs.Judging.{is_within, IsCovered}
use Rattle.pattern_sets.specs.declared.search.Reason.{Reason}
use Rattle.message_changes.proofs.Members.{any_map}
use Rattle.message_changes.specs.Reasons.{is_had, is_inside, reason_view}

by_result : (reasons : List Reason) (reason : Reason) (b : Bool) → IsCovered reasons reason b → b ≡ list_any (λ (r : Reason). is_within reason r) reasons
by_result reasons reason true h = sym (list_any_at (λ (r : Reason). is_within reason r) reasons h.0 reason h.1 h.2)
by_result reasons reason false h =
    sym (list_any_none (λ (r : Reason). is_within reason r) reasons (λ i d less. ap (is_within reason) (get_or_default reasons i d reason less) ∙ h i less))

pub had_is : (reasons : List Reason) (reason : Reason) (b : Bool) → IsCovered reasons reason b → b ≡ is_had (map reason_view reasons) (reason_view reason)
had_is reasons reason b h = by_result reasons reason b h ∙ sym (any_map reason_view (is_inside (reason_view reason)) reasons)
