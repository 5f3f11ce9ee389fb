-- What is explained of a user's lists is as much as the lists are.
use Rattle.std.proofs.Common.{◌≡◌, ◌∙◌, ap, Option, Some, None, option_map, Ok, Err}
use Rattle.explain.specs.Fault.{Answers}
use Rattle.explain.specs.declared.fault.ExplainFault.{ExplainFault}
use Rattle.explain.specs.declared.fault.ExplainFault.TheVariants.{NoMemory}

-- where there are no lists nothing is explained, for the same cause
pub stays : {U L X : Type 0} (unknown : ExplainFault) (user : Option U) (lists : U → L) (about : U → X) (fault : ExplainFault) →
    Answers unknown (option_map lists user) (Err fault) → Answers unknown (option_map about user) (Err fault)
stays unknown None lists about fault is = is
stays unknown (Some u) lists about fault is = is

-- where memory could not be had, that is the fault
pub wants : {U L X : Type 0} (unknown : ExplainFault) (user : Option U) (lists : U → L) (about : U → X) (found : L) (fault : ExplainFault) →
    Answers unknown (option_map lists user) (Ok found) → fault ≡ NoMemory → Answers unknown (option_map about user) (Err fault)
wants unknown None lists about found fault is memory = absurd is
wants unknown (Some u) lists about found fault is memory = memory

-- else it is of these lists
pub goes : {U L X : Type 0} (unknown : ExplainFault) (user : Option U) (lists : U → L) (of : L → X) (found : L) (reason : X) →
    Answers unknown (option_map lists user) (Ok found) → reason ≡ of found → Answers unknown (option_map (λ u. of (lists u)) user) (Ok reason)
goes unknown None lists of found reason is e = absurd is
goes unknown (Some u) lists of found reason is e = e ∙ ap of is
