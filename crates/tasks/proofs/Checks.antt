-- What is said of a text that is longer than a policy's may be.
use Rattle.std.proofs.Common.{◌≡◌, ◌∙◌, ◌<◌, ◌++◌, ℕ, List, codes, length, ap, sym, refl, Err}
use Rattle.std.proofs.lemmas.Bool.{lt-ltb}
use Rattle.policy_text.specs.account_config.Policy.{policy_of}
use Rattle.policy_walk.specs.declared.fault.ConfigFault.TheVariants.{TooLarge}
use Rattle.policy_text.specs.reload.Fault.{fault_line}
use Rattle.policy_text.specs.reload.Reload.{judged}
use Rattle.policy_text.specs.declared.reload.fault.ReloadFault.TheVariants.{Config}
use Rattle.command_line.specs.declared.question.Question.{Question}
use Rattle.tasks.specs.Check.{parted, report_of, reported, sets_of_text}
use Rattle.tasks.specs.Explaining.{explained_by, replied}

too_large : (text : List ℕ) → 1048576 < length text → policy_of text ≡ Err TooLarge
unfolding policy_of
too_large text long = rw (lt-ltb 1048576 (length text) long) refl

pub report_is : (text : List ℕ) → 1048576 < length text → report_of text ≡ record { text = fault_line (Config TooLarge) ++ codes "\n"; status = 1 }
report_is text long = ap (λ read. reported (judged read)) (too_large text long)

-- no question to it is answered
pub reply_is : (question : Question) (text : List ℕ) → 1048576 < length text → explained_by question text ≡ report_of text
reply_is question text long = ap (λ read. replied question (judged read)) (too_large text long) ∙ sym (report_is text long)

-- nor has it sets
pub parted_is : (text : List ℕ) → 1048576 < length text → sets_of_text text ≡ report_of text
parted_is text long = ap (λ read. parted (judged read)) (too_large text long) ∙ sym (report_is text long)
