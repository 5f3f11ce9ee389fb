-- What the walk gives for a text is the answer that the faults and the document of its value say.
use Rattle.std.proofs.Common.{◌≡◌, ◌≢◌, ℕ, List, [], Option, Some, None, Ok, Err, Bool, true, false, length, nat_lt, if◌then◌else◌, is_some, refl, ap, sym, subst, true≢false}
use Rattle.std.specs.Option.{ok_or}
use Rattle.std.specs.Str.{is_utf8}
use Rattle.serde_json.specs.Data.{Data}
use Rattle.serde_json.specs.Read.{read}
use Rattle.policy_doc.specs.declared.document.PolicyDoc.{PolicyDoc}
use Rattle.policy_walk.specs.declared.fault.ConfigFault.{ConfigFault}
use Rattle.policy_walk.specs.declared.fault.ConfigFault.TheVariants.{TooLarge, NotJson, NoMemory}
use Rattle.policy_walk.specs.Fault.{◌>>=◌}
use Rattle.policy_text.specs.account_config.Policy.{document_at, policy_of}
use Rattle.json_text.specs.Json.{json_of}
use Rattle.policy_text.specs.account_config.Written.{IsAnswerBy, IsAnswer, IsAnsweredFor}
use Rattle.policy_text.proofs.account_config.Order.{IsOrdered, read-ordered}
use Rattle.policy_text.proofs.account_config.Parts.{document_read}

value-ordered : (text : List ℕ) (d : Data) → json_of text ≡ Some d → IsOrdered d
value-ordered text d e = by (is_utf8 text) e
  where
    by : (utf8 : Bool) → (if utf8 then read text else None) ≡ Some d → IsOrdered d
    by true is = read-ordered text d is
    by false is = absurd (true≢false (sym (ap is_some is)))

pub walk_answers : (text : List ℕ) → IsAnswer text (policy_of text)
unfolding policy_of
walk_answers text = by (nat_lt 1048576 (length text)) (json_of text) refl
  where
    by : (large : Bool) (value : Option Data) → json_of text ≡ value →
        IsAnswerBy large value ((if large then Err TooLarge else ok_or value NotJson) >>= λ d. document_at [] d)
    by true value e = refl
    by false None e = refl
    by false (Some d) e = document_read [] d (value-ordered text d e)

pub answered : (text : List ℕ) (doc : PolicyDoc) → policy_of text ≡ Ok doc → IsAnsweredFor text (Ok doc)
answered text doc e = subst (IsAnswer text) e (walk_answers text)

pub answered_err : (text : List ℕ) (fault : ConfigFault) → (fault ≢ NoMemory → policy_of text ≡ Err fault) → IsAnsweredFor text (Err fault)
answered_err text fault fails = λ other. subst (IsAnswer text) (fails other) (walk_answers text)
