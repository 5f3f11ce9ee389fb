-- Reading texts, lists, and what stands under a key.
use Rattle.std.proofs.Common.{◌≡◌, ℕ, ◌+◌, List, Option, Some, None, option_map, Ok, Err, Bool, true, false, not, if◌then◌else◌, is_some, refl, ap, true≢false, zero-add, arith}
use Rattle.std.specs.Option.{ok_or, unwrap_or}
use Rattle.serde_json.specs.Data.{Data, null, boolean, number, string, array, object}
use Rattle.serde_json.specs.Find.{get_item}
use Rattle.policy_walk.specs.declared.fault.ConfigFault.{ConfigFault}
use Rattle.policy_walk.specs.declared.fault.ConfigFault.TheVariants.{WrongType, BadDuration}
use Rattle.policy_walk.specs.Durations.{duration_of}
use Rattle.policy_walk.specs.Fault.{Read, ◌>>=◌}
use Rattle.policy_walk.specs.Lists.{list_at, list_under}
use Rattle.policy_walk.specs.Texts.{text_at}
use Rattle.policy_walk.specs.Path.{Path, at_index}
use Rattle.policy_text.specs.account_config.Policy.{or_empty, duration_from, duration_at}
use Rattle.policy_text.specs.account_config.Place.{Place, itself, unknown, missing, under, named, Faults, IsReading}
use Rattle.policy_text.specs.account_config.Tables.{unless_found, in_value, text_faults, list_faults}
use Rattle.policy_text.specs.account_config.Standing.{duration_faults}
use Rattle.policy_text.specs.account_config.Values.{text_in, list_in}
use Rattle.policy_text.specs.account_config.Written.{duration_in}
use Rattle.policy_text.proofs.account_config.Order.{IsOrdered, Meets}
use Rattle.policy_text.proofs.account_config.First.{first_itself, mapped}
use Rattle.policy_text.proofs.account_config.Each.{Reads, each_from}

-- a text that may not be any is read, or it is the fault
pub text_read : {X : Type 0} (is_allowed : List ℕ → Bool) (fault : Path → ConfigFault) (written : List ℕ → X) (path : Path) (from : List ℕ → Read X) →
    ((text : List ℕ) → from text ≡ (if is_allowed text then Ok (written text) else Err (fault path))) →
    (d : Data) → IsReading (text_faults is_allowed fault path d) (written (text_in d)) (text_at path d >>= from)
text_read is_allowed fault written path from is null = first_itself _ _ refl
text_read is_allowed fault written path from is (boolean b) = first_itself _ _ refl
text_read is_allowed fault written path from is (number n) = first_itself _ _ refl
text_read is_allowed fault written path from is (array ds) = first_itself _ _ refl
text_read is_allowed fault written path from is (object ms) = first_itself _ _ refl
text_read {X = X} is_allowed fault written path from is (string s) = rw (is s) (by (is_allowed s) refl)
  where
    F : Faults
    F = text_faults is_allowed fault path (string s)

    none : is_allowed s ≡ true → (p : Place) → F p ≡ None
    none e itself = rw e refl
    none e (unknown k) = refl
    none e (missing i) = refl
    none e (under i p) = refl
    none e (named k p) = refl

    by : (b : Bool) → is_allowed s ≡ b → IsReading F (written s) (if b then Ok (written s) else Err (fault path))
    by true e = (none e, refl)
    by false e = first_itself F (fault path) (rw e refl)

pub turned : {X : Type 0} (b : Bool) (x y : X) → (if b then x else y) ≡ (if not b then y else x)
turned true x y = refl
turned false x y = refl

-- a list of values, each of which is read
pub list_read : {X : Type 0} (faults : Path → Data → Faults) (written : Data → X) (reader : Path → Data → Read X) → Reads faults written reader →
    Reads (list_faults faults) (list_in written) (list_at reader)
unfolding list_at
list_read faults written reader reads path null up = first_itself _ _ refl
list_read faults written reader reads path (boolean b) up = first_itself _ _ refl
list_read faults written reader reads path (number n) up = first_itself _ _ refl
list_read faults written reader reads path (string s) up = first_itself _ _ refl
list_read faults written reader reads path (object ms) up = first_itself _ _ refl
list_read faults written reader reads path (array ds) up =
    each_from faults written reader reads path (list_faults faults path (array ds)) (λ k p. refl) 0 ds up
    (λ n p. ap (λ m. in_value faults (at_index path (0 + n)) (get_item m ds) p) (zero-add n))
    (record { at_itself = refl; at_unknown = λ k. refl; at_missing = λ i. refl; at_under = λ i p lt. absurd (omega arith) })

-- a list that may be there
pub list_under_read : {X : Type 0} (faults : Path → Data → Faults) (written : Data → X) (reader : Path → Data → Read X) → Reads faults written reader →
    (path : Path) (found : Option Data) → Meets IsOrdered found →
    IsReading (in_value (list_faults faults) path found) (or_empty (option_map (list_in written) found)) (list_under reader path found)
list_under_read faults written reader reads path None up = (λ p. refl, refl)
list_under_read faults written reader reads path (Some d) up = list_read faults written reader reads path d up

-- a value that may be there
pub optional_read : {X : Type 0} (faults : Path → Data → Faults) (written : Data → X) (reader : Path → Data → Read X) → Reads faults written reader →
    (path : Path) (d : Data) → IsOrdered d → IsReading (faults path d) (Some (written d)) (reader path d >>= λ x. Ok (Some x))
optional_read faults written reader reads path d up = mapped (faults path d) (λ x. Some x) (written d) (reader path d) (reads path d up)

duration_is : (path : Path) (o : Option ℕ) → ok_or o (BadDuration path) ≡ (if is_some o then Ok (unwrap_or o 0) else Err (BadDuration path))
duration_is path None = refl
duration_is path (Some n) = refl

pub duration_read : Reads duration_faults duration_in duration_at
unfolding duration_at
duration_read path d up = text_read (λ text. is_some (duration_of text)) BadDuration (λ text. unwrap_or (duration_of text) 0) path (duration_from path) (λ text. duration_is path (duration_of text)) d

-- a text under a key that has to be there
pub required_read : {X : Type 0} (is_allowed : List ℕ → Bool) (fault : Path → ConfigFault) (written : List ℕ → X) (path : Path) (from : List ℕ → Read X) →
    ((text : List ℕ) → from text ≡ (if is_allowed text then Ok (written text) else Err (fault path))) →
    (found : Option Data) → unless_found found (WrongType path) ≡ None →
    IsReading (in_value (text_faults is_allowed fault) path found) (written (text_in (unwrap_or found null))) ((ok_or found (WrongType path) >>= λ value. text_at path value) >>= from)
required_read is_allowed fault written path from is None there = absurd (true≢false (ap is_some there))
required_read is_allowed fault written path from is (Some d) there = text_read is_allowed fault written path from is d

-- a value under a key that has to be there
pub required_value_read : {X : Type 0} (faults : Path → Data → Faults) (written : Data → X) (reader : Path → Data → Read X) → Reads faults written reader →
    (path : Path) (found : Option Data) → Meets IsOrdered found → unless_found found (WrongType path) ≡ None →
    IsReading (in_value faults path found) (written (unwrap_or found null)) (ok_or found (WrongType path) >>= λ value. reader path value)
required_value_read faults written reader reads path None up there = absurd (true≢false (ap is_some there))
required_value_read faults written reader reads path (Some d) up there = reads path d up
