-- What the next policy of an input comes to.
use Rattle.std.specs.Prelude.{◌≡◌, ◌++◌, ◌∷◌, [], ⊤, ℕ, List, false, Ok, Err, None, Some, length}
use Rattle.policy_notes.specs.Notes.{AreNotes}
use Rattle.policy_notes.specs.declared.notes.Notes.{Notes}
use Rattle.policy_text.specs.reload.Fault.{fault_line, is_memory}
use Rattle.policy_text.specs.reload.Reload.{prepared}
use Rattle.policy_text.specs.declared.reload.fault.ReloadFault.{ReloadFault}
use Rattle.server.specs.declared.policy_source.Next.{Next}
use Rattle.server.specs.declared.policy_source.Next.TheVariants as next
use Rattle.server.specs.declared.reloads.reading.NextPolicy.{NextPolicy}
use Rattle.server.specs.declared.reloads.reading.NextPolicy.TheVariants as policy

-- a text is refused for its first fault, which the line tells; unless memory was lacking
pub record IsRefusal (text : List ℕ) (fault : ReloadFault) (line : List ℕ) (notes : Notes) : Type 0 where
  pub first : is_memory fault ≡ false → prepared text ≡ Err fault
  pub told : line ≡ fault_line fault ++ 10 ∷ []
  pub noted : AreNotes text (Some fault) notes

-- A text is made ready as the policy that it has, or is refused for its first fault.
abbrev pub IsOfText : List ℕ → NextPolicy → Type 0
IsOfText text (policy.Ready ready notes bytes) = (prepared text ≡ Ok ready) × AreNotes text None notes × (bytes ≡ length text)
IsOfText text (policy.Refused line notes) = (fault : ReloadFault) × IsRefusal text fault line.items notes
IsOfText text policy.Later = ⊥
IsOfText text policy.End = ⊥
IsOfText text policy.Bad = ⊥
IsOfText text policy.NoMemory = ⊤

-- what came of the input comes to this
abbrev pub IsNext : Next → NextPolicy → Type 0
IsNext (next.Text text) found = IsOfText text.items found
IsNext next.Later found = found ≡ policy.Later
IsNext next.End found = found ≡ policy.End
IsNext next.Bad found = found ≡ policy.Bad
IsNext next.NoMemory found = found ≡ policy.NoMemory
