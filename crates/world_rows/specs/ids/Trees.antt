-- What the trees of the accounts hold: an account, a pattern and an id for each subscription.
use Rattle.std.specs.Prelude.{◌≡◌, ◌==◌, ◌&&◌, ◌||◌, not, ℕ, Bool, false, List}
use Rattle.subjects.specs.Subject.{Token, same_token}
use Rattle.sublist.specs.Tree.{same_path}
use Rattle.sublist.specs.Pairs as pairs
use Rattle.world_rows.specs.ids.Entries as entries
use Rattle.world_rows.specs.declared.ids.trees.Trees.{Trees}

-- whether the account's tree has the pair of this pattern and this id
abbrev pub holds : Trees → List ℕ → List Token → ℕ → Bool
holds trees account p id = entries.has_pair trees.by_account.entries account p id

-- they hold nothing
abbrev pub IsEmpty : Trees → Type 0
IsEmpty trees = (account : List ℕ) (p : List Token) (id : ℕ) → holds trees account p id ≡ false

-- the trees hold the same before and after
abbrev pub IsSame : Trees → Trees → Type 0
IsSame old new = (account : List ℕ) (p : List Token) (id : ℕ) → holds new account p id ≡ holds old account p id

-- they hold this account, pattern and id besides
abbrev pub IsWith : Trees → List ℕ → List Token → ℕ → Trees → Type 0
IsWith old account p id new = (a : List ℕ) (q : List Token) (i : ℕ) → holds new a q i ≡ (holds old a q i || (same_token account a && (id == i && same_path p q)))

-- they hold all but this account, pattern and id
abbrev pub IsWithout : Trees → List ℕ → List Token → ℕ → Trees → Type 0
IsWithout old account p id new = (a : List ℕ) (q : List Token) (i : ℕ) → holds new a q i ≡ (holds old a q i && not (same_token account a && (id == i && same_path p q)))

-- what they hold of an account are the pairs of the list, whose ids rise
abbrev pub IsIndexOf : pairs.Pairs → List ℕ → Trees → Type 0
IsIndexOf listing account trees = entries.IsIndexOf listing account trees.by_account.entries
