-- A text by itself, as a writer gives it.
use Rattle.std.proofs.Common.{◌≡◌, ◌++◌, ℕ, List, [], ◌∷◌}
use Rattle.std.proofs.lemmas.List.{append-nil}
use Rattle.json.specs.Print.{print, print_from, quoted}
use Rattle.json.specs.Token.{Token, string}

pub one_text : (text : List ℕ) → [] ++ print (string text ∷ []) ≡ quoted text
unfolding print_from
one_text text = append-nil (quoted text)
