-- An account without a tree has no pair to be found.
use Rattle.std.proofs.Common.{◌≡◌, ◌==◌, ◌&&◌, ℕ, false, true≢false, List, [], ◌∷◌, refl, sym, ◌∙◌}
use Rattle.std.proofs.lemmas.Bool.{eq-eqb, or_left}
use Rattle.subjects.specs.Subject.{Token}
use Rattle.sublist.specs.Tree.{same_path}
use Rattle.sublist.specs.Pairs.{Pairs, listed, matching_ids}
use Rattle.sublist.proofs.Index.{same_path-itself}

pub none_found : (listing : Pairs) (s : List Token) → ((p : List Token) (i : ℕ) → false ≡ listed listing p i) → [] ≡ matching_ids listing s
none_found [] s none = refl
none_found ((j, q) ∷ listing) s none =
    absurd (true≢false (sym (none q j ∙ or_left (j == j && same_path q q) (listed listing q j) (rw (eq-eqb j j refl) (same_path-itself q)))))
