-- The place of a path that was found.
use Rattle.std.proofs.Common.{◌≡◌, ◌∙◌, ℕ, List, Option, Some, None, refl, subst, sym}
use Rattle.std.specs.Prelude.{string_bytes}
use Rattle.command_line.specs.Question.{Word}
use Rattle.policy_notes.specs.Places.{IsToldOf}
use Rattle.policy_walk.specs.Path.{Path as Where}
use Rattle.explain.specs.places.Place.{IsPlaceAt}

pub nowhere : (text : List ℕ) (found path : Option Where) → found ≡ path → found ≡ None → IsPlaceAt text path None
nowhere text found path same none = subst (λ p. IsPlaceAt text p None) (sym none ∙ same) refl

pub somewhere : (text : List ℕ) (found path : Option Where) (p : Where) (told : Word) → found ≡ path → found ≡ Some p → IsToldOf text p (string_bytes told) → IsPlaceAt text path (Some told)
somewhere text found path p told same some h = subst (λ q. IsPlaceAt text q (Some told)) (sym some ∙ same) h
