-- a writer's text of one token
use Rattle.std.proofs.Common.{◌≡◌, ◌∙◌, ◌++◌, List, ℕ, [], ◌∷◌, ap}
use Rattle.json.specs.Print.{print}
use Rattle.json.specs.Token.{Token, string}
use Rattle.policy_notes.proofs.Quotes.{one_text}
use Rattle.policy_notes.proofs.place.quoted.Goals as goal

pub returns-in-Ok : goal.returns-in-Ok
returns-in-Ok c =
    let before : c.string.new.self.before ≡ [] = c.in_ok-string.ensures.room.0 ∙ c.new-out.ensures.before ∙ c.new.ensures.items in
    let tokens : c.string.new.self.tokens ≡ string c.args.text.now ∷ [] = c.in_ok-string.ensures.ok ∙ ap (λ (ts : List Token). ts ++ string c.args.text.now ∷ []) c.new-out.ensures.tokens in
    let printed : c.into_inner.result.items ≡ [] ++ print (string c.args.text.now ∷ []) = c.into_inner.ensures.items ∙ (λ i. before i ++ print (tokens i)) in
    ap (λ v. v.items) c.in-Ok.ensures.ok ∙ printed ∙ one_text c.args.text.now
