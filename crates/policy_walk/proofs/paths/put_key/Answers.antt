use Rattle.std.proofs.Common.{◌≡◌, List, [], ◌∷◌, ◌++◌, map, encode_utf8, string_bytes, refl, sym, ap, ◌∙◌}
use Rattle.std.proofs.lemmas.Iterator.{YieldsList-from_chars}
use Rattle.std.proofs.lemmas.Iterator.Consumers.{YieldsList-end}
use Rattle.std.proofs.lemmas.Str.{encodes-chars}
use Rattle.std.specs.Str.{encode_utf8_all}
use Rattle.policy_walk.specs.Path.{printed_key}
use Rattle.policy_walk.proofs.Printed.{one_more}
use Rattle.policy_walk.proofs.paths.put_key.Goals as goal

same : {X : Type 0} (xs : List X) → map (λ x. x) xs ≡ xs
same [] = refl
same (x ∷ xs) = ap (λ ys. x ∷ ys) (same xs)

pub loop-letter-preserved : goal.loop-letter-preserved
loop-letter-preserved c =
    c.in_ok-put_char.ensures ∙ ap (λ bs. bs ++ printed_key (encode_utf8 c.in-Some.letter)) c.loop-letter.invariant ∙ one_more (string_bytes c.args.out.now) c.loop-letter.yielded c.in-Some.letter

pub returns : goal.returns
returns c =
    let t = YieldsList-end (YieldsList-from_chars c.args.key.now c.utf8.key cc) c.loop-letter.yielded _ c.loop-letter.yielded_by _ _ c.in-None.is c.next.ensures.steps in
    let all : encode_utf8_all c.loop-letter.yielded ≡ c.args.key.now = ap encode_utf8_all (sym (same c.loop-letter.yielded) ∙ t.0) ∙ encodes-chars c.args.key.now c.utf8.key in
    c.loop-letter.invariant ∙ ap (λ bs. string_bytes c.args.out.now ++ printed_key bs) all
