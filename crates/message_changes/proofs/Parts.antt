-- The queue parts of entries, list by list.
use Rattle.std.proofs.Common.{◌≡◌, ◌∙◌, ◌++◌, ◌∷◌, [], List, Option, Some, None, ap, refl}
use Rattle.subjects.specs.Subject.{Token}
use Rattle.permissions.specs.Lists.{Entry}
use Rattle.message_changes.specs.Reasons.{parts_of, with_part}

with_more : (o : Option (List Token)) (ps qs : List (List Token)) → with_part o (ps ++ qs) ≡ with_part o ps ++ qs
with_more None ps qs = refl
with_more (Some p) ps qs = refl

pub parts_more : (xs ys : List Entry) → parts_of (xs ++ ys) ≡ parts_of xs ++ parts_of ys
parts_more [] ys = refl
parts_more (x ∷ xs) ys = ap (with_part x.queue) (parts_more xs ys) ∙ with_more x.queue (parts_of xs) (parts_of ys)
