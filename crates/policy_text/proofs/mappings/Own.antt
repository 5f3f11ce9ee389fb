-- Destinations are those of the source for which they were read.
use Rattle.std.proofs.Common.{◌≡◌, ℕ, suc, List, [], ◌∷◌, Option, Some, None, Ok, Err, refl, sym, ap, codes}
use Rattle.std.proofs.lemmas.List.Elements.{All-cons, All-nil, All-same}
use Rattle.serde_json.specs.Data.{Data, Items, no_items, item}
use Rattle.serde_json.specs.Find.{as_array, as_str, get}
use Rattle.subjects.specs.Subject.{Token}
use Rattle.account_mappings.specs.Drawing.{Share, AreOwn, share_of}
use Rattle.policy_walk.specs.Fault.{Read, ◌>>=◌}
use Rattle.policy_walk.specs.Object.{judged}
use Rattle.policy_walk.specs.Path.{Path, at_key, at_index}
use Rattle.policy_walk.specs.Lists.{each}
use Rattle.policy_text.specs.mappings.Mappings.{destination_rows, object_shares, share_at, shares_at, shares_by, template_at, template_from, text_shares, weight_under}

-- what was read in two parts was read in each
both_read : {A B : Type 0} (read : Read A) (f : A → Read B) (y : B) → (read >>= f) ≡ Ok y → (x : A) × (read ≡ Ok x) × (f x ≡ Ok y)
both_read (Ok x) f y e = (x, refl, e)
both_read (Err fault) f y e = absurd (cc)

abbrev ok : {X : Type 0} → X → Read X
ok x = Ok x

is_read : {X : Type 0} (x y : X) → ok x ≡ Ok y → x ≡ y
is_read x y e = cc

share_own : (source : List Token) (path : Path) (d : Data) (s : Share) → share_at source path d ≡ Ok s → s.source ≡ source
unfolding share_at
share_own source path d s e =
    let known = both_read (judged destination_rows path d) _ s e in
    let text = both_read (template_at source path d) _ s known.2 in
    let weight = both_read (weight_under (at_key path (codes "weight")) (get (codes "weight") d)) _ s text.2 in
    ap (λ (t : Share). t.source) (sym (is_read (share_of source text.0 weight.0) s weight.2))

-- destinations are those of a source
abbrev IsOf : List Token → Share → Type 0
IsOf source share = share.source ≡ source

one_own : (source : List Token) (s : Share) (ss : List Share) → s ∷ [] ≡ ss → s.source ≡ source → AreOwn source ss
one_own source s ss e own = All-same (IsOf source) ss (s ∷ []) (sym e) (All-cons (IsOf source) s [] own (All-nil (IsOf source)))

each_own : (source : List Token) (path : Path) (i : ℕ) (ds : Items) (ss : List Share) → each (share_at source) path i ds ≡ Ok ss → AreOwn source ss
each_own source path i no_items ss e = All-same (IsOf source) ss [] (sym (is_read [] ss e)) (All-nil (IsOf source))
each_own source path i (item d ds) ss e =
    let one = both_read (share_at source (at_index path i) d) _ ss e in
    let more = both_read (each (share_at source) path (suc i) ds) _ ss one.2 in
    All-same (IsOf source) ss (one.0 ∷ more.0) (sym (is_read (one.0 ∷ more.0) ss more.2))
    (All-cons (IsOf source) one.0 more.0 (share_own source (at_index path i) d one.0 one.1) (each_own source path (suc i) ds more.0 more.1))

by_own : (source : List Token) (path : Path) (d : Data) (text : Option (List ℕ)) (items : Option Items) (ss : List Share) → shares_by source path d text items ≡ Ok ss → AreOwn source ss
unfolding text_shares object_shares
by_own source path d (Some text) items ss e =
    let template = both_read (template_from source path text) _ ss e in
    one_own source (share_of source template.0 100) ss (is_read (share_of source template.0 100 ∷ []) ss template.2) refl
by_own source path d None (Some items) ss e = each_own source path 0 items ss e
by_own source path d None None ss e =
    let share = both_read (share_at source path d) _ ss e in
    one_own source share.0 ss (is_read (share.0 ∷ []) ss share.2) (share_own source path d share.0 share.1)

-- so are those that were read for it
pub are_own : (source : List Token) (path : Path) (d : Data) (ss : List Share) → shares_at source path d ≡ Ok ss → AreOwn source ss
are_own source path d ss e = by_own source path d (as_str d) (as_array d) ss e
