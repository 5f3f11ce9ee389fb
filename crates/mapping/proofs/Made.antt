-- What `Mapping::of` asks for, of each way to make a mapping, and what `forward` and `back` answer by the pairs.
use Rattle.std.proofs.Common.{◌≡◌, ◌<◌, ◌∙◌, ◌++◌, ◌||◌, ℕ, Bool, true, false, not, List, [], ◌∷◌, Option, None, Result, length, refl, sym, ap, subst, arith}
use Rattle.std.specs.List.{list_all}
use Rattle.std.proofs.lemmas.Bool.{and_parts}
use Rattle.std.proofs.lemmas.List.FromFn.{length-range_with_len}
use Rattle.subjects.specs.Subject.{Token, is_star, is_tail, is_token, is_wildcard, is_literal, IsPattern, IsSubject, tokens_of}
use Rattle.mapping.specs.Pairs.{RowMap, IsRowMap, IsPair, IsMapped, IsSide, carried, forward, back, count_stars, has_tail, has_repeat, refers_to_each}
use Rattle.subjects.proofs.Text.{tokens_from_literals}
use Rattle.mapping.specs.templates.Template.{local_of, local_token, references_of}
use Rattle.mapping.specs.templates.Text.{with_tokens}
use Rattle.mapping.proofs.templates.Patterns.{grammar}
use Rattle.mapping.proofs.templates.Stars.{stars-same}
use Rattle.mapping.proofs.Orders.{each-range, once-range}
use Rattle.mapping.proofs.Pairs.{concrete_parts, fit_forward, fit_back, forward_pairs, back_pairs, by_pairs}
use Rattle.mapping.specs.declared.error.MapError.{MapError}
use Rattle.mapping.specs.Sides.{row_map, AreOf, AreSides}
use Rattle.mapping.specs.declared.side.Side.{Side}
use Rattle.mapping.proofs.Carries.{concrete}
use Rattle.mapping.proofs.Texts.{with-append, with-tokens_of, tokens-append}
use Rattle.mapping.proofs.templates.Parts.{fits, spelled-pattern, tokens-local, tail-local, stars-local}
use Rattle.mapping.specs.Fault.{in_order, templated, template_fault}
use Rattle.std.specs.Prelude.{nat_lt}
use Rattle.subjects.specs.Fault.{pattern_fault}
use Rattle.mapping.specs.templates.Fault.{is_spelled}
use Rattle.std.proofs.lemmas.List.{length-map, length-append}

no_wildcard : (t : Token) → is_literal t ≡ true → (is_star t ≡ false) × (is_tail t ≡ false)
no_wildcard t h = by (is_star t) (is_tail t) (and_parts (is_token t) (not (is_wildcard t)) h).1
  where
    by : (s b : Bool) → not (s || b) ≡ true → (s ≡ false) × (b ≡ false)
    by true b e = absurd (cc)
    by false true e = absurd (cc)
    by false false e = (refl, refl)

prefix_tail : (prefix pattern : List Token) → list_all is_literal prefix ≡ true → has_tail (prefix ++ pattern) ≡ has_tail pattern
prefix_tail [] pattern h = refl
prefix_tail (t ∷ prefix) pattern h =
    let parts = and_parts (is_literal t) (list_all is_literal prefix) h in
    rw ((no_wildcard t parts.0).1, prefix_tail prefix pattern parts.1) refl

prefix_stars : (prefix pattern : List Token) → list_all is_literal prefix ≡ true → count_stars (prefix ++ pattern) ≡ count_stars pattern
prefix_stars [] pattern h = refl
prefix_stars (t ∷ prefix) pattern h =
    let parts = and_parts (is_literal t) (list_all is_literal prefix) h in
    stars-same t (prefix ++ pattern) (no_wildcard t parts.0).0 ∙ prefix_stars prefix pattern parts.1

pub tails_prefixed : (prefix pattern : List Token) → IsSubject prefix → has_tail (prefix ++ pattern) ≡ has_tail pattern
tails_prefixed prefix pattern h = prefix_tail prefix pattern (concrete_parts prefix (concrete prefix h)).1

pub stars_prefixed : (prefix pattern : List Token) → IsSubject prefix → count_stars (prefix ++ pattern) ≡ count_stars pattern
stars_prefixed prefix pattern h = prefix_stars prefix pattern (concrete_parts prefix (concrete prefix h)).1

-- the wildcards in order are each once there
pub stars_kept : (outer local : List Token) (references : List ℕ) → count_stars local ≡ count_stars outer → references ≡ in_order outer → count_stars local ≡ length references
stars_kept outer local references e r = e ∙ sym (ap (λ (ns : List ℕ). length ns) r ∙ length-range_with_len 1 (count_stars outer))

pub each_kept : (outer : List Token) (references : List ℕ) → references ≡ in_order outer → refers_to_each (count_stars outer) references ≡ true
each_kept outer references r = ap (refers_to_each (count_stars outer)) r ∙ each-range (count_stars outer)

pub once_kept : (outer : List Token) (references : List ℕ) → references ≡ in_order outer → has_repeat references ≡ false
once_kept outer references r = ap has_repeat r ∙ once-range 1 (count_stars outer)

-- the text of a prefix and a pattern has the tokens of both
pub prefixed_tokens : (prefix pattern : List Token) (text front : List ℕ) → IsSubject prefix → IsPattern pattern → front ≡ with_tokens [] prefix → text ≡ with_tokens front pattern →
    tokens_of text ≡ prefix ++ pattern
prefixed_tokens prefix pattern text front h k a b =
    let parts = concrete_parts prefix (concrete prefix h) in
    let tokens = tokens-append prefix pattern (tokens_from_literals prefix parts.1) (grammar pattern k).tokens in
    ap tokens_of (b ∙ ap (λ xs. with_tokens xs pattern) a ∙ with-append [] prefix pattern)
    ∙ with-tokens_of (prefix ++ pattern) tokens (omega (arith, parts.0, length-append prefix pattern))

some : (ts : List Token) → IsPattern ts → 0 < length ts
some [] h = absurd (cc)
some (t ∷ ts) h = omega arith

-- the text of a template's local pattern has its tokens
pub local_tokens : (template text : List ℕ) → is_spelled (pattern_fault template) ≡ true → nat_lt 512 (length (tokens_of template)) ≡ false →
    text ≡ with_tokens [] (local_of (tokens_of template)) → tokens_of text ≡ local_of (tokens_of template)
local_tokens template text spelled few e =
    let h = spelled-pattern template spelled few in
    let more : 0 < length (local_of (tokens_of template)) = omega (arith, some (tokens_of template) h, length-map (tokens_of template) local_token) in
    ap tokens_of e ∙ with-tokens_of (local_of (tokens_of template)) (tokens-local (tokens_of template) (grammar (tokens_of template) h).tokens) more

-- the sides of a mapping are sides in either direction
pub sides_forward : (outer local : Side) → IsRowMap (row_map outer local) → AreOf outer local → AreSides outer local
sides_forward outer local h a =
    let f = fit_forward (row_map outer local) h in
    record { from_pattern = f.from_pattern; to_pattern = f.to_pattern; tails = f.tails; stars = f.stars; within = f.within; most = a.outer_most }

pub sides_back : (outer local : Side) → IsRowMap (row_map outer local) → AreOf outer local → AreSides local outer
sides_back outer local h a =
    let f = fit_back (row_map outer local) h in
    record { from_pattern = f.from_pattern; to_pattern = f.to_pattern; tails = f.tails; stars = rw (a.inverse) f.stars; within = rw (a.inverse) f.within; most = a.local_most }

-- what is carried to either side is the other side of a pair
pub pairs_forward : (outer local : Side) (s : List Token) (answer : Result (Option (List Token)) MapError) → IsRowMap (row_map outer local) → IsSubject s →
    IsMapped (carried outer.pattern local.pattern local.references.items s) answer → IsSide (IsPair (row_map outer local) s) answer
pairs_forward outer local s answer h k e =
    by_pairs (IsPair (row_map outer local) s) (forward (row_map outer local) s) answer (λ t. forward_pairs (row_map outer local) h s t (concrete s k)) e

pub mapped_back : (outer local : Side) (t : List Token) (answer : Result (Option (List Token)) MapError) → AreOf outer local →
    IsMapped (carried local.pattern outer.pattern outer.references.items t) answer → IsMapped (back (row_map outer local) t) answer
mapped_back outer local t answer a e = subst (λ ns. IsMapped (carried local.pattern outer.pattern ns t) answer) a.inverse e

pub pairs_back : (outer local : Side) (t : List Token) (answer : Result (Option (List Token)) MapError) → IsRowMap (row_map outer local) → AreOf outer local → IsSubject t →
    IsMapped (carried local.pattern outer.pattern outer.references.items t) answer → IsSide (λ s. IsPair (row_map outer local) s t) answer
pairs_back outer local t answer h a k e =
    by_pairs (λ s. IsPair (row_map outer local) s t) (back (row_map outer local) t) answer (λ s. back_pairs (row_map outer local) h s t (concrete t k)) (mapped_back outer local t answer a e)

-- what holds of a template's text and its local pattern
pub templated_spelled : (pattern : List Token) (template : List ℕ) → template_fault pattern template ≡ None →
    (is_spelled (pattern_fault template) ≡ true) × (nat_lt 512 (length (tokens_of template)) ≡ false)
templated_spelled pattern template f = let fit = fits pattern template f in (fit.spelled, fit.few)

pub templated_tails : (pattern : List Token) (template : List ℕ) (local : List Token) → template_fault pattern template ≡ None →
    local ≡ local_of (tokens_of template) → has_tail local ≡ has_tail pattern
templated_tails pattern template local f e = ap has_tail e ∙ tail-local (tokens_of template) ∙ (fits pattern template f).tails

pub templated_stars : (template : List ℕ) (local : List Token) (references : List ℕ) → local ≡ local_of (tokens_of template) →
    references ≡ references_of (tokens_of template) → count_stars local ≡ length references
templated_stars template local references e r = ap count_stars e ∙ stars-local 1 (tokens_of template) ∙ ap (λ (ns : List ℕ). length ns) (sym r)

pub templated_each : (pattern : List Token) (template references : List ℕ) → template_fault pattern template ≡ None →
    references ≡ references_of (tokens_of template) → refers_to_each (count_stars pattern) references ≡ true
templated_each pattern template references f r = ap (refers_to_each (count_stars pattern)) r ∙ (fits pattern template f).each

pub templated_once : (pattern : List Token) (template references : List ℕ) → template_fault pattern template ≡ None →
    references ≡ references_of (tokens_of template) → has_repeat references ≡ false
templated_once pattern template references f r = ap has_repeat r ∙ (fits pattern template f).once

abbrev pub row : List Token → List Token → List ℕ → RowMap
row outer local references = record { outer = outer; local = local; references = references }

pub templated_is : (pattern : List Token) (template : List ℕ) (local : List Token) (references : List ℕ) → local ≡ local_of (tokens_of template) →
    references ≡ references_of (tokens_of template) → row pattern local references ≡ templated pattern (tokens_of template)
templated_is pattern template local references e r = ap (λ ts. row pattern ts references) e ∙ ap (row pattern (local_of (tokens_of template))) r
