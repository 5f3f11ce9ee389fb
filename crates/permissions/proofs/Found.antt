-- Entries found by the hashes of their patterns.
use Rattle.std.proofs.Common.{◌≡◌, ◌∙◌, ◌<◌, ◌≤◌, ◌&&◌, ℕ, Bool, true, false, nat_eq, refl, ◌||◌, ◌∷◌, List, [], length, map, ap, sym, subst, slice_index_or, arith}
use Rattle.std.proofs.lemmas.Bool.{and_parts}
use Rattle.std.proofs.lemmas.List.{get_or-map, get_or_default, length-map}
use Rattle.subjects.specs.Subject.{Token, in_set, covers, tokens_of, text_of, is_star, is_tail, same_token, IsPattern, IsSubject}
use Rattle.std.specs.Bool.{OnTrue}
use Rattle.std.specs.Cmp.Lexicographic.{pointwise}
use Rattle.std.proofs.lemmas.Slice.Eq.{bytes_eq-Decides}
use Rattle.subjects.proofs.Same.{same_token-itself}
use Rattle.subjects.proofs.Text.{pattern_again, again}
use Rattle.policy_doc.specs.permission_doc.Entries.{entry_of}
use Rattle.subjects.specs.pattern_groups.Links.{at}
use Rattle.subjects.specs.pattern_groups.Places.{AreLiteral, Hashed, PassesByHash, pattern_at, hash_at}
use Rattle.subjects.proofs.pattern_groups.Literal.{in_set-hash, covers-hash}
use Rattle.permissions.specs.Lists.{Entry, Queue}
use Rattle.permissions.specs.declared.decision.Among.{Among}
use Rattle.permissions.specs.Looked.{is_looked_at, has_whole}
use Rattle.permissions.specs.Indexes.{HasHashes, IsIndexOf, pattern_of}

pub as_many : (index : Hashed) (entries : List Entry) → IsIndexOf entries index → length index.hashes ≡ length entries
as_many index entries is = is.as_many ∙ length-map entries pattern_of

-- whatever entry has the whole of what is asked has one of its hashes
pub passes_by_hash : {X : Type 0} (is_within : List Token → X → Bool) (among : Among) (queue : Queue) (asked : X) (entries : List Entry) (index : Hashed) (text : List ℕ) → IsIndexOf entries index →
    ((entry : List Token) → is_within entry asked ≡ true → HasHashes entry (tokens_of text)) →
    PassesByHash (λ i. has_whole is_within among queue asked (slice_index_or entries i (entry_of []))) index (tokens_of text)
passes_by_hash is_within among queue asked entries index text is hashes j below passes =
    let e = slice_index_or entries j (entry_of []) in
    let inside : j < length entries = omega (arith, below, as_many index entries is) in
    let within : j < length (map pattern_of entries) = omega (arith, below, is.as_many) in
    let same : pattern_at (map pattern_of entries) j ≡ e.subject = get_or-map pattern_of entries j (entry_of []) [] inside in
    let its = is.each j within in
    let i = its.chosen.0 in
    let literal : AreLiteral its.places e.subject = subst (AreLiteral its.places) same its.literal in
    let hash : at index.hashes j ≡ hash_at its.places (tokens_of text) =
    its.hash_is ∙ ap (hash_at its.places) same ∙ hashes e.subject (and_parts (is_looked_at among queue e) (is_within e.subject asked) passes).1 its.places literal in (
      i,
      its.chosen.1,
      (λ before. absurd (omega (arith, before))),
      hash ∙ ap (λ places. hash_at places (tokens_of text)) (sym its.chosen.2 ∙ get_or_default index.choices i its.places 0 its.chosen.1),
    )

pub subject_hashes : (s : List Token) (text : List ℕ) → IsSubject s → text ≡ text_of s → (entry : List Token) → in_set entry s ≡ true → HasHashes entry (tokens_of text)
subject_hashes s text subject is entry has places literal =
    in_set-hash places entry s literal has ∙ ap (hash_at places) (sym (ap tokens_of is ∙ again s subject))

pub pattern_hashes : (p : List Token) (text : List ℕ) → IsPattern p → text ≡ text_of p → (entry : List Token) → covers entry p ≡ true → HasHashes entry (tokens_of text)
pattern_hashes p text pattern is entry has places literal =
    covers-hash places entry p literal has ∙ ap (hash_at places) (sym (ap tokens_of is ∙ pattern_again p pattern))

-- each subject is one of the pattern with its own tokens
itself : (s : List Token) → in_set s s ≡ true
itself [] = refl
itself (t ∷ ts) = by (is_tail t) (is_star t) (same_token t t) (in_set ts ts) (same_token-itself t) (itself ts)
  where
    by : (tail star same rest : Bool) → same ≡ true → rest ≡ true → (tail || ((star || same) && rest)) ≡ true
    by true star same rest e f = refl
    by false true same rest e f = f
    by false false true rest e f = f
    by false false false rest e f = absurd (cc)

pub same_text : (b : Bool) (entry s : List Token) (t u : List ℕ) → IsPattern entry → IsSubject s → t ≡ text_of entry → u ≡ text_of s → b ≡ pointwise nat_eq t u → OnTrue b (in_set entry s ≡ true)
same_text b entry s t u pattern subject te us is = by b refl
  where
    by : (c : Bool) → b ≡ c → OnTrue c (in_set entry s ≡ true)
    by false e = tt
    by true e =
        let same : text_of entry ≡ text_of s = sym te ∙ (bytes_eq-Decides t u).0 (sym is ∙ e) ∙ us in
        let tokens : entry ≡ s = sym (pattern_again entry pattern) ∙ ap tokens_of same ∙ again s subject in
        subst (λ q. in_set q s ≡ true) (sym tokens) (itself s)
