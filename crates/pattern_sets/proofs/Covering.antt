-- Reasons found by the hashes of their subjects.
use Rattle.std.proofs.Common.{◌≡◌, ◌∙◌, ◌<◌, ◌≤◌, ◌&&◌, ◌||◌, ℕ, Bool, true, false, nat_lt, not, List, [], length, map, ap, sym, refl, subst, Option, Some, None, slice_index_or, arith}
use Rattle.std.proofs.lemmas.Bool.{and_parts, lt-ltb}
use Rattle.std.proofs.lemmas.List.{get_or-map, get_or_default, length-map}
use Rattle.subjects.specs.Subject.{covers, tokens_of, text_of, IsPattern}
use Rattle.subjects.proofs.Text.{pattern_again}
use Rattle.subjects.proofs.pattern_groups.Literal.{covers-hash}
use Rattle.subjects.specs.pattern_groups.Links.{at, IsLeast}
use Rattle.subjects.specs.pattern_groups.Places.{AreLiteral, Hashed, IsIndexOf, PassesByHash, pattern_at, hash_at}
use Rattle.pattern_sets.specs.Judging.{has_all, is_within, subject_of, IsFirstCover, IsFirstWider}
use Rattle.pattern_sets.specs.declared.search.Reason.{Reason}

pub as_many : (index : Hashed) (reasons : List Reason) → IsIndexOf (map subject_of reasons) index → length index.hashes ≤ length reasons
as_many index reasons is = let same = is.as_many ∙ length-map reasons subject_of in omega (arith, same)

-- whatever reason has all of another has one of the hashes of its subject
within_by_hash : (reasons : List Reason) (reason : Reason) (index : Hashed) (text : List ℕ) → IsIndexOf (map subject_of reasons) index → IsPattern reason.subject.now → text ≡ text_of reason.subject.now →
    PassesByHash (λ i. is_within reason (slice_index_or reasons i reason)) index (tokens_of text)
within_by_hash reasons reason index text is pattern spelled j below passes =
    let e = slice_index_or reasons j reason in
    let many = as_many index reasons is in
    let inside : j < length reasons = omega (arith, below, many) in
    let within : j < length (map subject_of reasons) = omega (arith, below, is.as_many) in
    let same : pattern_at (map subject_of reasons) j ≡ e.subject.now = get_or-map subject_of reasons j reason [] inside in
    let its = is.each j within in
    let i = its.chosen.0 in
    let literal : AreLiteral its.places e.subject.now = subst (AreLiteral its.places) same its.literal in
    let covered = (and_parts (covers e.subject.now reason.subject.now) (covers e.queue.now reason.queue.now) passes).0 in
    let hash : at index.hashes j ≡ hash_at its.places (tokens_of text) =
    its.hash_is ∙ ap (hash_at its.places) same ∙ covers-hash its.places e.subject.now reason.subject.now literal covered
    ∙ ap (hash_at its.places) (sym (ap tokens_of spelled ∙ pattern_again reason.subject.now pattern)) in (
      i,
      its.chosen.1,
      (λ before. absurd (omega (arith, before))),
      hash ∙ ap (λ places. hash_at places (tokens_of text)) (sym its.chosen.2 ∙ get_or_default index.choices i its.places 0 its.chosen.1),
    )

-- whatever reason has all of another has one of the hashes of its subject
pub passes_by_hash : (at : ℕ) (reasons : List Reason) (reason : Reason) (index : Hashed) (text : List ℕ) → IsIndexOf (map subject_of reasons) index → IsPattern reason.subject.now →
    text ≡ text_of reason.subject.now → PassesByHash (λ i. has_all at reason i (slice_index_or reasons i reason)) index (tokens_of text)
passes_by_hash at reasons reason index text is pattern spelled j below passes =
    let other = slice_index_or reasons j reason in
    within_by_hash reasons reason index text is pattern spelled j below
    (and_parts (is_within reason other) (nat_lt j at || not (is_within other reason)) passes).0

-- the least by the index is the first of the list
pub is_first : (at : ℕ) (reasons : List Reason) (reason : Reason) (index : Hashed) (least : Option ℕ) → IsIndexOf (map subject_of reasons) index →
    IsLeast (λ i. has_all at reason i (slice_index_or reasons i reason)) (length index.hashes) least → IsFirstWider at reasons reason least
is_first at reasons reason index least is h =
    subst (λ n. IsLeast (λ i. has_all at reason i (slice_index_or reasons i reason)) n least) (is.as_many ∙ length-map reasons subject_of) h

-- where the reason's index is behind all, each that has all of it does so
has_all_of : (reasons : List Reason) (reason : Reason) (i : ℕ) → i < length reasons →
    has_all (length reasons) reason i (slice_index_or reasons i reason) ≡ is_within reason (slice_index_or reasons i reason)
has_all_of reasons reason i below = by (is_within reason (slice_index_or reasons i reason))
  where
    by : (within : Bool) → (within && (nat_lt i (length reasons) || not (is_within (slice_index_or reasons i reason) reason))) ≡ within
    by true = rw (lt-ltb i (length reasons) below) refl
    by false = refl

pub first_of_all : (reasons : List Reason) (reason : Reason) (least : Option ℕ) → IsFirstWider (length reasons) reasons reason least → IsFirstCover reasons reason least
first_of_all reasons reason None h = λ i below. sym (has_all_of reasons reason i below) ∙ h i below
first_of_all reasons reason (Some least) h = (
  h.0,
  sym (has_all_of reasons reason least h.0) ∙ h.1,
  λ i before. let below : i < length reasons = omega (arith, before, h.0) in sym (has_all_of reasons reason i below) ∙ h.2 i before,
)
