-- Reasons, and which of them has all questions of another.
use Rattle.std.specs.Prelude.{◌≡◌, ◌<◌, ◌&&◌, ◌||◌, ⊤, ℕ, Bool, true, false, List, length, nat_lt, not, Option, Some, None}
use Rattle.std.specs.List.{list_any, slice_index_or}
use Rattle.subjects.specs.Subject.{Token, covers, in_set, tokens_of, IsSubject}
use Rattle.subjects.specs.pattern_groups.Links.{IsLeast}
use Rattle.pattern_sets.specs.declared.search.Asked.{Asked}
use Rattle.pattern_sets.specs.declared.search.Reason.{Reason}

abbrev pub subject_of : Reason → List Token
subject_of reason = reason.subject.now

-- whatever is of one reason is of another
abbrev pub is_within : Reason → Reason → Bool
is_within narrow wide = covers wide.subject.now narrow.subject.now && covers wide.queue.now narrow.queue.now

-- one of these reasons has all of another, or none has
abbrev pub IsCovered : List Reason → Reason → Bool → Type 0
IsCovered reasons reason true = (i : ℕ) × (i < length reasons) × (is_within reason (slice_index_or reasons i reason) ≡ true)
IsCovered reasons reason false = (i : ℕ) → i < length reasons → is_within reason (slice_index_or reasons i reason) ≡ false

-- the least index of a reason that has all of another, or none has
abbrev pub IsFirstCover : List Reason → Reason → Option ℕ → Type 0
IsFirstCover reasons reason None = (i : ℕ) → i < length reasons → is_within reason (slice_index_or reasons i reason) ≡ false
IsFirstCover reasons reason (Some least) =
    (least < length reasons)
    × (is_within reason (slice_index_or reasons least reason) ≡ true)
    × ((i : ℕ) → i < least → is_within reason (slice_index_or reasons i reason) ≡ false)

-- the reason at an index has all of another, which stands behind it or has less
abbrev pub has_all : ℕ → Reason → ℕ → Reason → Bool
has_all at reason i other = is_within reason other && (nat_lt i at || not (is_within other reason))

-- the first of a list that has all of the reason at an index so, if one does
abbrev pub IsFirstWider : ℕ → List Reason → Reason → Option ℕ → Type 0
IsFirstWider at reasons reason found = IsLeast (λ i. has_all at reason i (slice_index_or reasons i reason)) (length reasons) found

-- what is found is judged to differ
abbrev pub IsFound : (List Token → Option (List Token) → Bool) → Option Asked → Type 0
IsFound differs None = ⊤
IsFound differs (Some asked) = differs (tokens_of asked.subject.items) asked.queue ≡ true

-- a subject of some patterns, and of none of others
abbrev pub is_member : {P : Type 0} → (P → List Token) → List P → List P → List Token → Bool
is_member of patterns less subject = list_any (λ p. in_set (of p) subject) patterns && not (list_any (λ p. in_set (of p) subject) less)

-- a subject of one set that isn't one of another
abbrev pub is_between : {P : Type 0} → (P → List Token) → List P → List P → List P → List P → List Token → Bool
is_between of patterns less others others_less asked = is_member of patterns less asked && not (is_member of others others_less asked)

-- the text of a subject that the one set has and the other hasn't, with the fewest tokens; or the other has every subject of the one
abbrev pub IsDifference : {P : Type 0} → (P → List Token) → List P → List P → List P → List P → Option (List ℕ) → Type 0
IsDifference of patterns less others others_less None = (s : List Token) → IsSubject s → is_between of patterns less others others_less s ≡ false
IsDifference of patterns less others others_less (Some text) =
    IsSubject (tokens_of text)
    × (is_between of patterns less others others_less (tokens_of text) ≡ true)
    × ((s : List Token) → IsSubject s → length s < length (tokens_of text) → is_between of patterns less others others_less s ≡ false)

-- whether the other set has every subject of the one
abbrev pub HasNone : {P : Type 0} → (P → List Token) → List P → List P → List P → List P → Bool → Type 0
HasNone of patterns less others others_less true = (s : List Token) → IsSubject s → is_between of patterns less others others_less s ≡ false
HasNone of patterns less others others_less false = (s : List Token) × IsSubject s × (is_between of patterns less others others_less s ≡ true)
