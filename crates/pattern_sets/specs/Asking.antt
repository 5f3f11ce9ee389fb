-- What a search asks: the samples of two reasons (docs/GUARANTEE.md, "Comparing sets of subjects").
use Rattle.std.specs.Prelude.{◌≡◌, ◌<◌, ◌+◌, ⊤, ℕ, Bool, true, false, List, length, map, Option, Some, None}
use Rattle.std.specs.List.{slice_index_or}
use Rattle.std.specs.Option.{option_map}
use Rattle.subjects.specs.Fault.{subject_if}
use Rattle.subjects.specs.Subject.{Token, IsSubject, is_token, text_of, tokens_of}
use Rattle.pattern_sets.specs.Laws.{sample_of}
use Rattle.pattern_sets.specs.Samples.{part, sample}
use Rattle.pattern_sets.specs.declared.part.Part.{Part}
use Rattle.pattern_sets.specs.declared.search.Allowing.{Allowing}
use Rattle.pattern_sets.specs.declared.search.Asked.{Asked}
use Rattle.pattern_sets.specs.declared.search.Reason.{Reason}
use Rattle.pattern_sets.specs.declared.search.Search.{Search}

-- whether a question, with a queue or without one, is judged to differ
abbrev pub Judging : Type 0
Judging = List Token → Option (List Token) → Bool

-- the sample of two patterns, of one length
abbrev pub common : Token → Bool → ℕ → List Token → List Token → Option (List Token)
common fresh has_tail n one other = sample_of fresh (part has_tail n one) (part has_tail n other)

-- the queue that a text is, if there is a text and it is one
abbrev pub subject_by : Option (List ℕ) → Option (List Token)
subject_by None = None
subject_by (Some text) = subject_if text

-- a queue that is asked about: none, or the sample of two patterns of one of so many lengths
abbrev pub IsQueue : Token → Option ℕ → List Token → List Token → Option (List Token) → Type 0
IsQueue fresh None one other None = ⊤
IsQueue fresh None one other (Some queue) = ⊥
IsQueue fresh (Some most) one other None = ⊥
IsQueue fresh (Some most) one other (Some queue) = (n : ℕ) × (n < most) × (common fresh false (n + 1) one other ≡ Some queue) × IsSubject queue

-- a text isn't judged to differ with the queue of so many tokens that is the sample of two patterns, nor with those up to so many
abbrev pub IsQueueAlike : Judging → Token → ℕ → List Token → List Token → List ℕ → Type 0
IsQueueAlike differs fresh n one other text = (queue : List Token) → common fresh false n one other ≡ Some queue → IsSubject queue → differs (tokens_of text) (Some queue) ≡ false

abbrev pub AreQueuesAlike : Judging → Token → ℕ → List Token → List Token → List ℕ → Type 0
AreQueuesAlike differs fresh most one other text = (n : ℕ) → n < most → IsQueueAlike differs fresh (n + 1) one other text

-- a text isn't judged to differ, with whatever queue it is asked
abbrev pub IsAlike : Judging → Token → Option ℕ → List Token → List Token → List ℕ → Type 0
IsAlike differs fresh most one other text = (queue : Option (List Token)) → IsQueue fresh most one other queue → differs (tokens_of text) queue ≡ false

-- nor is the sample of two parts, if there is one
abbrev pub IsAlikeIf : Judging → Token → Option ℕ → List Token → List Token → Option (List Token) → Type 0
IsAlikeIf differs fresh most one other None = ⊤
IsAlikeIf differs fresh most one other (Some subject) = IsAlike differs fresh most one other (text_of subject)

-- nor that of two reasons
abbrev pub AreAlike : Judging → Search → Bool → ℕ → Reason → Reason → Type 0
AreAlike differs search has_tail n one other =
    IsAlikeIf differs search.token.now search.most_of_queues one.queue.now other.queue.now (common search.token.now has_tail n one.subject.now other.subject.now)

-- Nor those of a reason to allow and the reasons that it reaches.
pub record IsAlikeWithin (differs : Judging) (search : Search) (has_tail : Bool) (n : ℕ) (one : Allowing) : Type 0 where
  pub each : (j : ℕ) (r : Reason) → j < length search.refusing.items → j < one.reach → AreAlike differs search has_tail n one.reason (slice_index_or search.refusing.items j r)

abbrev pub AllAlike : Judging → Search → Bool → ℕ → Type 0
AllAlike differs search has_tail n = (i : ℕ) (a : Allowing) → i < length search.allowing.items → IsAlikeWithin differs search has_tail n (slice_index_or search.allowing.items i a)

-- What is found is judged to differ, and has so many tokens.
pub record IsFoundAt (differs : Judging) (fresh : Token) (n : ℕ) (asked : Asked) : Type 0 where
  pub judged : differs (tokens_of asked.subject.items) asked.queue ≡ true
  pub length_is : is_token fresh ≡ true → 0 < n → length (tokens_of asked.subject.items) ≡ n

-- What is found is judged to differ, and no sample with fewer tokens is.
pub record IsFirst (differs : Judging) (search : Search) (has_tail : Bool) (asked : Asked) : Type 0 where
  pub before : ℕ
  pub is_asked : before < search.most
  pub found : IsFoundAt differs search.token.now (before + 1) asked
  pub fewest : (n : ℕ) → n < before → AllAlike differs search has_tail (n + 1)

-- what a search finds is judged to differ and has the fewest tokens, and where it finds nothing each sample is judged alike
abbrev pub IsExact : Judging → Search → Bool → Option Asked → Type 0
IsExact differs search has_tail None = (n : ℕ) → n < search.most → AllAlike differs search has_tail (n + 1)
IsExact differs search has_tail (Some asked) = IsFirst differs search has_tail asked

-- the part of a reason of one length, and its queue
abbrev pub reason_part : Bool → ℕ → Reason → Option (List Token × List Token)
reason_part has_tail n reason = option_map (λ tokens. (tokens, reason.queue.now)) (part has_tail n reason.subject.now)

abbrev pub part_view : Part → List Token × List Token
part_view p = (map (λ t. t.now) p.tokens.items, p.queue.now)

-- the samples of two parts
abbrev pub IsAlikePart : Judging → Search → List Token × List Token → Option (List Token × List Token) → Type 0
IsAlikePart differs search one None = ⊤
IsAlikePart differs search one (Some other) = IsAlikeIf differs search.token.now search.most_of_queues one.1 other.1 (sample search.token.now one.0 other.0)

abbrev pub AreAlikeParts : Judging → Search → List Token × List Token → List (Option Part) → Type 0
AreAlikeParts differs search one others = (j : ℕ) (d : Option Part) → j < length others →
    IsAlikePart differs search one (option_map part_view (slice_index_or others j d))
