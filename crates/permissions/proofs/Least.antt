-- The first entry of a list that has what is asked.
use Rattle.std.proofs.Common.{◌≡◌, ◌<◌, inl, inr, ℕ, Bool, true, false, List, length, [], Option, Some, None, refl, arith}
use Rattle.std.specs.List.{position, position_or_len, slice_index_or}
use Rattle.std.proofs.lemmas.List.Sums.{position_or_len_is}
use Rattle.std.proofs.lemmas.Grind.{common_steps}
use Rattle.subjects.specs.Subject.{Token, Lacks}
use Rattle.policy_doc.specs.permission_doc.Entries.{entry_of}
use Rattle.permissions.specs.Lists.{Entry, is_plain, is_queued}
use Rattle.subjects.specs.pattern_groups.Links.{IsLeast as IsLeastPlace}
use Rattle.permissions.specs.Verdicts.{EachLacks, LacksSome, NoneCovers}

-- where the place is the length there is none
position-at_length : {X : Type 0} (test : X → Bool) (xs : List X) → position_or_len test xs ≡ length xs → None ≡ position test xs
position-at_length test xs at = grind (arith, common_steps)

position-at_place : {X : Type 0} (test : X → Bool) (xs : List X) (n : ℕ) → n < length xs → position_or_len test xs ≡ n → Some n ≡ position test xs
position-at_place test xs n within at = grind (arith, common_steps)

-- the least place that passes is the first
pub least_position : (test : Entry → Bool) (entries : List Entry) (o : Option ℕ) → IsLeastPlace (λ i. test (slice_index_or entries i (entry_of []))) (length entries) o → o ≡ position test entries
least_position test entries None none =
    position-at_length test entries
    (position_or_len_is test entries (length entries) (entry_of []) (omega arith) none (λ below. absurd (omega (arith, below))))
least_position test entries (Some i) least =
    position-at_place test entries i least.0
    (position_or_len_is test entries i (entry_of []) (omega (arith, least.0)) least.2 (λ _. least.1))

either_lacks : (pattern : List Token) (e : Entry) (queued : Bool) → is_queued e ≡ queued → LacksSome pattern is_queued e → LacksSome pattern is_plain e → Lacks e.subject pattern
either_lacks pattern e queued is (inr lacks) h = lacks
either_lacks pattern e queued is (inl not_queued) (inr lacks) = lacks
either_lacks pattern e true is (inl not_queued) (inl not_plain) = absurd (cc)
either_lacks pattern e false is (inl not_queued) (inl not_plain) = absurd (cc)

-- where no entry with a queue part covers a pattern, and no plain one does, each entry lacks a subject of it
pub each_lacks : (pattern : List Token) (entries : List Entry) → NoneCovers pattern is_queued entries → NoneCovers pattern is_plain entries → EachLacks (λ e. Lacks e.subject pattern) entries
each_lacks pattern entries queued plain k d below =
    either_lacks pattern (slice_index_or entries k d) (is_queued (slice_index_or entries k d)) refl (queued k d below) (plain k d below)
