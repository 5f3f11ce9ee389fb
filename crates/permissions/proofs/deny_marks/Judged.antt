-- A delivery is judged by the marks alone.
use Rattle.std.proofs.Common.{◌≡◌, ◌∙◌, ◌&&◌, ◌+◌, ◌∷◌, ◌++◌, ℕ, suc, zero, Bool, true, false, cond, not, List, [], length, Option, Some, None, nat_lt, position, nat_le, refl, sym, ap, arith}
use Rattle.std.specs.List.{find, position_or_len, slice_get}
use Rattle.std.specs.Option.{option_map}
use Rattle.std.proofs.lemmas.Bool.Decides.{nat_tests}
use Rattle.subjects.specs.Subject.{Token, in_set, overlaps}
use Rattle.subjects.proofs.Sharing.{overlaps_complete}
use Rattle.permissions.specs.Lists.{Entry, Lists, Queue, is_for}
use Rattle.permissions.specs.Verdicts.{unless_denied, delivery_verdict, is_allowed}
use Rattle.permissions.specs.declared.verdict.By.TheVariants.{All as AllowsAll}
use Rattle.permissions.specs.declared.verdict.Verdict.TheVariants.{Allowed}
use Rattle.permissions.specs.deny_marks.Marks.{is_marked, index_if, marks_from, marks_of, has_subject, has_at, verdict_by, JudgedByMarks, AreFor, kept, with_index, lets_through, is_short, admits_by}
use Rattle.permissions.specs.declared.deny_marks.marks.Marks.{Marks}
use Rattle.permissions.specs.declared.deny_marks.marks.Marks.TheVariants.{Unmarked, One, Several}

-- ---- the first index

first_in : (later here : Bool) (m n : ℕ) → nat_lt m n ≡ later → cond (nat_lt (cond (not here) (1 + m) 0) (suc n)) (Some (cond (not here) (1 + m) 0)) None ≡ cond here (Some 0) (option_map suc (cond later (Some m) None))
first_in later true m n is =
    let some : nat_lt 0 (suc n) ≡ true = grind (arith, nat_tests) in
    ap (λ b. cond b (Some 0) None) some
first_in true false m n is =
    let below : nat_lt (1 + m) (suc n) ≡ true = grind (arith, nat_tests, is) in
    let same : 1 + m ≡ suc m = omega arith in
    ap (λ b. cond b (Some (1 + m)) None) below ∙ ap Some same
first_in false false m n is =
    let past : nat_lt (1 + m) (suc n) ≡ false = grind (arith, nat_tests, is) in
    ap (λ b. cond b (Some (1 + m)) None) past

-- the first element passes, or the first of the others does
position_first : {X : Type 0} (test : X → Bool) (x : X) (xs : List X) → position test (x ∷ xs) ≡ cond (test x) (Some 0) (option_map suc (position test xs))
position_first test x xs = first_in (nat_lt (position_or_len test xs) (length xs)) (test x) (position_or_len test xs) (length xs) refl

-- ---- by index

-- the entries are those of all from a place on
abbrev AreFrom : List Entry → ℕ → List Entry → Type 0
AreFrom all first entries = (k : ℕ) → slice_get all (first + k) ≡ slice_get entries k

next_from : (all : List Entry) (first : ℕ) (e : Entry) (entries : List Entry) → AreFrom all first (e ∷ entries) → AreFrom all (first + 1) entries
next_from all first e entries from k = let same : first + 1 + k ≡ first + suc k = omega arith in ap (slice_get all) same ∙ from (suc k)

shifted : (first : ℕ) (o : Option ℕ) → option_map (λ i. first + 1 + i) o ≡ option_map (λ i. first + i) (option_map suc o)
shifted first None = refl
shifted first (Some i) = let same : first + 1 + i ≡ first + suc i = omega arith in ap Some same

found_next : (all : List Entry) (s : List Token) (first : ℕ) (marked has : Bool) (o : Option ℕ) (rest : List ℕ) → has_at all s first ≡ has → find (has_at all s) rest ≡ option_map (λ i. first + 1 + i) o →
    find (has_at all s) (index_if marked first ++ rest) ≡ option_map (λ i. first + i) (cond (marked && has) (Some 0) (option_map suc o))
found_next all s first true true o rest here later =
    let same : first ≡ first + 0 = omega arith in ap (λ b. cond b (Some first) (find (has_at all s) rest)) here ∙ ap Some same
found_next all s first true false o rest here later = ap (λ b. cond b (Some first) (find (has_at all s) rest)) here ∙ later ∙ shifted first o
found_next all s first false has o rest here later = later ∙ shifted first o

-- the least mark whose entry has a subject is the first of the marked entries that have it
found_from : (all : List Entry) (s : List Token) (test : Entry → Bool) (first : ℕ) (entries : List Entry) → AreFrom all first entries →
    find (has_at all s) (marks_from first test entries) ≡ option_map (λ i. first + i) (position (λ (e : Entry). test e && in_set e.subject s) entries)
found_from all s test first [] from = refl
found_from all s test first (e ∷ entries) from =
    let same : first ≡ first + 0 = omega arith in
    found_next all s first (test e) (in_set e.subject s) (position (λ (e : Entry). test e && in_set e.subject s) entries) (marks_from (first + 1) test entries)
    (ap (has_subject s) (ap (slice_get all) same ∙ from zero))
    (found_from all s test (first + 1) entries (next_from all first e entries from))
    ∙ ap (option_map (λ i. first + i)) (sym (position_first (λ (e : Entry). test e && in_set e.subject s) e entries))

from_zero : (o : Option ℕ) → option_map (λ i. 0 + i) o ≡ o
from_zero None = refl
from_zero (Some i) = let same : 0 + i ≡ i = omega arith in ap Some same

-- ---- a subject of the pattern

and_implied : (looked over has : Bool) → (has ≡ true → over ≡ true) → ((looked && over) && has) ≡ (looked && has)
and_implied true true has h = refl
and_implied true false true h = h refl
and_implied true false false h = refl
and_implied false over has h = refl

-- an entry that has a subject of the pattern overlaps the pattern
marked_has : (pattern s : List Token) (queue : Queue) → in_set pattern s ≡ true → (e : Entry) → (is_marked pattern queue e && in_set e.subject s) ≡ (is_for queue e && in_set e.subject s)
marked_has pattern s queue within e = and_implied (is_for queue e) (overlaps e.subject pattern) (in_set e.subject s) (λ has. overlaps_complete e.subject pattern s has within)

pub judged_by_marks : JudgedByMarks
judged_by_marks lists pattern s queue within =
    let deny = lists.subscribe.deny in
    let test : Entry → Bool = is_marked pattern queue in
    let same : (λ (e : Entry). test e && in_set e.subject s) ≡ (λ (e : Entry). is_for queue e && in_set e.subject s) = λ j e. marked_has pattern s queue within e j in
    let all : AreFrom deny 0 deny = λ k. let it : 0 + k ≡ k = omega arith in ap (slice_get deny) it in
    ap (λ o. unless_denied o (Allowed AllowsAll))
    (sym (found_from deny s test 0 deny all ∙ from_zero (position (λ (e : Entry). test e && in_set e.subject s) deny) ∙ ap (λ (p : Entry → Bool). position p deny) same))

-- ---- as they are kept

-- one that is marked is kept with the others
abbrev pub kept_with : Marks → List ℕ → Marks
kept_with Unmarked more = kept more
kept_with (One i) [] = One i
kept_with (One i) (j ∷ more) = Several
kept_with Several more = Several

pub one_more : (marks : Marks) (b : Bool) (i : ℕ) (rest : List ℕ) → kept_with (with_index marks b i) rest ≡ kept_with marks (index_if b i ++ rest)
one_more marks false i rest = refl
one_more Unmarked true i [] = refl
one_more Unmarked true i (j ∷ rest) = refl
one_more (One j) true i rest = refl
one_more Several true i rest = refl

-- a delivery is allowed that the entry of what is kept doesn't have
one_judges : (deny : List Entry) (s : List Token) (i : ℕ) → not (has_at deny s i) ≡ is_allowed (unless_denied (find (has_at deny s) (i ∷ [])) (Allowed AllowsAll))
one_judges deny s i = by (has_at deny s i)
  where
    by : (b : Bool) → not b ≡ is_allowed (unless_denied (let o : Option ℕ = cond b (Some i) None in o) (Allowed AllowsAll))
    by true = refl
    by false = refl

kept_judge : (lists : Lists) (s : List Token) (queue : Queue) (marks : List ℕ) → delivery_verdict lists s queue ≡ verdict_by marks lists s → lets_through (kept marks) lists s queue ≡ is_allowed (delivery_verdict lists s queue)
kept_judge lists s queue [] is = ap is_allowed (sym is)
kept_judge lists s queue (i ∷ []) is = one_judges lists.subscribe.deny s i ∙ ap is_allowed (sym is)
kept_judge lists s queue (i ∷ j ∷ marks) is = refl

pub marks_judge : (lists : Lists) (s : List Token) (queue : Queue) (marks : Marks) → AreFor lists s queue marks → admits_by marks lists s queue ≡ is_allowed (delivery_verdict lists s queue)
marks_judge lists s queue marks are = by (is_short lists) are.2
  where
    by : (b : Bool) → marks ≡ cond b (kept (marks_of lists are.0 queue)) Unmarked → cond b (lets_through marks lists s queue) (is_allowed (delivery_verdict lists s queue)) ≡ is_allowed (delivery_verdict lists s queue)
    by true same = ap (λ (m : Marks). lets_through m lists s queue) same ∙ kept_judge lists s queue (marks_of lists are.0 queue) (judged_by_marks lists are.0 s queue are.1)
    by false same = refl

-- where there is no deny entry, any marks let a message through
pub none_denied : (marks : Marks) (lists : Lists) (s : List Token) (queue : Queue) → lists.subscribe.deny ≡ [] → admits_by marks lists s queue ≡ true
none_denied marks lists s queue none = ap (λ b. cond b (lets_through marks lists s queue) (is_allowed (delivery_verdict lists s queue))) (ap (λ (entries : List Entry). nat_le (length entries) 8) none) ∙ by marks
  where
    by : (marks : Marks) → lets_through marks lists s queue ≡ true
    by Unmarked = refl
    by (One i) = ap (λ (entries : List Entry). not (has_at entries s i)) none
    by Several = ap (λ (entries : List Entry). is_allowed (unless_denied (position (λ (e : Entry). is_for queue e && in_set e.subject s) entries) (Allowed AllowsAll))) none
