-- What the allow entries lack that are shown for a subscription.
use Rattle.std.proofs.Common.{◌≡◌, ◌∙◌, ◌⊎◌, inl, inr, ℕ, Bool, true, false, not, if◌then◌else◌, List, Option, Some, None, sym, refl, true≢false}
use Rattle.std.specs.Option.{option_map}
use Rattle.subjects.specs.Subject.{Token, Covers, IsPattern, covers, in_set, text_of}
use Rattle.subjects.specs.Outside.{IsOutside, one_stand_in, outside, sample, two_stand_ins}
use Rattle.subjects.proofs.Inclusion.{covers-Covers, covers_sound, sample_outside}
use Rattle.subjects.proofs.Missing.{first-meaning, second-meaning}
use Rattle.subjects.proofs.Samples.{member-sample, two-some}
use Rattle.explain.specs.Laws.{ShowsEach, ShowsOutside}
use Rattle.explain.specs.Reason.{is_looked_at}

-- the rule by its two tests
abbrev by_tests : Bool → Bool → List Token → List Token → Option (List Token)
by_tests one two s t = if not one then Some s else if not two then Some t else None

some_same : (x y : List ℕ) → Some x ≡ Some y → y ≡ x
some_same x y e = cc

text_is : (one two : Bool) (s t : List Token) (text : List ℕ) → option_map text_of (by_tests one two s t) ≡ Some text →
    ((one ≡ false) × (text ≡ text_of s)) ⊎ ((one ≡ true) × (two ≡ false) × (text ≡ text_of t))
text_is false two s t text e = inl (refl, some_same (text_of s) text e)
text_is true false s t text e = inr (refl, refl, some_same (text_of t) text e)
text_is true true s t text e = absurd (cc)

none_is : (one two : Bool) (s t : List Token) → option_map text_of (by_tests one two s t) ≡ None → (one ≡ true) × (two ≡ true)
none_is false two s t e = absurd (cc)
none_is true false s t e = absurd (cc)
none_is true true s t e = (refl, refl)

-- where the longer sample is missing, the pattern isn't covered; and where neither is, it is
uncovered : (q p : List Token) (b : Bool) → covers q p ≡ b → in_set q (sample two_stand_ins q p) ≡ false → covers q p ≡ false
uncovered q p true c out = absurd (true≢false (sym (covers_sound q p (sample two_stand_ins q p) c (member-sample two_stand_ins two-some q p)) ∙ out))
uncovered q p false c out = c

covered : (q p : List Token) (b : Bool) → covers q p ≡ b → in_set q (sample one_stand_in q p) ≡ true → in_set q (sample two_stand_ins q p) ≡ true → covers q p ≡ true
covered q p true c one two = c
covered q p false c one two = elim (sample_outside q p c) [ inl out ↦ absurd (true≢false (sym one ∙ out)) | inr out ↦ absurd (true≢false (sym two ∙ out)) ]

outside-text : (q p : List Token) (text : List ℕ) → IsPattern p → option_map text_of (outside q p) ≡ Some text → IsOutside q p text
outside-text q p text h e =
    elim (text_is (in_set q (sample one_stand_in q p)) (in_set q (sample two_stand_ins q p)) (sample one_stand_in q p) (sample two_stand_ins q p) text e) [
      | inl w ↦ first-meaning q p text h w.1 w.0
      | inr w ↦ second-meaning q p text h w.2 (uncovered q p (covers q p) refl w.1) w.0
    ]

outside-none : (q p : List Token) → IsPattern p → option_map text_of (outside q p) ≡ None → Covers q p
outside-none q p h e =
    let tests = none_is (in_set q (sample one_stand_in q p)) (in_set q (sample two_stand_ins q p)) (sample one_stand_in q p) (sample two_stand_ins q p) e in
    (covers-Covers q p h).0 (covered q p (covers q p) refl tests.0 tests.1)

looked : (b : Bool) (o : Option (List ℕ)) (text : List ℕ) → (if b then o else None) ≡ Some text → o ≡ Some text
looked true o text e = e
looked false o text e = absurd (cc)

skipped : (b : Bool) (o : Option (List ℕ)) → b ≡ true → (if b then o else None) ≡ None → o ≡ None
skipped true o is e = e
skipped false o is e = absurd (cc)

pub shows_outside : ShowsOutside
shows_outside pattern queue e text h shown = outside-text e.subject pattern text h (looked (is_looked_at queue e) (option_map text_of (outside e.subject pattern)) text shown)

pub shows_each : ShowsEach
shows_each pattern queue e h asked none = outside-none e.subject pattern h (skipped (is_looked_at queue e) (option_map text_of (outside e.subject pattern)) asked none)
