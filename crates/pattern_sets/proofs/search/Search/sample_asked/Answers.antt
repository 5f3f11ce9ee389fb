use Rattle.std.proofs.Common.{◌≡◌, ◌∙◌, ap, sym, subst, length, map, List, ℕ, Bor, Some}
use Rattle.std.specs.Option.{option_map}
use Rattle.subjects.specs.Subject.{text_of}
use Rattle.pattern_sets.specs.Asking.{part_view, IsAlike}
use Rattle.pattern_sets.specs.Samples.{sample}
use Rattle.pattern_sets.proofs.Finding.{asked_by}
use Rattle.pattern_sets.proofs.Searching.{no_sample_of, one_sample_of, sample_long}
use Rattle.pattern_sets.proofs.search.Search.sample_asked.Goals as goal

pub returns-in-None-clause-alike : goal.returns-in-None-clause-alike
returns-in-None-clause-alike g c = λ none.
    let of = λ (t : Bor (List ℕ)). t.now in
    no_sample_of (g.J.Judges.differs c.args.judges.now) c.args.self.now (part_view c.args.one.now) (part_view c.args.other.now) (map of c.as_slice-some.result.now) (map of c.as_slice-others.result.now)
    (ap (map of) c.as_slice-some.ensures.value) (ap (map of) c.as_slice-others.ensures.value) (ap (option_map (λ t. t.items)) (sym c.in-None.is) ∙ c.in_ok-sample.ensures)

pub returns-in_ok-queue-in-Some-clause-found : goal.returns-in_ok-queue-in-Some-clause-found
returns-in_ok-queue-in-Some-clause-found g c =
    let of = λ (t : Bor (List ℕ)). t.now in
    let some : Some c.in-Some.text.items ≡ option_map text_of (sample c.args.self.now.token.now (part_view c.args.one.now).0 (part_view c.args.other.now).0) =
    ap (option_map (λ t. t.items)) (sym c.in-Some.is) ∙ c.in_ok-sample.ensures
    ∙ ap (λ (l : List (List ℕ)). option_map text_of (sample c.args.self.now.token.now l (map of c.as_slice-others.result.now))) (ap (map of) c.as_slice-some.ensures.value)
    ∙ ap (λ (l : List (List ℕ)). option_map text_of (sample c.args.self.now.token.now (part_view c.args.one.now).0 l)) (ap (map of) c.as_slice-others.ensures.value) in
    asked_by (g.J.Judges.differs c.args.judges.now) c.args.self.now.token.now (length (part_view c.args.one.now).0) c.as_slice-bytes.result.now c.in-Some.text.items c.in_ok-queue-in-Some.queue c.question_of-found.result
    c.as_slice-bytes.ensures.value c.in_ok-queue-in-Some.ensures.found c.question_of-found.ensures.same
    (sample_long c.args.self.now.token.now (part_view c.args.one.now).0 (part_view c.args.other.now).0 c.in-Some.text.items c.args.one.now.valid c.args.other.now.valid some)

pub returns-in_ok-queue-in-Some-clause-alike : goal.returns-in_ok-queue-in-Some-clause-alike
returns-in_ok-queue-in-Some-clause-alike g c = λ none.
    let of = λ (t : Bor (List ℕ)). t.now in
    let differs = g.J.Judges.differs c.args.judges.now in
    one_sample_of differs c.args.self.now (part_view c.args.one.now) (part_view c.args.other.now) (map of c.as_slice-some.result.now) (map of c.as_slice-others.result.now) c.in-Some.text.items
    (ap (map of) c.as_slice-some.ensures.value) (ap (map of) c.as_slice-others.ensures.value) (ap (option_map (λ t. t.items)) (sym c.in-Some.is) ∙ c.in_ok-sample.ensures)
    (subst (λ (t : List ℕ). IsAlike differs c.args.self.now.token.now c.args.self.now.most_of_queues c.args.one.now.queue.now c.args.other.now.queue.now t) c.as_slice-bytes.ensures.value
    (c.in_ok-queue-in-Some.ensures.alike (sym c.question_of-found.ensures.none ∙ none)))
