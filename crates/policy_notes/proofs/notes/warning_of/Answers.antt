-- one part after the other
use Rattle.std.proofs.Common.{◌≡◌, ◌∙◌, ◌++◌, List, ℕ, [], ap, string_bytes}
use Rattle.std.specs.Prelude.{codes, decimal}
use Rattle.json.specs.Print.{quoted}
use Rattle.policy_notes.specs.positions.Place.{place_words}
use Rattle.policy_notes.specs.Notes.{key_of}
use Rattle.policy_notes.specs.Places.{place_of}
use Rattle.policy_notes.proofs.notes.warning_of.Goals as goal

pub returns : goal.returns
returns c =
    let text = c.args.text.now in
    let repeat = c.args.repeat.now in
    let key : string_bytes c.in_ok-key.key ≡ quoted (key_of repeat.name.now) = c.in_ok-key.ensures ∙ ap quoted c.key_of.ensures in
    let first : string_bytes c.in_ok-first.first ≡ place_words (place_of text repeat.first) =
    c.in_ok-first.ensures ∙ (λ i. codes "line " ++ decimal (c.place_at.ensures.line i) ++ codes " column " ++ decimal (c.place_at.ensures.column i)) in
    let again : string_bytes c.in_ok-again.again ≡ place_words (place_of text repeat.again) =
    c.in_ok-again.ensures ∙ (λ i. codes "line " ++ decimal (c.place_at-2.ensures.line i) ++ codes " column " ++ decimal (c.place_at-2.ensures.column i)) in
    let one : string_bytes c.in_ok-words.words ≡ codes "the key " ++ quoted (key_of repeat.name.now) =
    c.in_ok-words.ensures ∙ (λ i. (c.new.ensures.bytes i ++ codes "the key ") ++ (c.as_str.ensures.value ∙ key) i) in
    let two : string_bytes c.in_ok-words-2.words ≡ (codes "the key " ++ quoted (key_of repeat.name.now) ++ codes " stands twice in one object, at ") ++ place_words (place_of text repeat.first) =
    c.in_ok-words-2.ensures ∙ (λ i. (one i ++ codes " stands twice in one object, at ") ++ (c.as_str-2.ensures.value ∙ first) i) in
    let three : string_bytes c.in_ok-words-3.words ≡ (codes "the key " ++ quoted (key_of repeat.name.now) ++ codes " stands twice in one object, at " ++ place_words (place_of text repeat.first) ++ codes " and at ") ++ place_words (place_of text repeat.again) =
    c.in_ok-words-3.ensures ∙ (λ i. (two i ++ codes " and at ") ++ (c.as_str-3.ensures.value ∙ again) i) in
    c.in_ok-push_str.ensures.bytes ∙ ap (λ words. words ++ codes ": the last counts") three
